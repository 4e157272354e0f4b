-- The law of the form, of the canonical system of a name.
use Rattle.av_build.proofs.CanonicalForm.{form_from_law}
use Rattle.av_build.proofs.laws.form_from_law.Goals as goal

pub returns : goal.returns
returns c = form_from_law
