-- The law, as proved.
use Rattle.av_build.proofs.LeanForm.{lean_form_law}
use Rattle.av_build.proofs.laws.lean_form_law.Goals as goal

pub returns : goal.returns
returns c = lean_form_law
