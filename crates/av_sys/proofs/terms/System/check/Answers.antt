-- The check of a system is its test, and so tests what it says.
use Rattle.std.proofs.Common.{sym, ◌∙◌}
use Rattle.av_sys.proofs.FormTests.{well_formed_law}
use Rattle.av_sys.proofs.terms.System.check.Goals as goal

pub returns-clause-meaning : goal.returns-clause-meaning
returns-clause-meaning c = (
  λ t. (well_formed_law c.args.self.now).0 (sym c.is_well_formed.ensures ∙ t),
  λ h. c.is_well_formed.ensures ∙ (well_formed_law c.args.self.now).1 h,
)
