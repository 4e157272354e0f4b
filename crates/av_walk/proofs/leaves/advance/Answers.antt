-- An open cell is cut.
use Rattle.std.proofs.Common.{Some, None, refl, sym, subst}
use Rattle.av_walk.specs.Ends.{Advances}
use Rattle.av_walk.proofs.leaves.advance.Goals as goal

pub returns-in_ok-enter-in-Cut : goal.returns-in_ok-enter-in-Cut
returns-in_ok-enter-in-Cut c =
    subst (λ s. Advances c.args.table.now s c.args.path None (Some c.in_ok-enter-in-Cut.field-0)) (sym c.in-Cut.is) (refl, c.in_ok-enter-in-Cut.field-0, refl, c.in_ok-enter-in-Cut.ensures)
