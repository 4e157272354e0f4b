-- An open box is cut by its cell.
use Rattle.std.proofs.Common.{Some, None, refl, sym, subst}
use Rattle.av_split.specs.Walk.{Advances}
use Rattle.av_split.proofs.splitting.advance.Goals as goal

pub returns-in_ok-enter-in-Asks : goal.returns-in_ok-enter-in-Asks
returns-in_ok-enter-in-Asks c =
    subst (λ s. Advances c.args.table.now s c.args.from c.args.path None (Some c.in_ok-enter-in-Asks.field-0)) (sym c.in-Asks.is) (refl, c.in_ok-enter-in-Asks.field-0, refl, c.in_ok-enter-in-Asks.ensures)
