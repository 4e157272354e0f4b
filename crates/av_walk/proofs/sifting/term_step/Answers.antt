-- The cell is one of the term's.
use Rattle.std.proofs.Common.{sym, subst, arith}
use Rattle.av_split.specs.Cells.{IsCellOf}
use Rattle.av_split.proofs.Walks.{item_in}
use Rattle.av_walk.proofs.sifting.term_step.Goals as goal

pub known_at-requires : goal.known_at-requires
known_at-requires c =
    subst (IsCellOf c.args.rows.now) (sym c.cell.ensures)
    (c.requires c.literal-item.result (item_in c.as_slice-literal-items.result.now c.args.term.now c.loop-literal.literal-index c.literal-item.result (omega (arith, c.loop-literal-test.true)) c.literal-item.is c.as_slice-literal-items.ensures))
