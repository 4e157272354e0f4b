-- The products with the numbers before the loop's are added.
use Rattle.av_dist.specs.Rows.{product, Adds}
use Rattle.av_dist.proofs.row.add_rows.Given as goal

abbrev pub invariant-loop-k : goal.invariant-loop-k
invariant-loop-k l = Adds (product l.k l.from l.first l.second) l.fn.numbers l.numbers
