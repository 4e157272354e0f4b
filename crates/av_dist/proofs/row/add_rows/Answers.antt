-- The products with one number more are added.
use Rattle.std.proofs.Common.{length, refl, arith}
use Rattle.av_dist.specs.Rows.{product}
use Rattle.av_dist.proofs.RowProducts.{product_before}
use Rattle.av_dist.proofs.AddedRows.{adds_none}
use Rattle.av_dist.proofs.AddedMultiples.{multiple_room, multiple_added, multiple_past}
use Rattle.av_dist.proofs.row.add_rows.Goals as goal
use Rattle.av_dist.proofs.row.add_rows.Goals.{then-k-len, else-k-len}

pub returns-then-from-len : goal.returns-then-from-len
returns-then-from-len c =
    let first = c.args.first.now in
    let second = c.args.second.now in
    adds_none (product (length first) c.args.from first second) c.args.numbers.now
    (λ v h. product_before (length first) c.args.from first second v (omega (arith, c.if-from-len.true)))

pub loop-k-init : goal.loop-k-init
loop-k-init c = adds_none (product 0 c.args.from c.args.first.now c.args.second.now) c.args.numbers.now (λ v h. refl)

pub add_multiple-requires : goal.add_multiple-requires
add_multiple-requires c =
    multiple_room c.args.numbers.now c.args.first.now c.args.second.now c.args.from c.loop-k.k c.loop-k.numbers c.loop-k-test.true c.requires c.loop-k.invariant

pub loop-k-preserved : goal.loop-k-preserved
loop-k-preserved c =
    let old = c.args.numbers.now in
    let first = c.args.first.now in
    let second = c.args.second.now in
    elim c.if-k-len.branch [
      | then-k-len w ↦
          rw w.numbers-is
          (multiple_added old first second c.args.from c.loop-k.k c.loop-k.numbers w.add_multiple.new.numbers c.loop-k.invariant w.add_multiple.ensures)
      | else-k-len w ↦ rw w.numbers-is (multiple_past old first second c.args.from c.loop-k.k c.loop-k.numbers c.loop-k.invariant (omega (arith, w.if-k-len.false)))
    ]
