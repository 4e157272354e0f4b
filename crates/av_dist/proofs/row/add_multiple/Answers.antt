-- One number more is added, and in the end all that the numbers have room for.
use Rattle.std.proofs.Common.{◌+◌, ◌<◌, length, arith}
use Rattle.av_dist.proofs.AddedMultiples.{adds_first_none, adds_first_more, adds_first_all, next_number_fits, ends}
use Rattle.av_dist.proofs.row.add_multiple.Goals as goal

pub loop-i-init : goal.loop-i-init
loop-i-init c = adds_first_none c.args.numbers.now c.args.row.now c.args.from c.args.factor

pub overflow_mul-numbers : goal.overflow_mul-numbers
overflow_mul-numbers c =
    let within : c.args.from + c.loop-i.i < length c.args.numbers.now = omega (arith, c.min-count.ensures) in
    let fits = next_number_fits c.args.numbers.now c.args.row.now c.args.from c.args.factor c.loop-i.i c.loop-i.numbers c.requires c.loop-i.invariant within in
    omega arith

pub overflow_add-numbers-in-loop-i : goal.overflow_add-numbers-in-loop-i
overflow_add-numbers-in-loop-i c =
    let within : c.args.from + c.loop-i.i < length c.args.numbers.now = omega (arith, c.min-count.ensures) in
    let fits = next_number_fits c.args.numbers.now c.args.row.now c.args.from c.args.factor c.loop-i.i c.loop-i.numbers c.requires c.loop-i.invariant within in
    omega arith

pub loop-i-preserved : goal.loop-i-preserved
loop-i-preserved c =
    adds_first_more c.args.numbers.now c.args.row.now c.args.from c.args.factor c.loop-i.i c.loop-i.numbers c.loop-i.invariant (omega (arith, c.min-count.ensures))

pub returns : goal.returns
returns c =
    adds_first_all c.args.numbers.now c.args.row.now c.args.from c.args.factor c.loop-i.i c.loop-i.numbers c.loop-i.invariant
    (ends (length c.args.row.now) (length c.args.numbers.now) c.args.from c.min-count.result c.loop-i.i c.min-count.ensures c.loop-i-test.false c.if-from-len.false)
