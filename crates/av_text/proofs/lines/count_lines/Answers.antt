-- There are no more lines than bytes, so their number stays in range.
use Rattle.std.proofs.Common.{ap, length, arith}
use Rattle.av_text.proofs.Cuts.{lines_few}
use Rattle.av_text.proofs.lines.count_lines.Goals as goal

pub overflow_add-count : goal.overflow_add-count
overflow_add-count c = omega (arith, lines_few c.args.bytes.now, ap length c.in-Some.ensures, c.loop-line.invariant)
