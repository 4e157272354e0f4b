-- The line that is as it has to be is passed over.
use Rattle.std.proofs.Common.{refl}
use Rattle.av_check.proofs.NextLines.{passes_one}
use Rattle.av_check.proofs.reading.lines.pass_known.Goals as goal

pub returns-then-is_next : goal.returns-then-is_next
returns-then-is_next c = passes_one _ c.args.lines.now c.pass.new.self (c.if-is_next.ensures.0 refl) c.pass.ensures
