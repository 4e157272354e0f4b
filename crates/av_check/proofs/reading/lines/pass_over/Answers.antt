-- The line that begins so is passed over.
use Rattle.std.proofs.Common.{refl}
use Rattle.av_check.proofs.NextLines.{passes_one}
use Rattle.av_check.proofs.reading.lines.pass_over.Goals as goal

pub returns-then-begins_next : goal.returns-then-begins_next
returns-then-begins_next c = passes_one _ c.args.lines.now c.pass.new.self (c.if-begins_next.ensures.0 refl) c.pass.ensures
