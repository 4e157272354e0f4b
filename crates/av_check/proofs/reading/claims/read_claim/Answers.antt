-- Reading stops at the first line that isn't as demanded.
use Rattle.std.proofs.Common.{subst, ◌∙◌, arith}
use Rattle.av_text.proofs.Cuts.{lines_few}
use Rattle.av_check.specs.Reading.{StopsAtFault}
use Rattle.av_check.proofs.ClaimLines.{fault_number}
use Rattle.av_check.proofs.reading.claims.read_claim.Goals as goal

pub line_number-requires-clause-few : goal.line_number-requires-clause-few
line_number-requires-clause-few c = omega (arith, c.count_lines.ensures, lines_few c.args.bytes.now)

pub returns-in-Err-Here : goal.returns-in-Err-Here
returns-in-Err-Here c =
    let s = rw c.in-Err-Here.field-0-is at c.in-Err-Here.ensures in
    let n = c.line_number.ensures in (
      omega arith,
      fault_number _ c.told_claim.new.lines c.line_number.result (subst (λ all. StopsAtFault all c.told_claim.new.lines) c.new-lines.ensures s)
          (λ e. n.none (c.len.ensures ∙ e)) (λ h. omega (arith, n.some (omega (arith, c.len.ensures)), c.len.ensures, c.count_lines.ensures)),
    )
