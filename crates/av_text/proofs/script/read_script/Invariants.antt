-- The lines so far said what was heard, and the script is what comes of it and the lines that are left.
use Rattle.std.proofs.Common.{◌≡◌, ◌+◌, ◌≤◌, length}
use Rattle.av_text.specs.declared.limits.TheConstants.{MAX_SCRIPT_BYTES}
use Rattle.av_text.specs.Read.{read}
use Rattle.av_text.proofs.Reading.{read_on}
use Rattle.av_text.proofs.script.read_script.Given as goal

abbrev pub invariant-loop-line : goal.invariant-loop-line
invariant-loop-line l = record {
  read : read_on (l.number + 1) l.heard l.lines ≡ read l.bytes;
  few : l.number + length l.lines ≤ MAX_SCRIPT_BYTES;
}

abbrev pub decreases-loop-line : goal.decreases-loop-line
decreases-loop-line l = length l.lines
