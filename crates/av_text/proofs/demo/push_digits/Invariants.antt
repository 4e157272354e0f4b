-- The digits of the entries before the loop's place were appended.
use Rattle.std.proofs.Common.{◌≡◌, ◌++◌, take}
use Rattle.av_text.specs.Demo.{digits_text}
use Rattle.av_text.proofs.demo.push_digits.Given as goal

abbrev pub invariant-loop-entry : goal.invariant-loop-entry
invariant-loop-entry l = l.text.items ≡ l.fn.text.items ++ digits_text (take l.entry-index l.entry-items)
