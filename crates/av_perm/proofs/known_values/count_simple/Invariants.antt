-- The simple words among those that came are counted, and the others are left.
use Rattle.std.proofs.Common.{◌≡◌, ◌++◌, length, filter}
use Rattle.av_perm.specs.Word.{words}
use Rattle.av_perm.specs.Simple.{is_simple}
use Rattle.av_perm.proofs.known_values.count_simple.Given as goal

abbrev pub invariant-loop-word : goal.invariant-loop-word
invariant-loop-word l = record {
  counted : l.count ≡ length (filter is_simple l.yielded);
  left : l.yielded ++ l.word-iterator ≡ words l.n;
}
