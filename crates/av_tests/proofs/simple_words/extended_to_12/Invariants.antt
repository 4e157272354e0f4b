-- The two lists are those of the two lengths below.
use Rattle.std.proofs.Common.{◌≡◌, ◌-◌}
use Rattle.av_perm.specs.Gap.{simples}
use Rattle.av_tests.proofs.simple_words.extended_to_12.Given as goal

abbrev pub invariant-loop-n : goal.invariant-loop-n
invariant-loop-n l = (l.two_below ≡ simples l.basis (l.n - 2)) × (l.one_below ≡ simples l.basis (l.n - 1))
