-- The words kept are the maximal ones among the words gone through; the list holds those handed out so far but the word 1.
use Rattle.std.proofs.Common.{◌≡◌, not, drop, filter, [], ◌∷◌}
use Rattle.av_perm.specs.Lists.{same}
use Rattle.av_perm.specs.Class.{in_shortlex}
use Rattle.av_match.proofs.Gathered.{is_maximal_of}
use Rattle.av_match.proofs.maximal_words.maximal.Given as goal

abbrev pub invariant-loop-i : goal.invariant-loop-i
invariant-loop-i l = l.kept.keys ≡ in_shortlex (filter (is_maximal_of l.words) (drop l.i l.words))

abbrev pub invariant-loop-word : goal.invariant-loop-word
invariant-loop-word l = l.maximal ≡ filter (λ w. not (same (1 ∷ []) w)) l.yielded
