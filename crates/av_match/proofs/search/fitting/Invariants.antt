-- The window holds entries that lie to each of those seen as the pattern's next entry does, and each with which an occurrence
-- goes on.
use Rattle.std.proofs.Common.{ℕ, ◌<◌, ◌≤◌, List, ◌∷◌, ◌++◌}
use Rattle.av_perm.specs.Word.{entry}
use Rattle.av_match.specs.Search.{IsWhole}
use Rattle.av_match.proofs.Begun.{LiesAt}
use Rattle.av_match.proofs.search.fitting.Given as goal

abbrev pub invariant-loop-i : goal.invariant-loop-i
invariant-loop-i l = record {
  begun : (x : ℕ) → 1 ≤ x → l.least ≤ x → x ≤ l.most → (k : ℕ) → k < l.i → LiesAt l.word l.pattern l.chosen x l.next k;
  whole : (place : ℕ) (rest : List ℕ) → IsWhole l.word l.pattern (l.chosen ++ place ∷ rest) → (l.least ≤ entry l.word place) × (entry l.word place ≤ l.most);
}
