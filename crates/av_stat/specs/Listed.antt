-- Closures that return a statistic, and the words of what a lister gives.
use Rattle.std.specs.Prelude.{◌≡◌, ℕ, List, map, IsTrue}
use Rattle.av_perm.specs.Stat.{statistic_of}
use Rattle.av_perm.specs.Word.{is_perm}
use Rattle.av_perm.specs.declared.StatKind.{StatKind}

-- what a closure returns on a word is the statistic of the kind
abbrev pub ReturnsStatistic : StatKind → (List ℕ → ℕ → Type 0) → Type 0
ReturnsStatistic kind gives = (w : List ℕ) (n : ℕ) → IsTrue (is_perm w) → gives w n → n ≡ statistic_of kind w

-- the words of items
abbrev pub words_of : List (ℕ × List ℕ) → List (List ℕ)
words_of items = map (λ (i : ℕ × List ℕ). i.1) items
