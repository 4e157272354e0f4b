-- Words of a list that are not contained, one after another.
use Rattle.std.proofs.Common.{◌≡◌, ℕ, suc, ◌+◌, ◌<◌, inl, inr, true, false, List, [], ◌∷◌, length, Some, None, slice_get, refl, sym, ◌∙◌, ap, arith}
use Rattle.std.specs.Option.{is_some}
use Rattle.std.proofs.lemmas.Bool.{cases_eq}
use Rattle.av_perm.specs.Class.{avoids_all}
use Rattle.av_perm.specs.Contain.{contains, first_occurrence}
use Rattle.av_match.proofs.Completed.{contains_first}

-- a pattern without an occurrence is not contained
pub not_contained : (w p : List ℕ) → first_occurrence w p ≡ None → contains w p ≡ false
not_contained w p e = contains_first w p ∙ ap is_some e

-- none of the first i, and not the next one
pub missed_more : (w : List ℕ) (basis : List (List ℕ)) (i : ℕ) (p : List ℕ) → ((k : ℕ) (other : List ℕ) → k < i → slice_get basis k ≡ Some other → contains w other ≡ false)
    → slice_get basis i ≡ Some p → contains w p ≡ false → (k : ℕ) (other : List ℕ) → k < i + 1 → slice_get basis k ≡ Some other → contains w other ≡ false
missed_more w basis i p before e here k other h listed = elim (cases_eq k i) [
  | inl q ↦ let r : Some other ≡ Some p = sym listed ∙ ap (slice_get basis) q ∙ e in let s : other ≡ p = cc in ap (contains w) s ∙ here
  | inr q ↦ before k other (omega arith) listed
]

-- where none of a list is contained, the word avoids them all
pub all_missed : (w : List ℕ) (basis : List (List ℕ)) → ((k : ℕ) (other : List ℕ) → k < length basis → slice_get basis k ≡ Some other → contains w other ≡ false) → avoids_all basis w ≡ true
all_missed w [] f = refl
all_missed w (b ∷ basis) f = rw (f 0 b (omega arith) refl) (all_missed w basis (λ k other h e. f (suc k) other (omega arith) e))
