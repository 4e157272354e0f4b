-- The first length that passes the test of a gap.
use Rattle.std.proofs.Common.{◌≡◌, ℕ, zero, suc, ◌+◌, ◌-◌, ◌<◌, ◌≤◌, inl, inr, Bool, true, false, ◌&&◌, cond, List, [], ◌∷◌, find, Option, Some, None, refl, ap, ◌∙◌, arith}
use Rattle.std.proofs.lemmas.Bool.{cases_eq, and_parts}
use Rattle.av_perm.specs.Lists.{counting, is_nil}
use Rattle.av_perm.specs.Gap.{simples, gap}
use Rattle.av_simple.specs.declared.outcome.Outcome.TheVariants as outcome
use Rattle.av_simple.specs.Searched.{outcome_of, outcome_by}
use Rattle.av_perm.proofs.Membership.{In_counting}
use Rattle.av_perm.proofs.Tests.{found_In}

find_counting : (p : ℕ → Bool) (n lo i : ℕ) → lo ≤ i → i < lo + n → p i ≡ true → ((k : ℕ) → lo ≤ k → k < i → p k ≡ false) → find p (counting lo n) ≡ Some i
find_counting p zero lo i low high here before = absurd (omega arith)
find_counting p (suc n) lo i low high here before = elim (cases_eq lo i) [
  | inl e ↦ ap (λ b. cond b (Some lo) (find p (counting (suc lo) n))) (ap p e ∙ here) ∙ ap Some e
  | inr ne ↦
      ap (λ b. cond b (Some lo) (find p (counting (suc lo) n))) (before lo (omega arith) (omega arith))
      ∙ find_counting p n (suc lo) i (omega arith) (omega arith) here (λ k h l. before k (omega arith) l)
]

find_none : (p : ℕ → Bool) (n lo : ℕ) → ((k : ℕ) → lo ≤ k → k < lo + n → p k ≡ false) → find p (counting lo n) ≡ None
find_none p zero lo h = refl
find_none p (suc n) lo h =
    ap (λ b. cond b (Some lo) (find p (counting (suc lo) n))) (h lo (omega arith) (omega arith))
    ∙ find_none p n (suc lo) (λ k l m. h k (omega arith) (omega arith))

-- there is no simple word of length g or g + 1
abbrev pub is_gap : List (List ℕ) → ℕ → Bool
is_gap basis g = is_nil (simples basis g) && is_nil (simples basis (suc g))

pub gap_found : (basis : List (List ℕ)) (limit g : ℕ) → 4 ≤ g → suc g ≤ limit → is_gap basis g ≡ true → ((k : ℕ) → 4 ≤ k → k < g → is_gap basis k ≡ false) → gap basis limit ≡ Some g
unfolding gap
gap_found basis limit g low high here before = find_counting (is_gap basis) (limit - 4) 4 g low (omega arith) here before

pub gap_none : (basis : List (List ℕ)) (limit : ℕ) → ((k : ℕ) → 4 ≤ k → suc k ≤ limit → is_gap basis k ≡ false) → gap basis limit ≡ None
unfolding gap
gap_none basis limit h = find_none (is_gap basis) (limit - 4) 4 (λ k l m. h k l (omega arith))

pub nil_is : {A : Type 0} (xs : List A) → is_nil xs ≡ true → xs ≡ []
nil_is {A = A} [] e = refl
nil_is {A = A} (x ∷ xs) e = cc

-- what a gap is
pub record IsGap (basis : List (List ℕ)) (limit g : ℕ) : Type 0 where
  pub low : 4 ≤ g
  pub high : suc g ≤ limit
  pub here : simples basis g ≡ []
  pub next : simples basis (suc g) ≡ []

pub gap_is : (basis : List (List ℕ)) (limit g : ℕ) → 4 ≤ limit → gap basis limit ≡ Some g → IsGap basis limit g
unfolding gap
gap_is basis limit g h e =
    let f = found_In (is_gap basis) (counting 4 (limit - 4)) g e in
    let r = In_counting (limit - 4) 4 g f.0 in
    let t = and_parts (is_nil (simples basis g)) (is_nil (simples basis (suc g))) f.1 in
    record { low = r.0; high = omega (arith, r.1); here = nil_is (simples basis g) t.0; next = nil_is (simples basis (suc g)) t.1 }

-- what the outcome of a search says of the gap
pub found_gap : (basis : List (List ℕ)) (limit g : ℕ) → 4 ≤ limit → outcome.Gap g ≡ outcome_of (record { basis = basis; limit = limit }) → IsGap basis limit g
found_gap basis limit g h e = by (gap basis limit) refl e
  where
    by : (found : Option ℕ) → gap basis limit ≡ found → outcome.Gap g ≡ outcome_by found → IsGap basis limit g
    by None f e = cc
    by (Some k) f e = let q : k ≡ g = cc in gap_is basis limit g h (f ∙ ap Some q)
