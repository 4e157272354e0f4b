-- Lists of places: one more at the end, lists that rise, and where a number that isn't in a rising list stands among its places.
use Rattle.std.proofs.Common.{◌≡◌, ℕ, zero, suc, ◌<◌, ◌≤◌, ◌≢◌, inl, inr, List, [], ◌∷◌, ◌++◌, length, ap, subst, arith}
use Rattle.std.proofs.lemmas.Bool.{cases_lt, cases_eq}
use Rattle.av_perm.specs.Relations.{at}
use Rattle.av_perm.proofs.Membership.{In, In_at}
use Rattle.av_perm.proofs.ListLaws.{length_snoc, snoc_before, snoc_last}

-- each number is less than each later one
abbrev pub Rises : List ℕ → Type 0
Rises r = (s t : ℕ) → s < t → t < length r → at r s < at r t

-- a lesser number stands earlier
pub rises_back : (r : List ℕ) (a b : ℕ) → Rises r → a < length r → b < length r → at r a < at r b → a < b
rises_back r a b up ha hb l = elim (cases_lt a b) [
  | inl k ↦ k
  | inr k ↦ elim (cases_eq a b) [
    | inl e ↦ absurd (omega (arith, ap (at r) e))
    | inr ne ↦ absurd (omega (arith, up b a (omega (arith, ne)) ha))
  ]
]

-- a number stands at one place
pub rises_once : (r : List ℕ) (a b : ℕ) → Rises r → a < length r → b < length r → at r a ≡ at r b → a ≡ b
rises_once r a b up ha hb e = elim (cases_lt a b) [
  | inl k ↦ absurd (omega (arith, up a b k hb))
  | inr k ↦ elim (cases_eq a b) [ inl q ↦ q | inr ne ↦ absurd (omega (arith, up b a (omega (arith, ne)) ha)) ]
]

-- one more number that is greater than all
pub rises_more : (q : List ℕ) (s : ℕ) → Rises q → ((j : ℕ) → j < length q → at q j < s) → Rises (q ++ s ∷ [])
rises_more q s up before a b l h = elim (cases_eq b (length q)) [
  | inl e ↦ omega (arith, snoc_last q s b e, snoc_before q s a (omega arith), before a (omega arith))
  | inr ne ↦
      let m : b < length q = omega (arith, length_snoc q s, ne) in
      omega (arith, snoc_before q s b m, snoc_before q s a (omega arith), up a b l m)
]

-- of the first n numbers of the list those before place s are less than y and the others greater
pub record IsSeat (r : List ℕ) (y n s : ℕ) : Type 0 where
  pub within : s ≤ n
  pub less : (i : ℕ) → i < s → at r i < y
  pub greater : (i : ℕ) → s ≤ i → i < n → y < at r i

-- a number that isn't in the list has such a place
pub has_seat : (r : List ℕ) (y n : ℕ) → Rises r → (In y r → ⊥) → n ≤ length r → (s : ℕ) × IsSeat r y n s
has_seat r y zero up out h = (0, record { within = omega arith; less = λ i l. absurd (omega arith); greater = λ i l m. absurd (omega arith) })
has_seat r y (suc n) up out h = elim (cases_lt (at r n) y) [
  | inl l ↦ (
    suc n,
    record {
      within = omega arith;
      less = λ i k. elim (cases_eq i n) [ inl e ↦ omega (arith, ap (at r) e) | inr ne ↦ omega (arith, up i n (omega (arith, ne)) (omega arith)) ];
      greater = λ i k m. absurd (omega arith);
    },
  )
  | inr l ↦
      let p = has_seat r y n up out (omega arith) in
      let ne : at r n ≢ y = λ e. out (subst (λ z. In z r) e (In_at r n 0 (omega arith))) in (
        p.0,
        record {
          within = omega (arith, p.1.within);
          less = p.1.less;
          greater = λ i k m. elim (cases_eq i n) [ inl e ↦ omega (arith, ap (at r) e, ne) | inr d ↦ p.1.greater i k (omega (arith, d)) ];
        },
      )
]
