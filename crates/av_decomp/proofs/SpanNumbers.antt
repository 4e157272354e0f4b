-- Spans that follow one another, by their numbers from 0 on.
use Rattle.std.proofs.Common.{◌≡◌, ℕ, zero, suc, ◌<◌, ◌≤◌, inl, inr, List, [], ◌∷◌, length, get_or, nat_le, cond, sym, ap, subst, arith, le-leb}
use Rattle.std.proofs.lemmas.Bool.{cases_lt, cases_order, lt-leb}
use Rattle.av_interval.specs.declared.spans.Span.{Span}
use Rattle.av_interval.specs.Intervals.{Tiles}

-- the span of a number
abbrev pub span_at : List Span → ℕ → Span
span_at spans i = get_or spans i (record { first = 0; last = 0 })

-- each lies between the first and the last place
pub span_within : (spans : List Span) (a b i : ℕ) → Tiles a b spans → i < length spans → (a ≤ (span_at spans i).first) × ((span_at spans i).first ≤ (span_at spans i).last) × ((span_at spans i).last ≤ b)
span_within [] a b i h l = absurd (omega arith)
span_within (s ∷ []) a b zero h l = (omega (arith, h.0), h.1, omega (arith, h.2))
span_within (s ∷ t ∷ spans) a b zero h l = let r = span_within (t ∷ spans) (suc s.last) b zero h.2 (omega arith) in (omega (arith, h.0), h.1, omega (arith, r.0, r.1, r.2))
span_within (s ∷ spans) a b (suc i) h l = let r = span_within spans (suc s.last) b i h.2 (omega arith) in (omega (arith, h.0, h.1, r.0), r.1, r.2)

-- each ends before a later one begins
pub span_order : (spans : List Span) (a b i j : ℕ) → Tiles a b spans → i < j → j < length spans → (span_at spans i).last < (span_at spans j).first
span_order [] a b i j h k l = absurd (omega arith)
span_order (s ∷ spans) a b zero zero h k l = absurd (omega arith)
span_order (s ∷ spans) a b (suc i) zero h k l = absurd (omega arith)
span_order (s ∷ spans) a b zero (suc j) h k l = let r = span_within spans (suc s.last) b j h.2 (omega arith) in omega (arith, r.0)
span_order (s ∷ spans) a b (suc i) (suc j) h k l = span_order spans (suc s.last) b i j h.2 (omega arith) (omega arith)

-- the number of the first span that ends at a place or later
abbrev pub number_at : List Span → ℕ → ℕ
number_at [] x = 0
number_at (s ∷ spans) x = cond (nat_le x s.last) 0 (suc (number_at spans x))

-- a place lies in the span of its number
pub record LiesAt (spans : List Span) (i x : ℕ) : Type 0 where
  pub inside : i < length spans
  pub low : (span_at spans i).first ≤ x
  pub high : x ≤ (span_at spans i).last

-- a place lies in the span of the number computed
pub number_holds : (spans : List Span) (a b x : ℕ) → Tiles a b spans → a ≤ x → x ≤ b → LiesAt spans (number_at spans x) x
number_holds [] a b x h l m = absurd (omega arith)
number_holds (s ∷ spans) a b x h l m = elim (cases_lt s.last x) [
  | inr o ↦
      let e : number_at (s ∷ spans) x ≡ 0 = ap (λ t. cond t 0 (suc (number_at spans x))) (le-leb x s.last o) in
      subst (λ i. LiesAt (s ∷ spans) i x) (sym e) (record { inside = omega arith; low = omega (arith, h.0); high = o })
  | inl o ↦
      let e : number_at (s ∷ spans) x ≡ suc (number_at spans x) = ap (λ t. cond t 0 (suc (number_at spans x))) (lt-leb x s.last o) in
      let r = number_holds spans (suc s.last) b x h.2 o m in
      subst (λ i. LiesAt (s ∷ spans) i x) (sym e) (record { inside = omega (arith, r.inside); low = r.low; high = r.high })
]

-- and in no other
pub number_only : (spans : List Span) (a b i j x : ℕ) → Tiles a b spans → LiesAt spans i x → LiesAt spans j x → i ≡ j
number_only spans a b i j x h p q = elim (cases_order i j) [
  | inl e ↦ e
  | inr (inl l) ↦ absurd (omega (arith, span_order spans a b i j h l q.inside, p.high, q.low))
  | inr (inr l) ↦ absurd (omega (arith, span_order spans a b j i h l p.inside, q.high, p.low))
]

-- numbers rise with places
pub number_rises : (spans : List Span) (a b i j x y : ℕ) → Tiles a b spans → LiesAt spans i x → LiesAt spans j y → x ≤ y → i ≤ j
number_rises spans a b i j x y h p q l = elim (cases_lt j i) [
  | inr o ↦ o
  | inl o ↦ absurd (omega (arith, span_order spans a b j i h o p.inside, q.high, p.low))
]
