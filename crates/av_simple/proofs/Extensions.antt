-- No simple word is missed: each is a shorter one of the class with one more point or two.
use Rattle.std.proofs.Common.{ℕ, suc, ◌≡◌, ◌<◌, ◌≤◌, ◌-◌, ◌⊎◌, List, length, Bool, false, inl, inr, sym, subst, ap, ◌∙◌, arith}
use Rattle.std.proofs.lemmas.Bool.{cases_Bool}
use Rattle.av_perm.specs.Members.{In}
use Rattle.av_perm.specs.Gap.{simples}
use Rattle.av_perm.specs.Simple.{is_simple}
use Rattle.av_perm.specs.Laws.{IsSimpleOf}
use Rattle.av_perm.specs.Relations.{at, IsOneToLength, IsSimple, InClass}
use Rattle.av_perm.proofs.Classes.{class_down, avoids_to}
use Rattle.av_perm.proofs.SimpleWords.{simple_law, simples_are}
use Rattle.av_interval.specs.Points.{chosen, pattern_on, but, but_two}
use Rattle.av_interval.specs.Laws.{LeavesSimple, PairLeavesSimple}
use Rattle.av_interval.proofs.PatternsOn.{on_word, on_occurrence, on_length}
use Rattle.av_interval.proofs.LeftPoints.{leaves_simple_law}
use Rattle.av_interval.proofs.SmallerSimples.{length_but, length_but_two}
use Rattle.av_interval.proofs.TwoGaps.{simple_of, simple_filled}
use Rattle.av_simple.specs.Extension.{insert_point, HasPoint, IsUnsimpleOf, HasTwoPoints}
use Rattle.av_simple.proofs.Insertions.{insert_back, twice}

-- a word is what is left without a point with one more point
has_point : (σ : List ℕ) → IsOneToLength σ → (v : ℕ) → v < length σ → HasPoint (pattern_on σ (but v)) σ
has_point σ w v vn =
    let n : suc (length (pattern_on σ (but v))) ≡ length σ = ap suc (on_length σ w (but v)) ∙ length_but v (length σ) vn in
    let b = w.within v vn in
    (v, omega (arith, n, vn), (at σ v, omega (arith, n, b.1), (b.0, sym (insert_back σ w v vn))))

module _ (basis : List (List ℕ)) (n : ℕ) (σ : List ℕ) (h : IsSimpleOf basis n σ) where
  -- a simple pattern in it is a simple word of the class
  left_in : (X : ℕ → Bool) → IsSimple (pattern_on σ X) → (m : ℕ) → length (pattern_on σ X) ≡ m → In (pattern_on σ X) (simples basis m)
  left_in X s m e = (simples_are basis m (pattern_on σ X)).1
      (simple_of basis m (pattern_on σ X) s
      (class_down basis σ (pattern_on σ X) h.member.member (simple_filled (pattern_on σ X) s) (chosen X (length σ), on_occurrence σ h.simple.numbers X)) e)

  -- one point can be taken away
  by_one : (v : ℕ) → LeavesSimple σ v → (τ : List ℕ) × In τ (simples basis (n - 1)) × HasPoint τ σ
  by_one v q = (
    pattern_on σ (but v),
    left_in (but v) q.simple (n - 1) (omega (arith, on_length σ h.simple.numbers (but v), length_but v (length σ) q.within, h.member.long)),
    has_point σ h.simple.numbers v q.within,
  )

  -- two can, of which the second leaves a word that isn't simple
  by_two : (v u : ℕ) → PairLeavesSimple σ v u → is_simple (pattern_on σ (but u)) ≡ false → (τ : List ℕ) × In τ (simples basis (n - 2)) × HasTwoPoints basis τ σ
  by_two v u q not_simple =
      let w = h.simple.numbers in
      let w₁ = on_word σ w (but u) in
      let n₁ : suc (length (pattern_on σ (but u))) ≡ length σ = ap suc (on_length σ w (but u)) ∙ length_but u (length σ) q.within in
      let n₂ : suc (suc (length (pattern_on σ (but_two v u)))) ≡ length σ = ap (λ k. suc (suc k)) (on_length σ w (but_two v u)) ∙ length_but_two v u (length σ) q.order q.within in
      let l = q.order in
      let k = q.within in
      let v₁ : v < length (pattern_on σ (but u)) = omega arith in
      let b = w₁.within v v₁ in
      let e : insert_point (pattern_on σ (but_two v u)) v (at (pattern_on σ (but u)) v) ≡ pattern_on σ (but u) =
      ap (λ τ. insert_point τ v (at (pattern_on σ (but u)) v)) (sym (twice σ w v u q.order q.within)) ∙ insert_back (pattern_on σ (but u)) w₁ v v₁ in
      let member : InClass basis (pattern_on σ (but u)) =
      class_down basis σ (pattern_on σ (but u)) h.member.member (record { numbers = w₁; filled = omega arith }) (chosen (but u) (length σ), on_occurrence σ w (but u)) in (
        pattern_on σ (but_two v u),
        left_in (but_two v u) q.simple (n - 2) (omega (arith, n₂, h.member.long)),
        (
          v,
          omega (arith, n₂, l, k),
          (
            at (pattern_on σ (but u)) v,
            omega (arith, b.1, n₁, n₂),
            (
              b.0,
              subst (λ μ. IsUnsimpleOf basis μ) (sym e) (record { unsimple = not_simple; member = avoids_to basis (pattern_on σ (but u)) member.avoids }),
              subst (λ μ. HasPoint μ σ) (sym e) (has_point σ w u q.within),
            ),
          ),
        ),
      )

-- a simple word of the class of length at least 6 comes from one that is one shorter, or two
pub from_shorter : (basis : List (List ℕ)) (n : ℕ) (σ : List ℕ) → 6 ≤ n → IsSimpleOf basis n σ
    → ((τ : List ℕ) × In τ (simples basis (n - 1)) × HasPoint τ σ) ⊎ ((τ : List ℕ) × In τ (simples basis (n - 2)) × HasTwoPoints basis τ σ)
from_shorter basis n σ low h = elim (leaves_simple_law σ h.simple (omega (arith, low, h.member.long))) [
  | inl q ↦ inl (by_one basis n σ h q.0 q.1)
  | inr q ↦ elim (cases_Bool (is_simple (pattern_on σ (but q.1)))) [
    | inl t ↦ inl (by_one basis n σ h q.1 (record { within = q.2.within; simple = (simple_law (pattern_on σ (but q.1)) (on_word σ h.simple.numbers (but q.1))).0 t }))
    | inr f ↦ inr (by_two basis n σ h q.0 q.1 q.2 f)
  ]
]
