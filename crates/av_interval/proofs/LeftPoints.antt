-- From a simple word of length at least 6 one point or two can be taken away: begin with four points, and add two at a time.
use Rattle.std.proofs.Common.{ℕ, ◌≡◌, ◌<◌, ◌≤◌, ◌-◌, ◌⊎◌, inl, inr, Bool, true, false, not, ◌&&◌, refl, sym, subst, ap, ◌∙◌, List, length, arith}
use Rattle.std.proofs.lemmas.Bool.{cases_eq, cases_lt, eq-eqb, ne_eqb, and_left, and_right}
use Rattle.av_perm.specs.Relations.{IsOneToLength, IsSimple}
use Rattle.av_perm.proofs.Pigeons.{search_below}
use Rattle.av_interval.specs.Points.{pattern_on, add, but, but_two}
use Rattle.av_interval.specs.Laws.{LeavesSimpleLaw}
use Rattle.av_interval.proofs.Modules.{Simple}
use Rattle.av_interval.proofs.Climbing.{climb}
use Rattle.av_interval.proofs.PointCounts.{count, count_add, count_none, none, none_false, add_false}
use Rattle.av_interval.proofs.Sides.{side, side_turns}
use Rattle.av_interval.proofs.SimplePoints.{word_simple}
use Rattle.av_interval.proofs.UncutSimples.{four_of}
use Rattle.av_interval.proofs.FourPoints.{four, four_cases, four_p, four_q, four_r, simple_3142, simple_2413}
use Rattle.av_interval.proofs.PatternsOn.{on_same}
use Rattle.av_interval.proofs.TwoMorePoints.{simple_or, to_pattern, others_of}

-- the place taken away isn't left
pub but_self : (v : ℕ) → but v v ≡ false
but_self v = ap (λ (b : Bool). not b) (eq-eqb v v refl)

-- and each other is
pub but_other : (v x : ℕ) → (x ≡ v → ⊥) → but v x ≡ true
but_other v x ne = ap (λ (b : Bool). not b) (ne_eqb x v ne)

-- a place other than the two is one of those that are left
pub but_two_yes : (v u k : ℕ) → (k ≡ v → ⊥) → (k ≡ u → ⊥) → but_two v u k ≡ true
but_two_yes v u k a b = ap (λ (t : Bool). t && but u k) (but_other v k a) ∙ but_other u k b

-- and the two aren't
pub but_two_not : (v u k : ℕ) → (k ≡ v) ⊎ (k ≡ u) → but_two v u k ≡ false
but_two_not v u k (inl e) = and_left (but v k) (but u k) (subst (λ t. but v t ≡ false) (sym e) (but_self v))
but_two_not v u k (inr e) = and_right (but v k) (but u k) (subst (λ t. but u t ≡ false) (sym e) (but_self u))

module _ (σ : List ℕ) (w : IsOneToLength σ) (s : IsSimple σ) (n6 : 6 ≤ length σ)
    (no_place : (v : ℕ) → v < length σ → IsSimple (pattern_on σ (but v)) → ⊥)
    (no_pair : (u : ℕ) → u < length σ → (v : ℕ) → v < u → IsSimple (pattern_on σ (but_two v u)) → ⊥) where
  -- a simple set that misses one place
  one_off : (X : ℕ → Bool) → ((x : ℕ) → X x ≡ true → x < length σ) → Simple (side σ) X → 4 ≤ count X (length σ) → (v : ℕ) → v < length σ → X v ≡ false
      → ((x : ℕ) → x < length σ → (x ≡ v → ⊥) → X x ≡ true) → ⊥
  one_off X sub sX c4 v vn xv rest =
      no_place v vn (subst (λ τ. IsSimple τ) (on_same σ X (but v) same) (to_pattern σ w X sub c4 sX))
    where
      same : (k : ℕ) → k < length σ → X k ≡ but v k
      same k kn = elim (cases_eq k v) [
        | inl e ↦ subst (λ t. X t ≡ but v t) (sym e) (xv ∙ sym (but_self v))
        | inr ne ↦ rest k kn ne ∙ sym (but_other v k ne)
      ]

  -- or two, in order
  two_off_in : (X : ℕ → Bool) → ((x : ℕ) → X x ≡ true → x < length σ) → Simple (side σ) X → 4 ≤ count X (length σ) → (v u : ℕ) → v < u → u < length σ
      → X v ≡ false → X u ≡ false → ((x : ℕ) → x < length σ → (x ≡ v → ⊥) → (x ≡ u → ⊥) → X x ≡ true) → ⊥
  two_off_in X sub sX c4 v u vu un xv xu rest =
      no_pair u un v vu (subst (λ τ. IsSimple τ) (on_same σ X (but_two v u) same) (to_pattern σ w X sub c4 sX))
    where
      at_v : but_two v u v ≡ false
      at_v = ap (λ (b : Bool). b && but u v) (but_self v)

      at_u : but_two v u u ≡ false
      at_u = ap (λ (b : Bool). b && but u u) (but_other v u (λ e. absurd (omega (arith, e)))) ∙ but_self u

      same : (k : ℕ) → k < length σ → X k ≡ but_two v u k
      same k kn = elim (cases_eq k v) [
        | inl e ↦ subst (λ t. X t ≡ but_two v u t) (sym e) (xv ∙ sym at_v)
        | inr ne ↦ elim (cases_eq k u) [
          | inl e ↦ subst (λ t. X t ≡ but_two v u t) (sym e) (xu ∙ sym at_u)
          | inr ne' ↦ rest k kn ne ne' ∙ sym (ap (λ (b : Bool). b && but u k) (but_other v k ne) ∙ but_other u k ne')
        ]
      ]

  -- in either order
  two_off : (X : ℕ → Bool) → ((x : ℕ) → X x ≡ true → x < length σ) → Simple (side σ) X → 4 ≤ count X (length σ) → (v u : ℕ) → v < length σ → u < length σ → (v ≡ u → ⊥)
      → X v ≡ false → X u ≡ false → ((x : ℕ) → x < length σ → (x ≡ v → ⊥) → (x ≡ u → ⊥) → X x ≡ true) → ⊥
  two_off X sub sX c4 v u vn un vu xv xu rest = elim (cases_lt v u) [
    | inl l ↦ two_off_in X sub sX c4 v u l un xv xu rest
    | inr g ↦ two_off_in X sub sX c4 u v (omega arith) vn xu xv (λ x xn a b. rest x xn b a)
  ]

  -- four points with a simple pattern lead to one of these
  start : (x y z v : ℕ) → x < y → y < z → z < v → v < length σ → Simple (side σ) (four x y z v) → ⊥
  start x y z v xy yz zv vn s₄ =
      climb (side σ) (side_turns σ w) (length σ) (word_simple σ s) one_off two_off (length σ - 5) (four x y z v)
      (λ t h. omega (arith, four_cases x y z v t h, xy, yz, zv, vn)) s₄
      (others_of σ w (four x y z v) x y z xy yz (four_p x y z v) (four_q x y z v) (four_r x y z v)) (omega (arith, sized)) (omega (arith, sized, n6))
    where
      far : (a b : ℕ) → a < b → b ≡ a → ⊥
      far a b l e = absurd (omega (arith, e))

      sized : count (four x y z v) (length σ) ≡ 4
      sized = omega (
        arith,
        count_none (length σ),
        count_add none x (length σ) (omega arith) (none_false x),
        count_add (add none x) y (length σ) (omega arith) (add_false none x y (far x y xy) (none_false y)),
        count_add (add (add none x) y) z (length σ) (omega arith) (add_false (add none x) y z (far y z yz) (add_false none x z (far x z (omega arith)) (none_false z))),
        count_add (add (add (add none x) y) z) v (length σ) (omega arith) (add_false (add (add none x) y) z v (far z v zv) (add_false (add none x) y v (far y v (omega arith)) (add_false none x v (far x v (omega arith)) (none_false v)))),
      )

-- so one place or two can be taken away
pub leaves_simple_law : LeavesSimpleLaw
leaves_simple_law σ s n6 = elim (search_below (length σ) (λ v. IsSimple (pattern_on σ (but v))) (λ v l. simple_or σ s.numbers (but v))) [
  | inl q ↦ inl (q.0, record { within = q.1; simple = q.2 })
  | inr non ↦ elim (search_below (length σ) (λ u. (v : ℕ) × (v < u) × IsSimple (pattern_on σ (but_two v u)))
      (λ u l. elim (search_below u (λ v. IsSimple (pattern_on σ (but_two v u))) (λ v l. simple_or σ s.numbers (but_two v u))) [ inl q ↦ inl q | inr non ↦ inr (λ q. non q.0 q.1 q.2) ])) [
        | inl q ↦ inr (q.2.0, q.0, record { order = q.2.1; within = q.1; simple = q.2.2 })
        | inr non₂ ↦ absurd (never (λ v vn q. non v vn q) (λ u un v vu q. non₂ u un (v, vu, q)))
      ]
]
  where
    never : ((v : ℕ) → v < length σ → IsSimple (pattern_on σ (but v)) → ⊥) → ((u : ℕ) → u < length σ → (v : ℕ) → v < u → IsSimple (pattern_on σ (but_two v u)) → ⊥) → ⊥
    never a b = elim (four_of σ s) [
      | inl q ↦ start σ s.numbers s n6 a b q.x q.y q.w q.v q.xy q.yw q.wv q.vn (simple_3142 σ q)
      | inr q ↦ start σ s.numbers s n6 a b q.x q.y q.w q.v q.xy q.yw q.wv q.vn (simple_2413 σ q)
    ]
