-- A word as a colouring of pairs of places: how one point lies from another, in place and in value.
use Rattle.std.proofs.Common.{ℕ, ◌≡◌, ◌<◌, List, Bool, true, false, cond, eqb, ltb, inl, inr, refl, sym, ap, ap₂, ◌∙◌, arith}
use Rattle.std.proofs.lemmas.Bool.{cases_lt, ltb-true, lt-ltb, ltb_from_iff}
use Rattle.av_perm.specs.Relations.{IsOneToLength}
use Rattle.av_interval.proofs.CutWords.{value, value_once}

-- two answers as one number, a colour
abbrev pub code : Bool → Bool → ℕ
code true true = 3
code true false = 2
code false true = 1
code false false = 0

-- the first answer of a colour
abbrev left : ℕ → Bool
left n = ltb 1 n

-- the second answer
abbrev right : ℕ → Bool
right n = cond (eqb n 1) true (eqb n 3)

-- the first answer is read off
left_code : (a b : Bool) → left (code a b) ≡ a
left_code true true = refl
left_code true false = refl
left_code false true = refl
left_code false false = refl

-- so is the second answer
right_code : (a b : Bool) → right (code a b) ≡ b
right_code true true = refl
right_code true false = refl
right_code false true = refl
right_code false false = refl

-- how x lies from z, in place and in value
abbrev pub side : List ℕ → ℕ → ℕ → ℕ
side σ z x = code (ltb x z) (ltb (value σ x) (value σ z))

-- where two tests of order agree, so do the orders
ltb_same : (a b c d : ℕ) → ltb a b ≡ ltb c d → a < b → c < d
ltb_same a b c d e h = ltb-true c d (sym e ∙ lt-ltb a b h)

-- and conversely
same_ltb : (a b c d : ℕ) → (a < b → c < d) → (c < d → a < b) → ltb a b ≡ ltb c d
same_ltb a b c d f g = ltb_from_iff (λ h. f (ltb-true a b h), λ h. lt-ltb a b (g h))

-- points that lie alike lie on the same side in place
pub side_place : (σ : List ℕ) (z x y : ℕ) → side σ z x ≡ side σ z y → x < z → y < z
side_place σ z x y e h = ltb_same x z y z (sym (left_code (ltb x z) (ltb (value σ x) (value σ z))) ∙ ap left e ∙ left_code (ltb y z) (ltb (value σ y) (value σ z))) h

-- and in value
pub side_value : (σ : List ℕ) (z x y : ℕ) → side σ z x ≡ side σ z y → value σ x < value σ z → value σ y < value σ z
side_value σ z x y e h = ltb_same (value σ x) (value σ z) (value σ y) (value σ z) (sym (right_code (ltb x z) (ltb (value σ x) (value σ z))) ∙ ap right e ∙ right_code (ltb y z) (ltb (value σ y) (value σ z))) h

-- and points that do so lie alike
pub side_same : (σ : List ℕ) (z x z' y : ℕ) → (x < z → y < z') → (y < z' → x < z) → (value σ x < value σ z → value σ y < value σ z') → (value σ y < value σ z' → value σ x < value σ z)
    → side σ z x ≡ side σ z' y
side_same σ z x z' y a b c d = ap₂ code (same_ltb x z y z' a b) (same_ltb (value σ x) (value σ z) (value σ y) (value σ z') c d)

-- what lies before v and not behind w lies before w
turn : (x v w : ℕ) → (x ≡ w → ⊥) → (w < x → v < x) → x < v → x < w
turn x v w xw f h = elim (cases_lt x w) [ inl l ↦ l | inr g ↦ absurd (omega (arith, h, f (omega arith))) ]

-- where v and w lie alike from x, x lies alike from them
pub side_turns : (σ : List ℕ) → IsOneToLength σ → (x v w : ℕ) → (x ≡ v → ⊥) → (x ≡ w → ⊥) → side σ x v ≡ side σ x w → side σ v x ≡ side σ w x
side_turns σ k x v w xv xw e = side_same σ v x w x
    (turn x v w xw (side_place σ x w v (sym e)))
    (turn x w v xv (side_place σ x v w e))
    (turn (value σ x) (value σ v) (value σ w) (λ q. xw (value_once σ k x w q)) (side_value σ x w v (sym e)))
    (turn (value σ x) (value σ w) (value σ v) (λ q. xv (value_once σ k x v q)) (side_value σ x v w e))
