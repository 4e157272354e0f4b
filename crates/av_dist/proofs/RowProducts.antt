-- Rows of numbers: how wide they are, a row that is moved, and the product of two rows.
use Rattle.std.proofs.Common.{◌≡◌, ◌⊎◌, inl, inr, ℕ, zero, suc, ◌+◌, ◌-◌, ◌*◌, ◌/◌, ◌<◌, ◌≤◌, List, length, cond, true, false, refl, sym, ap, ap₂, ◌∙◌, subst, arith, nat_le, replicate}
use Rattle.std.proofs.lemmas.List.{get_or_past}
use Rattle.std.proofs.lemmas.Nat.{mul-le}
use Rattle.av_perm.specs.Relations.{at}
use Rattle.av_dist.specs.Rows.{width, moved, product}

-- rows of smaller sizes are not wider
pub width_grows : (m n : ℕ) → m ≤ n → width m ≤ width n
width_grows m n h = half (m * (m - 1)) (n * (n - 1)) (mul-le m (m - 1) n (n - 1) h (omega arith))
  where
    half : (a b : ℕ) → a ≤ b → a / 2 + 1 ≤ b / 2 + 1
    half a b h = omega arith

-- a row of nothing but 0 has 0 everywhere
pub at_zeros : (n v : ℕ) → at (replicate n 0) v ≡ 0
at_zeros zero v = refl
at_zeros (suc n) zero = refl
at_zeros (suc n) (suc v) = at_zeros n v

-- a moved row before it begins, within, and past its end
pub moved_before : (s : ℕ) (g : List ℕ) (v : ℕ) → v < s → moved s g v ≡ 0
moved_before s g v h = ap (λ b. cond b (at g (v - s)) 0) (before s v h)
  where
    before : (a b : ℕ) → b < a → nat_le a b ≡ false
    before a b h = grind arith

pub moved_at : (s : ℕ) (g : List ℕ) (v : ℕ) → s ≤ v → moved s g v ≡ at g (v - s)
moved_at s g v h = ap (λ b. cond b (at g (v - s)) 0) (within s v h)
  where
    within : (a b : ℕ) → a ≤ b → nat_le a b ≡ true
    within a b h = grind arith

pub moved_past : (s : ℕ) (g : List ℕ) (v : ℕ) → s + length g ≤ v → moved s g v ≡ 0
moved_past s g v h = moved_at s g v (omega arith) ∙ get_or_past g (v - s) 0 (omega arith)

-- a product before it begins, and past its end
pub product_before : (k s : ℕ) (f g : List ℕ) (v : ℕ) → v < s → product k s f g v ≡ 0
product_before zero s f g v h = refl
product_before (suc k) s f g v h =
    ap₂ (λ a b. a + at f k * b) (product_before k s f g v h) (moved_before (s + k) g v (omega arith)) ∙ omega arith

pub product_past : (k s : ℕ) (f g : List ℕ) (v : ℕ) → s + k + length g ≤ v → product k s f g v ≡ 0
product_past zero s f g v h = refl
product_past (suc k) s f g v h =
    ap₂ (λ a b. a + at f k * b) (product_past k s f g v (omega arith)) (moved_past (s + k) g v (omega arith)) ∙ omega arith

-- a part of a product is at most the whole
pub product_part : (k m s : ℕ) (f g : List ℕ) (v : ℕ) → k ≤ m → product k s f g v ≤ product m s f g v
product_part k zero s f g v h =
    let e : k ≡ 0 = omega arith in
    subst (λ i. product i s f g v ≤ product 0 s f g v) (sym e) (omega arith)
product_part k (suc m) s f g v h = elim (split k m h) [
  | inl e ↦ subst (λ i. product i s f g v ≤ product (suc m) s f g v) (sym e) (omega arith)
  | inr l ↦ omega (arith, product_part k m s f g v l)
]
  where
    split : (k m : ℕ) → k ≤ suc m → (k ≡ suc m) ⊎ (k ≤ m)
    split k m h = grind arith
