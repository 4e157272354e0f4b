-- The pieces of an inflation: sums over them, and how their entries lie.
use Rattle.std.proofs.Common.{◌≡◌, ℕ, zero, suc, ◌+◌, ◌<◌, ◌↔◌, List, [], ◌∷◌, length, get_or, refl, sym, ap₂, ◌∙◌, arith, nat_lt, sum_by}
use Rattle.std.proofs.lemmas.List.Sums.{sum_by-cons}
use Rattle.av_perm.specs.Members.{In}
use Rattle.av_perm.specs.Relations.{IsWord, AreBlocks, at}
use Rattle.av_perm.proofs.Inflations.{lifted, block_order}

-- the sum of the numbers of the pieces
abbrev pub summed : (ℕ → ℕ) → ℕ → ℕ
summed f zero = 0
summed f (suc k) = f 0 + summed (λ i. f (suc i)) k

-- it is the sum over a list whose elements have these numbers
pub summed_list : {X : Type 0} (f : X → ℕ) (d : X) (xs : List X) (g : ℕ → ℕ)
    → ((i : ℕ) → i < length xs → g i ≡ f (get_or xs i d)) → summed g (length xs) ≡ sum_by f xs
summed_list f d [] g e = refl
summed_list f d (x ∷ xs) g e =
    ap₂ (λ a b. a + b) (e 0 (omega arith)) (summed_list f d xs (λ i. g (suc i)) (λ i h. e (suc i) (omega arith))) ∙ sym (sum_by-cons f x xs)

-- numbers that are raised alike lie as they did
pub lt_raised : (o y x : ℕ) → nat_lt (y + o) (x + o) ≡ nat_lt y x
lt_raised o y x = grind arith

lt_alike : (y x v u : ℕ) → (y < x) ↔ (v < u) → nat_lt y x ≡ nat_lt v u
lt_alike y x v u h = grind (arith, h.0, h.1)

-- entries of two pieces lie as those of the root
pub pieces_order : (π : List ℕ) (αs : List (List ℕ)) → IsWord π → AreBlocks π αs → (i j : ℕ) → i < j → j < length π
    → (x y : ℕ) → In x (lifted π αs i) → In y (lifted π αs j) → nat_lt y x ≡ nat_lt (at π j) (at π i)
pieces_order π αs w b i j l h x y ix iy =
    lt_alike y x (at π j) (at π i) (block_order π αs j i y x w.numbers b h (omega arith) (λ e. omega arith) iy ix)
