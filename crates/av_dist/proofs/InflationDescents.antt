-- The descents of an inflation: those of its blocks, and one between two blocks for each descent of the root.
use Rattle.std.proofs.Common.{◌≡◌, ℕ, suc, ◌+◌, ◌<◌, ◌≤◌, inl, inr, List, [], ◌∷◌, ◌++◌, length, cond, Bool, refl, sym, ap, ap₂, ◌∙◌, arith, nat_lt, sum_by}
use Rattle.std.proofs.lemmas.List.{length-map}
use Rattle.av_perm.specs.Members.{In}
use Rattle.av_perm.specs.Stat.{descents}
use Rattle.av_perm.specs.Relations.{IsWord, AreBlocks, at, inflate, joined, raised, block}
use Rattle.av_perm.proofs.Inflations.{lifted, raise_of}
use Rattle.av_dist.proofs.InflationPieces.{summed, summed_list, pieces_order, lt_raised}

-- 1 where the first entry of a list is below the last of another, else 0
abbrev seam : List ℕ → List ℕ → ℕ
seam [] ys = 0
seam (x ∷ []) [] = 0
seam (x ∷ []) (y ∷ ys) = cond (nat_lt y x) 1 0
seam (x ∷ x' ∷ xs) ys = seam (x' ∷ xs) ys

seam_nil : (xs : List ℕ) → seam xs [] ≡ 0
seam_nil [] = refl
seam_nil (x ∷ []) = refl
seam_nil (x ∷ x' ∷ xs) = seam_nil (x' ∷ xs)

-- the descents of two lists joined
descents_append : (xs ys : List ℕ) → descents (xs ++ ys) ≡ descents xs + descents ys + seam xs ys
descents_append [] ys = omega arith
descents_append (x ∷ []) [] = refl
descents_append (x ∷ []) (y ∷ ys) = omega arith
descents_append (x ∷ x' ∷ xs) ys = omega (arith, descents_append (x' ∷ xs) ys)

-- the seam of two lists with entries, where each entry of the one lies alike to each of the other
seam_all : (b : Bool) (xs ys zs : List ℕ) → 1 ≤ length xs → 1 ≤ length ys
    → ((x y : ℕ) → In x xs → In y ys → nat_lt y x ≡ b) → seam xs (ys ++ zs) ≡ cond b 1 0
seam_all b [] ys zs h k f = absurd (omega arith)
seam_all b (x ∷ xs) [] zs h k f = absurd (omega arith)
seam_all b (x ∷ []) (y ∷ ys) zs h k f = ap (λ c. cond {A = ℕ} c 1 0) (f x y (inl refl) (inl refl))
seam_all b (x ∷ x' ∷ xs) (y ∷ ys) zs h k f = seam_all b (x' ∷ xs) (y ∷ ys) zs (omega arith) k (λ z w i j. f z w (inr i) j)

-- the descents of pieces joined, where entries of two pieces lie as the entries of `xs` at their places
descents_joined : (xs : List ℕ) (F : ℕ → List ℕ) → ((i : ℕ) → i < length xs → 1 ≤ length (F i))
    → ((i j : ℕ) → i < j → j < length xs → (x y : ℕ) → In x (F i) → In y (F j) → nat_lt y x ≡ nat_lt (at xs j) (at xs i))
    → descents (joined F (length xs)) ≡ summed (λ i. descents (F i)) (length xs) + descents xs
descents_joined [] F n f = omega arith
descents_joined (x ∷ []) F n f = descents_append (F 0) [] ∙ omega (arith, seam_nil (F 0))
descents_joined (x ∷ y ∷ xs) F n f =
    let rest = joined (λ i. F (suc i)) (suc (length xs)) in
    let later = descents_joined (y ∷ xs) (λ i. F (suc i)) (λ i h. n (suc i) (omega arith)) (λ i j l h. f (suc i) (suc j) (omega arith) (omega arith)) in
    let here =
    seam_all (nat_lt y x) (F 0) (F 1) (joined (λ i. F (suc (suc i))) (length xs)) (n 0 (omega arith)) (n 1 (omega arith)) (f 0 1 (omega arith) (omega arith)) in
    descents_append (F 0) rest
    ∙ add (descents (F 0)) (descents rest) (seam (F 0) rest) (summed (λ i. descents (F (suc i))) (suc (length xs)))
    (cond (nat_lt y x) 1 0) (descents (y ∷ xs)) later here
  where
    add : (a b c s l r : ℕ) → b ≡ s + r → c ≡ l → a + b + c ≡ a + s + (l + r)
    add a b c s l r e f = omega arith

-- a raised list has the descents of the list
descents_raised : (o : ℕ) (xs : List ℕ) → descents (raised o xs) ≡ descents xs
descents_raised o [] = refl
descents_raised o (x ∷ []) = refl
descents_raised o (x ∷ y ∷ xs) = ap₂ (λ b n. cond {A = ℕ} b 1 0 + n) (lt_raised o y x) (descents_raised o (y ∷ xs))

pub descents_are : (π : List ℕ) (αs : List (List ℕ)) → IsWord π → AreBlocks π αs → descents (inflate π αs) ≡ sum_by descents αs + descents π
descents_are π αs w b =
    let c = b.count in
    descents_joined π (lifted π αs) filled (pieces_order π αs w b)
    ∙ ap (λ n. n + descents π) (ap (λ k. summed (λ i. descents (lifted π αs i)) k) (sym c)
    ∙ summed_list descents [] αs (λ i. descents (lifted π αs i)) (λ i h. descents_raised (raise_of π αs i) (block αs i)))
  where
    filled : (i : ℕ) → i < length π → 1 ≤ length (lifted π αs i)
    filled i h = let k = b.filled i h in let l = length-map (block αs i) (λ v. v + raise_of π αs i) in omega arith
