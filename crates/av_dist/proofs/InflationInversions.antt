-- The inversions of an inflation: those of its blocks, and for each inversion of the root the product of the sizes of two blocks.
use Rattle.std.proofs.Common.{◌≡◌, ℕ, suc, ◌+◌, ◌*◌, ◌<◌, inl, inr, List, [], ◌∷◌, ◌++◌, map, length, cond, true, false, Bool, refl, sym, ap, ap₂, ◌∙◌, arith, nat_lt, count_by, sum_by}
use Rattle.std.proofs.lemmas.List.{length-map, get_or-map}
use Rattle.av_perm.specs.Members.{In}
use Rattle.av_perm.specs.Stat.{inversions}
use Rattle.av_perm.specs.Relations.{IsWord, AreBlocks, at, inflate, joined, raised, block}
use Rattle.av_perm.proofs.Inflations.{lifted, raise_of}
use Rattle.av_dist.specs.Crossing.{lesser, crossing}
use Rattle.av_dist.proofs.HowOften.{count_append, count_cons}
use Rattle.av_dist.proofs.InflationPieces.{summed, summed_list, lt_raised, pieces_order}

-- the pairs of an entry of a list and a lesser one of another
abbrev inter : List ℕ → List ℕ → ℕ
inter [] ys = 0
inter (x ∷ xs) ys = count_by (λ y. nat_lt y x) ys + inter xs ys

-- the inversions of two lists joined
inversions_append : (xs ys : List ℕ) → inversions (xs ++ ys) ≡ inversions xs + inversions ys + inter xs ys
inversions_append [] ys = omega arith
inversions_append (x ∷ xs) ys = omega (arith, inversions_append xs ys, count_append (λ y. nat_lt y x) xs ys)

inter_append : (xs ys zs : List ℕ) → inter xs (ys ++ zs) ≡ inter xs ys + inter xs zs
inter_append [] ys zs = refl
inter_append (x ∷ xs) ys zs = omega (arith, inter_append xs ys zs, count_append (λ y. nat_lt y x) ys zs)

inter_nil : (xs : List ℕ) → inter xs [] ≡ 0
inter_nil [] = refl
inter_nil (x ∷ xs) = omega (arith, inter_nil xs)

-- where each entry of the one lies alike to each of the other, all pairs are such or none is
count_all : (p : ℕ → Bool) (b : Bool) (ys : List ℕ) → ((y : ℕ) → In y ys → p y ≡ b) → count_by p ys ≡ cond b (length ys) 0
count_all p true [] f = refl
count_all p false [] f = refl
count_all p b (y ∷ ys) f =
    count_cons p y ys ∙ ap₂ (λ c n. cond {A = ℕ} c 1 0 + n) (f y (inl refl)) (count_all p b ys (λ z i. f z (inr i))) ∙ one b (length ys)
  where
    one : (b : Bool) (n : ℕ) → cond {A = ℕ} b 1 0 + cond b n 0 ≡ cond b (suc n) 0
    one true n = omega arith
    one false n = omega arith

inter_all : (b : Bool) (xs ys : List ℕ) → ((x y : ℕ) → In x xs → In y ys → nat_lt y x ≡ b) → inter xs ys ≡ cond b (length xs * length ys) 0
inter_all true [] ys f = omega arith
inter_all false [] ys f = refl
inter_all true (x ∷ xs) ys f =
    omega (arith, inter_all true xs ys (λ z y i j. f z y (inr i) j), count_all (λ y. nat_lt y x) true ys (λ y j. f x y (inl refl) j))
inter_all false (x ∷ xs) ys f =
    omega (arith, inter_all false xs ys (λ z y i j. f z y (inr i) j), count_all (λ y. nat_lt y x) false ys (λ y j. f x y (inl refl) j))

-- the pairs of an entry of a piece and a lesser one of the pieces after it
inter_joined : (a : List ℕ) (n x : ℕ) (xs ns : List ℕ) (F : ℕ → List ℕ) → length ns ≡ length xs
    → ((j : ℕ) → j < length xs → inter a (F j) ≡ cond (nat_lt (at xs j) x) (n * at ns j) 0) → inter a (joined F (length xs)) ≡ n * lesser x xs ns
inter_joined a n x [] ns F e f = inter_nil a ∙ omega arith
inter_joined a n x (y ∷ xs) [] F e f = absurd (omega arith)
inter_joined a n x (y ∷ xs) (m ∷ ns) F e f =
    inter_append a (F 0) (joined (λ i. F (suc i)) (length xs))
    ∙ ap₂ (λ u v. u + v) (f 0 (omega arith) ∙ out n m (nat_lt y x)) (inter_joined a n x xs ns (λ i. F (suc i)) (omega arith) (λ j h. f (suc j) (omega arith)))
    ∙ whole n (cond (nat_lt y x) m 0) (lesser x xs ns)
  where
    out : (n m : ℕ) (b : Bool) → cond b (n * m) 0 ≡ n * cond b m 0
    out n m true = refl
    out n m false = omega arith

    whole : (n a b : ℕ) → n * a + n * b ≡ n * (a + b)
    whole n a b = omega arith

-- the inversions of pieces joined, where entries of two pieces lie as the entries of `xs` at their places
inversions_joined : (xs ns : List ℕ) (F : ℕ → List ℕ) → length ns ≡ length xs
    → ((i j : ℕ) → i < j → j < length xs → inter (F i) (F j) ≡ cond (nat_lt (at xs j) (at xs i)) (at ns i * at ns j) 0)
    → inversions (joined F (length xs)) ≡ summed (λ i. inversions (F i)) (length xs) + crossing xs ns
inversions_joined [] ns F e f = refl
inversions_joined (x ∷ xs) [] F e f = absurd (omega arith)
inversions_joined (x ∷ xs) (n ∷ ns) F e f =
    let rest = joined (λ i. F (suc i)) (length xs) in
    let here = inter_joined (F 0) n x xs ns (λ i. F (suc i)) (omega arith) (λ j h. f 0 (suc j) (omega arith) (omega arith)) in
    let later = inversions_joined xs ns (λ i. F (suc i)) (omega arith) (λ i j l h. f (suc i) (suc j) (omega arith) (omega arith)) in
    inversions_append (F 0) rest
    ∙ add (inversions (F 0)) (inversions rest) (inter (F 0) rest) (summed (λ i. inversions (F (suc i))) (length xs)) (n * lesser x xs ns) (crossing xs ns) later here
  where
    add : (a b c s l r : ℕ) → b ≡ s + r → c ≡ l → a + b + c ≡ a + s + (l + r)
    add a b c s l r e f = omega arith

-- a raised list has the inversions of the list
inversions_raised : (o : ℕ) (xs : List ℕ) → inversions (raised o xs) ≡ inversions xs
inversions_raised o [] = refl
inversions_raised o (x ∷ xs) = ap₂ (λ a b. a + b) (count_raised o x xs) (inversions_raised o xs)
  where
    count_raised : (o x : ℕ) (ys : List ℕ) → count_by (λ y. nat_lt y (x + o)) (raised o ys) ≡ count_by (λ y. nat_lt y x) ys
    count_raised o x [] = refl
    count_raised o x (y ∷ ys) =
        count_cons (λ z. nat_lt z (x + o)) (y + o) (raised o ys)
        ∙ ap₂ (λ b n. cond {A = ℕ} b 1 0 + n) (lt_raised o y x) (count_raised o x ys)
        ∙ sym (count_cons (λ z. nat_lt z x) y ys)

-- the pairs of two pieces of an inflation are those of an inversion of the root, or none
lifted_pairs : (π : List ℕ) (αs : List (List ℕ)) → IsWord π → AreBlocks π αs → (i j : ℕ) → i < j → j < length π
    → inter (lifted π αs i) (lifted π αs j) ≡ cond (nat_lt (at π j) (at π i)) (at (map length αs) i * at (map length αs) j) 0
lifted_pairs π αs w b i j l h =
    inter_all (nat_lt (at π j) (at π i)) (lifted π αs i) (lifted π αs j) (pieces_order π αs w b i j l h)
    ∙ ap₂ (λ n m. cond (nat_lt (at π j) (at π i)) (n * m) 0) (long i (omega arith)) (long j h)
  where
    long : (i : ℕ) → i < length π → length (lifted π αs i) ≡ at (map length αs) i
    long i h = let c = b.count in length-map (block αs i) (λ v. v + raise_of π αs i) ∙ sym (get_or-map length αs i [] 0 (omega arith))

pub inversions_are : (π : List ℕ) (αs : List (List ℕ)) → IsWord π → AreBlocks π αs
    → inversions (inflate π αs) ≡ sum_by inversions αs + crossing π (map length αs)
inversions_are π αs w b =
    let c = b.count in
    inversions_joined π (map length αs) (lifted π αs) (omega (arith, length-map αs (λ (a : List ℕ). length a))) (lifted_pairs π αs w b)
    ∙ ap (λ n. n + crossing π (map length αs)) (ap (λ k. summed (λ i. inversions (lifted π αs i)) k) (sym c)
    ∙ summed_list inversions [] αs (λ i. inversions (lifted π αs i)) (λ i h. inversions_raised (raise_of π αs i) (block αs i)))
