-- Inflations: each block stands in a window of values of its own, and the inflation of words is a word.
use Rattle.std.proofs.Common.{◌≡◌, ℕ, zero, suc, ◌+◌, ◌<◌, ◌≤◌, inl, inr, ◌↔◌, List, [], ◌∷◌, length, cond, ltb, lt-ltb, refl, sym, ap, ◌∙◌, subst, arith, length-append}
use Rattle.std.proofs.lemmas.Bool.{cases_lt, le-ltb}
use Rattle.std.proofs.lemmas.List.{length-map}
use Rattle.std.specs.List.{sum_by}
use Rattle.std.proofs.lemmas.List.Sums.{sum_by-cons}
use Rattle.av_perm.specs.Members.{In, Once}
use Rattle.av_perm.specs.Relations.{at, IsOneToLength, IsWord, AreBlocks, block, raised, inflate, joined, points_below}
use Rattle.av_perm.specs.Laws.{InflationLaw}
use Rattle.av_perm.proofs.Membership.{In_at, at_In, In_map, In_joined}
use Rattle.av_perm.proofs.NoRepeats.{once_from_apart, apart_from_once, once_joined}
use Rattle.av_perm.proofs.Patterns.{cond_mono}

-- a higher bound lets more blocks lie below it
below_mono : (xs : List ℕ) (αs : List (List ℕ)) (u v : ℕ) → u ≤ v → points_below u xs αs ≤ points_below v xs αs
below_mono [] αs u v h = omega arith
below_mono (x ∷ xs) [] u v h = omega arith
below_mono (x ∷ xs) (a ∷ αs) u v h = let k = below_mono xs αs u v h in let c = cond_mono x u v (length a) h in omega arith

-- and a whole block more where it passes the block's entry of the root
pub below_window : (xs : List ℕ) (αs : List (List ℕ)) (i u v : ℕ) → i < length xs → i < length αs → at xs i ≡ u → u < v
    → points_below u xs αs + length (block αs i) ≤ points_below v xs αs
below_window [] αs i u v h k e l = absurd (omega arith)
below_window (x ∷ xs) [] i u v h k e l = absurd (omega arith)
below_window (x ∷ xs) (a ∷ αs) zero u v h k e l =
    let p : cond (ltb x u) (length a) 0 ≡ 0 = ap (λ b. cond b (length a) 0) (le-ltb x u (omega arith)) in
    let q : cond (ltb x v) (length a) 0 ≡ length a = ap (λ b. cond b (length a) 0) (lt-ltb x v (omega arith)) in
    let m = below_mono xs αs u v (omega arith) in
    omega arith
below_window (x ∷ xs) (a ∷ αs) (suc i) u v h k e l =
    let r = below_window xs αs i u v (omega arith) (omega arith) e l in
    let c = cond_mono x u v (length a) (omega arith) in
    omega arith

-- how far block `i` is raised
abbrev pub raise_of : List ℕ → List (List ℕ) → ℕ → ℕ
raise_of π αs i = points_below (at π i) π αs

-- block `i` as it stands in the inflation
abbrev pub lifted : List ℕ → List (List ℕ) → ℕ → List ℕ
lifted π αs i = raised (raise_of π αs i) (block αs i)

-- the entries of a raised word
pub In_raised : (o : ℕ) (a : List ℕ) (y : ℕ) → IsOneToLength a → In y (raised o a) → (o < y) × (y ≤ o + length a)
In_raised o a y w h =
    let r = In_map (λ v. v + o) a y h in
    let s = at_In a r.0 0 r.1 in
    let b = w.within s.0 s.1 in
    (omega arith, omega arith)

-- entries of different blocks lie as the blocks' entries of the root
pub block_order : (π : List ℕ) (αs : List (List ℕ)) (i j y y' : ℕ) → IsOneToLength π → AreBlocks π αs → i < length π → j < length π
    → (i ≡ j → ⊥) → In y (lifted π αs i) → In y' (lifted π αs j) → (y < y') ↔ (at π i < at π j)
block_order π αs i j y y' w b hi hj ne iy iy' =
    let a = In_raised (raise_of π αs i) (block αs i) y (b.words i hi) iy in
    let a' = In_raised (raise_of π αs j) (block αs j) y' (b.words j hj) iy' in
    let c = b.count in
    let less : at π i < at π j → y < y' = λ l. let k = below_window π αs i (at π i) (at π j) hi (omega arith) refl l in omega arith in
    let more : at π j < at π i → y' < y = λ l. let k = below_window π αs j (at π j) (at π i) hj (omega arith) refl l in omega arith in
    let apart : at π i ≡ at π j → ⊥ = λ e. elim (cases_lt i j) [ inl l ↦ w.apart i j l hj e | inr l ↦ w.apart j i (omega arith) hi (sym e) ] in
    (λ l. elim (cases_lt (at π i) (at π j)) [ inl k ↦ k | inr k ↦ absurd (elim (cases_lt (at π j) (at π i)) [ inl m ↦ let q = more m in omega arith | inr m ↦ apart (omega arith) ]) ], less)

-- raised numbers come once where the numbers do
once_raised : (o : ℕ) (a : List ℕ) → Once a → Once (raised o a)
once_raised o [] d = tt
once_raised o (x ∷ a) d = (λ i. let r = In_map (λ v. v + o) a (x + o) i in let e : x ≡ r.0 = omega (arith, r.2) in d.0 (subst (λ v. In v a) (sym e) r.1), once_raised o a d.1)

-- no block lies above the whole inflation
below_le : (xs : List ℕ) (αs : List (List ℕ)) (o : ℕ → ℕ) (v : ℕ) → length αs ≡ length xs
    → points_below v xs αs ≤ length (joined (λ i. raised (o i) (block αs i)) (length xs))
below_le [] αs o v e = omega arith
below_le (x ∷ xs) [] o v e = omega arith
below_le (x ∷ xs) (a ∷ αs) o v e =
    let r = below_le xs αs (λ i. o (suc i)) v (omega arith) in
    let n = length-append (raised (o 0) a) (joined (λ i. raised (o (suc i)) (block αs i)) (length xs)) in
    let m = length-map a (λ w. w + o 0) in
    elim (cases_lt x v) [
      | inl l ↦ let c : cond (ltb x v) (length a) 0 ≡ length a = ap (λ b. cond b (length a) 0) (lt-ltb x v l) in omega arith
      | inr l ↦ let c : cond (ltb x v) (length a) 0 ≡ 0 = ap (λ b. cond b (length a) 0) (le-ltb x v l) in omega arith
    ]

-- the inflation of words has the numbers 1 to its length, each once
pub inflation_arrangement : (π : List ℕ) (αs : List (List ℕ)) → IsOneToLength π → AreBlocks π αs → IsOneToLength (inflate π αs)
inflation_arrangement π αs w b = record {
  within = λ s h.
      let r = In_joined (lifted π αs) (length π) (at (inflate π αs) s) (In_at (inflate π αs) s 0 h) in
      let g = In_raised (raise_of π αs r.0) (block αs r.0) (at (inflate π αs) s) (b.words r.0 r.1) r.2 in
      let k = below_window π αs r.0 (at π r.0) (suc (at π r.0)) r.1 (omega (arith, b.count)) refl (omega arith) in
      let m = below_le π αs (raise_of π αs) (suc (at π r.0)) b.count in
      (omega arith, omega arith);
  apart = apart_from_once (inflate π αs) (once_joined (length π) (lifted π αs)
      (λ i l. once_raised (raise_of π αs i) (block αs i) (once_from_apart (block αs i) (b.words i l).apart))
      (λ i j x l m p q.
      let g = block_order π αs i j x x w b (omega arith) m (λ e. omega arith) p q in
      let g' = block_order π αs j i x x w b m (omega arith) (λ e. omega arith) q p in
      elim (cases_lt (at π i) (at π j)) [
        | inl k ↦ let c = g.1 k in omega arith
        | inr k ↦ w.apart i j l m (elim (cases_lt (at π j) (at π i)) [ inl o ↦ let c = g'.1 o in absurd (omega arith) | inr o ↦ omega arith ])
      ]));
}

-- the lengths of words together
abbrev pub lengths : List (List ℕ) → ℕ
lengths [] = 0
lengths (a ∷ αs) = length a + lengths αs

-- the length of lists that are as long as the words
length_joined : (n : ℕ) (F : ℕ → List ℕ) (αs : List (List ℕ)) → length αs ≡ n → ((i : ℕ) → i < n → length (F i) ≡ length (block αs i))
    → length (joined F n) ≡ lengths αs
length_joined zero F [] e h = refl
length_joined zero F (a ∷ αs) e h = absurd (omega (arith, e))
length_joined (suc n) F [] e h = absurd (omega (arith, e))
length_joined (suc n) F (a ∷ αs) e h =
    omega (arith, length-append (F 0) (joined (λ i. F (suc i)) n), h 0 (omega arith), length_joined n (λ i. F (suc i)) αs (omega (arith, e)) (λ i l. h (suc i) (omega arith)))

-- the length of an inflation is that of the blocks together
pub length_inflate : (π : List ℕ) (αs : List (List ℕ)) → length αs ≡ length π → length (inflate π αs) ≡ lengths αs
length_inflate π αs e = length_joined (length π) (lifted π αs) αs e (λ i l. length-map (block αs i) (λ (v : ℕ). v + raise_of π αs i))

-- words of at least one entry are together at least as long as they are many
pub lengths_least : (αs : List (List ℕ)) → ((i : ℕ) → i < length αs → 1 ≤ length (block αs i)) → length αs ≤ lengths αs
lengths_least [] h = omega arith
lengths_least (a ∷ αs) h = omega (arith, h 0 (omega arith), lengths_least αs (λ i l. h (suc i) (omega arith)))

-- the lengths together as a sum
pub lengths_sum : (αs : List (List ℕ)) → lengths αs ≡ sum_by length αs
lengths_sum [] = refl
lengths_sum (a ∷ αs) = omega (arith, sum_by-cons (λ (x : List ℕ). length x) a αs, lengths_sum αs)

-- the inflation of words is a word
pub inflation_word : (π : List ℕ) (αs : List (List ℕ)) → IsWord π → AreBlocks π αs → IsWord (inflate π αs)
inflation_word π αs w b = record {
  numbers = inflation_arrangement π αs w.numbers b;
  filled = omega (arith, w.filled, length_inflate π αs b.count, lengths_least αs (λ i l. b.filled i (omega (arith, b.count))), b.count);
}

-- the laws of inflations together
pub inflation_law : InflationLaw
inflation_law = record { word = inflation_word; long = λ π αs e. length_inflate π αs e ∙ lengths_sum αs }
