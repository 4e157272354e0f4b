-- An inflation as a map from places to blocks, and back.
use Rattle.std.proofs.Common.{◌≡◌, ℕ, zero, suc, ◌+◌, ◌<◌, ◌≤◌, ◌≢◌, inl, inr, ◌↔◌, List, [], ◌∷◌, ◌++◌, map, length, cond, ltb, lt-ltb, refl, sym, ap, ◌∙◌, subst, ap₂, arith, length-append}
use Rattle.std.proofs.lemmas.Bool.{cases_lt, le-ltb}
use Rattle.std.proofs.lemmas.List.{length-map}
use Rattle.av_perm.specs.Lists.{counting}
use Rattle.av_perm.specs.Members.{In}
use Rattle.av_perm.specs.Relations.{at, IsOneToLength, AreBlocks, block, raised, inflate, joined, points_below, smaller, pattern_of}
use Rattle.av_perm.specs.Fibre.{fibre}
use Rattle.av_perm.proofs.Membership.{In_at}
use Rattle.av_perm.proofs.NoRepeats.{once_from_apart, apart_from_once}
use Rattle.av_perm.proofs.Listings.{listed_length, listed_at}
use Rattle.av_perm.proofs.Patterns.{word_smaller, word_pattern, pattern_word, pattern_raised}
use Rattle.av_perm.proofs.Pairings.{Pair, tos, Placed, twins, twins_froms, twins_placed, twins_same}
use Rattle.av_perm.proofs.Fibres.{fibre_at, at_fibre, fibre-map, fibre_once, joined_same, fibres_joined}
use Rattle.av_perm.proofs.Inflations.{raise_of, lifted}
use Rattle.av_perm.proofs.InflatedPatterns.{Sends, embedding_of}

-- sums
abbrev pub sumf : (ℕ → ℕ) → ℕ → ℕ
sumf g zero = 0
sumf g (suc n) = g 0 + sumf (λ j. g (suc j)) n

-- sums of equal numbers are equal
sum_same : (n : ℕ) (g h : ℕ → ℕ) → ((j : ℕ) → j < n → g j ≡ h j) → sumf g n ≡ sumf h n
sum_same zero g h e = refl
sum_same (suc n) g h e = ap₂ (λ (a b : ℕ). a + b) (e 0 (omega arith)) (sum_same n (λ j. g (suc j)) (λ j. h (suc j)) (λ j l. e (suc j) (omega arith)))

-- a sum without one of its numbers
sum_but : (n i : ℕ) (g h : ℕ → ℕ) → i < n → ((j : ℕ) → j < n → j ≢ i → g j ≡ h j) → h i ≡ 0 → sumf g n ≡ g i + sumf h n
sum_but zero i g h l e z = absurd (omega arith)
sum_but (suc n) zero g h l e z = omega (arith, sum_same n (λ j. g (suc j)) (λ j. h (suc j)) (λ j k. e (suc j) (omega arith) (λ q. omega arith)))
sum_but (suc n) (suc i) g h l e z = omega (arith, e 0 (omega arith) (λ q. omega arith), sum_but n i (λ j. g (suc j)) (λ j. h (suc j)) (omega arith) (λ j k q. e (suc j) (omega arith) (λ r. q (omega arith))) z)

-- greater numbers have a greater sum
sum_le : (n : ℕ) (g h : ℕ → ℕ) → ((j : ℕ) → j < n → g j ≤ h j) → sumf g n ≤ sumf h n
sum_le zero g h e = omega arith
sum_le (suc n) g h e = omega (arith, e 0 (omega arith), sum_le n (λ j. g (suc j)) (λ j. h (suc j)) (λ j l. e (suc j) (omega arith)))

-- numbers that are each at most others and have the same sum are those
sum_equal : (n : ℕ) (g h : ℕ → ℕ) → ((j : ℕ) → j < n → g j ≤ h j) → sumf g n ≡ sumf h n → (j : ℕ) → j < n → g j ≡ h j
sum_equal zero g h e q j l = absurd (omega arith)
sum_equal (suc n) g h e q zero l = omega (arith, e 0 (omega arith), sum_le n (λ j. g (suc j)) (λ j. h (suc j)) (λ j l. e (suc j) (omega arith)))
sum_equal (suc n) g h e q (suc j) l = sum_equal n (λ j. g (suc j)) (λ j. h (suc j)) (λ j l. e (suc j) (omega arith)) (omega (arith, e 0 (omega arith), sum_le n (λ j. g (suc j)) (λ j. h (suc j)) (λ j l. e (suc j) (omega arith)))) j (omega arith)

-- the length of many lists joined
length_joined : {A : Type 0} (n : ℕ) (F : ℕ → List A) → length (joined F n) ≡ sumf (λ j. length (F j)) n
length_joined zero F = refl
length_joined (suc n) F = length-append (F 0) (joined (λ i. F (suc i)) n) ∙ ap (λ m. length (F 0) + m) (length_joined n (λ i. F (suc i)))

-- how many entries of two lists are below a number
smaller_append : (v : ℕ) (xs ys : List ℕ) → smaller v (xs ++ ys) ≡ smaller v xs + smaller v ys
smaller_append v [] ys = omega arith
smaller_append v (x ∷ xs) ys = omega (arith, smaller_append v xs ys)

-- how many entries of many lists are below a number
smaller_joined : (n : ℕ) (v : ℕ) (F : ℕ → List ℕ) → smaller v (joined F n) ≡ sumf (λ j. smaller v (F j)) n
smaller_joined zero v F = refl
smaller_joined (suc n) v F = smaller_append v (F 0) (joined (λ i. F (suc i)) n) ∙ ap (λ m. smaller v (F 0) + m) (smaller_joined n v (λ i. F (suc i)))

-- the lengths of the lower blocks as a sum over all blocks
below_sum : (xs : List ℕ) (αs : List (List ℕ)) (w : ℕ) → length αs ≡ length xs
    → points_below w xs αs ≡ sumf (λ j. cond (ltb (at xs j) w) (length (block αs j)) 0) (length xs)
below_sum [] αs w e = refl
below_sum (x ∷ xs) [] w e = absurd (omega arith)
below_sum (x ∷ xs) (a ∷ αs) w e = ap (λ m. cond (ltb x w) (length a) 0 + m) (below_sum xs αs w (omega arith))

-- all entries are below a number
smaller_all : (v : ℕ) (xs : List ℕ) → ((x : ℕ) → In x xs → x < v) → smaller v xs ≡ length xs
smaller_all v [] h = refl
smaller_all v (x ∷ xs) h = ap₂ (λ (a b : ℕ). a + b) (ap (λ b. cond {A = ℕ} b 1 0) (lt-ltb x v (h x (inl refl)))) (smaller_all v xs (λ y i. h y (inr i))) ∙ one (length xs)
  where
    one : (n : ℕ) → 1 + n ≡ suc n
    one n = omega arith

-- no entry is below a number
smaller_none : (v : ℕ) (xs : List ℕ) → ((x : ℕ) → In x xs → v ≤ x) → smaller v xs ≡ 0
smaller_none v [] h = refl
smaller_none v (x ∷ xs) h = ap₂ (λ (a b : ℕ). a + b) (ap (λ b. cond {A = ℕ} b 1 0) (le-ltb x v (h x (inl refl)))) (smaller_none v xs (λ y i. h y (inr i)))

-- the blocks of a map: the patterns of its fibres
abbrev pub blocks_of : List ℕ → List ℕ → ℕ → List (List ℕ)
blocks_of σ e k = map (λ i. pattern_of (fibre σ e i)) (counting 0 k)

-- block i is the pattern of fibre i
pub blocks_at : (σ e : List ℕ) (k i : ℕ) → i < k → block (blocks_of σ e k) i ≡ pattern_of (fibre σ e i)
blocks_at σ e k i h = listed_at (λ j. pattern_of (fibre σ e j)) k i [] h

-- each child is reached
abbrev pub Onto : ℕ → List ℕ → Type 0
Onto k e = (i : ℕ) → i < k → (s : ℕ) × (s < length e) × (at e s ≡ i)

-- a list with an element has a pattern with an entry
pub pattern_filled : (l : List ℕ) (x : ℕ) → In x l → 1 ≤ length (pattern_of l)
pattern_filled [] x i = absurd i
pattern_filled (y ∷ l) x i = omega arith

-- the blocks of a map onto the root are words
pub blocks_are : (σ π e : List ℕ) → IsOneToLength σ → Sends π σ e → Onto (length π) e → AreBlocks π (blocks_of σ e (length π))
blocks_are σ π e w m o = record {
  count = listed_length (λ i. pattern_of (fibre σ e i)) (length π);
  words = λ i h. subst IsOneToLength (sym (blocks_at σ e (length π) i h)) (pattern_word (fibre σ e i) (apart_from_once (fibre σ e i) (fibre_once σ e i (once_from_apart σ w.apart))));
  filled = λ i h.
      let r = o i h in
      subst (λ (l : List ℕ). 1 ≤ length l) (sym (blocks_at σ e (length π) i h)) (pattern_filled (fibre σ e i) (at σ r.0) (subst (λ j. In (at σ r.0) (fibre σ e j)) r.2 (at_fibre σ e r.0 0 (omega (arith, m.count, r.1)) r.1)));
}

-- an entry in its fibre: its rank there and that by which the block is raised make its value
entry_is : (σ π e : List ℕ) (αs : List (List ℕ)) (i v : ℕ) → IsOneToLength σ → Sends π σ e → length αs ≡ length π
    → ((j : ℕ) → j < length π → length (block αs j) ≡ length (fibre σ e j)) → i < length π → In v (fibre σ e i)
    → suc (smaller v (fibre σ e i)) + raise_of π αs i ≡ v
entry_is σ π e αs i v w m n same hi iv =
    let k = length π in
    let place = fibre_at σ e i v 0 iv in
    let range = w.within place.0 place.1 in
    let g : ℕ → ℕ = λ j. smaller v (fibre σ e j) in
    let h : ℕ → ℕ = λ j. cond (ltb (at π j) (at π i)) (length (block αs j)) 0 in
    let whole : smaller v σ ≡ sumf g k = ap (smaller v) (sym (fibres_joined σ e k m.count m.children m.rising)) ∙ smaller_joined k v (fibre σ e) in
    let parts : sumf g k ≡ g i + sumf h k = sum_but k i g h hi (λ j hj ne. other j hj ne) (ap (λ b. cond b (length (block αs i)) 0) (le-ltb (at π i) (at π i) (omega arith))) in
    let low : raise_of π αs i ≡ sumf h k = below_sum π αs (at π i) n in
    let all : suc (smaller v σ) ≡ v = word_smaller σ v w (subst (λ u. 1 ≤ u) place.4 range.0) (subst (λ u. u ≤ length σ) place.4 range.1) in
    omega arith
  where
    cmp : (j : ℕ) → j < length π → j ≢ i → (x : ℕ) → In x (fibre σ e j) → (x < v) ↔ (at π j < at π i)
    cmp j hj ne x ix =
        let p = fibre_at σ e i v 0 iv in
        let q = fibre_at σ e j x 0 ix in
        let a = m.across q.0 p.0 q.2 p.2 (λ h. ne (omega (arith, q.3, p.3))) in
        let b : at π (at e q.0) ≡ at π j = ap (at π) q.3 in
        let c : at π (at e p.0) ≡ at π i = ap (at π) p.3 in
        (λ l. let r = a.0 (omega arith) in omega arith, λ l. let r = a.1 (omega arith) in omega arith)

    other : (j : ℕ) → j < length π → j ≢ i → smaller v (fibre σ e j) ≡ cond (ltb (at π j) (at π i)) (length (block αs j)) 0
    other j hj ne = elim (cases_lt (at π j) (at π i)) [
      | inl l ↦ smaller_all v (fibre σ e j) (λ x ix. (cmp j hj ne x ix).1 l) ∙ sym (same j hj) ∙ sym (ap (λ b. cond b (length (block αs j)) 0) (lt-ltb (at π j) (at π i) l))
      | inr l ↦ smaller_none v (fibre σ e j) (λ x ix. elim (cases_lt x v) [ inl r ↦ let q = (cmp j hj ne x ix).0 r in absurd (omega arith) | inr r ↦ r ]) ∙ sym (ap (λ b. cond b (length (block αs j)) 0) (le-ltb (at π j) (at π i) l))
    ]

-- a map that is undone gives the list back
map_back : (f g : ℕ → ℕ) (l : List ℕ) → ((v : ℕ) → In v l → g (f v) ≡ v) → map g (map f l) ≡ l
map_back f g [] h = refl
map_back f g (x ∷ l) h = ap₂ (λ (a : ℕ) (b : List ℕ). a ∷ b) (h x (inl refl)) (map_back f g l (λ v i. h v (inr i)))

-- the blocks of an embedding of a whole word give the word
pub embedding_value : (σ π e : List ℕ) → IsOneToLength σ → Sends π σ e → inflate π (blocks_of σ e (length π)) ≡ σ
embedding_value σ π e w m =
    joined_same (lifted π αs) (fibre σ e) (length π) (λ i h.
    ap (raised (raise_of π αs i)) (blocks_at σ e (length π) i h)
    ∙ map_back (λ v. suc (smaller v (fibre σ e i))) (λ v. v + raise_of π αs i) (fibre σ e i) (λ v iv. entry_is σ π e αs i v w m count (λ j hj. ap length (blocks_at σ e (length π) j hj) ∙ length-map (fibre σ e j) (λ v. suc (smaller v (fibre σ e j)))) h iv))
    ∙ fibres_joined σ e (length π) m.count m.children m.rising
  where
    αs : List (List ℕ)
    αs = blocks_of σ e (length π)

    count : length (blocks_of σ e (length π)) ≡ length π
    count = listed_length (λ i. pattern_of (fibre σ e i)) (length π)

-- pairs as many as the word
placed_le : (z : List Pair) (ys : List ℕ) → Placed z ys → length z ≤ length ys
placed_le [] ys h = omega arith
placed_le (p ∷ z) [] h = absurd h
placed_le (p ∷ z) (y ∷ ys) (inl h) = omega (arith, placed_le z ys h.1)
placed_le (p ∷ z) (y ∷ ys) (inr h) = omega (arith, placed_le (p ∷ z) ys h)

-- pairs as many as the list are the list
placed_full : (z : List Pair) (ys : List ℕ) → Placed z ys → length z ≡ length ys → tos z ≡ ys
placed_full [] [] h e = refl
placed_full [] (y ∷ ys) h e = absurd (omega arith)
placed_full (p ∷ z) [] h e = absurd h
placed_full (p ∷ z) (y ∷ ys) (inl h) e = ap₂ (λ (a : ℕ) (b : List ℕ). a ∷ b) h.0 (placed_full z ys h.1 (omega arith))
placed_full (p ∷ z) (y ∷ ys) (inr h) e = absurd (omega (arith, placed_le (p ∷ z) ys h))

-- each entry beside itself: the second ones
twins_tos : (w : List ℕ) → tos (twins w) ≡ w
twins_tos [] = refl
twins_tos (v ∷ w) = ap (λ l. v ∷ l) (twins_tos w)

-- each inflation comes from an embedding of the whole word
pub value_embedding : (σ π : List ℕ) (αs : List (List ℕ)) → IsOneToLength π → AreBlocks π αs → inflate π αs ≡ σ
    → (e : List ℕ) × Sends π σ e × Onto (length π) e × ((i : ℕ) → i < length π → block αs i ≡ pattern_of (fibre σ e i))
value_embedding σ π αs w b q =
    let z : List Pair = twins σ in
    let r = embedding_of π σ αs w b z (twins_froms σ) (subst (Placed (twins σ)) (sym q) (twins_placed σ)) (λ u v iu iv. let a = twins_same σ u iu in let c = twins_same σ v iv in (λ l. omega arith, λ l. omega arith)) in
    let e : List ℕ = r.0 in
    let k = length π in
    let F : ℕ → List ℕ = λ i. lifted π αs i in
    let total : sumf (λ j. length (fibre z e j)) k ≡ sumf (λ j. length (F j)) k =
    sym (length_joined k (fibre z e)) ∙ ap length (fibres_joined z e k r.1.count r.1.children r.1.rising) ∙ sym (length-map z (λ (p : Pair). p.to)) ∙ ap length (twins_tos σ ∙ sym q) ∙ length_joined k F in
    let lens = sum_equal k (λ j. length (fibre z e j)) (λ j. length (F j)) (λ j h. placed_le (fibre z e j) (F j) (r.1.held j h)) total in
    let is : (i : ℕ) → i < k → fibre σ e i ≡ F i = λ i h. sym (fibre-map (λ (p : Pair). p.to) z e i ∙ ap (λ l. fibre l e i) (twins_tos σ)) ∙ placed_full (fibre z e i) (F i) (r.1.held i h) (lens i h) in
    let made : (i : ℕ) → i < k → block αs i ≡ pattern_of (fibre σ e i) = λ i h. sym (ap pattern_of (is i h) ∙ pattern_raised (raise_of π αs i) (block αs i) ∙ word_pattern (block αs i) (b.words i h)) in (
      e,
      r.2,
      λ i h.
          let n : 1 ≤ length (fibre σ e i) = omega (arith, ap length (is i h), length-map (block αs i) (λ v. v + raise_of π αs i), b.filled i h) in
          let p = fibre_at σ e i (at (fibre σ e i) 0) 0 (In_at (fibre σ e i) 0 0 n) in
          (p.0, p.2, p.3),
      made,
    )
