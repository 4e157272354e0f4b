-- An inflation, made block by block.
use Rattle.std.proofs.Common.{◌≡◌, ℕ, zero, suc, ◌+◌, ◌<◌, ◌≤◌, List, [], ◌∷◌, ◌++◌, length, take, cond, ltb, Bool, true, false, refl, sym, ap, ◌∙◌, arith, append-nil, append_assoc, sum_by, get_or, length-append}
use Rattle.std.proofs.lemmas.List.{length-map, get_or_default}
use Rattle.std.proofs.lemmas.List.Sums.{sum_by-take-drop}
use Rattle.av_perm.specs.Relations.{at, block, raised, inflate, joined, points_below}
use Rattle.av_perm.specs.Word.{is_perm}
use Rattle.av_perm.proofs.Inflations.{below_window, lengths, lengths_sum, length_inflate, inflation_word}
use Rattle.av_perm.proofs.PermWords.{perm_to, perm_word}
use Rattle.av_perm.specs.declared.limits.TheConstants.{MAX_LENGTH}

-- one more list at the end
pub joined_more : {A : Type 0} (n : ℕ) (F : ℕ → List A) → joined F n ++ F n ≡ joined F (suc n)
joined_more zero F = sym (append-nil (F 0))
joined_more (suc n) F = append_assoc (F 0) (joined (λ i. F (suc i)) n) (F (suc n)) ∙ ap (λ xs. F 0 ++ xs) (joined_more n (λ i. F (suc i)))

-- the blocks below a value, one more block
pub below_more : (v : ℕ) (xs : List ℕ) (αs : List (List ℕ)) (i : ℕ) → i < length xs → i < length αs
    → points_below v (take (suc i) xs) (take (suc i) αs) ≡ points_below v (take i xs) (take i αs) + cond (ltb (at xs i) v) (length (block αs i)) 0
below_more v [] αs i hx ha = absurd (omega arith)
below_more v (x ∷ xs) [] i hx ha = absurd (omega arith)
below_more v (x ∷ xs) (a ∷ αs) zero hx ha = omega arith
below_more v (x ∷ xs) (a ∷ αs) (suc i) hx ha = omega (arith, below_more v xs αs i (omega arith) (omega arith))

-- they are no longer than all together
pub below_few : (v : ℕ) (xs : List ℕ) (αs : List (List ℕ)) → points_below v xs αs ≤ sum_by length αs
below_few v xs αs = omega (arith, by v xs αs, lengths_sum αs)
  where
    choose : (b : Bool) (n : ℕ) → cond b n 0 ≤ n
    choose true n = omega arith
    choose false n = omega arith

    by : (v : ℕ) (xs : List ℕ) (αs : List (List ℕ)) → points_below v xs αs ≤ lengths αs
    by v [] αs = omega arith
    by v (x ∷ xs) [] = omega arith
    by v (x ∷ xs) (a ∷ αs) = omega (arith, choose (ltb x v) (length a), by v xs αs)

-- and neither are the first ones
pub below_first_few : (v : ℕ) (xs : List ℕ) (αs : List (List ℕ)) (i : ℕ) → points_below v (take i xs) (take i αs) ≤ sum_by length αs
below_first_few v xs αs i = omega (arith, below_few v (take i xs) (take i αs), sum_by-take-drop (λ (a : List ℕ). length a) αs i)

-- a raised block has room
pub raise_few : (xs : List ℕ) (αs : List (List ℕ)) (i : ℕ) → i < length xs → i < length αs → points_below (at xs i) xs αs + length (block αs i) ≤ sum_by length αs
raise_few xs αs i hx ha = omega (arith, below_window xs αs i (at xs i) (suc (at xs i)) hx ha refl (omega arith), below_few (suc (at xs i)) xs αs)

-- the first blocks and one more
pub joined_few : (F : ℕ → List ℕ) (αs : List (List ℕ)) (i : ℕ) → i < length αs → ((k : ℕ) → length (F k) ≡ length (block αs k)) → length (joined F i) + length (block αs i) ≤ lengths αs
joined_few F [] i h e = absurd (omega arith)
joined_few F (a ∷ αs) zero h e = omega arith
joined_few F (a ∷ αs) (suc i) h e =
    omega (arith, length-append (F 0) (joined (λ k. F (suc k)) i), e 0, joined_few (λ k. F (suc k)) αs i (omega arith) (λ k. e (suc k)))

-- the blocks that stand already leave room for the next
pub block_room : (π : List ℕ) (αs : List (List ℕ)) (i : ℕ) → i < length αs
    → length (joined (λ k. raised (points_below (at π k) π αs) (block αs k)) i) + length (block αs i) ≤ sum_by length αs
block_room π αs i h =
    omega (arith, lengths_sum αs, joined_few (λ k. raised (points_below (at π k) π αs) (block αs k)) αs i h (λ k. length-map (block αs k) (λ (v : ℕ). v + points_below (at π k) π αs)))

-- an element that is read is the block
pub block_is : (αs : List (List ℕ)) (i : ℕ) (a : List ℕ) → i < length αs → a ≡ get_or αs i a → a ≡ block αs i
block_is αs i a h e = e ∙ get_or_default αs i a [] h

-- the inflation of a word of the type by such words is one, where it is short enough
pub inflation_perm : (π : List ℕ) (αs : List (List ℕ)) → is_perm π ≡ true → length αs ≡ length π → ((i : ℕ) → i < length π → is_perm (block αs i) ≡ true)
    → sum_by length αs ≤ MAX_LENGTH → is_perm (inflate π αs) ≡ true
inflation_perm π αs root count words few =
    perm_to (inflate π αs)
    (inflation_word π αs (perm_word π root)
    (record { count = count; words = λ i h. (perm_word (block αs i) (words i h)).numbers; filled = λ i h. (perm_word (block αs i) (words i h)).filled }))
    (omega (arith, length_inflate π αs count, lengths_sum αs))
