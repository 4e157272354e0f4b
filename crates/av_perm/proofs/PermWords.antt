-- The words of the type `Perm`: words of length up to 160.
use Rattle.std.proofs.Common.{◌≡◌, ℕ, ◌≤◌, List, [], ◌∷◌, length, Bool, true, false, not, ◌&&◌, nat_le, nat_eq, ◌==◌, IsPermutation, refl, sym, arith, eq-eqb, eqb-true, le-leb, leb-true, get_or, subst}
use Rattle.std.specs.List.{list_any, list_all, IsDistinct, AllByRecursion}
use Rattle.std.proofs.lemmas.Bool.{and_parts, and_from, or_parts, not_from_false}
use Rattle.std.proofs.lemmas.Bool.Decides.{same_from_decides}
use Rattle.std.proofs.lemmas.List.Sums.{AllPass-from_list_all, list_all-from_AllPass}
use Rattle.std.proofs.lemmas.List.Sorted.{All-permutation, length_permutation}
use Rattle.std.proofs.lemmas.Map.Keys.{IsDistinct-IsPermutation}
use Rattle.std.proofs.lemmas.List.Elements.{All-get_or}
use Rattle.av_perm.specs.Lists.{counting}
use Rattle.av_perm.specs.Word.{is_distinct, is_word, is_perm, ArePerms}
use Rattle.av_perm.specs.Relations.{IsWord, AreWords}
use Rattle.av_perm.proofs.NoRepeats.{IsApart, apart_from_once, once_counting}
use Rattle.av_perm.proofs.RisingLists.{length_counting, counting_at}
use Rattle.av_perm.proofs.WordTests.{distinct_once, word_from, word_to}
use Rattle.av_perm.proofs.Membership.{Each, at_In}
use Rattle.av_perm.specs.declared.limits.TheConstants.{MAX_LENGTH}

-- the test of the type, as a relation
pub perm_to : (w : List ℕ) → IsWord w → length w ≤ MAX_LENGTH → is_perm w ≡ true
perm_to w word short = and_from (is_word w) (nat_le (length w) MAX_LENGTH) (word_to w word) (le-leb (length w) MAX_LENGTH short)

pub perm_word : (w : List ℕ) → is_perm w ≡ true → IsWord w
perm_word w e = word_from w (and_parts (is_word w) (nat_le (length w) MAX_LENGTH) e).0

pub perm_short : (w : List ℕ) → is_perm w ≡ true → length w ≤ MAX_LENGTH
perm_short w e = leb-true (length w) MAX_LENGTH (and_parts (is_word w) (nat_le (length w) MAX_LENGTH) e).1

-- entries of a list without repeats at two places differ
pub distinct_apart : (xs : List ℕ) → is_distinct xs ≡ true → IsApart xs
distinct_apart xs d = apart_from_once xs (distinct_once xs d)

-- 1, 2, .., n is a word
pub counting_perm : (n : ℕ) → 1 ≤ n → n ≤ MAX_LENGTH → is_perm (counting 1 n) ≡ true
counting_perm n some few =
    let long = length_counting n 1 in
    perm_to (counting 1 n)
    (record {
      numbers = record {
        within = λ s h. (omega (arith, counting_at n 1 s (omega arith)), omega (arith, counting_at n 1 s (omega arith)));
        apart = apart_from_once (counting 1 n) (once_counting n 1);
      };
      filled = omega arith;
    }) (omega arith)

-- lists without repeats in the words of std
apart_from : (xs : List ℕ) → is_distinct xs ≡ true → IsDistinct (λ a b. nat_eq b a) xs
unfolding IsDistinct
apart_from [] d = tt
apart_from (x ∷ xs) d =
    let b = and_parts (not (list_any (λ y. y == x) xs)) (is_distinct xs) d in
    (none xs (not_true (list_any (λ y. y == x) xs) b.0), apart_from xs b.1)
  where
    not_true : (a : Bool) → not a ≡ true → a ≡ false
    not_true true e = cc
    not_true false e = refl

    none : (ys : List ℕ) → list_any (λ y. y == x) ys ≡ false → AllByRecursion (λ y. nat_eq y x ≡ false) ys
    none [] e = tt
    none (y ∷ ys) e = let b = or_parts (y == x) (list_any (λ z. z == x) ys) e in (b.0, none ys b.1)

apart_to : (xs : List ℕ) → IsDistinct (λ a b. nat_eq b a) xs → is_distinct xs ≡ true
unfolding IsDistinct
apart_to [] d = refl
apart_to (x ∷ xs) d = and_from (not (list_any (λ y. y == x) xs)) (is_distinct xs) (not_from_false (list_any (λ y. y == x) xs) (none xs d.0)) (apart_to xs d.1)
  where
    none : (ys : List ℕ) → AllByRecursion (λ y. nat_eq y x ≡ false) ys → list_any (λ y. y == x) ys ≡ false
    none [] a = refl
    none (y ∷ ys) a = rw a.0 (none ys a.1)

eq_flips : (a b : ℕ) → nat_eq b a ≡ nat_eq a b
eq_flips a b = same_from_decides (nat_eq b a) (nat_eq a b) ((λ e. sym (eqb-true b a e)), (λ e. eq-eqb b a (sym e))) ((λ e. eqb-true a b e), (λ e. eq-eqb a b e))

-- a word in another order is a word
pub perm_kept : (xs ys : List ℕ) → IsPermutation xs ys → is_perm xs ≡ true → is_perm ys ≡ true
perm_kept xs ys p e =
    let long = length_permutation xs ys p in
    let a = and_parts (is_word xs) (nat_le (length xs) MAX_LENGTH) e in
    let b = and_parts (nat_le 1 (length xs)) (list_all (λ x. nat_le 1 x && nat_le x (length xs)) xs && is_distinct xs) a.0 in
    let c = and_parts (list_all (λ x. nat_le 1 x && nat_le x (length xs)) xs) (is_distinct xs) b.1 in
    rw long (and_from _ _ (and_from _ _ b.0 (and_from _ _ (kept (λ x. nat_le 1 x && nat_le x (length xs)) c.0)
    (apart_to ys (IsDistinct-IsPermutation (λ a b. nat_eq b a) eq_flips xs ys p (apart_from xs c.1))))) a.1)
  where
    kept : (t : ℕ → Bool) → list_all t xs ≡ true → list_all t ys ≡ true
    kept t h = list_all-from_AllPass t ys (All-permutation (λ x. t x ≡ true) xs ys p (AllPass-from_list_all t xs h))

-- the words of a list of the code are words, element by element
pub perms_words : (ws : List (List ℕ)) → ArePerms ws → Each IsWord ws
perms_words ws g w i =
    let s = at_In ws w [] i in
    subst IsWord s.2 (perm_word (get_or ws s.0 []) (All-get_or (λ v. is_perm v ≡ true) ws s.0 [] s.1 g))

-- and index by index
pub perms_are_words : (ws : List (List ℕ)) → ArePerms ws → AreWords ws
perms_are_words ws g i h = perm_word (get_or ws i []) (All-get_or (λ v. is_perm v ≡ true) ws i [] h g)
