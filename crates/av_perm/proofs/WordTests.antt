-- The test for words tests words.
use Rattle.std.proofs.Common.{◌≡◌, ℕ, List, [], ◌∷◌, length, Bool, true, not, ◌&&◌, ◌==◌, nat_le, eq-eqb, refl, subst}
use Rattle.std.specs.List.{list_all, list_any}
use Rattle.std.proofs.lemmas.Bool.{eqb-true, leb-true, le-leb, and_parts, and_from}
use Rattle.av_perm.specs.Members.{In, Once}
use Rattle.av_perm.specs.Word.{is_distinct, is_word}
use Rattle.av_perm.specs.Relations.{at, IsWord}
use Rattle.av_perm.proofs.Membership.{In_at, at_In}
use Rattle.av_perm.proofs.Tests.{any_from, any_to, all_from, all_to, not_from, not_to}
use Rattle.av_perm.proofs.NoRepeats.{once_from_apart, apart_from_once}

-- where the test passes no number comes twice
pub distinct_once : (xs : List ℕ) → is_distinct xs ≡ true → Once xs
distinct_once [] e = tt
distinct_once (x ∷ xs) e =
    let a = and_parts (not (list_any (λ y. y == x) xs)) (is_distinct xs) e in
    (λ i. not_from (list_any (λ y. y == x) xs) a.0 (any_to (λ y. y == x) xs x i (eq-eqb x x refl)), distinct_once xs a.1)

-- where no number comes twice the test passes
pub once_distinct : (xs : List ℕ) → Once xs → is_distinct xs ≡ true
once_distinct [] d = refl
once_distinct (x ∷ xs) d =
    and_from (not (list_any (λ y. y == x) xs)) (is_distinct xs)
    (not_to (list_any (λ y. y == x) xs) (λ e. let r = any_from (λ y. y == x) xs e in d.0 (subst (λ z. In z xs) (eqb-true r.0 x r.2) r.1)))
    (once_distinct xs d.1)

-- an entry is one of the numbers 1 to n
abbrev in_range : ℕ → ℕ → Bool
in_range n x = nat_le 1 x && nat_le x n

-- what passes the test is a word
pub word_from : (w : List ℕ) → is_word w ≡ true → IsWord w
word_from w e =
    let a = and_parts (nat_le 1 (length w)) (list_all (in_range (length w)) w && is_distinct w) e in
    let b = and_parts (list_all (in_range (length w)) w) (is_distinct w) a.1 in
    record {
      numbers = record {
        within = λ s h.
            let c = and_parts (nat_le 1 (at w s)) (nat_le (at w s) (length w)) (all_from (in_range (length w)) w b.0 (at w s) (In_at w s 0 h)) in
            (leb-true 1 (at w s) c.0, leb-true (at w s) (length w) c.1);
        apart = apart_from_once w (distinct_once w b.1);
      };
      filled = leb-true 1 (length w) a.0;
    }

-- a word passes the test
pub word_to : (w : List ℕ) → IsWord w → is_word w ≡ true
word_to w g =
    and_from (nat_le 1 (length w)) (list_all (in_range (length w)) w && is_distinct w) (le-leb 1 (length w) g.filled)
    (and_from (list_all (in_range (length w)) w) (is_distinct w)
    (all_to (in_range (length w)) w (λ x i.
    let s = at_In w x 0 i in
    let r = g.numbers.within s.0 s.1 in
    subst (λ v. in_range (length w) v ≡ true) s.2 (and_from (nat_le 1 (at w s.0)) (nat_le (at w s.0) (length w)) (le-leb 1 (at w s.0) r.0) (le-leb (at w s.0) (length w) r.1))))
    (once_distinct w (once_from_apart w g.numbers.apart)))
