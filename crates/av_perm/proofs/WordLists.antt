-- The list of the words of a length, and of those of a class.
use Rattle.std.proofs.Common.{◌≡◌, ℕ, zero, suc, ◌≤◌, inl, inr, List, [], ◌∷◌, length, not, ◌==◌, eq-eqb, refl, sym, ap, subst, arith}
use Rattle.std.specs.List.{filter}
use Rattle.std.specs.Cmp.Lexicographic.{slice_cmp}
use Rattle.std.specs.Ordering.{nat_cmp}
use Rattle.std.proofs.lemmas.Bool.{eqb-true}
use Rattle.std.proofs.lemmas.Cmp.{nat_list_cmp_total}
use Rattle.av_perm.specs.Lists.{counting, before_each}
use Rattle.av_perm.specs.Members.{In, Once, IsListOf, Ascending}
use Rattle.av_perm.specs.Word.{arrangements, words}
use Rattle.av_perm.specs.Class.{avoids_all, contains_all, class_at, class_with_at}
use Rattle.av_perm.specs.Relations.{at, IsOneToLength, InClassAt, InClassWithAt}
use Rattle.av_perm.specs.Laws.{IsWordOf}
use Rattle.av_perm.proofs.Membership.{In_at, at_In, In_flat_map, flat_map_In, In_filter, filter_In, In_before, before_In, In_counting, counting_In}
use Rattle.av_perm.proofs.Tests.{not_from, not_to}
use Rattle.av_perm.proofs.NoRepeats.{once_from_apart, apart_from_once}
use Rattle.av_perm.proofs.Ascending.{once_from_ascending, ascending_arrangements, ascending_counting, ascending_filter}
use Rattle.av_perm.proofs.Classes.{avoids_from, avoids_to, requires_from, requires_to}

-- the numbers of the list other than x
abbrev but : ℕ → List ℕ → List ℕ
but x xs = filter (λ y. not (y == x)) xs

-- k different elements of the list
pub record IsArrangedFrom (k : ℕ) (xs w : List ℕ) : Type 0 where
  pub long : length w ≡ k
  pub once : Once w
  pub from : (y : ℕ) → In y w → In y xs

-- an arrangement is k different elements
pub arranged : (k : ℕ) (xs w : List ℕ) → In w (arrangements k xs) → IsArrangedFrom k xs w
unfolding arrangements
arranged zero xs w (inl e) = subst (IsArrangedFrom 0 xs) (sym e) (record { long = refl; once = tt; from = λ y i. absurd i })
arranged zero xs w (inr h) = absurd h
arranged (suc k) xs w h =
    let r = In_flat_map (λ x. before_each x (arrangements k (but x xs))) xs w h in
    let q = In_before r.0 (arrangements k (but r.0 xs)) w r.2 in
    let a = arranged k (but r.0 xs) q.0 q.1 in
    subst (IsArrangedFrom (suc k) xs) (sym q.2) (record {
      long = ap suc a.long;
      once = (λ i. not_from (r.0 == r.0) (In_filter (λ y. not (y == r.0)) xs r.0 (a.from r.0 i)).1 (eq-eqb r.0 r.0 refl), a.once);
      from = λ y i. member r.0 q.0 r.1 (λ z j. (In_filter (λ y. not (y == r.0)) xs z (a.from z j)).0) y i;
    })
  where
    member : (x : ℕ) (v : List ℕ) → In x xs → ((z : ℕ) → In z v → In z xs) → (y : ℕ) → In y (x ∷ v) → In y xs
    member x v ix f y (inl e) = subst (λ z. In z xs) (sym e) ix
    member x v ix f y (inr i) = f y i

-- different elements are an arrangement
pub arranges : (w xs : List ℕ) → Once w → ((y : ℕ) → In y w → In y xs) → In w (arrangements (length w) xs)
unfolding arrangements
arranges [] xs d h = inl refl
arranges (x ∷ w) xs d h =
    flat_map_In (λ x. before_each x (arrangements (length w) (but x xs))) xs x (x ∷ w) (h x (inl refl))
    (before_In x (arrangements (length w) (but x xs)) w (arranges w (but x xs) d.1 (λ y i.
    filter_In (λ y. not (y == x)) xs y (h y (inr i)) (not_to (y == x) (λ t. d.0 (subst (λ z. In z w) (eqb-true y x t) i))))))

-- the words of a length, the empty one too
pub words_arrange : (n : ℕ) (w : List ℕ) → In w (words n) → IsOneToLength w × (length w ≡ n)
words_arrange n w h =
    let a = arranged n (counting 1 n) w h in (
      record {
        within = λ s l. let r = In_counting n 1 (at w s) (a.from (at w s) (In_at w s 0 l)) in (r.0, omega (arith, r.1, a.long));
        apart = apart_from_once w a.once;
      },
      a.long,
    )

-- the numbers 1 to n, each once, are in the list
pub arrangement_in_words : (n : ℕ) (w : List ℕ) → IsOneToLength w → length w ≡ n → In w (words n)
arrangement_in_words n w i e = subst (λ k. In w (arrangements k (counting 1 n))) e (arranges w (counting 1 n) (once_from_apart w i.apart) (λ y j.
    let s = at_In w y 0 j in
    let r = i.within s.0 s.1 in
    counting_In n 1 y (omega (arith, s.2)) (omega (arith, s.2, e))))

-- the words of a length ascend
pub words_ascending : (n : ℕ) → Ascending (slice_cmp nat_cmp) (words n)
words_ascending n = ascending_arrangements n (counting 1 n) (ascending_counting n 1)

-- each comes once
pub words_once : (n : ℕ) → Once (words n)
words_once n = once_from_ascending (slice_cmp nat_cmp) nat_list_cmp_total (words n) (words_ascending n)

-- the words of a length of at least 1
pub words_list : (n : ℕ) → 1 ≤ n → IsListOf (IsWordOf n) (words n)
words_list n h = record {
  members = λ w. (
    λ i. let a = words_arrange n w i in record { word = record { numbers = a.0; filled = omega (arith, a.1) }; long = a.1 },
    λ o. arrangement_in_words n w o.word.numbers o.long,
  );
  once = words_once n;
}

-- those of a class
pub class_ascending : (basis : List (List ℕ)) (n : ℕ) → Ascending (slice_cmp nat_cmp) (class_at basis n)
class_ascending basis n = ascending_filter (slice_cmp nat_cmp) (avoids_all basis) (words n) (words_ascending n)

-- the words of a class of a length of at least 1
pub class_list : (basis : List (List ℕ)) (n : ℕ) → 1 ≤ n → IsListOf (InClassAt basis n) (class_at basis n)
class_list basis n h = record {
  members = λ w. (
    λ i.
        let f = In_filter (avoids_all basis) (words n) w i in
        let o = ((words_list n h).members w).0 f.0 in
        record { member = record { word = o.word; avoids = avoids_from basis w f.1 }; long = o.long },
    λ c.
        filter_In (avoids_all basis) (words n) w
        (arrangement_in_words n w c.member.word.numbers c.long) (avoids_to basis w c.member.avoids),
  );
  once = once_from_ascending (slice_cmp nat_cmp) nat_list_cmp_total (class_at basis n) (class_ascending basis n);
}

-- those of a class with required words
pub class_with_ascending : (basis required : List (List ℕ)) (n : ℕ) → Ascending (slice_cmp nat_cmp) (class_with_at basis required n)
class_with_ascending basis required n = ascending_filter (slice_cmp nat_cmp) (contains_all required) (class_at basis n) (class_ascending basis n)

-- the words of a class with required words of a length of at least 1
pub class_with_list : (basis required : List (List ℕ)) (n : ℕ) → 1 ≤ n → IsListOf (InClassWithAt basis required n) (class_with_at basis required n)
class_with_list basis required n h = record {
  members = λ w. (
    λ i.
        let f = In_filter (contains_all required) (class_at basis n) w i in
        let c = ((class_list basis n h).members w).0 f.0 in
        record { member = record { member = c.member; contains = requires_from required w f.1 }; long = c.long },
    λ c.
        filter_In (contains_all required) (class_at basis n) w
        (((class_list basis n h).members w).1 (record { member = c.member.member; long = c.long })) (requires_to required w c.member.contains),
  );
  once = once_from_ascending (slice_cmp nat_cmp) nat_list_cmp_total (class_with_at basis required n) (class_with_ascending basis required n);
}
