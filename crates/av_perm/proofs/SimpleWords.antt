-- The tests for intervals and simple words test them, and the list of the simple words of a class.
use Rattle.std.proofs.Common.{◌≡◌, ℕ, suc, ◌+◌, ◌-◌, ◌<◌, ◌≤◌, ◌↔◌, max, List, length, take, drop, Bool, true, not, ◌&&◌, nat_le, nat_lt, sym, ap, ◌∙◌, arith, lt-ltb, ltb-true}
use Rattle.std.specs.List.{list_all}
use Rattle.std.proofs.lemmas.Bool.{leb-true, le-leb, and_parts, and_from}
use Rattle.std.proofs.lemmas.List.{get_or-take, get_or-drop, length-take-le, length-drop}
use Rattle.std.specs.Cmp.Lexicographic.{slice_cmp}
use Rattle.std.specs.Ordering.{nat_cmp}
use Rattle.std.proofs.lemmas.Cmp.{nat_list_cmp_total}
use Rattle.av_perm.specs.Lists.{counting}
use Rattle.av_perm.specs.Members.{In, IsListOf, Ascending}
use Rattle.av_perm.specs.Word.{words}
use Rattle.av_perm.specs.Class.{avoids_all, class_at}
use Rattle.av_perm.specs.Simple.{is_interval, is_simple}
use Rattle.av_perm.specs.Gap.{simples}
use Rattle.av_perm.specs.Relations.{at, IsOneToLength, IsInterval}
use Rattle.av_perm.specs.Laws.{SimpleLaw, IsSimpleOf}
use Rattle.av_perm.proofs.Membership.{In_at, at_In, In_filter, filter_In, counting_In, In_counting}
use Rattle.av_perm.proofs.Tests.{any_from, any_to, all_from, all_to, not_from, not_to}
use Rattle.av_perm.proofs.Ascending.{once_from_ascending, ascending_filter}
use Rattle.av_perm.proofs.Classes.{avoids_from, avoids_to}
use Rattle.av_perm.proofs.WordLists.{words_arrange, arrangement_in_words, class_ascending}

-- x is one of as many consecutive numbers from lo on as the list is long
abbrev in_window : List ℕ → ℕ → ℕ → Bool
in_window xs lo x = nat_le lo x && nat_lt x (lo + length xs)

-- all of the list lie in its window from lo on
abbrev lies_from : List ℕ → ℕ → Bool
lies_from xs lo = list_all (in_window xs lo) xs

-- no k places of the word are an interval
abbrev bare_at : List ℕ → ℕ → Bool
bare_at σ k = list_all (λ i. not (is_interval σ i k)) (counting 0 (suc (length σ) - k))

module _ (σ : List ℕ) (w : IsOneToLength σ) (i k : ℕ) (some : 1 ≤ k) (fits : i + k ≤ length σ) where
  -- the k entries after the first i
  part : List ℕ
  part = take k (drop i σ)

  -- there are k of them
  part_length : length part ≡ k
  unfolding part
  part_length = length-take-le k (drop i σ) (omega (arith, length-drop i σ))

  -- an entry of the part is one of the word
  part_at : (s : ℕ) → s < k → at part s ≡ at σ (i + s)
  unfolding part
  part_at s h = get_or-take k (drop i σ) s 0 h ∙ get_or-drop i σ s 0

  -- where the test of an interval passes there is one
  pub interval_from : is_interval σ i k ≡ true → IsInterval σ i k
  unfolding part part_length part_at
  interval_from e =
      let r = any_from (lies_from (take k (drop i σ))) (counting 1 (length σ)) e in (
        fits,
        (
          r.0,
          λ s h l.
              let n = part_length in
              let back : i + (s - i) ≡ s = omega arith in
              let here : at (take k (drop i σ)) (s - i) ≡ at σ s = part_at (s - i) (omega arith) ∙ ap (at σ) back in
              let a = and_parts (nat_le r.0 (at (take k (drop i σ)) (s - i))) (nat_lt (at (take k (drop i σ)) (s - i)) (r.0 + length (take k (drop i σ))))
              (all_from (in_window (take k (drop i σ)) r.0) (take k (drop i σ)) r.2 (at (take k (drop i σ)) (s - i)) (In_at (take k (drop i σ)) (s - i) 0 (omega arith))) in
              let b = leb-true r.0 (at (take k (drop i σ)) (s - i)) a.0 in
              let c = ltb-true (at (take k (drop i σ)) (s - i)) (r.0 + length (take k (drop i σ))) a.1 in
              (omega arith, omega arith),
        ),
      )

  -- an interval passes its test
  pub interval_to : IsInterval σ i k → is_interval σ i k ≡ true
  unfolding part part_length part_at
  interval_to v =
      let lo : ℕ = max v.1.0 1 in
      let n = part_length in
      let first = v.1.1 i (omega arith) (omega arith) in
      let range = w.within i (omega arith) in
      any_to (lies_from (take k (drop i σ))) (counting 1 (length σ)) lo
      (counting_In (length σ) 1 lo (omega arith) (omega arith))
      (all_to (in_window (take k (drop i σ)) lo) (take k (drop i σ)) (λ x ix.
      let s = at_In (take k (drop i σ)) x 0 ix in
      let here : x ≡ at σ (i + s.0) = sym s.2 ∙ part_at s.0 (omega (arith, s.1)) in
      let b = v.1.1 (i + s.0) (omega arith) (omega (arith, s.1)) in
      let c = w.within (i + s.0) (omega (arith, s.1)) in
      and_from (nat_le lo x) (nat_lt x (lo + length (take k (drop i σ)))) (le-leb lo x (omega arith)) (lt-ltb x (lo + length (take k (drop i σ))) (omega arith))))

-- the test for simple words
pub simple_law : SimpleLaw
unfolding is_simple
simple_law σ w = (
  λ e.
      let a = and_parts (nat_le 4 (length σ)) (list_all (bare_at σ) (counting 2 (length σ - 2))) e in
      let l = leb-true 4 (length σ) a.0 in
      record {
        numbers = w;
        long = l;
        bare = λ i m h k v.
            not_from (is_interval σ i m)
            (all_from (λ i. not (is_interval σ i m)) (counting 0 (suc (length σ) - m))
            (all_from (bare_at σ) (counting 2 (length σ - 2)) a.1 m (counting_In (length σ - 2) 2 m h (omega arith)))
            i (counting_In (suc (length σ) - m) 0 i (omega arith) (omega (arith, v.0))))
            (interval_to σ w i m (omega arith) v.0 v);
      },
  λ p.
      and_from (nat_le 4 (length σ)) (list_all (bare_at σ) (counting 2 (length σ - 2))) (le-leb 4 (length σ) p.long)
      (all_to (bare_at σ) (counting 2 (length σ - 2)) (λ k ik.
      let r = In_counting (length σ - 2) 2 k ik in
      let l = p.long in
      all_to (λ i. not (is_interval σ i k)) (counting 0 (suc (length σ) - k)) (λ i ii.
      let q = In_counting (suc (length σ) - k) 0 i ii in
      not_to (is_interval σ i k) (λ t. p.bare i k r.0 (omega (arith, r.1)) (interval_from σ w i k (omega (arith, r.0)) (omega (arith, q.1, r.1)) t))))),
)

-- the simple words of a class
pub simples_ascending : (basis : List (List ℕ)) (m : ℕ) → Ascending (slice_cmp nat_cmp) (simples basis m)
unfolding simples
simples_ascending basis m = ascending_filter (slice_cmp nat_cmp) is_simple (class_at basis m) (class_ascending basis m)

-- a word is in the list exactly where it is simple and in the class
pub simples_are : (basis : List (List ℕ)) (m : ℕ) (w : List ℕ) → In w (simples basis m) ↔ IsSimpleOf basis m w
unfolding simples
simples_are basis m w = (
  λ h.
      let r = In_filter is_simple (class_at basis m) w h in
      let q = In_filter (avoids_all basis) (words m) w r.0 in
      let x = words_arrange m w q.0 in
      let s = (simple_law w x.0).0 r.1 in
      let l = s.long in
      record {
        simple = s;
        member = record { member = record { word = record { numbers = x.0; filled = omega arith }; avoids = avoids_from basis w q.1 }; long = x.1 };
      },
  λ h.
      filter_In is_simple (class_at basis m) w
      (filter_In (avoids_all basis) (words m) w (arrangement_in_words m w h.simple.numbers h.member.long) (avoids_to basis w h.member.member.avoids))
      ((simple_law w h.simple.numbers).1 h.simple),
)

-- each of them once
pub simples_list : (basis : List (List ℕ)) (m : ℕ) → IsListOf (IsSimpleOf basis m) (simples basis m)
simples_list basis m = record {
  members = simples_are basis m;
  once = once_from_ascending (slice_cmp nat_cmp) nat_list_cmp_total (simples basis m) (simples_ascending basis m);
}
