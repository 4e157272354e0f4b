-- The tests and lists of occurrences hold exactly the occurrences.
use Rattle.std.proofs.Common.{◌≡◌, ℕ, zero, suc, ◌+◌, ◌-◌, ◌<◌, ◌≤◌, ◌↔◌, List, map, length, Some, None, Bool, true, sym, ap, ◌∙◌, subst, arith}
use Rattle.std.proofs.lemmas.List.{get_or-map, length-map}
use Rattle.av_perm.specs.Lists.{choices}
use Rattle.av_perm.specs.Word.{entry, places}
use Rattle.av_perm.specs.Contain.{contains, occurrences, first_occurrence, same_order, at_places}
use Rattle.av_perm.specs.Relations.{at, IsOccurrence, OccursAt, Contains, Avoids}
use Rattle.av_perm.specs.Members.{Ascending}
use Rattle.av_perm.specs.Laws.{HasOccurrences}
use Rattle.av_perm.proofs.Membership.{In, In_filter, filter_In}
use Rattle.av_perm.proofs.Tests.{any_from, any_to, found_In, found_any, find_first}
use Rattle.av_perm.proofs.Ascending.{once_from_ascending, ascending_filter, ascending_counting, ascending_choices}
use Rattle.std.specs.Cmp.Lexicographic.{slice_cmp}
use Rattle.std.specs.Ordering.{nat_cmp}
use Rattle.std.specs.List.{slice_get}
use Rattle.std.proofs.lemmas.Cmp.{nat_cmp_total, nat_list_cmp_total}
use Rattle.av_perm.proofs.RisingLists.{choices_rise, rise_choices, rising_at, rising_up, rising_from}
use Rattle.av_perm.proofs.Orders.{order_from, order_to}

-- the choices of places of the word, as many as the pattern has
abbrev pub tried : List ℕ → List ℕ → List (List ℕ)
tried σ τ = choices (length τ) (places σ)

-- the entries there lie as the pattern
abbrev pub passes : List ℕ → List ℕ → List ℕ → Bool
passes σ τ p = same_order (at_places σ p) τ

-- an entry by its place counted from 1 and from 0
pub entry_at : (w : List ℕ) (p : ℕ) → 1 ≤ p → entry w p ≡ at w (p - 1)
entry_at w zero h = absurd (omega arith)
entry_at w (suc p) h = let e : suc p - 1 ≡ p = omega arith in ap (at w) (sym e)

-- the entries at a list of places
at_there : (σ p : List ℕ) (s : ℕ) → s < length p → at (at_places σ p) s ≡ entry σ (at p s)
at_there σ p s h = get_or-map (entry σ) p s 0 0 h

-- a choice of places that passes is an occurrence, and each occurrence is one
pub passing_occurs : (σ τ p : List ℕ) → In p (tried σ τ) → passes σ τ p ≡ true → OccursAt σ τ p
passing_occurs σ τ p i e =
    let c = choices_rise (length σ) (length τ) 1 p i in
    let o = order_from (at_places σ p) τ e in
    let n = length-map p (entry σ) in
    record {
      count = c.0;
      placed = λ s h. let r = rising_at 1 (1 + length σ) p c.1 s h in (r.0, omega (arith, r.1));
      rising = rising_up 1 (1 + length σ) p c.1;
      alike = λ s t h k.
          let g = o.alike s t (omega (arith, c.0)) (omega (arith, c.0)) in
          let a = at_there σ p s (omega (arith, c.0)) in
          let b = at_there σ p t (omega (arith, c.0)) in
          (λ l. let x = g.1 l in omega arith, λ l. g.0 (omega arith));
    }

-- an occurrence is a choice of places that passes
pub occurring_passes : (σ τ p : List ℕ) → OccursAt σ τ p → In p (tried σ τ) × (passes σ τ p ≡ true)
occurring_passes σ τ p o =
    let n = length-map p (entry σ) in (
      subst (λ k. In p (choices k (places σ))) o.count
          (rise_choices (length σ) 1 p (rising_from 1 (1 + length σ) p (λ s h. let r = o.placed s h in (r.0, omega (arith, r.1))) o.rising)),
      order_to (at_places σ p) τ (record {
        count = n ∙ o.count;
        alike = λ s t h k.
            let g = o.alike s t (omega (arith, o.count)) (omega (arith, o.count)) in
            let a = at_there σ p s (omega arith) in
            let b = at_there σ p t (omega arith) in
            (λ l. g.1 (omega arith), λ l. let x = g.0 l in omega arith);
      }),
    )

-- places counted from 1 and from 0
pub occurs_down : (σ τ p : List ℕ) → OccursAt σ τ p → IsOccurrence σ τ (map (λ (q : ℕ). q - 1) p)
occurs_down σ τ p o =
    let n = length-map p (λ (q : ℕ). q - 1) in
    let down : (s : ℕ) → s < length p → at (map (λ (q : ℕ). q - 1) p) s ≡ at p s - 1 = λ s h. get_or-map (λ (q : ℕ). q - 1) p s 0 0 h in
    record {
      count = n ∙ o.count;
      placed = λ s h. omega (arith, down s (omega arith), o.placed s (omega arith));
      rising = λ s t h k. omega (arith, down s (omega arith), down t (omega arith), o.rising s t h (omega arith), o.placed s (omega arith), o.placed t (omega arith));
      alike = λ s t h k.
          let g = o.alike s t h k in
          let a = entry_at σ (at p s) (o.placed s (omega (arith, o.count))).0 ∙ ap (at σ) (sym (down s (omega (arith, o.count)))) in
          let b = entry_at σ (at p t) (o.placed t (omega (arith, o.count))).0 ∙ ap (at σ) (sym (down t (omega (arith, o.count)))) in
          (λ l. let x = g.0 l in omega arith, λ l. g.1 (omega arith));
    }

-- an occurrence by places from 0, with places from 1
pub occurs_up : (σ τ p : List ℕ) → IsOccurrence σ τ p → OccursAt σ τ (map suc p)
occurs_up σ τ p o =
    let n = length-map p suc in
    let up : (s : ℕ) → s < length p → at (map suc p) s ≡ suc (at p s) = λ s h. get_or-map suc p s 0 0 h in
    record {
      count = n ∙ o.count;
      placed = λ s h. raised s (up s (omega arith)) (o.placed s (omega arith));
      rising = λ s t h k. omega (arith, up s (omega arith), up t (omega arith), o.rising s t h (omega arith));
      alike = λ s t h k.
          let g = o.alike s t h k in
          let a = ap (entry σ) (up s (omega (arith, o.count))) in
          let b = ap (entry σ) (up t (omega (arith, o.count))) in
          (λ l. let x = g.0 l in omega arith, λ l. g.1 (omega arith));
    }
  where
    raised : (s : ℕ) → at (map suc p) s ≡ suc (at p s) → at p s < length σ → (1 ≤ at (map suc p) s) × (at (map suc p) s ≤ length σ)
    raised s e h = (omega arith, omega arith)

-- the test of containment
pub contains_from : (σ τ : List ℕ) → contains σ τ ≡ true → Contains σ τ
unfolding contains
contains_from σ τ e =
    let r = any_from (passes σ τ) (tried σ τ) e in
    (map (λ (q : ℕ). q - 1) r.0, occurs_down σ τ r.0 (passing_occurs σ τ r.0 r.1 r.2))

-- what contains the pattern passes the test
pub contains_to : (σ τ : List ℕ) → Contains σ τ → contains σ τ ≡ true
unfolding contains
contains_to σ τ c = let t = occurring_passes σ τ (map suc c.0) (occurs_up σ τ c.0 c.1) in any_to (passes σ τ) (tried σ τ) (map suc c.0) t.0 t.1

-- the list of occurrences, and the first
pub occurrence_listed : (σ τ p : List ℕ) → In p (occurrences σ τ) ↔ OccursAt σ τ p
unfolding occurrences
occurrence_listed σ τ p = (
  λ i. let r = In_filter (passes σ τ) (tried σ τ) p i in passing_occurs σ τ p r.0 r.1,
  λ o. let t = occurring_passes σ τ p o in filter_In (passes σ τ) (tried σ τ) p t.0 t.1,
)

-- the first occurrence is one
pub occurrence_found : (σ τ p : List ℕ) → first_occurrence σ τ ≡ Some p → OccursAt σ τ p
unfolding first_occurrence
occurrence_found σ τ p e = let r = found_In (passes σ τ) (tried σ τ) p e in passing_occurs σ τ p r.0 r.1

-- there is no first occurrence exactly where the pattern is avoided
pub none_found : (σ τ : List ℕ) → (first_occurrence σ τ ≡ None) ↔ Avoids σ τ
unfolding first_occurrence contains
none_found σ τ =
    let f = found_any (passes σ τ) (tried σ τ) in
    (λ e c. f.0 e (contains_to σ τ c), λ h. f.1 (λ t. h (contains_from σ τ t)))

-- a pattern is contained exactly where it has an occurrence with places counted from 1
pub contained_at : (σ τ : List ℕ) → Contains σ τ ↔ ((p : List ℕ) × OccursAt σ τ p)
contained_at σ τ = (
  λ c. (map suc c.0, occurs_up σ τ c.0 c.1),
  λ s. (map (λ (q : ℕ). q - 1) s.0, occurs_down σ τ s.0 s.1),
)

-- in lexicographic order, and the first of them
pub occurrences_ascending : (σ τ : List ℕ) → Ascending (slice_cmp nat_cmp) (occurrences σ τ)
unfolding occurrences
occurrences_ascending σ τ =
    ascending_filter (slice_cmp nat_cmp) (passes σ τ) (tried σ τ)
    (ascending_choices nat_cmp nat_cmp_total (length τ) (places σ) (ascending_counting (length σ) 1))

-- the first occurrence is the first of the list
pub occurrence_first : (σ τ : List ℕ) → first_occurrence σ τ ≡ slice_get (occurrences σ τ) 0
unfolding occurrences first_occurrence
occurrence_first σ τ = find_first (passes σ τ) (tried σ τ)

-- the facts on occurrences together
pub occurrences_hold : (σ τ : List ℕ) → HasOccurrences σ τ
occurrences_hold σ τ = record {
  listed = record {
    members = occurrence_listed σ τ;
    once = once_from_ascending (slice_cmp nat_cmp) nat_list_cmp_total (occurrences σ τ) (occurrences_ascending σ τ);
  };
  ascending = occurrences_ascending σ τ;
  first = occurrence_first σ τ;
  contained = contained_at σ τ;
  found = occurrence_found σ τ;
  none_found = none_found σ τ;
}
