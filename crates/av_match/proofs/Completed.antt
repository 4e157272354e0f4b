-- The first occurrence that begins with given places.
use Rattle.std.proofs.Common.{◌≡◌, ℕ, zero, suc, ◌+◌, ◌-◌, ◌<◌, ◌≤◌, inl, inr, Bool, true, false, ◌||◌, cond, List, [], ◌∷◌, ◌++◌, map, length, take, find, Some, None, refl, sym, ◌∙◌, ap, ap₂, subst, arith, append_assoc, append-nil}
use Rattle.std.specs.List.{list_any}
use Rattle.std.specs.Option.{option_or, is_some}
use Rattle.std.proofs.lemmas.Bool.{cases_lt}
use Rattle.std.proofs.lemmas.List.{take_all, map-append, length-append, get_or-append-add}
use Rattle.std.proofs.lemmas.List.Folds.{find-append}
use Rattle.av_perm.specs.Lists.{choices, before_each}
use Rattle.av_perm.specs.Word.{places}
use Rattle.av_perm.specs.Contain.{same_order, at_places, contains, first_occurrence}
use Rattle.av_perm.specs.Relations.{at, SameOrder}
use Rattle.av_perm.proofs.Membership.{In_map}
use Rattle.av_perm.proofs.Orders.{order_from, order_to}
use Rattle.av_perm.proofs.Occurrences.{occurrence_found}
use Rattle.av_perm.proofs.RisingLists.{Rising, length_counting, choices_rise, rising_at, rising_up}
use Rattle.av_perm.proofs.Tests.{any_from, found_any}
use Rattle.av_match.specs.Places.{ArePlaces}
use Rattle.av_match.specs.Search.{GoesOn, IsBegun, IsWhole, completed, places_from}
use Rattle.av_match.proofs.Begun.{placed_more}

-- ---- whether anything goes on with the places chosen

-- as many places are chosen as the pattern has
pub completed_whole : (w p cs xs : List ℕ) → length cs ≡ length p → IsBegun w p cs → completed w p cs xs ≡ Some cs
unfolding completed choices
completed_whole w p cs xs e begun =
    let z : length p - length cs ≡ 0 = omega arith in
    let whole : SameOrder (at_places w cs) p = subst (λ (q : List ℕ). SameOrder (at_places w cs) q) (take_all (length cs) p (omega arith)) begun.order in
    rw (z, append-nil cs, order_to (at_places w cs) p whole) refl

-- fewer places are left than the pattern still needs
choices_short : (k : ℕ) (xs : List ℕ) → length xs < k → choices k xs ≡ []
unfolding choices
choices_short zero xs lt = absurd (omega arith)
choices_short (suc k) [] lt = refl
choices_short (suc k) (x ∷ xs) lt = rw (choices_short k xs (omega arith), choices_short (suc k) xs (omega arith)) refl

-- the same of the places from one on
pub completed_short : (w p cs : List ℕ) (from : ℕ) → suc (length w) - from < length p - length cs → completed w p cs (places_from w from) ≡ None
unfolding completed
completed_short w p cs from lt =
    let n = length_counting (suc (length w) - from) from in
    rw (choices_short (length p - length cs) (places_from w from) (omega arith)) refl

-- no occurrence begins with the places chosen
completed_not : (w p cs : List ℕ) (from : ℕ) → 1 ≤ from → length cs ≤ length p → ((s : ℕ) → s < length cs → (1 ≤ at cs s) × (at cs s ≤ length w))
    → ((rest : List ℕ) → IsWhole w p (cs ++ rest) → Rising from (from + (suc (length w) - from)) rest → ⊥) → completed w p cs (places_from w from) ≡ None
unfolding completed
completed_not w p cs from one le placed none =
    let passes : List ℕ → Bool = λ ps. same_order (at_places w ps) p in
    let rs = choices (length p - length cs) (places_from w from) in
    (found_any passes (map (λ rest. cs ++ rest) rs)).1 (λ h.
    let r = any_from passes (map (λ rest. cs ++ rest) rs) h in
    let q = In_map (λ (rest : List ℕ). cs ++ rest) rs r.0 r.1 in
    let c = choices_rise (suc (length w) - from) (length p - length cs) from q.0 q.1 in
    let n : length (cs ++ q.0) ≡ length p = omega (arith, length-append cs q.0, c.0) in
    none q.0 (record {
      begun = record {
        placed = placed_all cs q.0 placed (λ s k. let b = rising_at from (from + (suc (length w) - from)) q.0 c.1 s k in (omega (arith, b), omega (arith, b)));
        order = subst (λ (t : List ℕ). SameOrder (at_places w (cs ++ q.0)) t) (sym (take_all (length (cs ++ q.0)) p (omega (arith, n))))
            (order_from (at_places w (cs ++ q.0)) p (rw (← q.2) r.2));
      };
      count = n;
    }) c.1)
  where
    placed_all : (cs ds : List ℕ) → ((s : ℕ) → s < length cs → (1 ≤ at cs s) × (at cs s ≤ length w)) → ((s : ℕ) → s < length ds → (1 ≤ at ds s) × (at ds s ≤ length w))
        → (s : ℕ) → s < length (cs ++ ds) → (1 ≤ at (cs ++ ds) s) × (at (cs ++ ds) s ≤ length w)
    placed_all [] ds f g s h = g s h
    placed_all (x ∷ cs) ds f g zero h = f zero (omega arith)
    placed_all (x ∷ cs) ds f g (suc s) h = placed_all cs ds (λ t k. f (suc t) (omega arith)) g s (omega arith)

-- ---- one place more

-- the choices that take x are those after x was chosen
map_before : (cs : List ℕ) (x : ℕ) (rs : List (List ℕ)) → map (λ rest. cs ++ rest) (before_each x rs) ≡ map (λ rest. (cs ++ x ∷ []) ++ rest) rs
map_before cs x [] = refl
map_before cs x (r ∷ rs) = ap₂ (λ (z : List ℕ) (zs : List (List ℕ)). z ∷ zs) (sym (append_assoc cs (x ∷ []) r)) (map_before cs x rs)

-- the first that takes the next place, else the first that does not
completed_step : (w p cs : List ℕ) (x : ℕ) (xs : List ℕ) → length cs < length p
    → completed w p cs (x ∷ xs) ≡ option_or (completed w p (cs ++ x ∷ []) xs) (completed w p cs xs)
unfolding completed choices
completed_step w p cs x xs lt =
    let k : ℕ = length p - suc (length cs) in
    let e : length p - length cs ≡ suc k = omega arith in
    let n : length (cs ++ x ∷ []) ≡ suc (length cs) = omega (arith, length-append cs (x ∷ [])) in
    rw (n, e, map-append (λ rest. cs ++ rest) (before_each x (choices k xs)) (choices (suc k) xs), map_before cs x (choices k xs))
    (find-append (λ ps. same_order (at_places w ps) p) (map (λ rest. (cs ++ x ∷ []) ++ rest) (choices k xs)) (map (λ rest. cs ++ rest) (choices (suc k) xs)))

-- the places from one on, by the first of them
places_step : (w : List ℕ) (from : ℕ) → from ≤ length w → places_from w from ≡ from ∷ places_from w (from + 1)
places_step w from le =
    let k : ℕ = length w - from in
    let e : suc (length w) - from ≡ suc k = omega arith in
    let f : suc (length w) - (from + 1) ≡ k = omega arith in
    let g : from + 1 ≡ suc from = omega arith in
    rw (e, f, g) refl

-- the first that takes the place is the first from it on
pub found_here : (w p cs : List ℕ) (from : ℕ) (ps : List ℕ) → from ≤ length w → length cs < length p
    → Some ps ≡ completed w p (cs ++ from ∷ []) (places_from w (from + 1)) → Some ps ≡ completed w p cs (places_from w from)
found_here w p cs from ps le lt e = rw (places_step w from le, completed_step w p cs from (places_from w (from + 1)) lt, ← e) refl

-- none takes the place
pub found_later : (w p cs : List ℕ) (from : ℕ) → from ≤ length w → length cs < length p
    → None ≡ completed w p (cs ++ from ∷ []) (places_from w (from + 1)) → completed w p cs (places_from w (from + 1)) ≡ completed w p cs (places_from w from)
found_later w p cs from le lt e = rw (places_step w from le, completed_step w p cs from (places_from w (from + 1)) lt, ← e) refl

-- none takes the place, since no occurrence goes on with it
pub found_not : (w p cs : List ℕ) (from place : ℕ) → IsBegun w p cs → 1 ≤ place → from ≤ place → place ≤ length w → length cs < length p
    → ((rest : List ℕ) → GoesOn w p cs from place rest → ⊥) → completed w p cs (places_from w (place + 1)) ≡ completed w p cs (places_from w place)
found_not w p cs from place begun one first le lt none =
    let hi : ℕ = place + 1 + (suc (length w) - (place + 1)) in
    let next : place + 1 ≡ suc place = omega arith in
    found_later w p cs place le lt
    (sym (completed_not w p (cs ++ place ∷ []) (place + 1) (omega arith) (omega (arith, length-append cs (place ∷ [])))
    (placed_more w p cs place begun one le)
    (λ rest whole rise. none rest (record {
      whole = subst (λ (ps : List ℕ). IsWhole w p ps) (append_assoc cs (place ∷ []) rest) whole;
      first = first;
      rising = rising_up place hi (place ∷ rest) (omega arith, omega arith, subst (λ (k : ℕ). Rising k hi rest) next rise);
    }))))

-- none takes a place from one on up to another, since no occurrence goes on there
pub found_after : (w p cs : List ℕ) (from place gap : ℕ) → IsBegun w p cs → 1 ≤ place → from ≤ place → length cs < length p
    → ((q : ℕ) (rest : List ℕ) → place ≤ q → q < place + gap → GoesOn w p cs from q rest → ⊥)
    → completed w p cs (places_from w (place + gap)) ≡ completed w p cs (places_from w place)
found_after w p cs from place zero begun one first lt none = let e : place + 0 ≡ place = omega arith in ap (λ (k : ℕ). completed w p cs (places_from w k)) e
found_after w p cs from place (suc gap) begun one first lt none = elim (cases_lt (length w) place) [
  | inl past ↦
      let e : suc (length w) - (place + suc gap) ≡ 0 = omega arith in
      let f : suc (length w) - place ≡ 0 = omega arith in
      rw (e, f) refl
  | inr le ↦
      let e : place + suc gap ≡ place + 1 + gap = omega arith in
      ap (λ (k : ℕ). completed w p cs (places_from w k)) e
      ∙ found_after w p cs from (place + 1) gap begun (omega arith) (omega arith) lt (λ q rest low high. none q rest (omega arith) (omega arith))
      ∙ found_not w p cs from place begun one first le lt (λ rest. none place rest (omega arith) (omega arith))
]

-- the same up to the first of some that may be taken
pub found_least : (w p cs : List ℕ) (from least : ℕ) → IsBegun w p cs → 1 ≤ from → from ≤ least → length cs < length p
    → ((q : ℕ) (rest : List ℕ) → GoesOn w p cs from q rest → least ≤ q) → completed w p cs (places_from w least) ≡ completed w p cs (places_from w from)
found_least w p cs from least begun one first lt kept =
    let e : least ≡ from + (least - from) = omega arith in
    ap (λ (k : ℕ). completed w p cs (places_from w k)) e
    ∙ found_after w p cs from from (least - from) begun one (omega arith) lt (λ q rest low high goes. let l = kept q rest goes in omega arith)

-- and none after the last
pub found_most : (w p cs : List ℕ) (from place most : ℕ) → IsBegun w p cs → 1 ≤ place → from ≤ place → most < place → length cs < length p
    → ((q : ℕ) (rest : List ℕ) → GoesOn w p cs from q rest → q ≤ most) → completed w p cs (places_from w place) ≡ None
found_most w p cs from place most begun one first past lt kept =
    let gap : ℕ = suc (length w) - place in
    sym (found_after w p cs from place gap begun one first lt (λ q rest low high goes. let l = kept q rest goes in omega arith))
    ∙ completed_short w p cs (place + gap) (omega arith)

-- places are left in the word for the rest of the pattern
pub room_left : (w p cs : List ℕ) (from place : ℕ) (rest : List ℕ) → length cs < length p → GoesOn w p cs from place rest
    → place + (length p - length cs) ≤ length w + 1
room_left w p cs from place rest lt goes =
    let long = length-append cs (place ∷ rest) in
    let last = far (length rest) (omega arith) in
    let b = goes.whole.begun.placed (length cs + length rest) (omega arith) in
    omega (arith, b.1, last, goes.whole.count, get_or-append-add cs (place ∷ rest) (length rest) 0)
  where
    far : (s : ℕ) → s < length (place ∷ rest) → place + s ≤ at (place ∷ rest) s
    far zero h = omega arith
    far (suc s) h = omega (arith, far s (omega arith), goes.rising s (suc s) (omega arith) h)

-- ---- at the start

-- no place is chosen
pub begun_empty : (w p : List ℕ) → IsBegun w p []
begun_empty w p = record {
  placed = λ s h. absurd (omega arith);
  order = record { count = refl; alike = λ s t h k. absurd (omega arith) };
}

-- nothing put before each of some lists
map_nothing : (rs : List (List ℕ)) → map (λ (rest : List ℕ). [] ++ rest) rs ≡ rs
map_nothing [] = refl
map_nothing (r ∷ rs) = ap (λ (zs : List (List ℕ)). r ∷ zs) (map_nothing rs)

-- what is found from the first place on, with nothing chosen, is the first occurrence
completed_first : (w p : List ℕ) → completed w p [] (places_from w 1) ≡ first_occurrence w p
unfolding completed first_occurrence
completed_first w p =
    let n : suc (length w) - 1 ≡ length w = omega arith in
    let k : length p - 0 ≡ length p = omega arith in
    rw (n, k, map_nothing (choices (length p) (places w))) refl

-- the same where the code holds the words and the empty list under other names
pub found_first : (v q cs w p : List ℕ) → v ≡ w → q ≡ p → cs ≡ [] → completed v q cs (places_from v 1) ≡ first_occurrence w p
found_first v q cs w p ev eq ec = rw (ev, eq, ec) (completed_first w p)

-- a pattern longer than the word has no occurrence
pub first_short : (w p : List ℕ) → length w < length p → first_occurrence w p ≡ None
first_short w p lt = sym (completed_first w p) ∙ completed_short w p [] 1 (omega arith)

-- the places of an occurrence are increasing places
pub first_places : (w p ps : List ℕ) → first_occurrence w p ≡ Some ps → ArePlaces ps
first_places w p ps e = let o = occurrence_found w p ps e in record { positive = λ s h. (o.placed s h).0; rising = o.rising }

-- some element passes a test exactly where there is a first one
any_found : (q : List ℕ → Bool) (rs : List (List ℕ)) → list_any q rs ≡ is_some (find q rs)
any_found q [] = refl
any_found q (r ∷ rs) = by (q r) (any_found q rs)
  where
    by : (t : Bool) → list_any q rs ≡ is_some (find q rs) → (t || list_any q rs) ≡ is_some (cond t (Some r) (find q rs))
    by true e = refl
    by false e = e

-- the word contains the pattern exactly where there is a first occurrence
pub contains_first : (w p : List ℕ) → contains w p ≡ is_some (first_occurrence w p)
unfolding contains first_occurrence
contains_first w p = any_found (λ ps. same_order (at_places w ps) p) (choices (length p) (places w))
