-- The equations that the lean system keeps: each once, equation 0 first, and with each also those that its live terms use; all
-- but equation 0 are alive.
use Rattle.std.proofs.Common.{◌≡◌, ℕ, zero, suc, ◌+◌, ◌-◌, ◌≤◌, ◌<◌, ◌⊎◌, inl, inr, List, [], ◌∷◌, ◌++◌, length, get_or, slice_get, flat_map, take, true, false, Option, Some, None, refl, sym, ap, ◌∙◌, subst, arith}
use Rattle.std.proofs.lemmas.Bool.{cases_lt}
use Rattle.std.proofs.lemmas.Grind.{flat_map-append}
use Rattle.std.proofs.lemmas.List.{append-nil, take_all, take-append-le}
use Rattle.std.proofs.lemmas.Option.{slice_get_past, slice_get_within, get_or_from_slice_get}
use Rattle.std.proofs.Math.Seq.{take-suc}
use Rattle.av_perm.specs.Members.{In, Once}
use Rattle.av_perm.proofs.Membership.{Each, In_one, In_flat_map, flat_map_In, In_filter}
use Rattle.av_perm.proofs.Tests.{all_from}
use Rattle.av_perm.proofs.ListLaws.{past_end}
use Rattle.av_sys.specs.declared.terms.Term.{Term}
use Rattle.av_sys.specs.declared.terms.System.{System}
use Rattle.av_sys.specs.Terms.{terms_at, children_of}
use Rattle.av_build.specs.Alive.{has_marked, alive_marks, alive}
use Rattle.av_build.specs.Lean.{live_terms, used, with_numbers, visit, found_after, kept, IsUsedBefore, IsNumbering}
use Rattle.av_build.proofs.AliveMarks.{alive_within}
use Rattle.av_build.proofs.ListPlaces.{once_few}
use Rattle.av_build.proofs.FoundNumbers.{IsLonger, all_longer, longer_length, longer_get, longer_old, longer_new, all_In, found_from, all_once, numbers_append}

-- a child of a live term is alive
pub child_alive : (S : System) (u c : ℕ) (t : Term) → In t (live_terms S u) → In c (children_of (Some t)) → alive S c ≡ true
child_alive S u c t it ic =
    all_from (λ c. get_or (alive_marks S.equations) c false) (children_of (Some t)) (In_filter (has_marked (alive_marks S.equations)) (terms_at S u) t it).1 c ic

-- it is used
pub child_used : (S : System) (u c : ℕ) (t : Term) → In t (live_terms S u) → In c (children_of (Some t)) → In c (used S u)
child_used S u c t it ic = flat_map_In (λ (t : Term). children_of (Some t)) (live_terms S u) t c it ic

-- so what is used is alive
pub used_alive : (S : System) (u c : ℕ) → In c (used S u) → alive S c ≡ true
used_alive S u c i = let r = In_flat_map (λ (t : Term). children_of (Some t)) (live_terms S u) c i in child_alive S u c r.0 r.1 r.2

-- what is known of the list of those found once the first j were gone through
pub record IsStage (S : System) (j : ℕ) (found : List ℕ) : Type 0 where
  pub appear : found ≡ with_numbers (0 ∷ []) (flat_map (used S) (take j found))
  pub reached : (i u : ℕ) → 0 < i → slice_get found i ≡ Some u → IsUsedBefore S found i u

-- a number that an earlier one of the list uses, also in a list that is longer
reached_longer : (S : System) (old cs new : List ℕ) (i u : ℕ) → IsLonger old cs new → IsUsedBefore S old i u → IsUsedBefore S new i u
reached_longer S old cs new i u l r = record { place = r.place; user = r.user; before = r.before; at_place = longer_get old cs new l r.place r.user r.at_place; uses = r.uses }

module _ (S : System) where
  -- at first
  stage_first : IsStage S 0 (0 ∷ [])
  stage_first = record { appear = refl; reached = λ i u h e. absurd (let w = slice_get_within (0 ∷ []) i u e in omega arith) }

  -- one more of the list is gone through
  stage_next : (j u : ℕ) (found : List ℕ) → slice_get found j ≡ Some u → IsStage S j found → IsStage S (suc j) (with_numbers found (used S u))
  stage_next j u found e s = record { appear = appears; reached = λ i c h g. was_reached i c h g (cases_lt i (length found)) }
    where
      new : List ℕ
      new = with_numbers found (used S u)

      longer : IsLonger found (used S u) new
      longer = all_longer found (used S u)

      within : j < length found
      within = slice_get_within found j u e

      taken : take (suc j) new ≡ take j found ++ u ∷ []
      taken =
          ap (take (suc j)) longer.is ∙ take-append-le (suc j) found longer.extra (omega (arith, within))
          ∙ take-suc found j 0 within ∙ ap (λ x. take j found ++ x ∷ []) (get_or_from_slice_get found j u 0 e)

      flat_last : (l : List ℕ) → flat_map (used S) (l ++ u ∷ []) ≡ flat_map (used S) l ++ used S u
      flat_last l = flat_map-append (used S) l (u ∷ []) ∙ ap (λ x. flat_map (used S) l ++ x) (append-nil (used S u))

      appears : new ≡ with_numbers (0 ∷ []) (flat_map (used S) (take (suc j) new))
      appears =
          ap (λ l. with_numbers l (used S u)) s.appear
          ∙ sym (numbers_append (0 ∷ []) (flat_map (used S) (take j found)) (used S u))
          ∙ ap (with_numbers (0 ∷ [])) (sym (flat_last (take j found)) ∙ ap (flat_map (used S)) (sym taken))

      was_reached : (i c : ℕ) → 0 < i → slice_get new i ≡ Some c → (i < length found) ⊎ (length found ≤ i) → IsUsedBefore S new i c
      was_reached i c h g (inl l) =
          reached_longer S found (used S u) new i c longer (s.reached i c h (longer_old found (used S u) new longer i c l g))
      was_reached i c h g (inr m) = record {
        place = j;
        user = u;
        before = omega (arith, within);
        at_place = longer_get found (used S u) new longer j u e;
        uses = longer_new found (used S u) new longer i c m g;
      }

  -- there is none left to go through
  stage_stays : (j : ℕ) (found : List ℕ) → slice_get found j ≡ None → IsStage S j found → IsStage S (suc j) found
  stage_stays j found e s = record {
    appear = s.appear ∙ ap (λ l. with_numbers (0 ∷ []) (flat_map (used S) l)) (take_all j found past ∙ sym (take_all (suc j) found (omega (arith, past))));
    reached = s.reached;
  }
    where
      past : length found ≤ j
      past = past_end found j e

  -- so it is known at each stage
  pub stage : (j : ℕ) → IsStage S j (found_after S j)
  unfolding found_after
  stage zero = stage_first
  stage (suc j) = by (slice_get (found_after S j) j) refl (stage j)
    where
      by : (o : Option ℕ) → slice_get (found_after S j) j ≡ o → IsStage S j (found_after S j) → IsStage S (suc j) (visit S (found_after S j) o)
      by None e s = stage_stays j (found_after S j) e s
      by (Some u) e s = stage_next j u (found_after S j) e s

  -- what appears in turn from equation 0 on has it first, and none twice
  appear_first : (cs found : List ℕ) → found ≡ with_numbers (0 ∷ []) cs → slice_get found 0 ≡ Some 0
  appear_first cs found e = ap (λ l. slice_get l 0) e ∙ longer_get (0 ∷ []) cs (with_numbers (0 ∷ []) cs) (all_longer (0 ∷ []) cs) 0 0 refl

  appear_once : (cs found : List ℕ) → found ≡ with_numbers (0 ∷ []) cs → Once found
  appear_once cs found e = subst Once (sym e) (all_once (0 ∷ []) cs (λ i. i, tt))

  -- what equations use is found among the equations
  appear_within : 1 ≤ length S.equations → (us found : List ℕ) → found ≡ with_numbers (0 ∷ []) (flat_map (used S) us) → Each (λ c. c < length S.equations) found
  appear_within some us found e c i = elim (found_from (0 ∷ []) (flat_map (used S) us) c (subst (In c) e i)) [
    | inl j ↦ let z = In_one c 0 j in omega (arith, z, some)
    | inr j ↦ let r = In_flat_map (used S) us c j in alive_within S c (used_alive S r.0 c r.2)
  ]

  -- so no more are found than there are equations
  pub found_few : 1 ≤ length S.equations → (j : ℕ) → length (found_after S j) ≤ length S.equations
  found_few some j =
      let s = stage j in
      once_few (found_after S j) (length S.equations) (appear_once (flat_map (used S) (take j (found_after S j))) (found_after S j) s.appear)
      (appear_within some (take j (found_after S j)) (found_after S j) s.appear)

  -- the list at first
  pub found_first : found_after S 0 ≡ 0 ∷ []
  unfolding found_after
  found_first = refl

  -- the list after one more was gone through, which has no fewer
  pub found_next : (j u : ℕ) → slice_get (found_after S j) j ≡ Some u → found_after S (suc j) ≡ with_numbers (found_after S j) (used S u)
  unfolding found_after
  found_next j u e = ap (visit S (found_after S j)) e

  pub found_grows : (j u : ℕ) → length (found_after S j) ≤ length (with_numbers (found_after S j) (used S u))
  found_grows j u = longer_length (found_after S j) (used S u) (with_numbers (found_after S j) (used S u)) (all_longer (found_after S j) (used S u))

  -- once all were gone through it stays
  found_stays : (j more : ℕ) → length (found_after S j) ≤ j → found_after S (more + j) ≡ found_after S j
  unfolding found_after
  found_stays j zero past = let e : 0 + j ≡ j = omega arith in ap (found_after S) e
  found_stays j (suc more) past =
      let before = found_stays j more past in
      let e : suc more + j ≡ suc (more + j) = omega arith in
      ap (found_after S) e
      ∙ ap (visit S (found_after S (more + j))) (slice_get_past (found_after S (more + j)) (more + j) (omega (arith, ap length before, past)))
      ∙ before

  -- then it is the list of those kept
  pub found_kept : 1 ≤ length S.equations → (j : ℕ) → j ≤ length (found_after S j) → length (found_after S j) ≤ j → found_after S j ≡ kept S
  found_kept some j within past =
      let few = found_few some j in
      let e : length S.equations - j + j ≡ length S.equations = omega arith in
      sym (found_stays j (length S.equations - j) past) ∙ ap (found_after S) e

  -- the list of those kept is numbered as it should be
  pub kept_numbering : 1 ≤ length S.equations → IsNumbering S (kept S)
  kept_numbering some =
      let s = stage (length S.equations) in
      record {
        appear = s.appear ∙ ap (λ l. with_numbers (0 ∷ []) (flat_map (used S) l)) (take_all (length S.equations) (kept S) (found_few some (length S.equations)));
        reached = s.reached;
      }

  -- each that was found is the number of an equation
  pub found_within : 1 ≤ length S.equations → (j : ℕ) → Each (λ c. c < length S.equations) (found_after S j)
  found_within some j = appear_within some (take j (found_after S j)) (found_after S j) (stage j).appear

  -- such a list has equation 0 first, no number twice, and only numbers of equations
  pub numbering_first : (found : List ℕ) → IsNumbering S found → slice_get found 0 ≡ Some 0
  numbering_first found n = appear_first (flat_map (used S) found) found n.appear

  pub numbering_once : (found : List ℕ) → IsNumbering S found → Once found
  numbering_once found n = appear_once (flat_map (used S) found) found n.appear

  pub numbering_within : 1 ≤ length S.equations → (found : List ℕ) → IsNumbering S found → Each (λ c. c < length S.equations) found
  numbering_within some found n = appear_within some found found n.appear

  -- it is closed: what its equations use is in it
  pub numbering_closed : (found : List ℕ) → IsNumbering S found → (u : ℕ) → In u found → Each (λ c. In c found) (used S u)
  numbering_closed found n u i c j = subst (In c) (sym n.appear) (all_In (0 ∷ []) (flat_map (used S) found) c (flat_map_In (used S) found u c i j))

  -- all but equation 0 are alive
  pub numbering_alive : (found : List ℕ) → IsNumbering S found → (v u : ℕ) → 0 < v → slice_get found v ≡ Some u → alive S u ≡ true
  numbering_alive found n v u h e = let r = n.reached v u h e in used_alive S r.user u r.uses
