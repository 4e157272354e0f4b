-- A round of the marking: what holds once it has gone through the equations from some number on.
use Rattle.std.proofs.Common.{◌≡◌, ℕ, suc, ◌-◌, ◌<◌, ◌≤◌, ◌⊎◌, inl, inr, List, length, get_or, slice_get, set, Bool, true, false, Some, refl, sym, ap, ◌∙◌, subst, arith, true≢false}
use Rattle.std.specs.List.{list_any, count_by}
use Rattle.std.proofs.lemmas.Bool.{cases_eq}
use Rattle.std.proofs.lemmas.List.{length-map}
use Rattle.std.proofs.lemmas.List.Sums.{count_by-le-length}
use Rattle.std.proofs.lemmas.Option.{slice_get_within}
use Rattle.av_sys.specs.declared.terms.Equation.{Equation}
use Rattle.av_build.specs.Alive.{has_marked, mark_next, alive_marks}
use Rattle.av_build.specs.Rounds.{IsSound, IsRound}
use Rattle.av_build.proofs.MarkOrder.{below_length, below_get, below_from, below_equal, set_below, set_count, next_below}
use Rattle.av_build.proofs.AliveMarks.{marks_length, alive_closed, alive_least, mark_at, marked_at}

-- the marks are sound; where something has changed there are more, and where nothing has they are as before, and each equation
-- from number i on that has a term whose children are all marked is marked
pub record IsRoundFrom (es : List Equation) (old new : List Bool) (changed : Bool) (i : ℕ) : Type 0 where
  pub sound : IsSound es new
  pub more : changed ≡ true → count_by (λ mark. mark) old < count_by (λ mark. mark) new
  pub same : changed ≡ false → new ≡ old
  pub closed : changed ≡ false → (k : ℕ) (e : Equation) → i ≤ k → slice_get es k ≡ Some e → list_any (has_marked new) e.terms ≡ true → get_or new k false ≡ true

-- sound marks are as many as equations
pub sound_length : (es : List Equation) (marks : List Bool) → IsSound es marks → length marks ≡ length es
sound_length es marks s = below_length marks (alive_marks es) s ∙ marks_length es (length es)

-- an equation with a term whose children are all marked is alive, where the marks are sound
sound_next : (es : List Equation) (marks : List Bool) (u : ℕ) (e : Equation) → IsSound es marks → slice_get es u ≡ Some e → list_any (has_marked marks) e.terms ≡ true
    → get_or (alive_marks es) u false ≡ true
sound_next es marks u e s q h =
    subst (λ m. get_or m u false ≡ true) (alive_closed es)
    (below_get (mark_next es marks) (mark_next es (alive_marks es)) u (next_below es marks (alive_marks es) s) (mark_at es (λ (e : Equation). list_any (has_marked marks) e.terms) u e q h))

-- equation i is marked
pub round_marks : (es : List Equation) (old new : List Bool) (changed : Bool) (i j : ℕ) (e : Equation) → IsRoundFrom es old new changed j → slice_get es i ≡ Some e
    → get_or new i false ≡ false → list_any (has_marked new) e.terms ≡ true → IsRoundFrom es old (set new i true) true i
round_marks es old new changed i j e r q n h = record {
  sound = set_below new (alive_marks es) i r.sound (sound_next es new i e r.sound q h);
  more = λ t. by changed r.more r.same;
  same = λ f. absurd (true≢false f);
  closed = λ f. absurd (true≢false f);
}
  where
    one : count_by (λ mark. mark) (set new i true) ≡ suc (count_by (λ mark. mark) new)
    one = set_count new i (omega (arith, sound_length es new r.sound, slice_get_within es i e q)) n

    by : (b : Bool) → (b ≡ true → count_by (λ mark. mark) old < count_by (λ mark. mark) new) → (b ≡ false → new ≡ old)
        → count_by (λ mark. mark) old < count_by (λ mark. mark) (set new i true)
    by true m s = let k = m refl in omega (arith, one)
    by false m s = let k = ap (count_by (λ (mark : Bool). mark)) (s refl) in omega (arith, one)

-- equation i stays as it is: it is marked already, or has no such term
pub round_passes : (es : List Equation) (old new : List Bool) (changed : Bool) (i j : ℕ) (e : Equation) → j ≤ suc i → IsRoundFrom es old new changed j → slice_get es i ≡ Some e
    → (list_any (has_marked new) e.terms ≡ true → get_or new i false ≡ true) → IsRoundFrom es old new changed i
round_passes es old new changed i j e n r q h = record {
  sound = r.sound;
  more = r.more;
  same = r.same;
  closed = λ f k d l g m. by f k d g m (less k l);
}
  where
    less : (k : ℕ) → i ≤ k → (k ≡ i) ⊎ (suc i ≤ k)
    less k l = elim (cases_eq k i) [ inl e ↦ inl e | inr ne ↦ inr (omega arith) ]

    by : changed ≡ false → (k : ℕ) (d : Equation) → slice_get es k ≡ Some d → list_any (has_marked new) d.terms ≡ true → (k ≡ i) ⊎ (suc i ≤ k) → get_or new k false ≡ true
    by f k d g m (inl s) =
        let z : Some e ≡ Some d = sym q ∙ ap (slice_get es) (sym s) ∙ g in
        let t : e ≡ d = cc in
        subst (λ x. get_or new x false ≡ true) (sym s) (h (subst (λ (y : Equation). list_any (has_marked new) y.terms ≡ true) (sym t) m))
    by f k d g m (inr l) = r.closed f k d (omega arith) g m

-- before the round
pub round_starts : (es : List Equation) (marks : List Bool) (i : ℕ) → length es ≤ i → IsSound es marks → IsRoundFrom es marks marks false i
round_starts es marks i l s = record {
  sound = s;
  more = λ t. absurd (true≢false (sym t));
  same = λ f. refl;
  closed = λ f k e h q. absurd (let w = slice_get_within es k e q in omega arith);
}

-- after it
pub round_ends : (es : List Equation) (old new : List Bool) (changed : Bool) → IsRoundFrom es old new changed 0 → IsRound es old new changed
round_ends es old new changed r = record {
  sound = r.sound;
  more = r.more;
  closed = λ f. below_from (mark_next es new) new (length-map es (λ (e : Equation). list_any (has_marked new) e.terms) ∙ sym (sound_length es new r.sound)) (λ k m.
      let e = marked_at es (λ (e : Equation). list_any (has_marked new) e.terms) k m in r.closed f k e.0 (omega arith) e.1 e.2);
}

-- after a round that changes something fewer equations are left without a mark
pub round_smaller : (es : List Equation) (old new : List Bool) (changed : Bool) → IsSound es old → IsRound es old new changed → changed ≡ true
    → length new - count_by (λ mark. mark) new < length old - count_by (λ mark. mark) old
round_smaller es old new changed s r t =
    let m = r.more t in
    omega (arith, m, sound_length es old s, sound_length es new r.sound, count_by-le-length (λ (mark : Bool). mark) new)

-- marks that a round leaves as they are mark the equations that are alive
pub round_unchanged : (es : List Equation) (old new : List Bool) (changed : Bool) → IsRound es old new changed → changed ≡ false → new ≡ alive_marks es
round_unchanged es old new changed r f = below_equal new (alive_marks es) r.sound (alive_least es new (sound_length es new r.sound) (r.closed f))
