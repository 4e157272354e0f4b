-- What lies in spans still does after one was changed, and where an occurrence's entries stand.
use Rattle.std.proofs.Common.{◌≡◌, ℕ, suc, ◌+◌, ◌-◌, ◌<◌, ◌≤◌, inl, inr, true, List, [], ◌∷◌, ◌++◌, length, take, drop, set, refl, sym, ◌∙◌, ap, arith, rules}
use Rattle.std.specs.List.{refill}
use Rattle.std.proofs.lemmas.Bool.{cases_eq, cases_lt}
use Rattle.std.proofs.lemmas.List.{length-set, length-append, length-take, same_lists, places, get_or-set_other, get_or-append-add, get_or-map, get_or-take, get_or-drop}
use Rattle.std.proofs.lemmas.Grind.{get_or-set_at}
use Rattle.std.proofs.Math.ListN.{get_or-append}
use Rattle.std.proofs.Math.Seq.{get_or-append_seam}
use Rattle.av_perm.specs.Word.{entry, is_perm}
use Rattle.av_perm.specs.Contain.{at_places}
use Rattle.av_perm.specs.Relations.{at, IsOneToLength}
use Rattle.av_perm.proofs.Occurrences.{entry_at}
use Rattle.av_perm.proofs.Patterns.{word_hits}
use Rattle.av_perm.proofs.PermWords.{perm_word, perm_short}
use Rattle.av_match.specs.declared.narrow.Span.{Span}
use Rattle.av_match.specs.declared.narrow.Lines.{Lines}
use Rattle.av_match.specs.Narrow.{AreLines, AreRoutes, Fit, IsInverse, IsOrder, IsRoute, IsStanding, Lies}
use Rattle.av_match.specs.Search.{GoesOn}
use Rattle.av_match.proofs.Spreads.{whole_order}

-- ---- spans

-- the span that stands where there is none
abbrev nothing : Span
nothing = record { least = 0; most = 0 }

-- one span is changed
pub fit_set : (spans : List Span) (i : ℕ) (span : Span) (x : ℕ → ℕ) → Fit spans x → Lies span (x i) → Fit (set spans i span) x
fit_set spans i span x fit lies j h = elim (cases_eq j i) [
  | inl e ↦ rw (get_or-set_at spans i j span nothing e (omega (arith, length-set spans i span)), e) lies
  | inr ne ↦ rw (get_or-set_other spans i j span nothing ne) (fit j (omega (arith, length-set spans i span)))
]

-- one is added
pub fit_push : (spans : List Span) (span : Span) (x : ℕ → ℕ) → Fit spans x → Lies span (x (length spans)) → Fit (spans ++ span ∷ []) x
fit_push spans span x fit lies j h = elim (cases_eq j (length spans)) [
  | inl e ↦ rw (e, get_or-append_seam spans span [] nothing) lies
  | inr ne ↦
      let lt : j < length spans = omega (arith, length-append spans (span ∷ [])) in
      rw (get_or-append spans (span ∷ []) nothing j lt) (fit j lt)
]

-- all are written back
pub refill_same : {X : Type 0} → (xs ws : List X) → length ws ≡ length xs → refill (length xs) xs ws ≡ ws
refill_same xs ws e = same_lists _ _ (search (rules, places)) (λ k d h. grind (arith, places, cases_lt k (length ws)))

-- the same route and spans under other names
pub route_same : (line order order' : List ℕ) (m m' : ℕ) (x y : ℕ → ℕ) → order' ≡ order → m' ≡ m → IsRoute line order m x y → IsRoute line order' m' x y
route_same line order order' m m' x y e f r = rw (e, f) r

pub fit_same : (spans spans' : List Span) (x : ℕ → ℕ) → spans' ≡ spans → Fit spans x → Fit spans' x
fit_same spans spans' x e f = rw e f

-- ---- an occurrence

-- the place of a value of a word
value_place : (p line : List ℕ) (v : ℕ) → IsOneToLength p → IsInverse p line → v < length p → (1 ≤ at line v) × (at line v ≤ length p) × (at p (at line v - 1) ≡ suc v)
value_place p line v g inverse h =
    let r = word_hits p (suc v) g (omega arith) (omega arith) in
    let e : at p r.0 - 1 ≡ v = omega (arith, r.2) in
    let f : at line v ≡ suc r.0 = ap (at line) (sym e) ∙ inverse.there r.0 r.1 in
    let q : at line v - 1 ≡ r.0 = omega arith in
    (omega arith, omega (arith, r.1), ap (at p) q ∙ r.2)

-- the places of the values are places of the word
pub inverse_order : (p line : List ℕ) → is_perm p ≡ true → IsInverse p line → IsOrder (length p) (take (length p) line)
inverse_order p line perm inverse t h =
    let lt : t < length p = omega (arith, length-take (length p) line) in
    let r = value_place p line t (perm_word p perm).numbers inverse lt in
    rw (get_or-take (length p) line t 0 lt) (r.0, r.1)

-- the value at a place of an occurrence
abbrev pub value_at : List ℕ → List ℕ → ℕ → ℕ
value_at w ps j = at w (at ps j - 1)

value_there : (w ps : List ℕ) (j : ℕ) → j < length ps → 1 ≤ at ps j → at (at_places w ps) j ≡ value_at w ps j
value_there w ps j h one = get_or-map (entry w) ps j 0 0 h ∙ entry_at w (at ps j) one

-- where an occurrence that begins with the places chosen goes on from a place, its entries stand
pub goes_standing : (w p cs : List ℕ) (from place : ℕ) (rest : List ℕ) → is_perm w ≡ true → GoesOn w p cs from place rest
    → IsStanding w (length p) cs from (at (cs ++ place ∷ rest)) (value_at w (cs ++ place ∷ rest))
goes_standing w p cs from place rest word goes =
    let ps : List ℕ = cs ++ place ∷ rest in
    let inside : (j : ℕ) → j < length p → (1 ≤ at ps j) × (at ps j ≤ length w) = λ j lt. goes.whole.begun.placed j (omega (arith, goes.whole.count)) in
    record {
      place = λ j h. get_or-append cs (place ∷ rest) 0 j h;
      value = λ j h. ap (λ (k : ℕ). at w (k - 1)) (get_or-append cs (place ∷ rest) 0 j h);
      first = λ j le lt. later (j - length cs) j (omega arith) (omega (arith, goes.whole.count, length-append cs (place ∷ rest)));
      placed = λ j lt. (inside j lt).1;
      valued = λ j lt. let b = inside j lt in (perm_word w word).numbers.within (at ps j - 1) (omega arith);
    }
  where
    later : (k j : ℕ) → j ≡ length cs + k → k < length (place ∷ rest) → from ≤ at (cs ++ place ∷ rest) j
    later k j e h =
        let same : at (cs ++ place ∷ rest) j ≡ at (place ∷ rest) k = ap (at (cs ++ place ∷ rest)) e ∙ get_or-append-add cs (place ∷ rest) k 0 in
        let least : place ≤ at (place ∷ rest) k = elim (cases_eq k 0) [
          | inl z ↦ rw z (omega arith)
          | inr ne ↦ omega (arith, goes.rising 0 k (omega arith) h)
        ] in
        omega (arith, goes.first)

-- and lie on the lines
pub goes_routes : (w p cs : List ℕ) (from place : ℕ) (rest : List ℕ) (lines : Lines) → is_perm w ≡ true → is_perm p ≡ true → AreLines w p lines
    → GoesOn w p cs from place rest → AreRoutes w lines (length cs) (length p) (at (cs ++ place ∷ rest)) (value_at w (cs ++ place ∷ rest))
goes_routes w p cs from place rest lines word pattern are goes =
    let ps : List ℕ = cs ++ place ∷ rest in
    let g = (perm_word w word).numbers in
    let inside : (j : ℕ) → j < length p → (1 ≤ at ps j) × (at ps j ≤ length w) = λ j lt. goes.whole.begun.placed j (omega (arith, goes.whole.count)) in
    let valued : (j : ℕ) → j < length p → (1 ≤ value_at w ps j) × (value_at w ps j ≤ length w) =
    λ j lt. let b = inside j lt in g.within (at ps j - 1) (omega arith) in
    record {
      places = record {
        placed = inside;
        other = λ j lt. refl;
        rising = λ s t lt h.
            let n = length-take (length p - length cs) (drop (length cs) lines.places) in
            let a = in_turn s (omega arith) in
            let b = in_turn t (omega arith) in
            let r = goes.rising s t lt (omega (arith, goes.whole.count, length-append cs (place ∷ rest))) in
            omega arith;
      };
      values = record {
        placed = λ j lt. let b = valued j lt in (b.0, omega (arith, b.1, perm_short w word, are.word.long));
        other = λ j lt. let b = inside j lt in are.word.there (at ps j - 1) (omega arith) ∙ omega arith;
        rising = λ s t lt h.
            let m = length-take (length p) lines.pattern in
            let a = by_value s (omega arith) in
            let b = by_value t (omega arith) in
            let i : ℕ = at (take (length p) lines.pattern) s - 1 in
            let k : ℕ = at (take (length p) lines.pattern) t - 1 in
            let o = (whole_order w p ps goes.whole).alike i k in
            up i k a.0 b.0 (omega arith);
      };
    }
  where
    in_turn : (s : ℕ) → length cs + s < length p → at (cs ++ place ∷ rest) (at (take (length p - length cs) (drop (length cs) lines.places)) s - 1) ≡ at (place ∷ rest) s
    in_turn s h =
        let e : at (take (length p - length cs) (drop (length cs) lines.places)) s ≡ at lines.places (length cs + s) =
        get_or-take (length p - length cs) (drop (length cs) lines.places) s 0 (omega arith) ∙ get_or-drop (length cs) lines.places s 0 in
        let f = are.places (length cs + s) (omega (arith, perm_short p pattern)) in
        let q : at (take (length p - length cs) (drop (length cs) lines.places)) s - 1 ≡ length cs + s = omega arith in
        ap (at (cs ++ place ∷ rest)) q ∙ get_or-append-add cs (place ∷ rest) s 0

    by_value : (s : ℕ) → s < length p
        → (at (take (length p) lines.pattern) s - 1 < length p) × (at p (at (take (length p) lines.pattern) s - 1) ≡ suc s)
    by_value s h =
        let r = value_place p lines.pattern s (perm_word p pattern).numbers are.pattern h in
        rw (get_or-take (length p) lines.pattern s 0 h) (omega (arith, r.0, r.1), r.2)

    up : (i k : ℕ) → i < length p → k < length p → at p i < at p k → value_at w (cs ++ place ∷ rest) i < value_at w (cs ++ place ∷ rest) k
    up i k hi hk lt =
        let ps : List ℕ = cs ++ place ∷ rest in
        let o = whole_order w p ps goes.whole in
        let li : i < length ps = omega (arith, goes.whole.count) in
        let lk : k < length ps = omega (arith, goes.whole.count) in
        let above = (o.alike i k (omega (arith, o.count)) (omega (arith, o.count))).1 lt in
        omega (arith, value_there w ps i li (goes.whole.begun.placed i li).0, value_there w ps k lk (goes.whole.begun.placed k lk).0)

-- the next place is the occurrence's first after those chosen
pub next_there : (cs : List ℕ) (place : ℕ) (rest : List ℕ) → at (cs ++ place ∷ rest) (length cs) ≡ place
next_there cs place rest = get_or-append_seam cs place rest 0
