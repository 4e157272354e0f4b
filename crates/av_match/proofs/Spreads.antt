-- The entries at an occurrence are as far apart as those of the pattern at least.
use Rattle.std.proofs.Common.{◌≡◌, ℕ, zero, suc, ◌+◌, ◌-◌, ◌<◌, ◌≤◌, inl, inr, List, ◌∷◌, ◌++◌, length, arith, ap, ◌∙◌, subst}
use Rattle.std.proofs.Math.ListN.{get_or-append}
use Rattle.std.proofs.Math.Seq.{get_or-append_seam}
use Rattle.std.proofs.lemmas.Bool.{cases_lt}
use Rattle.std.proofs.lemmas.List.{take_all, length-append, get_or-map}
use Rattle.av_perm.specs.Word.{entry}
use Rattle.av_perm.specs.Contain.{at_places}
use Rattle.av_perm.specs.Relations.{at, IsOneToLength, SameOrder}
use Rattle.av_perm.proofs.Occurrences.{entry_at}
use Rattle.av_perm.proofs.Patterns.{word_hits}
use Rattle.av_match.specs.Search.{IsWhole}

-- of two entries of a word in the order of numbers: where one is d above the other, so are the numbers at least
apart_by : (xs p : List ℕ) (d s t : ℕ) → IsOneToLength p → SameOrder xs p → s < length p → t < length p → at p s + d ≡ at p t → at xs s + d ≤ at xs t
apart_by xs p zero s t g o h k e = elim (cases_lt (at xs t) (at xs s)) [
  | inl l ↦ absurd (let f = (o.alike t s (omega (arith, o.count)) (omega (arith, o.count))).0 l in omega arith)
  | inr l ↦ omega arith
]
apart_by xs p (suc d) s t g o h k e =
    let b = g.within t k in
    let r = word_hits p (suc (at p s)) g (omega arith) (omega arith) in
    let more = apart_by xs p d r.0 t g o r.1 k (omega (arith, r.2)) in
    let less = (o.alike s r.0 (omega (arith, o.count)) (omega (arith, o.count, r.1))).1 (omega (arith, r.2)) in
    omega arith

-- from the smaller to the greater one
pub spread : (xs p : List ℕ) (s t : ℕ) → IsOneToLength p → SameOrder xs p → s < length p → t < length p → at p s ≤ at p t → at xs s + (at p t - at p s) ≤ at xs t
spread xs p s t g o h k l = apart_by xs p (at p t - at p s) s t g o h k (omega arith)

-- below an entry there is room for the smaller ones, where all are at least 1
pub room_below : (xs p : List ℕ) (t : ℕ) → IsOneToLength p → SameOrder xs p → t < length p → ((s : ℕ) → s < length p → 1 ≤ at xs s) → at p t ≤ at xs t
room_below xs p t g o k f =
    let b = g.within t k in
    let r = word_hits p 1 g (omega arith) (omega arith) in
    let l = spread xs p r.0 t g o r.1 k (omega (arith, r.2)) in
    let m = f r.0 r.1 in
    omega (arith, r.2)

-- above it for the greater ones, where all are at most n
pub room_above : (xs p : List ℕ) (n s : ℕ) → IsOneToLength p → SameOrder xs p → s < length p → ((t : ℕ) → t < length p → at xs t ≤ n) → at xs s + length p ≤ n + at p s
room_above xs p n s g o h f =
    let b = g.within s h in
    let r = word_hits p (length p) g (omega arith) (omega arith) in
    let l = spread xs p s r.0 g o h r.1 (omega (arith, r.2)) in
    let m = f r.0 r.1 in
    omega (arith, r.2)

-- ---- the places of an occurrence that begins with those chosen

-- their entries are in the order of the pattern
pub whole_order : (w p ps : List ℕ) → IsWhole w p ps → SameOrder (at_places w ps) p
whole_order w p ps h = subst (λ (q : List ℕ). SameOrder (at_places w ps) q) (take_all (length ps) p (omega (arith, h.count))) h.begun.order

-- they are numbers of the word
whole_within : (w p ps : List ℕ) (s : ℕ) → IsOneToLength w → IsWhole w p ps → s < length p → (1 ≤ at (at_places w ps) s) × (at (at_places w ps) s ≤ length w)
whole_within w p ps s g h k =
    let l : s < length ps = omega (arith, h.count) in
    let b = h.begun.placed s l in
    let e = get_or-map (entry w) ps s 0 0 l ∙ entry_at w (at ps s) b.0 in
    rw e (g.within (at ps s - 1) (omega arith))

-- the entry at the place after those chosen, and at one of them
at_next : (w cs rest : List ℕ) (place : ℕ) → at (at_places w (cs ++ place ∷ rest)) (length cs) ≡ entry w place
at_next w cs rest place =
    get_or-map (entry w) (cs ++ place ∷ rest) (length cs) 0 0 (omega (arith, length-append cs (place ∷ rest)))
    ∙ ap (entry w) (get_or-append_seam cs place rest 0)

at_chosen : (w cs rest : List ℕ) (place k : ℕ) → k < length cs → 1 ≤ at cs k → at (at_places w (cs ++ place ∷ rest)) k ≡ at w (at cs k - 1)
at_chosen w cs rest place k h b =
    get_or-map (entry w) (cs ++ place ∷ rest) k 0 0 (omega (arith, length-append cs (place ∷ rest)))
    ∙ ap (entry w) (get_or-append cs (place ∷ rest) 0 k h)
    ∙ entry_at w (at cs k) b

-- the entry at the next place leaves room in the word for the pattern's smaller and greater entries
pub next_room : (w p cs rest : List ℕ) (place : ℕ) → IsOneToLength w → IsOneToLength p → length p ≤ length w → length cs < length p → IsWhole w p (cs ++ place ∷ rest)
    → (at p (length cs) ≤ entry w place) × (entry w place ≤ length w - length p + at p (length cs))
next_room w p cs rest place g f l k h =
    let o = whole_order w p (cs ++ place ∷ rest) h in
    let e = at_next w cs rest place in
    let a = room_below (at_places w (cs ++ place ∷ rest)) p (length cs) f o k (λ s b. (whole_within w p (cs ++ place ∷ rest) s g h b).0) in
    let c = room_above (at_places w (cs ++ place ∷ rest)) p (length w) (length cs) f o k (λ s b. (whole_within w p (cs ++ place ∷ rest) s g h b).1) in
    (omega arith, omega arith)

-- and between it and the entry at a place that was chosen
pub room_after : (w p cs rest : List ℕ) (place k : ℕ) → IsOneToLength p → length cs < length p → k < length cs → 1 ≤ at cs k → IsWhole w p (cs ++ place ∷ rest)
    → at p k ≤ at p (length cs) → at w (at cs k - 1) + (at p (length cs) - at p k) ≤ entry w place
room_after w p cs rest place k f n l b h le =
    let r = spread (at_places w (cs ++ place ∷ rest)) p k (length cs) f (whole_order w p (cs ++ place ∷ rest) h) (omega arith) n le in
    omega (arith, at_next w cs rest place, at_chosen w cs rest place k l b)

pub room_before : (w p cs rest : List ℕ) (place k : ℕ) → IsOneToLength p → length cs < length p → k < length cs → 1 ≤ at cs k → IsWhole w p (cs ++ place ∷ rest)
    → at p (length cs) ≤ at p k → entry w place + (at p k - at p (length cs)) ≤ at w (at cs k - 1)
room_before w p cs rest place k f n l b h le =
    let r = spread (at_places w (cs ++ place ∷ rest)) p (length cs) k f (whole_order w p (cs ++ place ∷ rest) h) n (omega arith) le in
    omega (arith, at_next w cs rest place, at_chosen w cs rest place k l b)
