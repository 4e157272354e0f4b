-- A pattern in an inflation: which places go to which block.
use Rattle.std.proofs.Common.{◌≡◌, ℕ, zero, suc, ◌+◌, ◌<◌, ◌≤◌, ◌≢◌, inl, inr, ◌↔◌, List, [], ◌∷◌, length, get_or, refl, sym, ap, ◌∙◌, subst, arith}
use Rattle.std.proofs.lemmas.Bool.{cases_lt, cases_eq}
use Rattle.std.proofs.lemmas.List.{get_or-map, length-map}
use Rattle.av_perm.specs.Lists.{counting}
use Rattle.av_perm.specs.Relations.{at, IsOneToLength, Contains, joined, block, raised, inflate, AreBlocks, pattern_of}
use Rattle.av_perm.specs.Fibre.{fibre}
use Rattle.av_perm.proofs.Membership.{In, In_at, In_joined, In_map, map_In}
use Rattle.av_perm.proofs.Pairings.{Pair, froms, Placed, Placed_In, Agree, Has, Contains_Has, Has_Contains, map_joined, Placed_joined, up, up_froms, Placed_up, Placed_down}
use Rattle.av_perm.proofs.Fibres.{fibre_hit, fibre_miss, fibre_at, at_fibre, fibre-map, fibre_In, fibre_past, Spread, spread, joined_same, fibres_joined}
use Rattle.av_perm.proofs.Inflations.{raise_of, lifted, block_order}
use Rattle.av_perm.proofs.Patterns.{length_pattern}
use Rattle.av_perm.proofs.Containment.{all_places, contains_pattern, contains_one}

-- `e` sends each place of `γ` to a child of `π`, weakly increasing, and places with different children lie as the children do
pub record Sends (π γ e : List ℕ) : Type 0 where
  pub count : length e ≡ length γ
  pub children : (s : ℕ) → s < length e → at e s < length π
  pub rising : (s t : ℕ) → s < t → t < length e → at e s ≤ at e t
  pub across : (s t : ℕ) → s < length e → t < length e → at e s ≢ at e t → (at γ s < at γ t) ↔ (at π (at e s) < at π (at e t))

-- each block contains the pattern of its fibre, where that is not empty
abbrev pub Fills : List ℕ → List (List ℕ) → List ℕ → List ℕ → Type 0
Fills π αs γ e = (i : ℕ) → i < length π → fibre γ e i ≢ [] → Contains (block αs i) (pattern_of (fibre γ e i))

-- a pair for where there is none
abbrev pub nobody : Pair
nobody = record { from = 0; to = 0 }

-- what stands in block `i` at height `o`, put down
has_block : (o : ℕ) (a γ e : List ℕ) (z : List Pair) (i : ℕ) → froms z ≡ γ → Agree z → Placed (fibre z e i) (raised o a) → Has a (fibre γ e i)
has_block o a γ e z i q g h =
    let d = Placed_down o (fibre z e i) a h in
    let lift : (p : Pair) → In p d.0 → In (record { from = p.from; to = p.to + o }) z =
    λ p k. fibre_In z e i (record { from = p.from; to = p.to + o }) nobody
    (subst (In (record { from = p.from; to = p.to + o })) d.1 (map_In (λ (r : Pair). record { from = r.from; to = r.to + o }) d.0 p k)) in (
      d.0,
      sym (up_froms o d.0) ∙ ap froms d.1 ∙ fibre-map (λ (p : Pair). p.from) z e i ∙ ap (λ l. fibre l e i) q,
      d.2,
      λ p r ip ir.
          let k = g (record { from = p.from; to = p.to + o }) (record { from = r.from; to = r.to + o }) (lift p ip) (lift r ir) in
          (λ l. let m = k.0 l in omega arith, λ l. k.1 (omega arith)),
    )

-- pairs that stand in an inflation say where each place goes
pub embedding_of : (π γ : List ℕ) (αs : List (List ℕ)) → IsOneToLength π → AreBlocks π αs → (z : List Pair) → froms z ≡ γ
    → Placed z (inflate π αs) → Agree z → (e : List ℕ) × Spread z (lifted π αs) (length π) e × Sends π γ e
embedding_of π γ αs w b z q pl ag =
    let r = spread (length π) (lifted π αs) z pl in
    let e : List ℕ = r.0 in
    let n = length-map z (λ (p : Pair). p.from) in
    let m : length (froms z) ≡ length γ = ap length q in
    let k = r.1.count in
    let from : (s : ℕ) → s < length e → at γ s ≡ (get_or z s nobody).from = λ s l. ap (λ l. at l s) (sym q) ∙ get_or-map (λ (p : Pair). p.from) z s nobody 0 (omega arith) in
    let stands : (s : ℕ) → s < length e → In (get_or z s nobody).to (lifted π αs (at e s)) = λ s l. Placed_In (fibre z e (at e s)) (lifted π αs (at e s)) (get_or z s nobody) (r.1.held (at e s) (r.1.children s l)) (at_fibre z e s nobody (omega arith) l) in (
      e,
      r.1,
      record {
        count = omega arith;
        children = r.1.children;
        rising = r.1.rising;
        across = λ s t hs ht ne.
            let g = ag (get_or z s nobody) (get_or z t nobody) (In_at z s nobody (omega arith)) (In_at z t nobody (omega arith)) in
            let o = block_order π αs (at e s) (at e t) (get_or z s nobody).to (get_or z t nobody).to w b (r.1.children s hs) (r.1.children t ht) ne (stands s hs) (stands t ht) in
            let a = from s hs in
            let a' = from t ht in
            (λ l. o.0 (g.0 (omega arith)), λ l. let q = g.1 (o.1 l) in omega arith);
      },
    )

-- a pattern in an inflation: its places go to the blocks, and each block has the pattern of what goes there
pub contained : (π γ : List ℕ) (αs : List (List ℕ)) → IsOneToLength π → AreBlocks π αs → Contains (inflate π αs) γ → (e : List ℕ) × Sends π γ e × Fills π αs γ e
contained π γ αs w b c =
    let h = Contains_Has (inflate π αs) γ c in
    let r = embedding_of π γ αs w b h.0 h.1 h.2 h.3 in
    let e : List ℕ = r.0 in (
      e,
      r.2,
      λ i l ne. (contains_pattern (block αs i) (fibre γ e i)).1 (Has_Contains (block αs i) (fibre γ e i) (has_block (raise_of π αs i) (block αs i) γ e h.0 i h.1 h.3 (r.1.held i l))),
    )

-- nothing is contained in anything
has_fibre : (a l : List ℕ) → ((l ≡ [] → ⊥) → Has a l) → Has a l
has_fibre a [] f = ([], refl, tt, λ p q i. absurd i)
has_fibre a (x ∷ l) f = f (λ e. cc)

-- places sent to blocks that have the patterns of what goes there make the pattern
pub containing : (π γ : List ℕ) (αs : List (List ℕ)) → IsOneToLength π → AreBlocks π αs → ((e : List ℕ) × Sends π γ e × Fills π αs γ e)
    → Contains (inflate π αs) γ
containing π γ αs w b c =
    Has_Contains (inflate π αs) γ (
      joined zs (length π),
      map_joined (λ (p : Pair). p.from) zs (length π) ∙ joined_same (λ i. froms (zs i)) (fibre γ e) (length π) (λ i l. up_froms (raise_of π αs i) (full i).0 ∙ (full i).1) ∙ fibres_joined γ e (length π) m.count m.children m.rising,
      Placed_joined (length π) zs (lifted π αs) (λ i l. Placed_up (raise_of π αs i) (full i).0 (block αs i) (full i).2),
      agree,
    )
  where
    e : List ℕ
    e = c.0

    m : Sends π γ e
    m = c.1

    full : (i : ℕ) → Has (block αs i) (fibre γ e i)
    full i = has_fibre (block αs i) (fibre γ e i) (λ ne. elim (cases_lt i (length π)) [
      | inl l ↦ Contains_Has (block αs i) (fibre γ e i) ((contains_pattern (block αs i) (fibre γ e i)).0 (c.2 i l ne))
      | inr l ↦ absurd (ne (fibre_past γ e (length π) i m.children l))
    ])

    zs : ℕ → List Pair
    zs i = up (raise_of π αs i) (full i).0

    apart : (p q r t : Pair) (i j : ℕ) → i < length π → j < length π → (i ≡ j → ⊥)
        → In r (full i).0 → p ≡ record { from = r.from; to = r.to + raise_of π αs i }
        → In t (full j).0 → q ≡ record { from = t.from; to = t.to + raise_of π αs j }
        → (p.from < q.from) ↔ (p.to < q.to)
    apart p q r t i j hi hj ne ir ep it eq =
        let stands : (k : ℕ) (u : Pair) → In u (full k).0 → In (u.to + raise_of π αs k) (lifted π αs k) = λ k u iu. map_In (λ v. v + raise_of π αs k) (block αs k) u.to (Placed_In (full k).0 (block αs k) u (full k).2 iu) in
        let place : (k : ℕ) (u : Pair) → In u (full k).0 → (s : ℕ) × (s < length γ) × (s < length e) × (at e s ≡ k) × (at γ s ≡ u.from) = λ k u iu. fibre_at γ e k u.from 0 (subst (In u.from) (full k).1 (map_In (λ (v : Pair). v.from) (full k).0 u iu)) in
        let o = block_order π αs i j (r.to + raise_of π αs i) (t.to + raise_of π αs j) w b hi hj ne (stands i r ir) (stands j t it) in
        let s = place i r ir in
        let s' = place j t it in
        let g = m.across s.0 s'.0 s.2 s'.2 (λ h. ne (omega arith)) in
        let h : at π (at e s.0) ≡ at π i = ap (at π) s.3 in
        let h' : at π (at e s'.0) ≡ at π j = ap (at π) s'.3 in
        let pf = ap (λ (u : Pair). u.from) ep in
        let pt = ap (λ (u : Pair). u.to) ep in
        let qf = ap (λ (u : Pair). u.from) eq in
        let qt = ap (λ (u : Pair). u.to) eq in
        (λ l. let a = g.0 (omega arith) in let a' = o.1 (omega arith) in omega arith, λ l. let a = o.0 (omega arith) in let a' = g.1 (omega arith) in omega arith)

    same : (p q r t : Pair) (i : ℕ) → In r (full i).0 → p ≡ record { from = r.from; to = r.to + raise_of π αs i } → In t (full i).0 → q ≡ record { from = t.from; to = t.to + raise_of π αs i } → (p.from < q.from) ↔ (p.to < q.to)
    same p q r t i ir ep it eq =
        let g = (full i).3 r t ir it in
        let pf = ap (λ (u : Pair). u.from) ep in
        let pt = ap (λ (u : Pair). u.to) ep in
        let qf = ap (λ (u : Pair). u.from) eq in
        let qt = ap (λ (u : Pair). u.to) eq in
        (λ l. let a = g.0 (omega arith) in omega arith, λ l. let a = g.1 (omega arith) in omega arith)

    agree : Agree (joined zs (length π))
    agree p q ip iq =
        let a = In_joined zs (length π) p ip in
        let a' = In_joined zs (length π) q iq in
        let r = In_map (λ (u : Pair). record { from = u.from; to = u.to + raise_of π αs a.0 }) (full a.0).0 p a.2 in
        let t = In_map (λ (u : Pair). record { from = u.from; to = u.to + raise_of π αs a'.0 }) (full a'.0).0 q a'.2 in
        elim (cases_eq a.0 a'.0) [
          | inl h ↦ same p q r.0 t.0 a'.0 (subst (λ k. In r.0 (full k).0) h r.1) (subst (λ k. p ≡ record { from = r.0.from; to = r.0.to + raise_of π αs k }) h r.2) t.1 t.2
          | inr ne ↦ apart p q r.0 t.0 a.0 a'.0 a.1 a'.1 ne r.1 r.2 t.1 t.2
        ]

-- the map of the root on itself
fibre_later : (xs : List ℕ) (c n i : ℕ) → i < c → fibre xs (counting c n) i ≡ []
fibre_later [] c n i h = refl
fibre_later (x ∷ xs) c zero i h = refl
fibre_later (x ∷ xs) c (suc n) i h = fibre_miss x xs c (counting (suc c) n) i (λ e. omega arith) ∙ fibre_later xs (suc c) n i (omega arith)

-- each child of a run has one item
fibre_one : (xs : List ℕ) (c i : ℕ) → c ≤ i → i < c + length xs → length (fibre xs (counting c (length xs)) i) ≡ 1
fibre_one [] c i h k = absurd (omega arith)
fibre_one (x ∷ xs) c i h k = elim (cases_eq c i) [
  | inl e ↦ ap length (fibre_hit x xs c (counting (suc c) (length xs)) i e) ∙ ap (λ (l : List ℕ). suc (length l)) (fibre_later xs (suc c) (length xs) i (omega arith))
  | inr n ↦ ap length (fibre_miss x xs c (counting (suc c) (length xs)) i n) ∙ fibre_one xs (suc c) i (omega (arith, n)) (omega arith)
]

-- the root sent to itself
itself : (π : List ℕ) → Sends π π (counting 0 (length π))
itself π =
    let o = all_places π in
    record {
      count = o.count;
      children = o.placed;
      rising = λ s t h k. omega (arith, o.rising s t h k);
      across = λ s t h k ne. o.alike s t (omega (arith, o.count)) (omega (arith, o.count));
    }

-- so the root is contained in the inflation
pub root_contained : (π : List ℕ) (αs : List (List ℕ)) → IsOneToLength π → AreBlocks π αs → Contains (inflate π αs) π
root_contained π αs w b = containing π π αs w b (
  counting 0 (length π),
  itself π,
  λ i h ne. contains_one (block αs i) (pattern_of (fibre π (counting 0 (length π)) i)) (b.filled i h) (length_pattern (fibre π (counting 0 (length π)) i) ∙ fibre_one π 0 i (omega arith) (omega arith)),
)
