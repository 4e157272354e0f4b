-- A map onto a simple root puts together what any other map onto a root does: so it is the word's only one onto a root that is 12, 21 or simple.
use Rattle.std.proofs.Common.{◌≡◌, ℕ, suc, ◌+◌, ◌-◌, ◌<◌, ◌≤◌, ◌≢◌, ◌⊎◌, inl, inr, List, length, refl, sym, ap, ◌∙◌, arith}
use Rattle.std.proofs.lemmas.Bool.{cases_lt, cases_eq}
use Rattle.av_perm.specs.Relations.{at, IsSimple}
use Rattle.av_perm.proofs.Patterns.{word_hits}
use Rattle.av_perm.proofs.InflatedPatterns.{Sends}
use Rattle.av_perm.proofs.BlockMaps.{Onto}
use Rattle.av_perm.proofs.RisingMaps.{rises_onto, later_child, same_between, child_between, IsRun, run_of, same_maps}
use Rattle.av_perm.proofs.BlockIntervals.{one_place, IsOutside, inside_or_outside, IsBlock, block_interval}

-- in a simple word the first and the last entry lie between two others, since else all the others are an interval
between_others : (π : List ℕ) (j : ℕ) → IsSimple π → j < length π → (j ≡ 0) ⊎ (suc j ≡ length π)
    → (i : ℕ) × (i' : ℕ) × (i < length π) × (i' < length π) × (at π i < at π j) × (at π j < at π i')
between_others π j p hj ends =
    let n = p.long in
    let lo = word_hits π 1 p.numbers (omega arith) (omega arith) in
    let hi = word_hits π (length π) p.numbers (omega arith) (omega arith) in
    let range = p.numbers.within j hj in
    let not_lo : at π j ≢ 1 = λ e. bare 2 (λ s hs ne. let r = p.numbers.within s hs in elim (cases_eq (at π s) 1) [
      | inl q ↦ absurd (ne (same s hs (omega arith)))
      | inr q ↦ (omega (arith, q), omega arith)
    ]) in
    let not_hi : at π j ≢ length π = λ e. bare 1 (λ s hs ne. let r = p.numbers.within s hs in elim (cases_eq (at π s) (length π)) [
      | inl q ↦ absurd (ne (same s hs (omega arith)))
      | inr q ↦ (omega arith, omega (arith, q))
    ]) in
    (lo.0, hi.0, lo.1, hi.1, omega (arith, lo.2, not_lo), omega (arith, hi.2, not_hi))
  where
    same : (s : ℕ) → s < length π → at π s ≡ at π j → s ≡ j
    same s hs e = one_place (length π) (at π) p.numbers.apart s j hs hj e

    -- the entries of the other places are not consecutive numbers
    bare : (v : ℕ) → ((s : ℕ) → s < length π → s ≢ j → (v ≤ at π s) × (at π s < v + (length π - 1))) → ⊥
    bare v h =
        let n = p.long in
        elim ends [
          | inl e ↦ p.bare 1 (length π - 1) (omega arith) (omega arith) (omega arith, (v, λ s a b. h s (omega arith) (λ q. omega arith)))
          | inr e ↦ p.bare 0 (length π - 1) (omega arith) (omega arith) (omega arith, (v, λ s a b. h s (omega arith) (λ q. omega arith)))
        ]

-- a map onto a simple root sends a block that is not all to one child, since else the children that it reaches are a block, or all
block_to_one : (σ π e : List ℕ) (a m : ℕ) → IsSimple π → Sends π σ e → Onto (length π) e → 1 ≤ m → a + m ≤ length σ
    → IsBlock (length σ) (at σ) a m → (r : ℕ) → r < length σ → IsOutside a m r → at e a ≡ at e (a + m - 1)
block_to_one σ π e a m p g o some fits b r hr out =
    let n = g.count in
    let x = later_child (rises_onto g o) a (a + m - 1) (omega arith) (omega arith) in
    let top = g.children (a + m - 1) (omega arith) in
    elim (cases_lt low high) [
      | inr l ↦ omega arith
      | inl l ↦ absurd (elim (cases_lt (high - low + 1) (length π)) [
        | inl q ↦ p.bare low (high - low + 1) (omega arith) q (block_interval π low (high - low + 1) p.numbers (omega arith) (omega arith) image_block)
        | inr q ↦ not_all q
      ])
    ]
  where
    low : ℕ
    low = at e a

    high : ℕ
    high = at e (a + m - 1)

    -- no entry of the root at the child of a place outside lies between those of two children of places inside
    none_between : (i j u : ℕ) → low ≤ i → i ≤ high → low ≤ j → j ≤ high → u < length σ → IsOutside a m u
        → i ≢ at e u → j ≢ at e u → at π i < at π (at e u) → at π (at e u) < at π j → ⊥
    none_between i j u li hi lj hj hu far ni nj x y =
        let n = g.count in
        let s = child_between (rises_onto g o) a (a + m - 1) i (omega arith) (omega arith) li hi in
        let t = child_between (rises_onto g o) a (a + m - 1) j (omega arith) (omega arith) lj hj in
        let c = g.across s.0 u (omega (arith, s.2)) (omega arith) (λ q. ni (omega (arith, s.3))) in
        let d = g.across u t.0 (omega arith) (omega (arith, t.2)) (λ q. nj (omega (arith, t.3))) in
        let f = ap (at π) s.3 in
        let f' = ap (at π) t.3 in
        b s.0 t.0 u s.1 (omega (arith, s.2)) t.1 (omega (arith, t.2)) hu far (c.1 (omega arith)) (d.1 (omega arith))

    -- a place whose child comes before or after all those that the block reaches is outside
    beyond : (u k : ℕ) → u < length e → at e u ≡ k → IsOutside low (high - low + 1) k → IsOutside a m u
    beyond u k h q far = elim (inside_or_outside a m u) [
      | inr l ↦ l
      | inl i ↦
          let n = g.count in
          let x = later_child (rises_onto g o) a u i.0 h in
          let y = later_child (rises_onto g o) u (a + m - 1) (omega (arith, i.1)) (omega arith) in
          absurd (omega arith)
    ]

    -- the children that the block reaches are a block of the root
    image_block : IsBlock (length π) (at π) low (high - low + 1)
    image_block i j k hi ki hj kj hk far x y =
        let n = g.count in
        let rise = later_child (rises_onto g o) a (a + m - 1) (omega arith) (omega arith) in
        let u = o k hk in
        let q = u.2 in
        let f = ap (at π) q in
        none_between i j u.0 hi (omega arith) hj (omega arith) (omega (arith, u.1)) (beyond u.0 k u.1 q far)
        (λ h. omega arith) (λ h. omega arith) (omega arith) (omega arith)

    -- the children that the block reaches are not all, since the child of a place outside is then the first or the last
    not_all : length π ≤ high - low + 1 → ⊥
    not_all q =
        let n = g.count in
        let long = p.long in
        let top = g.children (a + m - 1) (omega arith) in
        let here = g.children r (omega arith) in
        let at_end : (at e r ≡ 0) ⊎ (suc (at e r) ≡ length π) = elim out [
          | inl x ↦ inl (let k = later_child (rises_onto g o) r a (omega arith) (omega arith) in omega arith)
          | inr x ↦ inr (let k = later_child (rises_onto g o) (a + m - 1) r (omega arith) (omega arith) in omega arith)
        ] in
        let x = between_others π (at e r) p here at_end in
        none_between x.0 x.1 r (omega arith) (omega (arith, x.2)) (omega arith) (omega (arith, x.3)) hr out
        (λ h. let z = ap (at π) h in omega (arith, x.4)) (λ h. let z = ap (at π) h in omega (arith, x.5)) x.4 x.5

-- the places of one child of a map are a block of the word
run_block : (σ π e : List ℕ) (i a m : ℕ) → Sends π σ e → IsRun e i a m → IsBlock (length σ) (at σ) a m
run_block σ π e i a m g r x y u hx kx hy ky hu far lo hi =
    let n = g.count in
    let fits = r.fits in
    let ex = r.inside x hx kx in
    let ey = r.inside y hy ky in
    let other : at e u ≢ i = λ q. let k = r.only u (omega arith) q in omega arith in
    let c = (g.across x u (omega arith) (omega arith) (λ q. other (sym q ∙ ex))).0 lo in
    let d = (g.across u y (omega arith) (omega arith) (λ q. other (q ∙ ey))).0 hi in
    let w : at π (at e x) ≡ at π (at e y) = ap (at π) (ex ∙ sym ey) in
    omega arith

-- a map onto a simple root puts together what a map onto two children or more puts together
simple_puts_together : (σ π π' e e' : List ℕ) → IsSimple π → Sends π σ e → Onto (length π) e → Sends π' σ e' → Onto (length π') e' → 2 ≤ length π'
    → (s t : ℕ) → s < length σ → t < length σ → at e' s ≡ at e' t → at e s ≡ at e t
simple_puts_together σ π π' e e' p g o g' o' two s t hs ht q =
    let n = g.count in
    let n' = g'.count in
    let run = run_of (rises_onto g' o') (at e' s) (g'.children s (omega arith)) in
    let a : ℕ = run.0 in
    let m : ℕ = run.1 in
    let is : IsRun e' (at e' s) a m = run.2 in
    let fits = is.fits in
    let some = is.some in
    let b = is.only s (omega arith) refl in
    let c = is.only t (omega arith) (sym q) in
    let r : (r : ℕ) × (r < length σ) × IsOutside a m r = elsewhere a m is in
    let one = block_to_one σ π e a m p g o some (omega arith) (run_block σ π' e' (at e' s) a m g' is) r.0 r.1 r.2 in
    let x = same_between (rises_onto g o) a s (a + m - 1) (omega (arith, b)) (omega (arith, b)) (omega arith) one in
    let y = same_between (rises_onto g o) a t (a + m - 1) (omega (arith, c)) (omega (arith, c)) (omega arith) one in
    x ∙ sym y
  where
    -- a place of another child
    elsewhere : (a m : ℕ) → IsRun e' (at e' s) a m → (r : ℕ) × (r < length σ) × IsOutside a m r
    elsewhere a m is =
        let n' = g'.count in
        let i : (i : ℕ) × (i < length π') × (i ≢ at e' s) = elim (cases_eq (at e' s) 0) [
          | inl k ↦ (1, omega arith, λ h. omega arith)
          | inr k ↦ (0, omega arith, λ h. k (sym h))
        ] in
        let r = o' i.0 i.1 in
        (r.0, omega (arith, r.1), elim (inside_or_outside a m r.0) [ inl k ↦ absurd (i.2 (sym r.2 ∙ is.inside r.0 k.0 k.1)) | inr k ↦ k ])

-- two maps onto simple roots are equal
pub simple_maps_equal : (σ π π' e e' : List ℕ) → IsSimple π → IsSimple π' → Sends π σ e → Onto (length π) e → Sends π' σ e' → Onto (length π') e' → e ≡ e'
simple_maps_equal σ π π' e e' p p' g o g' o' =
    let n = g.count in
    let long = p.long in
    let long' = p'.long in
    same_maps (rises_onto g o) (rises_onto g' o') (record {
      count = n ∙ sym g'.count;
      alike = λ s t hs ht. (
        simple_puts_together σ π' π e' e p' g' o' g o (omega arith) s t (omega arith) (omega arith),
        simple_puts_together σ π π' e e' p g o g' o' (omega arith) s t (omega arith) (omega arith),
      );
    })

-- a word with a map onto a simple root has none onto a root of two: of three places with different children two would have one
pub simple_two : (σ π π' e e' : List ℕ) → IsSimple π → Sends π σ e → Onto (length π) e → length π' ≡ 2 → Sends π' σ e' → Onto (length π') e' → ⊥
simple_two σ π π' e e' p g o two g' o' =
    let long = p.long in
    let r = o 0 (omega arith) in
    let s = o 1 (omega arith) in
    let t = o 2 (omega arith) in
    elim (cases_eq (at e' r.0) (at e' s.0)) [
      | inl q ↦ let k = same r.0 s.0 r.1 s.1 q in omega (arith, r.2, s.2)
      | inr q ↦ elim (cases_eq (at e' r.0) (at e' t.0)) [
        | inl q' ↦ let k = same r.0 t.0 r.1 t.1 q' in omega (arith, r.2, t.2)
        | inr q' ↦
            let a = child r.0 r.1 in
            let b = child s.0 s.1 in
            let c = child t.0 t.1 in
            let k = same s.0 t.0 s.1 t.1 (omega (arith, q, q')) in
            omega (arith, s.2, t.2)
      ]
    ]
  where
    child : (x : ℕ) → x < length e → at e' x < 2
    child x h = let n = g.count in let n' = g'.count in let y = g'.children x (omega arith) in omega arith

    same : (x y : ℕ) → x < length e → y < length e → at e' x ≡ at e' y → at e x ≡ at e y
    same x y hx hy = let n = g.count in simple_puts_together σ π π' e e' p g o g' o' (omega arith) x y (omega arith) (omega arith)
