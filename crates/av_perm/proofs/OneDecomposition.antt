-- A word has at most one decomposition.
-- A decomposition is a map of the places onto those of the root (RisingMaps). It determines root and blocks, so two maps have to be equal.
-- Onto simple roots: the places of one child are a block, and a map onto a simple root sends each block, unless it is all, to one child.
-- So two such maps put the same places together, and there is no map onto 12 or 21 beside one onto a simple root (SimpleMaps).
-- Onto 12, or onto 21: if one map turned earlier, the first block of the other would be an inflation of the root (CutFronts).
-- One onto 12 and one onto 21: the first entry would lie below the last, and above it.
use Rattle.std.proofs.Common.{◌≡◌, ℕ, ◌-◌, ◌<◌, ◌≢◌, inl, inr, List, [], length, refl, sym, ap, ◌∙◌, subst, arith}
use Rattle.std.proofs.lemmas.Bool.{cases_eq}
use Rattle.std.proofs.lemmas.List.{ext_get_or}
use Rattle.av_perm.specs.Relations.{at, IsOneToLength, block, pattern_of, sum_root, skew_root, IsNoInflationOf}
use Rattle.av_perm.specs.Fibre.{fibre}
use Rattle.av_perm.specs.Decompose.{IsRoot, Decomposes}
use Rattle.av_perm.proofs.Patterns.{order_equal}
use Rattle.av_perm.proofs.InflatedPatterns.{Sends}
use Rattle.av_perm.proofs.BlockMaps.{Onto, value_embedding}
use Rattle.av_perm.proofs.RisingMaps.{rises_onto, same_count}
use Rattle.av_perm.proofs.RootWords.{root_word}
use Rattle.av_perm.proofs.Cuts.{map_cut, side_of}
use Rattle.av_perm.proofs.CutFronts.{no_earlier_cut}
use Rattle.av_perm.proofs.SimpleMaps.{simple_maps_equal, simple_two}

-- the map of a decomposition
pub record Map (σ π : List ℕ) (αs : List (List ℕ)) : Type 0 where
  pub e : List ℕ
  pub is : Sends π σ e
  pub onto : Onto (length π) e
  pub made : (i : ℕ) → i < length π → block αs i ≡ pattern_of (fibre σ e i)

-- each decomposition has its map
pub map_of : (σ π : List ℕ) (αs : List (List ℕ)) → Decomposes σ π αs → Map σ π αs
map_of σ π αs d =
    let v = value_embedding σ π αs (root_word π (block αs 0) d.root) d.blocks d.value in
    record { e = v.0; is = v.1; onto = v.2; made = v.3 }

-- an equal root has the same map
under : {σ π : List ℕ} {αs : List (List ℕ)} (m : Map σ π αs) (ρ : List ℕ) → π ≡ ρ → Sends ρ σ m.e × Onto (length ρ) m.e
under {σ = σ} m ρ q = (subst (λ p. Sends p σ m.e) q m.is, subst (λ p. Onto (length p) m.e) q m.onto)

-- two maps onto one root of two, with first blocks that are no inflation of it, are equal, since neither turns before the other
two_same : (σ π e e' : List ℕ) → IsOneToLength σ → length π ≡ 2 → Sends π σ e × Onto (length π) e → Sends π σ e' × Onto (length π) e'
    → IsNoInflationOf π (pattern_of (fibre σ e 0)) → IsNoInflationOf π (pattern_of (fibre σ e' 0)) → e ≡ e'
two_same σ π e e' w two g g' none none' =
    let n = g.0.count in
    let n' = g'.0.count in
    let r = map_cut g.0 g.1 two in
    let r' = map_cut g'.0 g'.1 two in
    let x = no_earlier_cut π σ e r.0 r'.0 two w n r.1 none r'.2 in
    let y = no_earlier_cut π σ e' r'.0 r.0 two w n' r'.1 none' r.2 in
    ext_get_or 0 e e' (n ∙ sym n') (λ s h. let p = side_of r.1 s h in let q = side_of r'.1 s (omega arith) in omega arith)

-- the maps of two decompositions with one root of two are equal
two_maps_equal : (σ π π' ρ : List ℕ) (αs αs' : List (List ℕ)) → IsOneToLength σ → (m : Map σ π αs) (m' : Map σ π' αs') → length ρ ≡ 2
    → π ≡ ρ → π' ≡ ρ → IsNoInflationOf ρ (block αs 0) → IsNoInflationOf ρ (block αs' 0) → m.e ≡ m'.e
two_maps_equal σ π π' ρ αs αs' w m m' two q q' none none' =
    let n = ap length q in
    let n' = ap length q' in
    two_same σ ρ m.e m'.e w two (under m ρ q) (under m' ρ q')
    (subst (IsNoInflationOf ρ) (m.made 0 (omega arith)) none) (subst (IsNoInflationOf ρ) (m'.made 0 (omega arith)) none')

-- no word has a map onto 12 and one onto 21: its first entry would lie below its last and above it
pub rise_fall : (σ e e' : List ℕ) → Sends sum_root σ e → Onto 2 e → Sends skew_root σ e' → Onto 2 e' → ⊥
rise_fall σ e e' g o g' o' =
    let r = map_cut g o refl in
    let r' = map_cut g' o' refl in
    let fits = r.2.fits in
    let fits' = r'.2.fits in
    let x = (r.2.lie 0 (length σ - 1) r.2.some (omega arith) (omega arith)).0.1 (omega arith) in
    let y = (r'.2.lie 0 (length σ - 1) r'.2.some (omega arith) (omega arith)).1.1 (omega arith) in
    omega arith

-- so no word has a decomposition with root 12 and one with root 21
sum_skew : (σ π π' : List ℕ) (αs αs' : List (List ℕ)) → Map σ π αs → Map σ π' αs' → π ≡ sum_root → π' ≡ skew_root → ⊥
sum_skew σ π π' αs αs' m m' q q' =
    let g = under m sum_root q in
    let g' = under m' skew_root q' in
    rise_fall σ m.e m'.e g.0 g.1 g'.0 g'.1

-- the maps of any two decompositions are equal
same_map : (σ π π' : List ℕ) (αs αs' : List (List ℕ)) → IsOneToLength σ → (m : Map σ π αs) (m' : Map σ π' αs') → IsRoot π (block αs 0)
    → IsRoot π' (block αs' 0) → m.e ≡ m'.e
same_map σ π π' αs αs' w m m' (inl r) (inl r') = two_maps_equal σ π π' sum_root αs αs' w m m' refl r.0 r'.0 r.1 r'.1
same_map σ π π' αs αs' w m m' (inr (inl r)) (inr (inl r')) = two_maps_equal σ π π' skew_root αs αs' w m m' refl r.0 r'.0 r.1 r'.1
same_map σ π π' αs αs' w m m' (inr (inr p)) (inr (inr p')) = simple_maps_equal σ π π' m.e m'.e p p' m.is m.onto m'.is m'.onto
same_map σ π π' αs αs' w m m' (inl r) (inr (inl r')) = absurd (sum_skew σ π π' αs αs' m m' r.0 r'.0)
same_map σ π π' αs αs' w m m' (inr (inl r)) (inl r') = absurd (sum_skew σ π' π αs' αs m' m r'.0 r.0)
same_map σ π π' αs αs' w m m' (inl r) (inr (inr p)) = absurd (simple_two σ π' π m'.e m.e p m'.is m'.onto (ap length r.0) m.is m.onto)
same_map σ π π' αs αs' w m m' (inr (inl r)) (inr (inr p)) = absurd (simple_two σ π' π m'.e m.e p m'.is m'.onto (ap length r.0) m.is m.onto)
same_map σ π π' αs αs' w m m' (inr (inr p)) (inl r) = absurd (simple_two σ π π' m.e m'.e p m.is m.onto (ap length r.0) m'.is m'.onto)
same_map σ π π' αs αs' w m m' (inr (inr p)) (inr (inl r)) = absurd (simple_two σ π π' m.e m'.e p m.is m.onto (ap length r.0) m'.is m'.onto)

-- the root of a map is determined: two of its entries lie as the entries of the word at places that go there
same_root : (σ π π' e : List ℕ) → IsOneToLength π → IsOneToLength π' → Sends π σ e → Sends π' σ e → Onto (length π) e → Onto (length π') e → π ≡ π'
same_root σ π π' e w w' g g' o o' = order_equal π π' w w' (record {
  count = same_count (rises_onto g o) (rises_onto g' o');
  alike = λ i j hi hj. elim (cases_eq i j) [
    | inl q ↦ let x = ap (at π) q in let y = ap (at π') q in (λ l. absurd (omega arith), λ l. absurd (omega arith))
    | inr q ↦
        let s = o i hi in
        let t = o j hj in
        let other : at e s.0 ≢ at e t.0 = λ h. q (omega (arith, s.2, t.2)) in
        let a = g.across s.0 t.0 s.1 t.1 other in
        let a' = g'.across s.0 t.0 s.1 t.1 other in
        let x = ap (at π) s.2 in
        let y = ap (at π) t.2 in
        let x' = ap (at π') s.2 in
        let y' = ap (at π') t.2 in
        (λ l. let k = a'.0 (a.1 (omega arith)) in omega arith, λ l. let k = a.0 (a'.1 (omega arith)) in omega arith)
  ];
})

-- at most one root, and one list of blocks
pub one_decomposition : (σ π π' : List ℕ) (αs αs' : List (List ℕ)) → IsOneToLength σ → Decomposes σ π αs → Decomposes σ π' αs' → (π ≡ π') × (αs ≡ αs')
one_decomposition σ π π' αs αs' w d d' =
    let m = map_of σ π αs d in
    let m' = map_of σ π' αs' d' in
    let same : m.e ≡ m'.e = same_map σ π π' αs αs' w m m' d.root d'.root in
    let root : π ≡ π' = same_root σ π π' m'.e (root_word π (block αs 0) d.root) (root_word π' (block αs' 0) d'.root)
    (subst (Sends π σ) same m.is) m'.is (subst (Onto (length π)) same m.onto) m'.onto in
    let n : length π ≡ length π' = ap length root in
    let count = d.blocks.count in
    let count' = d'.blocks.count in (
      root,
      ext_get_or [] αs αs' (count ∙ n ∙ sym count') (λ i h.
          m.made i (omega arith) ∙ ap (λ l. pattern_of (fibre σ l i)) same ∙ sym (m'.made i (omega arith))),
    )
