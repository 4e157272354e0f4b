-- The root of the maximal intervals of a word that is neither a sum nor a skew sum is simple.
use Rattle.std.proofs.Common.{◌≡◌, ℕ, suc, ◌+◌, ◌-◌, ◌<◌, ◌≤◌, ◌⊎◌, inl, inr, List, [], ◌∷◌, length, ap, subst, arith}
use Rattle.std.proofs.lemmas.Bool.{cases_lt, cases_eq}
use Rattle.av_perm.specs.Members.{IsListOf}
use Rattle.av_perm.specs.Relations.{at, IsOneToLength, IsInterval}
use Rattle.av_perm.specs.Decompose.{Decomposes}
use Rattle.av_perm.proofs.Membership.{In_at}
use Rattle.av_perm.proofs.BlockIntervals.{block_interval}
use Rattle.av_interval.specs.declared.spans.Span.{Span}
use Rattle.av_interval.specs.Intervals.{Tiles, places_of, IsProperInterval, IsMaximalInterval}
use Rattle.av_interval.proofs.Windows.{window_only}
use Rattle.av_interval.proofs.Overlaps.{IsUncut, whole_cut}
use Rattle.av_decomp.specs.Blocks.{blocks_at, root_at}
use Rattle.av_decomp.proofs.SpanNumbers.{span_at, LiesAt, span_within, span_order, number_rises}
use Rattle.av_decomp.proofs.TiledWords.{IsTiled, map_of, place_in, length_root, root_word, across, tiled_blocks, tiled_value}

-- maximal intervals that follow one another up to the end of a word that isn't cut
pub record AreMaximal (w : List ℕ) (spans : List Span) : Type 0 where
  pub long : 2 ≤ length w
  pub tiled : IsTiled w spans
  pub uncut : IsUncut w
  pub maximal : (i : ℕ) → i < length spans → IsMaximalInterval w (span_at spans i)

-- some spans one after another, as one
abbrev together : List Span → ℕ → ℕ → Span
together spans i m = record { first = (span_at spans i).first; last = (span_at spans (i + m - 1)).last }

-- the spans of an interval of the root make an interval of the word
lifted : (w : List ℕ) (spans : List Span) (i m : ℕ) → IsTiled w spans → 1 ≤ m → i + m ≤ length spans → IsInterval (root_at w spans) i m
    → IsInterval w ((span_at spans i).first - 1) (places_of (together spans i m))
lifted w spans i m h one l p =
    let a = span_within spans 1 (length w) i h.cover (omega arith) in
    let b = span_within spans 1 (length w) (i + m - 1) h.cover (omega arith) in
    let o = ends in
    block_interval w ((span_at spans i).first - 1) (places_of (together spans i m)) h.word (omega (arith, a, b, o)) (omega (arith, a, b)) (λ s t u b0 b1 b2 b3 hu out x y.
    let r = place_in w spans s h.cover (omega (arith, b)) in
    let q = place_in w spans t h.cover (omega (arith, b)) in
    let z = place_in w spans u h.cover hu in
    outside s t u r q z (inside s r b0 b1) (inside t q b2 b3) out x y)
  where
    ends : (span_at spans i).last ≤ (span_at spans (i + m - 1)).last
    ends = elim (cases_eq m 1) [
      | inl e ↦ let f : i + m - 1 ≡ i = omega arith in let g = ap (λ j. (span_at spans j).last) f in omega arith
      | inr e ↦
          let o = span_order spans 1 (length w) i (i + m - 1) h.cover (omega (arith, e)) (omega arith) in
          let b = span_within spans 1 (length w) (i + m - 1) h.cover (omega arith) in
          omega (arith, b)
    ]

    -- the numbers of the places inside
    inside : (s : ℕ) → LiesAt spans (at (map_of w spans) s) (suc s) → (span_at spans i).first - 1 ≤ s → s < (span_at spans i).first - 1 + places_of (together spans i m) → (i ≤ at (map_of w spans) s) × (at (map_of w spans) s < i + m)
    inside s r x y =
        let a = span_within spans 1 (length w) i h.cover (omega arith) in
        let b = span_within spans 1 (length w) (i + m - 1) h.cover (omega arith) in (
          number_rises spans 1 (length w) i (at (map_of w spans) s) (span_at spans i).first (suc s) h.cover (record { inside = omega arith; low = omega arith; high = omega (arith, a) }) r (omega (arith, a)),
          let k = number_rises spans 1 (length w) (at (map_of w spans) s) (i + m - 1) (suc s) (span_at spans (i + m - 1)).last h.cover r (record { inside = omega arith; low = omega (arith, b); high = omega arith }) (omega (arith, a, b, ends)) in omega arith,
        )

    -- and of a place outside
    far_out : (u : ℕ) → LiesAt spans (at (map_of w spans) u) (suc u) → (u < (span_at spans i).first - 1) ⊎ ((span_at spans i).first - 1 + places_of (together spans i m) ≤ u)
        → (at (map_of w spans) u < i) ⊎ (i + m ≤ at (map_of w spans) u)
    far_out u z (inl o) =
        let a = span_within spans 1 (length w) i h.cover (omega arith) in
        let k = number_rises spans 1 (length w) (at (map_of w spans) u) i (suc u) (span_at spans i).first h.cover z (record { inside = omega arith; low = omega arith; high = omega (arith, a) }) (omega arith) in
        inl (elim (cases_eq (at (map_of w spans) u) i) [
          | inl e ↦ let f = ap (λ j. (span_at spans j).first) e in absurd (omega (arith, z.low))
          | inr e ↦ omega (arith, e)
        ])
    far_out u z (inr o) =
        let a = span_within spans 1 (length w) i h.cover (omega arith) in
        let b = span_within spans 1 (length w) (i + m - 1) h.cover (omega arith) in
        let k = number_rises spans 1 (length w) (i + m - 1) (at (map_of w spans) u) (span_at spans (i + m - 1)).last (suc u) h.cover (record { inside = omega arith; low = omega (arith, b); high = omega arith }) z (omega (arith, a, b, ends)) in
        inr (elim (cases_eq (at (map_of w spans) u) (i + m - 1)) [
          | inl e ↦ let f = ap (λ j. (span_at spans j).last) e in absurd (omega (arith, z.high, a, b, ends))
          | inr e ↦ omega (arith, e)
        ])

    -- no entry outside lies between two inside
    outside : (s t u : ℕ) → LiesAt spans (at (map_of w spans) s) (suc s) → LiesAt spans (at (map_of w spans) t) (suc t) → LiesAt spans (at (map_of w spans) u) (suc u)
        → (i ≤ at (map_of w spans) s) × (at (map_of w spans) s < i + m) → (i ≤ at (map_of w spans) t) × (at (map_of w spans) t < i + m)
        → (u < (span_at spans i).first - 1) ⊎ ((span_at spans i).first - 1 + places_of (together spans i m) ≤ u) → at w s < at w u → at w u < at w t → ⊥
    outside s t u r q z cs ct out x y =
        let e = map_of w spans in
        let n = length_root w spans in
        let far = far_out u z out in
        let su = (across w spans (at (map_of w spans) s) (at (map_of w spans) u) s u h r z (λ c. elim far [ inl k ↦ omega (arith, cs) | inr k ↦ omega (arith, cs) ])).0 x in
        let ut = (across w spans (at (map_of w spans) u) (at (map_of w spans) t) u t h z q (λ c. elim far [ inl k ↦ omega (arith, ct) | inr k ↦ omega (arith, ct) ])).0 y in
        let vs = p.1.1 (at (map_of w spans) s) cs.0 cs.1 in
        let vt = p.1.1 (at (map_of w spans) t) ct.0 ct.1 in
        let k = window_only (root_at w spans) i m p.1.0 (at (map_of w spans) u) (root_word w spans h.word h.cover).apart p.0 p.1.1 (omega (arith, z.inside)) (omega (arith, vs)) (omega (arith, vt)) in
        elim far [ inl o ↦ omega (arith, k) | inr o ↦ omega (arith, k) ]

-- no spans but one or all make an interval of the root
bare : (w : List ℕ) (spans : List Span) → AreMaximal w spans → (i m : ℕ) → 2 ≤ m → m < length (root_at w spans) → IsInterval (root_at w spans) i m → ⊥
bare w spans h i m two l p =
    let n = length_root w spans in
    let c = h.tiled.cover in
    let a = span_within spans 1 (length w) i c (omega (arith, p.0)) in
    let b = span_within spans 1 (length w) (i + m - 1) c (omega (arith, p.0)) in
    let o = span_order spans 1 (length w) i (i + m - 1) c (omega arith) (omega (arith, p.0)) in
    let few : places_of (together spans i m) < length w = elim (cases_lt 0 i) [
      | inl k ↦
          let d = span_within spans 1 (length w) 0 c (omega (arith, p.0)) in
          let e = span_order spans 1 (length w) 0 i c k (omega (arith, p.0)) in
          omega (arith, a, b, d)
      | inr k ↦
          let d = span_within spans 1 (length w) (i + m) c (omega arith) in
          let e = span_order spans 1 (length w) (i + m - 1) (i + m) c (omega arith) (omega arith) in
          omega (arith, a, b, d)
    ] in
    let q : IsProperInterval w (together spans i m) = record {
      low = a.0;
      order = omega (arith, a, b);
      high = b.2;
      interval = lifted w spans i m h.tiled (omega arith) (omega (arith, p.0)) p;
      proper = few;
    } in
    let e = ap (λ (s : Span). s.last) ((h.maximal i (omega (arith, p.0))).maximal (together spans i m) q (record { first = omega arith; last = omega (arith, a, b) })) in
    omega (arith, b)

-- of three numbers two neighbours are consecutive
three : (π : List ℕ) → IsOneToLength π → length π ≡ 3 → (i : ℕ) × IsInterval π i 2
three π g e =
    let x = g.within 0 (omega arith) in
    let y = g.within 1 (omega arith) in
    let z = g.within 2 (omega arith) in
    let xy = g.apart 0 1 (omega arith) (omega arith) in
    let xz = g.apart 0 2 (omega arith) (omega arith) in
    let yz = g.apart 1 2 (omega arith) (omega arith) in
    elim (cases_lt (at π 0) (at π 1)) [
      | inl l ↦ elim (cases_eq (at π 1) (suc (at π 0))) [
        | inl f ↦ (0, pair 0 (at π 0) (omega arith) (omega arith, omega arith) (omega arith, omega arith))
        | inr f ↦ (1, pair 1 (at π 2) (omega arith) (omega arith, omega arith) (omega arith, omega arith))
      ]
      | inr l ↦ elim (cases_eq (at π 0) (suc (at π 1))) [
        | inl f ↦ (0, pair 0 (at π 1) (omega arith) (omega arith, omega arith) (omega arith, omega arith))
        | inr f ↦ (1, pair 1 (at π 1) (omega arith) (omega arith, omega arith) (omega arith, omega arith))
      ]
    ]
  where
    pair : (i v : ℕ) → i + 2 ≤ length π → (v ≤ at π i) × (at π i < v + 2) → (v ≤ at π (suc i)) × (at π (suc i) < v + 2) → IsInterval π i 2
    pair i v l a b = (
      l,
      (
        v,
        λ s h k. elim (cases_eq s i) [
          | inl q ↦ let r = ap (at π) q in (omega (arith, a), omega (arith, a))
          | inr q ↦ let f : s ≡ suc i = omega (arith, q) in let r = ap (at π) f in (omega (arith, b), omega (arith, b))
        ],
      ),
    )

-- there are four or more
four : (w : List ℕ) (spans : List Span) → AreMaximal w spans → 4 ≤ length spans
four w spans h =
    let c = h.tiled.cover in
    let n = length_root w spans in
    elim (cases_lt (length spans) 4) [
      | inr l ↦ l
      | inl l ↦ elim (cases_eq (length spans) 3) [
        | inl e ↦ let r = three (root_at w spans) (root_word w spans h.tiled.word c) (omega arith) in absurd (bare w spans h r.0 2 (omega arith) (omega arith) r.1)
        | inr e3 ↦ elim (cases_eq (length spans) 2) [
          | inl e ↦ absurd (two spans h.tiled.cover h.maximal e)
          | inr e2 ↦ elim (cases_eq (length spans) 1) [
            | inl e ↦ absurd (one spans h.tiled.cover h.maximal e)
            | inr e1 ↦ absurd (no_spans spans h.tiled.cover (omega (arith, e1, e2, e3)))
          ]
        ]
      ]
    ]
  where
    no_spans : (spans : List Span) → Tiles 1 (length w) spans → length spans ≡ 0 → ⊥
    no_spans [] c e = let l = h.long in omega (arith, c)
    no_spans (s ∷ spans) c e = omega arith

    one : (spans : List Span) → Tiles 1 (length w) spans → ((i : ℕ) → i < length spans → IsMaximalInterval w (span_at spans i)) → length spans ≡ 1 → ⊥
    one [] c f e = omega arith
    one (s ∷ []) c f e = let p = (f 0 (omega arith)).proper.proper in omega (arith, c.0, c.1, c.2)
    one (s ∷ t ∷ spans) c f e = omega arith

    two : (spans : List Span) → Tiles 1 (length w) spans → ((i : ℕ) → i < length spans → IsMaximalInterval w (span_at spans i)) → length spans ≡ 2 → ⊥
    two [] c f e = omega arith
    two (s ∷ []) c f e = omega arith
    two (s ∷ t ∷ []) c f e =
        let p = (f 0 (omega arith)).proper in
        let q = (f 1 (omega arith)).proper in
        let z : s.first - 1 ≡ 0 = omega (arith, c.0) in
        let i : IsInterval w 0 (places_of s) = subst (λ n. IsInterval w n (places_of s)) z p.interval in
        elim (whole_cut w (places_of s) (t.first - 1) (places_of t) h.tiled.word i p.proper q.interval q.proper (omega (arith, c.0, c.1, c.2.0)) (omega (arith, c.0, c.1, c.2.0, c.2.1, c.2.2))) [
          | inl k ↦ h.uncut.low (places_of s) (omega (arith, c.1)) p.proper k
          | inr k ↦ h.uncut.high (places_of s) (omega (arith, c.1)) p.proper k
        ]
    two (s ∷ t ∷ u ∷ spans) c f e = omega arith

-- so the word decomposes by them
pub maximal_decomposes : (w : List ℕ) (spans : List Span) → AreMaximal w spans → Decomposes w (root_at w spans) (blocks_at w spans)
maximal_decomposes w spans h = record {
  blocks = tiled_blocks w spans h.tiled;
  value = tiled_value w spans h.tiled;
  root = inr (inr (record {
    numbers = root_word w spans h.tiled.word h.tiled.cover;
    long = let n = length_root w spans in let k = four w spans h in omega arith;
    bare = λ i m two l p. bare w spans h i m two l p;
  }));
}

-- the list of the maximal intervals
pub are_maximal : (w : List ℕ) (spans : List Span) → IsOneToLength w → IsUncut w → 2 ≤ length w → Tiles 1 (length w) spans → IsListOf (IsMaximalInterval w) spans → AreMaximal w spans
are_maximal w spans g u two c h =
    let each : (i : ℕ) → i < length spans → IsMaximalInterval w (span_at spans i) = λ i l. (h.members (span_at spans i)).0 (In_at spans i (record { first = 0; last = 0 }) l) in
    record {
      long = two;
      tiled = record { word = g; cover = c; interval = λ i l. (each i l).proper.interval };
      uncut = u;
      maximal = each;
    }
