-- A point that was taken away is put in again, and two points are taken away at once or one after the other.
use Rattle.std.proofs.Common.{ℕ, zero, suc, ◌≡◌, ◌<◌, ◌≤◌, ◌+◌, ◌-◌, ◌⊎◌, List, [], ◌∷◌, length, map, cond, ltb, inl, inr, sym, ap, ◌∙◌, arith, ext_get_or}
use Rattle.std.specs.List.{insert}
use Rattle.std.proofs.lemmas.Bool.{cases_eq, cases_lt, cases_order, cond-true, cond-false, lt-ltb, le-ltb}
use Rattle.std.proofs.lemmas.List.{get_or-map, length-map}
use Rattle.std.proofs.lemmas.List.Edits.{length-insert, get_or-insert_below, get_or-insert_at, get_or-insert_above}
use Rattle.av_perm.specs.Relations.{at, IsOneToLength, SameOrder}
use Rattle.av_perm.specs.Pattern.{smaller, pattern_of}
use Rattle.av_perm.proofs.Patterns.{length_pattern, pattern_at, pattern_alike, pattern_same, word_smaller}
use Rattle.av_interval.specs.Points.{chosen, pattern_on, but, but_two}
use Rattle.av_interval.proofs.ChosenPlaces.{chosen_length}
use Rattle.av_interval.proofs.Frames.{once_at}
use Rattle.av_simple.specs.Extension.{raised_from, insert_point}
use Rattle.av_simple.proofs.LeftPlaces.{skip, skips, but_length, but_place, two_count, two_place}

-- one more number below x, where it is
smaller_insert : (x y : ℕ) (xs : List ℕ) (i : ℕ) → smaller x (insert xs i y) ≡ smaller x xs + cond (ltb y x) 1 0
smaller_insert x y xs zero = omega arith
smaller_insert x y [] (suc i) = omega arith
smaller_insert x y (z ∷ xs) (suc i) = omega (arith, smaller_insert x y xs i)

module _ (σ : List ℕ) (w : IsOneToLength σ) (v : ℕ) (vn : v < length σ) where
  -- the entries that are left without place v
  left : List ℕ
  left = map (at σ) (chosen (but v) (length σ))

  left_length : suc (length left) ≡ length σ
  unfolding left
  left_length = ap suc (length-map (chosen (but v) (length σ)) (at σ)) ∙ (but_length v (length σ)).1 vn

  skip_in : (s : ℕ) → s < length left → skip v s < length σ
  skip_in s h = omega (arith, skips v s, h, left_length)

  skip_off : (s : ℕ) → skip v s ≡ v → ⊥
  skip_off s e = absurd (omega (arith, skips v s, e))

  left_at : (s : ℕ) → s < length left → at left s ≡ at σ (skip v s)
  unfolding left
  left_at s h =
      let k : s < length (chosen (but v) (length σ)) = omega (arith, length-map (chosen (but v) (length σ)) (at σ), h) in
      get_or-map (at σ) (chosen (but v) (length σ)) s 0 0 k ∙ ap (at σ) (but_place v (length σ) s k)

  -- with the entry at v they are the word
  put_back : insert left v (at σ v) ≡ σ
  put_back =
      let vl : v ≤ length left = omega (arith, left_length) in
      let ln : length (insert left v (at σ v)) ≡ length σ = omega (arith, length-insert left v (at σ v) vl, left_length) in
      ext_get_or 0 (insert left v (at σ v)) σ ln (λ i h. elim (cases_lt i v) [
        | inl l ↦ get_or-insert_below left v (at σ v) 0 i l vl ∙ left_at i (omega (arith, left_length)) ∙ ap (at σ) (at_low i l)
        | inr g ↦ elim (cases_eq i v) [
          | inl e ↦ ap (at (insert left v (at σ v))) e ∙ get_or-insert_at left v (at σ v) 0 vl ∙ ap (at σ) (sym e)
          | inr ne ↦
              ap (at (insert left v (at σ v))) (one_down i (omega arith)) ∙ get_or-insert_above left v (at σ v) 0 (i - 1) (omega arith) vl
              ∙ left_at (i - 1) (omega (arith, ln, h, left_length, ne)) ∙ ap (at σ) (at_high i (omega arith))
        ]
      ])
    where
      at_low : (i : ℕ) → i < v → skip v i ≡ i
      at_low i l = omega (arith, skips v i, l)

      one_down : (i : ℕ) → v < i → i ≡ (i - 1) + 1
      one_down i l = omega arith

      at_high : (i : ℕ) → v < i → skip v (i - 1) ≡ i
      at_high i l = omega (arith, skips v (i - 1), l)

  -- the pattern's entry is one less where the entry at v is below
  pattern_below : (s : ℕ) → s < length left → at (pattern_of left) s + cond (ltb (at σ v) (at left s)) 1 0 ≡ at left s
  pattern_below s h =
      let b = w.within (skip v s) (skip_in s h) in
      omega (
        arith,
        pattern_at left s h,
        smaller_insert (at left s) (at σ v) left v,
        ap (smaller (at left s)) put_back,
        word_smaller σ (at left s) w (omega (arith, b.0, left_at s h)) (omega (arith, b.1, left_at s h)),
      )

  -- so raised it is the entry
  raised_at : (s : ℕ) → s < length left → raised_from (at σ v) (at (pattern_of left) s) ≡ at left s
  raised_at s h = elim (cases_order (at σ v) (at left s)) [
    | inl e ↦ absurd (skip_off s (once_at σ w (skip v s) v (skip_in s h) vn (sym (left_at s h) ∙ sym e)))
    | inr d ↦ elim d [
      | inl l ↦
          let q : at (pattern_of left) s + 1 ≡ at left s = omega (arith, pattern_below s h, cond-true {A = ℕ} (ltb (at σ v) (at left s)) 1 0 (lt-ltb (at σ v) (at left s) l)) in
          cond-false (ltb (at (pattern_of left) s) (at σ v)) (at (pattern_of left) s) (suc (at (pattern_of left) s)) (le-ltb (at (pattern_of left) s) (at σ v) (omega (arith, q, l))) ∙ omega (arith, q)
      | inr l ↦
          let q : at (pattern_of left) s ≡ at left s = omega (arith, pattern_below s h, cond-false {A = ℕ} (ltb (at σ v) (at left s)) 1 0 (le-ltb (at σ v) (at left s) (omega (arith, l)))) in
          cond-true (ltb (at (pattern_of left) s) (at σ v)) (at (pattern_of left) s) (suc (at (pattern_of left) s)) (lt-ltb (at (pattern_of left) s) (at σ v) (omega (arith, q, l))) ∙ q
    ]
  ]

  raised_left : map (raised_from (at σ v)) (pattern_of left) ≡ left
  raised_left = ext_get_or 0 (map (raised_from (at σ v)) (pattern_of left)) left (length-map (pattern_of left) (raised_from (at σ v)) ∙ length_pattern left)
      (λ s h.
      let k : s < length (pattern_of left) = omega (arith, length-map (pattern_of left) (raised_from (at σ v)), h) in
      get_or-map (raised_from (at σ v)) (pattern_of left) s 0 0 k ∙ raised_at s (omega (arith, k, length_pattern left)))

  -- the point that was taken away is put in again
  pub insert_back : insert_point (pattern_on σ (but v)) v (at σ v) ≡ σ
  unfolding left
  insert_back = ap (λ l. insert l v (at σ v)) raised_left ∙ put_back

-- two points are taken away one after the other
module _ (σ : List ℕ) (w : IsOneToLength σ) (v u : ℕ) (vu : v < u) (un : u < length σ) where
  first : List ℕ
  first = map (at σ) (chosen (but u) (length σ))

  second : List ℕ
  second = map (at (pattern_of first)) (chosen (but v) (length (pattern_of first)))

  both : List ℕ
  both = map (at σ) (chosen (but_two v u) (length σ))

  first_length : suc (length first) ≡ length σ
  unfolding first left
  first_length = left_length σ w u un

  second_length : suc (length second) ≡ length first
  unfolding second
  second_length =
      ap suc (length-map (chosen (but v) (length (pattern_of first))) (at (pattern_of first)))
      ∙ (but_length v (length (pattern_of first))).1 (omega (arith, length_pattern first, first_length)) ∙ length_pattern first

  both_length : suc (suc (length both)) ≡ length σ
  unfolding both
  both_length = omega (arith, length-map (chosen (but_two v u) (length σ)) (at σ), chosen_length (but_two v u) (length σ), (two_count v u (length σ) vu).1.1 un)

  second_at : (s : ℕ) → s < length second → at second s ≡ at (pattern_of first) (skip v s)
  unfolding second
  second_at s h =
      let k : s < length (chosen (but v) (length (pattern_of first))) = omega (arith, length-map (chosen (but v) (length (pattern_of first))) (at (pattern_of first)), h) in
      get_or-map (at (pattern_of first)) (chosen (but v) (length (pattern_of first))) s 0 0 k ∙ ap (at (pattern_of first)) (but_place v (length (pattern_of first)) s k)

  both_at : (s : ℕ) → s < length both → at both s ≡ at first (skip v s)
  unfolding first both left
  both_at s h =
      let k : s < length (chosen (but_two v u) (length σ)) = omega (arith, length-map (chosen (but_two v u) (length σ)) (at σ), h) in
      get_or-map (at σ) (chosen (but_two v u) (length σ)) s 0 0 k ∙ ap (at σ) (two_place v u (length σ) s vu k)
      ∙ sym (left_at σ w u un (skip v s) (omega (arith, skips v s, h, both_length, first_length)))

  same_order : SameOrder second both
  same_order = record {
    count = omega (arith, first_length, second_length, both_length);
    alike = λ s t hs ht.
        let ks : s < length both = omega (arith, hs, first_length, second_length, both_length) in
        let kt : t < length both = omega (arith, ht, first_length, second_length, both_length) in
        let f = pattern_alike first (skip v s) (skip v t) (omega (arith, skips v s, hs, second_length)) (omega (arith, skips v t, ht, second_length)) in (
          λ h. omega (arith, f.0 (omega (arith, h, second_at s hs, second_at t ht)), both_at s ks, both_at t kt),
          λ h. omega (arith, f.1 (omega (arith, h, both_at s ks, both_at t kt)), second_at s hs, second_at t ht),
        );
  }

  pub twice : pattern_on (pattern_on σ (but u)) (but v) ≡ pattern_on σ (but_two v u)
  unfolding first second both
  twice = pattern_same second both same_order

-- an entry goes up by one where it is at least the new one
raises : (y x : ℕ) → ((x < y) × (raised_from y x ≡ x)) ⊎ ((y ≤ x) × (raised_from y x ≡ suc x))
raises y x = elim (cases_lt x y) [
  | inl l ↦ inl (l, cond-true (ltb x y) x (suc x) (lt-ltb x y l))
  | inr g ↦ inr (g, cond-false (ltb x y) x (suc x) (le-ltb x y g))
]

module _ (τ : List ℕ) (w : IsOneToLength τ) (v y : ℕ) (within : v ≤ length τ) (low : 1 ≤ y) (high : y ≤ suc (length τ)) where
  -- the entries of τ, those from y on one higher
  abbrev raised : List ℕ
  raised = map (raised_from y) τ

  longer_length : length (insert raised v y) ≡ suc (length τ)
  longer_length = omega (arith, length-insert raised v y (omega (arith, within, length-map τ (raised_from y))), length-map τ (raised_from y))

  -- what stands at a place: the new entry, or an old one
  abbrev Stands : ℕ → Type 0
  Stands k = ((k ≡ v) × (at (insert raised v y) k ≡ y)) ⊎ ((j : ℕ) × (j < length τ) × (skip v j ≡ k) × (at (insert raised v y) k ≡ raised_from y (at τ j)))

  stands : (k : ℕ) → k < length (insert raised v y) → Stands k
  stands k h =
      let vl : v ≤ length raised = omega (arith, within, length-map τ (raised_from y)) in
      elim (cases_lt k v) [
        | inl l ↦
            let j : k < length τ = omega (arith, l, within) in
            inr (k, j, omega (arith, skips v k, l), get_or-insert_below raised v y 0 k l vl ∙ get_or-map (raised_from y) τ k 0 0 j)
        | inr g ↦ elim (cases_eq k v) [
          | inl e ↦ inl (e, ap (at (insert raised v y)) e ∙ get_or-insert_at raised v y 0 vl)
          | inr ne ↦
              let o : k ≡ (k - 1) + 1 = omega (arith, g, ne) in
              let j : k - 1 < length τ = omega (arith, h, longer_length, g, ne) in
              let q = get_or-insert_above raised v y 0 (k - 1) (omega (arith, g, ne)) vl in
              inr (k - 1, j, omega (arith, skips v (k - 1), g, ne), ap (at (insert raised v y)) o ∙ q ∙ get_or-map (raised_from y) τ (k - 1) 0 0 j)
        ]
      ]

  stands_within : (k : ℕ) → Stands k → (1 ≤ at (insert raised v y) k) × (at (insert raised v y) k ≤ length (insert raised v y))
  stands_within k (inl q) = (omega (arith, q.1, low), omega (arith, q.1, high, longer_length))
  stands_within k (inr q) =
      let b = w.within q.0 q.1 in
      (omega (arith, q.3, b.0, raises y (at τ q.0)), omega (arith, q.3, b.1, raises y (at τ q.0), longer_length))

  stands_apart : (s t : ℕ) → Stands s → Stands t → at (insert raised v y) s ≡ at (insert raised v y) t → s ≡ t
  stands_apart s t (inl a) (inl b) e = a.0 ∙ sym b.0
  stands_apart s t (inl a) (inr b) e = absurd (omega (arith, a.1, b.3, e, raises y (at τ b.0)))
  stands_apart s t (inr a) (inl b) e = absurd (omega (arith, b.1, a.3, e, raises y (at τ a.0)))
  stands_apart s t (inr a) (inr b) e =
      let same : a.0 ≡ b.0 = once_at τ w a.0 b.0 a.1 b.1 (omega (arith, a.3, b.3, e, raises y (at τ a.0), raises y (at τ b.0))) in
      sym a.2 ∙ ap (skip v) same ∙ b.2

  -- a word with one more point is a word
  pub inserted_word : IsOneToLength (insert_point τ v y)
  inserted_word = record {
    within = λ k h. stands_within k (stands k h);
    apart = λ s t l h e. absurd (omega (arith, l, stands_apart s t (stands s (omega (arith, l, h))) (stands t h) e));
  }

  pub inserted_length : length (insert_point τ v y) ≡ suc (length τ)
  inserted_length = longer_length
