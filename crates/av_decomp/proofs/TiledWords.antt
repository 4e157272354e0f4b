-- A word cut into intervals is the inflation of the pattern of their first entries by their patterns.
use Rattle.std.proofs.Common.{◌≡◌, ℕ, zero, suc, ◌+◌, ◌-◌, ◌<◌, ◌≤◌, ◌≢◌, inl, inr, ◌↔◌, List, [], ◌∷◌, map, length, take, drop, refl, sym, ap, ◌∙◌, subst, arith}
use Rattle.std.proofs.lemmas.Bool.{cases_order}
use Rattle.std.proofs.lemmas.List.{get_or-map, length-map, ext_get_or}
use Rattle.av_perm.specs.Lists.{counting}
use Rattle.av_perm.specs.Word.{entry}
use Rattle.av_perm.specs.Fibre.{fibre}
use Rattle.av_perm.specs.Relations.{at, IsOneToLength, IsInterval, AreBlocks, inflate, pattern_of}
use Rattle.av_perm.proofs.NoRepeats.{IsApart}
use Rattle.av_perm.proofs.RisingLists.{length_counting, counting_at}
use Rattle.av_perm.proofs.Patterns.{length_pattern, pattern_alike, pattern_word}
use Rattle.av_perm.proofs.Fibres.{fibre_hit, fibre_miss}
use Rattle.av_perm.proofs.InflatedPatterns.{Sends}
use Rattle.av_perm.proofs.BlockMaps.{Onto, blocks_of, blocks_at as block_of_map, blocks_are, embedding_value}
use Rattle.av_interval.specs.declared.spans.Span.{Span}
use Rattle.av_interval.specs.Intervals.{Tiles, places_of}
use Rattle.av_interval.proofs.Overlaps.{intervals_order}
use Rattle.av_decomp.specs.Blocks.{entries_at, block_at, blocks_at, first_entries, root_at}
use Rattle.av_decomp.proofs.SpanNumbers.{span_at, number_at, LiesAt, span_within, span_order, number_holds, number_only, number_rises}

-- the items that go to a child, where these are the `m` places from `a` on
pub fibre_range : {A : Type 0} (xs : List A) (e : List ℕ) (i a m : ℕ) → length e ≡ length xs → a + m ≤ length xs
    → ((s : ℕ) → s < length e → at e s ≡ i → (a ≤ s) × (s < a + m)) → ((s : ℕ) → a ≤ s → s < a + m → at e s ≡ i) → fibre xs e i ≡ take m (drop a xs)
fibre_range [] [] i zero zero n l f g = refl
fibre_range [] [] i zero (suc m) n l f g = absurd (omega arith)
fibre_range [] [] i (suc a) m n l f g = absurd (omega arith)
fibre_range [] (c ∷ e) i a m n l f g = absurd (omega arith)
fibre_range (x ∷ xs) [] i a m n l f g = absurd (omega arith)
fibre_range (x ∷ xs) (c ∷ e) i zero zero n l f g =
    fibre_miss x xs c e i (λ q. let r = f 0 (omega arith) q in omega (arith, r.1))
    ∙ fibre_range xs e i zero zero (omega arith) (omega arith) (λ s h q. let r = f (suc s) (omega arith) q in absurd (omega (arith, r.1))) (λ s h k. absurd (omega arith))
fibre_range (x ∷ xs) (c ∷ e) i zero (suc m) n l f g =
    fibre_hit x xs c e i (g 0 (omega arith) (omega arith))
    ∙ ap (λ ys. x ∷ ys) (fibre_range xs e i zero m (omega arith) (omega arith) (λ s h q. let r = f (suc s) (omega arith) q in (omega arith, omega (arith, r.1))) (λ s h k. g (suc s) (omega arith) (omega arith)))
fibre_range (x ∷ xs) (c ∷ e) i (suc a) m n l f g =
    fibre_miss x xs c e i (λ q. let r = f 0 (omega arith) q in omega (arith, r.0))
    ∙ fibre_range xs e i a m (omega arith) (omega arith) (λ s h q. let r = f (suc s) (omega arith) q in (omega (arith, r.0), omega (arith, r.1))) (λ s h k. g (suc s) (omega arith) (omega arith))

-- intervals that follow one another up to the end of a word
pub record IsTiled (w : List ℕ) (spans : List Span) : Type 0 where
  pub word : IsOneToLength w
  pub cover : Tiles 1 (length w) spans
  pub interval : (i : ℕ) → i < length spans → IsInterval w ((span_at spans i).first - 1) (places_of (span_at spans i))

-- the map of places to spans
abbrev pub map_of : List ℕ → List Span → List ℕ
map_of w spans = map (λ s. number_at spans (suc s)) (counting 0 (length w))

-- it has each place
pub length_map_of : (w : List ℕ) (spans : List Span) → length (map_of w spans) ≡ length w
length_map_of w spans = length-map (counting 0 (length w)) (λ s. number_at spans (suc s)) ∙ length_counting (length w) 0

-- where a place goes
pub map_at : (w : List ℕ) (spans : List Span) (s : ℕ) → s < length w → at (map_of w spans) s ≡ number_at spans (suc s)
map_at w spans s h = get_or-map (λ s. number_at spans (suc s)) (counting 0 (length w)) s 0 0 (omega (arith, length_counting (length w) 0)) ∙ ap (λ t. number_at spans (suc t)) (counting_at (length w) 0 s h ∙ plain s)
  where
    plain : (s : ℕ) → 0 + s ≡ s
    plain s = omega arith

-- a place lies in the span that it goes to
pub place_in : (w : List ℕ) (spans : List Span) (s : ℕ) → Tiles 1 (length w) spans → s < length w → LiesAt spans (at (map_of w spans) s) (suc s)
place_in w spans s h l = subst (λ i. LiesAt spans i (suc s)) (sym (map_at w spans s l)) (number_holds spans 1 (length w) (suc s) h (omega arith) (omega arith))

-- the first entries, and how the root has them lie
pub first_at : (w : List ℕ) (spans : List Span) (i : ℕ) → Tiles 1 (length w) spans → i < length spans → at (first_entries w spans) i ≡ at w ((span_at spans i).first - 1)
first_at w spans i h l =
    let r = span_within spans 1 (length w) i h l in
    get_or-map (λ (s : Span). entry w s.first) spans i (record { first = 0; last = 0 }) 0 l ∙ entry_at w (span_at spans i).first r.0
  where
    entry_at : (w : List ℕ) (x : ℕ) → 1 ≤ x → entry w x ≡ at w (x - 1)
    entry_at w zero h = absurd (omega arith)
    entry_at w (suc x) h = let e : suc x - 1 ≡ x = omega arith in ap (at w) (sym e)

-- one for each span
length_first : (w : List ℕ) (spans : List Span) → length (first_entries w spans) ≡ length spans
length_first w spans = length-map spans (λ (s : Span). entry w s.first)

-- the root is as long as the spans are many
pub length_root : (w : List ℕ) (spans : List Span) → length (root_at w spans) ≡ length spans
length_root w spans = length_pattern (first_entries w spans) ∙ length_first w spans

-- first entries differ
pub first_apart : (w : List ℕ) (spans : List Span) → IsOneToLength w → Tiles 1 (length w) spans → IsApart (first_entries w spans)
first_apart w spans g h s t l m e =
    let n = length_first w spans in
    let a = first_at w spans s h (omega arith) in
    let b = first_at w spans t h (omega arith) in
    let c = span_within spans 1 (length w) s h (omega arith) in
    let d = span_within spans 1 (length w) t h (omega arith) in
    let o = span_order spans 1 (length w) s t h l (omega arith) in
    g.apart ((span_at spans s).first - 1) ((span_at spans t).first - 1) (omega (arith, c.0, c.1)) (omega (arith, d.0, d.1, d.2)) (sym a ∙ e ∙ b)

-- so the root is a word
pub root_word : (w : List ℕ) (spans : List Span) → IsOneToLength w → Tiles 1 (length w) spans → IsOneToLength (root_at w spans)
root_word w spans g h = pattern_word (first_entries w spans) (first_apart w spans g h)

-- and lies as the first entries do
pub root_order : (w : List ℕ) (spans : List Span) (i j : ℕ) → Tiles 1 (length w) spans → i < length spans → j < length spans
    → (at (root_at w spans) i < at (root_at w spans) j) ↔ (at w ((span_at spans i).first - 1) < at w ((span_at spans j).first - 1))
root_order w spans i j h l m =
    let n = length_first w spans in
    let r = pattern_alike (first_entries w spans) i j (omega arith) (omega arith) in
    let a = first_at w spans i h l in
    let b = first_at w spans j h m in
    (λ q. let x = r.0 q in omega arith, λ q. r.1 (omega arith))

-- entries of different spans lie as the root has it
pub across : (w : List ℕ) (spans : List Span) (i j s t : ℕ) → IsTiled w spans → LiesAt spans i (suc s) → LiesAt spans j (suc t) → i ≢ j
    → (at w s < at w t) ↔ (at (root_at w spans) i < at (root_at w spans) j)
across w spans i j s t h p q ne =
    let a = span_within spans 1 (length w) i h.cover p.inside in
    let b = span_within spans 1 (length w) j h.cover q.inside in
    let r = root_order w spans i j h.cover p.inside q.inside in
    let o = elim (cases_order i j) as (λ x. (at w s < at w t) ↔ (at w ((span_at spans i).first - 1) < at w ((span_at spans j).first - 1))) [
      | inl e ↦ absurd (ne e)
      | inr (inl l) ↦
          let d = span_order spans 1 (length w) i j h.cover l q.inside in
          (intervals_order w ((span_at spans i).first - 1) (places_of (span_at spans i)) ((span_at spans j).first - 1) (places_of (span_at spans j)) s t ((span_at spans i).first - 1) ((span_at spans j).first - 1)
          h.word.apart (h.interval i p.inside) (h.interval j q.inside) (omega (arith, a, b))
          (omega (arith, p.low, a)) (omega (arith, p.high, a)) (omega (arith, q.low, b)) (omega (arith, q.high, b)) (omega arith) (omega (arith, a)) (omega arith) (omega (arith, b))).0
      | inr (inr l) ↦
          let d = span_order spans 1 (length w) j i h.cover l p.inside in
          (intervals_order w ((span_at spans j).first - 1) (places_of (span_at spans j)) ((span_at spans i).first - 1) (places_of (span_at spans i)) t s ((span_at spans j).first - 1) ((span_at spans i).first - 1)
          h.word.apart (h.interval j q.inside) (h.interval i p.inside) (omega (arith, a, b))
          (omega (arith, q.low, b)) (omega (arith, q.high, b)) (omega (arith, p.low, a)) (omega (arith, p.high, a)) (omega arith) (omega (arith, b)) (omega arith) (omega (arith, a))).1
    ] in
    (λ x. r.1 (o.0 x), λ x. o.1 (r.0 x))

-- so the places are sent to the root
sends : (w : List ℕ) (spans : List Span) → IsTiled w spans → Sends (root_at w spans) w (map_of w spans)
sends w spans h =
    let n = length_map_of w spans in
    let k = length_root w spans in
    record {
      count = n;
      children = λ s l. let p = place_in w spans s h.cover (omega arith) in omega (arith, p.inside);
      rising = λ s t l m.
          let p = place_in w spans s h.cover (omega arith) in
          let q = place_in w spans t h.cover (omega arith) in
          number_rises spans 1 (length w) (at (map_of w spans) s) (at (map_of w spans) t) (suc s) (suc t) h.cover p q (omega arith);
      across = λ s t l m ne.
          let p = place_in w spans s h.cover (omega arith) in
          let q = place_in w spans t h.cover (omega arith) in
          across w spans (at (map_of w spans) s) (at (map_of w spans) t) s t h p q ne;
    }

-- each entry of the root is reached
onto : (w : List ℕ) (spans : List Span) → IsTiled w spans → Onto (length (root_at w spans)) (map_of w spans)
onto w spans h i l =
    let k = length_root w spans in
    let n = length_map_of w spans in
    let r = span_within spans 1 (length w) i h.cover (omega arith) in
    let s : ℕ = (span_at spans i).first - 1 in
    let e : suc ((span_at spans i).first - 1) ≡ (span_at spans i).first = omega (arith, r.0) in
    let p = place_in w spans ((span_at spans i).first - 1) h.cover (omega (arith, r)) in
    let q : LiesAt spans i (suc ((span_at spans i).first - 1)) = record { inside = omega arith; low = omega arith; high = omega (arith, r.1) } in
    ((span_at spans i).first - 1, omega (arith, r), number_only spans 1 (length w) (at (map_of w spans) ((span_at spans i).first - 1)) i (suc ((span_at spans i).first - 1)) h.cover p q)

-- what goes to a span are its entries
span_fibre : (w : List ℕ) (spans : List Span) (i : ℕ) → Tiles 1 (length w) spans → i < length spans → fibre w (map_of w spans) i ≡ entries_at w (span_at spans i)
span_fibre w spans i h l =
    let r = span_within spans 1 (length w) i h l in
    let n = length_map_of w spans in
    fibre_range w (map_of w spans) i ((span_at spans i).first - 1) ((span_at spans i).last - ((span_at spans i).first - 1)) n (omega (arith, r))
    (λ s k e.
    let p = subst (λ j. LiesAt spans j (suc s)) e (place_in w spans s h (omega arith)) in
    (omega (arith, p.low), omega (arith, p.high, r)))
    (λ s k m.
    let p = place_in w spans s h (omega (arith, r)) in
    let q : LiesAt spans i (suc s) = record { inside = l; low = omega arith; high = omega (arith, r) } in
    number_only spans 1 (length w) (at (map_of w spans) s) i (suc s) h p q)

-- so the blocks of the map are those at the spans
blocks_same : (w : List ℕ) (spans : List Span) → Tiles 1 (length w) spans → blocks_of w (map_of w spans) (length (root_at w spans)) ≡ blocks_at w spans
blocks_same w spans h =
    let k = length_root w spans in
    let m = length-map spans (block_at w) in
    let n = length-map (counting 0 (length (root_at w spans))) (λ i. pattern_of (fibre w (map_of w spans) i)) ∙ length_counting (length (root_at w spans)) 0 in
    ext_get_or [] (blocks_of w (map_of w spans) (length (root_at w spans))) (blocks_at w spans) (omega arith) (λ i l.
    block_of_map w (map_of w spans) (length (root_at w spans)) i (omega arith)
    ∙ ap pattern_of (span_fibre w spans i h (omega arith))
    ∙ sym (get_or-map (block_at w) spans i (record { first = 0; last = 0 }) [] (omega arith)))

-- the blocks are words, and they inflate the root to the word
pub tiled_blocks : (w : List ℕ) (spans : List Span) → IsTiled w spans → AreBlocks (root_at w spans) (blocks_at w spans)
tiled_blocks w spans h = subst (AreBlocks (root_at w spans)) (blocks_same w spans h.cover) (blocks_are w (root_at w spans) (map_of w spans) h.word (sends w spans h) (onto w spans h))

-- the blocks inflate the root to the word
pub tiled_value : (w : List ℕ) (spans : List Span) → IsTiled w spans → inflate (root_at w spans) (blocks_at w spans) ≡ w
tiled_value w spans h = subst (λ αs. inflate (root_at w spans) αs ≡ w) (blocks_same w spans h.cover) (embedding_value w (root_at w spans) (map_of w spans) h.word (sends w spans h))
