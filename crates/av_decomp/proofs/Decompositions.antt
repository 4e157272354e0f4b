-- The decomposition of a word, as a shape.
use Rattle.std.proofs.Common.{◌≡◌, ℕ, zero, suc, ◌+◌, ◌<◌, ◌≤◌, inl, inr, List, [], ◌∷◌, length, Some, sym, ap, ap₂, ◌∙◌, subst, arith}
use Rattle.std.proofs.lemmas.List.{get_or-map, length-map}
use Rattle.av_perm.specs.Relations.{IsWord, block}
use Rattle.av_perm.specs.Decompose.{Decomposes, IsRoot}
use Rattle.av_perm.specs.Parts.{Parts, parts}
use Rattle.av_perm.proofs.Inflations.{lengths, length_inflate}
use Rattle.av_perm.proofs.OneDecomposition.{one_decomposition}
use Rattle.av_perm.proofs.Parts.{parts_law}
use Rattle.av_interval.specs.declared.spans.Span.{Span}
use Rattle.av_decomp.specs.Blocks.{IsBlockSpans, block_at, blocks_at, root_at}
use Rattle.av_decomp.specs.Shapes.{HasBlocks}
use Rattle.av_decomp.proofs.SpanNumbers.{span_at}

-- the roots 12 and 21 and the simple ones have two entries or more
pub root_two : (π α : List ℕ) → IsRoot π α → 2 ≤ length π
root_two π α (inl r) = let l = ap length r.0 in omega arith
root_two π α (inr (inl r)) = let l = ap length r.0 in omega arith
root_two π α (inr (inr p)) = let l = p.long in omega arith

-- a block of two or more is shorter than all together
pub block_shorter : (αs : List (List ℕ)) (i : ℕ) → i < length αs → ((j : ℕ) → j < length αs → 1 ≤ length (block αs j)) → length (block αs i) + length αs ≤ lengths αs + 1
block_shorter [] i h f = absurd (omega arith)
block_shorter (α ∷ αs) zero h f = omega (arith, all αs (λ j l. f (suc j) (omega arith)))
  where
    all : (αs : List (List ℕ)) → ((j : ℕ) → j < length αs → 1 ≤ length (block αs j)) → length αs ≤ lengths αs
    all [] f = omega arith
    all (β ∷ αs) f = omega (arith, f 0 (omega arith), all αs (λ j l. f (suc j) (omega arith)))
block_shorter (α ∷ αs) (suc i) h f = omega (arith, f 0 (omega arith), block_shorter αs i (omega arith) (λ j l. f (suc j) (omega arith)))

-- the parts that are computed are those of any decomposition
pub parts_are : (w π : List ℕ) (αs : List (List ℕ)) → IsWord w → 2 ≤ length w → Decomposes w π αs → parts w ≡ Some (record { root = π; blocks = αs })
parts_are w π αs g two d =
    let p = parts_law w g two in
    let e = one_decomposition w p.0.root π p.0.blocks αs g.numbers p.2 d in
    p.1 ∙ ap (λ (q : Parts). Some q) (ap₂ (λ (r : List ℕ) (bs : List (List ℕ)). let q : Parts = record { root = r; blocks = bs } in q) e.0 e.1)

-- spans with their root
pub has_blocks : (w root : List ℕ) (spans : List Span) → IsWord w → 2 ≤ length w → IsBlockSpans w spans → root ≡ root_at w spans → HasBlocks w root spans
has_blocks w root spans g two h e = subst (λ r. HasBlocks w r spans) (sym e) (record {
  cover = h.cover;
  blocks = h.blocks;
  computed = parts_are w (root_at w spans) (blocks_at w spans) g two h.blocks;
})

-- the only word of one entry
pub word_of_one : (w : List ℕ) → IsWord w → length w ≡ 1 → w ≡ 1 ∷ []
word_of_one [] g e = absurd (omega arith)
word_of_one (x ∷ []) g e = let r = g.numbers.within 0 (omega arith) in let f : x ≡ 1 = omega arith in ap (λ (n : ℕ). n ∷ []) f
word_of_one (x ∷ y ∷ w) g e = absurd (omega arith)

-- the block at a span is one of the blocks
pub block_of_span : (w : List ℕ) (spans : List Span) (i : ℕ) → i < length spans → block (blocks_at w spans) i ≡ block_at w (span_at spans i)
block_of_span w spans i h = get_or-map (block_at w) spans i (record { first = 0; last = 0 }) [] h

-- and is shorter than the word
pub span_shorter : (w root : List ℕ) (spans : List Span) (i : ℕ) → HasBlocks w root spans → i < length spans → length (block_at w (span_at spans i)) < length w
span_shorter w root spans i h l =
    let b = h.blocks.blocks in
    let n = length-map spans (block_at w) in
    let c = b.count in
    let m = length_inflate root (blocks_at w spans) b.count in
    let v = ap (λ (u : List ℕ). length u) h.blocks.value in
    let two = root_two root (block (blocks_at w spans) 0) h.blocks.root in
    let s = block_shorter (blocks_at w spans) i (omega arith) (λ j k. b.filled j (omega arith)) in
    let e = ap (λ (u : List ℕ). length u) (block_of_span w spans i l) in
    omega arith
