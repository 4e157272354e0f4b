-- The spans lie in the word, and their first entries differ.
use Rattle.std.proofs.Common.{◌≡◌, ℕ, ◌<◌, ◌≤◌, List, length, take, ap, arith, sym, subst, take_all, ◌∙◌, lit<, true, [], ◌∷◌}
use Rattle.std.proofs.lemmas.List.{length-map, length-take-le}
use Rattle.av_perm.specs.Word.{entry, is_distinct}
use Rattle.av_interval.specs.declared.spans.Span.{Span}
use Rattle.av_interval.specs.Intervals.{Tiles}
use Rattle.av_interval.proofs.Tilings.{tiles_length}
use Rattle.av_perm.proofs.NoRepeats.{once_from_apart}
use Rattle.av_perm.proofs.WordTests.{once_distinct}
use Rattle.av_perm.proofs.PermWords.{perm_word, perm_short}
use Rattle.av_decomp.specs.Blocks.{first_entries}
use Rattle.av_decomp.proofs.SpanNumbers.{span_within}
use Rattle.av_decomp.proofs.TiledWords.{first_apart}
use Rattle.av_decomp.proofs.shape.root_of.Goals as goal

pub entry-requires-clause-low : goal.entry-requires-clause-low
entry-requires-clause-low c =
    let h = subst (Tiles 1 (length c.args.word.now)) (sym c.as_slice-span-items.ensures) c.requires in
    (span_within c.as_slice-span-items.result.now 1 (length c.args.word.now) c.loop-span.span-index h c.loop-span-test.true).0

pub entry-requires-clause-high : goal.entry-requires-clause-high
entry-requires-clause-high c =
    let h = subst (Tiles 1 (length c.args.word.now)) (sym c.as_slice-span-items.ensures) c.requires in
    let r = span_within c.as_slice-span-items.result.now 1 (length c.args.word.now) c.loop-span.span-index h c.loop-span-test.true in
    omega (arith, r)

pub push-requires : goal.push-requires
push-requires c =
    let h = subst (Tiles 1 (length c.args.word.now)) (sym c.as_slice-span-items.ensures) c.requires in
    let few = tiles_length c.as_slice-span-items.result.now 1 (length c.args.word.now) h in
    let short = perm_short c.args.word.now c.len-len.ensures.word in
    let n = ap (λ (l : List ℕ). length l) c.loop-span.invariant in
    let k = length-map (take c.loop-span.span-index c.as_slice-span-items.result.now) (λ (s : Span). entry c.args.word.now s.first) in
    let m = length-take-le c.loop-span.span-index c.as_slice-span-items.result.now (omega arith) in
    let room : length c.loop-span.firsts.items < 160 = omega arith in
    (lit< tt, room)

-- at the end the first entries of all spans
all_firsts : (c : goal.After-as_slice) → c.as_slice.result.now ≡ first_entries c.args.word.now c.args.spans.now
all_firsts c =
    c.as_slice.ensures.value ∙ c.loop-span.invariant
    ∙ ap (first_entries c.args.word.now) (take_all c.loop-span.span-index c.as_slice-span-items.result.now c.loop-span-test.false ∙ c.as_slice-span-items.ensures)

pub pattern_of-requires-clause-some : goal.pattern_of-requires-clause-some
pattern_of-requires-clause-some c =
    subst (λ (l : List ℕ). 1 ≤ length l) (sym (all_firsts c))
    (let k = length-map c.args.spans.now (λ (s : Span). entry c.args.word.now s.first) in
    let some = some_span c.args.spans.now (length c.args.word.now) (perm_word c.args.word.now c.len-len.ensures.word).filled c.requires in
    omega arith)
  where
    some_span : (spans : List Span) (n : ℕ) → 1 ≤ n → Tiles 1 n spans → 1 ≤ length spans
    some_span [] n h t = omega arith
    some_span (s ∷ spans) n h t = omega arith

pub pattern_of-requires-clause-different : goal.pattern_of-requires-clause-different
pattern_of-requires-clause-different c =
    subst (λ (l : List ℕ). is_distinct l ≡ true) (sym (all_firsts c))
    (once_distinct (first_entries c.args.word.now c.args.spans.now) (once_from_apart (first_entries c.args.word.now c.args.spans.now)
    (first_apart c.args.word.now c.args.spans.now (perm_word c.args.word.now c.len-len.ensures.word).numbers c.requires)))
