-- Entries of a word at a span differ.
use Rattle.std.proofs.Common.{◌≡◌, ◌-◌, ℕ, List, length, take, drop, ap, arith, sym, subst}
use Rattle.std.proofs.lemmas.List.{length-drop}
use Rattle.av_perm.specs.Relations.{IsOneToLength}
use Rattle.av_perm.proofs.NoRepeats.{once_from_apart}
use Rattle.av_perm.proofs.WordTests.{once_distinct}
use Rattle.av_perm.proofs.PermWords.{perm_word}
use Rattle.av_perm.proofs.Sums.{take_apart, drop_apart}
use Rattle.av_decomp.proofs.shape.block.Goals as goal

pub pattern_of-requires-clause-different : goal.pattern_of-requires-clause-different
pattern_of-requires-clause-different c =
    let i = c.args.span.now.first - 1 in
    let m = c.args.span.now.last - (c.args.span.now.first - 1) in
    let w = c.as_slice-entries.result.now in
    let same : length c.as_slice-entries.result.now ≡ length c.args.word.now = ap (λ (v : List ℕ). length v) c.as_slice-entries.ensures in
    let g = subst IsOneToLength (sym c.as_slice-entries.ensures) (perm_word c.args.word.now c.len-len.ensures.word).numbers in
    let d = drop_apart c.as_slice-entries.result.now (c.args.span.now.first - 1) (omega (arith, c.requires.high, c.requires.order)) g.apart in
    once_distinct (take (c.args.span.now.last - (c.args.span.now.first - 1)) (drop (c.args.span.now.first - 1) c.as_slice-entries.result.now))
    (once_from_apart (take (c.args.span.now.last - (c.args.span.now.first - 1)) (drop (c.args.span.now.first - 1) c.as_slice-entries.result.now))
    (take_apart (drop (c.args.span.now.first - 1) c.as_slice-entries.result.now) (c.args.span.now.last - (c.args.span.now.first - 1)) (omega (arith, length-drop (c.args.span.now.first - 1) c.as_slice-entries.result.now, c.requires.high)) d))
