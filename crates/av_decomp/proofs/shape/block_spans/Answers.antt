-- The parts at a first cut, and else the maximal intervals, are the blocks.
use Rattle.std.proofs.Common.{length, sym, subst, refl}
use Rattle.av_perm.proofs.PermWords.{perm_word}
use Rattle.av_interval.proofs.FirstCuts.{uncut}
use Rattle.av_decomp.specs.Blocks.{IsBlockSpans}
use Rattle.av_decomp.proofs.TwoParts.{halves_cover, sum_decomposes, skew_sum_decomposes}
use Rattle.av_decomp.proofs.SimpleRoots.{are_maximal, maximal_decomposes}
use Rattle.av_decomp.proofs.shape.block_spans.Goals as goal

pub returns-in-Some : goal.returns-in-Some
returns-in-Some c =
    let cut = c.in-Some.ensures.cut in
    subst (IsBlockSpans c.args.word.now) (sym c.halves.ensures)
    (record {
      cover = halves_cover (length c.args.word.now) c.in-Some.cut cut.member.some cut.member.part;
      blocks = sum_decomposes c.args.word.now c.in-Some.cut (perm_word c.args.word.now c.len-len.ensures.word).numbers cut;
    })

pub returns-in-Some-skew_cut : goal.returns-in-Some-skew_cut
returns-in-Some-skew_cut c =
    let cut = c.in-Some-skew_cut.ensures.cut in
    subst (IsBlockSpans c.args.word.now) (sym c.halves-in-Some-skew_cut.ensures)
    (record {
      cover = halves_cover (length c.args.word.now) c.in-Some-skew_cut.cut cut.member.some cut.member.part;
      blocks = skew_sum_decomposes c.args.word.now c.in-Some-skew_cut.cut (perm_word c.args.word.now c.len-len.ensures.word).numbers cut;
    })

pub returns-in-None : goal.returns-in-None
returns-in-None c =
    let g = (perm_word c.args.word.now c.len-len.ensures.word).numbers in
    let u = uncut c.args.word.now g (c.in_default.ensures.none.0 refl) (c.in-None.ensures.none.0 refl) in
    record {
      cover = c.maximal_intervals.ensures.cover;
      blocks = maximal_decomposes c.args.word.now c.maximal_intervals.result (are_maximal c.args.word.now c.maximal_intervals.result g u c.requires c.maximal_intervals.ensures.cover c.maximal_intervals.ensures.exact);
    }
