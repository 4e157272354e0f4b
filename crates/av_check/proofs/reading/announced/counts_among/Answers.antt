-- The line of the counts has six tokens: three are fixed, and each is followed by a numeral.
use Rattle.std.proofs.Common.{◌≡◌, length, refl, sym, subst, arith}
use Rattle.av_check.specs.Reading.{Reads, AreCounts, counts_tokens}
use Rattle.av_check.proofs.Loops.{all_six}
use Rattle.av_check.proofs.ReadAs.{reads_as}
use Rattle.av_check.proofs.Announced.{fixed_same}
use Rattle.av_check.proofs.reading.announced.counts_among.Goals as goal

pub returns-then-are_fixed : goal.returns-then-are_fixed
returns-then-are_fixed c =
    let f = c.if-are_fixed.ensures.0 refl in
    let six : length c.args.tokens.now ≡ 6 = omega arith in
    subst (λ ts. Reads AreCounts counts_tokens ts c.numbers_of.result) (sym (all_six c.args.tokens.now _ six))
    (reads_as (fixed_same _ _ _ _ _ _ f.0 f.1 f.2) c.numbers_of.result c.numbers_of.ensures)
