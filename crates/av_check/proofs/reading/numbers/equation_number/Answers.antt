-- The number of an equation is what follows the letter E.
use Rattle.std.proofs.Common.{◌++◌, codes, decimal, sym, ap, ◌∙◌, arith}
use Rattle.std.proofs.lemmas.List.{append_cancel_left}
use Rattle.av_print.specs.Systems.{number_text}
use Rattle.av_check.proofs.ReadAs.{reads_as}
use Rattle.av_check.proofs.reading.numbers.equation_number.Goals as goal

pub returns-in-Some : goal.returns-in-Some
unfolding number_text
returns-in-Some c =
    let e = c.in-Some.ensures in
    reads_as (record {
      to = λ v w f. (omega arith, e ∙ ap (λ s. codes "E" ++ s) f);
      from = λ v w f. ((omega arith, omega arith), append_cancel_left (codes "E") _ _ (sym e ∙ f));
    }) c.number_between.result c.number_between.ensures

pub returns-in-None : goal.returns-in-None
unfolding number_text
returns-in-None c v w e = c.in-None.ensures (decimal v) e
