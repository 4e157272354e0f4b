-- A number of an equation is the one expected exactly where its text is.
use Rattle.std.proofs.Common.{sym, ap, ◌∙◌, arith, eqb-true, eq-eqb}
use Rattle.av_print.specs.Systems.{number_text}
use Rattle.av_check.proofs.EquationTokens.{number_text_once}
use Rattle.av_check.proofs.reading.equations.is_number.Goals as goal

pub returns-in-Some : goal.returns-in-Some
returns-in-Some c =
    let w = c.in-Some.ensures in (
      λ e. w.1 ∙ ap number_text (eqb-true c.in-Some.found c.args.number e),
      λ e. eq-eqb c.in-Some.found c.args.number (number_text_once c.in-Some.found c.args.number (omega (arith, w.0)) (omega arith) (sym w.1 ∙ e)),
    )
