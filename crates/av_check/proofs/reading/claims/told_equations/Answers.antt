-- Each line of an equation is taken; a line that is none stops the reading.
use Rattle.std.proofs.Common.{◌∷◌, [], sym, ap, length, arith}
use Rattle.std.proofs.lemmas.List.{length-append}
use Rattle.av_check.proofs.Taking.{equations_more, equations_stop}
use Rattle.av_check.proofs.reading.claims.told_equations.Goals as goal

pub returns-in_default : goal.returns-in_default
returns-in_default c =
    let none = rw c.in_default.is at c.in_ok-equation.ensures in
    equations_stop c.args.count c.loop-number.number c.loop-number.equations c.args.lines.now c.loop-number.lines c.equation_line.new.lines
    (sym c.loop-number.invariant.so_many) c.loop-number-test.true c.loop-number.invariant.takes none

pub loop-number-preserved : goal.loop-number-preserved
loop-number-preserved c =
    let told = rw c.in-Some.is at c.in_ok-equation.ensures in
    record {
      takes = rw c.in_ok-push.ensures.ok
          (equations_more c.args.count c.loop-number.number c.loop-number.equations c.in-Some.equation c.args.lines.now c.loop-number.lines c.equation_line.new.lines
          (sym c.loop-number.invariant.so_many) c.loop-number.invariant.takes told);
      so_many = omega (arith, ap length c.in_ok-push.ensures.ok, length-append c.loop-number.equations (c.in-Some.equation ∷ []), c.loop-number.invariant.so_many);
    }
