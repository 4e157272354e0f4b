-- A numeral without leading zeros is the text of its value alone.
use Rattle.std.proofs.Common.{arith}
use Rattle.av_check.proofs.Numerals.{number_from, number_none}
use Rattle.av_check.proofs.reading.numbers.number_between.Goals as goal

pub returns-in-Ok : goal.returns-in-Ok
returns-in-Ok c =
    let w = c.in-Ok.ensures.within in
    (w, number_from c.args.low c.args.high c.in-Ok.number c.args.token.now (omega arith) w.1 c.in-Ok.ensures.value)

pub returns-in-Err : goal.returns-in-Err
returns-in-Err c v w e =
    number_none c.args.low c.args.high c.in-Err.field-0 c.args.token.now (omega arith) c.in-Err.ensures.value v w.0 w.1 e
