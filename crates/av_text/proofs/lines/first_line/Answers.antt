-- The first line ends at the first line feed, or takes all bytes.
use Rattle.std.proofs.Common.{◌≡◌, ◌+◌, ◌<◌, length, sym, arith}
use Rattle.std.proofs.lemmas.Bool.Decides.{nat_tests}
use Rattle.av_text.proofs.Cuts.{lines_cut, lines_last, lines_none, lines_empty, rest_all}
use Rattle.av_text.proofs.lines.first_line.Goals as goal

pub returns-then-is_empty : goal.returns-then-is_empty
returns-then-is_empty c =
    let n : length c.args.bytes.now ≡ 0 = grind (arith, nat_tests) in
    lines_empty c.args.bytes.now n

pub returns-in-Some : goal.returns-in-Some
returns-in-Some c =
    rw (c.strip_carriage_return.ensures, rest_all (c.in-Some.at + 1) c.args.bytes.now) (lines_cut c.args.bytes.now c.in-Some.at (sym c.in-Some.ensures.value))

pub returns-in-None : goal.returns-in-None
returns-in-None c =
    let some : 0 < length c.args.bytes.now = grind (arith, nat_tests) in
    let e = lines_last c.args.bytes.now some (sym c.in-None.ensures.value) in
    let n = lines_none in
    cc
