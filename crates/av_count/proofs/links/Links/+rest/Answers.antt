-- The last child, or a child before others.
use Rattle.std.proofs.Common.{arith}
use Rattle.av_count.proofs.Linked.{adds_last, adds_more}
use Rattle.av_count.proofs.links.Links.+rest.Goals as goal

pub rest-requires : goal.rest-requires
rest-requires t c = (omega (arith, c.decreases, c.requires, c.if-from-last.false, c.len-last.ensures), omega (arith, c.requires, c.if-from-last.false, c.len-last.ensures))

pub returns-then-from-last : goal.returns-then-from-last
returns-then-from-last t c = adds_last c.args.self.now c.args.children.now c.args.from c.equation-first.result c.equation-first.ensures (omega (arith, c.requires, c.if-from-last.true, c.len-last.ensures))

pub returns-in_ok-number : goal.returns-in_ok-number
returns-in_ok-number t c =
    adds_more c.args.self.now c.rest.new.self c.number.new.self c.args.children.now c.args.from c.equation-first.result c.in_ok-number.field-0 c.in_ok-rest.rest
    c.equation-first.ensures c.in_ok-rest.ensures c.in_ok-number.ensures
