-- One child fewer is passed over after the first.
use Rattle.std.proofs.Common.{arith, subst}
use Rattle.av_count.specs.Links.{IsRest}
use Rattle.av_count.proofs.Linked.{more_known, after_more}
use Rattle.av_count.proofs.links.Links.+after.Goals as goal

pub get-requires : goal.get-requires
get-requires t c = more_known c.args.self.now c.requires.0 c.in-More.i (subst (IsRest c.args.self.now c.requires.0) c.in-More.is c.requires.1)

pub after-requires : goal.after-requires
after-requires t c =
    let a = after_more c.args.self.now c.requires.0 c.in-More.i c.args.skip c.get.result (subst (IsRest c.args.self.now c.requires.0) c.in-More.is c.requires.1) c.get.ensures c.requires.2 c.if-skip-eq0.false in
    (omega (arith, c.decreases, c.if-skip-eq0.false), (a.others, a.stands, a.within))
