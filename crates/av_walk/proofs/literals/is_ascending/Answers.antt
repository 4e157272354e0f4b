-- All words ascend.
use Rattle.std.proofs.Common.{◌≡◌, subst, arith}
use Rattle.av_perm.specs.Class.{in_shortlex}
use Rattle.av_walk.proofs.Numbering.{ascending_is}
use Rattle.av_walk.proofs.literals.is_ascending.Goals as goal

pub returns : goal.returns
returns c = λ e. subst (λ ws. in_shortlex ws ≡ ws) c.as_slice-items.ensures (ascending_is c.as_slice-items.result.now (λ j h. c.loop-i.invariant j (omega (arith, c.loop-i-test.false, h))))
