-- What the next child is asked.
use Rattle.std.proofs.Common.{length, refl, sym, subst, arith, ◌+◌}
use Rattle.av_perm.proofs.ListLaws.{extends_trans, get_In}
use Rattle.av_walk.specs.Numbers.{AreLiteralsOf}
use Rattle.av_walk.proofs.Numbering.{child_next}
use Rattle.av_walk.proofs.literals.term_of.Goals as goal

pub get-equation-requires : goal.get-equation-requires
get-equation-requires c = c.requires c.equation.result (get_In c.args.children.now c.loop-i.i c.equation.result c.equation.ensures)

pub loop-i-preserved : goal.loop-i-preserved
loop-i-preserved c = record {
  grows = extends_trans _ _ _ c.loop-i.invariant.grows c.in_ok-push_name.ensures.grows;
  term =
      subst (AreLiteralsOf (length c.args.children.now) c.push_name.new.patterns c.push_name.new.term)
      (sym (child_next c.args.system.now c.args.children.now c.loop-i.i (c.loop-i.i + 1) c.equation.result c.get-equation.result.now (omega (arith, c.loop-i-test.true, c.len-i-end.ensures)) c.equation.ensures c.get-equation.ensures refl))
      (c.in_ok-push_name.ensures.literals _ _ (omega (arith, c.loop-i-test.true, c.len-i-end.ensures)) c.loop-i.invariant.term);
}
