-- The next term.
use Rattle.std.proofs.Common.{◌+◌, length, refl, arith}
use Rattle.av_perm.proofs.ListLaws.{extends_trans}
use Rattle.av_split.proofs.Walks.{item_in}
use Rattle.av_walk.proofs.Numbering.{term_next}
use Rattle.av_walk.proofs.literals.terms_of.Goals as goal

pub push_term-requires : goal.push_term-requires
push_term-requires c =
    c.requires c.term-item.result (item_in c.as_slice-term-items.result.now c.args.equation.now.terms c.loop-term.term-index c.term-item.result (omega (arith, c.loop-term-test.true)) c.term-item.is c.as_slice-term-items.ensures)

pub loop-term-preserved : goal.loop-term-preserved
loop-term-preserved c = record {
  grows = extends_trans _ _ _ c.loop-term.invariant.grows c.in_ok-push_term.ensures.grows;
  terms =
      term_next c.args.system.now c.args.root.now (length c.args.root.now) c.push_term.new.patterns c.push_term.new.terms c.as_slice-term-items.result.now c.args.equation.now.terms c.loop-term.term-index (c.loop-term.term-index + 1)
      c.term-item.result (omega (arith, c.loop-term-test.true)) c.term-item.is c.as_slice-term-items.ensures refl (c.in_ok-push_term.ensures.terms _ c.loop-term.invariant.terms);
}
