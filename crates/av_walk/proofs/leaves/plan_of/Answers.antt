-- The numbers of patterns stay as others join them.
use Rattle.std.proofs.Common.{length, sym, subst}
use Rattle.av_split.specs.Boxes.{demands}
use Rattle.av_split.specs.Cells.{AreDemandsOf}
use Rattle.av_split.proofs.Numbered.{demands_more}
use Rattle.av_walk.specs.Numbers.{AreTermsOf}
use Rattle.av_walk.specs.Paths.{asked_of}
use Rattle.av_walk.proofs.leaves.plan_of.Goals as goal

pub returns-clause-demands : goal.returns-clause-demands
returns-clause-demands c =
    subst (λ ps. AreDemandsOf (length c.args.root.now) ps c.in_ok-demands.demands (demands c.args.root.now c.args.equation.now.name.avoid c.args.equation.now.name.require)) (sym c.in_ok-of.ensures)
    (demands_more (length c.args.root.now) c.demands_of.new.patterns c.terms_of.new.patterns c.in_ok-terms.ensures.grows c.in_ok-demands.demands
    (demands c.args.root.now c.args.equation.now.name.avoid c.args.equation.now.name.require) c.in_ok-demands.ensures)

pub returns-clause-terms : goal.returns-clause-terms
returns-clause-terms c =
    subst (λ ps. AreTermsOf (length c.args.root.now) ps c.in_ok-terms.terms (asked_of c.args.system.now c.args.root.now c.args.equation.now)) (sym c.in_ok-of.ensures) c.in_ok-terms.ensures.terms
