-- Each equation that is kept has a number of an equation, there are fewer than 2 ^ 32, and the equation of each joins the
-- others.
use Rattle.std.proofs.Common.{arith, ap, length}
use Rattle.av_build.proofs.PruneSteps.{kept_number, kept_few, equation_joins, pruned_formed}
use Rattle.av_build.proofs.pruning.prune.Goals as goal

pub get-old-requires : goal.get-old-requires
get-old-requires c = kept_number c.args.system.now c.in_ok-kept.kept c.loop-i.i c.get.result c.requires c.in_ok-kept.ensures c.get.ensures

pub new_terms-requires : goal.new_terms-requires
new_terms-requires c = kept_few c.args.system.now c.in_ok-kept.kept c.requires c.in_ok-kept.ensures

pub loop-i-preserved : goal.loop-i-preserved
loop-i-preserved c =
    equation_joins c.args.system.now c.in_ok-kept.kept c.in_ok-marks.marks c.loop-i.i c.get.result c.get-old.result.now
    (record { name = c.in_ok-name.name; terms = c.in_ok-terms.terms }) c.loop-i.equations c.push.new.self
    c.in_ok-kept.ensures c.in_ok-marks.ensures c.loop-i.invariant c.get.ensures c.get-old.ensures c.in_ok-name.ensures c.in_ok-terms.ensures c.in_ok-push.ensures.ok

pub returns-clause-form : goal.returns-clause-form
returns-clause-form c = pruned_formed c.args.system.now c.loop-i.equations c.loop-i.i c.requires c.loop-i.invariant (omega (arith, ap length c.in_ok-kept.ensures, c.len-i-end.ensures))
