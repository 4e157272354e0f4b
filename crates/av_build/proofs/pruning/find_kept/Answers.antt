-- At first equation 0 was found, each turn goes through one more, and once all were gone through these are the ones that are
-- kept.
use Rattle.std.proofs.Common.{arith}
use Rattle.av_build.proofs.PruneSteps.{found_starts, found_number, found_turn, found_left, found_ends}
use Rattle.av_build.proofs.pruning.find_kept.Goals as goal

pub equations-init : goal.equations-init
equations-init c = found_starts c.args.system.now c.in_ok-kept.kept c.in_ok-kept.ensures

pub get-equation-requires : goal.get-equation-requires
get-equation-requires c = found_number c.args.system.now c.equations.kept c.equations.visited _ c.get.result c.requires.form c.equations.invariant c.get.ensures

pub equations-smaller : goal.equations-smaller
equations-smaller c = found_left c.args.system.now c.equations.kept c.equations.visited c.requires.form c.equations.invariant (omega arith)

pub equations-preserved : goal.equations-preserved
equations-preserved c =
    found_turn c.args.system.now c.args.marks.now c.equations.visited c.get.result c.get-equation.result.now c.equations.kept c.add_used.new.kept
    c.requires.marks c.equations.invariant c.get.ensures c.get-equation.ensures c.in_ok-add_used.ensures

pub returns : goal.returns
returns c = found_ends c.args.system.now c.equations.kept c.equations.visited c.requires.form c.equations.invariant (omega arith)
