-- The name covers that of the claim.
use Rattle.std.proofs.Common.{sym, ◌∙◌}
use Rattle.av_check.proofs.BareCells.{covered_right}
use Rattle.av_check.proofs.checking.equation_fault.Goals as goal

pub cells_fault-requires-clause-tested : goal.cells_fault-requires-clause-tested
cells_fault-requires-clause-tested c = record {
  taken = c.requires.system;
  listed = c.requires.listed;
  covers = covered_right c.args.first.now c.args.number c.args.equation.now.name (sym c.in_ok-is_wrong_name.ensures ∙ c.if-branch.false);
  roots = c.requires.simples;
}
