-- The blocks before the loop's stand one after another, raised; all together make the word at the place. Blocks are smaller.
use Rattle.std.proofs.Common.{◌≡◌, ◌++◌, [], length, get_or}
use Rattle.av_perm.specs.Inflate.{inflate, joined}
use Rattle.av_decomp.proofs.FormedTrees.{lifted}
use Rattle.av_sys.specs.TreeLists.{count_at, members_at}
use Rattle.av_count.proofs.NodeForms.{NodeForm}
use Rattle.av_tree.specs.Picks.{Fitting, picked}
use Rattle.av_tree.proofs.writing.+push_member.Given as goal

abbrev pub decreases-push_member : goal.decreases-push_member
decreases-push_member l = l.size

abbrev pub invariant-loop-i : goal.invariant-loop-i
invariant-loop-i l = record {
  form : NodeForm (length l.system.equations) l.root l.children;
  fits : Fitting (count_at l.system) l.children l.size l.picks;
  entry : get_or (members_at l.system l.eq l.size) l.r [] ≡ inflate l.root (picked (members_at l.system) l.children l.picks);
  written : l.out.items ≡ l.fn.out.items ++ joined (lifted l.raise l.root (picked (members_at l.system) l.children l.picks)) l.i;
}
