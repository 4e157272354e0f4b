-- What the node is, and the places of the blocks before the loop's. Blocks are shorter than the word.
use Rattle.std.proofs.Common.{◌≡◌, length}
use Rattle.av_perm.specs.declared.limits.TheConstants.{MAX_ROOT_LENGTH}
use Rattle.av_count.proofs.NodeForms.{NodeForm}
use Rattle.av_tree.proofs.BlockPlaces.{FoundUpTo, NodeTop}
use Rattle.av_tree.proofs.ranking.+place.Given as goal

abbrev pub decreases-place : goal.decreases-place
decreases-place l = length l.word.now

abbrev pub invariant-loop-i : goal.invariant-loop-i
invariant-loop-i l = record {
  form : NodeForm (length l.system.equations) l.root l.children;
  top : NodeTop l.system l.word l.root l.children l.parts;
  count : length l.parts ≡ length l.children;
  long : length l.founds ≡ MAX_ROOT_LENGTH;
  found : FoundUpTo l.system l.children l.parts l.founds l.i;
}
