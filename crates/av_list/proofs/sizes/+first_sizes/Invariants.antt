-- One child less is left.
use Rattle.std.proofs.Common.{◌-◌, length}
use Rattle.av_list.proofs.sizes.+first_sizes.Given as goal

abbrev pub decreases-first_sizes : goal.decreases-first_sizes
decreases-first_sizes l = length l.node.now.children.now - l.i
