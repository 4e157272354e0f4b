-- One child less is left.
use Rattle.std.proofs.Common.{◌-◌, length}
use Rattle.av_list.proofs.sizes.+next_sizes.Given as goal

abbrev pub decreases-next_sizes : goal.decreases-next_sizes
decreases-next_sizes l = length l.node.now.children.now - l.i
