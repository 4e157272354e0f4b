-- One child fewer is left.
use Rattle.std.proofs.Common.{◌-◌, length}
use Rattle.av_count.proofs.links.Links.+rest.Given as goal

abbrev pub decreases-rest : goal.decreases-rest
decreases-rest l = length l.children.now - l.from
