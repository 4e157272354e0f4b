-- One child fewer is passed over.
use Rattle.av_count.proofs.links.Links.+after.Given as goal

abbrev pub decreases-after : goal.decreases-after
decreases-after l = l.skip
