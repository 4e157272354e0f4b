-- Proved in `Ranks`.
use Rattle.av_tree.proofs.Ranks as proved
use Rattle.av_tree.proofs.laws.places_law.Goals as goal

pub returns : goal.returns
returns c = proved.places_law
