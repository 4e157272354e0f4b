-- Simple words: the test goes over all intervals, by their first place and their length.
use Rattle.av_perm.proofs.SimpleWords.{simple_law}
use Rattle.av_perm.proofs.laws.simple_law.Goals as goal

pub returns : goal.returns
returns c = simple_law
