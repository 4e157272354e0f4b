-- There is a decomposition: by the least cut, or else by squashing blocks until a simple word is left.
use Rattle.av_perm.proofs.SomeDecomposition.{some_decomposition}
use Rattle.av_perm.proofs.laws.some_decomposition.Goals as goal

pub returns : goal.returns
returns c σ w h = some_decomposition σ w.numbers h
