-- A decomposition is the only one: its root and its blocks are those that the word itself tells.
use Rattle.av_perm.proofs.OneDecomposition.{one_decomposition}
use Rattle.av_perm.proofs.laws.one_decomposition.Goals as goal

pub returns : goal.returns
returns c σ π π' αs αs' w d d' = one_decomposition σ π π' αs αs' w.numbers d d'
