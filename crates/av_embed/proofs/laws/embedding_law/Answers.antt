-- A pattern is in an inflation exactly where an embedding puts each of its fibres into a block.
use Rattle.av_embed.proofs.EmbeddingLaw.{embedding_law}
use Rattle.av_embed.proofs.laws.embedding_law.Goals as goal

pub returns : goal.returns
returns c = embedding_law
