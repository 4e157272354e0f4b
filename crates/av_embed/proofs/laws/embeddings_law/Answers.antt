-- The list of embeddings: all maps, sieved by whether they are embeddings.
use Rattle.av_embed.proofs.EmbeddingList.{embeddings_hold}
use Rattle.av_embed.proofs.laws.embeddings_law.Goals as goal

pub returns : goal.returns
returns c = embeddings_hold
