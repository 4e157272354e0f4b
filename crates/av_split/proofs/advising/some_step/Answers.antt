-- The step of the next embedding.
use Rattle.av_embed.proofs.EmbeddingList.{yielded_embedding}
use Rattle.av_split.proofs.advising.some_step.Goals as goal

pub embedding_step-requires-clause-places : goal.embedding_step-requires-clause-places
embedding_step-requires-clause-places c =
    (yielded_embedding c.args.root.now c.args.word.now c.loop-places.yielded c.loop-places.places-iterator c.next.new.self c.in-Some.places c.loop-places.invariant.all c.in-Some.ensures.steps).count
