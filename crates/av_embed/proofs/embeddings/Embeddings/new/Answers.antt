-- No child is chosen at the start, and the search begins at child 1.
use Rattle.std.proofs.Common.{ℕ, List, [], ◌∷◌, ◌++◌, ◌∙◌, ap}
use Rattle.av_embed.specs.Left.{embeddings_from}
use Rattle.av_embed.proofs.Steps.{embeddings_all}
use Rattle.av_embed.proofs.embeddings.Embeddings.new.Goals as goal

pub returns : goal.returns
returns c =
    ap (λ (l : List ℕ). embeddings_from c.args.root.now c.args.pattern.now (l ++ 1 ∷ [])) c.new.ensures
    ∙ embeddings_all c.args.root.now c.args.pattern.now c.requires.some
