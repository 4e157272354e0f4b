-- The test of a name tests its meaning.
use Rattle.std.proofs.Common.{sym, ◌∙◌}
use Rattle.av_perm.proofs.PermWords.{perm_word}
use Rattle.av_sys.proofs.MeansTests.{means_law}
use Rattle.av_name.proofs.names.satisfies_besides.Goals as goal

pub returns-clause-meaning : goal.returns-clause-meaning
returns-clause-meaning c =
    let law = means_law c.args.name.now c.args.word.now (perm_word c.args.word.now c.len-len.ensures.word) in
    (λ e. law.0 (sym c.passes_besides.ensures ∙ e), λ m. c.passes_besides.ensures ∙ law.1 m)
