-- The maximal words but for the word 1 are the maximal words, since the pattern has more entries.
use Rattle.std.proofs.Common.{List, ℕ, ap, ap₂, ◌∙◌}
use Rattle.av_perm.specs.Class.{top}
use Rattle.av_perm.proofs.PermWords.{perm_word}
use Rattle.av_name.proofs.Growth.{required_top}
use Rattle.av_name.proofs.constraints.add_require.Goals as goal

pub returns : goal.returns
returns c =
    ap₂ (λ (a r : List (List ℕ)). record { avoid = a; require = r }) c.in_ok-copy.ensures
    (c.in_ok-maximal.ensures ∙ ap top c.in_ok-with_word_first.ensures ∙ required_top c.args.c.now c.args.p.now (perm_word c.args.p.now c.len-length.ensures.word) c.requires)
