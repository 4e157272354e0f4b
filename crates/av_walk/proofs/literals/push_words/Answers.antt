-- The next word.
use Rattle.std.proofs.Common.{◌∙◌, ◌++◌, ◌∷◌, [], refl, ap, arith}
use Rattle.av_perm.proofs.ListLaws.{extends_trans}
use Rattle.av_walk.proofs.Numbering.{word_next}
use Rattle.av_walk.proofs.literals.push_words.Goals as goal

pub loop-word-preserved : goal.loop-word-preserved
loop-word-preserved c = record {
  grows = extends_trans _ _ _ c.loop-word.invariant.grows c.in_ok-pattern.ensures.grows;
  literals = λ k before h a.
      word_next c.args.required c.args.child k _ _ c.loop-word.term _ before c.as_slice-word-items.result.now c.args.words.now c.loop-word.word-index _ c.word-item.result _
      c.in_ok-pattern.ensures.grows (omega (arith, c.loop-word-test.true)) c.word-item.is c.as_slice-word-items.ensures refl h c.in_ok-pattern.ensures.within (c.in_ok-pattern.ensures.word ∙ c.copy.ensures)
      (c.in_ok-push.ensures.ok ∙ ap (λ l. c.loop-word.term ++ l ∷ []) c.of.ensures)
      (c.loop-word.invariant.literals k before h a);
}
