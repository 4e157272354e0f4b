-- Each word is kept or not as the definition filters it.
use Rattle.std.proofs.Common.{◌≡◌, false, sym, ◌∙◌}
use Rattle.std.proofs.lemmas.Bool.{and_left, and_right}
use Rattle.av_perm.specs.Class.{avoids_all}
use Rattle.av_perm.specs.Simple.{is_simple}
use Rattle.av_simple.proofs.Levels.{is_simple_of, left_turn, kept_all}
use Rattle.av_simple.proofs.level.level.Goals as goal
use Rattle.av_simple.proofs.level.level.Goals.{else-is_simple-via-then-is_simple+else-avoids_all, else-is_simple-via-else-is_simple}

-- a word that isn't simple, or contains a word of the basis
pub loop-word-preserved : goal.loop-word-preserved
loop-word-preserved c =
    let fails : is_simple_of c.args.basis.now c.in-Some.word ≡ false = elim c.else-is_simple.branch [
      | else-is_simple-via-then-is_simple+else-avoids_all w ↦ and_right (is_simple c.in-Some.word) (avoids_all c.args.basis.now c.in-Some.word) (sym w.avoids_all.ensures ∙ w.if-avoids_all.false)
      | else-is_simple-via-else-is_simple w ↦ and_left (is_simple c.in-Some.word) (avoids_all c.args.basis.now c.in-Some.word) (sym c.is_simple.ensures ∙ w.if-is_simple.false)
    ] in
    left_turn c.args.basis.now c.loop-word.simples c.loop-word.word-iterator c.next.new.self c.in-Some.word _ c.in-Some.ensures.steps fails c.loop-word.invariant

pub returns : goal.returns
returns c = kept_all c.args.basis.now c.loop-word.simples c.loop-word.word-iterator c.args.m c.in-None.ensures.steps.0 c.loop-word.invariant
