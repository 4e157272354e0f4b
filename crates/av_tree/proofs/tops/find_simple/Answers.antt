-- Of a simple root the blocks are those of the decomposition.
use Rattle.std.proofs.Common.{◌∙◌, subst, arith}
use Rattle.av_perm.proofs.PermWords.{perm_word}
use Rattle.av_tree.specs.Tops.{FitsNone}
use Rattle.av_tree.proofs.AvoidingBlocks.{blocks_avoid}
use Rattle.av_tree.proofs.FoundTops.{shape_inflation, fits_top}
use Rattle.av_tree.proofs.SomeTops.{simple_none, long_none}
use Rattle.av_tree.proofs.tops.find_simple.Goals as goal

pub returns-then-len-gt-MAX_ROOT_LENGTH : goal.returns-then-len-gt-MAX_ROOT_LENGTH
returns-then-len-gt-MAX_ROOT_LENGTH c =
    long_none c.args.system.now c.args.eq c.args.word.now c.in-Inflated.root c.in-Inflated.spans c.requires.formed (perm_word c.args.word.now c.len-len.ensures.word) c.in-Inflated.ensures
    (omega (arith, c.len.ensures, c.if-len-gt-MAX_ROOT_LENGTH.true))

pub find_term-requires-clause-avoided : goal.find_term-requires-clause-avoided
find_term-requires-clause-avoided c =
    blocks_avoid c.args.word.now c.args.known.now c.in-Inflated.spans c.as_slice.result.now c.in-Inflated.ensures.cover c.requires.avoided (c.as_slice.ensures.value ∙ c.blocks_of-blocks.ensures)

pub returns-in-None : goal.returns-in-None
returns-in-None c =
    simple_none c.args.system.now c.args.eq c.args.word.now c.in-Inflated.root c.in-Inflated.spans (perm_word c.args.word.now c.len-len.ensures.word) c.in-Inflated.ensures
    (subst (FitsNone c.args.system.now c.args.eq c.in-Inflated.root) (c.as_slice.ensures.value ∙ c.blocks_of-blocks.ensures) c.in-None.ensures)

pub returns-in-Some : goal.returns-in-Some
returns-in-Some c =
    fits_top c.args.system.now c.args.eq c.args.word.now c.in-Inflated.root c.blocks_of-blocks.result.items c.as_slice.result.now c.in-Some.term
    (shape_inflation c.args.word.now c.in-Inflated.root c.in-Inflated.spans c.blocks_of-blocks.result.items c.in-Inflated.ensures c.blocks_of-blocks.ensures)
    c.as_slice.ensures.value c.in-Some.ensures
