-- A cut word is the inflation by its two parts.
use Rattle.std.proofs.Common.{length, ◌∙◌, ap}
use Rattle.av_perm.proofs.PermWords.{perm_word}
use Rattle.av_decomp.specs.Blocks.{blocks_at, halves_at}
use Rattle.av_decomp.proofs.TwoParts.{halves_cover}
use Rattle.av_tree.proofs.AvoidingBlocks.{blocks_avoid}
use Rattle.av_tree.proofs.FoundTops.{cut_inflation, fits_top}
use Rattle.av_tree.proofs.tops.find_at.Goals as goal

pub find_term-requires-clause-avoided : goal.find_term-requires-clause-avoided
find_term-requires-clause-avoided c =
    blocks_avoid c.args.word.now c.args.known.now (halves_at (length c.args.word.now) c.args.k) c.as_slice.result.now (halves_cover (length c.args.word.now) c.args.k c.requires.some c.requires.part) c.requires.avoided
    (c.as_slice.ensures.value ∙ c.blocks_of-blocks.ensures ∙ ap (blocks_at c.args.word.now) c.halves.ensures)

pub returns-in-Some : goal.returns-in-Some
returns-in-Some c =
    fits_top c.args.system.now c.args.eq c.args.word.now c.args.root.now c.blocks_of-blocks.result.items c.as_slice.result.now c.in-Some.term
    (cut_inflation c.args.word.now c.args.root.now c.args.k c.blocks_of-blocks.result.items c.requires.two (perm_word c.args.word.now c.len-len.ensures.word).numbers c.requires.some c.requires.part
    (c.is_cut.ensures.0 c.if-not-is_cut.false) (c.blocks_of-blocks.ensures ∙ ap (blocks_at c.args.word.now) c.halves.ensures))
    c.as_slice.ensures.value c.in-Some.ensures
