-- A word of one entry is the word 1, and the blocks of a longer one are its decomposition.
use Rattle.std.proofs.Common.{◌≤◌, ◌∙◌, length, arith, sym}
use Rattle.av_perm.proofs.PermWords.{perm_word}
use Rattle.av_decomp.proofs.Decompositions.{has_blocks, word_of_one}
use Rattle.av_decomp.proofs.shape.decompose.Goals as goal

pub returns-then-len-eq1 : goal.returns-then-len-eq1
returns-then-len-eq1 c = word_of_one c.args.word.now (perm_word c.args.word.now c.len.ensures.word) (sym c.len.ensures.value ∙ c.if-len-eq1.true)

pub returns : goal.returns
returns c =
    let g = perm_word c.args.word.now c.len.ensures.word in
    let some = g.filled in
    let two : 2 ≤ length c.args.word.now = omega (arith, c.len.ensures.value, c.if-len-eq1.false) in
    has_blocks c.args.word.now c.root_of-root.result c.block_spans-spans.result g two c.block_spans-spans.ensures c.root_of-root.ensures
