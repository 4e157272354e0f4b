-- Places are at most 160.
use Rattle.std.proofs.Common.{arith}
use Rattle.av_perm.proofs.PermWords.{perm_short}
use Rattle.av_decomp.proofs.shape.halves.Goals as goal

pub overflow_cast-last : goal.overflow_cast-last
overflow_cast-last c = let short = perm_short c.args.word.now c.len-last.ensures.word in omega arith

pub overflow_cast-cut : goal.overflow_cast-cut
overflow_cast-cut c = let short = perm_short c.args.word.now c.len-last.ensures.word in omega arith

pub overflow_add-cut : goal.overflow_add-cut
overflow_add-cut c = let short = perm_short c.args.word.now c.len-last.ensures.word in omega arith
