-- One more entry.
use Rattle.std.proofs.Common.{arith}
use Rattle.av_perm.proofs.PermWords.{perm_word}
use Rattle.av_simple.proofs.Gathering.{point_turn}
use Rattle.av_simple.proofs.extension.add_with_point_at.Goals as goal

pub loop-entry-preserved : goal.loop-entry-preserved
loop-entry-preserved c =
    point_turn c.args.basis.now c.args.word.now c.insert_point.result c.args.place c.loop-entry.entry c.args.found.now.keys c.loop-entry.found.keys c.add_simple.new.found.keys
    (perm_word c.args.word.now c.len-len.ensures.word).numbers c.requires.within c.loop-entry.auto.entry (omega arith) c.insert_point.ensures c.loop-entry.invariant c.in_ok-add_simple.ensures
