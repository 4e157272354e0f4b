-- The advice of all demands.
use Rattle.av_split.specs.Gathering.{question_asked}
use Rattle.av_split.proofs.AdviceEnds.{second_broken, all_known, all_next, may_ask}
use Rattle.av_split.proofs.advising.advise.Goals as goal
use Rattle.av_perm.proofs.PermWords.{perms_words}

pub advice_of-requires : goal.advice_of-requires
advice_of-requires c =
    may_ask c.args.cell.now c.args.root.now c.args.name.now.avoid c.args.name.now.require (perms_words _ c.len-avoid.ensures.words) (perms_words _ c.len-require.ensures.words) c.requires.small
    (question_asked c.in-So.first) c.in-So-gather.found c.in-So.ensures c.in-So-gather.ensures

pub returns-in-Broken-gather : goal.returns-in-Broken-gather
returns-in-Broken-gather c =
    second_broken c.args.cell.now c.args.root.now c.args.name.now.avoid c.args.name.now.require (question_asked c.in-So.first) c.in-So.ensures c.in-Broken-gather.ensures

pub returns-in-So-gather : goal.returns-in-So-gather
returns-in-So-gather c =
    c.advice_of.ensures _ _
    (all_known c.args.cell.now c.args.root.now c.args.name.now.avoid c.args.name.now.require (question_asked c.in-So.first) (question_asked c.in-So-gather.found) c.in-So.ensures c.in-So-gather.ensures)
    (all_next c.args.cell.now c.args.root.now c.args.name.now.avoid c.args.name.now.require (question_asked c.in-So.first) (question_asked c.in-So-gather.found) c.in-So.ensures c.in-So-gather.ensures)
