-- The demands gone through told no more than the first open question.
use Rattle.std.proofs.Common.{drop, map}
use Rattle.av_split.specs.Boxes.{demand}
use Rattle.av_split.specs.Gathering.{Gathers}
use Rattle.av_split.specs.Gathering.{question_asked}
use Rattle.av_split.proofs.advising.gather.Given as goal

abbrev pub invariant-loop-word : goal.invariant-loop-word
invariant-loop-word l = Gathers l.cell (question_asked l.fn.found) (map (demand l.root l.required) l.word-items) (question_asked l.kept) (map (demand l.root l.required) (drop l.word-index l.word-items))
