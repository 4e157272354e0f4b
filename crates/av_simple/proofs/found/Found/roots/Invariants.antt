-- The words of the levels before the loop's place, and of this level.
use Rattle.std.proofs.Common.{◌≡◌, ◌++◌, take}
use Rattle.av_simple.proofs.Levels.{all_of}
use Rattle.av_simple.proofs.found.Found.roots.Given as goal

abbrev pub invariant-loop-level : goal.invariant-loop-level
invariant-loop-level l = l.roots ≡ all_of (take l.level-index l.level-items)

abbrev pub invariant-loop-word : goal.invariant-loop-word
invariant-loop-word l = l.roots ≡ l.initial.roots ++ take l.word-index l.word-items
