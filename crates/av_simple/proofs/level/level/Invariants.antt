-- The words kept, and those to be kept of the words that are left.
use Rattle.std.proofs.Common.{◌≡◌, ◌++◌}
use Rattle.std.specs.List.{filter}
use Rattle.av_perm.specs.Word.{words}
use Rattle.av_simple.proofs.Levels.{is_simple_of}
use Rattle.av_simple.proofs.level.level.Given as goal

abbrev pub invariant-loop-word : goal.invariant-loop-word
invariant-loop-word l = l.simples ++ filter (is_simple_of l.basis) l.word-iterator ≡ filter (is_simple_of l.basis) (words l.m)
