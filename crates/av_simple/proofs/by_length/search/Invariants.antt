-- What was searched before this length.
use Rattle.av_simple.proofs.Searches.{IsSearched}
use Rattle.av_simple.proofs.by_length.search.Given as goal

abbrev pub invariant-loop-m : goal.invariant-loop-m
invariant-loop-m l = IsSearched l.basis l.kept l.levels.items l.m
