-- No occurrence goes on with a place before the loop's, and the places chosen are those of the call.
use Rattle.std.proofs.Common.{◌≡◌, ◌-◌, length}
use Rattle.av_match.specs.Search.{completed, places_from}
use Rattle.av_match.proofs.search.+extend.Given as goal

abbrev pub decreases-extend : goal.decreases-extend
decreases-extend l = length l.pattern.now - length l.chosen.now.items

abbrev pub invariant-loop-place : goal.invariant-loop-place
invariant-loop-place l = record {
  same : l.chosen.items ≡ l.initial.chosen.items;
  none : completed l.word l.pattern l.initial.chosen.items (places_from l.word l.place) ≡ completed l.word l.pattern l.initial.chosen.items (places_from l.word l.from);
}
