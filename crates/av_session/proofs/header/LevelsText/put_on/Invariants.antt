-- The numbers of the lengths before the loop's were written.
use Rattle.std.proofs.Common.{◌≤◌, ◌-◌, flat_map}
use Rattle.av_perm.specs.Lists.{counting}
use Rattle.av_simple.specs.Searched.{last_of}
use Rattle.av_session.specs.Due.{level_text}
use Rattle.av_print.proofs.Written.{AppendsUpTo}
use Rattle.av_session.proofs.Levels.{texts_from}
use Rattle.av_session.proofs.header.LevelsText.put_on.Given as goal

abbrev pub invariant-loop-m : goal.invariant-loop-m
invariant-loop-m g l = record {
  written : AppendsUpTo (g.K.Sink.held l.fn.sink) (g.K.Sink.held l.sink) (flat_map (level_text l.found.basis) (counting 4 (last_of l.found - 3))) (texts_from (level_text l.found.basis) l.m (last_of l.found));
  faults : g.K.Sink.faults l.fn.sink ≤ g.K.Sink.faults l.sink;
  wants : g.K.Sink.wants l.fn.sink ≤ g.K.Sink.wants l.sink;
}
