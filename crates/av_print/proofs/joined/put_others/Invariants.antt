-- All was written but the items from the index on.
use Rattle.std.proofs.Common.{◌≤◌, flat_map, drop, ◌++◌}
use Rattle.av_print.proofs.Written.{AppendsUpTo}
use Rattle.av_print.proofs.joined.put_others.Given as goal

abbrev pub invariant-loop-item : goal.invariant-loop-item
invariant-loop-item g l = record {
  written : AppendsUpTo (g.K.Sink.held l.fn.sink) (g.K.Sink.held l.sink) (flat_map (λ x. l.separator ++ g.T.Text.text x) l.items) (flat_map (λ x. l.separator ++ g.T.Text.text x) (drop l.item-index l.items));
  faults : g.K.Sink.faults l.fn.sink ≤ g.K.Sink.faults l.sink;
  wants : g.K.Sink.wants l.fn.sink ≤ g.K.Sink.wants l.sink;
}
