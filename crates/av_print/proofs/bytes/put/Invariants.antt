-- All of the piece but the rest was written, and nothing was done where there is no byte to write.
use Rattle.std.proofs.Common.{◌≡◌, ◌≤◌, [], length}
use Rattle.av_print.proofs.Written.{AppendsUpTo}
use Rattle.av_print.proofs.bytes.put.Given as goal

abbrev pub invariant-writes : goal.invariant-writes
invariant-writes g l = record {
  written : AppendsUpTo (g.K.Sink.held l.fn.sink) (g.K.Sink.held l.sink) l.fn.piece l.rest;
  faults : g.K.Sink.faults l.fn.sink ≤ g.K.Sink.faults l.sink;
  wants : g.K.Sink.wants l.fn.sink ≤ g.K.Sink.wants l.sink;
  shorter : length l.rest ≤ length l.fn.piece;
  no_write : l.fn.piece ≡ [] → l.sink ≡ l.fn.sink;
}

abbrev pub decreases-writes : goal.decreases-writes
decreases-writes g l = length l.rest
