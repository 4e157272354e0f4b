-- The bytes before the place were written, and nothing was done where there is none to write.
use Rattle.std.proofs.Common.{◌≡◌, ◌≤◌, ◌-◌, [], length, take}
use Rattle.std.specs.Io.KnownBytes.{Appends}
use Rattle.av_io.proofs.passing.write_from.Given as goal

abbrev pub invariant-writes : goal.invariant-writes
invariant-writes g l = record {
  within : l.passed ≤ length l.bytes;
  grows : Appends (g.K.Sink.held l.fn.sink) (g.K.Sink.held l.sink) (take l.passed l.bytes);
  faults : g.K.Sink.faults l.fn.sink ≤ g.K.Sink.faults l.sink;
  wants : g.K.Sink.wants l.fn.sink ≤ g.K.Sink.wants l.sink;
  no_write : l.bytes ≡ [] → l.sink ≡ l.fn.sink;
}

abbrev pub decreases-writes : goal.decreases-writes
decreases-writes g l = length l.bytes - l.passed
