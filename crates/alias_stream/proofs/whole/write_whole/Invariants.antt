use Rattle.std.proofs.Common.{length, ◌-◌, ◌≤◌, take}
use Rattle.alias_stream.specs.Streams.{Adds}
use Rattle.alias_stream.proofs.whole.write_whole.Given as goal

abbrev pub invariant-loop-written : goal.invariant-loop-written
invariant-loop-written g l = record {
  within : l.written ≤ length l.text;
  added : Adds (g.K.Sink.held l.initial.sink) (take l.written l.text) (g.K.Sink.held l.sink);
  faults : g.K.Sink.faults l.initial.sink ≤ g.K.Sink.faults l.sink;
}

abbrev pub decreases-loop-written : goal.decreases-loop-written
decreases-loop-written g l = length l.text - l.written
