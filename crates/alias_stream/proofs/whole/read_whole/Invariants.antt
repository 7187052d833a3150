use Rattle.std.proofs.Common.{vec_len, ◌≡◌, ◌-◌, ◌≤◌}
use Rattle.alias_stream.specs.Streams.{Takes}
use Rattle.alias_stream.proofs.whole.read_whole.Given as goal

abbrev pub invariant-loop-bytes : goal.invariant-loop-bytes
invariant-loop-bytes g l = record {
  chunk : vec_len l.chunk ≡ 65536;
  within : vec_len l.bytes ≤ 16777216;
  taken : Takes (g.S.Source.left l.initial.source) l.bytes.items (g.S.Source.left l.source);
  faults : g.S.Source.faults l.initial.source ≤ g.S.Source.faults l.source;
}

abbrev pub decreases-loop-bytes : goal.decreases-loop-bytes
decreases-loop-bytes g l = 16777216 - vec_len l.bytes
