use Rattle.std.proofs.Common.{take}
use Rattle.alias_follow.specs.lines.Known.{AreKnown}
use Rattle.alias_follow.proofs.lines.known.values_known.Given as goal

abbrev pub invariant-loop-value : goal.invariant-loop-value
invariant-loop-value l = AreKnown (take l.value-index l.values)
