use Rattle.std.proofs.Common.{take}
use Rattle.alias_follow.specs.lines.Known.{AreLinesKnown}
use Rattle.alias_follow.proofs.lines.known.lines_known.Given as goal

abbrev pub invariant-loop-line : goal.invariant-loop-line
invariant-loop-line l = AreLinesKnown (take l.line-index l.lines)
