use Rattle.alias_graph.proofs.Cutting.{Leading}
use Rattle.alias_graph.proofs.part.flag_leading.Given as goal

abbrev pub invariant-loop-slot : goal.invariant-loop-slot
invariant-loop-slot l = Leading l.links l.nodes l.initial.flags.items l.flags.items l.more l.slot
