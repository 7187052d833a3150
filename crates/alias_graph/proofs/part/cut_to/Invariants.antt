use Rattle.std.proofs.Common.{◌≡◌, take}
use Rattle.alias_graph.specs.Cutting.{cut_to}
use Rattle.alias_graph.proofs.part.cut_to.Given as goal

abbrev pub invariant-loop-slot : goal.invariant-loop-slot
invariant-loop-slot l = l.nodes ≡ cut_to (take l.slot l.flags) l.initial.nodes
