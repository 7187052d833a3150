use Rattle.alias_graph.specs.Flat.{nodes_of}
use Rattle.alias_graph.specs.Raising.{range_entry}
use Rattle.alias_graph.specs.Waiting.{waiting}
use Rattle.alias_graph.proofs.Raising.{Going}
use Rattle.alias_graph.proofs.Searching.{coming, Comes}
use Rattle.alias_graph.proofs.Unseen.{unseen}
use Rattle.alias_graph.proofs.raise.raise_from.Given as goal

abbrev pub invariant-raise : goal.invariant-raise
invariant-raise g l =
    Going (nodes_of l.links l.nodes) l.walk.index (range_entry l.walk) l.walk.end l.fn.identifiers l.identifiers
    l.scratch.seen (coming (waiting l.links l.nodes l.walk.index l.scratch.stack.items) l.next)
    × Comes l.nodes l.scratch.seen (waiting l.links l.nodes l.walk.index l.scratch.stack.items) l.next

abbrev pub decreases-raise : goal.decreases-raise
decreases-raise g l = unseen l.scratch.seen
