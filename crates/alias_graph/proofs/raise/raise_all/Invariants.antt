use Rattle.std.proofs.Common.{List, drop}
use Rattle.alias_hir.specs.declared.env.Identifier.{Identifier}
use Rattle.alias_graph.specs.Flat.{nodes_of}
use Rattle.alias_graph.specs.Raising.{EndsRise, Raised, Swept}
use Rattle.alias_graph.proofs.raise.raise_all.Given as goal

abbrev pub invariant-loop-walk : goal.invariant-loop-walk
invariant-loop-walk g l =
    Swept (nodes_of l.links l.nodes) l.index l.end.0 l.identifiers l.scratch.seen
    × EndsRise l.initial.identifiers l.identifiers
    × ((last : List Identifier) → Raised (nodes_of l.links l.nodes) (drop l.walk-index l.walks) l.identifiers last
    → Raised (nodes_of l.links l.nodes) l.walks l.initial.identifiers last)
