use Rattle.std.proofs.Common.{◌≡◌, ℕ, true, false, Some, take, slice_index_or}
use Rattle.alias_base.specs.declared.ids.IdentifierId.{IdentifierId}
use Rattle.alias_graph.specs.Cutting.{FlagsGrow}
use Rattle.alias_graph.specs.Nodes.{slot_of}
use Rattle.alias_graph.specs.Walks.{IsOneOf}
use Rattle.alias_graph.proofs.part.flag_targets.Given as goal

abbrev pub invariant-loop-id : goal.invariant-loop-id
invariant-loop-id l =
    FlagsGrow l.initial.flags.items l.flags.items
    × ((id : IdentifierId) → IsOneOf id (take l.id-index l.targets) → (p : ℕ) → slot_of l.nodes id ≡ Some p
    → slice_index_or l.flags.items p false ≡ true)
