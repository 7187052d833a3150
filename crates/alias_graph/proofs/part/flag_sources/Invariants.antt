use Rattle.std.proofs.Common.{◌≡◌, ◌+◌, drop, length, vec_len}
use Rattle.alias_graph.specs.Cutting.{FlagsGrow, unflagged}
use Rattle.alias_graph.specs.Flat.{AllBelow}
use Rattle.alias_graph.proofs.part.flag_sources.Given as goal

abbrev pub invariant-loop-slot : goal.invariant-loop-slot
invariant-loop-slot l =
    FlagsGrow l.initial.flags.items l.flags.items
    × (vec_len l.stack + unflagged l.flags.items ≡ vec_len l.initial.stack + unflagged l.initial.flags.items)
    × AllBelow (length l.links) (drop l.slot-index l.slots)
