use Rattle.std.proofs.Common.{◌≡◌, ℕ, ◌<◌, false, slice_index_or}
use Rattle.alias_graph.specs.Cutting.{FlagsGrow, stored_value_quiet}
use Rattle.alias_graph.specs.Waiting.{stored_at}
use Rattle.alias_graph.proofs.part.flag_reports.Given as goal

abbrev pub invariant-loop-slot : goal.invariant-loop-slot
invariant-loop-slot l =
    FlagsGrow l.initial.flags.items l.flags.items
    × ((i : ℕ) → i < l.slot → slice_index_or l.flags.items i false ≡ false
    → stored_value_quiet l.env (stored_at l.nodes i))
