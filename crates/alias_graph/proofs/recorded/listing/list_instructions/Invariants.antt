use Rattle.std.proofs.Common.{◌≡◌, drop}
use Rattle.alias_graph.specs.recorded.Each.{each}
use Rattle.alias_graph.specs.recorded.Listings.{instruction_listed}
use Rattle.alias_graph.proofs.recorded.listing.list_instructions.Given as goal

abbrev pub invariant-loop-id : goal.invariant-loop-id
invariant-loop-id l = each (instruction_listed l.instructions) (drop l.id-index l.ids) l.listing
    ≡ each (instruction_listed l.instructions) l.ids l.initial.listing
