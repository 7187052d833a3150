use Rattle.std.proofs.Common.{◌≡◌}
use Rattle.alias_graph.specs.recorded.Each.{each}
use Rattle.alias_graph.specs.recorded.BlockListings.{operand_listed, phi_listed}
use Rattle.alias_graph.proofs.recorded.block_listing.list_phi.Given as goal

abbrev pub invariant-loop-block : goal.invariant-loop-block
invariant-loop-block l = each (operand_listed l.blocks l.done l.phi.place) l.block-iterator l.listing
    ≡ phi_listed l.blocks l.done l.phi l.fn.listing
