use Rattle.std.proofs.Common.{◌≡◌, drop}
use Rattle.alias_graph.specs.recorded.Each.{each}
use Rattle.alias_graph.specs.recorded.BlockListings.{phi_listed}
use Rattle.alias_graph.proofs.recorded.block_listing.list_phis.Given as goal

abbrev pub invariant-loop-phi : goal.invariant-loop-phi
invariant-loop-phi l = each (phi_listed l.blocks l.done) (drop l.phi-index l.phis) l.listing
    ≡ each (phi_listed l.blocks l.done) l.phis l.initial.listing
