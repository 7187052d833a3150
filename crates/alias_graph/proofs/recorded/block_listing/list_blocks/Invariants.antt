use Rattle.std.proofs.Common.{◌≡◌, drop}
use Rattle.alias_graph.specs.recorded.BlockListings.{blocks_listed}
use Rattle.alias_graph.proofs.recorded.block_listing.list_blocks.Given as goal

abbrev pub invariant-loop-slot : goal.invariant-loop-slot
invariant-loop-slot l = blocks_listed l.func l.slot (drop l.slot l.func.body.blocks) l.listing
    ≡ blocks_listed l.func 0 l.func.body.blocks l.initial.listing
