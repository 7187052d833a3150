use Rattle.std.proofs.Common.{◌≡◌, drop}
use Rattle.alias_graph.specs.recorded.Each.{each}
use Rattle.alias_graph.specs.recorded.BlockListings.{alias_listed}
use Rattle.alias_graph.proofs.recorded.block_listing.list_aliases.Given as goal

abbrev pub invariant-loop-effect : goal.invariant-loop-effect
invariant-loop-effect l = each alias_listed (drop l.effect-index l.effects) l.listing
    ≡ each alias_listed l.effects l.initial.listing
