use Rattle.std.proofs.Common.{◌≡◌, drop}
use Rattle.alias_graph.specs.recorded.Each.{each}
use Rattle.alias_graph.specs.recorded.Listings.{effect_listed}
use Rattle.alias_graph.proofs.recorded.listing.list_effects.Given as goal

abbrev pub invariant-loop-effect : goal.invariant-loop-effect
invariant-loop-effect l = each (effect_listed l.instruction l.order) (drop l.effect-index l.effects) l.listing
    ≡ each (effect_listed l.instruction l.order) l.effects l.initial.listing
