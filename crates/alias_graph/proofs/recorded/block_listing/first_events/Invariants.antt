use Rattle.std.proofs.Common.{◌≡◌, ◌++◌, take, map}
use Rattle.alias_graph.specs.recorded.BlockListings.{object_of}
use Rattle.alias_hir.specs.Parts.{param_place}
use Rattle.alias_graph.proofs.recorded.block_listing.first_events.Given as goal

abbrev pub invariant-loop-param : goal.invariant-loop-param
invariant-loop-param l = l.events ≡ map (λ p. object_of (param_place p)) (take l.param-index l.param-items)

abbrev pub invariant-loop-place : goal.invariant-loop-place
invariant-loop-place l = l.events ≡ map (λ p. object_of (param_place p)) l.func.params
    ++ map object_of (take l.place-index l.place-items)
