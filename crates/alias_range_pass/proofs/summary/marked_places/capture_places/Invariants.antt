use Rattle.std.proofs.Common.{◌≡◌, ◌++◌, drop, take, map}
use Rattle.alias_range_pass.specs.summary.MarkedPlaces.{captured}
use Rattle.alias_range_pass.proofs.summary.marked_places.capture_places.Given as goal

abbrev pub invariant-loop-place : goal.invariant-loop-place
invariant-loop-place l = l.places ≡ map (captured l.graph) (take l.place-index l.initial.places)
    ++ drop l.place-index l.initial.places
