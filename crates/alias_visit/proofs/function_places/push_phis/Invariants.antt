use Rattle.std.proofs.Common.{◌≡◌, ◌++◌, take}
use Rattle.std.specs.List.{flat_map}
use Rattle.alias_visit.specs.Places.{phi_places}
use Rattle.alias_visit.proofs.function_places.push_phis.Given as goal

abbrev pub invariant-loop-phi : goal.invariant-loop-phi
invariant-loop-phi l = l.places.items ≡ l.initial.places.items ++ flat_map phi_places (take l.phi-index l.phis)
