use Rattle.std.proofs.Common.{◌≡◌, ◌++◌, map}
use Rattle.alias_base.specs.declared.ids.BlockId.{BlockId}
use Rattle.alias_hir.specs.declared.place.Place.{Place}
use Rattle.alias_visit.proofs.function_places.push_incoming.Given as goal

abbrev pub invariant-loop-place : goal.invariant-loop-place
invariant-loop-place l = l.initial.places.items ++ map (λ (e : BlockId × Place). e.1) l.phi.operands ≡ l.places.items
    ++ map (λ (e : BlockId × Place). e.1) l.place-iterator
