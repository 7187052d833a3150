use Rattle.std.proofs.Common.{◌≡◌, ◌++◌, take}
use Rattle.std.specs.List.{flat_map}
use Rattle.alias_hir.specs.declared.place.Place.{Place}
use Rattle.alias_text.specs.Lines.{spaced}
use Rattle.alias_text.proofs.effects.push_places.Given as goal

abbrev pub invariant-loop-place : goal.invariant-loop-place
invariant-loop-place l = l.out ≡ l.initial.out
    ++ flat_map (λ (p : Place). spaced p.identifier.0) (take l.place-index l.places)
