use Rattle.std.proofs.Common.{◌≡◌, ◌++◌, take}
use Rattle.std.specs.List.{flat_map}
use Rattle.alias_signature.specs.Objects.{property_effects}
use Rattle.alias_signature.proofs.objects.push_properties.Given as goal

abbrev pub invariant-loop-property : goal.invariant-loop-property
invariant-loop-property l = l.effects ≡ l.initial.effects
    ++ flat_map (property_effects l.lvalue) (take l.property-index l.properties)
