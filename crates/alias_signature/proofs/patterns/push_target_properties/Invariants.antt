use Rattle.std.proofs.Common.{◌≡◌, ◌++◌, take}
use Rattle.std.specs.List.{flat_map}
use Rattle.alias_signature.specs.Patterns.{target_property_effects}
use Rattle.alias_signature.proofs.patterns.push_target_properties.Given as goal

abbrev pub invariant-loop-property : goal.invariant-loop-property
invariant-loop-property l = l.effects ≡ l.initial.effects
    ++ flat_map (target_property_effects l.env l.spreads l.value) (take l.property-index l.properties)
