-- New objects.
use Rattle.std.specs.Prelude.{List, [], ◌∷◌}
use Rattle.std.specs.List.{flat_map}
use Rattle.alias_hir.specs.declared.effect.AliasingEffect.{AliasingEffect}
use Rattle.alias_hir.specs.declared.effect.AliasingEffect.TheVariants.{Capture}
use Rattle.alias_hir.specs.declared.effect.ValueKind.TheVariants.{Mutable}
use Rattle.alias_hir.specs.declared.place.Place.{Place}
use Rattle.alias_hir.specs.declared.value.ObjectPropertyOrSpread.{ObjectPropertyOrSpread}
use Rattle.alias_hir.specs.declared.value.ObjectPropertyOrSpread.TheVariants as property
use Rattle.alias_signature.specs.Created.{created}

-- the value of a property, or what is spread, is put into the object; a computed key isn't
abbrev pub property_effects : Place → ObjectPropertyOrSpread → List AliasingEffect
property_effects l (property.Property p) = Capture p.place l ∷ []
property_effects l (property.Spread s) = Capture s.place l ∷ []

-- a new object
abbrev pub object_expression_effects : Place → List ObjectPropertyOrSpread → List AliasingEffect
object_expression_effects l properties = created l Mutable ∷ flat_map (property_effects l) properties
