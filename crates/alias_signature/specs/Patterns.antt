-- Values that are taken apart.
use Rattle.std.specs.Prelude.{ℕ, List, [], ◌∷◌, ◌++◌, if◌then◌else◌}
use Rattle.std.specs.List.{flat_map}
use Rattle.alias_hir.specs.Types.{is_primitive_at}
use Rattle.alias_hir.specs.declared.effect.AliasingEffect.{AliasingEffect}
use Rattle.alias_hir.specs.declared.effect.AliasingEffect.TheVariants.{CreateFrom, Assign, Capture}
use Rattle.alias_hir.specs.declared.effect.ValueKind.TheVariants.{Primitive, Mutable, Frozen}
use Rattle.alias_hir.specs.declared.env.Environment.{Environment}
use Rattle.alias_hir.specs.declared.place.Place.{Place}
use Rattle.alias_hir.specs.declared.value.ArrayPatternElement.{ArrayPatternElement}
use Rattle.alias_hir.specs.declared.value.ArrayPatternElement.TheVariants as item
use Rattle.alias_hir.specs.declared.value.ObjectPropertyOrSpread.{ObjectPropertyOrSpread}
use Rattle.alias_hir.specs.declared.value.ObjectPropertyOrSpread.TheVariants as property
use Rattle.alias_hir.specs.declared.value.Pattern.{Pattern}
use Rattle.alias_hir.specs.declared.value.Pattern.TheVariants as pattern
use Rattle.alias_facts.specs.Spreads.{is_spread}
use Rattle.alias_signature.specs.Created.{created}

-- a part of the value, which is primitive where its type says so
abbrev pub target_effects : Environment → Place → Place → List AliasingEffect
target_effects env v p = (if is_primitive_at env p.identifier then created p Primitive else CreateFrom v p) ∷ []

-- the rest of the value: a new one that holds its parts, and frozen where nothing writes it
abbrev pub rest_effects : List ℕ → Place → Place → List AliasingEffect
rest_effects spreads v p = created p (if is_spread spreads p then Frozen else Mutable) ∷ Capture v p ∷ []

abbrev pub item_effects : Environment → List ℕ → Place → ArrayPatternElement → List AliasingEffect
item_effects env spreads v (item.Place p) = target_effects env v p
item_effects env spreads v (item.Spread s) = rest_effects spreads v s.place
item_effects env spreads v item.Hole = []

abbrev pub target_property_effects : Environment → List ℕ → Place → ObjectPropertyOrSpread → List AliasingEffect
target_property_effects env spreads v (property.Property p) = target_effects env v p.place
target_property_effects env spreads v (property.Spread s) = rest_effects spreads v s.place

-- the items of the pattern in order
abbrev pub pattern_effects : Environment → List ℕ → Place → Pattern → List AliasingEffect
pattern_effects env spreads v (pattern.Array p) = flat_map (item_effects env spreads v) p.items
pattern_effects env spreads v (pattern.Object p) = flat_map (target_property_effects env spreads v) p.properties

-- the parts of the value, and then the result, which is the value
abbrev pub destructure_effects : Environment → List ℕ → Place → Pattern → Place → List AliasingEffect
destructure_effects env spreads l p v = pattern_effects env spreads v p ++ Assign v l ∷ []
