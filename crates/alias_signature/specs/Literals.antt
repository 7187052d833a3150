-- Values that are written out.
use Rattle.std.specs.Prelude.{List, [], ◌∷◌}
use Rattle.alias_hir.specs.declared.effect.AliasingEffect.{AliasingEffect}
use Rattle.alias_hir.specs.declared.effect.ValueKind.TheVariants.{Primitive}
use Rattle.alias_hir.specs.declared.place.Place.{Place}
use Rattle.alias_signature.specs.Created.{created}

-- a new primitive value
abbrev pub primitive_effects : Place → List AliasingEffect
primitive_effects l = created l Primitive ∷ []
