-- Reads of variables and properties.
use Rattle.std.specs.Prelude.{List, [], ◌∷◌, if◌then◌else◌}
use Rattle.alias_hir.specs.Types.{is_primitive_at}
use Rattle.alias_hir.specs.declared.effect.AliasingEffect.{AliasingEffect}
use Rattle.alias_hir.specs.declared.effect.AliasingEffect.TheVariants.{CreateFrom, Assign}
use Rattle.alias_hir.specs.declared.effect.ValueKind.TheVariants.{Primitive}
use Rattle.alias_hir.specs.declared.env.Environment.{Environment}
use Rattle.alias_hir.specs.declared.place.Place.{Place}
use Rattle.alias_signature.specs.Created.{created}

-- the same value again
abbrev pub load_local_effects : Place → Place → List AliasingEffect
load_local_effects l place = Assign place l ∷ []

-- a part of the object, which is primitive where its type says so
abbrev pub property_load_effects : Environment → Place → Place → List AliasingEffect
property_load_effects env l object =
    if is_primitive_at env l.identifier then created l Primitive ∷ [] else CreateFrom object l ∷ []
