-- Writes of variables and properties, and declarations.
use Rattle.std.specs.Prelude.{Bool, false, ◌&&◌, if◌then◌else◌, List, [], ◌∷◌, Option, None, Some, nat_eq, codes}
use Rattle.std.specs.Cmp.Lexicographic.{pointwise}
use Rattle.alias_hir.specs.Types.{is_untyped_at}
use Rattle.alias_hir.specs.declared.effect.AliasingEffect.{AliasingEffect}
use Rattle.alias_hir.specs.declared.effect.AliasingEffect.TheVariants.{Assign, Capture, Mutate}
use Rattle.alias_hir.specs.declared.effect.MutationReason.{MutationReason}
use Rattle.alias_hir.specs.declared.effect.MutationReason.TheVariants.{AssignCurrentProperty}
use Rattle.alias_hir.specs.declared.effect.ValueKind.TheVariants.{Primitive}
use Rattle.alias_hir.specs.declared.env.Environment.{Environment}
use Rattle.alias_hir.specs.declared.place.Place.{Place}
use Rattle.alias_hir.specs.declared.value.LValue.{LValue}
use Rattle.alias_hir.specs.declared.value.PropertyLiteral.{PropertyLiteral}
use Rattle.alias_hir.specs.declared.value.PropertyLiteral.TheVariants as property
use Rattle.alias_signature.specs.Created.{created}

-- ---- variables

-- the variable and the result are the value
abbrev pub store_local_effects : Place → LValue → Place → List AliasingEffect
store_local_effects l variable v = Assign v variable.place ∷ Assign v l ∷ []

-- the variable has no value yet, which is primitive
abbrev pub declare_local_effects : Place → LValue → List AliasingEffect
declare_local_effects l variable = created variable.place Primitive ∷ created l Primitive ∷ []

-- the result and the variable are numbers
abbrev pub update_effects : Place → Place → List AliasingEffect
update_effects l variable = created l Primitive ∷ created variable Primitive ∷ []

-- ---- properties

-- the property `current`, as of a ref
abbrev pub is_current : PropertyLiteral → Bool
is_current (property.String name) = pointwise nat_eq name (codes "current")
is_current property.Number = false

-- why the object of the write is written, where that is known
abbrev pub store_reason : Environment → Place → PropertyLiteral → Option MutationReason
store_reason env object property = if is_current property && is_untyped_at env object.identifier
    then Some AssignCurrentProperty else None

-- the object is written and takes the value in; the result is primitive
abbrev pub property_store_effects : Place → Place → Place → Option MutationReason → List AliasingEffect
property_store_effects l object v reason = Mutate object reason ∷ Capture v object ∷ created l Primitive ∷ []

-- the object is written, and the result is primitive
abbrev pub delete_effects : Place → Place → List AliasingEffect
delete_effects l object = created l Primitive ∷ Mutate object None ∷ []
