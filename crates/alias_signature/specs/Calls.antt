-- Calls, whose effects are found where they are stepped, and awaits.
use Rattle.std.specs.Prelude.{Bool, List, [], ◌∷◌, Option, map, option_map, slice_get}
use Rattle.alias_base.specs.declared.ids.IdentifierId.{IdentifierId}
use Rattle.alias_base.specs.declared.ids.TypeId.{TypeId}
use Rattle.alias_hir.specs.declared.effect.AliasingEffect.{AliasingEffect}
use Rattle.alias_hir.specs.declared.effect.AliasingEffect.TheVariants.{Apply, Capture, MutateTransitiveConditionally}
use Rattle.alias_hir.specs.declared.effect.ValueKind.TheVariants.{Mutable}
use Rattle.alias_hir.specs.declared.env.Environment.{Environment}
use Rattle.alias_hir.specs.declared.env.Identifier.{Identifier}
use Rattle.alias_hir.specs.declared.place.Place.{Place}
use Rattle.alias_hir.specs.declared.place.PlaceOrSpread.{PlaceOrSpread}
use Rattle.alias_hir.specs.declared.place.PlaceOrSpread.TheVariants as arg
use Rattle.alias_hir.specs.declared.place.PlaceOrSpreadOrHole.{PlaceOrSpreadOrHole}
use Rattle.alias_hir.specs.declared.place.PlaceOrSpreadOrHole.TheVariants as apply
use Rattle.alias_hir.specs.declared.place.Span.{Span}
use Rattle.alias_signature.specs.Created.{created}

-- the number of an identifier's type
abbrev pub type_id_of : Environment → IdentifierId → Option TypeId
type_id_of env id = option_map (λ (i : Identifier). i.type_) (slice_get env.identifiers id.0)

-- the argument of a call has no holes
abbrev pub argument : PlaceOrSpread → PlaceOrSpreadOrHole
argument (arg.Place p) = apply.Place p
argument (arg.Spread s) = apply.Spread s

-- a call, whose function's type has its signature
abbrev pub call_effects : Environment → Place → Place → Bool → List PlaceOrSpread → Place → Option Span
    → List AliasingEffect
call_effects env receiver function mutates_function args l span =
    Apply receiver function mutates_function (map argument args) l (type_id_of env function.identifier) span ∷ []

-- what is awaited may be written, and is put into the result
abbrev pub await_effects : Place → Place → List AliasingEffect
await_effects l v = created l Mutable ∷ MutateTransitiveConditionally v ∷ Capture v l ∷ []
