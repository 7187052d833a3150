-- The keys of effects.
use Rattle.std.specs.Prelude.{List, Option, None, Some, map}
use Rattle.alias_base.specs.declared.ids.IdentifierId.{IdentifierId}
use Rattle.alias_hir.specs.declared.place.Place.{Place}
use Rattle.alias_hir.specs.declared.effect.AliasingEffect.{AliasingEffect}
use Rattle.alias_hir.specs.declared.effect.AliasingEffect.TheVariants as effect
use Rattle.alias_tables.specs.declared.key.EffectKey.{EffectKey}
use Rattle.alias_tables.specs.declared.key.EffectKey.TheVariants as key
use Rattle.alias_tables.specs.declared.key.Captures.{Captures}

-- the identifiers of the places, in order
abbrev pub ids_of : List Place → List IdentifierId
ids_of places = map (λ (p : Place). p.identifier) places

abbrev pub captures_of : List Place → Captures
captures_of places = record { ids = ids_of places }

-- what tells the effect apart. A call has no key
abbrev pub key_of : AliasingEffect → Option EffectKey
key_of (effect.Apply receiver function mutates args into signature span) = None
key_of (effect.CreateFrom a x) = Some (key.CreateFrom a.identifier x.identifier)
key_of (effect.ImmutableCapture a x) = Some (key.ImmutableCapture a.identifier x.identifier)
key_of (effect.Assign a x) = Some (key.Assign a.identifier x.identifier)
key_of (effect.Alias a x) = Some (key.Alias a.identifier x.identifier)
key_of (effect.Capture a x) = Some (key.Capture a.identifier x.identifier)
key_of (effect.MaybeAlias a x) = Some (key.MaybeAlias a.identifier x.identifier)
key_of (effect.Create x k r) = Some (key.Create x.identifier k r)
key_of (effect.Freeze v r) = Some (key.Freeze v.identifier r)
key_of (effect.Impure p error) = Some (key.Impure p.identifier)
key_of (effect.MutateFrozen p error) = Some (key.MutateFrozen p.identifier error.identity)
key_of (effect.MutateGlobal p error) = Some (key.MutateGlobal p.identifier error.identity)
key_of (effect.Render p) = Some (key.Render p.identifier)
key_of (effect.Mutate v r) = Some (key.Mutate v.identifier)
key_of (effect.MutateConditionally v) = Some (key.MutateConditionally v.identifier)
key_of (effect.MutateTransitive v) = Some (key.MutateTransitive v.identifier)
key_of (effect.MutateTransitiveConditionally v) = Some (key.MutateTransitiveConditionally v.identifier)
key_of (effect.CreateFunction x f captures) = Some (key.CreateFunction x.identifier f (captures_of captures))

-- an effect of the same key keeps its own report
abbrev pub with_error_of : AliasingEffect → AliasingEffect → AliasingEffect
with_error_of (effect.Impure p error) (effect.Impure q own) = effect.Impure p own
with_error_of (effect.MutateFrozen p error) (effect.MutateFrozen q own) = effect.MutateFrozen p own
with_error_of (effect.MutateGlobal p error) (effect.MutateGlobal q own) = effect.MutateGlobal p own
with_error_of (effect.Impure p error) e = effect.Impure p error
with_error_of (effect.MutateFrozen p error) e = effect.MutateFrozen p error
with_error_of (effect.MutateGlobal p error) e = effect.MutateGlobal p error
-- these have no report; each is named, so that a new effect doesn't go without its own
with_error_of (effect.Apply receiver function mutates args into signature span) e =
    effect.Apply receiver function mutates args into signature span
with_error_of (effect.CreateFrom a x) e = effect.CreateFrom a x
with_error_of (effect.ImmutableCapture a x) e = effect.ImmutableCapture a x
with_error_of (effect.Assign a x) e = effect.Assign a x
with_error_of (effect.Alias a x) e = effect.Alias a x
with_error_of (effect.Capture a x) e = effect.Capture a x
with_error_of (effect.MaybeAlias a x) e = effect.MaybeAlias a x
with_error_of (effect.Create x kind reason) e = effect.Create x kind reason
with_error_of (effect.Freeze v reason) e = effect.Freeze v reason
with_error_of (effect.Render p) e = effect.Render p
with_error_of (effect.Mutate v reason) e = effect.Mutate v reason
with_error_of (effect.MutateConditionally v) e = effect.MutateConditionally v
with_error_of (effect.MutateTransitive v) e = effect.MutateTransitive v
with_error_of (effect.MutateTransitiveConditionally v) e = effect.MutateTransitiveConditionally v
with_error_of (effect.CreateFunction x f captures) e = effect.CreateFunction x f captures
