-- What is set of a nested function once its summary is known.
use Rattle.std.specs.Prelude.{ℕ, Bool, true, false, ◌||◌, if◌then◌else◌, ◌==◌, List, [], ◌∷◌, Option, Some, None, map}
use Rattle.std.specs.Prelude.{slice_get, slice_set}
use Rattle.std.specs.List.{list_any}
use Rattle.alias_fitting_laws.specs.bare.Bare.{without_range}
use Rattle.alias_base.specs.declared.ids.IdentifierId.{IdentifierId}
use Rattle.alias_hir.specs.declared.effect.AliasingEffect.{AliasingEffect}
use Rattle.alias_hir.specs.declared.effect.AliasingEffect.TheVariants as effect
use Rattle.alias_hir.specs.declared.env.Environment.{Environment}
use Rattle.alias_hir.specs.declared.env.Identifier.{Identifier}
use Rattle.alias_hir.specs.declared.hir.HirFunction.{HirFunction}
use Rattle.alias_hir.specs.declared.place.Effect.{Effect}
use Rattle.alias_hir.specs.declared.place.Effect.TheVariants.{Unknown, Freeze, Read, Capture}
use Rattle.alias_hir.specs.declared.place.Effect.TheVariants.{ConditionallyMutateIterator, ConditionallyMutate, Mutate}
use Rattle.alias_hir.specs.declared.place.Effect.TheVariants.{Store}
use Rattle.alias_hir.specs.declared.place.Place.{Place}

-- the effect captures or mutates the identifier: it names it as what flows into another place, or as what is mutated
abbrev pub takes : IdentifierId → AliasingEffect → Bool
takes x (effect.Assign from into) = from.identifier.0 == x.0
takes x (effect.Alias from into) = from.identifier.0 == x.0
takes x (effect.Capture from into) = from.identifier.0 == x.0
takes x (effect.CreateFrom from into) = from.identifier.0 == x.0
takes x (effect.MaybeAlias from into) = from.identifier.0 == x.0
takes x (effect.Mutate value reason) = value.identifier.0 == x.0
takes x (effect.MutateConditionally value) = value.identifier.0 == x.0
takes x (effect.MutateTransitive value) = value.identifier.0 == x.0
takes x (effect.MutateTransitiveConditionally value) = value.identifier.0 == x.0
takes x (effect.Apply receiver function mutates args into signature span) = false
takes x (effect.ImmutableCapture from into) = false
takes x (effect.Create into kind reason) = false
takes x (effect.Freeze v reason) = false
takes x (effect.Impure p error) = false
takes x (effect.MutateFrozen p error) = false
takes x (effect.MutateGlobal p error) = false
takes x (effect.Render p) = false
takes x (effect.CreateFunction into f captures) = false

abbrev pub is_capture : Effect → Bool
is_capture Capture = true
is_capture Unknown = false
is_capture Freeze = false
is_capture Read = false
is_capture ConditionallyMutateIterator = false
is_capture ConditionallyMutate = false
is_capture Mutate = false
is_capture Store = false

-- a context place is captured: the summary captures or mutates it, or it was captured already
abbrev pub is_captured : List AliasingEffect → Place → Bool
is_captured summary p = list_any (takes p.identifier) summary || is_capture p.effect

-- a context place is captured, or else only read
abbrev pub context_annotated : List AliasingEffect → Place → Place
context_annotated summary p = record p { effect = if is_captured summary p then Capture else Read }

-- the function with its summary, and with the effects of its context places
abbrev pub summarized : List AliasingEffect → HirFunction → HirFunction
summarized summary f = record f { context = map (context_annotated summary) f.context; aliasing_effects = Some summary }

abbrev pub reset_at : List Identifier → ℕ → Option Identifier → List Identifier
reset_at is n None = is
reset_at is n (Some i) = slice_set is n (without_range i)

-- the identifiers, those of the places without range and scope
abbrev pub reset : List Place → List Identifier → List Identifier
reset [] is = is
reset (p ∷ ps) is = reset ps (reset_at is p.identifier.0 (slice_get is p.identifier.0))

-- the summary is stored, the effects of context places are set, and the ranges and scopes of their identifiers are
-- reset
abbrev pub annotated : List AliasingEffect → HirFunction × Environment → HirFunction × Environment
annotated summary s = (
  summarized summary s.0,
  record s.1 { identifiers = reset (summarized summary s.0).context s.1.identifiers },
)
