-- What the places of a call are used for.
use Rattle.std.specs.Prelude.{ℕ, ◌+◌, Bool, true, false, List, [], ◌∷◌, ◌++◌, Option, Some, None, slice_get}
use Rattle.std.specs.Prelude.{if◌then◌else◌}
use Rattle.alias_hir.specs.declared.effect.AliasingEffect.{AliasingEffect}
use Rattle.alias_hir.specs.declared.effect.AliasingEffect.TheVariants as effect
use Rattle.alias_hir.specs.declared.effect.ValueReason.{ValueReason}
use Rattle.alias_hir.specs.declared.env.Environment.{Environment}
use Rattle.alias_hir.specs.declared.place.Effect.{Effect}
use Rattle.alias_hir.specs.declared.place.Effect.TheVariants as use_of
use Rattle.alias_hir.specs.declared.place.Place.{Place}
use Rattle.alias_hir.specs.declared.place.PlaceOrSpreadOrHole.{PlaceOrSpreadOrHole}
use Rattle.alias_hir.specs.declared.place.PlaceOrSpreadOrHole.TheVariants as arg
use Rattle.alias_hir.specs.declared.signature.FunctionSignature.{FunctionSignature}
use Rattle.alias_hir.specs.Types.{is_builtin_collection_at}
use Rattle.alias_calls.specs.declared.visits.Visits.{Visits}

-- an iterator is written, unless it is one of an array, a set or a map
abbrev pub iterated : Environment → Place → List AliasingEffect
iterated env p = if is_builtin_collection_at env p.identifier then [] else effect.MutateTransitiveConditionally p ∷ []

-- what is done with a place that is used so
abbrev pub visit : Environment → Place → ValueReason → Place → Effect → Visits → Visits
visit env into r p use_of.Store v = record v { out = v.out ++ effect.Mutate p None ∷ []; stored = v.stored ++ p ∷ [] }
visit env into r p use_of.Capture v = record v { captured = v.captured ++ p ∷ [] }
visit env into r p use_of.ConditionallyMutate v =
    record v { out = v.out ++ effect.MutateTransitiveConditionally p ∷ [] }
visit env into r p use_of.ConditionallyMutateIterator v =
    record v { out = v.out ++ iterated env p ++ effect.Capture p into ∷ [] }
visit env into r p use_of.Freeze v = record v { out = v.out ++ effect.Freeze p r ∷ [] }
visit env into r p use_of.Mutate v = record v { out = v.out ++ effect.MutateTransitive p ∷ [] }
visit env into r p use_of.Read v = record v { out = v.out ++ effect.ImmutableCapture p into ∷ [] }
visit env into r p use_of.Unknown v = v

-- a spread is written as an iterator, save where it is written anyhow
abbrev pub spread_effect : Effect → Effect
spread_effect use_of.Mutate = use_of.Mutate
spread_effect use_of.ConditionallyMutate = use_of.ConditionallyMutate
spread_effect use_of.Unknown = use_of.ConditionallyMutateIterator
spread_effect use_of.Freeze = use_of.ConditionallyMutateIterator
spread_effect use_of.Read = use_of.ConditionallyMutateIterator
spread_effect use_of.Capture = use_of.ConditionallyMutateIterator
spread_effect use_of.ConditionallyMutateIterator = use_of.ConditionallyMutateIterator
spread_effect use_of.Store = use_of.ConditionallyMutateIterator

-- a spread isn't to be frozen
abbrev pub is_refused : Effect → Bool
is_refused use_of.Freeze = true
is_refused use_of.Unknown = false
is_refused use_of.Read = false
is_refused use_of.Capture = false
is_refused use_of.ConditionallyMutateIterator = false
is_refused use_of.ConditionallyMutate = false
is_refused use_of.Mutate = false
is_refused use_of.Store = false

-- what an argument is used for by the effect of its parameter, and whether it is a spread that is refused
abbrev pub argument_effect : Effect → Bool → Effect × Bool
argument_effect e true = (spread_effect e, is_refused e)
argument_effect e false = (e, false)

abbrev pub or_effect : Option Effect → Effect → Effect
or_effect (Some e) other = e
or_effect None other = other

-- what a further argument is used for
abbrev pub rest_use : FunctionSignature → Effect
rest_use s = or_effect s.rest_param use_of.ConditionallyMutate

-- the first place that is refused
abbrev pub refused_first : Option Place → Bool → Place → Option Place
refused_first (Some p) b q = Some p
refused_first None true q = Some q
refused_first None false q = None

abbrev pub with_refused : Bool → Place → Visits → Visits
with_refused b p v = record v { refused = refused_first v.refused b p }

-- argument i of a call
abbrev pub visit_argument : Environment → FunctionSignature → Place → ValueReason → ℕ → PlaceOrSpreadOrHole → Visits
    → Visits
visit_argument env s into r i (arg.Place p) v =
    visit env into r p (or_effect (slice_get s.positional_params i) (rest_use s)) v
visit_argument env s into r i (arg.Spread x) v =
    visit env into r x.place (spread_effect (rest_use s)) (with_refused (is_refused (rest_use s)) x.place v)
visit_argument env s into r i arg.Hole v = v

-- the arguments of a call, of which the first is number i
abbrev pub visit_arguments : Environment → FunctionSignature → Place → ValueReason → ℕ → List PlaceOrSpreadOrHole
    → Visits → Visits
visit_arguments env s into r i [] v = v
visit_arguments env s into r i (a ∷ others) v =
    visit_arguments env s into r (i + 1) others (visit_argument env s into r i a v)
