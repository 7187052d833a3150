-- Copies of the effects of a signature, for the places that its names stand for.
use Rattle.std.specs.Prelude.{◌≡◌, Bool, true, false, List, [], ◌∷◌, ◌++◌, Option, Some, None, Result, Ok, Err, ⊤, map}
use Rattle.alias_hir.specs.declared.effect.ValueReason.{ValueReason}
use Rattle.alias_hir.specs.declared.place.Place.{Place}
use Rattle.alias_hir.specs.declared.effect.AliasingEffect.{AliasingEffect}
use Rattle.alias_hir.specs.declared.effect.AliasingEffect.TheVariants as effect
use Rattle.alias_hir.specs.declared.place.PlaceOrSpreadOrHole.{PlaceOrSpreadOrHole}
use Rattle.alias_hir.specs.declared.env.Environment.{Environment}
use Rattle.alias_tables.specs.declared.faults.Refusal.{Refusal}
use Rattle.alias_tables.specs.declared.faults.Refusal.TheVariants.{SpreadArgument}
use Rattle.alias_tables.specs.declared.faults.EffectFault.{EffectFault}
use Rattle.alias_tables.specs.declared.faults.EffectFault.TheVariants.{Refused, Memory}
use Rattle.alias_tables.specs.Tables.{TableLists, Step}
use Rattle.alias_tables.specs.Steps.{gives, refuses}
use Rattle.alias_apply.specs.Reports.{spread_report}
use Rattle.alias_calls.specs.declared.copies.PairKind.{PairKind}
use Rattle.alias_calls.specs.declared.copies.PairKind.TheVariants as pair
use Rattle.alias_calls.specs.declared.copies.PlaceKind.{PlaceKind}
use Rattle.alias_calls.specs.declared.copies.PlaceKind.TheVariants as at
use Rattle.alias_calls.specs.Arguments.{first_bad}

-- ---- effects over places

abbrev pub pair_of : PairKind → Place → Place → AliasingEffect
pair_of pair.CreateFrom a x = effect.CreateFrom a x
pair_of pair.ImmutableCapture a x = effect.ImmutableCapture a x
pair_of pair.Assign a x = effect.Assign a x
pair_of pair.Alias a x = effect.Alias a x
pair_of pair.Capture a x = effect.Capture a x
pair_of pair.MaybeAlias a x = effect.MaybeAlias a x

abbrev pub effect_at : PlaceKind → Place → AliasingEffect
effect_at (at.Create k r) p = effect.Create p k r
effect_at (at.Freeze r) p = effect.Freeze p r
effect_at (at.Impure error) p = effect.Impure p error
effect_at (at.MutateFrozen error) p = effect.MutateFrozen p error
effect_at (at.MutateGlobal error) p = effect.MutateGlobal p error
effect_at at.Render p = effect.Render p
effect_at (at.Mutate r) p = effect.Mutate p r
effect_at at.MutateConditionally p = effect.MutateConditionally p
effect_at at.MutateTransitive p = effect.MutateTransitive p
effect_at at.MutateTransitiveConditionally p = effect.MutateTransitiveConditionally p

-- one for each pair of a source and a target, source by source
abbrev pub pairs : PairKind → List Place → List Place → List AliasingEffect
pairs k [] xs = []
pairs k (a ∷ sources) xs = map (pair_of k a) xs ++ pairs k sources xs

-- ---- lists that may be given up

-- the effects so far, or none where the list is given up
abbrev pub Collected : Type 0
Collected = Option (List AliasingEffect)

abbrev pub with_pairs : PairKind → List Place → List Place → List AliasingEffect → Step Collected
with_pairs k sources targets out = gives (Some (out ++ pairs k sources targets))

abbrev pub with_each : PlaceKind → List Place → List AliasingEffect → Step Collected
with_each k ps out = gives (Some (out ++ map (effect_at k) ps))

abbrev pub with_freezes_unless : Option Place → ValueReason → List Place → List AliasingEffect → Step Collected
with_freezes_unless (Some p) r ps out = refuses (SpreadArgument p.span (spread_report p.span))
with_freezes_unless None r ps out = with_each (at.Freeze r) ps out

-- a freeze of a spread argument that isn't an array, a set or a map is refused
abbrev pub with_freezes : Environment → List PlaceOrSpreadOrHole → ValueReason → List Place → List AliasingEffect
    → Step Collected
with_freezes env args r ps out = with_freezes_unless (first_bad env args ps) r ps out

-- After Ok it says whether the list goes on, and the effects so far and the tables are the step's. A refusal is the
-- step's.
-- Memory may fail at any time.
abbrev pub Collects : Result (Collected × TableLists) Refusal → Result Bool EffectFault → List AliasingEffect
    → TableLists → Type 0
Collects step (Ok true) out t = step ≡ Ok (Some out, t)
Collects step (Ok false) out t = step ≡ Ok (None, t)
Collects step (Err (Refused c)) out t = step ≡ Err c
Collects step (Err (Memory e)) out t = ⊤

-- After Ok the list and the tables are the step's. A refusal is the step's. Memory may fail at any time.
abbrev pub Extended : {A : Type 0} → Result (List A × TableLists) Refusal → Result ⊤ EffectFault → List A → TableLists
    → Type 0
Extended step (Ok u) out t = step ≡ Ok (out, t)
Extended step (Err (Refused c)) out t = step ≡ Err c
Extended step (Err (Memory e)) out t = ⊤
