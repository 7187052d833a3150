-- The effects of an instruction's places, by what is recorded of it.
use Rattle.std.specs.Prelude.{Bool, List, [], Option, Some, None, if◌then◌else◌, nat_lt, fold}
use Rattle.std.specs.Map.{lookup}
use Rattle.std.specs.Option.{option_map_or}
use Rattle.indexmap.specs.IndexMap.{insert_entry}
use Rattle.alias_base.specs.declared.ids.EvaluationOrder.{EvaluationOrder}
use Rattle.alias_base.specs.declared.ids.IdentifierId.{IdentifierId}
use Rattle.alias_hir.specs.declared.effect.AliasingEffect.{AliasingEffect}
use Rattle.alias_hir.specs.declared.effect.AliasingEffect.TheVariants as effect
use Rattle.alias_hir.specs.declared.env.Identifier.{Identifier}
use Rattle.alias_hir.specs.declared.hir.Instruction.{Instruction}
use Rattle.alias_hir.specs.declared.place.Effect.{Effect}
use Rattle.alias_hir.specs.declared.place.Effect.TheVariants.{Freeze, Read, Capture, ConditionallyMutate, Store}
use Rattle.alias_hir.specs.declared.place.Place.{Place}
use Rattle.alias_graph.specs.Nodes.{same_id}
use Rattle.alias_graph.specs.Reach.{end_at}

-- effects by identifiers
abbrev pub Table : Type 0
Table = List (IdentifierId × Effect)

abbrev pub set_effect : IdentifierId → Effect → Table → Table
set_effect id e table = insert_entry same_id table id e

-- the effect that the table has, or else this one
abbrev pub effect_of : Table → Effect → IdentifierId → Effect
effect_of table other id = option_map_or (λ e. e) (lookup (same_id id) table) other

-- whether the identifier's range ends after the order
abbrev pub ends_past : List Identifier → EvaluationOrder → IdentifierId → Bool
ends_past ids t id = nat_lt t.0 (end_at ids id.0)

-- of a place whose value flows into the identifier: Capture where that may be written later
abbrev pub source_effect : List Identifier → EvaluationOrder → IdentifierId → Effect
source_effect ids t into = if ends_past ids t into then Capture else Read

-- a value flows from a into x
abbrev pub flow_tabled : List Identifier → EvaluationOrder → Place → Place → Table → Table
flow_tabled ids t a x table = set_effect x.identifier Store
    (set_effect a.identifier (source_effect ids t x.identifier) table)

-- what an effect at order t sets
abbrev pub effect_tabled : List Identifier → EvaluationOrder → AliasingEffect → Table → Table
effect_tabled ids t (effect.CreateFrom a x) table = flow_tabled ids t a x table
effect_tabled ids t (effect.Assign a x) table = flow_tabled ids t a x table
effect_tabled ids t (effect.Alias a x) table = flow_tabled ids t a x table
effect_tabled ids t (effect.Capture a x) table = flow_tabled ids t a x table
effect_tabled ids t (effect.MaybeAlias a x) table = flow_tabled ids t a x table
effect_tabled ids t (effect.Freeze x reason) table = set_effect x.identifier Freeze table
effect_tabled ids t (effect.Mutate x reason) table = set_effect x.identifier Store table
effect_tabled ids t (effect.MutateConditionally x) table = set_effect x.identifier ConditionallyMutate table
effect_tabled ids t (effect.MutateTransitive x) table = set_effect x.identifier ConditionallyMutate table
effect_tabled ids t (effect.MutateTransitiveConditionally x) table = set_effect x.identifier ConditionallyMutate table
effect_tabled ids t (effect.Apply receiver function mutates args into signature span) table = table
effect_tabled ids t (effect.ImmutableCapture a x) table = table
effect_tabled ids t (effect.Create x kind reason) table = table
effect_tabled ids t (effect.Impure p error) table = table
effect_tabled ids t (effect.MutateFrozen p error) table = table
effect_tabled ids t (effect.MutateGlobal p error) table = table
effect_tabled ids t (effect.Render p) table = table
effect_tabled ids t (effect.CreateFunction x f captures) table = table

-- what the effects set, in order
abbrev pub effects_tabled : List Identifier → EvaluationOrder → List AliasingEffect → Table → Table
effects_tabled ids t es table = fold (λ so_far e. effect_tabled ids t e so_far) table es

abbrev pub recorded : Option (List AliasingEffect) → List AliasingEffect
recorded None = []
recorded (Some es) = es

-- what the effects of an instruction say of its places
abbrev pub table_of : List Identifier → Instruction → Table
table_of ids i = effects_tabled ids i.id (recorded i.effects) []

-- the place with the effect of the table, or else with this one
abbrev pub with_table : Table → Effect → Place → Place
with_table table other p = record p { effect = effect_of table other p.identifier }
