-- What holds of the nested functions of a unit that was inferred: of their range ends in the unit that is handed out,
-- and of their summaries.
use Rattle.std.specs.Prelude.{◌≡◌, ◌<◌, ◌⊎◌, true, false, List, Option, Some, IsOkAnd, IsSomeAnd, slice_get}
use Rattle.alias_base.specs.declared.ids.FunctionId.{FunctionId}
use Rattle.alias_base.specs.declared.ids.IdentifierId.{IdentifierId}
use Rattle.alias_graph.specs.recorded.Recording.{graph_listed}
use Rattle.alias_graph.specs.declared.recorded.listing.RecordedMutation.{RecordedMutation}
use Rattle.alias_explain.specs.Standing.{has_place, stands_in}
use Rattle.alias_ranges.specs.heap.Heap.{Object, Reaches, Writes}
use Rattle.alias_ranges.specs.heap.Making.{makes_once}
use Rattle.alias_ranges.specs.heap.Paths.{is_forward, Moment, history_at}
use Rattle.alias_hir.specs.declared.env.Environment.{Environment}
use Rattle.alias_hir.specs.declared.env.Identifier.{Identifier}
use Rattle.alias_hir.specs.declared.hir.HirFunction.{HirFunction}
use Rattle.alias_nested.specs.Analysis.{Analysed}
use Rattle.alias_nested.specs.Roots.{with_effects}
use Rattle.alias_nested.specs.Units.{UnitAnalysis}
use Rattle.alias_ranges.specs.Ranges.{MarksAreDefinite, ListsFlows}
use Rattle.alias_range_pass.specs.Refusals.{recorded}
use Rattle.alias_range_pass.specs.places.Causes.{InstructionCause}
use Rattle.alias_range_pass.specs.summary.Laws.{MutationCause}
use Rattle.alias_range_pass.specs.summary.Walking.{mutation_entry}
use Rattle.alias_graph.specs.Legal.{Legal}
use Rattle.alias_graph.specs.Nodes.{Nodes}
use Rattle.alias_graph.specs.Reach.{end_at}
use Rattle.alias_graph.specs.Walks.{IsOneOf}
use Rattle.alias_graph.specs.declared.types.Entry.{Entry}

-- it is none of the function's context places, whose ranges are reset once the function is inferred
abbrev pub IsNoContext : HirFunction → IdentifierId → Type 0
IsNoContext f id = has_place id f.context ≡ false

-- where a legal path joins a recorded mutation to an identifier, the mutation's order is below the end of its range
abbrev pub CoversOwn : HirFunction → Nodes → List RecordedMutation → List Identifier → Type 0
CoversOwn f g ms ids = (m : RecordedMutation) → IsOneOf m ms → (e : Entry) → Legal g m.index (mutation_entry m) e
    → IsNoContext f e.id → m.order.0 < end_at ids e.id.0

-- at each moment on a path of blocks, where an effect writes an object, the range of each identifier that reaches the
-- object ends past the instruction
abbrev pub EndsPastOwnWrites : HirFunction → List Identifier → Type 0
EndsPastOwnWrites f ids =
    (m : Moment f) (o : Object) → Writes (history_at m) m.next o → (y : IdentifierId) → Reaches (history_at m) y o
    → IsNoContext f y → m.order.0 < end_at ids y.0

-- that holds of a forward function that makes each place at most once, and before another is aliased into it
abbrev pub CoversOwnHeap : HirFunction → List Identifier → Type 0
CoversOwnHeap f ids = is_forward f ≡ true → makes_once f ≡ true → EndsPastOwnWrites f ids

-- the range end of an identifier that stands in the function is unset, or one past a recorded mutation that a legal
-- path joins to the identifier, or one
-- past an instruction that assigns or stores it
abbrev pub CausesOwn : HirFunction → Nodes → List RecordedMutation → Environment → Type 0
CausesOwn f g ms env =
    (id : IdentifierId) → stands_in env f id ≡ true → IsNoContext f id
    → (end_at env.identifiers id.0 ≡ 0) ⊎ (MutationCause g ms id.0 (end_at env.identifiers id.0)
    ⊎ InstructionCause f.instructions id.0 (end_at env.identifiers id.0))

-- What holds of a nested function, as its range pass begins, in the unit that is handed out: of range ends but for
-- context places, of the marks of its walks, and of the summary of the function in its slot, which ends with the flows.
pub record NestedRanged (f : HirFunction) (env : Environment) (slot : Option HirFunction) : Type 0 where
  pub cover : IsOkAnd (recorded f) (λ l. CoversOwn f (graph_listed l) l.mutations env.identifiers)
  pub definite : MarksAreDefinite true f env
  pub heap : CoversOwnHeap f env.identifiers
  pub cause : IsOkAnd (recorded f) (λ l. CausesOwn f (graph_listed l) l.mutations env)
  pub flows : IsSomeAnd slot (λ g. IsSomeAnd g.aliasing_effects (ListsFlows f))

-- so it is of each function that was analysed but the root, which has no number
abbrev pub NestedAreRanged : UnitAnalysis → Type 0
NestedAreRanged a =
    (x : Analysed) (id : FunctionId) → IsOneOf x a.functions → x.solved.function ≡ Some id
    → NestedRanged (with_effects x) a.inferred.unit.env (slice_get a.inferred.unit.env.functions id.0)
