-- What holds of range ends, marks and flows, by legal paths.
use Rattle.std.specs.Prelude.{◌≡◌, ℕ, ◌+◌, ◌<◌, ◌⊎◌, List, [], ◌∷◌, ◌++◌}
use Rattle.alias_base.specs.declared.ids.IdentifierId.{IdentifierId}
use Rattle.alias_hir.specs.declared.effect.AliasingEffect.{AliasingEffect}
use Rattle.alias_hir.specs.declared.env.Identifier.{Identifier}
use Rattle.alias_hir.specs.declared.place.Place.{Place}
use Rattle.alias_graph.specs.declared.types.Entry.{Entry}
use Rattle.alias_graph.specs.declared.types.MutationKind.TheVariants.{Definite}
use Rattle.alias_graph.specs.Legal.{Legal}
use Rattle.alias_graph.specs.Nodes.{Nodes}
use Rattle.alias_graph.specs.Reach.{end_at, SeenDefinite}
use Rattle.alias_graph.specs.Walks.{IsOneOf}
use Rattle.alias_graph.proofs.Shapes.{shape_at}
use Rattle.alias_graph.specs.declared.recorded.listing.RecordedMutation.{RecordedMutation}
use Rattle.alias_range_pass.specs.summary.Flows.{flow_start, flow_effect}
use Rattle.alias_range_pass.specs.summary.Walking.{start_entry, mutation_entry}

-- the same nodes and links, whatever their marks
pub record SameLinks (g h : Nodes) : Type 0 where
  pub shapes : (id : IdentifierId) → shape_at h id ≡ shape_at g id

-- ---- walks

-- where a legal path joins a recorded mutation to a node, the mutation's order is below the end of the node's range
abbrev pub Covers : Nodes → List RecordedMutation → List Identifier → Type 0
Covers g ms ids = (m : RecordedMutation) → IsOneOf m ms → (e : Entry) → Legal g m.index (mutation_entry m) e → m.order.0
    < end_at ids e.id.0

-- where such a path ends with Definite, the node is marked as Definite after the walks
abbrev pub SeesDefinite : Nodes → List RecordedMutation → Nodes → Type 0
SeesDefinite g ms after = (m : RecordedMutation) → IsOneOf m ms → (e : Entry) → Legal g m.index (mutation_entry m) e
    → e.kind ≡ Definite → SeenDefinite after e.id

-- the end is one past a recorded mutation that a legal path joins to the identifier
abbrev pub MutationCause : Nodes → List RecordedMutation → ℕ → ℕ → Type 0
MutationCause g ms k end = (m : RecordedMutation) × IsOneOf m ms × (e : Entry) × (e.id.0 ≡ k)
    × Legal g m.index (mutation_entry m) e × (end ≡ m.order.0 + 1)

-- each range end is that of before, or has such a cause
abbrev pub MutationCauses : Nodes → List RecordedMutation → List Identifier → List Identifier → Type 0
MutationCauses g ms old new = (k : ℕ) → (end_at new k ≡ end_at old k) ⊎ MutationCause g ms k (end_at new k)

-- ---- flows

-- a flow from one place into another: they are different, the first is not what is returned, and a legal path of the
-- walk that is simulated from the second leads to the first
pub record IsFlow (g : Nodes) (index : ℕ) (returns into from : Place) : Type 0 where
  pub different : from.identifier.0 ≡ into.identifier.0 → ⊥
  pub not_returned : from.identifier.0 ≡ returns.identifier.0 → ⊥
  pub path : (e : Entry) × (e.id.0 ≡ from.identifier.0) × Legal g index (start_entry (flow_start index into)) e

-- the effects are the flows into a place from these places, in order
abbrev pub FlowsInto : Nodes → ℕ → Place → Place → List Place → List AliasingEffect → Type 0
FlowsInto g index returns into [] es = es ≡ []
FlowsInto g index returns into (from ∷ froms) es =
    (IsFlow g index returns into from × (rest : List AliasingEffect) × (es ≡ flow_effect returns from into ∷ rest)
    × FlowsInto g index returns into froms rest)
    ⊎ ((IsFlow g index returns into from → ⊥) × FlowsInto g index returns into froms es)

-- the effects are the flows into these places from all tracked ones, in order, each walk at a position of its own
abbrev pub FlowsAre : Nodes → ℕ → Place → List Place → List Place → List AliasingEffect → Type 0
FlowsAre g index returns places [] es = es ≡ []
FlowsAre g index returns places (into ∷ intos) es =
    (here : List AliasingEffect) × (rest : List AliasingEffect) × (es ≡ here ++ rest)
    × FlowsInto g index returns into places here × FlowsAre g (index + 1) returns places intos rest

-- a summary ends with these flows
abbrev pub EndsWithFlows : Nodes → ℕ → Place → List Place → List AliasingEffect → Type 0
EndsWithFlows g index returns places summary = (front : List AliasingEffect) × (flows : List AliasingEffect)
    × (summary ≡ front ++ flows) × FlowsAre g index returns places places flows
