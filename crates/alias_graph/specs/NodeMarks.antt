-- What a walk leaves at the nodes and at the identifiers.
use Rattle.std.specs.Prelude.{ℕ, max, Bool, true, false, List, [], ◌∷◌, Option, Some, None, slice_get, slice_set}
use Rattle.std.specs.Option.{option_map_or}
use Rattle.alias_base.specs.declared.ids.IdentifierId.{IdentifierId}
use Rattle.alias_base.specs.declared.ids.EvaluationOrder.{EvaluationOrder}
use Rattle.alias_hir.specs.declared.effect.MutationReason.{MutationReason}
use Rattle.alias_hir.specs.declared.env.Environment.{Environment}
use Rattle.alias_hir.specs.declared.env.Identifier.{Identifier}
use Rattle.alias_hir.specs.declared.place.Span.{Span}
use Rattle.alias_graph.specs.declared.types.MutationKind.{MutationKind}
use Rattle.alias_graph.specs.declared.types.MutationKind.TheVariants.{Conditional, Definite}
use Rattle.alias_graph.specs.declared.types.MutationInfo.{MutationInfo}
use Rattle.alias_graph.specs.declared.types.Origin.{Origin}
use Rattle.alias_graph.specs.declared.types.Entry.{Entry}
use Rattle.alias_graph.specs.Nodes.{Node, Nodes}
use Rattle.alias_graph.specs.Graph.{changed}

-- the greater of the two positions
abbrev pub later : ℕ → Option ℕ → Option ℕ
later index None = Some index
later index (Some old) = Some (max old index)

-- the first reason stays
abbrev pub first_reason : Option MutationReason → Option MutationReason → Option MutationReason
first_reason reason None = reason
first_reason reason (Some old) = Some old

-- the mark stays where it is as high
abbrev pub higher : MutationInfo → MutationKind → MutationKind → MutationInfo → MutationInfo
higher info Definite Conditional old = info
higher info Definite Definite old = old
higher info Conditional k old = old

abbrev pub remarked : MutationInfo → Option MutationInfo → Option MutationInfo
remarked info None = Some info
remarked info (Some old) = Some (higher info info.kind old.kind old)

abbrev pub info : MutationKind → Option Span → MutationInfo
info kind span = record { kind = kind; span = span }

-- the transitive or the local mark
abbrev pub marked_by : Bool → MutationInfo → Node → Node
marked_by true i n = record n { transitive = remarked i n.transitive }
marked_by false i n = record n { local = remarked i n.local }

abbrev pub visited : ℕ → Origin → Entry → Node → Node
visited index origin e n = record (marked_by e.transitive (info e.kind origin.span) n)
    { last_mutated = later index n.last_mutated; mutation_reason = first_reason origin.reason n.mutation_reason }

-- the nodes after a walk that expanded these entries, the latest first
abbrev pub marked : ℕ → Origin → Nodes → List Entry → Nodes
marked index origin g [] = g
marked index origin g (e ∷ es) = changed (marked index origin g es) e.id (visited index origin e)

-- the range ends no earlier
abbrev pub raised : EvaluationOrder → Identifier → Identifier
raised end x = record x {
  mutable_range =
      record x.mutable_range { end = record { 0 = max x.mutable_range.end.0 end.0 } };
}

abbrev pub raised_at : List Identifier → ℕ → EvaluationOrder → List Identifier
raised_at xs i end = option_map_or (λ x. slice_set xs i (raised end x)) (slice_get xs i) xs

-- a given end raises the range of the identifier
abbrev pub range_visited : Option EvaluationOrder → IdentifierId → List Identifier → List Identifier
range_visited None id xs = xs
range_visited (Some end) id xs = raised_at xs id.0 end

-- the identifiers after a walk that expanded these entries, the latest first
abbrev pub ranges_after : Option EvaluationOrder → List Identifier → List Entry → List Identifier
ranges_after end xs [] = xs
ranges_after end xs (e ∷ es) = range_visited end e.id (ranges_after end xs es)

abbrev pub origin : Option Span → Option MutationReason → Origin
origin span reason = record { span = span; reason = reason }

-- the environment with these range ends, and nothing else changed
abbrev pub with_ranges : Option EvaluationOrder → List Entry → Environment → Environment
with_ranges end es env = record env { identifiers = ranges_after end env.identifiers es }
