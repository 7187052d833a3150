-- The graph of a list of events, as the links of the list that remain.
use Rattle.std.specs.Prelude.{Bool, true, false, cond, ◌&&◌, ◌||◌, List, [], ◌∷◌, ◌++◌, Option, Some, None}
use Rattle.std.specs.Prelude.{option_to_list, fold}
use Rattle.std.specs.List.{list_any}
use Rattle.alias_base.specs.declared.ids.IdentifierId.{IdentifierId}
use Rattle.alias_graph.specs.declared.types.EdgeKind.{EdgeKind}
use Rattle.alias_graph.specs.declared.types.EdgeKind.TheVariants.{Capture, Alias, MaybeAlias}
use Rattle.alias_graph.specs.declared.types.NodeValue.{NodeValue}
use Rattle.alias_graph.specs.declared.types.NodeValue.TheVariants.{Object}
use Rattle.alias_graph.specs.Nodes.{Edge}
use Rattle.alias_graph.specs.Nodes.{Source}
use Rattle.alias_graph.specs.Nodes.{Node}
use Rattle.alias_graph.specs.Nodes.{same_id}
use Rattle.alias_graph.specs.Graph.{Event, made, created_out, joined, edge, source, noted}

-- the event makes the node of the identifier
abbrev pub makes : IdentifierId → Event → Bool
makes id (made at value) = same_id id at
makes id (created_out index from into) = same_id id into
makes id (joined kind index from into) = false

abbrev pub was_made : IdentifierId → List Event → Bool
was_made id events = list_any (makes id) events

-- the link that an event would put into a list, where these events are before it
abbrev pub Own : Type 0 → Type 0
Own A = List Event → Event → Option A

abbrev pub when : {A : Type 0} → Bool → A → Option A
when b x = cond b (Some x) None

abbrev pub edge_own : IdentifierId → Own Edge
edge_own id before (made at value) = None
edge_own id before (created_out index from into) =
    when (same_id id from && (same_id id into || was_made id before)) (edge index into Alias)
edge_own id before (joined kind index from into) =
    when (same_id id from && (was_made from before && was_made into before)) (edge index into kind)

abbrev pub created_own : IdentifierId → Own Source
created_own id before (made at value) = None
created_own id before (created_out index from into) = when (same_id id into) (source index from)
created_own id before (joined kind index from into) = None

abbrev pub same_kind : EdgeKind → EdgeKind → Bool
same_kind Capture Capture = true
same_kind Alias Alias = true
same_kind MaybeAlias MaybeAlias = true
same_kind j k = false

abbrev pub source_own : EdgeKind → IdentifierId → Own Source
source_own want id before (made at value) = None
source_own want id before (created_out index from into) = None
source_own want id before (joined kind index from into) =
    when (same_kind want kind && (same_id id into && (was_made from before && was_made into before)))
    (source index from)

-- the links that remain: those after which the node isn't made again
abbrev pub remaining : {A : Type 0} → Own A → IdentifierId → List Event → List Event → List A
remaining own id before [] = []
remaining own id before (e ∷ later) = cond (was_made id later) (remaining own id (before ++ e ∷ []) later)
    (option_to_list (own before e) ++ remaining own id (before ++ e ∷ []) later)

-- of several with the same ends the first
abbrev pub firsts : List Source → List Source
firsts ss = fold (λ done s. noted s done) [] ss

abbrev pub value_after : IdentifierId → NodeValue → Event → NodeValue
value_after id old (made at value) = cond (same_id id at) value old
value_after id old (created_out index from into) = cond (same_id id into) Object old
value_after id old (joined kind index from into) = old

-- the value of the last make
abbrev pub last_value : IdentifierId → List Event → NodeValue
last_value id events = fold (value_after id) Object events

abbrev pub remaining_node : List Event → IdentifierId → Node
remaining_node events id = record {
  value = last_value id events;
  local = None;
  transitive = None;
  last_mutated = None;
  mutation_reason = None;
  forward = remaining (edge_own id) id [] events;
  created_from = firsts (remaining (created_own id) id [] events);
  captures = firsts (remaining (source_own Capture id) id [] events);
  aliases = firsts (remaining (source_own Alias id) id [] events);
  maybe_aliases = firsts (remaining (source_own MaybeAlias id) id [] events);
}

abbrev pub remaining_at : List Event → IdentifierId → Option Node
remaining_at events id = when (was_made id events) (remaining_node events id)
