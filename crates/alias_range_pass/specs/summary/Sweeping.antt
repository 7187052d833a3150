-- The sweep that raises range ends, and the walks that leave marks in the part of the graph that is seen.
use Rattle.std.specs.Prelude.{◌≡◌, Bool, true, IsTrue, List, None, fold, map}
use Rattle.alias_base.specs.declared.ids.IdentifierId.{IdentifierId}
use Rattle.alias_hir.specs.declared.hir.HirFunction.{HirFunction}
use Rattle.alias_hir.specs.declared.place.Place.{Place}
use Rattle.alias_graph.specs.declared.types.RangeWalk.{RangeWalk}
use Rattle.alias_graph.specs.Nodes.{Nodes, has_node}
use Rattle.alias_graph.specs.Parts.{SamePart}
use Rattle.alias_graph.specs.Walks.{IsOneOf}
use Rattle.alias_graph.specs.declared.recorded.listing.RecordedMutation.{RecordedMutation}
use Rattle.alias_range_pass.specs.declared.summary.start.WalkStart.{WalkStart}
use Rattle.alias_range_pass.specs.summary.Summaries.{context_and_params}
use Rattle.alias_range_pass.specs.summary.Walking.{Walked, nodes_after, env_after, mutation_end, mutation_start}

-- what a mutation raises
abbrev pub range_walk : RecordedMutation → RangeWalk
range_walk m = record {
  index = m.index;
  start = m.place.identifier;
  transitive = m.transitive;
  kind = m.kind;
  end = mutation_end m;
}

-- the walk of a mutation whose range ends are raised
abbrev pub mark_start : RecordedMutation → WalkStart
mark_start m = record (mutation_start m) { end = None }

abbrev pub after_mark : Bool → Walked → RecordedMutation → Walked
after_mark record_errors w m = (nodes_after (mark_start m) w.0, env_after record_errors (mark_start m) w.0 w.1)

-- after the walks of these mutations, which raise no range end
abbrev pub after_marks : Bool → List RecordedMutation → Walked → Walked
after_marks record_errors ms w = fold (after_mark record_errors) w ms

abbrev pub identifier_of : Place → IdentifierId
identifier_of x = x.identifier

-- the identifiers whose marks a summary tells of
abbrev pub summarized_ids : HirFunction → List IdentifierId
summarized_ids f = map identifier_of (context_and_params f)

-- the second graph is the first, cut off to a part in which these identifiers are
pub record IsPart (ids : List IdentifierId) (whole part : Nodes) : Type 0 where
  pub keep : IdentifierId → Bool
  pub same : SamePart keep whole part
  pub kept : (id : IdentifierId) → IsOneOf id ids → IsTrue (has_node whole id) → keep id ≡ true
