-- The walks of a function's mutations and renders.
use Rattle.std.specs.Prelude.{◌+◌, Bool, cond, List, [], Some, fold}
use Rattle.alias_base.specs.declared.ids.EvaluationOrder.{EvaluationOrder}
use Rattle.alias_hir.specs.declared.env.Environment.{Environment}
use Rattle.alias_hir.specs.ReportNumbers.{effect_reports}
use Rattle.alias_graph.specs.declared.types.Direction.TheVariants.{Backwards}
use Rattle.alias_graph.specs.declared.types.Entry.{Entry}
use Rattle.alias_graph.specs.declared.types.Origin.{Origin}
use Rattle.alias_graph.specs.Links.{entry, walk}
use Rattle.alias_graph.specs.NodeMarks.{marked, origin}
use Rattle.alias_graph.specs.Nodes.{Nodes}
use Rattle.alias_graph.specs.Renders.{rendered, render_reports}
use Rattle.alias_graph.specs.Reports.{walked, with_reports}
use Rattle.alias_graph.specs.declared.recorded.listing.Listing.{Listing}
use Rattle.alias_graph.specs.declared.recorded.listing.RecordedMutation.{RecordedMutation}
use Rattle.alias_graph.specs.declared.recorded.listing.RecordedRender.{RecordedRender}
use Rattle.alias_graph.specs.recorded.Recording.{graph_listed}
use Rattle.alias_range_pass.specs.declared.summary.start.WalkStart.{WalkStart}

-- ---- one walk

-- backwards, with the flag and the kind
abbrev pub start_entry : WalkStart → Entry
start_entry s = entry s.place.identifier s.transitive Backwards s.kind

abbrev pub start_origin : WalkStart → Origin
start_origin s = origin s.place.span s.reason

-- the entries that the walk expands
abbrev pub expanded : Nodes → WalkStart → List Entry
expanded g s = (walk g s.index (start_entry s)).done

-- the nodes after the walk
abbrev pub nodes_after : WalkStart → Nodes → Nodes
nodes_after s g = marked s.index (start_origin s) g (expanded g s)

-- the environment after the walk
abbrev pub env_after : Bool → WalkStart → Nodes → Environment → Environment
env_after record_errors s g env = walked record_errors s.index (start_origin s) s.end g (expanded g s) env

-- ---- mutations

-- one past the instruction
abbrev pub mutation_end : RecordedMutation → EvaluationOrder
mutation_end m = record { 0 = m.order.0 + 1 }

-- the walk of a mutation
abbrev pub mutation_start : RecordedMutation → WalkStart
mutation_start m = record {
  index = m.index;
  place = m.place;
  transitive = m.transitive;
  kind = m.kind;
  reason = m.reason;
  end = Some (mutation_end m);
}

-- the entry that a mutation begins with
abbrev pub mutation_entry : RecordedMutation → Entry
mutation_entry m = start_entry (mutation_start m)

abbrev pub Walked : Type 0
Walked = Nodes × Environment

abbrev pub after_mutation : Bool → Walked → RecordedMutation → Walked
after_mutation record_errors w m = (
  nodes_after (mutation_start m) w.0,
  env_after record_errors (mutation_start m) w.0 w.1,
)

-- after the walks of these mutations
abbrev pub after_mutations : Bool → List RecordedMutation → Walked → Walked
after_mutations record_errors ms w = fold (after_mutation record_errors) w ms

-- ---- renders

abbrev pub after_render : Nodes → Environment → RecordedRender → Environment
after_render g env r = with_reports (render_reports env g (rendered g r.index r.place.identifier).done) env

-- after these renders
abbrev pub after_renders : Nodes → List RecordedRender → Environment → Environment
after_renders g rs env = fold (after_render g) env rs

-- ---- a listing

-- with the reports of error effects, where errors are recorded
abbrev pub env_reported : Bool → Listing → Environment → Environment
env_reported record_errors l env = with_reports (cond record_errors (effect_reports env.interned l.summary) []) env

-- the graph and the environment after the walks of all mutations
abbrev pub mutations_done : Bool → Listing → Environment → Walked
mutations_done record_errors l env = after_mutations record_errors l.mutations
    (graph_listed l, env_reported record_errors l env)

-- renders run where errors are recorded
abbrev pub renders_done : Bool → Listing → Walked → Environment
renders_done record_errors l w = cond record_errors (after_renders w.0 l.renders w.1) w.1
