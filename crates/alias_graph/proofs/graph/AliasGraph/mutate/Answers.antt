use Rattle.std.proofs.Common.{ap, sym, ◌∙◌, subst}
use Rattle.alias_graph.specs.declared.types.Direction.TheVariants.{Backwards}
use Rattle.alias_graph.specs.declared.types.Entry.{Entry}
use Rattle.alias_graph.specs.Links.{entry, walk}
use Rattle.alias_graph.specs.NodeMarks.{marked, origin}
use Rattle.alias_graph.specs.Reports.{walked, Stopped}
use Rattle.alias_hir.specs.declared.env.Environment.{Environment}
use Rattle.alias_graph.specs.Reach.{Covered, Caused, Marks, Kinds, Flows}
use Rattle.alias_graph.specs.Flat.{nodes_of}
use Rattle.alias_graph.specs.Nodes.{has_node}
use Rattle.alias_graph.proofs.ReportLaws.{refused}
use Rattle.alias_graph.proofs.Within.{marked_same}
use Rattle.alias_graph.proofs.Flowing.{walk_flows}
use Rattle.alias_graph.proofs.MarkKinds.{walk_kinds}
use Rattle.alias_graph.proofs.Effects.{walk_visits, walk_covered, walk_caused, walk_marks}
use Rattle.alias_graph.proofs.graph.AliasGraph.mutate.Goals as goal

pub returns-clause-env : goal.returns-clause-env
returns-clause-env g c =
    let s : Entry = entry c.args.start c.args.transitive Backwards c.args.start_kind in
    let o = origin c.args.span c.args.reason in
    c.in_ok-walk.ensures.env
    ∙ ap (λ l. walked c.args.should_record_errors c.args.index o c.args.end (nodes_of l c.self.inside.nodes)
    (walk (nodes_of l c.self.inside.nodes) c.args.index s).done c.args.env.now) c.as_slice.ensures
    ∙ ap (λ z. walked c.args.should_record_errors c.args.index o c.args.end z (walk z c.args.index s).done
    c.args.env.now) c.self.view_is

pub returns-in_err-walk-clause-stopped : goal.returns-in_err-walk-clause-stopped
returns-in_err-walk-clause-stopped g c =
    let s : Entry = entry c.args.start c.args.transitive Backwards c.args.start_kind in
    let o = origin c.args.span c.args.reason in
    refused _ (
    subst (λ z. Stopped c.args.should_record_errors c.args.index o c.args.end z s c.args.env.now c.args.steps.now
    (nodes_of c.self.inside.links c.walk.new.nodes) c.walk.new.env c.walk.new.steps) c.self.view_is
    (subst (λ l. Stopped c.args.should_record_errors c.args.index o c.args.end (nodes_of l c.self.inside.nodes) s
    c.args.env.now c.args.steps.now (nodes_of l c.walk.new.nodes) c.walk.new.env c.walk.new.steps)
    c.as_slice.ensures c.in_err-walk.ensures.stopped))

pub returns-clause-nodes : goal.returns-clause-nodes
returns-clause-nodes g c =
    let s : Entry = entry c.args.start c.args.transitive Backwards c.args.start_kind in
    let o = origin c.args.span c.args.reason in
    sym (ap (λ l. nodes_of l c.walk.new.nodes) c.as_slice.ensures)
    ∙ c.in_ok-walk.ensures.nodes
    ∙ ap (λ l. marked c.args.index o (nodes_of l c.self.inside.nodes)
    (walk (nodes_of l c.self.inside.nodes) c.args.index s).done) c.as_slice.ensures
    ∙ ap (λ z. marked c.args.index o z (walk z c.args.index s).done) c.self.view_is

pub returns-clause-visits : goal.returns-clause-visits
returns-clause-visits g c = walk_visits c.args.self.now c.args.index
    (entry c.args.start c.args.transitive Backwards c.args.start_kind) (origin c.args.span c.args.reason)

pub returns-clause-covered : goal.returns-clause-covered
returns-clause-covered g c =
    let s : Entry = entry c.args.start c.args.transitive Backwards c.args.start_kind in
    subst (Covered c.args.self.now c.args.index s c.args.end)
    (sym (ap (λ (z : Environment). z.identifiers) (returns-clause-env g c)))
    (walk_covered c.args.self.now c.args.index s (origin c.args.span c.args.reason) c.args.end
    c.args.env.now.identifiers c.requires)

pub returns-clause-caused : goal.returns-clause-caused
returns-clause-caused g c =
    let s : Entry = entry c.args.start c.args.transitive Backwards c.args.start_kind in
    subst (Caused c.args.self.now c.args.index s c.args.end c.args.env.now.identifiers)
    (sym (ap (λ (z : Environment). z.identifiers) (returns-clause-env g c)))
    (walk_caused c.args.self.now c.args.index s (origin c.args.span c.args.reason) c.args.end
    c.args.env.now.identifiers)

pub returns-clause-marks : goal.returns-clause-marks
returns-clause-marks g c =
    subst (Marks c.args.self.now c.args.index (entry c.args.start c.args.transitive Backwards c.args.start_kind))
    (sym (returns-clause-nodes g c))
    (walk_marks c.args.self.now c.args.index (entry c.args.start c.args.transitive Backwards c.args.start_kind)
    (origin c.args.span c.args.reason))

pub returns-clause-flows : goal.returns-clause-flows
returns-clause-flows g c = λ before.
    subst (Flows c.args.self.now c.args.index (entry c.args.start c.args.transitive Backwards c.args.start_kind))
    (sym (returns-clause-nodes g c))
    (walk_flows c.args.index (origin c.args.span c.args.reason) c.args.self.now before
    (entry c.args.start c.args.transitive Backwards c.args.start_kind))

pub returns-clause-kept : goal.returns-clause-kept
returns-clause-kept g c = λ id.
    ap (λ z. has_node z id) (returns-clause-nodes g c)
    ∙ marked_same c.args.index (origin c.args.span c.args.reason) c.args.self.now
    (walk c.args.self.now c.args.index (entry c.args.start c.args.transitive Backwards c.args.start_kind)).done id

pub returns-clause-kinds : goal.returns-clause-kinds
returns-clause-kinds g c =
    subst (Kinds c.args.self.now c.args.index (entry c.args.start c.args.transitive Backwards c.args.start_kind)
    c.args.span) (sym (returns-clause-nodes g c))
    (walk_kinds c.args.self.now c.args.index (entry c.args.start c.args.transitive Backwards c.args.start_kind)
    (origin c.args.span c.args.reason))
