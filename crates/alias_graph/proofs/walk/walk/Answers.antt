use Rattle.std.proofs.Common.{◌+◌, ap, sym, ◌∙◌, subst, arith, replicate, length}
use Rattle.alias_hir.specs.declared.env.Environment.{Environment}
use Rattle.alias_graph.specs.Flat.{AllFit, nodes_of, stored_visited}
use Rattle.alias_graph.specs.Links.{step_to}
use Rattle.alias_graph.specs.NodeMarks.{range_visited}
use Rattle.alias_graph.specs.Reports.{walked}
use Rattle.alias_graph.specs.Seen.{nothing_seen}
use Rattle.alias_graph.specs.Waiting.{waiting}
use Rattle.alias_graph.proofs.Few.{marked_fit}
use Rattle.alias_graph.proofs.Flats.{length_of_nodes, all_fit_changed, fit_visited}
use Rattle.alias_graph.proofs.ReportLaws.{with_identifiers, tells_more, tells_nothing, stopped_first, stopped_later}
use Rattle.alias_graph.proofs.ReportLaws.{pops_within, refused}
use Rattle.alias_graph.proofs.Searching.{none_left, begun, came, expanded, next_slot, next_has, next_below, next_done}
use Rattle.alias_graph.proofs.Searching.{next_few}
use Rattle.alias_graph.proofs.Size.{done_few}
use Rattle.alias_graph.proofs.Walking.{walking_size, walking_ranges, walking_few, ended_nodes, ended_popped, walk_is}
use Rattle.alias_graph.proofs.walk.walk.Goals as goal

pub walk-init : goal.walk-init
walk-init g c =
    let q = begun c.args.env.now.identifiers c.args.index c.args.origin c.args.end c.args.start c.args.links.now
    c.args.nodes.now c.begin.new.self.seen c.begin.new.self.stack.items c.first_new-next.result c.args.steps.now
    c.first_new-next.new.steps
    (c.in_ok-begin.ensures.seen ∙ ap (λ n. replicate n nothing_seen) c.len.ensures) c.in_ok-begin.ensures.stack
    c.first_new-next.ensures in (
      0 + q.passed,
      omega (arith, q.steps_are),
      q.walking,
      q.comes,
      omega (arith, c.in_ok-begin.ensures.empty),
      omega (arith, c.in_ok-begin.ensures.room, c.len.ensures),
      c.requires.fit.within,
      tells_nothing c.args.should_record_errors c.args.index c.args.origin c.args.end
          (nodes_of c.args.links.now c.args.nodes.now) c.args.env.now
          ∙ ap (λ d. walked c.args.should_record_errors c.args.index c.args.origin c.args.end
          (nodes_of c.args.links.now c.args.nodes.now) d c.args.env.now) (sym q.done_are),
    )

pub note-requires : goal.note-requires
note-requires g c = next_below (nodes_of c.args.links.now c.args.nodes.now) c.args.env.now.identifiers c.args.index
    c.args.origin c.args.end c.args.start c.args.links.now c.walk.nodes c.walk.env.identifiers c.walk.scratch.seen
    (waiting c.args.links.now c.walk.nodes c.args.index c.walk.scratch.stack.items) c.walk.next c.in-Some.found
    c.walk.invariant.0 c.in-Some.is c.walk.invariant.2 c.walk.invariant.3

pub visit-requires-clause-found : goal.visit-requires-clause-found
visit-requires-clause-found g c = next_slot (nodes_of c.args.links.now c.args.nodes.now) c.args.env.now.identifiers
    c.args.index c.args.origin c.args.end c.args.start c.args.links.now c.walk.nodes c.walk.env.identifiers
    c.walk.scratch.seen (waiting c.args.links.now c.walk.nodes c.args.index c.walk.scratch.stack.items) c.walk.next
    c.in-Some.found c.walk.invariant.0 c.in-Some.is c.walk.invariant.2 c.walk.invariant.3

pub visit-requires-clause-room : goal.visit-requires-clause-room
visit-requires-clause-room g c =
    let few = done_few (nodes_of c.args.links.now c.args.nodes.now) c.args.index c.args.start
    (c.walk.invariant.0 + 1) in
    let more = ap length (next_done (nodes_of c.args.links.now c.args.nodes.now) c.args.env.now.identifiers c.args.index
    c.args.origin c.args.end c.args.start c.args.links.now c.walk.nodes c.walk.env.identifiers c.walk.scratch.seen
    (waiting c.args.links.now c.walk.nodes c.args.index c.walk.scratch.stack.items) c.walk.next c.in-Some.found
    c.walk.invariant.0 c.in-Some.is c.walk.invariant.2 c.walk.invariant.3) in
    let size = length_of_nodes c.args.links.now c.args.nodes.now in
    omega (arith, few, more, size, c.walk.invariant.4, c.walk.invariant.5)

pub visit_range-requires : goal.visit_range-requires
visit_range-requires g c =
    let below = c.requires.ranges c.in-Some.found.entry.id
    (next_has (nodes_of c.args.links.now c.args.nodes.now) c.args.env.now.identifiers c.args.index c.args.origin
    c.args.end c.args.start c.args.links.now c.walk.nodes c.walk.env.identifiers c.walk.scratch.seen
    (waiting c.args.links.now c.walk.nodes c.args.index c.walk.scratch.stack.items) c.walk.next c.in-Some.found
    c.walk.invariant.0 c.in-Some.is c.walk.invariant.2 c.walk.invariant.3) in
    let len = walking_ranges _ _ _ _ _ _ _ _ _ _ _ c.walk.invariant.2 in
    let kept = ap (λ (z : Environment). length z.identifiers) c.in_ok-report_node_at.ensures.ok in
    omega arith

pub next_new-next-requires-clause-size : goal.next_new-next-requires-clause-size
next_new-next-requires-clause-size g c =
    let more = expanded (nodes_of c.args.links.now c.args.nodes.now) c.args.env.now.identifiers c.args.index
    c.args.origin c.args.end c.args.start c.args.links.now c.walk.nodes c.walk.env.identifiers c.walk.scratch.seen
    c.walk.scratch.stack.items c.walk.next c.in-Some.found c.walk.invariant.0 c.in-Some.is c.walk.invariant.2
    c.walk.invariant.3
    c.visit.new.nodes c.visit_range.new.identifiers c.note.new.self c.visit.new.stack.items
    c.visit.ensures.nodes
    (c.visit_range.ensures ∙ ap (λ (z : Environment). range_visited c.args.end c.in-Some.found.entry.id z.identifiers)
    c.in_ok-report_node_at.ensures.ok)
    c.note.ensures
    c.visit.ensures.items in
    walking_size _ _ _ _ _ _ _ _ _ _ _ more ∙ length_of_nodes c.args.links.now c.visit.new.nodes

pub next_new-next-requires-clause-fit : goal.next_new-next-requires-clause-fit
next_new-next-requires-clause-fit g c = subst (AllFit (length c.args.links.now)) (sym c.visit.ensures.nodes)
    (all_fit_changed (length c.args.links.now) (stored_visited c.args.index c.args.origin c.in-Some.found.entry)
    (λ n fits. fit_visited (length c.args.links.now) c.args.index c.args.origin c.in-Some.found.entry n fits)
    c.walk.nodes c.in-Some.found.entry.id c.walk.invariant.6)

pub walk-smaller : goal.walk-smaller
walk-smaller g c =
    let more = expanded (nodes_of c.args.links.now c.args.nodes.now) c.args.env.now.identifiers c.args.index
    c.args.origin c.args.end c.args.start c.args.links.now c.walk.nodes c.walk.env.identifiers c.walk.scratch.seen
    c.walk.scratch.stack.items c.walk.next c.in-Some.found c.walk.invariant.0 c.in-Some.is c.walk.invariant.2
    c.walk.invariant.3
    c.visit.new.nodes c.visit_range.new.identifiers c.note.new.self c.visit.new.stack.items
    c.visit.ensures.nodes
    (c.visit_range.ensures ∙ ap (λ (z : Environment). range_visited c.args.end c.in-Some.found.entry.id z.identifiers)
    c.in_ok-report_node_at.ensures.ok)
    c.note.ensures
    c.visit.ensures.items in
    let q = came (nodes_of c.args.links.now c.args.nodes.now) c.args.env.now.identifiers c.args.index c.args.origin
    c.args.end c.args.start c.args.links.now c.visit.new.nodes c.visit_range.new.identifiers c.note.new.self
    (waiting c.args.links.now c.visit.new.nodes c.args.index c.visit.new.stack.items)
    (waiting c.args.links.now c.visit.new.nodes c.args.index c.next_new-next.new.stack.items)
    c.next_new-next.result (c.walk.invariant.0 + 1) c.tick.new.self c.next_new-next.new.steps more
    c.next_new-next.ensures.found in
    let few = next_few (nodes_of c.args.links.now c.args.nodes.now) c.args.env.now.identifiers c.args.index
    c.args.origin c.args.end c.args.start c.args.links.now c.walk.nodes c.walk.env.identifiers c.walk.scratch.seen
    (waiting c.args.links.now c.walk.nodes c.args.index c.walk.scratch.stack.items) c.walk.next c.in-Some.found
    c.walk.invariant.0 c.in-Some.is c.walk.invariant.2 c.walk.invariant.3 in
    omega (arith, few, q.steps_are, c.walk.invariant.1, c.tick.ensures)

pub walk-preserved : goal.walk-preserved
walk-preserved g c =
    let more = expanded (nodes_of c.args.links.now c.args.nodes.now) c.args.env.now.identifiers c.args.index
    c.args.origin c.args.end c.args.start c.args.links.now c.walk.nodes c.walk.env.identifiers c.walk.scratch.seen
    c.walk.scratch.stack.items c.walk.next c.in-Some.found c.walk.invariant.0 c.in-Some.is c.walk.invariant.2
    c.walk.invariant.3
    c.visit.new.nodes c.visit_range.new.identifiers c.note.new.self c.visit.new.stack.items
    c.visit.ensures.nodes
    (c.visit_range.ensures ∙ ap (λ (z : Environment). range_visited c.args.end c.in-Some.found.entry.id z.identifiers)
    c.in_ok-report_node_at.ensures.ok)
    c.note.ensures
    c.visit.ensures.items in
    let q = came (nodes_of c.args.links.now c.args.nodes.now) c.args.env.now.identifiers c.args.index c.args.origin
    c.args.end c.args.start c.args.links.now c.visit.new.nodes c.visit_range.new.identifiers c.note.new.self
    (waiting c.args.links.now c.visit.new.nodes c.args.index c.visit.new.stack.items)
    (waiting c.args.links.now c.visit.new.nodes c.args.index c.next_new-next.new.stack.items)
    c.next_new-next.result (c.walk.invariant.0 + 1) c.tick.new.self c.next_new-next.new.steps more
    c.next_new-next.ensures.found in
    let dones = q.done_are ∙ next_done (nodes_of c.args.links.now c.args.nodes.now) c.args.env.now.identifiers
    c.args.index c.args.origin c.args.end c.args.start c.args.links.now c.walk.nodes c.walk.env.identifiers
    c.walk.scratch.seen (waiting c.args.links.now c.walk.nodes c.args.index c.walk.scratch.stack.items) c.walk.next
    c.in-Some.found c.walk.invariant.0 c.in-Some.is c.walk.invariant.2 c.walk.invariant.3 in
    let longer = ap length dones in (
      c.walk.invariant.0 + 1 + q.passed,
      omega (arith, q.steps_are, c.walk.invariant.1, c.tick.ensures),
      q.walking,
      q.comes,
      omega (arith, longer, c.walk.invariant.4, c.visit.ensures.len, c.next_new-next.ensures.len),
      omega (arith, c.walk.invariant.5, c.visit.ensures.capacity, c.next_new-next.ensures.capacity),
      subst (AllFit (length c.args.links.now)) (sym c.visit.ensures.nodes)
          (all_fit_changed (length c.args.links.now) (stored_visited c.args.index c.args.origin c.in-Some.found.entry)
          (λ n fits. fit_visited (length c.args.links.now) c.args.index c.args.origin c.in-Some.found.entry n fits)
          c.walk.nodes c.in-Some.found.entry.id c.walk.invariant.6),
      ap (λ xs. with_identifiers xs c.report_node_at.new.env) c.visit_range.ensures
          ∙ tells_more c.args.should_record_errors c.args.index c.args.origin c.args.end
          (nodes_of c.args.links.now c.args.nodes.now) c.args.env.now
          (step_to (nodes_of c.args.links.now c.args.nodes.now) c.args.index c.args.start c.walk.invariant.0).done
          c.walk.env c.walk.invariant.7 c.in-Some.found.entry c.args.links.now c.walk.nodes
          c.walk.invariant.2.nodes_are c.report_node_at.new.env c.in_ok-report_node_at.ensures.ok
          ∙ ap (λ d. walked c.args.should_record_errors c.args.index c.args.origin c.args.end
          (nodes_of c.args.links.now c.args.nodes.now) d c.args.env.now) (sym dones),
    )

pub returns-clause-nodes : goal.returns-clause-nodes
returns-clause-nodes g c = ended_nodes _ _ _ _ _ _ _ _ _ _ _ c.walk.invariant.2
    (none_left _ _ _ _ c.in_default.is c.walk.invariant.3)

pub returns-clause-fit : goal.returns-clause-fit
returns-clause-fit g c = marked_fit c.args.links.now c.args.nodes.now c.walk.nodes c.args.index c.args.origin
    (step_to (nodes_of c.args.links.now c.args.nodes.now) c.args.index c.args.start c.walk.invariant.0).done
    c.requires.fit c.walk.invariant.6 c.walk.invariant.2.nodes_are

pub returns-in_err-report_node_at-clause-fit : goal.returns-in_err-report_node_at-clause-fit
returns-in_err-report_node_at-clause-fit g c =
    marked_fit c.args.links.now c.args.nodes.now c.walk.nodes c.args.index c.args.origin
    (step_to (nodes_of c.args.links.now c.args.nodes.now) c.args.index c.args.start c.walk.invariant.0).done
    c.requires.fit c.walk.invariant.6 c.walk.invariant.2.nodes_are

pub returns-clause-env : goal.returns-clause-env
returns-clause-env g c =
    c.walk.invariant.7
    ∙ ap (λ w. walked c.args.should_record_errors c.args.index c.args.origin c.args.end
    (nodes_of c.args.links.now c.args.nodes.now) w.done c.args.env.now)
    (sym (walk_is _ _ _ _ _ _ _ _ _ _ _ c.walk.invariant.2 (none_left _ _ _ _ c.in_default.is c.walk.invariant.3)))

pub returns-clause-steps : goal.returns-clause-steps
returns-clause-steps g c = c.walk.invariant.1
    ∙ ap (λ k. c.args.steps.now + k) (ended_popped _ _ _ _ _ _ _ _ _ _ _ c.walk.invariant.2
    (none_left _ _ _ _ c.in_default.is c.walk.invariant.3))

pub returns-clause-bound : goal.returns-clause-bound
returns-clause-bound g c =
    let few = walking_few _ _ _ _ _ _ _ _ _ _ _ c.walk.invariant.2 in
    let counted = c.walk.invariant.1 in
    omega arith

pub returns-in_err-report_node_at-clause-bound : goal.returns-in_err-report_node_at-clause-bound
returns-in_err-report_node_at-clause-bound g c =
    let few = walking_few _ _ _ _ _ _ _ _ _ _ _ c.walk.invariant.2 in
    let counted = c.walk.invariant.1 in
    omega arith

pub returns-in_err-begin-clause-stopped : goal.returns-in_err-begin-clause-stopped
returns-in_err-begin-clause-stopped g c =
    refused _ (stopped_first c.args.should_record_errors c.args.index c.args.origin c.args.end
    (nodes_of c.args.links.now c.args.nodes.now) c.args.start c.args.env.now c.args.steps.now)

pub returns-in_err-report_node_at-clause-stopped : goal.returns-in_err-report_node_at-clause-stopped
returns-in_err-report_node_at-clause-stopped g c =
    let few = walking_few _ _ _ _ _ _ _ _ _ _ _ c.walk.invariant.2 in
    refused _ (stopped_later c.args.should_record_errors c.args.index c.args.origin c.args.end
    (nodes_of c.args.links.now c.args.nodes.now) c.args.start c.args.env.now c.args.steps.now c.walk.invariant.0
    c.walk.steps c.walk.env c.report_node_at.new.env c.in-Some.found.entry c.args.links.now c.walk.nodes
    c.walk.invariant.7
    c.walk.invariant.2.nodes_are
    (next_done (nodes_of c.args.links.now c.args.nodes.now) c.args.env.now.identifiers c.args.index c.args.origin
    c.args.end c.args.start c.args.links.now c.walk.nodes c.walk.env.identifiers c.walk.scratch.seen
    (waiting c.args.links.now c.walk.nodes c.args.index c.walk.scratch.stack.items) c.walk.next c.in-Some.found
    c.walk.invariant.0 c.in-Some.is c.walk.invariant.2 c.walk.invariant.3)
    (pops_within (nodes_of c.args.links.now c.args.nodes.now) c.args.index c.args.start c.walk.invariant.0 (omega arith)
    c.walk.invariant.2.popped_is)
    c.walk.invariant.1
    c.in_err-report_node_at.ensures.recording
    c.in_err-report_node_at.ensures.err
    c.in_err-report_node_at.ensures.front)
