use Rattle.std.proofs.Common.{◌∙◌}
use Rattle.alias_graph.proofs.Flats.{length_of_nodes}
use Rattle.alias_graph.proofs.Raising.{raising_begins, raising_below, raising_within, raising_less, raising_new_size}
use Rattle.alias_graph.proofs.Raising.{raising_goes_on, raising_swept, raising_covered, raising_cause, raising_rise}
use Rattle.alias_graph.proofs.raise.raise_from.Goals as goal

pub first_new-next-requires : goal.first_new-next-requires
first_new-next-requires g c = c.requires.table.size ∙ length_of_nodes c.args.links.now c.args.nodes.now

pub raise-init : goal.raise-init
raise-init g c =
    raising_begins c.args.links.now c.args.nodes.now c.args.walk c.args.identifiers.now c.range_entry-start.result
    c.args.scratch.now.seen c.clear.new.self.items c.first_new-next.result c.args.steps.now
    c.first_new-next.new.steps
    c.range_entry-start.ensures c.clear.ensures.items c.requires.table c.first_new-next.ensures

pub note-requires : goal.note-requires
note-requires g c = raising_below c.args.links.now c.args.nodes.now c.args.walk c.args.identifiers.now
    c.raise.identifiers c.raise.scratch.seen c.raise.scratch.stack.items c.raise.next c.raise.invariant c.in-Some.found
    c.in-Some.is c.requires.ranges

pub visit_range-requires : goal.visit_range-requires
visit_range-requires g c = raising_within c.args.links.now c.args.nodes.now c.args.walk c.args.identifiers.now
    c.raise.identifiers c.raise.scratch.seen c.raise.scratch.stack.items c.raise.next c.raise.invariant c.in-Some.found
    c.in-Some.is c.requires.ranges

pub next_new-next-requires-clause-size : goal.next_new-next-requires-clause-size
next_new-next-requires-clause-size g c =
    raising_new_size c.args.links.now c.args.nodes.now c.args.walk c.args.identifiers.now c.raise.identifiers
    c.raise.scratch.seen c.raise.scratch.stack.items c.raise.next c.raise.invariant c.in-Some.found c.in-Some.is
    c.requires.ranges c.note.new.self c.note.ensures

pub raise-smaller : goal.raise-smaller
raise-smaller g c = raising_less c.args.links.now c.args.nodes.now c.args.walk c.args.identifiers.now
    c.raise.identifiers c.raise.scratch.seen c.raise.scratch.stack.items c.raise.next c.raise.invariant c.in-Some.found
    c.in-Some.is c.requires.ranges c.note.new.self c.note.ensures

pub raise-preserved : goal.raise-preserved
raise-preserved g c =
    raising_goes_on c.args.links.now c.args.nodes.now c.args.walk c.args.identifiers.now c.raise.identifiers
    c.raise.scratch.seen c.raise.scratch.stack.items c.raise.next c.raise.invariant c.in-Some.found c.in-Some.is
    c.requires.ranges c.note.new.self c.note.ensures
    c.visit_range.new.identifiers c.put_links.new.stack.items c.next_new-next.new.stack.items c.next_new-next.result
    c.raise.steps c.next_new-next.new.steps
    c.visit_range.ensures (cc) c.next_new-next.ensures.found

pub returns-clause-table : goal.returns-clause-table
returns-clause-table g c = raising_swept c.args.links.now c.args.nodes.now c.args.walk c.args.identifiers.now
    c.raise.identifiers c.raise.scratch.seen c.raise.scratch.stack.items c.raise.next c.raise.invariant c.in_default.is

pub returns-clause-covered : goal.returns-clause-covered
returns-clause-covered g c = raising_covered c.args.links.now c.args.nodes.now c.args.walk c.args.identifiers.now
    c.raise.identifiers c.raise.scratch.seen c.raise.scratch.stack.items c.raise.next c.raise.invariant c.in_default.is

pub returns-clause-cause : goal.returns-clause-cause
returns-clause-cause g c = raising_cause c.args.links.now c.args.nodes.now c.args.walk c.args.identifiers.now
    c.raise.identifiers c.raise.scratch.seen c.raise.scratch.stack.items c.raise.next c.raise.invariant

pub returns-clause-rise : goal.returns-clause-rise
returns-clause-rise g c = raising_rise c.args.links.now c.args.nodes.now c.args.walk c.args.identifiers.now
    c.raise.identifiers c.raise.scratch.seen c.raise.scratch.stack.items c.raise.next c.raise.invariant
