use Rattle.std.proofs.Common.{length, sym, subst}
use Rattle.alias_graph.specs.Flat.{AllBelow}
use Rattle.alias_graph.proofs.Waiting.{fit_index, listed_fits, search_none, search_list}
use Rattle.alias_graph.proofs.search.search_pending.Goals as goal

pub returns-in-None : goal.returns-in-None
returns-in-None g c = search_none c.args.links.now c.args.nodes.now c.args.seen.now c.args.index c.args.pending
    c.args.steps.now c.in-None.ensures

pub search_slots-requires-clause-slots : goal.search_slots-requires-clause-slots
search_slots-requires-clause-slots g c =
    let fits = fit_index (length c.args.links.now) c.args.nodes.now c.args.pending.slot c.in-Some.field-0-0.now
    c.in-Some.node.now c.requires.fit c.in-Some.ensures in
    subst (AllBelow (length c.args.links.now)) (sym c.slots_of-slots.ensures)
    (listed_fits (length c.args.links.now) c.args.pending.list c.in-Some.node.now fits)

pub returns-in-Some : goal.returns-in-Some
returns-in-Some g c =
    search_list c.args.links.now c.args.nodes.now c.args.seen.now c.args.index c.args.pending c.in-Some.field-0-0.now
    c.in-Some.node.now c.slots_of-slots.result.now c.search_slots.result.0 c.args.steps.now c.search_slots.new.steps
    c.search_slots.result.1
    c.in-Some.ensures c.slots_of-slots.ensures c.search_slots.ensures
