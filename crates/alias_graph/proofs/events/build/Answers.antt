use Rattle.std.proofs.Common.{◌≤◌, ap, sym, ◌∙◌, fold, length, arith}
use Rattle.std.proofs.Math.ListN.{drop_of_length-le}
use Rattle.alias_graph.specs.Graph.{after}
use Rattle.alias_graph.specs.Events.{events_of}
use Rattle.alias_graph.specs.Nodes.{node_at}
use Rattle.alias_graph.proofs.RemainingNodes.{graph_is_remaining}
use Rattle.alias_graph.proofs.events.build.Goals as goal

pub returns-clause-remaining : goal.returns-clause-remaining
returns-clause-remaining c = λ id.
    let done : length c.args.events.now ≤ c.loop-event.event-index = omega arith in
    ap (λ g. node_at g id) (sym (ap (λ z. fold after c.loop-event.graph (events_of z))
    (drop_of_length-le c.args.events.now done)) ∙ c.loop-event.invariant.0)
    ∙ graph_is_remaining (events_of c.args.events.now) id

pub apply-requires : goal.apply-requires
apply-requires c = c.loop-event.invariant.1
