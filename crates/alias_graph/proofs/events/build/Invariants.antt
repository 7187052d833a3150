use Rattle.std.proofs.Common.{◌≡◌, drop, fold}
use Rattle.alias_graph.specs.Graph.{after, graph_of}
use Rattle.alias_graph.specs.Events.{events_of}
use Rattle.alias_graph.specs.KnownLinks.{AllKnown}
use Rattle.alias_graph.proofs.events.build.Given as goal

abbrev pub invariant-loop-event : goal.invariant-loop-event
invariant-loop-event l = (fold after l.graph (events_of (drop l.event-index l.events)) ≡ graph_of (events_of l.events))
    × AllKnown l.known l.graph
