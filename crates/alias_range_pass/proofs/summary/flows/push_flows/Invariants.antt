use Rattle.std.proofs.Common.{◌≡◌, ◌+◌, ◌++◌, ◌≤◌, drop, length}
use Rattle.alias_graph.specs.Nodes.{Within}
use Rattle.alias_range_pass.specs.summary.Flows.{flows_listed}
use Rattle.alias_range_pass.proofs.summary.flows.push_flows.Given as goal

abbrev pub invariant-loop-into : goal.invariant-loop-into
invariant-loop-into l =
    (l.summary ++ flows_listed l.graph l.index l.returns l.places (drop l.into-index l.places) ≡ l.initial.summary
    ++ flows_listed l.initial.graph l.first l.returns l.places l.places)
    × (l.index + length (drop l.into-index l.places) ≤ 4294967295)
    × Within (length l.env.identifiers) l.graph
    × (l.env ≡ l.initial.env)
