use Rattle.std.proofs.Common.{ap, ◌∙◌}
use Rattle.alias_graph.specs.Graph.{changed}
use Rattle.alias_graph.specs.Flat.{without_last_edge}
use Rattle.alias_graph.proofs.Undoing.{edge_dropped}
use Rattle.alias_graph.proofs.adjacency.put_created.Goals as goal

pub returns-clause-err : goal.returns-clause-err
returns-clause-err c =
    edge_dropped c.args.nodes.now c.add_edge.new.nodes c.drop_edge.new.nodes c.args.link.from c.args.slot
    c.in_ok-add_edge.ensures.ok (c.drop_edge.ensures
    ∙ ap (λ z. changed z c.args.link.from without_last_edge) c.in-Err.ensures.err)
