use Rattle.std.proofs.Common.{ap, ◌∙◌}
use Rattle.alias_graph.specs.Nodes.{has_node, with_node}
use Rattle.alias_graph.specs.Graph.{created}
use Rattle.alias_graph.specs.Flat.{nodes_of, stored_fresh}
use Rattle.alias_graph.proofs.Flats.{with_node_of}
use Rattle.alias_graph.proofs.Few.{make_fits}
use Rattle.alias_graph.proofs.Within.{created_more}
use Rattle.alias_graph.proofs.graph.AliasGraph.make.Goals as goal

pub invariant_of-self-2 : goal.invariant_of-self-2
invariant_of-self-2 c = make_fits c.self.inside.links c.self.inside.nodes _ c.args.id _ c.args.value c.self.invariant
    c.fresh-node.ensures c.in_ok-insert.ensures.entries

pub returns-clause-nodes : goal.returns-clause-nodes
returns-clause-nodes c = λ id.
    ap (λ z. has_node z id) (
    ap (nodes_of c.self.inside.links) (c.in_ok-insert.ensures.entries
    ∙ ap (with_node c.self.inside.nodes c.args.id) c.fresh-node.ensures)
    ∙ with_node_of c.self.inside.links c.self.inside.nodes c.args.id (stored_fresh c.args.value)
    ∙ ap (λ z. created z c.args.id c.args.value) c.self.view_is
    )
    ∙ created_more c.args.self.now c.args.id c.args.value id
