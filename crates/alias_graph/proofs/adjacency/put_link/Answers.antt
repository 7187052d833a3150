use Rattle.std.proofs.Common.{ap, sym, ◌∙◌, subst, length}
use Rattle.alias_graph.specs.Graph.{changed}
use Rattle.alias_graph.specs.Flat.{AllFit, without_last_edge}
use Rattle.alias_graph.proofs.KnownLinks.{first_beside}
use Rattle.alias_graph.proofs.Undoing.{edge_dropped}
use Rattle.alias_graph.proofs.adjacency.put_link.Goals as goal

pub returns-in-Err-clause-err : goal.returns-in-Err-clause-err
returns-in-Err-clause-err c =
    edge_dropped c.args.nodes.now c.add_edge.new.nodes c.drop_edge.new.nodes c.args.link.from c.args.slot
    c.in_ok-add_edge.ensures.ok (c.drop_edge.ensures
    ∙ ap (λ z. changed z c.args.link.from without_last_edge) c.in-Err.ensures.err)

pub returns-in-Err-clause-fits : goal.returns-in-Err-clause-fits
returns-in-Err-clause-fits c = subst (AllFit (length c.args.links.now)) (sym (returns-in-Err-clause-err c))
    c.requires.fit

pub add_source-requires-clause-new : goal.add_source-requires-clause-new
add_source-requires-clause-new c = λ is.
    first_beside c.args.links.now c.args.slot c.args.nodes.now c.add_edge.new.nodes c.args.link.from c.args.link.into
    c.args.link.kind c.in_ok-add_edge.ensures.ok (c.requires.new is)
