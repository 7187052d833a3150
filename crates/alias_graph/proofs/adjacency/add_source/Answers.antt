use Rattle.std.proofs.Common.{sym}
use Rattle.alias_graph.proofs.KnownLinks.{first_there}
use Rattle.alias_graph.proofs.adjacency.add_source.Goals as goal

pub note_source-requires-clause-new : goal.note_source-requires-clause-new
note_source-requires-clause-new c = λ is.
    first_there c.args.links.now c.args.slot c.args.nodes.now c.args.link.into c.args.link.kind c.in-Some.at
    c.in-Some-get_index_mut.node.now (sym c.in-Some.ensures) c.in-Some-get_index_mut.ensures.value
    (c.requires.new is)
