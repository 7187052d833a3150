use Rattle.std.proofs.Common.{length}
use Rattle.alias_graph.proofs.Waiting.{fit_index}
use Rattle.alias_graph.proofs.part.spread.Goals as goal

pub flag_neighbours-requires-clause-fits : goal.flag_neighbours-requires-clause-fits
flag_neighbours-requires-clause-fits c =
    fit_index (length c.args.links.now) c.args.nodes.now c.in-Some.slot c.in-Some-get_index.field-0-0.now
    c.in-Some-get_index.node.now c.requires.fit c.in-Some-get_index.ensures
