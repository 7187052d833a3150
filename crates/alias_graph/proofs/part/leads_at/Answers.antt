use Rattle.std.proofs.Common.{length}
use Rattle.alias_graph.proofs.Waiting.{fit_index}
use Rattle.alias_graph.proofs.part.leads_at.Goals as goal

pub leads-requires-clause-fits : goal.leads-requires-clause-fits
leads-requires-clause-fits c = fit_index (length c.args.links.now) c.args.nodes.now c.args.slot c.in-Some.field-0-0.now
    c.in-Some.node.now c.requires.fit c.in-Some.ensures
