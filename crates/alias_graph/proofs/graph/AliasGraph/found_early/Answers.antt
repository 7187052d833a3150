use Rattle.std.proofs.Common.{ap, ◌∙◌}
use Rattle.alias_graph.specs.Flat.{sources_at}
use Rattle.alias_graph.specs.KnownLinks.{found_early, sources_into}
use Rattle.alias_graph.proofs.KnownLinks.{early_at_node, early_nowhere}
use Rattle.alias_graph.proofs.graph.AliasGraph.found_early.Goals as goal

pub returns-in-Some : goal.returns-in-Some
returns-in-Some c =
    c.found_early.ensures
    ∙ ap (λ links. found_early c.args.from (sources_at links c.sources_of.result.now)) c.as_slice.ensures
    ∙ ap (λ ps. found_early c.args.from (sources_at c.self.inside.links ps)) c.sources_of.ensures
    ∙ early_at_node c.self.inside.links c.self.inside.nodes c.args.from c.args.into c.args.kind c.in-Some.node.now
    c.in-Some.ensures
    ∙ ap (λ g. found_early c.args.from (sources_into g c.args.into c.args.kind)) c.self.view_is

pub returns-in-None : goal.returns-in-None
returns-in-None c =
    early_nowhere c.self.inside.links c.self.inside.nodes c.args.from c.args.into c.args.kind c.in-None.ensures
    ∙ ap (λ g. found_early c.args.from (sources_into g c.args.into c.args.kind)) c.self.view_is
