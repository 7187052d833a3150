use Rattle.std.proofs.Common.{ap, ◌∙◌, subst}
use Rattle.alias_graph.specs.Cutting.{IsClosed, cut_to}
use Rattle.alias_graph.specs.Flat.{nodes_of}
use Rattle.alias_graph.specs.Parts.{CutOff}
use Rattle.alias_graph.proofs.Cutting.{cut_links_fit, cut_is}
use Rattle.alias_graph.proofs.graph.AliasGraph.cut_off.Goals as goal

pub invariant_of-self : goal.invariant_of-self
invariant_of-self c = cut_links_fit c.self.inside.links c.as_slice-2.result.now c.self.inside.nodes c.cut_to.new.nodes
    c.self.invariant c.cut_to.ensures

pub returns-clause-cut : goal.returns-clause-cut
returns-clause-cut c =
    subst (λ z. CutOff c.args.should_record_errors c.args.env.now c.args.targets.now z
    (nodes_of c.self.inside.links c.cut_to.new.nodes)) c.self.view_is
    (cut_is c.args.should_record_errors c.args.env.now c.args.targets.now c.self.inside.links c.self.inside.nodes
    c.cut_to.new.nodes c.in_ok-flags.flags.items
    c.in_ok-flags.ensures.size
    (subst (λ z. IsClosed z c.self.inside.nodes c.in_ok-flags.flags.items) c.as_slice.ensures
    c.in_ok-flags.ensures.closed)
    c.in_ok-flags.ensures.there
    c.in_ok-flags.ensures.quiet
    (c.cut_to.ensures ∙ ap (λ z. cut_to z c.self.inside.nodes) c.as_slice-2.ensures.value))
