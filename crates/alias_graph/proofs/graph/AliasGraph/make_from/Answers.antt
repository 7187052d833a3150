use Rattle.std.proofs.Common.{ap, ◌∙◌, refl}
use Rattle.alias_graph.specs.Graph.{made_from}
use Rattle.alias_graph.specs.Nodes.{has_node}
use Rattle.alias_graph.proofs.Within.{made_more}
use Rattle.alias_graph.proofs.Few.{created_fit, link_fits}
use Rattle.alias_graph.proofs.Undoing.{created_fits_there, created_there}
use Rattle.alias_graph.proofs.graph.AliasGraph.make_from.Goals as goal

pub invariant_of-self-2 : goal.invariant_of-self-2
invariant_of-self-2 c =
    let fit = created_fits_there c.self.inside.links c.push.new.self c.self.inside.nodes c.put_created.new.nodes _
    c.len-slot.result c.self.invariant.within c.in_ok-push.ensures.items c.len-slot.ensures
    c.in_ok-put_created.ensures.ok in
    created_fit c.self.inside.links c.push.new.self c.self.inside.nodes c.put_created.new.nodes _ c.self.invariant
    c.in_ok-push.ensures.items fit c.args.from c.args.into c.len-slot.result c.in_ok-put_created.ensures.ok

pub invariant_of-self-in_err-put_created : goal.invariant_of-self-in_err-put_created
invariant_of-self-in_err-put_created c =
    link_fits c.self.inside.links c.push.new.self c.self.inside.nodes c.put_created.new.nodes _ c.self.invariant
    c.in_ok-push.ensures.items c.in_err-put_created.ensures.err

pub returns-clause-ok : goal.returns-clause-ok
returns-clause-ok c =
    created_there c.self.inside.links c.push.new.self c.self.inside.nodes c.put_created.new.nodes _ c.len-slot.result
    c.self.invariant.within c.in_ok-push.ensures.items c.len-slot.ensures c.in_ok-put_created.ensures.ok refl
    ∙ ap (λ g. made_from g c.args.index c.args.from c.args.into) c.self.view_is

pub returns-clause-nodes : goal.returns-clause-nodes
returns-clause-nodes c = λ id. ap (λ z. has_node z id) (returns-clause-ok c)
    ∙ made_more c.args.self.now c.args.index c.args.from c.args.into id
