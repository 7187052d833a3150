use Rattle.std.proofs.Common.{[], ◌∷◌, ◌++◌, ap, sym, ◌∙◌, subst}
use Rattle.alias_graph.specs.declared.types.StoredLink.{StoredLink}
use Rattle.alias_graph.specs.Nodes.{has_node}
use Rattle.alias_graph.specs.Graph.{has_source}
use Rattle.alias_graph.specs.KnownLinks.{sources_into}
use Rattle.alias_graph.specs.Flat.{IsFirst, stored_sources_into, with_forward_slot, with_source_slot}
use Rattle.alias_graph.proofs.KnownLinks.{still_first}
use Rattle.alias_graph.proofs.Within.{joined_same}
use Rattle.alias_graph.proofs.graph.AliasGraph.join.Goals as goal

pub returns-in_ok-put_link-clause-nodes : goal.returns-in_ok-put_link-clause-nodes
returns-in_ok-put_link-clause-nodes c = λ id.
    joined_same c.self.inside.links c.push.new.self c.self.inside.nodes c.put_link.new.nodes c.args.from c.args.into
    (with_forward_slot c.len-slot.result) (with_source_slot c.args.kind c.as_slice.result.now c.len-slot.result)
    c.in_ok-put_link.ensures.ok id
    ∙ ap (λ z. has_node z id) c.self.view_is

pub put_link-requires-clause-new : goal.put_link-requires-clause-new
put_link-requires-clause-new c = λ is.
    let l : StoredLink = record {
      index = c.args.index;
      from = c.args.from;
      into = c.args.into;
      kind = c.args.kind;
      from_hint = c.at.result;
      into_hint = c.at-in-Some.result;
    } in
    let ps = stored_sources_into c.self.inside.nodes c.args.into c.args.kind in
    subst (λ links. IsFirst links c.len-slot.result ps) (sym (c.as_slice.ensures ∙ c.in_ok-push.ensures.items))
    (subst (λ n. IsFirst (c.self.inside.links ++ l ∷ []) n ps) (sym c.len-slot.ensures)
    (still_first c.self.inside.links l c.self.inside.nodes c.self.invariant.within
    (ap (λ g. has_source c.args.from (sources_into g c.args.into c.args.kind)) c.self.view_is ∙ c.requires is)))
