use Rattle.std.proofs.Common.{subst, sym}
use Rattle.alias_graph.specs.Flat.{AllBelow}
use Rattle.alias_graph.proofs.Flats.{fit_set, fit_at, below_push}
use Rattle.alias_graph.proofs.adjacency.add_edge.Goals as goal

pub returns-in_ok-push-clause-fits : goal.returns-in_ok-push-clause-fits
returns-in_ok-push-clause-fits c = λ n lt h.
    let f = fit_at n c.args.nodes.now c.args.link.from c.in-Some.at c.in-Some-get_index_mut.node.now h
    (sym c.in-Some.ensures) c.in-Some-get_index_mut.ensures.value in
    fit_set n c.args.nodes.now c.in-Some.at _ (record {
      forward = subst (AllBelow n) (sym c.in_ok-push.ensures.items)
          (below_push n c.in-Some-get_index_mut.node.now.forward c.args.slot lt f.forward);
      created_from = f.created_from;
      captures = f.captures;
      aliases = f.aliases;
      maybe_aliases = f.maybe_aliases;
    }) h
