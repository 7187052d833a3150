use Rattle.std.proofs.Common.{◌+◌, false, length, ap, sym, ◌∙◌, subst}
use Rattle.alias_graph.specs.declared.types.MutationKind.TheVariants.{Definite}
use Rattle.alias_graph.specs.declared.types.Direction.TheVariants.{Backwards}
use Rattle.alias_graph.specs.Links.{entry, walk}
use Rattle.alias_graph.specs.Nodes.{Within}
use Rattle.alias_graph_tests.proofs.TwoPhis.{two_phis_pops, two_phis_within}
use Rattle.alias_graph_tests.proofs.walks.pops.Goals as goal

pub mutate-requires : goal.mutate-requires
mutate-requires g c = subst (Within (length c.args.env.now.identifiers)) (sym c.in_ok-graph.ensures.graph)
    (two_phis_within (length c.args.env.now.identifiers) c.requires)

pub returns : goal.returns
returns g c =
    c.in_ok-mutate.ensures.steps
    ∙ ap (λ z. c.args.steps.now + (walk z 4 (entry (record { 0 = 3 }) false Backwards Definite)).popped)
    c.in_ok-graph.ensures.graph
    ∙ ap (λ n. c.args.steps.now + n) two_phis_pops
