use Rattle.std.proofs.Common.{◌≡◌, ◌++◌, drop, fold, length}
use Rattle.alias_graph.specs.Nodes.{Within}
use Rattle.alias_lint.specs.WalkLints.{after_walk, mutation_lints}
use Rattle.alias_lint.proofs.lines.walks.push_mutations.Given as goal

abbrev pub invariant-loop-mutation : goal.invariant-loop-mutation
invariant-loop-mutation l =
    (fold after_walk l.graph (drop l.mutation-index l.mutations) ≡ fold after_walk l.initial.graph l.mutations)
    × (l.lints ++ mutation_lints l.env l.func l.graph (drop l.mutation-index l.mutations) ≡ l.initial.lints
    ++ mutation_lints l.initial.env l.func l.initial.graph l.mutations)
    × (l.env ≡ l.initial.env)
    × Within (length l.env.identifiers) l.graph
