use Rattle.std.proofs.Common.{◌≡◌, drop, length}
use Rattle.alias_graph.specs.Nodes.{Within}
use Rattle.alias_range_pass.specs.summary.Keeping.{WalksKeep}
use Rattle.alias_range_pass.specs.summary.Sweeping.{after_marks}
use Rattle.alias_range_pass.proofs.summary.walking.mark_mutations.Given as goal

abbrev pub invariant-loop-mutation : goal.invariant-loop-mutation
invariant-loop-mutation l =
    (after_marks l.should_record_errors (drop l.mutation-index l.mutations) (l.graph, l.env)
    ≡ after_marks l.should_record_errors l.mutations (l.initial.graph, l.initial.env))
    × Within (length l.env.identifiers) l.graph
    × WalksKeep l.initial.env l.env
