use Rattle.std.proofs.Common.{◌≡◌}
use Rattle.alias_apply.specs.freezing.Contexts.{context_of}
use Rattle.alias_apply.specs.freezing.Transitive.{frozen_transitively, live}
use Rattle.alias_apply.specs.freezing.TransitiveLaws.{Sorted}
use Rattle.alias_apply.specs.freezing.Tasks.{finish}
use Rattle.alias_apply.proofs.freezing.transitive.freeze_transitively.Given as goal

abbrev pub invariant-freezings : goal.invariant-freezings
invariant-freezings l = Sorted l.state × (finish (context_of l.env) l.reason l.stack.items l.state
    ≡ frozen_transitively l.reason (context_of l.env) l.fn.site l.fn.state)

abbrev pub decreases-freezings : goal.decreases-freezings
decreases-freezings l = live l.state.values
