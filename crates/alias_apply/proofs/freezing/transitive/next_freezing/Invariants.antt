use Rattle.std.proofs.Common.{◌≡◌}
use Rattle.alias_apply.specs.freezing.Contexts.{context_of}
use Rattle.alias_apply.specs.freezing.Tasks.{finish, weight}
use Rattle.alias_apply.proofs.freezing.transitive.next_freezing.Given as goal

abbrev pub invariant-tasks : goal.invariant-tasks
invariant-tasks l = finish (context_of l.env) l.fn.reason l.initial.stack.items l.state
    ≡ finish (context_of l.env) l.fn.reason l.stack.items l.state

abbrev pub decreases-tasks : goal.decreases-tasks
decreases-tasks l = weight (context_of l.env) l.stack.items
