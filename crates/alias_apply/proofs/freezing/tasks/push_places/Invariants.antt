use Rattle.std.proofs.Common.{◌≡◌, ◌≤◌, ◌++◌, length, drop}
use Rattle.alias_apply.specs.freezing.Tasks.{stacked_places}
use Rattle.alias_apply.proofs.freezing.tasks.push_places.Given as goal

abbrev pub invariant-places : goal.invariant-places
invariant-places l = (l.left ≤ length l.places)
    × (l.stack.items ≡ l.initial.stack.items ++ stacked_places (drop l.left l.places))

abbrev pub decreases-places : goal.decreases-places
decreases-places l = l.left
