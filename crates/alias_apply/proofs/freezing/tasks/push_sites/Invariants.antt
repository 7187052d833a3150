use Rattle.std.proofs.Common.{◌≡◌, ◌≤◌, ◌++◌, length, drop}
use Rattle.alias_apply.specs.freezing.Tasks.{stacked_sites}
use Rattle.alias_apply.proofs.freezing.tasks.push_sites.Given as goal

abbrev pub invariant-sites : goal.invariant-sites
invariant-sites l = (l.left ≤ length l.sites)
    × (l.stack.items ≡ l.initial.stack.items ++ stacked_sites (drop l.left l.sites))

abbrev pub decreases-sites : goal.decreases-sites
decreases-sites l = l.left
