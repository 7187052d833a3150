use Rattle.std.proofs.Common.{◌≡◌, ◌≤◌, drop, length, map, reverse}
use Rattle.alias_range_pass.specs.summary.Sweeping.{range_walk}
use Rattle.alias_range_pass.proofs.summary.walking.range_walks.Given as goal

abbrev pub invariant-walks : goal.invariant-walks
invariant-walks l = (l.walks ≡ map range_walk (reverse (drop l.left l.mutations))) × (l.left ≤ length l.mutations)

abbrev pub decreases-walks : goal.decreases-walks
decreases-walks l = l.left
