use Rattle.std.proofs.Common.{◌≡◌, length}
use Rattle.std.specs.Prelude.{None}
use Rattle.std.specs.Ordering.{nat_cmp}
use Rattle.alias_plain.specs.laws.UnsureFlow.{entered_from}
use Rattle.alias_lattice.specs.WalkLaws.{left_after}
use Rattle.alias_plain.proofs.sure.entered.Given as goal

-- the ways that are left lead where all of them do
abbrev pub invariant-ways : goal.invariant-ways
invariant-ways l = entered_from l.blocks l.phis l.so_far (left_after nat_cmp l.after l.state)
    ≡ entered_from l.blocks l.phis None l.state

abbrev pub decreases-ways : goal.decreases-ways
decreases-ways l = length (left_after nat_cmp l.after l.state)
