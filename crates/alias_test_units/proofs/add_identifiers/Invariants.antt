use Rattle.std.proofs.Common.{◌≡◌, ◌+◌, length}
use Rattle.alias_test_units.proofs.add_identifiers.Given as goal

-- one identifier for each number so far
abbrev pub invariant-loop-number : goal.invariant-loop-number
invariant-loop-number l = length l.env.identifiers ≡ length l.initial.env.identifiers + l.number
