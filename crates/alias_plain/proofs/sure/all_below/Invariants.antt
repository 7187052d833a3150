use Rattle.std.proofs.Common.{◌≡◌, ◌-◌, []}
use Rattle.std.specs.List.{range_with_len}
use Rattle.alias_plain.specs.laws.UnsureFlow.{with_members}
use Rattle.alias_plain.proofs.sure.all_below.Given as goal

-- those that are left lead where all of them do
abbrev pub invariant-loop-number : goal.invariant-loop-number
invariant-loop-number l = with_members (range_with_len l.number (l.count - l.number)) l.set
    ≡ with_members (range_with_len 0 l.count) []
