use Rattle.std.proofs.Common.{◌≡◌, drop}
use Rattle.alias_plain.specs.laws.UnsureFlow.{without_members}
use Rattle.alias_plain.proofs.sure.take_out.Given as goal

-- those that are left lead where all of them do
abbrev pub invariant-loop-number : goal.invariant-loop-number
invariant-loop-number l = without_members (drop l.number-index l.numbers) l.set
    ≡ without_members l.numbers l.initial.set
