use Rattle.std.proofs.Common.{◌≡◌, drop}
use Rattle.alias_plain.specs.Held.{held}
use Rattle.alias_plain.specs.laws.UnsureFlow.{through_all}
use Rattle.alias_plain.proofs.sure.through_all.Given as goal

-- the instructions that are left lead where all of them do
abbrev pub invariant-loop-id : goal.invariant-loop-id
invariant-loop-id l = through_all (held l.scope) (drop l.id-index l.ids) l.set
    ≡ through_all (held l.scope) l.ids l.initial.set
