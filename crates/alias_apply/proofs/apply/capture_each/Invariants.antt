use Rattle.std.proofs.Common.{◌≡◌, drop}
use Rattle.alias_apply.specs.Apply.{capture_each}
use Rattle.alias_apply.specs.Contexts.{held}
use Rattle.alias_apply.proofs.apply.capture_each.Given as goal

-- the captures that are left go where all of them do
abbrev pub invariant-loop-place : goal.invariant-loop-place
invariant-loop-place l = capture_each (held l.context) l.into (drop l.place-index l.captures) l.step l.tables
    ≡ capture_each (held l.context) l.into l.captures l.initial.step l.initial.tables
