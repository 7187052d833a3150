use Rattle.std.proofs.Common.{◌≡◌, drop}
use Rattle.alias_step.specs.block.Actions.{catch_calls}
use Rattle.alias_step.proofs.block.actions.catch_calls.Given as goal

-- the calls that are left go where all of them do
abbrev pub invariant-loop-id : goal.invariant-loop-id
invariant-loop-id l = catch_calls l.func.instructions l.binding (drop l.id-index l.ids) l.step l.tables
    ≡ catch_calls l.func.instructions l.binding l.ids l.initial.step l.initial.tables
