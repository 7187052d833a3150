use Rattle.std.proofs.Common.{◌≡◌, drop}
use Rattle.alias_apply.specs.Contexts.{held}
use Rattle.alias_step.specs.Defaults.{capture_operand_in_each}
use Rattle.alias_step.proofs.defaults.capture_operand_in_each.Given as goal

-- the operands that are left go where all of them do
abbrev pub invariant-loop-other : goal.invariant-loop-other
invariant-loop-other l = capture_operand_in_each (held l.context) l.operand (drop l.other-index l.all) l.step l.tables
    ≡ capture_operand_in_each (held l.context) l.operand l.all l.initial.step l.initial.tables
