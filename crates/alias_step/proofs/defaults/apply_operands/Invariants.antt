use Rattle.std.proofs.Common.{◌≡◌, drop}
use Rattle.alias_apply.specs.Contexts.{held}
use Rattle.alias_step.specs.Defaults.{apply_operands}
use Rattle.alias_step.specs.Operands.{held_call}
use Rattle.alias_step.proofs.defaults.apply_operands.Given as goal

-- the operands that are left go where all of them do
abbrev pub invariant-loop-operand : goal.invariant-loop-operand
invariant-loop-operand l = apply_operands (held l.context) (held_call l.call) l.all (drop l.operand-index l.left) l.step
    l.tables ≡ apply_operands (held l.context) (held_call l.call) l.all l.left l.initial.step l.initial.tables
