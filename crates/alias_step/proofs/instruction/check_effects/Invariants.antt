use Rattle.std.proofs.Common.{◌≡◌, drop}
use Rattle.alias_apply.specs.Contexts.{held}
use Rattle.alias_step.specs.Instructions.{check_effects}
use Rattle.alias_step.proofs.instruction.check_effects.Given as goal

-- the effects that are left go where all of them do
abbrev pub invariant-loop-effect : goal.invariant-loop-effect
invariant-loop-effect l = check_effects (held l.context) l.places (drop l.effect-index l.effects) l.step l.tables
    ≡ check_effects (held l.context) l.places l.effects l.initial.step l.initial.tables
