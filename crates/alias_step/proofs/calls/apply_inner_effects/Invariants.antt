use Rattle.std.proofs.Common.{◌≡◌}
use Rattle.alias_apply.specs.Contexts.{held}
use Rattle.alias_step.specs.Calls.{apply_inner_effects}
use Rattle.alias_step.proofs.calls.apply_inner_effects.Given as goal

-- the effects that are left go where all of them do
abbrev pub invariant-loop-effect : goal.invariant-loop-effect
invariant-loop-effect l = apply_inner_effects (held l.context) l.effect-iterator.rest.items l.step l.tables
    ≡ apply_inner_effects (held l.context) l.fn.effects l.initial.step l.initial.tables
