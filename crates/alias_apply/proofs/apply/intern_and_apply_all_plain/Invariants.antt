use Rattle.std.proofs.Common.{◌≡◌}
use Rattle.alias_apply.specs.Apply.{intern_and_apply_all_plain}
use Rattle.alias_apply.specs.Contexts.{held}
use Rattle.alias_apply.proofs.apply.intern_and_apply_all_plain.Given as goal

-- the effects that are left go where all of them do
abbrev pub invariant-loop-effect : goal.invariant-loop-effect
invariant-loop-effect l = intern_and_apply_all_plain (held l.context) l.effect-iterator.rest.items l.step l.tables
    ≡ intern_and_apply_all_plain (held l.context) l.fn.effects l.initial.step l.initial.tables
