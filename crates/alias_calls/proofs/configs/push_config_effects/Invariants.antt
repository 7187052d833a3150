use Rattle.std.proofs.Common.{◌≡◌, drop}
use Rattle.alias_tables.specs.GrowingLaws.{Grows}
use Rattle.alias_calls.specs.Calls.{held_config}
use Rattle.alias_calls.specs.Configs.{with_config_effects}
use Rattle.alias_calls.proofs.configs.push_config_effects.Given as goal

-- the effects that are left lead where all of them do, and reports have only come
abbrev pub invariant-loop-effect : goal.invariant-loop-effect
invariant-loop-effect l =
    (with_config_effects l.env (held_config l.call) (drop l.effect-index l.effects) l.out l.tables
    ≡ with_config_effects l.env (held_config l.call) l.effects l.initial.out l.initial.tables)
    × Grows l.initial.tables.reports l.tables.reports
