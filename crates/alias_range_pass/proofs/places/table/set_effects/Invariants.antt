use Rattle.std.proofs.Common.{◌≡◌, drop}
use Rattle.alias_range_pass.specs.places.Tables.{effects_tabled}
use Rattle.alias_range_pass.proofs.places.table.set_effects.Given as goal

abbrev pub invariant-loop-effect : goal.invariant-loop-effect
invariant-loop-effect l = effects_tabled l.identifiers l.order (drop l.effect-index l.effects) l.table
    ≡ effects_tabled l.identifiers l.order l.effects l.initial.table
