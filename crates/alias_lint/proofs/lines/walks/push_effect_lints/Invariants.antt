use Rattle.std.proofs.Common.{◌≡◌, ◌++◌}
use Rattle.std.specs.List.{flat_map}
use Rattle.alias_lint.specs.WalkLints.{block_lints, effect_lints}
use Rattle.alias_lint.proofs.lines.walks.push_effect_lints.Given as goal

abbrev pub invariant-loop-id : goal.invariant-loop-id
invariant-loop-id l = l.lints ++ flat_map (block_lints l.env l.func) l.id-iterator ≡ l.initial.lints
    ++ effect_lints l.env l.func
