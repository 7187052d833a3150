use Rattle.std.proofs.Common.{◌≡◌, ◌-◌}
use Rattle.alias_range_pass.specs.places.Blocks.{blocks_placed, function_placed}
use Rattle.alias_range_pass.specs.places.Keeping.{EnvKept, OrdersFit, but_effects}
use Rattle.alias_range_pass.proofs.places.blocks.place_blocks.Given as goal

abbrev pub invariant-loop-slot : goal.invariant-loop-slot
invariant-loop-slot l =
    (blocks_placed l.is_function_expression (l.slot-end - l.slot) l.slot (l.func, l.env)
    ≡ function_placed l.is_function_expression (l.initial.func, l.initial.env))
    × OrdersFit l.func.instructions
    × EnvKept l.initial.env l.env
    × (but_effects l.func ≡ but_effects l.initial.func)
