use Rattle.std.proofs.Common.{◌≡◌, ◌++◌, drop}
use Rattle.std.specs.List.{flat_map}
use Rattle.alias_lint.specs.WalkLints.{instruction_lints}
use Rattle.alias_lint.proofs.lines.walks.push_block.Given as goal

abbrev pub invariant-loop-instruction : goal.invariant-loop-instruction
invariant-loop-instruction l = l.lints ++ flat_map (instruction_lints l.env l.func l.id)
    (drop l.instruction-index l.block.instructions) ≡ l.initial.lints
    ++ flat_map (instruction_lints l.env l.func l.id) l.block.instructions
