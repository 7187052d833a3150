use Rattle.std.proofs.Common.{◌≡◌, ◌++◌, drop, take, length, map}
use Rattle.alias_range_pass.specs.places.Blocks.{operand_with}
use Rattle.alias_range_pass.proofs.places.blocks.set_phi_operands.Given as goal

abbrev pub invariant-loop-index : goal.invariant-loop-index
invariant-loop-index l = (l.operands ≡ map (operand_with l.effect) (take l.index l.initial.operands)
    ++ drop l.index l.initial.operands) × (l.index-end ≡ length l.initial.operands)
