use Rattle.std.proofs.Common.{◌≡◌, ◌++◌, take}
use Rattle.std.specs.List.{flat_map}
use Rattle.alias_signature.specs.Jsx.{jsx_operand_effects}
use Rattle.alias_signature.proofs.jsx.push_operands.Given as goal

abbrev pub invariant-loop-operand : goal.invariant-loop-operand
invariant-loop-operand l = l.effects ≡ l.initial.effects
    ++ flat_map (jsx_operand_effects l.lvalue) (take l.operand-index l.operands)
