use Rattle.std.proofs.Common.{◌≡◌, ◌++◌, take, map}
use Rattle.alias_signature.specs.Memoization.{frozen}
use Rattle.alias_signature.proofs.memoization.push_frozen.Given as goal

abbrev pub invariant-loop-operand : goal.invariant-loop-operand
invariant-loop-operand l = l.effects ≡ l.initial.effects ++ map frozen (take l.operand-index l.operands)
