use Rattle.std.proofs.Common.{◌≡◌, ◌++◌, drop}
use Rattle.alias_step.specs.Operands.{argument_operands}
use Rattle.alias_step.proofs.operands.push_arguments.Given as goal

-- the operands so far, and those that are left
abbrev pub invariant-loop-argument : goal.invariant-loop-argument
invariant-loop-argument l = l.all ++ argument_operands (drop l.argument-index l.args) ≡ l.initial.all
    ++ argument_operands l.args
