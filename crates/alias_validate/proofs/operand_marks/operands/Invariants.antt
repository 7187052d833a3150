use Rattle.std.proofs.Common.{◌≡◌, drop}
use Rattle.alias_validate.specs.OperandMarks.{operand}
use Rattle.alias_validate.specs.Walks.{each}
use Rattle.alias_validate.proofs.operand_marks.operands.Given as goal

abbrev pub invariant-loop-place : goal.invariant-loop-place
invariant-loop-place l =
    each (operand l.lvalues) l.initial.marks l.places ≡ each (operand l.lvalues) l.marks (drop l.place-index l.places)
