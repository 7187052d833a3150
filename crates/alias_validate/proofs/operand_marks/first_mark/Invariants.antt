use Rattle.std.proofs.Common.{◌≡◌, drop}
use Rattle.alias_validate.specs.OperandMarks.{first_mark}
use Rattle.alias_validate.proofs.operand_marks.first_mark.Given as goal

abbrev pub invariant-loop-place : goal.invariant-loop-place
invariant-loop-place l =
    first_mark l.marks l.places ≡ first_mark l.marks (drop l.place-index l.places)
