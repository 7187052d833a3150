use Rattle.std.proofs.Common.{◌≡◌, ◌++◌, take}
use Rattle.alias_validate.specs.Freezing.{reports_at}
use Rattle.alias_validate.proofs.freezing.report_operands.Given as goal

abbrev pub invariant-loop-operand : goal.invariant-loop-operand
invariant-loop-operand l =
    l.reports ≡ l.initial.reports ++ reports_at l.env l.marks (take l.operand-index l.operands)
