use Rattle.std.proofs.Common.{◌≡◌, ◌++◌, ◌≤◌, drop}
use Rattle.alias_cert.specs.function.Blocks.{line_numbers}
use Rattle.alias_cert.proofs.function.lines.line_numbers.Given as goal

abbrev pub invariant-loop-mark : goal.invariant-loop-mark
invariant-loop-mark l = (l.numbers.items ++ line_numbers l.next (drop l.mark-index l.marks) ≡ line_numbers 0 l.marks)
    × (l.next ≤ l.mark-index)
