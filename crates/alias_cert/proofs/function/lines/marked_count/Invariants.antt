use Rattle.std.proofs.Common.{◌≡◌, ◌+◌, ◌≤◌, drop}
use Rattle.alias_cert.specs.function.Blocks.{marked_count}
use Rattle.alias_cert.proofs.function.lines.marked_count.Given as goal

abbrev pub invariant-loop-mark : goal.invariant-loop-mark
invariant-loop-mark l = (l.count + marked_count (drop l.mark-index l.marks) ≡ marked_count l.marks)
    × (l.count ≤ l.mark-index)
