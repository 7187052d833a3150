use Rattle.alias_lint.proofs.lines.Noting.{Tabling}
use Rattle.alias_lint.proofs.lines.block_table.block_table.Given as goal

abbrev pub invariant-loop-id : goal.invariant-loop-id
invariant-loop-id l = Tabling l.func l.id-iterator l.table.items
