use Rattle.std.proofs.Common.{drop}
use Rattle.alias_lint.proofs.lines.Noting.{Noting}
use Rattle.alias_lint.proofs.lines.block_table.note_block.Given as goal

abbrev pub invariant-loop-id : goal.invariant-loop-id
invariant-loop-id l = Noting l.block (drop l.id-index l.ids) l.ids l.initial.table.items l.table.items
