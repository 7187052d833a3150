use Rattle.alias_lint.proofs.lines.Noting.{tabling_next}
use Rattle.alias_lint.proofs.lines.block_table.block_table.Goals as goal

pub loop-id-preserved : goal.loop-id-preserved
loop-id-preserved c =
    tabling_next c.args.func.now c.loop-id.id-iterator c.next.new.self c.in-Some.id.now c.in-Some.block.now
    c.as_slice.result.now c.loop-id.table.items c.note_block.new.table.items c.in-Some.ensures.steps
    c.as_slice.ensures c.note_block.ensures c.loop-id.invariant
