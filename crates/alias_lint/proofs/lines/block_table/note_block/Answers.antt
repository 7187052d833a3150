use Rattle.std.proofs.Common.{refl}
use Rattle.alias_lint.proofs.lines.Noting.{noting_next}
use Rattle.alias_lint.proofs.lines.block_table.note_block.Goals as goal

pub loop-id-preserved : goal.loop-id-preserved
loop-id-preserved c =
    noting_next c.args.block c.loop-id.id-index c.args.ids.now c.args.table.now.items c.loop-id.table.items
    c.note.new.table.items _ (record { 0 = 0 }) c.loop-id-test.true c.note.ensures refl c.loop-id.invariant
