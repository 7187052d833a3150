use Rattle.alias_read.proofs.EntrySteps.{pointer-index, entries_next, entries_fault, gives_same}
use Rattle.alias_read.proofs.entries.entries.Goals as goal

pub returns-in_err-id : goal.returns-in_err-id
returns-in_err-id g c =
    let v = c.index-values-index in
    gives_same _ c.from_residual.result c.in_err-id.field-0.0 c.from_residual.ensures.1
    (entries_fault g.V.FromEntry.reads_entry _ c.args.values.now c.loop-index.index v.result c.loop-index.found _
    (pointer-index c.args.path c.loop-index.index) _ _ c.loop-index-test.true v.is c.loop-index.invariant
    c.in_err-id.ensures)

pub loop-index-preserved : goal.loop-index-preserved
loop-index-preserved g c =
    let v = c.index-values-index in
    entries_next g.V.FromEntry.reads_entry _ c.args.values.now c.loop-index.index v.result c.loop-index.found _
    (pointer-index c.args.path c.loop-index.index) _ c.in_ok-id.id c.in_ok-id.entry c.insert.new.self
    c.loop-index-test.true v.is c.loop-index.invariant c.in_ok-id.ensures c.in_ok-insert.ensures.entries
