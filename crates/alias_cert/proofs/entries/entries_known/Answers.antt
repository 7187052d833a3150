use Rattle.std.proofs.Common.{arith}
use Rattle.alias_cert.proofs.Knowing.{known_longer, known_all}
use Rattle.alias_cert.proofs.entries.entries_known.Goals as goal

pub loop-entry-preserved : goal.loop-entry-preserved
loop-entry-preserved c = known_longer c.args.entries.now c.loop-entry.entry-index c.entry-item.result
    c.loop-entry-test.true c.entry-item.is c.recall_proper.ensures c.loop-entry.invariant

pub returns : goal.returns
returns c = known_all c.args.entries.now c.loop-entry.entry-index (omega (arith, c.loop-entry-test.false))
    c.loop-entry.invariant
