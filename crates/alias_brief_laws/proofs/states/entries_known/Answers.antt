use Rattle.std.proofs.Common.{arith}
use Rattle.alias_lattice.specs.ProperStates.{StateProper}
use Rattle.alias_effects.specs.declared.solved.BlockEntry.{BlockEntry}
use Rattle.alias_follow.proofs.Telling.{one_more_told, all_told}
use Rattle.alias_brief_laws.proofs.states.entries_known.Goals as goal

pub loop-entry-preserved : goal.loop-entry-preserved
loop-entry-preserved c = one_more_told (λ (e : BlockEntry). StateProper e.state) c.args.entries.now
    c.loop-entry.entry-index c.entry-item.result c.loop-entry-test.true c.entry-item.is c.recall_proper.ensures
    c.loop-entry.invariant

pub returns : goal.returns
returns c = all_told (λ (e : BlockEntry). StateProper e.state) c.args.entries.now c.loop-entry.entry-index
    (omega (arith, c.loop-entry-test.false)) c.loop-entry.invariant
