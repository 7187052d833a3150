use Rattle.std.proofs.Common.{arith, subst}
use Rattle.alias_effects.specs.declared.solved.Solved.{Solved}
use Rattle.alias_follow.proofs.Telling.{one_more_told, all_told}
use Rattle.alias_brief_laws.specs.Accepted.{AreEntriesProper}
use Rattle.alias_brief_laws.proofs.states.states_known.Goals as goal

pub loop-one-preserved : goal.loop-one-preserved
loop-one-preserved c = one_more_told (λ (s : Solved). AreEntriesProper s.entries) c.args.solved.now
    c.loop-one.one-index c.one-item.result c.loop-one-test.true c.one-item.is
    (subst AreEntriesProper c.as_slice.ensures c.entries_known.ensures) c.loop-one.invariant

pub returns : goal.returns
returns c = all_told (λ (s : Solved). AreEntriesProper s.entries) c.args.solved.now c.loop-one.one-index
    (omega (arith, c.loop-one-test.false)) c.loop-one.invariant
