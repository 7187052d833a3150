use Rattle.std.proofs.Common.{take}
use Rattle.alias_brief_laws.specs.Accepted.{AreStatesProper}
use Rattle.alias_brief_laws.proofs.states.states_known.Given as goal

abbrev pub invariant-loop-one : goal.invariant-loop-one
invariant-loop-one l = AreStatesProper (take l.one-index l.solved)
