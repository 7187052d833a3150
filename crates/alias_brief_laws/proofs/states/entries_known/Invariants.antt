use Rattle.std.proofs.Common.{take}
use Rattle.alias_brief_laws.specs.Accepted.{AreEntriesProper}
use Rattle.alias_brief_laws.proofs.states.entries_known.Given as goal

abbrev pub invariant-loop-entry : goal.invariant-loop-entry
invariant-loop-entry l = AreEntriesProper (take l.entry-index l.entries)
