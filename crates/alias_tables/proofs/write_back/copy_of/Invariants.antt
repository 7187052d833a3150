use Rattle.std.proofs.Common.{◌≡◌, take}
use Rattle.alias_tables.proofs.write_back.copy_of.Given as goal

abbrev pub invariant-loop-entry : goal.invariant-loop-entry
invariant-loop-entry l = l.copy ≡ take l.entry-index l.entry-items
