use Rattle.std.proofs.Common.{length}
use Rattle.alias_straight.specs.Entries.{Enters}
use Rattle.alias_straight.proofs.entries.BlockMapFromTokens.from_tokens.Given as goal

abbrev pub invariant-items : goal.invariant-items
invariant-items g l = Enters g.V.FromEntry.reads_entry l.depth l.fn.reader l.found l.reader

abbrev pub decreases-items : goal.decreases-items
decreases-items g l = length l.reader
