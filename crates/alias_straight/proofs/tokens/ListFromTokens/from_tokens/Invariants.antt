use Rattle.std.proofs.Common.{length}
use Rattle.alias_straight.specs.Items.{Lists}
use Rattle.alias_straight.proofs.tokens.ListFromTokens.from_tokens.Given as goal

abbrev pub invariant-items : goal.invariant-items
invariant-items g l = Lists g.T.FromJson.reads l.depth l.fn.reader l.found.items l.reader

abbrev pub decreases-items : goal.decreases-items
decreases-items g l = length l.reader
