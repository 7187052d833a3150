use Rattle.std.proofs.Common.{◌≡◌, ◌++◌, map, take}
use Rattle.alias_brief.specs.Saying.{said_block}
use Rattle.alias_brief.proofs.saying.push_blocks.Given as goal

abbrev pub invariant-loop-entry : goal.invariant-loop-entry
invariant-loop-entry l = l.blocks ≡ l.initial.blocks ++ map said_block (take l.entry-index l.entries)
