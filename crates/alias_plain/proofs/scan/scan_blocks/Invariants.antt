use Rattle.std.proofs.Common.{◌≡◌, drop}
use Rattle.alias_plain.specs.Held.{held}
use Rattle.alias_plain.specs.laws.Scans.{scan_from}
use Rattle.alias_plain.proofs.scan.scan_blocks.Given as goal

-- the blocks that are left lead where all of them do
abbrev pub invariant-loop-position : goal.invariant-loop-position
invariant-loop-position l = scan_from (held l.scope) l.entries l.position (drop l.position l.scope.func.now.body.blocks)
    l.tables ≡ scan_from (held l.scope) l.entries 0 l.scope.func.now.body.blocks l.initial.tables
