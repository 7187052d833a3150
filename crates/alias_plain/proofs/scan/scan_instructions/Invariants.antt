use Rattle.std.proofs.Common.{◌≡◌, drop}
use Rattle.alias_plain.specs.Held.{held}
use Rattle.alias_plain.specs.laws.Scans.{scan_instructions}
use Rattle.alias_plain.proofs.scan.scan_instructions.Given as goal

-- the instructions that are left lead where all of them do
abbrev pub invariant-loop-id : goal.invariant-loop-id
invariant-loop-id l = scan_instructions (held l.scope) (drop l.id-index l.ids) l.unsure l.tables
    ≡ scan_instructions (held l.scope) l.ids l.initial.unsure l.initial.tables
