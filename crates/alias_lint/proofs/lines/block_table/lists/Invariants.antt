use Rattle.std.proofs.Common.{◌≡◌, ◌==◌, drop}
use Rattle.std.specs.List.{list_any}
use Rattle.alias_base.specs.declared.ids.InstructionId.{InstructionId}
use Rattle.alias_lint.proofs.lines.block_table.lists.Given as goal

abbrev pub invariant-loop-listed : goal.invariant-loop-listed
invariant-loop-listed l = list_any (λ (j : InstructionId). j.0 == l.id.0) (drop l.listed-index l.ids)
    ≡ list_any (λ (j : InstructionId). j.0 == l.id.0) l.ids
