use Rattle.std.proofs.Common.{◌≡◌, drop}
use Rattle.alias_step.specs.block.Blocks.{apply_signatures}
use Rattle.alias_step.specs.block.Contexts.{held}
use Rattle.alias_step.proofs.block.block.apply_signatures.Given as goal

-- the steps that are left go where all of them do
abbrev pub invariant-loop-id : goal.invariant-loop-id
invariant-loop-id l = apply_signatures (held l.context) (drop l.id-index l.ids) l.progress l.tables
    ≡ apply_signatures (held l.context) l.ids l.initial.progress l.initial.tables
