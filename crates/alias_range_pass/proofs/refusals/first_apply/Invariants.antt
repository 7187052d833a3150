use Rattle.std.proofs.Common.{◌≡◌, drop}
use Rattle.alias_range_pass.specs.Refusals.{first_apply}
use Rattle.alias_range_pass.proofs.refusals.first_apply.Given as goal

abbrev pub invariant-loop-id : goal.invariant-loop-id
invariant-loop-id l = first_apply l.instructions (drop l.id-index l.ids) ≡ first_apply l.instructions l.ids
