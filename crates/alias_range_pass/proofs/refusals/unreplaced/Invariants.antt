use Rattle.std.proofs.Common.{◌≡◌}
use Rattle.alias_range_pass.specs.Refusals.{first_apply_of, unreplaced}
use Rattle.alias_range_pass.proofs.refusals.unreplaced.Given as goal

abbrev pub invariant-loop-block : goal.invariant-loop-block
invariant-loop-block l = first_apply_of l.func.instructions l.block-iterator ≡ unreplaced l.func
