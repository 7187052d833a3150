use Rattle.std.proofs.Common.{◌≡◌, drop}
use Rattle.std.specs.List.{fold}
use Rattle.alias_step.specs.block.Initial.{with_reason, reasons_of}
use Rattle.alias_step.proofs.block.initial.reasons_of.Given as goal

-- the reasons so far, with those that are left
abbrev pub invariant-loop-reason : goal.invariant-loop-reason
invariant-loop-reason l = fold with_reason l.set (drop l.reason-index l.reasons) ≡ reasons_of l.reasons
