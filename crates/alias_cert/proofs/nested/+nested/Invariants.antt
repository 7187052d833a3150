use Rattle.std.proofs.Common.{◌+◌, ◌*◌, ◌-◌, drop}
use Rattle.alias_nested.specs.Fitting.{EnvironmentPruned}
use Rattle.alias_cert.specs.Functions.{checking, Accounts}
use Rattle.alias_cert.specs.Units.{slot_checked, below_checked}
use Rattle.alias_cert.proofs.Levels.{Continues}
use Rattle.alias_cert.proofs.nested.+nested.Given as goal

abbrev pub decreases-check_created : goal.decreases-check_created
decreases-check_created l = l.levels * 3

abbrev pub decreases-check_slot : goal.decreases-check_slot
decreases-check_slot l = l.levels * 3 + 2

abbrev pub decreases-check_taken : goal.decreases-check_taken
decreases-check_taken l = l.levels * 3 + 1

-- what is left decides
abbrev pub invariant-check_created-loop-id : goal.invariant-check_created-loop-id
invariant-check_created-loop-id l = record {
  run : (fs : _) → Accounts fs l.fn.solved
      → Continues (slot_checked l.functions (below_checked l.functions (l.levels - 1))) l.id-items
      (drop l.id-index l.id-items) (checking l.fn.env fs) l.env l.solved;
  kept : EnvironmentPruned l.fn.env l.env;
}
