use Rattle.std.proofs.Common.{◌+◌, ◌*◌, ◌-◌, drop}
use Rattle.alias_nested.specs.Fitting.{EnvironmentPruned}
use Rattle.alias_follow.specs.Functions.{following, Accounts}
use Rattle.alias_follow.specs.Units.{slot_followed, below_followed}
use Rattle.alias_follow.proofs.Levels.{Continues}
use Rattle.alias_follow.proofs.nested.+nested.Given as goal

abbrev pub decreases-follow_created : goal.decreases-follow_created
decreases-follow_created l = l.levels * 3

abbrev pub decreases-follow_slot : goal.decreases-follow_slot
decreases-follow_slot l = l.levels * 3 + 2

abbrev pub decreases-follow_taken : goal.decreases-follow_taken
decreases-follow_taken l = l.levels * 3 + 1

-- what is left decides
abbrev pub invariant-follow_created-loop-id : goal.invariant-follow_created-loop-id
invariant-follow_created-loop-id l = record {
  run : (fs : _) → Accounts fs l.fn.handed.solved l.fn.handed.beyond
      → Continues (slot_followed l.given (below_followed l.given (l.levels - 1))) l.id-items
      (drop l.id-index l.id-items) (following l.fn.env fs) l.env l.handed.solved l.handed.beyond;
  kept : EnvironmentPruned l.fn.env l.env;
}
