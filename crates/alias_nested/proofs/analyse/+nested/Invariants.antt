use Rattle.std.proofs.Common.{◌+◌, ◌*◌, ◌-◌, ◌≤◌, drop}
use Rattle.alias_nested.specs.Analysis.{analysis, Accounts}
use Rattle.alias_nested.specs.Answers.{SlotAnalysed, AnalysedWith}
use Rattle.alias_nested.specs.Fitting.{EnvironmentPruned}
use Rattle.alias_nested.specs.Refusals.{SlotRefused, AnalysisRefused}
use Rattle.alias_nested.proofs.Changing.{each_innermost_first, WentOver}
use Rattle.alias_nested.proofs.Leading.{Continues}
use Rattle.alias_nested.proofs.analyse.+nested.Given as goal

abbrev pub decreases-analyse_created : goal.decreases-analyse_created
decreases-analyse_created g l = l.levels * 3

abbrev pub decreases-analyse_slot : goal.decreases-analyse_slot
decreases-analyse_slot g l = l.levels * 3 + 2

abbrev pub decreases-analyse_taken : goal.decreases-analyse_taken
decreases-analyse_taken g l = l.levels * 3 + 1

-- what is left decides
abbrev pub invariant-analyse_created-loop-id : goal.invariant-analyse_created-loop-id
invariant-analyse_created-loop-id g l = record {
  run : (fs : _) → Accounts fs l.fn.solved
      → Continues (SlotRefused g.P.InnerPasses.keeps_all (l.levels - 1)
      (AnalysisRefused g.P.InnerPasses.keeps_all (l.levels - 1)))
      (SlotAnalysed g.P.InnerPasses.keeps_all (AnalysedWith g.P.InnerPasses.keeps_all (l.levels - 1))) l.id-items
      (drop l.id-index l.id-items) (analysis l.fn.env fs) l.env l.solved;
  kept : EnvironmentPruned l.fn.env l.env;
  order : WentOver (each_innermost_first (l.levels - 1) l.fn.env l.id-items)
      (each_innermost_first (l.levels - 1) l.fn.env (drop l.id-index l.id-items)) l.fn.env l.env l.fn.solved l.solved;
  faults : g.P.InnerPasses.faults l.fn.passes ≤ g.P.InnerPasses.faults l.passes;
}
