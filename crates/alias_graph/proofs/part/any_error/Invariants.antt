use Rattle.std.proofs.Common.{◌≡◌, List, drop}
use Rattle.alias_hir.specs.declared.report.Interned.{Interned}
use Rattle.alias_hir.specs.ReportNumbers.{effect_reports}
use Rattle.alias_graph.proofs.part.any_error.Given as goal

abbrev pub invariant-loop-effect : goal.invariant-loop-effect
invariant-loop-effect l = (interned : List Interned) → effect_reports interned l.effects
    ≡ effect_reports interned (drop l.effect-index l.effects)
