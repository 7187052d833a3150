use Rattle.std.proofs.Common.{◌≡◌, ◌++◌, List, drop}
use Rattle.alias_hir.specs.declared.report.Report.{Report}
use Rattle.alias_hir.specs.ReportNumbers.{effect_reports}
use Rattle.alias_graph.proofs.reports.push_reports.Given as goal

abbrev pub invariant-loop-effect : goal.invariant-loop-effect
invariant-loop-effect l =
    (done : List Report)
    × (l.errors ≡ l.initial.errors ++ done)
    × (done ++ effect_reports l.interned (drop l.effect-index l.effects) ≡ effect_reports l.interned l.effects)
