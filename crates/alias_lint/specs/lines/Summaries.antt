-- Which nested functions have reports.
use Rattle.std.specs.Prelude.{◌==◌, Bool, not, Some, length}
use Rattle.std.specs.List.{list_any}
use Rattle.alias_hir.specs.declared.env.Environment.{Environment}
use Rattle.alias_hir.specs.declared.hir.HirFunction.{HirFunction}
use Rattle.alias_hir.specs.ReportNumbers.{effect_reports, summary}

-- the summary of the function has a report
abbrev pub has_report : Environment → HirFunction → Bool
has_report env f = not (length (effect_reports env.interned (summary (Some f))) == 0)

-- that of some nested function has one
abbrev pub any_report : Environment → Bool
any_report env = list_any (has_report env) env.functions
