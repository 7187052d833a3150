use Rattle.std.proofs.Common.{◌≡◌, ◌++◌, take}
use Rattle.alias_text.specs.Reports.{report_lines}
use Rattle.alias_text.proofs.reports.push_report_lines.Given as goal

abbrev pub invariant-loop-report : goal.invariant-loop-report
invariant-loop-report l = l.out ≡ l.initial.out ++ report_lines (take l.report-index l.reports)
