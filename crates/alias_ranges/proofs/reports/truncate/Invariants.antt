use Rattle.std.proofs.Common.{◌≡◌, ◌≤◌, length, take}
use Rattle.alias_ranges.proofs.reports.truncate.Given as goal

abbrev pub invariant-loop-reports : goal.invariant-loop-reports
invariant-loop-reports l = (l.len ≤ length l.reports) × (take l.len l.reports ≡ take l.len l.initial.reports)

abbrev pub decreases-loop-reports : goal.decreases-loop-reports
decreases-loop-reports l = length l.reports
