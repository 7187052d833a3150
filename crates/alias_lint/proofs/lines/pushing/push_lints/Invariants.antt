use Rattle.std.proofs.Common.{◌≡◌, ◌++◌}
use Rattle.alias_lint.specs.Sites.{lints_at}
use Rattle.alias_lint.proofs.lines.pushing.push_lints.Given as goal

abbrev pub invariant-loop-report : goal.invariant-loop-report
invariant-loop-report l = l.lints ++ lints_at l.site l.report-iterator.rest.items ≡ l.initial.lints
    ++ lints_at l.site l.fn.reports
