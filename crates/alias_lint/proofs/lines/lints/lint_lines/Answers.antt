use Rattle.std.proofs.Common.{[]}
use Rattle.alias_lint.proofs.Rooting.{root_reports}
use Rattle.alias_lint.proofs.lines.lints.lint_lines.Goals as goal

pub returns-clause-reports : goal.returns-clause-reports
returns-clause-reports c = root_reports c.args.unit.function (record c.args.unit.env { errors = [] })
    c.in_ok-lints.lints c.in_ok-lints.ensures
