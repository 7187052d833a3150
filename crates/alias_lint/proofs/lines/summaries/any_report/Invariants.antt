use Rattle.std.proofs.Common.{◌≡◌, drop}
use Rattle.std.specs.List.{list_any}
use Rattle.alias_lint.specs.lines.Summaries.{has_report, any_report}
use Rattle.alias_lint.proofs.lines.summaries.any_report.Given as goal

abbrev pub invariant-loop-func : goal.invariant-loop-func
invariant-loop-func l = list_any (has_report l.env) (drop l.func-index l.env.functions) ≡ any_report l.env
