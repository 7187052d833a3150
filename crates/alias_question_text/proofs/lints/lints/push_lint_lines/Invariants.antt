use Rattle.std.proofs.Common.{◌≡◌, ◌++◌, take}
use Rattle.std.specs.List.{flat_map}
use Rattle.alias_question_text.specs.lints.Lints.{lint_line}
use Rattle.alias_question_text.proofs.lints.lints.push_lint_lines.Given as goal

abbrev pub invariant-loop-lint : goal.invariant-loop-lint
invariant-loop-lint l = l.out ≡ l.initial.out ++ flat_map lint_line (take l.lint-index l.lints)
