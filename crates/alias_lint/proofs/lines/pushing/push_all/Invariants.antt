use Rattle.std.proofs.Common.{◌≡◌, ◌++◌}
use Rattle.alias_lint.proofs.lines.pushing.push_all.Given as goal

abbrev pub invariant-loop-lint : goal.invariant-loop-lint
invariant-loop-lint l = l.lints ++ l.lint-iterator.rest.items ≡ l.initial.lints ++ l.fn.more
