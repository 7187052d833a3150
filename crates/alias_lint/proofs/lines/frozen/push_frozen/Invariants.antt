use Rattle.std.proofs.Common.{◌≡◌}
use Rattle.std.specs.Prelude.{fold}
use Rattle.alias_lint.specs.Frozen.{block_checked, function_checked}
use Rattle.alias_lint.proofs.lines.frozen.push_frozen.Given as goal

abbrev pub invariant-loop-id : goal.invariant-loop-id
invariant-loop-id l = function_checked l.env l.func ≡ fold (block_checked l.env l.func) (l.marks, l.found) l.id-iterator
