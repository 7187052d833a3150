use Rattle.std.proofs.Common.{◌≡◌, drop}
use Rattle.alias_calls.specs.Arguments.{has_further}
use Rattle.alias_calls.proofs.arguments.has_further.Given as goal

-- what is left decides
abbrev pub invariant-loop-argument : goal.invariant-loop-argument
invariant-loop-argument g l = (l.index ≡ l.argument-index)
    × (has_further l.params (drop l.argument-index l.args) l.index ≡ has_further l.params l.args 0)
