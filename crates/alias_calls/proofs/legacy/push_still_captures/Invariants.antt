use Rattle.std.proofs.Common.{◌≡◌, ◌++◌, drop}
use Rattle.alias_calls.specs.Legacy.{still_captures}
use Rattle.alias_calls.proofs.legacy.push_still_captures.Given as goal

-- the captures so far, and those of the arguments that are left
abbrev pub invariant-loop-argument : goal.invariant-loop-argument
invariant-loop-argument l = l.out ++ still_captures l.into (drop l.argument-index l.args) ≡ l.initial.out
    ++ still_captures l.into l.args
