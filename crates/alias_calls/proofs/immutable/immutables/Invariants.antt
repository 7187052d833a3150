use Rattle.std.proofs.Common.{◌≡◌, drop}
use Rattle.std.specs.Prelude.{None}
use Rattle.alias_calls.specs.Immutable.{immutables}
use Rattle.alias_calls.proofs.immutable.immutables.Given as goal

-- what is left decides
abbrev pub invariant-loop-argument : goal.invariant-loop-argument
invariant-loop-argument l = immutables l.env l.state (drop l.argument-index l.args) l.missing
    ≡ immutables l.env l.state l.args None
