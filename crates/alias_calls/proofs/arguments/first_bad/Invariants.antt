use Rattle.std.proofs.Common.{◌≡◌, drop}
use Rattle.alias_calls.specs.Arguments.{first_bad}
use Rattle.alias_calls.proofs.arguments.first_bad.Given as goal

-- what is left decides
abbrev pub invariant-loop-place : goal.invariant-loop-place
invariant-loop-place l = first_bad l.env l.args (drop l.place-index l.places) ≡ first_bad l.env l.args l.places
