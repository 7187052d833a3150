use Rattle.std.proofs.Common.{◌≡◌, drop}
use Rattle.alias_nested.specs.Annotating.{reset}
use Rattle.alias_nested.proofs.annotating.reset_context.Given as goal

-- what is left to reset makes of the identifiers what all of it would
abbrev pub invariant-loop-place : goal.invariant-loop-place
invariant-loop-place l = reset (drop l.place-index l.context) l.identifiers ≡ reset l.context l.initial.identifiers
