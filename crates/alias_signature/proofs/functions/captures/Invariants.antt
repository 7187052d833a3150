use Rattle.std.proofs.Common.{◌≡◌, take}
use Rattle.std.specs.List.{flat_map}
use Rattle.alias_signature.specs.Functions.{captured}
use Rattle.alias_signature.proofs.functions.captures.Given as goal

abbrev pub invariant-loop-place : goal.invariant-loop-place
invariant-loop-place l = l.captures ≡ flat_map captured (take l.place-index l.context)
