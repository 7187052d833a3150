use Rattle.std.proofs.Common.{◌≡◌, ◌++◌, drop}
use Rattle.std.specs.Prelude.{map}
use Rattle.alias_calls.specs.Copies.{effect_at}
use Rattle.alias_calls.proofs.copies.push_at.Given as goal

-- the effects so far, and those of the places that are left
abbrev pub invariant-loop-place : goal.invariant-loop-place
invariant-loop-place l = l.out ++ map (effect_at l.kind) (drop l.place-index l.places) ≡ l.initial.out
    ++ map (effect_at l.kind) l.places
