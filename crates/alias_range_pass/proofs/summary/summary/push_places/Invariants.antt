use Rattle.std.proofs.Common.{◌≡◌, ◌++◌, take}
use Rattle.alias_range_pass.proofs.summary.summary.push_places.Given as goal

abbrev pub invariant-loop-place : goal.invariant-loop-place
invariant-loop-place l = l.places ≡ l.initial.places ++ take l.place-index l.more
