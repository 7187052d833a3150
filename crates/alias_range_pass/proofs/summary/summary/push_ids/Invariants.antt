use Rattle.std.proofs.Common.{◌≡◌, ◌++◌, take, map}
use Rattle.alias_range_pass.specs.summary.Sweeping.{identifier_of}
use Rattle.alias_range_pass.proofs.summary.summary.push_ids.Given as goal

abbrev pub invariant-loop-place : goal.invariant-loop-place
invariant-loop-place l = l.ids ≡ l.initial.ids ++ map identifier_of (take l.place-index l.places)
