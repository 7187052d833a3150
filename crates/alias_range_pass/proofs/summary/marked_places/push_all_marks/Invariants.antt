use Rattle.std.proofs.Common.{◌≡◌, ◌++◌, take}
use Rattle.alias_range_pass.specs.summary.MarkedPlaces.{marks_of_all}
use Rattle.alias_range_pass.proofs.summary.marked_places.push_all_marks.Given as goal

abbrev pub invariant-loop-place : goal.invariant-loop-place
invariant-loop-place l = l.summary ≡ l.initial.summary ++ marks_of_all l.graph (take l.place-index l.places)
