use Rattle.std.proofs.Common.{◌≡◌, drop}
use Rattle.alias_range_pass.specs.places.Ranges.{started, all_ranged}
use Rattle.alias_range_pass.proofs.places.ranges.start_all.Given as goal

abbrev pub invariant-loop-place : goal.invariant-loop-place
invariant-loop-place l = all_ranged (started l.order) (drop l.place-index l.places) l.identifiers
    ≡ all_ranged (started l.order) l.places l.initial.identifiers
