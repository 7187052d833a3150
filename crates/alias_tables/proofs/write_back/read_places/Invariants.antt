use Rattle.std.proofs.Common.{◌≡◌, ◌++◌, drop, take, map}
use Rattle.alias_tables.specs.write_back.WriteBack.{read_place}
use Rattle.alias_tables.proofs.write_back.read_places.Given as goal

abbrev pub invariant-loop-place : goal.invariant-loop-place
invariant-loop-place l = l.places ≡ map (read_place l.identifier) (take l.place-index l.initial.places)
    ++ drop l.place-index l.initial.places
