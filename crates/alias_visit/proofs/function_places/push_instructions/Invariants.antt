use Rattle.std.proofs.Common.{◌≡◌, ◌++◌, take}
use Rattle.std.specs.List.{flat_map}
use Rattle.alias_visit.specs.Places.{instruction_places}
use Rattle.alias_visit.proofs.function_places.push_instructions.Given as goal

abbrev pub invariant-loop-instruction : goal.invariant-loop-instruction
invariant-loop-instruction l = l.places.items ≡ l.initial.places.items
    ++ flat_map (instruction_places l.env) (take l.instruction-index l.instructions)
