use Rattle.std.proofs.Common.{◌≡◌, drop, map}
use Rattle.alias_range_pass.specs.places.Instructions.{instructions_placed}
use Rattle.alias_range_pass.specs.places.Keeping.{EnvKept, OrdersFit, but_instruction}
use Rattle.alias_range_pass.proofs.places.instructions.place_instructions.Given as goal

abbrev pub invariant-loop-id : goal.invariant-loop-id
invariant-loop-id l =
    (instructions_placed (drop l.id-index l.ids) (l.instructions, l.env)
    ≡ instructions_placed l.ids (l.initial.instructions, l.initial.env))
    × OrdersFit l.instructions
    × EnvKept l.initial.env l.env
    × (map but_instruction l.instructions ≡ map but_instruction l.initial.instructions)
