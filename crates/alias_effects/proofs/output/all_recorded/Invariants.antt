use Rattle.std.proofs.Common.{◌≡◌, ◌++◌, length, drop}
use Rattle.std.specs.List.{flat_map}
use Rattle.alias_effects.specs.Inference.{instructions_recorded, terminal_recorded}
use Rattle.alias_effects.proofs.output.all_recorded.Given as goal

-- what was taken so far, and what is left, are all that was recorded
abbrev pub invariant-loop-index : goal.invariant-loop-index
invariant-loop-index l =
    (length l.recorded ≡ length l.initial.recorded)
    × (l.instructions.items ++ flat_map instructions_recorded (drop l.index l.recorded)
    ≡ flat_map instructions_recorded l.initial.recorded)
    × (l.terminal.items ++ flat_map terminal_recorded (drop l.index l.recorded)
    ≡ flat_map terminal_recorded l.initial.recorded)
