use Rattle.std.proofs.Common.{◌≡◌, length}
use Rattle.alias_effects.specs.Recording.{recorded_instructions}
use Rattle.alias_effects.proofs.recording.record_instructions.Given as goal

-- what is left to record makes of the instructions what all of it would
abbrev pub invariant-left : goal.invariant-left
invariant-left l = recorded_instructions l.left l.instructions
    ≡ recorded_instructions l.initial.left l.initial.instructions

abbrev pub decreases-left : goal.decreases-left
decreases-left l = length l.left
