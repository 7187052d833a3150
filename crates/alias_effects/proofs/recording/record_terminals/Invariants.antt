use Rattle.std.proofs.Common.{◌≡◌, length}
use Rattle.alias_effects.specs.Recording.{recorded_terminals}
use Rattle.alias_effects.proofs.recording.record_terminals.Given as goal

-- what is left to record makes of the terminals what all of it would
abbrev pub invariant-left : goal.invariant-left
invariant-left l = recorded_terminals l.left l.blocks ≡ recorded_terminals l.initial.left l.initial.blocks

abbrev pub decreases-left : goal.decreases-left
decreases-left l = length l.left
