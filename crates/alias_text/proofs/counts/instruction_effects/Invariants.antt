use Rattle.std.proofs.Common.{◌≡◌, take}
use Rattle.alias_text.specs.Counts.{instruction_effects}
use Rattle.alias_text.proofs.counts.instruction_effects.Given as goal

abbrev pub invariant-loop-of_instruction : goal.invariant-loop-of_instruction
invariant-loop-of_instruction l = l.count ≡ instruction_effects (take l.of_instruction-index l.recorded)
