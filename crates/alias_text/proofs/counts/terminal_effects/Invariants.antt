use Rattle.std.proofs.Common.{◌≡◌, take}
use Rattle.alias_text.specs.Counts.{terminal_effects}
use Rattle.alias_text.proofs.counts.terminal_effects.Given as goal

abbrev pub invariant-loop-of_terminal : goal.invariant-loop-of_terminal
invariant-loop-of_terminal l = l.count ≡ terminal_effects (take l.of_terminal-index l.recorded)
