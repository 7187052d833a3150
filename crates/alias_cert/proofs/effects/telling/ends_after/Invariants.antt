use Rattle.std.proofs.Common.{◌≡◌, drop}
use Rattle.alias_cert.specs.effects.Telling.{ends_after}
use Rattle.alias_cert.proofs.effects.telling.ends_after.Given as goal

abbrev pub invariant-loop-terminal : goal.invariant-loop-terminal
invariant-loop-terminal l = ends_after (drop l.terminal-index l.recorded) l.left ≡ ends_after l.recorded l.initial.left
