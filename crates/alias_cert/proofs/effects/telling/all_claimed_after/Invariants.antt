use Rattle.std.proofs.Common.{◌≡◌, drop}
use Rattle.alias_cert.specs.effects.Telling.{all_claimed_after}
use Rattle.alias_cert.proofs.effects.telling.all_claimed_after.Given as goal

abbrev pub invariant-loop-instruction : goal.invariant-loop-instruction
invariant-loop-instruction l = all_claimed_after (drop l.instruction-index l.recorded) l.left
    ≡ all_claimed_after l.recorded l.initial.left
