use Rattle.std.proofs.Common.{◌≡◌, drop}
use Rattle.alias_cert.specs.effects.Telling.{claimed_after}
use Rattle.alias_cert.proofs.effects.telling.claimed_after.Given as goal

abbrev pub invariant-loop-effect : goal.invariant-loop-effect
invariant-loop-effect l = claimed_after l.instruction (drop l.effect-index l.effects) l.left
    ≡ claimed_after l.instruction l.effects l.initial.left
