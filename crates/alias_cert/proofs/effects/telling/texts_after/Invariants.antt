use Rattle.std.proofs.Common.{◌≡◌, drop}
use Rattle.alias_cert.specs.effects.Telling.{texts_after}
use Rattle.alias_cert.proofs.effects.telling.texts_after.Given as goal

abbrev pub invariant-loop-effect : goal.invariant-loop-effect
invariant-loop-effect l = texts_after (drop l.effect-index l.effects) l.left ≡ texts_after l.effects l.initial.left
