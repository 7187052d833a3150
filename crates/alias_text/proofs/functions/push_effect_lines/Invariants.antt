use Rattle.std.proofs.Common.{◌≡◌, ◌++◌, take}
use Rattle.alias_text.specs.Lines.{effect_lines}
use Rattle.alias_text.proofs.functions.push_effect_lines.Given as goal

abbrev pub invariant-loop-effect : goal.invariant-loop-effect
invariant-loop-effect l = l.out ≡ l.initial.out ++ effect_lines l.number (take l.effect-index l.effects)
