use Rattle.std.proofs.Common.{◌≡◌, ◌++◌, take}
use Rattle.alias_text.specs.Lines.{end_lines}
use Rattle.alias_text.proofs.functions.push_end_lines.Given as goal

abbrev pub invariant-loop-effect : goal.invariant-loop-effect
invariant-loop-effect l = l.out ≡ l.initial.out ++ end_lines (take l.effect-index l.effects)
