use Rattle.std.proofs.Common.{◌≡◌, ◌++◌, take}
use Rattle.alias_text.specs.Summaries.{summary_lines}
use Rattle.alias_text.proofs.summaries.push_summary_lines.Given as goal

abbrev pub invariant-loop-effect : goal.invariant-loop-effect
invariant-loop-effect l = l.out ≡ l.initial.out ++ summary_lines (take l.effect-index l.effects)
