use Rattle.std.proofs.Common.{◌≡◌, ◌++◌, take}
use Rattle.alias_question_text.specs.lints.Explanations.{steps_text}
use Rattle.alias_question_text.proofs.lints.explanations.push_steps.Given as goal

abbrev pub invariant-loop-step : goal.invariant-loop-step
invariant-loop-step l = l.out ≡ l.initial.out ++ steps_text (take l.step-index l.path)
