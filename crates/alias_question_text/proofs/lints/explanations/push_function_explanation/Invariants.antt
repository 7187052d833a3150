use Rattle.std.proofs.Common.{◌≡◌, ◌++◌, take}
use Rattle.alias_question_text.specs.lints.Explanations.{function_text}
use Rattle.alias_question_text.proofs.lints.explanations.push_function_explanation.Given as goal

abbrev pub invariant-loop-identifier : goal.invariant-loop-identifier
invariant-loop-identifier l = l.out ≡ l.initial.out ++ function_text (take l.identifier-index l.explained)
