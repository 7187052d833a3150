use Rattle.std.proofs.Common.{◌≡◌, map, take}
use Rattle.alias_brief.specs.Saying.{said_function}
use Rattle.alias_brief.proofs.saying.said.Given as goal

abbrev pub invariant-loop-of_function : goal.invariant-loop-of_function
invariant-loop-of_function l = l.functions ≡ map said_function (take l.of_function-index l.solved)
