use Rattle.std.proofs.Common.{◌≡◌, sum_by, take}
use Rattle.alias_text.specs.Counts.{visits_of}
use Rattle.alias_text.proofs.counts.visit_count.Given as goal

abbrev pub invariant-loop-of_function : goal.invariant-loop-of_function
invariant-loop-of_function l = l.count ≡ sum_by visits_of (take l.of_function-index l.solved)
