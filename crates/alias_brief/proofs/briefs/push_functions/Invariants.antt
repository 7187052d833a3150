use Rattle.std.proofs.Common.{◌≡◌, ◌++◌, drop}
use Rattle.alias_brief.specs.Briefs.{functions_from}
use Rattle.alias_brief.specs.Fitting.{FittingFunctions}
use Rattle.alias_brief.proofs.briefs.push_functions.Given as goal

-- the functions that are left complete the text, and all fit where they do
abbrev pub invariant-loop-position : goal.invariant-loop-position
invariant-loop-position l =
    (l.out ++ functions_from l.unit l.summary l.beyond l.position (drop l.position l.solved)
    ≡ l.initial.out ++ functions_from l.unit l.summary l.beyond 0 l.solved)
    × (FittingFunctions l.unit l.beyond l.position (drop l.position l.solved)
    → FittingFunctions l.unit l.beyond 0 l.solved)
