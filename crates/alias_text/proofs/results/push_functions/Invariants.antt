use Rattle.std.proofs.Common.{◌≡◌, ◌++◌, take}
use Rattle.std.specs.List.{AllByRecursion}
use Rattle.alias_text.specs.Results.{functions_text}
use Rattle.alias_text.specs.Fitting.{FittingSolved, IfCertify}
use Rattle.alias_text.proofs.results.push_functions.Given as goal

-- the functions so far were appended
abbrev pub invariant-loop-of_function : goal.invariant-loop-of_function
invariant-loop-of_function l = (l.out ≡ l.initial.out
    ++ functions_text l.detail l.unit l.summary (take l.of_function-index l.solved))
    × IfCertify l.detail (AllByRecursion (FittingSolved l.unit) (take l.of_function-index l.solved))
