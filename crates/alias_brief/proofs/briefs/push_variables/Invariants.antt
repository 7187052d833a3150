use Rattle.std.proofs.Common.{◌≡◌, ◌++◌, take}
use Rattle.std.specs.List.{AllByRecursion, flat_map}
use Rattle.alias_brief.specs.Briefs.{beyond_variable}
use Rattle.alias_brief.specs.Fitting.{SmallMoreVariable}
use Rattle.alias_brief.proofs.briefs.push_variables.Given as goal

abbrev pub invariant-loop-variable : goal.invariant-loop-variable
invariant-loop-variable l = (l.out ≡ l.initial.out ++ flat_map beyond_variable (take l.variable-index l.variables))
    × AllByRecursion SmallMoreVariable (take l.variable-index l.variables)
