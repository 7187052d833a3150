use Rattle.std.proofs.Common.{◌≡◌, ◌++◌, take}
use Rattle.std.specs.List.{AllByRecursion, flat_map}
use Rattle.alias_brief.specs.Briefs.{beyond_value}
use Rattle.alias_brief.specs.Fitting.{FittingMoreValue}
use Rattle.alias_brief.proofs.briefs.push_values.Given as goal

abbrev pub invariant-loop-value : goal.invariant-loop-value
invariant-loop-value l = (l.out ≡ l.initial.out ++ flat_map beyond_value (take l.value-index l.values))
    × AllByRecursion FittingMoreValue (take l.value-index l.values)
