use Rattle.std.proofs.Common.{drop}
use Rattle.std.specs.List.{AllByRecursion}
use Rattle.alias_plain.specs.laws.FunctionLaws.{NamesDiffer}
use Rattle.alias_plain.proofs.plain.all_names_differ.Given as goal

-- what is left decides
abbrev pub invariant-loop-func : goal.invariant-loop-func
invariant-loop-func l = AllByRecursion NamesDiffer (drop l.func-index l.functions)
    → AllByRecursion NamesDiffer l.functions
