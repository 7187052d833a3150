-- What is said of a unit and its functions over what a call hands out.
use Rattle.std.specs.Prelude.{List}
use Rattle.alias_hir.specs.declared.env.Environment.{Environment}
use Rattle.alias_hir.specs.declared.env.Unit.{Unit as HirUnit}
use Rattle.alias_hir.specs.declared.hir.HirFunction.{HirFunction}
use Rattle.alias_nested.specs.Analysis.{Analysed}
use Rattle.alias_nested.specs.declared.infer.Inferred.{Inferred}
use Rattle.alias_cause_laws.specs.nested.Nested.{NestedAreRanged}

-- the unit of a function and its environment
abbrev pub unit_with : HirFunction → Environment → HirUnit
unit_with f env = record { function = f; env = env }

-- ranges and summaries of the nested functions of the unit that is handed out, where these functions were analysed
abbrev pub NestedAreRangedIn : List Analysed → Inferred → Type 0
NestedAreRangedIn fs i = NestedAreRanged (record { functions = fs; inferred = i })
