-- The order in which the functions of a unit are analysed.
use Rattle.std.specs.Prelude.{List}
use Rattle.alias_base.specs.declared.ids.FunctionId.{FunctionId}
use Rattle.alias_hir.specs.declared.env.Unit.{Unit as HirUnit}
use Rattle.alias_nested.specs.Analysis.{most_levels}
use Rattle.alias_nested.specs.Order.{below_innermost_first}

-- the nested functions of a unit, innermost first
abbrev pub nested_innermost_first : HirUnit → List FunctionId
nested_innermost_first u = below_innermost_first most_levels u.function u.env
