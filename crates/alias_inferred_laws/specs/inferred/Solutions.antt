-- What the functions of the unit that is handed out carry.
use Rattle.std.specs.Prelude.{◌≡◌, Some, None}
use Rattle.alias_hir.specs.declared.hir.HirFunction.{HirFunction}
use Rattle.alias_explain.specs.Explanations.{function_of}
use Rattle.alias_range_pass.specs.Laws.{but_places}
use Rattle.alias_graph.specs.Walks.{IsOneOf}
use Rattle.alias_nested.specs.Analysis.{Analysed}
use Rattle.alias_nested.specs.Roots.{with_effects}
use Rattle.alias_nested.specs.Units.{UnitAnalysis}

-- all of a function but the effects of its places and its summary
abbrev pub but_ranged : HirFunction → HirFunction
but_ranged f = record (but_places f) { aliasing_effects = None }

-- but for these it is the function as its effects pass began, with the effects of its solution on its instructions and
-- terminals
abbrev pub CarriesItsSolution : Analysed → HirFunction → Type 0
CarriesItsSolution x f = but_ranged f ≡ but_ranged (with_effects x)

-- each function that was analysed carries its solution in the unit that is handed out
abbrev pub SolutionsAreCarried : UnitAnalysis → Type 0
SolutionsAreCarried a = (x : Analysed) (f : HirFunction) → IsOneOf x a.functions
    → function_of a.inferred.unit x.solved.function ≡ Some f → CarriesItsSolution x f
