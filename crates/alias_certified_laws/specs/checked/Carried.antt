-- What the functions of a unit that is accepted carry, in the unit that is handed out.
use Rattle.std.specs.Prelude.{◌≡◌, List, Some, option_map}
use Rattle.alias_cause_laws.specs.handed.Carried.{CarriesNoMore}
use Rattle.alias_cert.specs.Functions.{CheckedFunction}
use Rattle.alias_effects.specs.Recording.{with_effects_of}
use Rattle.alias_explain.specs.Explanations.{function_of}
use Rattle.alias_graph.specs.Walks.{IsOneOf}
use Rattle.alias_hir.specs.declared.env.Unit.{Unit as HirUnit}
use Rattle.alias_hir.specs.declared.hir.HirFunction.{HirFunction}
use Rattle.alias_inferred_laws.specs.inferred.Solutions.{but_ranged}
use Rattle.alias_range_pass.specs.places.Keeping.{but_context}

-- each check began with the function that the unit given has, but for the effects of its context places
abbrev pub BeginAsGiven : HirUnit → List CheckedFunction → Type 0
BeginAsGiven u fs = (x : CheckedFunction) → IsOneOf x fs → option_map but_context (function_of u x.solved.function)
    ≡ Some (but_context x.func)

-- but for the effects of its places and its summary it is the function as its check began, with the effects of its
-- solution on its instructions and terminals
abbrev pub CarriesItsSolution : CheckedFunction → HirFunction → Type 0
CarriesItsSolution x f = but_ranged f ≡ but_ranged (with_effects_of x.solved x.func)

-- each function that was checked carries its solution in the unit that is handed out
abbrev pub SolutionsAreCarried : List CheckedFunction → HirUnit → Type 0
SolutionsAreCarried fs u = (x : CheckedFunction) (f : HirFunction) → IsOneOf x fs
    → function_of u x.solved.function ≡ Some f → CarriesItsSolution x f

-- and nothing more
abbrev pub NoMoreIsCarried : List CheckedFunction → HirUnit → Type 0
NoMoreIsCarried fs u = (x : CheckedFunction) (f : HirFunction) → IsOneOf x fs
    → function_of u x.solved.function ≡ Some f → CarriesNoMore x.solved f
