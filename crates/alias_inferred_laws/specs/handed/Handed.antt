-- The solutions of a unit, over the unit that is handed out.
use Rattle.std.specs.Prelude.{◌≡◌, List, [], ◌∷◌, ◌++◌, Option, Some, None, map}
use Rattle.std.specs.List.{AllByRecursion}
use Rattle.alias_base.specs.declared.ids.FunctionId.{FunctionId}
use Rattle.alias_hir.specs.declared.env.Unit.{Unit as HirUnit}
use Rattle.alias_graph.specs.Walks.{IsOneOf}
use Rattle.alias_nested.specs.Analysis.{Analysed, SolvesItsFlow}
use Rattle.alias_nested.specs.Order.{functions_of, SameInSlot}
use Rattle.alias_nested.specs.Units.{UnitAnalysis}
use Rattle.alias_nested.specs.declared.infer.Inferred.{Inferred}
use Rattle.alias_answer_laws.specs.order.Order.{nested_innermost_first}
use Rattle.alias_inferred_laws.specs.inferred.Solutions.{SolutionsAreCarried}

-- the number of each function that was analysed; None is the root
abbrev pub names_of : List Analysed → List (Option FunctionId)
names_of xs = map (λ (x : Analysed). x.solved.function) xs

-- the function of the number is one of those that were analysed
abbrev pub IsNamed : FunctionId → List Analysed → Type 0
IsNamed id xs = IsOneOf (Some id) (names_of xs)

-- A function that was analysed before another stands in the unit that is handed out as the effects pass on the other
-- one found it: all of it, its
-- summary and its parameters among it, but for the effects of its context places.
abbrev pub EarlierStay : UnitAnalysis → Type 0
EarlierStay a = (xs ys : List Analysed) (x : Analysed) (id : FunctionId) → a.functions ≡ xs ++ x ∷ ys → IsNamed id xs
    → SameInSlot x.env a.inferred.unit.env id.0

-- Each function of the unit once, innermost first, and last the root: what is handed out of each solves its flow as its
-- effects pass began, it carries
-- the effects of its solution, and those that were analysed before it stand as that pass found them.
pub record IsSolvedInOrder (u : HirUnit) (i : Inferred) : Type 0 where
  pub functions : List Analysed
  pub solutions : map (λ (x : Analysed). x.solved) functions ≡ i.solved
  pub order : functions_of i.solved ≡ map Some (nested_innermost_first u) ++ None ∷ []
  pub solve : AllByRecursion SolvesItsFlow functions
  pub carry : SolutionsAreCarried (record { functions = functions; inferred = i })
  pub earlier : EarlierStay (record { functions = functions; inferred = i })
