-- Which context places are captured of the functions that a function creates, as its effects pass finds them.
use Rattle.std.specs.Prelude.{◌≡◌, if◌then◌else◌, List, ◌∷◌, ◌++◌, Option, Some, map, slice_get}
use Rattle.std.specs.List.{list_any}
use Rattle.alias_base.specs.declared.ids.FunctionId.{FunctionId}
use Rattle.alias_graph.specs.Walks.{IsOneOf}
use Rattle.alias_hir.specs.declared.effect.AliasingEffect.{AliasingEffect}
use Rattle.alias_hir.specs.declared.hir.HirFunction.{HirFunction}
use Rattle.alias_hir.specs.declared.place.Effect.TheVariants.{Read, Capture}
use Rattle.alias_hir.specs.declared.place.Place.{Place}
use Rattle.alias_nested.specs.Analysis.{Analysed}
use Rattle.alias_nested.specs.Annotating.{takes}
use Rattle.alias_nested.specs.Created.{created_functions}
use Rattle.alias_nested.specs.Units.{UnitAnalysis}
use Rattle.alias_inferred_laws.specs.handed.Handed.{IsNamed}

-- a context place is captured where the summary captures or mutates it, and else only read
abbrev pub context_summarized : List AliasingEffect → Place → Place
context_summarized summary p = record p { effect = if list_any (takes p.identifier) summary then Capture else Read }

-- What is found is what is handed out, which has a summary, but that its context places have the effects which that
-- summary gives them.
pub record IsFoundSummarized (found handed : Option HirFunction) : Type 0 where
  pub func : HirFunction
  pub there : handed ≡ Some func
  pub summary : List AliasingEffect
  pub stores : func.aliasing_effects ≡ Some summary
  pub is : found ≡ Some (record func { context = map (context_summarized summary) func.context })

-- As the effects pass on a function begins, each function that it creates was analysed before it, and is what is handed
-- out of it, with the effects of context places that its summary gives: the pass reads as captured those that the
-- summary names as a source or as mutated, and no others.
abbrev pub CreatedAreSummarized : UnitAnalysis → Type 0
CreatedAreSummarized a =
    (xs ys : List Analysed) (x : Analysed) (id : FunctionId) → a.functions ≡ xs ++ x ∷ ys
    → IsOneOf id (created_functions x.func)
    → IsNamed id xs × IsFoundSummarized (slice_get x.env.functions id.0)
    (slice_get a.inferred.unit.env.functions id.0)
