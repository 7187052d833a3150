-- The ranges of the parameters of nested functions, as others' effects passes find them.
use Rattle.std.specs.Prelude.{◌≡◌, ℕ, List, ◌∷◌, ◌++◌, Option, Some, None, slice_get}
use Rattle.alias_base.specs.declared.ids.FunctionId.{FunctionId}
use Rattle.alias_graph.specs.Reach.{end_at}
use Rattle.alias_graph.specs.Walks.{IsOneOf}
use Rattle.alias_hir.specs.Parts.{param_place}
use Rattle.alias_hir.specs.declared.env.Identifier.{Identifier}
use Rattle.alias_hir.specs.declared.hir.HirFunction.{HirFunction}
use Rattle.alias_hir.specs.declared.hir.ParamPattern.{ParamPattern}
use Rattle.alias_nested.specs.Analysis.{Analysed}
use Rattle.alias_nested.specs.Units.{UnitAnalysis}
use Rattle.alias_inferred_laws.specs.handed.Handed.{IsNamed}

abbrev pub start_of : Option Identifier → ℕ
start_of None = 0
start_of (Some i) = i.mutable_range.start.0

-- where the range of the identifier of the number starts; 0 where there is none
abbrev pub start_at : List Identifier → ℕ → ℕ
start_at ids n = start_of (slice_get ids n)

-- the identifier of the number has the same range in both tables
pub record SameRange (old new : List Identifier) (n : ℕ) : Type 0 where
  pub start : start_at new n ≡ start_at old n
  pub end : end_at new n ≡ end_at old n

-- As the effects pass on a function begins, the parameters of the functions that were analysed before it have the
-- ranges that they have in the unit that is handed out.
abbrev pub ParamsStay : UnitAnalysis → Type 0
ParamsStay a =
    (xs ys : List Analysed) (x : Analysed) (id : FunctionId) → a.functions ≡ xs ++ x ∷ ys → IsNamed id xs
    → (f : HirFunction) → slice_get a.inferred.unit.env.functions id.0 ≡ Some f → (p : ParamPattern)
    → IsOneOf p f.params
    → SameRange x.env.identifiers a.inferred.unit.env.identifiers (param_place p).identifier.0
