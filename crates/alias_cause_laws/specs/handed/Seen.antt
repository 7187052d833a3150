-- What an effects pass looked at, in an environment that is computed of what is handed out.
use Rattle.std.specs.Prelude.{◌≡◌, ℕ, ◌-◌, List, ◌∷◌, ◌++◌, Option, Some, None, length, map, slice_get, take}
use Rattle.std.specs.List.{flat_map}
use Rattle.alias_base.specs.declared.ids.FunctionId.{FunctionId}
use Rattle.alias_effects.specs.declared.solved.Solved.{Solved}
use Rattle.alias_graph.specs.Walks.{IsOneOf}
use Rattle.alias_hir.specs.Parts.{param_place}
use Rattle.alias_hir.specs.declared.effect.AliasingEffect.{AliasingEffect}
use Rattle.alias_hir.specs.declared.env.Environment.{Environment}
use Rattle.alias_hir.specs.declared.hir.HirFunction.{HirFunction}
use Rattle.alias_hir.specs.declared.hir.ParamPattern.{ParamPattern}
use Rattle.alias_nested.specs.Analysis.{Analysed}
use Rattle.alias_nested.specs.Created.{created_functions}
use Rattle.alias_nested.specs.Units.{UnitAnalysis}
use Rattle.alias_cause_laws.specs.handed.Captures.{context_summarized}
use Rattle.alias_cause_laws.specs.handed.Spans.{SameRange}
use Rattle.alias_cause_laws.specs.handed.Tables.{declarations}

-- ---- the environment

-- the environment without so many of its last identifiers, and as many types
abbrev pub without_last : ℕ → Environment → Environment
without_last n env = record env {
  identifiers = take (length env.identifiers - n) env.identifiers;
  types = take (length env.types - n) env.types;
}

abbrev pub summarized_by : Option (List AliasingEffect) → HirFunction → HirFunction
summarized_by None f = f
summarized_by (Some summary) f = record f { context = map (context_summarized summary) f.context }

-- a function as the one that creates it finds it: with the effects of context places that its summary gives
abbrev pub as_created : HirFunction → HirFunction
as_created f = summarized_by f.aliasing_effects f

-- The environment that is handed out as it was before these solutions, those of a function and of all behind it: without
-- the identifiers of their temporaries, and with nested functions as those that create them find them.
abbrev pub environment_before : List Solved → Environment → Environment
environment_before later env = record (without_last (length (flat_map (λ (s : Solved). s.temporaries) later)) env) {
  functions = map as_created env.functions;
}

-- ---- what is looked at

-- To the effects pass on a function an environment looks like another: it declares the same, the functions that the
-- function creates are the same, and their parameters have the same ranges.
pub record LooksLike (func : HirFunction) (other env : Environment) : Type 0 where
  pub declares : declarations env ≡ declarations other
  pub created : (id : FunctionId) → IsOneOf id (created_functions func)
      → slice_get env.functions id.0 ≡ slice_get other.functions id.0
  pub params : (id : FunctionId) → IsOneOf id (created_functions func) → (f : HirFunction)
      → slice_get other.functions id.0 ≡ Some f → (p : ParamPattern) → IsOneOf p f.params
      → SameRange env.identifiers other.identifiers (param_place p).identifier.0

-- As the effects pass on a function began, its environment looked like the one that was before its solution, computed of
-- what is handed out.
abbrev pub EachLooksAsHanded : UnitAnalysis → Type 0
EachLooksAsHanded a =
    (xs ys : List Analysed) (x : Analysed) → a.functions ≡ xs ++ x ∷ ys
    → LooksLike x.func (environment_before (map (λ (z : Analysed). z.solved) (x ∷ ys)) a.inferred.unit.env) x.env
