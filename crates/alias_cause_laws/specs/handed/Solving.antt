-- Over what is handed out the flows of functions are solved.
use Rattle.std.specs.Prelude.{◌≡◌, List, ◌∷◌, ◌++◌, map}
use Rattle.alias_effects.specs.Solutions.{IsSolvedUnder}
use Rattle.alias_effects.specs.declared.solved.Solved.{Solved}
use Rattle.alias_hir.specs.declared.env.Environment.{Environment}
use Rattle.alias_nested.specs.Analysis.{Analysed}
use Rattle.alias_nested.specs.Units.{UnitAnalysis}
use Rattle.alias_tables.specs.Tables.{TableLists}
use Rattle.alias_cause_laws.specs.handed.Seen.{environment_before}

-- The entry states that are handed out of the function solve its flow over this environment, and the effects that are
-- handed out are what its blocks record from them, under tables that have the interned effects and the temporaries that
-- are handed out.
pub record SolvesOver (env : Environment) (x : Analysed) : Type 0 where
  pub tables : TableLists
  pub solves : IsSolvedUnder env x.func x.is_function_expression tables x.solved

-- Each function's entry states solve its flow over the environment that was before its solution, computed of what is
-- handed out.
abbrev pub EachSolvesOver : UnitAnalysis → Type 0
EachSolvesOver a =
    (xs ys : List Analysed) (x : Analysed) → a.functions ≡ xs ++ x ∷ ys
    → SolvesOver (environment_before (map (λ (z : Analysed). z.solved) (x ∷ ys)) a.inferred.unit.env) x
