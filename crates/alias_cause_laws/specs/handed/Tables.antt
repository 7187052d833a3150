-- What an effects pass finds in the tables: what the unit declares, and what passes before it added.
use Rattle.std.specs.Prelude.{◌≡◌, List, [], ◌∷◌, ◌++◌, map}
use Rattle.std.specs.List.{flat_map}
use Rattle.alias_fitting_laws.specs.bare.Bare.{without_range}
use Rattle.alias_hir.specs.declared.env.Environment.{Environment}
use Rattle.alias_hir.specs.declared.env.Unit.{Unit as HirUnit}
use Rattle.alias_tables.specs.declared.temporaries.Temporary.{Temporary}
use Rattle.alias_tables.specs.write_back.WriteBack.{with_identifiers}
use Rattle.alias_nested.specs.Analysis.{Analysed}
use Rattle.alias_nested.specs.Units.{UnitAnalysis}

-- what an environment declares: names and types of identifiers, types, shapes, and what is asked of the inference; all
-- but ranges, scopes, functions and reports
abbrev pub declarations : Environment → Environment
declarations env = record env {
  identifiers = map without_range env.identifiers;
  functions = [];
  errors = [];
  interned = [];
}

-- the temporaries of these functions, in their order
abbrev pub temporaries_of : List Analysed → List Temporary
temporaries_of xs = flat_map (λ (x : Analysed). x.solved.temporaries) xs

-- what the environment declares with an identifier, of a type of its own, behind its own ones for each temporary of
-- these functions
abbrev pub declared_with : Environment → List Analysed → Environment
declared_with env xs = declarations (with_identifiers (temporaries_of xs) env)

-- As the effects pass on a function begins, the environment declares what the unit given does, and the temporaries of
-- the functions before it, and no more;
-- and so does the unit that is handed out, with the temporaries of all functions.
pub record DeclareAsGiven (u : HirUnit) (a : UnitAnalysis) : Type 0 where
  pub begun : (xs ys : List Analysed) (x : Analysed) → a.functions ≡ xs ++ x ∷ ys → declarations x.env
      ≡ declared_with u.env xs
  pub handed : declarations a.inferred.unit.env ≡ declared_with u.env a.functions
