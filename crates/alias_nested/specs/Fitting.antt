-- What the analysis of nested functions keeps.
use Rattle.std.specs.Prelude.{◌≡◌, true, List, Some}
use Rattle.std.specs.List.{list_all}
use Rattle.alias_hir.specs.declared.effect.AliasingEffect.{AliasingEffect}
use Rattle.alias_hir.specs.declared.env.Environment.{Environment}
use Rattle.alias_hir.specs.declared.hir.HirFunction.{HirFunction}
use Rattle.alias_rules.specs.Fitting.{effect_within_tables, holds_no_call, function_fits}
use Rattle.alias_fitting_laws.specs.bare.Bare.{bare, TablesFit}
use Rattle.alias_fitting_laws.specs.bare.EvolvedLaws.{Evolves}
use Rattle.alias_fitting_laws.specs.pruning.Pruning.{Prunes}

-- what the passes of the inference keep: tables that still keep their rules, and functions that are the same but for
-- what is inferred
pub record EnvironmentKept (old new : Environment) : Type 0 where
  pub evolves : Evolves old new
  pub tables : TablesFit new

-- a function that is the same but for what is inferred, and that the inference still takes
pub record FunctionKept (f : HirFunction) (env : Environment) (f' : HirFunction) (env' : Environment) : Type 0 where
  pub evolves : Evolves env env'
  pub still : bare f' ≡ bare f
  pub fits : function_fits f' env' ≡ true

-- What the analysis keeps over passes of the caller: tables that still keep their rules, and slots that hold their own
-- functions, which have lost at most
-- some of what they create.
pub record EnvironmentPruned (old new : Environment) : Type 0 where
  pub prunes : Prunes old new
  pub tables : TablesFit new

-- a summary that names entries of the tables, and holds no call
pub record SummaryFits (env : Environment) (summary : List AliasingEffect) : Type 0 where
  pub within : list_all (effect_within_tables env) summary ≡ true
  pub no_call : holds_no_call (Some summary) ≡ true
