-- What analysing nested functions leaves of an environment, over passes that may drop instructions, as the rules see
-- it.
use Rattle.std.specs.Prelude.{◌≡◌, ℕ, ◌≤◌, true, Ok, List, map, length, slice_get}
use Rattle.std.specs.Option.{option_map}
use Rattle.alias_fitting_laws.specs.bare.Bare.{but_param_effect}
use Rattle.alias_hir.specs.declared.env.Environment.{Environment}
use Rattle.alias_hir.specs.declared.hir.ContextValue.{ContextValue}
use Rattle.alias_hir.specs.declared.hir.HirFunction.{HirFunction}
use Rattle.alias_hir.specs.declared.hir.ParamPattern.{ParamPattern}
use Rattle.alias_hir.specs.declared.place.Place.{Place}
use Rattle.alias_nesting_laws.specs.ClosureLaws.{Among}
use Rattle.alias_nesting_laws.specs.FittingLaws.{is_asked}
use Rattle.alias_nesting_laws.specs.PartLaws.{Part}
use Rattle.alias_range_pass.specs.places.Keeping.{but_effect}
use Rattle.alias_rules.specs.Fitting.{effects_fit, effects_fit_at, function_fits}
use Rattle.alias_rules.specs.Functions.{at_function}
use Rattle.alias_rules.specs.Nesting.{created_in, created_at}
use Rattle.alias_rules.specs.Sharing.{identifiers_at}
use Rattle.alias_rules.specs.declared.rules.Rule.{Rule}
use Rattle.alias_visit.specs.Places.{identifiers_in}

-- what others see of a function, but for the effects of the places: its parameters, its context and what is said of it,
-- and the place of what it returns
pub record Interface : Type 0 where
  pub params : List ParamPattern
  pub context : List Place
  pub context_values : List ContextValue
  pub returns : Place

abbrev pub interface : HirFunction → Interface
interface f = record {
  params = map but_param_effect f.params;
  context = map but_effect f.context;
  context_values = f.context_values;
  returns = f.returns;
}

-- each slot holds its own function: one with the same interface
abbrev pub SlotsKept : Environment → Environment → Type 0
SlotsKept env more = (k : ℕ) → option_map interface (slice_get more.functions k)
    ≡ option_map interface (slice_get env.functions k)

-- Tables grow. Each slot holds its own function, which creates no further function, holds no further identifier, keeps
-- the rules that it kept, and has
-- effects that fit where they did; and effects that fit still do.
pub record Prunes (env more : Environment) : Type 0 where
  pub identifiers : length env.identifiers ≤ length more.identifiers
  pub types : length env.types ≤ length more.types
  pub count : length more.functions ≡ length env.functions
  pub slots : SlotsKept env more
  pub created : (k : ℕ) → Part (created_at more k) (created_at env k)
  pub places : (k : ℕ) → Among (identifiers_at env k) (identifiers_at more k)
  pub rules : (r : Rule) → is_asked r ≡ true → (k : ℕ) → at_function r env k ≡ Ok tt → at_function r more k ≡ Ok tt
  pub effects : (g : HirFunction) → effects_fit env g ≡ true → effects_fit more g ≡ true
  pub effects_at : (k : ℕ) → effects_fit_at env k ≡ true → effects_fit_at more k ≡ true

-- the same of a function beside its environment, which the inference still takes
pub record FunctionPruned (f : HirFunction) (env : Environment) (g : HirFunction) (more : Environment) : Type 0 where
  pub prunes : Prunes env more
  pub interface : interface g ≡ interface f
  pub created : Part (created_in g) (created_in f)
  pub places : Among (identifiers_in env f) (identifiers_in more g)
  pub fits : function_fits g more ≡ true
