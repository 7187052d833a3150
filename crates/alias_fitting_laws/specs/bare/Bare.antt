-- All of a function but what is inferred of it.
use Rattle.std.specs.Prelude.{◌≡◌, ℕ, true, List, map, None, Ok}
use Rattle.alias_rules.specs.function_rules.Rules.{tables_fit, types_fit, signatures_fit}
use Rattle.alias_hir.specs.declared.env.Environment.{Environment}
use Rattle.alias_hir.specs.declared.env.Identifier.{Identifier}
use Rattle.alias_hir.specs.declared.hir.HirFunction.{HirFunction}
use Rattle.alias_hir.specs.declared.hir.ParamPattern.{ParamPattern}
use Rattle.alias_hir.specs.declared.hir.ParamPattern.TheVariants as param
use Rattle.alias_hir.specs.declared.place.Place.{Place}
use Rattle.alias_range_pass.specs.places.Keeping.{but_effect, but_effects, but_context}
use Rattle.alias_rules.specs.Fitting.{reports_no_invariant}
use Rattle.alias_rules.specs.RecordedLaws.{without_effects}

-- the identifiers of places
abbrev pub ids : List Place → List ℕ
ids ps = map (λ (p : Place). p.identifier.0) ps

-- all of a parameter but the effect of its place
abbrev pub but_param_effect : ParamPattern → ParamPattern
but_param_effect (param.Place p) = param.Place (but_effect p)
but_param_effect (param.Spread s) = param.Spread (record s { place = but_effect s.place })

-- all of a function but the effects of its places
abbrev pub but_place_effects : HirFunction → HirFunction
but_place_effects f = record (but_effects f)
    { params = map but_param_effect f.params; context = map but_effect f.context }

-- all of a function but what is inferred of it: the effects of its places, what its instructions and terminals record,
-- and its summary
abbrev pub bare : HirFunction → HirFunction
bare f = but_place_effects (without_effects f)

-- ---- the environment

-- all of an identifier but its range and its scope
abbrev pub without_range : Identifier → Identifier
without_range i = record i { mutable_range = record { start = record { 0 = 0 }; end = record { 0 = 0 } }; scope = None }

-- all of the environment but ranges, scopes and the effects of context places
abbrev pub but_ranges_and_contexts : Environment → Environment
but_ranges_and_contexts env = record env
    { identifiers = map without_range env.identifiers; functions = map but_context env.functions }

-- the tables keep their rules, and no report says that an invariant was broken
pub record TablesFit (env : Environment) : Type 0 where
  pub identifiers : tables_fit env ≡ Ok tt
  pub types : types_fit env ≡ Ok tt
  pub signatures : signatures_fit env ≡ Ok tt
  pub reports : reports_no_invariant env ≡ true
