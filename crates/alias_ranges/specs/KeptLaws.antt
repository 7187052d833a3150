-- What the range pass keeps is enough for the rules: a function that keeps them still does.
use Rattle.std.specs.Prelude.{◌≡◌, true, List, [], ◌∷◌, length, map, refl}
use Rattle.std.proofs.Common.{ap, sym, subst, ◌∙◌, arith}
use Rattle.std.proofs.lemmas.List.{length-map}
use Rattle.alias_base.specs.AnswerLaws.{both_true}
use Rattle.alias_fitting_laws.specs.bare.Bare.{bare, but_place_effects, without_range, but_ranges_and_contexts}
use Rattle.alias_fitting_laws.specs.bare.Bare.{TablesFit}
use Rattle.alias_fitting_laws.specs.bare.BareLaws.{bare_of_places, fits_with_other_places}
use Rattle.alias_fitting_laws.specs.bare.EvolvedLaws.{Evolves, fits_evolved}
use Rattle.alias_fitting_laws.specs.bare.RangedLaws.{evolves_with_contexts, tables_alike_fit}
use Rattle.alias_step_laws.specs.blocks.FitLaws.{Wider}
use Rattle.alias_hir.specs.declared.env.Environment.{Environment}
use Rattle.alias_hir.specs.declared.env.Identifier.{Identifier}
use Rattle.alias_hir.specs.declared.hir.HirFunction.{HirFunction}
use Rattle.alias_hir.specs.declared.report.Interned.{Interned}
use Rattle.alias_hir.specs.declared.report.Report.{Report}
use Rattle.alias_nesting_laws.specs.FittingLaws.{fitted}
use Rattle.alias_range_pass.specs.Laws.{PassKeeps}
use Rattle.alias_range_pass.specs.places.Keeping.{but_context, but_range}
use Rattle.alias_rules.specs.Fitting.{reports_no_invariant, function_fits}
use Rattle.alias_tables.specs.GrowingLaws.{Grows, grows_self}

-- ---- the environment

without_twice : (is : List Identifier) → map without_range (map but_range is) ≡ map without_range is
without_twice [] = refl
without_twice (i ∷ is) = ap (λ js. without_range i ∷ js) (without_twice is)

abbrev without_ranges : List Identifier → List Identifier
without_ranges is = map without_range is

-- the environment without its reports
abbrev pub unreported : Environment → Environment
unreported env = record env { errors = [] }

module _ (env more : Environment) (kept : PassKeeps env more) where
  identifiers_alike : map without_range more.identifiers ≡ map without_range env.identifiers
  identifiers_alike = sym (without_twice more.identifiers)
      ∙ ap (λ (e : Environment). without_ranges e.identifiers) kept.rest ∙ without_twice env.identifiers

  contexts_alike : map but_context more.functions ≡ map but_context env.functions
  contexts_alike = ap (λ (e : Environment). e.functions) kept.rest

  interned_same : more.interned ≡ env.interned
  interned_same = ap (λ (e : Environment). e.interned) kept.rest

  -- but for its reports the environment differs in ranges and the effects of context places alone
  pub unreported_alike : but_ranges_and_contexts (unreported more) ≡ but_ranges_and_contexts (unreported env)
  unreported_alike =
      ap (λ is. record (but_ranges_and_contexts (unreported more)) { identifiers = is })
      (sym (without_twice more.identifiers))
      ∙ ap (λ (e : Environment). record e { identifiers = without_ranges e.identifiers }) kept.rest
      ∙ ap (λ is. record (but_ranges_and_contexts (unreported env)) { identifiers = is })
      (without_twice env.identifiers)

  grown : Grows env.interned more.interned
  grown = subst (Grows env.interned) (sym interned_same) (grows_self env.interned)

  wider : Wider env more
  wider =
      let i : length more.identifiers ≡ length env.identifiers = sym (length-map more.identifiers without_range)
      ∙ ap length identifiers_alike ∙ length-map env.identifiers without_range in
      let t : length more.types ≡ length env.types = ap (λ (e : Environment). length e.types) kept.rest in
      let f : length more.functions ≡ length env.functions = sym (length-map more.functions but_context)
      ∙ ap length contexts_alike ∙ length-map env.functions but_context in
      record { identifiers = omega arith; types = omega arith; functions = omega arith; interned = grown }

  -- the rules see no change of the environment
  pub ranged_evolves : Evolves env more
  ranged_evolves = evolves_with_contexts env more wider contexts_alike

  -- the tables keep their rules
  ranged_tables : TablesFit env → reports_no_invariant more ≡ true → TablesFit more
  ranged_tables t reports =
      let before : TablesFit (unreported env) =
      record {
        identifiers = t.identifiers;
        types = t.types;
        signatures = t.signatures;
        reports = (both_true _ _ t.reports).1;
      } in
      let after : TablesFit (unreported more) =
      tables_alike_fit (unreported env) (unreported more) unreported_alike before in
      record { identifiers = after.identifiers; types = after.types; signatures = after.signatures; reports = reports }

  abbrev reported : List Report → List Interned → Environment
  reported es is = record env { errors = es; interned = is }

  -- where the reports stay, none says that an invariant was broken
  same_reports : more.errors ≡ env.errors → reports_no_invariant env ≡ true → reports_no_invariant more ≡ true
  same_reports errors h =
      ap (λ es. reports_no_invariant (reported es more.interned)) errors
      ∙ ap (λ is. reports_no_invariant (reported env.errors is)) interned_same
      ∙ h

-- ---- the function

pub tables_of : (f : HirFunction) (env : Environment) → function_fits f env ≡ true → TablesFit env
tables_of f env h = let p = fitted f env h in
    record { identifiers = p.tables; types = p.types; signatures = p.signatures; reports = p.reports }

-- a function that fits, and of which nothing but effects of places has changed, fits after the pass where no report
-- says that an invariant was broken
pub ranged_fits : (f g : HirFunction) (env more : Environment) → function_fits f env ≡ true → but_place_effects g
    ≡ but_place_effects f → PassKeeps env more → reports_no_invariant more ≡ true → function_fits g more ≡ true
ranged_fits f g env more h still kept reports =
    let t : TablesFit more = ranged_tables env more kept (tables_of f env h) reports in
    fits_with_other_places f g more (sym still)
    (fits_evolved env more (ranged_evolves env more kept) t.identifiers t.types t.signatures t.reports f h)

-- the same where the reports stay
pub silent_fits : (f g : HirFunction) (env more : Environment) → function_fits f env ≡ true → but_place_effects g
    ≡ but_place_effects f → PassKeeps env more → more.errors ≡ env.errors → function_fits g more ≡ true
silent_fits f g env more h still kept errors =
    ranged_fits f g env more h still kept (same_reports env more kept errors (tables_of f env h).reports)

-- the function is the same but for what is inferred of it
pub ranged_bare : (f g : HirFunction) → but_place_effects g ≡ but_place_effects f → bare g ≡ bare f
ranged_bare f g still = sym (bare_of_places f g (sym still))
