-- Environments that differ in ranges, scopes and the effects of context places alone.
use Rattle.std.specs.Prelude.{◌≡◌, ℕ, true, List, Option, Some, None, Result, Ok, ⊤, length, map, slice_get, refl}
use Rattle.std.specs.Option.{option_map, option_map_or}
use Rattle.std.proofs.Common.{ap, sym, subst, ◌∙◌, arith}
use Rattle.std.proofs.lemmas.List.{length-map}
use Rattle.std.proofs.lemmas.Option.{slice_get-map}
use Rattle.alias_base.specs.Answer.{◌>>=◌, all_pass}
use Rattle.alias_base.specs.declared.ids.FunctionId.{FunctionId}
use Rattle.alias_fitting_laws.specs.bare.Bare.{bare, without_range, but_ranges_and_contexts, TablesFit}
use Rattle.alias_fitting_laws.specs.bare.BareLaws.{all_pass_mapped, bare_of_context}
use Rattle.alias_fitting_laws.specs.bare.EvolvedLaws.{Evolves}
use Rattle.alias_step_laws.specs.blocks.FitLaws.{Wider, effects_kept}
use Rattle.alias_step_laws.specs.blocks.WiderLaws.{fit_kept}
use Rattle.alias_rules.specs.function_rules.Rules.{below, tables_fit, types_fit_from, signature_fits}
use Rattle.alias_rules.specs.declared.function_rules.fault.Table.TheVariants.{Declarations, Types}
use Rattle.alias_rules.specs.declared.function_rules.fault.UnitFault.{UnitFault}
use Rattle.alias_hir.specs.ReportNumbers.{summary}
use Rattle.alias_hir.specs.declared.env.Environment.{Environment}
use Rattle.alias_hir.specs.declared.env.Identifier.{Identifier}
use Rattle.alias_hir.specs.declared.hir.HirFunction.{HirFunction}
use Rattle.alias_hir.specs.declared.report.Interned.{Interned}
use Rattle.alias_hir.specs.declared.report.Report.{Report}
use Rattle.alias_hir.specs.declared.signature.Shape.{Shape}
use Rattle.alias_hir.specs.declared.types.Ty.{Ty}
use Rattle.alias_range_pass.specs.places.Keeping.{but_context}
use Rattle.alias_rules.specs.Fitting.{effects_fit, reports_no_invariant}
use Rattle.alias_tables.specs.GrowingLaws.{Grows, grows_self}

-- ---- functions that are the same but for the effects of their context places

bare_slot : (o : Option HirFunction) → option_map bare (option_map but_context o) ≡ option_map bare o
bare_slot None = refl
bare_slot (Some f) = ap Some (bare_of_context f)

summary_slot : (o : Option HirFunction) → summary (option_map but_context o) ≡ summary o
summary_slot None = refl
summary_slot (Some f) = refl

fit_slot : (env : Environment) (o : Option HirFunction)
    → option_map_or (effects_fit env) (option_map but_context o) true ≡ option_map_or (effects_fit env) o true
fit_slot env None = refl
fit_slot env (Some f) = refl

module _ (env more : Environment) (w : Wider env more)
    (same : map but_context more.functions ≡ map but_context env.functions) where
  slot_alike : (k : ℕ) → option_map but_context (slice_get more.functions k)
      ≡ option_map but_context (slice_get env.functions k)
  slot_alike k = sym (slice_get-map but_context more.functions k) ∙ ap (λ fs. slice_get fs k) same
      ∙ slice_get-map but_context env.functions k

  -- whatever doesn't look at the effects of context places is the same of what stands in a slot
  slot_same : {X : Type 0} (g : Option HirFunction → X)
      → ((o : Option HirFunction) → g (option_map but_context o) ≡ g o) → (k : ℕ) → g (slice_get more.functions k)
      ≡ g (slice_get env.functions k)
  slot_same g h k = sym (h (slice_get more.functions k)) ∙ ap g (slot_alike k) ∙ h (slice_get env.functions k)

  summaries_same : (f : FunctionId) → summary (slice_get more.functions f.0) ≡ summary (slice_get env.functions f.0)
  summaries_same f = slot_same summary summary_slot f.0

  -- the rules see nothing but longer tables
  pub evolves_with_contexts : Evolves env more
  evolves_with_contexts = record {
    identifiers = w.identifiers;
    types = w.types;
    count = sym (length-map more.functions but_context) ∙ ap length same ∙ length-map env.functions but_context;
    slots = slot_same (option_map bare) bare_slot;
    effects = effects_kept env more w summaries_same;
    effects_at = λ k h. slot_same (λ o. option_map_or (effects_fit more) o true) (fit_slot more) k
        ∙ fit_kept env more w summaries_same (slice_get env.functions k) h;
  }

-- ---- tables

-- the rule of an identifier, over tables of so many entries
abbrev entry_fits : ℕ → ℕ → Identifier → Result ⊤ UnitFault
entry_fits n m i = do
  _ ← below Declarations n i.declaration_id.0
  below Types m i.type_.0

rules_without_ranges : (n m : ℕ) (is : List Identifier) → all_pass (entry_fits n m) (map without_range is)
    ≡ all_pass (entry_fits n m) is
rules_without_ranges n m is = all_pass_mapped (entry_fits n m) without_range (entry_fits n m) (λ i. refl) is

length_of_alike : (is js : List Identifier) → map without_range js ≡ map without_range is → length js ≡ length is
length_of_alike is js h = sym (length-map js without_range) ∙ ap length h ∙ length-map is without_range

-- tables whose identifiers differ in ranges and scopes alone keep the same rules
tables_alike : (env more : Environment) → map without_range more.identifiers ≡ map without_range env.identifiers
    → more.types ≡ env.types → tables_fit env ≡ Ok tt → tables_fit more ≡ Ok tt
tables_alike env more ids types h =
    sym (rules_without_ranges (length more.identifiers) (length more.types) more.identifiers)
    ∙ ap (all_pass (entry_fits (length more.identifiers) (length more.types))) ids
    ∙ ap (λ n. all_pass (entry_fits n (length more.types)) (map without_range env.identifiers))
    (length_of_alike env.identifiers more.identifiers ids)
    ∙ ap (λ (ts : List Ty). all_pass (entry_fits (length env.identifiers) (length ts))
    (map without_range env.identifiers)) types
    ∙ rules_without_ranges (length env.identifiers) (length env.types) env.identifiers
    ∙ h

-- ---- what changes but ranges, scopes and the effects of context places

grows_equal : (old new : List Interned) → new ≡ old → Grows old new
grows_equal old new h = subst (Grows old) (sym h) (grows_self old)

module _ (env more : Environment) (same : but_ranges_and_contexts more ≡ but_ranges_and_contexts env) where
  ids_same : map without_range more.identifiers ≡ map without_range env.identifiers
  ids_same = ap (λ (e : Environment). e.identifiers) same

  contexts_same : map but_context more.functions ≡ map but_context env.functions
  contexts_same = ap (λ (e : Environment). e.functions) same

  types_same : more.types ≡ env.types
  types_same = ap (λ (e : Environment). e.types) same

  shapes_same : more.shapes ≡ env.shapes
  shapes_same = ap (λ (e : Environment). e.shapes) same

  interned_same : more.interned ≡ env.interned
  interned_same = ap (λ (e : Environment). e.interned) same

  errors_same : more.errors ≡ env.errors
  errors_same = ap (λ (e : Environment). e.errors) same

  wider_alike : Wider env more
  wider_alike =
      let i : length more.identifiers ≡ length env.identifiers =
      length_of_alike env.identifiers more.identifiers ids_same in
      let t : length more.types ≡ length env.types = ap length types_same in
      let f : length more.functions ≡ length env.functions = sym (length-map more.functions but_context)
      ∙ ap length contexts_same ∙ length-map env.functions but_context in
      record {
        identifiers = omega arith;
        types = omega arith;
        functions = omega arith;
        interned = grows_equal env.interned more.interned interned_same;
      }

  abbrev reported : List Report → List Interned → Environment
  reported es is = record env { errors = es; interned = is }

  reports_alike : reported more.errors more.interned ≡ reported env.errors env.interned
  reports_alike = ap (λ es. reported es more.interned) errors_same ∙ ap (reported env.errors) interned_same

  pub tables_alike_fit : TablesFit env → TablesFit more
  tables_alike_fit t = record {
    identifiers = tables_alike env more ids_same types_same t.identifiers;
    types = ap (types_fit_from 0) types_same ∙ t.types;
    signatures = ap (all_pass (λ (s : Shape). signature_fits s.signature)) shapes_same ∙ t.signatures;
    reports = ap (λ (e : Environment). reports_no_invariant e) reports_alike ∙ t.reports;
  }

  pub evolves_alike : Evolves env more
  evolves_alike = evolves_with_contexts env more wider_alike contexts_same
