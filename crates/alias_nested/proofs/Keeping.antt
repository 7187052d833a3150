-- What the steps of an analysis keep of a function and its environment.
use Rattle.std.specs.Prelude.{◌≡◌, ℕ, Bool, true, false, if◌then◌else◌, List, [], ◌∷◌, Option, Some, None, Ok, map}
use Rattle.std.specs.Prelude.{slice_get, refl}
use Rattle.std.proofs.Common.{zero, suc, ap, sym, subst, ◌∙◌, arith}
use Rattle.alias_base.specs.AnswerLaws.{both_true}
use Rattle.alias_base.specs.declared.ids.FunctionId.{FunctionId}
use Rattle.alias_fitting_laws.specs.bare.Bare.{but_place_effects, without_range, but_ranges_and_contexts, TablesFit}
use Rattle.alias_fitting_laws.specs.bare.BareLaws.{bare_of_places, bare_of_effects, fits_with_other_places}
use Rattle.alias_fitting_laws.specs.bare.EvolvedLaws.{evolves_self, fits_evolved}
use Rattle.alias_fitting_laws.specs.bare.RangedLaws.{evolves_with_contexts, evolves_alike, tables_alike_fit}
use Rattle.alias_step_laws.specs.blocks.FitLaws.{Wider}
use Rattle.alias_effects.proofs.RecordedDiffers.{recorded_differs}
use Rattle.alias_effects.proofs.StillFits.{pass_end_fits}
use Rattle.alias_effects.specs.Inference.{pass_end, env_after}
use Rattle.alias_effects.specs.Recording.{with_effects_of}
use Rattle.alias_effects.specs.declared.output.PassEnd.{PassEnd}
use Rattle.alias_hir.specs.declared.effect.AliasingEffect.{AliasingEffect}
use Rattle.alias_hir.specs.declared.env.Environment.{Environment}
use Rattle.alias_hir.specs.declared.env.Identifier.{Identifier}
use Rattle.alias_hir.specs.declared.hir.HirFunction.{HirFunction}
use Rattle.alias_hir.specs.declared.place.Effect.TheVariants.{Read, Capture}
use Rattle.alias_hir.specs.declared.place.Place.{Place}
use Rattle.alias_nested.specs.Fitting.{EnvironmentKept, FunctionKept, EnvironmentPruned, SummaryFits}
use Rattle.alias_nested.specs.Annotating.{context_annotated, summarized, reset_at, reset, annotated}
use Rattle.alias_nested.specs.Answers.{IsPassed}
use Rattle.alias_nested.specs.Slots.{emptied}
use Rattle.alias_nested.proofs.Evolving.{pass_evolves}
use Rattle.alias_nesting_laws.specs.Slots.{with_function}
use Rattle.alias_nesting_laws.specs.FittingLaws.{fitted, together}
use Rattle.alias_rules.specs.function_rules.Rules.{is_among}
use Rattle.alias_rules.specs.Nesting.{created_in, created_of}
use Rattle.alias_nesting_laws.specs.PartLaws.{absent}
use Rattle.alias_nesting_laws.specs.SubtreeLaws.{created_among}
use Rattle.alias_fitting_laws.specs.pruning.BelowLaws.{created_once}
use Rattle.alias_fitting_laws.specs.pruning.PassLaws.{pass_prunes}
use Rattle.alias_fitting_laws.specs.pruning.Pruning.{FunctionPruned}
use Rattle.alias_fitting_laws.specs.pruning.PruningLaws.{prunes_self, prunes_through, function_through}
use Rattle.alias_fitting_laws.specs.pruning.PruningLaws.{function_evolved, fits_pruned, function_beside}
use Rattle.alias_fitting_laws.specs.pruning.PutBackLaws.{prunes_back}
use Rattle.alias_ranges.specs.KeptLaws.{ranged_bare, ranged_evolves}
use Rattle.alias_range_pass.specs.Laws.{PassKeeps}
use Rattle.alias_range_pass.specs.places.Keeping.{but_effect}
use Rattle.alias_rules.specs.Fitting.{recorded_within_tables, effects_within_tables, holds_no_call, effects_fit}
use Rattle.alias_rules.specs.Fitting.{function_fits}
use Rattle.alias_rules.specs.RecordedLaws.{fits_with_other_effects}
use Rattle.alias_tables.specs.GrowingLaws.{grows_self}

-- ---- tables

pub tables_of_fitting : (f : HirFunction) (env : Environment) → function_fits f env ≡ true → TablesFit env
tables_of_fitting f env h = let p = fitted f env h in
    record { identifiers = p.tables; types = p.types; signatures = p.signatures; reports = p.reports }

-- a function that the inference takes, over what its environment has become
pub still_fits : (env more : Environment) → EnvironmentKept env more → (g : HirFunction) → function_fits g env ≡ true
    → function_fits g more ≡ true
still_fits env more k g h = fits_evolved env more k.evolves k.tables.identifiers k.tables.types k.tables.signatures
    k.tables.reports g h

-- nothing but ranges, scopes and the effects of context places changed
environment_alike : (env more : Environment) → but_ranges_and_contexts more ≡ but_ranges_and_contexts env
    → TablesFit env → EnvironmentKept env more
environment_alike env more same t = record
    { evolves = evolves_alike env more same; tables = tables_alike_fit env more same t }

-- ---- functions

kept_self : (f : HirFunction) (env : Environment) → function_fits f env ≡ true → FunctionKept f env f env
kept_self f env h = record { evolves = evolves_self env; still = refl; fits = h }

pub kept_unchanged : (f g : HirFunction) (env more : Environment) → g ≡ f → more ≡ env → function_fits f env ≡ true
    → FunctionKept f env g more
kept_unchanged f g env more same all h =
    subst (λ z. FunctionKept f env z more) (sym same) (subst (FunctionKept f env f) (sym all) (kept_self f env h))

-- the effects pass
pub effects_keep : (func : HirFunction) (env : Environment) (b : Bool) (e : PassEnd) → function_fits func env ≡ true
    → pass_end env func b ≡ Ok e → FunctionKept func env (with_effects_of e.solved func) (env_after env e)
effects_keep func env b e h i = record {
  evolves = pass_evolves func env b e h i;
  still = sym (bare_of_effects func (with_effects_of e.solved func) (recorded_differs e.solved func));
  fits = pass_end_fits func env b e h i;
}

-- ---- the range pass

-- after the pass the function is the same but for what is inferred, and the inference takes it
pub ranged_keeps : (f g : HirFunction) (env more : Environment) → function_fits g more ≡ true → but_place_effects g
    ≡ but_place_effects f → PassKeeps env more → FunctionKept f env g more
ranged_keeps f g env more fits still kept =
    record { evolves = ranged_evolves env more kept; still = ranged_bare f g still; fits = fits }

-- ---- what follows from the summary

context_stays : (c : Bool) (p : Place) → but_effect (record p { effect = if c then Capture else Read }) ≡ but_effect p
context_stays c p = refl

contexts_stay : (summary : List AliasingEffect) (ps : List Place) → map but_effect (map (context_annotated summary) ps)
    ≡ map but_effect ps
contexts_stay summary [] = refl
contexts_stay summary (p ∷ ps) = ap (λ z. but_effect p ∷ z) (contexts_stay summary ps)

reset_stays : (is : List Identifier) (n : ℕ) (o : Option Identifier) → slice_get is n ≡ o
    → map without_range (reset_at is n o) ≡ map without_range is
reset_stays is n None h = refl
reset_stays [] n (Some x) h = refl
reset_stays (i ∷ is) zero (Some x) h = let same : i ≡ x = cc in
    ap (λ y. without_range y ∷ map without_range is) (sym same)
reset_stays (i ∷ is) (suc n) (Some x) h = ap (λ ys. without_range i ∷ ys) (reset_stays is n (Some x) h)

resets_stay : (ps : List Place) (is : List Identifier) → map without_range (reset ps is) ≡ map without_range is
resets_stay [] is = refl
resets_stay (p ∷ ps) is = resets_stay ps (reset_at is p.identifier.0 (slice_get is p.identifier.0))
    ∙ reset_stays is p.identifier.0 (slice_get is p.identifier.0) refl

-- the effects of a function with another summary
summarized_effects : (env : Environment) (f : HirFunction) (summary : List AliasingEffect) → effects_fit env f ≡ true
    → SummaryFits env summary → effects_fit env (record f { aliasing_effects = Some summary }) ≡ true
summarized_effects env f summary h s =
    let g : HirFunction = record f { aliasing_effects = Some summary } in
    let a = both_true (effects_within_tables env f) (holds_no_call f.aliasing_effects) h in
    let b = both_true _ (recorded_within_tables env f.aliasing_effects) a.0 in
    together (effects_within_tables env g) (holds_no_call g.aliasing_effects)
    (together _ (recorded_within_tables env (Some summary)) b.0 s.within) s.no_call

pub annotated_keeps : (summary : List AliasingEffect) (f : HirFunction) (env : Environment) → function_fits f env ≡ true
    → SummaryFits env summary
    → FunctionKept f env (annotated summary (f, env)).0 (annotated summary (f, env)).1
annotated_keeps summary f env h s =
    let g : HirFunction = record f { aliasing_effects = Some summary } in
    let after : HirFunction = summarized summary f in
    let more : Environment = (annotated summary (f, env)).1 in
    let k : EnvironmentKept env more = environment_alike env more
    (ap (λ is. record (but_ranges_and_contexts env) { identifiers = is })
    (resets_stay after.context env.identifiers)) (tables_of_fitting f env h) in
    let stored : function_fits g env ≡ true =
    fits_with_other_effects f g env refl h (summarized_effects env f summary (fitted f env h).effects s) in
    let places : but_place_effects g ≡ but_place_effects after =
    ap (λ ps. record (but_place_effects g) { context = ps }) (sym (contexts_stay summary f.context)) in
    let set : function_fits after env ≡ true = fits_with_other_places g after env places stored in
    record {
      evolves = k.evolves;
      still = sym (bare_of_places g after places) ∙ sym (bare_of_effects f g refl);
      fits = still_fits env more k after set;
    }

-- effects that name entries of the tables still do
pub summary_kept : (env more : Environment) (f : HirFunction)
    → ((g : HirFunction) → effects_fit env g ≡ true → effects_fit more g ≡ true) → function_fits f env ≡ true
    → (summary : List AliasingEffect) → SummaryFits env summary → SummaryFits more summary
summary_kept env more f k h summary s =
    let g : HirFunction = record f { aliasing_effects = Some summary } in
    let fits : effects_fit more g ≡ true = k g (summarized_effects env f summary (fitted f env h).effects s) in
    let a = both_true (effects_within_tables more g) (holds_no_call g.aliasing_effects) fits in
    record { within = (both_true _ (recorded_within_tables more (Some summary)) a.0).1; no_call = a.1 }

-- ---- over passes of the caller

-- what the passes of the inference keep
pub kept_pruned : (f : HirFunction) (env : Environment) (g : HirFunction) (more : Environment)
    → FunctionKept f env g more → FunctionPruned f env g more
kept_pruned f env g more k = function_evolved f g env more k.evolves k.still k.fits

-- what a pass of the caller keeps
pub passed_pruned : (keeps_all : Bool) (f : HirFunction) (env : Environment) (g : HirFunction) (more : Environment)
    → IsPassed keeps_all (f, env) (g, more) → FunctionPruned f env g more
passed_pruned keeps_all f env g more p = pass_prunes f env g more p.keeps

-- the range pass after a pass of the caller
pub range_pruned : (keeps_all : Bool) (f₀ f₁ f₂ : HirFunction) (e₀ e₁ e₂ : Environment)
    → IsPassed keeps_all (f₀, e₀) (f₁, e₁) → FunctionKept f₁ e₁ f₂ e₂ → FunctionPruned f₀ e₀ f₂ e₂
range_pruned keeps_all f₀ f₁ f₂ e₀ e₁ e₂ first ranged =
    function_through f₀ f₁ f₂ e₀ e₁ e₂ (passed_pruned keeps_all f₀ e₀ f₁ e₁ first) (kept_pruned f₁ e₁ f₂ e₂ ranged)

pub more_pruned : (keeps_all : Bool) (f₀ f₁ f₂ : HirFunction) (e₀ e₁ e₂ : Environment) → FunctionPruned f₀ e₀ f₁ e₁
    → IsPassed keeps_all (f₁, e₁) (f₂, e₂) → FunctionPruned f₀ e₀ f₂ e₂
more_pruned keeps_all f₀ f₁ f₂ e₀ e₁ e₂ before passed =
    function_through f₀ f₁ f₂ e₀ e₁ e₂ before (passed_pruned keeps_all f₁ e₁ f₂ e₂ passed)

-- what is set at the end
pub annotated_pruned : (keeps_all : Bool) (f₀ f₁ f₂ f₃ f₄ f₅ : HirFunction) (e₀ e₁ e₂ e₃ e₄ e₅ : Environment)
    (summary : List AliasingEffect) → IsPassed keeps_all (f₀, e₀) (f₁, e₁) → FunctionKept f₁ e₁ f₂ e₂
    → SummaryFits e₂ summary
    → IsPassed keeps_all (f₂, e₂) (f₃, e₃) → IsPassed keeps_all (f₃, e₃) (f₄, e₄) → (f₅, e₅)
    ≡ annotated summary (f₄, e₄) → FunctionPruned f₀ e₀ f₅ e₅
annotated_pruned keeps_all f₀ f₁ f₂ f₃ f₄ f₅ e₀ e₁ e₂ e₃ e₄ e₅ summary first ranged s second third set =
    let two : FunctionPruned f₂ e₂ f₄ e₄ =
    more_pruned keeps_all f₂ f₃ f₄ e₂ e₃ e₄ (passed_pruned keeps_all f₂ e₂ f₃ e₃ second) third in
    let here : SummaryFits e₄ summary = summary_kept e₂ e₄ f₂ two.prunes.effects ranged.fits summary s in
    let after : HirFunction × Environment = annotated summary (f₄, e₄) in
    let last : FunctionPruned f₄ e₄ after.0 after.1 =
    kept_pruned f₄ e₄ after.0 after.1 (annotated_keeps summary f₄ e₄ two.fits here) in
    let whole : FunctionPruned f₀ e₀ after.0 after.1
    = function_through f₀ f₂ after.0 e₀ e₂ after.1 (range_pruned keeps_all f₀ f₁ f₂ e₀ e₁ e₂ first ranged)
    (function_through f₂ f₄ after.0 e₂ e₄ after.1 two last) in
    subst (λ (p : HirFunction × Environment). FunctionPruned f₀ e₀ p.0 p.1) (sym set) whole

-- ---- environments over passes of the caller

pub pruned_self : (f : HirFunction) (env : Environment) → function_fits f env ≡ true → EnvironmentPruned env env
pruned_self f env h = record { prunes = prunes_self env; tables = tables_of_fitting f env h }

pub pruned_through : (a b c : Environment) → EnvironmentPruned a b → EnvironmentPruned b c → EnvironmentPruned a c
pruned_through a b c j k = record { prunes = prunes_through a b c j.prunes k.prunes; tables = k.tables }

-- a function that the inference takes, over what its environment has become
pub pruned_fits : (env more : Environment) → EnvironmentPruned env more → (g : HirFunction) → function_fits g env ≡ true
    → function_fits g more ≡ true
pruned_fits env more k g h = fits_pruned env more k.prunes k.tables g h

pub pruned_beside : (env more : Environment) → EnvironmentPruned env more → (g : HirFunction) → function_fits g env
    ≡ true → FunctionPruned g env g more
pruned_beside env more k g h = function_beside env more k.prunes k.tables g h

-- a function that another one creates doesn't create itself
pub not_itself : (env : Environment) (holder f : HirFunction) (id : FunctionId) → function_fits holder env ≡ true
    → is_among (created_in holder) id.0 ≡ true → slice_get env.functions id.0 ≡ Some f → is_among (created_in f) id.0
    ≡ false
not_itself env holder f id h named at =
    let p = fitted holder env h in
    let within : is_among p.below id.0 ≡ true = created_among env holder p.below p.tree id.0 named in
    absent (is_among (created_in f) id.0) (λ i.
    created_once env holder p.below id.0 id.0 p.tree within
    (subst (λ o. is_among (created_of o) id.0 ≡ true) (sym at) i) named)

-- a function that is put back
pub environment_back : (env : Environment) (id : FunctionId) (f g : HirFunction) (out after back : Environment)
    → slice_get env.functions id.0 ≡ Some f → is_among (created_in f) id.0 ≡ false → out
    ≡ with_function id (emptied f.returns) env → back ≡ with_function id g after
    → FunctionPruned f out g after → EnvironmentPruned env back
environment_back env id f g out after back at other is put k =
    let t = tables_of_fitting g after k.fits in
    let whole : EnvironmentPruned env (with_function id g after) = record {
      prunes = prunes_back env after id f g (emptied f.returns) at refl refl other
          (subst (λ e. FunctionPruned f e g after) is k);
      tables = record { identifiers = t.identifiers; types = t.types; signatures = t.signatures; reports = t.reports };
    } in
    subst (EnvironmentPruned env) (sym put) whole

-- ---- the root

abbrev unreported : Environment → Environment
unreported e = record e { errors = [] }

-- without its reports the environment keeps its rules
unreported_tables : (f : HirFunction) (env : Environment) → function_fits f env ≡ true
    → EnvironmentKept env (unreported env)
unreported_tables f env h =
    let t = tables_of_fitting f env h in
    let w : Wider env (unreported env) = record {
      identifiers = omega arith;
      types = omega arith;
      functions = omega arith;
      interned = grows_self env.interned;
    } in
    record {
      evolves = evolves_with_contexts env (unreported env) w refl;
      tables = record {
        identifiers = t.identifiers;
        types = t.types;
        signatures = t.signatures;
        reports = (both_true _ _ t.reports).1;
      };
    }

-- the root after the validations, without reports
pub unreported_fits : (f : HirFunction) (env after : Environment) → function_fits f env ≡ true → unreported after
    ≡ unreported env → function_fits f (unreported after) ≡ true
unreported_fits f env after h same = subst (λ e. function_fits f e ≡ true) (sym same)
    (still_fits env (unreported env) (unreported_tables f env h) f h)
