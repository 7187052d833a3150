-- What a pass of the caller keeps is enough: the function is the same to others, and the inference takes what it took.
use Rattle.std.specs.Prelude.{◌≡◌, ℕ, Bool, true, false, List, [], ◌∷◌, ◌++◌, length, slice_get, Option, Some, None}
use Rattle.std.specs.Prelude.{refl}
use Rattle.std.specs.List.{flat_map}
use Rattle.std.specs.Option.{option_map, option_map_or}
use Rattle.std.proofs.Common.{zero, suc, ap, sym, ◌∙◌, subst, arith}
use Rattle.std.proofs.lemmas.List.{length-map}
use Rattle.alias_base.specs.declared.ids.FunctionId.{FunctionId}
use Rattle.alias_fitting_laws.specs.bare.Bare.{bare}
use Rattle.alias_fitting_laws.specs.bare.EvolvedLaws.{Evolves}
use Rattle.alias_step_laws.specs.blocks.FitLaws.{Wider, effects_kept}
use Rattle.alias_step_laws.specs.blocks.WiderLaws.{fit_kept}
use Rattle.alias_rules.specs.function_rules.Rules.{is_among}
use Rattle.alias_hir.specs.ReportNumbers.{summary}
use Rattle.alias_hir.specs.Values.{created}
use Rattle.alias_hir.specs.declared.env.Environment.{Environment}
use Rattle.alias_hir.specs.declared.hir.HirFunction.{HirFunction}
use Rattle.alias_hir.specs.declared.hir.Instruction.{Instruction}
use Rattle.alias_hir.specs.declared.report.Interned.{Interned}
use Rattle.alias_inner_passes.specs.Passes.{creation, declaration_name_and_type, Keeps}
use Rattle.alias_nesting_laws.specs.PartLaws.{Part, kept, part_nothing, part_both, not_both}
use Rattle.alias_rules.specs.Fitting.{effects_fit}
use Rattle.alias_rules.specs.Nesting.{number_of}
use Rattle.alias_tables.specs.GrowingLaws.{Grows, grows_self}
use Rattle.alias_visit.specs.Places.{identifiers_in}
use Rattle.alias_fitting_laws.specs.pruning.Pruning.{interface, FunctionPruned}
use Rattle.alias_fitting_laws.specs.pruning.PruningLaws.{prunes_evolved}

-- ---- no creation is added

none_first : (o : Option FunctionId) (rest : List ℕ) → ((g : FunctionId) → o ≡ Some g → ⊥) → Part rest []
    → Part (number_of o ++ rest) []
none_first None rest h p = p
none_first (Some g) rest h p = absurd (h g refl)

one_first : (o q : Option FunctionId) (rest all : List ℕ) → ((g : FunctionId) → o ≡ Some g → q ≡ Some g) → Part rest all
    → Part (number_of o ++ rest) (number_of q ++ all)
one_first None q rest all h p = part_both (part_nothing (number_of q)) p
one_first (Some g) q rest all h p = subst (λ z. Part (g.0 ∷ rest) (number_of z ++ all)) (sym (h g refl)) (kept p)

abbrev numbers : List Instruction → List ℕ
numbers is = flat_map (λ (i : Instruction). number_of (created i.value)) is

creations_part : (xs ys : List Instruction)
    → ((k : ℕ) (g : FunctionId) → creation (slice_get ys k) ≡ Some g → creation (slice_get xs k) ≡ Some g)
    → Part (numbers ys) (numbers xs)
creations_part xs [] h = part_nothing (numbers xs)
creations_part [] (y ∷ ys) h = none_first (created y.value) (numbers ys)
    (λ g e. let none : ◌≡◌ {A = Option FunctionId} None (Some g) = h zero g e in cc)
    (creations_part [] ys (λ k g e. h (suc k) g e))
creations_part (x ∷ xs) (y ∷ ys) h = one_first (created y.value) (created x.value) (numbers ys) (numbers xs) (h zero)
    (creations_part xs ys (λ k g e. h (suc k) g e))

-- ---- the environment

positive : (a b : Bool) → (a ≡ false → b ≡ false) → b ≡ true → a ≡ true
positive true b h i = refl
positive false b h i = absurd (not_both b i (h refl))

grows_equal : (old new : List Interned) → new ≡ old → Grows old new
grows_equal old new h = subst (Grows old) (sym h) (grows_self old)

-- a pass of the caller that keeps what it has to
pub pass_prunes : (f : HirFunction) (env : Environment) (g : HirFunction) (more : Environment) → Keeps f env g more
    → FunctionPruned f env g more
pass_prunes f env g more k =
    let ids : length more.identifiers ≡ length env.identifiers =
    sym (length-map more.identifiers declaration_name_and_type) ∙ ap length k.identifiers
    ∙ length-map env.identifiers declaration_name_and_type in
    let types : length more.types ≡ length env.types = ap length k.tables.types in
    let count : length more.functions ≡ length env.functions = ap length k.tables.functions in
    let w : Wider env more = record {
      identifiers = omega arith;
      types = omega arith;
      functions = omega arith;
      interned = grows_equal env.interned more.interned k.tables.interned;
    } in
    let slot : (j : ℕ) → slice_get more.functions j ≡ slice_get env.functions j =
    λ j. ap (λ fs. slice_get fs j) k.tables.functions in
    let e : Evolves env more = record {
      identifiers = omega arith;
      types = omega arith;
      count = count;
      slots = λ j. ap (option_map bare) (slot j);
      effects = effects_kept env more w (λ h. ap summary (slot h.0));
      effects_at = λ j h. ap (λ o. option_map_or (effects_fit more) o true) (slot j)
          ∙ fit_kept env more w (λ h. ap summary (slot h.0)) (slice_get env.functions j) h;
    } in
    let same : interface g ≡ interface f
    = ap (λ ps. interface (record g { params = ps })) k.outside.params
    ∙ ap (λ ps. interface (record g { params = f.params; context = ps })) k.outside.context
    ∙ ap (λ vs. interface (record g { params = f.params; context = f.context; context_values = vs }))
    k.outside.context_values
    ∙ ap (λ p. interface (record g {
      params = f.params;
      context = f.context;
      context_values = f.context_values;
      returns = p;
    })) k.outside.returns in
    record {
      prunes = prunes_evolved env more e;
      interface = same;
      created = creations_part f.instructions g.instructions k.added.creations;
      places = λ x h. positive (is_among (identifiers_in env f) x) (is_among (identifiers_in more g) x) (k.present x) h;
      fits = k.fits;
    }
