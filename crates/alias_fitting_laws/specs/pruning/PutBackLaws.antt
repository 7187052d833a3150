-- A function was taken out of its slot, and is put back as its analysis has left it: each slot holds its own function
-- again.
use Rattle.std.specs.Prelude.{◌≡◌, ℕ, true, false, List, [], ◌∷◌, Option, Some, None, Ok, Err, length, map, slice_get}
use Rattle.std.specs.Prelude.{slice_set, refl, if◌then◌else◌}
use Rattle.std.specs.List.{list_all}
use Rattle.std.specs.Option.{option_map, option_map_or}
use Rattle.std.proofs.Common.{zero, suc, ap, sym, subst, ◌∙◌, arith}
use Rattle.std.proofs.lemmas.List.{length-map}
use Rattle.alias_base.specs.AnswerLaws.{both_true}
use Rattle.alias_base.specs.declared.ids.FunctionId.{FunctionId}
use Rattle.alias_step_laws.specs.blocks.FitLaws.{Wider, named_kept}
use Rattle.alias_rules.specs.function_rules.Rules.{is_among, values_fit}
use Rattle.alias_rules.specs.declared.function_rules.fault.UnitFault.TheVariants as fault
use Rattle.alias_hir.specs.ReportNumbers.{summary}
use Rattle.alias_hir.specs.declared.effect.AliasingEffect.{AliasingEffect}
use Rattle.alias_hir.specs.declared.env.Environment.{Environment}
use Rattle.alias_hir.specs.declared.hir.HirFunction.{HirFunction}
use Rattle.alias_hir.specs.declared.place.Place.{Place}
use Rattle.alias_nesting_laws.specs.ClosureLaws.{Among}
use Rattle.alias_nesting_laws.specs.FittingLaws.{is_asked, fitted}
use Rattle.alias_nesting_laws.specs.PartLaws.{Part, part_among}
use Rattle.alias_nesting_laws.specs.SlotLaws.{length_set, set_other, set_there}
use Rattle.alias_nesting_laws.specs.Slots.{with_function}
use Rattle.alias_nesting_laws.specs.StandInLaws.{rule_same, at_same, all_weaker}
use Rattle.alias_range_pass.specs.places.Keeping.{but_effect}
use Rattle.alias_rules.specs.Fitting.{named_within_tables, effect_within_tables, recorded_within_tables}
use Rattle.alias_rules.specs.Fitting.{effects_within_tables, holds_no_call, effects_fit, effects_fit_at}
use Rattle.alias_rules.specs.Functions.{rule_holds, of_function, at_function}
use Rattle.alias_rules.specs.Nesting.{created_in, created_of, created_at}
use Rattle.alias_rules.specs.Sharing.{identifiers_of, identifiers_at, context_of, context_at}
use Rattle.alias_rules.specs.declared.rules.Rule.{Rule}
use Rattle.alias_rules.specs.declared.rules.Rule.TheVariants.{Numbers, Entry, Successors, Listed, ListedOnce, Handlers}
use Rattle.alias_rules.specs.declared.rules.Rule.TheVariants.{Phis, Orders, Distinct, Calls, ContextValues}
use Rattle.alias_tables.specs.GrowingLaws.{grows_self}
use Rattle.alias_visit.specs.Places.{identifiers_in}
use Rattle.alias_fitting_laws.specs.pruning.NumberedLaws.{rule_of_other}
use Rattle.alias_fitting_laws.specs.pruning.PlaceLaws.{identifier_cases, own_among, context_among}
use Rattle.alias_fitting_laws.specs.pruning.PlaceLaws.{identifiers_with_contexts}
use Rattle.alias_fitting_laws.specs.pruning.Pruning.{Interface, interface, SlotsKept, Prunes, FunctionPruned}
use Rattle.alias_fitting_laws.specs.pruning.PruningLaws.{contexts_kept}
use Rattle.alias_fitting_laws.specs.pruning.SurvivingLaws.{SummaryNames, effects_survive}

-- which functions' slot a number names
same_or_other : (a b : ℕ) (C : Type 0) → (a ≡ b → C) → ((a ≡ b → ⊥) → C) → C
same_or_other zero zero C s d = s refl
same_or_other zero (suc b) C s d = d (λ e. cc)
same_or_other (suc a) zero C s d = d (λ e. cc)
same_or_other (suc a) (suc b) C s d = same_or_other a b C (λ e. s (ap suc e)) (λ n. d (λ e. n (omega arith)))

-- nothing comes into a list where there is nothing
set_gone : {X : Type 0} (xs : List X) (n : ℕ) (x : X) → slice_get xs n ≡ None → slice_get (slice_set xs n x) n ≡ None
set_gone [] n x h = refl
set_gone (y ∷ ys) zero x h = cc
set_gone (y ∷ ys) (suc n) x h = set_gone ys n x h

-- ---- effects

-- the summary that stands in place of another one is within the tables
module _ (env : Environment) (id : FunctionId) (g : HirFunction)
    (within : list_all (named_within_tables env) (summary (Some g)) ≡ true) where
  abbrev set : Environment
  set = with_function id g env

  wider_set : Wider env set
  wider_set = let n : length set.functions ≡ length env.functions = length_set env.functions id.0 g in
      record {
        identifiers = omega arith;
        types = omega arith;
        functions = omega arith;
        interned = grows_self env.interned;
      }

  named_set : (es : List AliasingEffect) → list_all (named_within_tables env) es ≡ true
      → list_all (named_within_tables set) es ≡ true
  named_set es h = all_weaker (named_within_tables env) (named_within_tables set) (named_kept env set wider_set) es h

  names_at : (k : ℕ) (o : Option HirFunction) → slice_get env.functions id.0 ≡ o → k ≡ id.0
      → list_all (named_within_tables env) (summary (slice_get env.functions k)) ≡ true
      → list_all (named_within_tables set) (summary (slice_get set.functions k)) ≡ true
  names_at k None at is h =
      let gone : slice_get set.functions k ≡ None = ap (slice_get set.functions) is
      ∙ set_gone env.functions id.0 g at in
      subst (λ o. list_all (named_within_tables set) (summary o) ≡ true) (sym gone) refl
  names_at k (Some f) at is h =
      let there : slice_get set.functions k ≡ Some g = ap (slice_get set.functions) is
      ∙ set_there env.functions id.0 g f at in
      subst (λ o. list_all (named_within_tables set) (summary o) ≡ true) (sym there)
      (named_set (summary (Some g)) within)

  names_set : (f : FunctionId) → SummaryNames env f → SummaryNames set f
  names_set f h =
      same_or_other f.0 id.0 (SummaryNames set f) (λ is. names_at f.0 (slice_get env.functions id.0) refl is h)
      (λ other. subst (λ o. list_all (named_within_tables set) (summary o) ≡ true)
      (sym (set_other env.functions id.0 f.0 g other)) (named_set (summary (slice_get env.functions f.0)) h))

  -- effects that fit, fit with the other function in the slot
  effects_set : (h : HirFunction) → effects_fit env h ≡ true → effects_fit set h ≡ true
  effects_set = effects_survive env set wider_set names_set

  fit_set : (o : Option HirFunction) → option_map_or (effects_fit env) o true ≡ true
      → option_map_or (effects_fit set) o true ≡ true
  fit_set None i = refl
  fit_set (Some x) i = effects_set x i

-- a summary whose function the inference takes is within the tables
fitting_summary : (env : Environment) (g : HirFunction) → effects_fit env g ≡ true
    → list_all (named_within_tables env) (summary (Some g)) ≡ true
fitting_summary env g h =
    let a = both_true (effects_within_tables env g) (holds_no_call g.aliasing_effects) h in
    named_of (g.aliasing_effects) (both_true _ (recorded_within_tables env g.aliasing_effects) a.0).1
  where
    named_all : (es : List AliasingEffect) → list_all (effect_within_tables env) es ≡ true
        → list_all (named_within_tables env) es ≡ true
    named_all es k = all_weaker (effect_within_tables env) (named_within_tables env)
        (λ e i. (both_true (named_within_tables env e) _ i).0) es k

    named_of : (o : Option (List AliasingEffect)) → recorded_within_tables env o ≡ true
        → list_all (named_within_tables env) (option_map_or (λ (es : List AliasingEffect). es) o []) ≡ true
    named_of None k = refl
    named_of (Some es) k = named_all es k

-- ---- rules

-- a function keeps a rule under a number, where it keeps it as the root and another one of the same interface keeps it
-- under the number
rule_back : (r : Rule) (env more : Environment) (o : Option FunctionId) (f g : HirFunction) → interface g ≡ interface f
    → rule_holds r env o f ≡ Ok tt → rule_holds r more None g ≡ Ok tt → rule_holds r more o g ≡ Ok tt
rule_back Numbers env more o f g e h i = i
rule_back Entry env more o f g e h i = rule_of_other None o Entry more g refl i
rule_back Successors env more o f g e h i = rule_of_other None o Successors more g refl i
rule_back Listed env more o f g e h i = rule_of_other None o Listed more g refl i
rule_back ListedOnce env more o f g e h i = rule_of_other None o ListedOnce more g refl i
rule_back Handlers env more o f g e h i = rule_of_other None o Handlers more g refl i
rule_back Phis env more o f g e h i = rule_of_other None o Phis more g refl i
rule_back Orders env more o f g e h i = rule_of_other None o Orders more g refl i
rule_back Distinct env more o f g e h i = rule_of_other None o Distinct more g refl i
rule_back Calls env more o f g e h i = rule_of_other None o Calls more g refl i
rule_back ContextValues env more o f g e h i =
    let context : length g.context ≡ length f.context = sym (length-map g.context but_effect)
    ∙ ap (λ (z : Interface). length z.context) e ∙ length-map f.context but_effect in
    let values : length g.context_values ≡ length f.context_values =
    ap (λ (z : Interface). length z.context_values) e in
    ap (λ n. if values_fit o n (length g.context_values) then Ok tt else Err (fault.ContextValues o)) context
    ∙ ap (λ n. if values_fit o (length f.context) n then Ok tt else Err (fault.ContextValues o)) values ∙ h

-- ---- the function is back

in_created : (env : Environment) (k j x : ℕ) → is_among (created_at env k) j ≡ true → is_among (context_at env j) x
    ≡ true → is_among (identifiers_at env k) x ≡ true
in_created env k j x h c = of_slot (slice_get env.functions k) h
  where
    of_slot : (o : Option HirFunction) → is_among (created_of o) j ≡ true → is_among (identifiers_of env o) x ≡ true
    of_slot None i = cc
    of_slot (Some g) i = context_among env x g j i c

module _ (env after : Environment) (id : FunctionId) (f g stand_in : HirFunction)
    (at : slice_get env.functions id.0 ≡ Some f) (none : stand_in.aliasing_effects ≡ None)
    (empty : stand_in.context ≡ []) (other_created : is_among (created_in f) id.0 ≡ false)
    (p : FunctionPruned f (with_function id stand_in env) g after) where
  abbrev out : Environment
  out = with_function id stand_in env

  abbrev back : Environment
  back = with_function id g after

  count_back : length back.functions ≡ length env.functions
  count_back = length_set after.functions id.0 g ∙ p.prunes.count ∙ length_set env.functions id.0 stand_in

  there_after : (o : Option HirFunction) → slice_get after.functions id.0 ≡ o → slice_get back.functions id.0 ≡ Some g
  there_after (Some x) h = set_there after.functions id.0 g x h
  there_after None h =
      let both : option_map interface (slice_get after.functions id.0) ≡ option_map interface (Some stand_in) =
      p.prunes.slots id.0 ∙ ap (option_map interface) (set_there env.functions id.0 stand_in f at) in
      let gone : option_map interface (slice_get after.functions id.0) ≡ None = ap (option_map interface) h in
      cc

  back_at : slice_get back.functions id.0 ≡ Some g
  back_at = there_after (slice_get after.functions id.0) refl

  back_other : (k : ℕ) → (k ≡ id.0 → ⊥) → slice_get back.functions k ≡ slice_get after.functions k
  back_other k o = set_other after.functions id.0 k g o

  out_other : (k : ℕ) → (k ≡ id.0 → ⊥) → slice_get out.functions k ≡ slice_get env.functions k
  out_other k o = set_other env.functions id.0 k stand_in o

  -- what is said of each slot, where it is said of the function that is back, and of the others after the analysis
  by_slot : (P : Option HirFunction → Option HirFunction → Type 0) → P (Some f) (Some g)
      → ((k : ℕ) → P (slice_get out.functions k) (slice_get after.functions k)) → (k : ℕ)
      → P (slice_get env.functions k) (slice_get back.functions k)
  by_slot P own others k =
      same_or_other k id.0 (P (slice_get env.functions k) (slice_get back.functions k))
      (λ is. subst (λ z. P (slice_get env.functions z) (slice_get back.functions z)) (sym is)
      (subst (λ o. P (slice_get env.functions id.0) o) (sym back_at) (subst (λ o. P o (Some g)) (sym at) own)))
      (λ o. subst (λ y. P (slice_get env.functions k) y) (sym (back_other k o))
      (subst (λ y. P y (slice_get after.functions k)) (out_other k o) (others k)))

  slots_back : SlotsKept env back
  slots_back = by_slot (λ o q. option_map interface q ≡ option_map interface o) (ap Some p.interface) p.prunes.slots

  created_back : (k : ℕ) → Part (created_at back k) (created_at env k)
  created_back = by_slot (λ o q. Part (created_of q) (created_of o)) p.created p.prunes.created

  context_back : (k : ℕ) → context_at back k ≡ context_at env k
  context_back = contexts_kept env back slots_back

  not_own : (j : ℕ) → is_among (created_in f) j ≡ true → j ≡ id.0 → ⊥
  not_own j h e = let both : true ≡ false = sym h ∙ ap (is_among (created_in f)) e ∙ other_created in cc

  -- an identifier in a context, while the function is out, is in that context
  out_context : (j x : ℕ) → is_among (context_at out j) x ≡ true → is_among (context_at env j) x ≡ true
  out_context j x h =
      same_or_other j id.0 (is_among (context_at env j) x ≡ true)
      (λ is.
      let there : slice_get out.functions j ≡ Some stand_in = ap (slice_get out.functions) is
      ∙ set_there env.functions id.0 stand_in f at in
      let nothing_in : is_among (context_of (Some stand_in)) x ≡ true =
      subst (λ o. is_among (context_of o) x ≡ true) there h in
      let no_place : is_among (map (λ (p : Place). p.identifier.0) []) x ≡ true =
      subst (λ ps. is_among (map (λ (p : Place). p.identifier.0) ps) x ≡ true) empty nothing_in in
      cc)
      (λ o. subst (λ q. is_among (context_of q) x ≡ true) (out_other j o) h)

  out_identifiers : (h : HirFunction) → Among (identifiers_in env h) (identifiers_in out h)
  out_identifiers h = identifiers_with_contexts out env h (λ j c x i. out_context j x i)

  out_places : (o : Option HirFunction) → Among (identifiers_of env o) (identifiers_of out o)
  out_places None x i = i
  out_places (Some h) x i = out_identifiers h x i

  -- the function itself
  own_places_back : Among (identifiers_in env f) (identifiers_in back g)
  own_places_back x i =
      let here : is_among (identifiers_in after g) x ≡ true =
      identifiers_with_contexts back after g
      (λ j c y t. subst (λ q. is_among (context_of q) y ≡ true)
      (back_other j (not_own j (part_among p.created j c))) t) x i in
      out_identifiers f x (p.places x here)

  -- another one
  other_places : (k : ℕ) → (k ≡ id.0 → ⊥) → (h : HirFunction) → slice_get after.functions k ≡ Some h
      → Among (identifiers_at env k) (identifiers_in back h)
  other_places k o h there x i =
      let from_after : is_among (identifiers_in after h) x ≡ true → is_among (identifiers_at env k) x ≡ true
      = λ a.
      let now : is_among (identifiers_at after k) x ≡ true =
      subst (λ q. is_among (identifiers_of after q) x ≡ true) (sym there) a in
      subst (λ q. is_among (identifiers_of env q) x ≡ true) (out_other k o)
      (out_places (slice_get out.functions k) x (p.prunes.places k x now)) in
      let creates : (j : ℕ) → is_among (created_in h) j ≡ true → is_among (created_at env k) j ≡ true
      = λ j c. part_among (created_back k) j
      (subst (λ q. is_among (created_of q) j ≡ true) (sym (back_other k o ∙ there)) c) in
      identifier_cases back x h (is_among (identifiers_at env k) x ≡ true) i
      (λ own. from_after (own_among after x h own))
      (λ j c t.
      same_or_other j id.0 (is_among (identifiers_at env k) x ≡ true)
      (λ is. in_created env k j x (creates j c) (subst (λ zs. is_among zs x ≡ true) (context_back j) t))
      (λ n. from_after (context_among after x h j c
      (subst (λ q. is_among (context_of q) x ≡ true) (back_other j n) t))))

  other_slot : (k : ℕ) → (k ≡ id.0 → ⊥) → (o : Option HirFunction) → slice_get after.functions k ≡ o
      → Among (identifiers_at env k) (identifiers_of back o)
  other_slot k n None there x i = cc
  other_slot k n (Some h) there x i = other_places k n h there x i

  places_back : (k : ℕ) → Among (identifiers_at env k) (identifiers_at back k)
  places_back k x i =
      same_or_other k id.0 (is_among (identifiers_at env k) x ≡ true)
      (λ is.
      let own : is_among (identifiers_in back g) x ≡ true =
      subst (λ q. is_among (identifiers_of back q) x ≡ true) (ap (slice_get back.functions) is ∙ back_at) i in
      subst (λ q. is_among (identifiers_of env q) x ≡ true) (sym (ap (slice_get env.functions) is ∙ at))
      (own_places_back x own))
      (λ n. other_slot k n (slice_get after.functions k) refl x
      (subst (λ q. is_among (identifiers_of back q) x ≡ true) (back_other k n) i))

  -- ---- rules

  own_rule : (r : Rule) → is_asked r ≡ true → (o : Option FunctionId) → rule_holds r env o f ≡ Ok tt
      → rule_holds r back o g ≡ Ok tt
  own_rule r i o h = rule_same after id g r o g
      ∙ rule_back r env after o f g p.interface h ((fitted g after p.fits).rule r i)

  rules_back : (r : Rule) → is_asked r ≡ true → (k : ℕ) → at_function r env k ≡ Ok tt → at_function r back k ≡ Ok tt
  rules_back r i k h =
      same_or_other k id.0 (at_function r back k ≡ Ok tt)
      (λ is.
      let before : rule_holds r env (Some (record { 0 = k })) f ≡ Ok tt =
      subst (λ o. of_function r env k o ≡ Ok tt) (ap (slice_get env.functions) is ∙ at) h in
      subst (λ o. of_function r back k o ≡ Ok tt) (sym (ap (slice_get back.functions) is ∙ back_at))
      (own_rule r i (Some (record { 0 = k })) before))
      (λ n. at_same after id g r k n ∙ p.prunes.rules r i k (at_same env id stand_in r k n ∙ h))

  -- ---- effects

  back_within : list_all (named_within_tables after) (summary (Some g)) ≡ true
  back_within = fitting_summary after g (fitted g after p.fits).effects

  out_within : list_all (named_within_tables env) (summary (Some stand_in)) ≡ true
  out_within = ap (λ o. list_all (named_within_tables env) (option_map_or (λ (es : List AliasingEffect). es) o [])) none

  effects_back : (h : HirFunction) → effects_fit env h ≡ true → effects_fit back h ≡ true
  effects_back h k = effects_set after id g back_within h
      (p.prunes.effects h (effects_set env id stand_in out_within h k))

  effects_at_back : (k : ℕ) → effects_fit_at env k ≡ true → effects_fit_at back k ≡ true
  effects_at_back k h =
      same_or_other k id.0 (effects_fit_at back k ≡ true)
      (λ is. ap (λ o. option_map_or (effects_fit back) o true) (ap (slice_get back.functions) is ∙ back_at)
      ∙ effects_set after id g back_within g (fitted g after p.fits).effects)
      (λ n.
      let before : effects_fit_at out k ≡ true = ap (λ o. option_map_or (effects_fit out) o true) (out_other k n)
      ∙ fit_set env id stand_in out_within (slice_get env.functions k) h in
      ap (λ o. option_map_or (effects_fit back) o true) (back_other k n)
      ∙ fit_set after id g back_within (slice_get after.functions k) (p.prunes.effects_at k before))

  pub prunes_back : Prunes env back
  prunes_back = record {
    identifiers = p.prunes.identifiers;
    types = p.prunes.types;
    count = count_back;
    slots = slots_back;
    created = created_back;
    places = places_back;
    rules = rules_back;
    effects = effects_back;
    effects_at = effects_at_back;
  }
