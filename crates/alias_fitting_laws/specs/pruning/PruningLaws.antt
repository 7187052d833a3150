-- A function that the inference takes is taken again over what analysing nested functions leaves of its environment.
use Rattle.std.specs.Prelude.{◌≡◌, ℕ, ◌+◌, ◌-◌, ◌≤◌, true, List, [], ◌++◌, length, slice_get, Option, Some, None, Ok}
use Rattle.std.specs.Prelude.{is_none, refl, if◌then◌else◌}
use Rattle.std.specs.Option.{option_map}
use Rattle.std.proofs.Common.{zero, suc, ap, sym, ◌∙◌, subst, arith}
use Rattle.alias_base.specs.declared.ids.FunctionId.{FunctionId}
use Rattle.alias_fitting_laws.specs.bare.Bare.{ids, bare, TablesFit}
use Rattle.alias_fitting_laws.specs.bare.BareIdentifiers.{flat_same, identifiers_across}
use Rattle.alias_fitting_laws.specs.bare.BareLaws.{created_of_bare, identifiers_of_bare, rule_of_bare}
use Rattle.alias_fitting_laws.specs.bare.BareParts.{effects_ids}
use Rattle.alias_fitting_laws.specs.bare.EvolvedLaws.{Evolves, grown_length, grown_fits}
use Rattle.alias_step_laws.specs.blocks.FitLaws.{Wider, rule_kept}
use Rattle.alias_step_laws.specs.blocks.WiderLaws.{shared_same}
use Rattle.alias_rules.specs.function_rules.Rules.{is_among, first_again}
use Rattle.alias_hir.specs.Tables.{with_identifier}
use Rattle.alias_hir.specs.declared.env.Environment.{Environment}
use Rattle.alias_hir.specs.declared.hir.HirFunction.{HirFunction}
use Rattle.alias_nesting_laws.specs.ClosureLaws.{Among}
use Rattle.alias_nesting_laws.specs.FittingLaws.{pass_among, Fitted, fitted, fits_of_parts}
use Rattle.alias_nesting_laws.specs.PartLaws.{Part, nothing, left_out, kept, part_all, part_among}
use Rattle.alias_rules.specs.Fitting.{function_fits}
use Rattle.alias_rules.specs.Functions.{rule_holds, of_function}
use Rattle.alias_rules.specs.Nesting.{created_in, created_of, created_at, next_level, tree_from}
use Rattle.alias_rules.specs.Sharing.{identifiers_of, identifiers_at, context_of, context_at, inside, outside}
use Rattle.alias_rules.specs.Sharing.{first_shared, in_two, nested_is_apart, identifiers_apart}
use Rattle.alias_rules.specs.declared.rules.Rule.{Rule}
use Rattle.alias_rules.specs.declared.rules.Rule.TheVariants.{Numbers}
use Rattle.alias_tables.specs.GrowingLaws.{grows_self}
use Rattle.alias_visit.specs.Places.{identifiers_in}
use Rattle.alias_fitting_laws.specs.pruning.BelowLaws.{Pruned, pruned_tree}
use Rattle.alias_fitting_laws.specs.pruning.PlaceLaws.{identifiers_with_contexts}
use Rattle.alias_fitting_laws.specs.pruning.Pruning.{Interface, interface, SlotsKept, Prunes, FunctionPruned}
use Rattle.alias_fitting_laws.specs.pruning.SharingLaws.{still_apart}

-- ---- slots

-- functions of the same interface have the same context
context_of_slot : (o p : Option HirFunction) → option_map interface p ≡ option_map interface o → context_of p
    ≡ context_of o
context_of_slot None None e = refl
context_of_slot None (Some g) e = cc
context_of_slot (Some f) None e = cc
context_of_slot (Some f) (Some g) e = let same : interface g ≡ interface f = cc in sym (effects_ids g.context)
    ∙ ap (λ (i : Interface). ids i.context) same ∙ effects_ids f.context

pub contexts_kept : (env more : Environment) → SlotsKept env more → (k : ℕ) → context_at more k ≡ context_at env k
contexts_kept env more slots k = context_of_slot (slice_get env.functions k) (slice_get more.functions k) (slots k)

-- with the contexts that they had, functions hold the identifiers that they held
pub identifiers_kept : (env more : Environment) → SlotsKept env more → (g : HirFunction)
    → Among (identifiers_in env g) (identifiers_in more g)
identifiers_kept env more slots g = identifiers_with_contexts more env g
    (λ k c x i. subst (λ zs. is_among zs x ≡ true) (contexts_kept env more slots k) i)

-- each rule of one function, where tables grow
pub rule_grown : (env more : Environment) → length env.identifiers ≤ length more.identifiers → length more.functions
    ≡ length env.functions → (r : Rule) (o : Option FunctionId) (g : HirFunction) → rule_holds r env o g ≡ Ok tt
    → rule_holds r more o g ≡ Ok tt
rule_grown env more ids count r o g h =
    beside_more r o g (rule_kept env beside wider r o g h)
  where
    -- with the types and the reports of env, at which no rule of one function looks
    beside : Environment
    beside = record more { types = env.types; interned = env.interned }

    wider : Wider env beside
    wider = record {
      identifiers = ids;
      types = omega arith;
      functions = (let e = count in omega arith);
      interned = grows_self env.interned;
    }

    beside_more : (r : Rule) (o : Option FunctionId) (g : HirFunction) → rule_holds r beside o g ≡ Ok tt
        → rule_holds r more o g ≡ Ok tt
    beside_more Numbers o g h = h
    beside_more r o g h = h

-- ---- one change and then another

part_through : {xs ys zs : List ℕ} → Part xs ys → Part ys zs → Part xs zs
part_through p nothing = p
part_through p (left_out q) = left_out (part_through p q)
part_through (left_out p) (kept q) = left_out (part_through p q)
part_through (kept p) (kept q) = kept (part_through p q)

pub prunes_self : (env : Environment) → Prunes env env
prunes_self env = record {
  identifiers = omega arith;
  types = omega arith;
  count = refl;
  slots = λ k. refl;
  created = λ k. part_all (created_at env k);
  places = λ k x h. h;
  rules = λ r i k h. h;
  effects = λ g h. h;
  effects_at = λ k h. h;
}

pub prunes_through : (a b c : Environment) → Prunes a b → Prunes b c → Prunes a c
prunes_through a b c p q = record {
  identifiers = (let m = p.identifiers in let n = q.identifiers in omega arith);
  types = (let m = p.types in let n = q.types in omega arith);
  count = q.count ∙ p.count;
  slots = λ k. q.slots k ∙ p.slots k;
  created = λ k. part_through (q.created k) (p.created k);
  places = λ k x h. p.places k x (q.places k x h);
  rules = λ r i k h. q.rules r i k (p.rules r i k h);
  effects = λ g h. q.effects g (p.effects g h);
  effects_at = λ k h. q.effects_at k (p.effects_at k h);
}

pub function_self : (f : HirFunction) (env : Environment) → function_fits f env ≡ true → FunctionPruned f env f env
function_self f env h = record {
  prunes = prunes_self env;
  interface = refl;
  created = part_all (created_in f);
  places = λ x i. i;
  fits = h;
}

pub function_through : (f g h : HirFunction) (a b c : Environment) → FunctionPruned f a g b → FunctionPruned g b h c
    → FunctionPruned f a h c
function_through f g h a b c p q = record {
  prunes = prunes_through a b c p.prunes q.prunes;
  interface = q.interface ∙ p.interface;
  created = part_through q.created p.created;
  places = λ x i. p.places x (q.places x i);
  fits = q.fits;
}

-- ---- where functions stay as they are but for what is inferred of them

-- the interface, as it stands in a function without what is inferred
abbrev of_bare : HirFunction → Interface
of_bare h = record { params = h.params; context = h.context; context_values = h.context_values; returns = h.returns }

interface_of_bare : (f g : HirFunction) → bare f ≡ bare g → interface g ≡ interface f
interface_of_bare f g e = ap of_bare (sym e)

module _ (env more : Environment) (ids : length env.identifiers ≤ length more.identifiers)
    (count : length more.functions ≡ length env.functions) where
  slot_of_bare : (o p : Option HirFunction) → option_map bare p ≡ option_map bare o → option_map interface p
      ≡ option_map interface o
  slot_of_bare None None e = refl
  slot_of_bare None (Some g) e = cc
  slot_of_bare (Some f) None e = cc
  slot_of_bare (Some f) (Some g) e = let b : bare f ≡ bare g = cc in ap Some (interface_of_bare f g b)

  created_of_slot : (o p : Option HirFunction) → option_map bare p ≡ option_map bare o
      → Part (created_of p) (created_of o)
  created_of_slot None None e = nothing
  created_of_slot None (Some g) e = cc
  created_of_slot (Some f) None e = cc
  created_of_slot (Some f) (Some g) e = let b : bare f ≡ bare g = cc in
      subst (λ zs. Part zs (created_in f)) (sym (created_of_bare f g b)) (part_all (created_in f))

  places_of_slot : ((k : ℕ) → context_at more k ≡ context_at env k) → (o p : Option HirFunction) → option_map bare p
      ≡ option_map bare o → Among (identifiers_of env o) (identifiers_of more p)
  places_of_slot c None None e x h = h
  places_of_slot c None (Some g) e x h = cc
  places_of_slot c (Some f) None e x h = cc
  places_of_slot c (Some f) (Some g) e x h =
      let b : bare f ≡ bare g = cc in
      subst (λ zs. is_among zs x ≡ true) (identifiers_across env more c g ∙ identifiers_of_bare env f g b) h

  rules_of_slot : (r : Rule) (k : ℕ) (o p : Option HirFunction) → option_map bare p ≡ option_map bare o
      → of_function r env k o ≡ Ok tt → of_function r more k p ≡ Ok tt
  rules_of_slot r k None None e h = refl
  rules_of_slot r k None (Some g) e h = cc
  rules_of_slot r k (Some f) None e h = cc
  rules_of_slot r k (Some f) (Some g) e h =
      let b : bare f ≡ bare g = cc in
      rule_of_bare r more (Some (record { 0 = k })) f g b
      ∙ rule_grown env more ids count r (Some (record { 0 = k })) f h

pub prunes_evolved : (env more : Environment) → Evolves env more → Prunes env more
prunes_evolved env more e =
    let slots : SlotsKept env more = λ k. slot_of_bare env more e.identifiers e.count (slice_get env.functions k)
    (slice_get more.functions k) (e.slots k) in
    record {
      identifiers = e.identifiers;
      types = e.types;
      count = e.count;
      slots = slots;
      created = λ k. created_of_slot env more e.identifiers e.count (slice_get env.functions k)
          (slice_get more.functions k) (e.slots k);
      places = λ k. places_of_slot env more e.identifiers e.count (contexts_kept env more slots)
          (slice_get env.functions k) (slice_get more.functions k) (e.slots k);
      rules = λ r i k h. rules_of_slot env more e.identifiers e.count r k (slice_get env.functions k)
          (slice_get more.functions k) (e.slots k) h;
      effects = e.effects;
      effects_at = e.effects_at;
    }

pub function_evolved : (f g : HirFunction) (env more : Environment) → Evolves env more → bare g ≡ bare f
    → function_fits g more ≡ true → FunctionPruned f env g more
function_evolved f g env more e b h =
    let p : Prunes env more = prunes_evolved env more e in
    record {
      prunes = p;
      interface = interface_of_bare f g (sym b);
      created = subst (λ zs. Part zs (created_in f)) (sym (created_of_bare f g (sym b))) (part_all (created_in f));
      places = λ x i. subst (λ zs. is_among zs x ≡ true)
          (identifiers_across env more (contexts_kept env more p.slots) g ∙ identifiers_of_bare env f g (sym b)) i;
      fits = h;
    }

-- ---- further identifiers

-- the environment with n further identifiers
abbrev grown : ℕ → Environment → Environment
grown zero env = env
grown (suc n) env = grown n (with_identifier None env)

grown_functions : (n : ℕ) (env : Environment) → (grown n env).functions ≡ env.functions
grown_functions zero env = refl
grown_functions (suc n) env = grown_functions n (with_identifier None env)

-- the functions below one are the same, where the functions are
module _ (env more : Environment) (same : more.functions ≡ env.functions) where
  created_same : (k : ℕ) → created_at more k ≡ created_at env k
  created_same k = ap (λ fs. created_of (slice_get fs k)) same

  tree_same : (n : ℕ) (found level : List ℕ) → tree_from n more found level ≡ tree_from n env found level
  unfolding tree_from
  tree_same zero found level = refl
  tree_same (suc n) found level =
      ap (λ r. if is_none (first_again [] (found ++ level)) then r else None)
      (tree_same n (found ++ level) (next_level more level)
      ∙ ap (tree_from n env (found ++ level)) (flat_same (created_at more) (created_at env) created_same level))

  own_same : (g : HirFunction) → identifiers_in more g ≡ identifiers_in env g
  own_same g = ap (λ fs. identifiers_in (record env { functions = fs }) g) same

  at_same : (k : ℕ) → identifiers_at more k ≡ identifiers_at env k
  at_same k = ap (λ fs. identifiers_of (record env { functions = fs }) (slice_get fs k)) same

  context_same : (k : ℕ) → context_at more k ≡ context_at env k
  context_same k = ap (λ fs. context_of (slice_get fs k)) same

some_is : (ks js : List ℕ) → ◌≡◌ {A = Option (List ℕ)} (Some ks) (Some js) → ks ≡ js
some_is ks js e = cc

no_fault : (k : ℕ) (o : Option ℕ) → in_two k o ≡ Ok tt → o ≡ None
no_fault k None e = refl
no_fault k (Some x) e = cc

-- ---- what the inference takes

module _ (env more : Environment) (p : Prunes env more) (t : TablesFit more) (g : HirFunction)
    (fits : function_fits g env ≡ true) where
  -- the environment with as many identifiers
  abbrev enough : Environment
  enough = grown (length more.identifiers - length env.identifiers) env

  enough_functions : enough.functions ≡ env.functions
  enough_functions = grown_functions (length more.identifiers - length env.identifiers) env

  enough_identifiers : length enough.identifiers ≡ length more.identifiers
  enough_identifiers = let n = p.identifiers in let l =
      grown_length (length more.identifiers - length env.identifiers) env in omega arith

  first : Fitted g env
  first = fitted g env fits

  second : Fitted g enough
  second = fitted g enough (grown_fits (length more.identifiers - length env.identifiers) env g fits)

  same_below : second.below ≡ first.below
  same_below = some_is second.below first.below
      (sym second.tree ∙ tree_same env enough enough_functions 63 [] (created_in g) ∙ first.tree)

  -- no identifier was shared, nor is one of those that came
  none_shared : (k : ℕ) → is_among first.below k ≡ true
      → first_shared (length more.identifiers) (inside env k) (outside env g first.below k) (context_at env k) ≡ None
  none_shared k h =
      let apart : identifiers_apart enough g first.below ≡ Ok tt =
      subst (λ ks. identifiers_apart enough g ks ≡ Ok tt) same_below second.apart in
      let here : nested_is_apart enough g first.below k ≡ Ok tt =
      pass_among (nested_is_apart enough g first.below) first.below k apart h in
      let shared : in_two k (first_shared (length enough.identifiers) (inside env k) (outside env g first.below k)
      (context_at env k)) ≡ Ok tt
      = sym (shared_same env enough (created_same env enough enough_functions) (ap length enough_functions)
      (at_same env enough enough_functions) (context_same env enough enough_functions) g first.below k
      (own_same env enough enough_functions g)) ∙ here in
      ap (λ n. first_shared n (inside env k) (outside env g first.below k) (context_at env k)) (sym enough_identifiers)
      ∙ no_fault k _ shared

  abbrev left : Pruned 63 more [] (created_in g) first.below
  left = pruned_tree env more p.created g first.below first.tree

  fitted_there : Fitted g more
  fitted_there = record {
    below = left.below;
    tree = left.tree;
    tables = t.identifiers;
    types = t.types;
    signatures = t.signatures;
    reports = t.reports;
    rule = λ r i. rule_grown env more p.identifiers p.count r None g (first.rule r i);
    rule_below = λ r i k h. p.rules r i k (first.rule_below r i k (part_among left.part k h));
    apart = still_apart env more p.created p.count (contexts_kept env more p.slots) p.places g first.below left.below
        first.tree left.tree left.part (identifiers_kept env more p.slots g) none_shared;
    effects = p.effects g first.effects;
    effects_below = λ k h. p.effects_at k (first.effects_below k (part_among left.part k h));
  }

  pub fits_pruned : function_fits g more ≡ true
  fits_pruned = fits_of_parts g more fitted_there

  -- so it is the same function beside another environment
  pub function_beside : FunctionPruned g env g more
  function_beside = record {
    prunes = p;
    interface = refl;
    created = part_all (created_in g);
    places = identifiers_kept env more p.slots g;
    fits = fits_pruned;
  }
