-- What analysing nested functions changes of an environment breaks no rule: a function that the inference takes is
-- taken again.
use Rattle.std.specs.Prelude.{◌≡◌, ℕ, ◌+◌, ◌-◌, ◌≤◌, true, false, ◌&&◌, List, [], ◌∷◌, ◌++◌, length, slice_get, Option}
use Rattle.std.specs.Prelude.{Some, None, option_map, Ok, is_ok, is_none, refl, if◌then◌else◌}
use Rattle.std.specs.List.{list_all}
use Rattle.std.specs.Option.{option_map_or}
use Rattle.std.proofs.Common.{zero, suc, ap, sym, ◌∙◌, subst, length-append, arith}
use Rattle.alias_base.specs.Answer.{all_pass}
use Rattle.alias_base.specs.AnswerLaws.{both_true}
use Rattle.alias_base.specs.declared.ids.FunctionId.{FunctionId}
use Rattle.alias_hir.specs.Tables.{fresh_identifier, with_identifier}
use Rattle.alias_hir.specs.declared.env.Environment.{Environment}
use Rattle.alias_hir.specs.declared.hir.HirFunction.{HirFunction}
use Rattle.alias_rules.specs.function_rules.Rules.{first_again, tables_fit, types_fit, signatures_fit}
use Rattle.alias_rules.specs.Fitting.{effects_fit, effects_fit_at, reports_no_invariant, family_rules, function_rules}
use Rattle.alias_rules.specs.Fitting.{function_fits_with, function_fits}
use Rattle.alias_rules.specs.Functions.{rule_holds, of_function, at_function, each_function, FamilyRule, Tables, Types}
use Rattle.alias_rules.specs.Functions.{Signatures, Apart, Each, family_holds}
use Rattle.alias_rules.specs.Nesting.{created_in, created_of, created_at, next_level, tree_from, tree_below}
use Rattle.alias_rules.specs.RuleLaws.{fitting_tree, fitting_rules}
use Rattle.alias_rules.specs.Sharing.{identifiers_of, identifiers_at, context_of, context_at, inside, outside}
use Rattle.alias_rules.specs.Sharing.{first_shared, in_two, nested_is_apart, identifiers_apart}
use Rattle.alias_rules.specs.declared.rules.Rule.{Rule}
use Rattle.alias_rules.specs.declared.rules.Rule.TheVariants.{Numbers}
use Rattle.alias_nesting_laws.specs.FittingLaws.{together}
use Rattle.alias_nesting_laws.specs.RootLaws.{passes_on, then_passes}
use Rattle.alias_nesting_laws.specs.StandInLaws.{all_weaker}
use Rattle.alias_tables.specs.GrowingLaws.{grows_self}
use Rattle.alias_step_laws.specs.blocks.FitLaws.{Wider, rule_kept, fits_kept}
use Rattle.alias_step_laws.specs.blocks.IdentifierLaws.{keeps_identifier}
use Rattle.alias_step_laws.specs.blocks.WiderLaws.{all_same, shared_same}
use Rattle.alias_fitting_laws.specs.bare.Bare.{bare}
use Rattle.alias_fitting_laws.specs.bare.BareIdentifiers.{flat_same, identifiers_across}
use Rattle.alias_fitting_laws.specs.bare.BareLaws.{created_of_bare, identifiers_of_bare, context_of_bare, rule_of_bare}

-- what analysing nested functions changes of the environment, as the rules see it: tables grow, each slot holds a
-- function that is the same
-- but for what is inferred, and effects that fit still do
pub record Evolves (env more : Environment) : Type 0 where
  pub identifiers : length env.identifiers ≤ length more.identifiers
  pub types : length env.types ≤ length more.types
  pub count : length more.functions ≡ length env.functions
  pub slots : (k : ℕ) → option_map bare (slice_get more.functions k) ≡ option_map bare (slice_get env.functions k)
  pub effects : (g : HirFunction) → effects_fit env g ≡ true → effects_fit more g ≡ true
  pub effects_at : (k : ℕ) → effects_fit_at env k ≡ true → effects_fit_at more k ≡ true

-- nothing need change
pub evolves_self : (env : Environment) → Evolves env env
evolves_self env = record {
  identifiers = omega arith;
  types = omega arith;
  count = refl;
  slots = λ k. refl;
  effects = λ g h. h;
  effects_at = λ k h. h;
}

-- one change and then another
pub evolves_through : (a b c : Environment) → Evolves a b → Evolves b c → Evolves a c
evolves_through a b c g h = record {
  identifiers = (let p = g.identifiers in let q = h.identifiers in omega arith);
  types = (let p = g.types in let q = h.types in omega arith);
  count = h.count ∙ g.count;
  slots = λ k. h.slots k ∙ g.slots k;
  effects = λ f e. h.effects f (g.effects f e);
  effects_at = λ k e. h.effects_at k (g.effects_at k e);
}

-- ---- steps

-- ---- functions below, by what the functions create

module _ (env more : Environment) (creates : (k : ℕ) → created_at more k ≡ created_at env k) where
  tree_across : (n : ℕ) (found level : List ℕ) → tree_from n more found level ≡ tree_from n env found level
  unfolding tree_from
  tree_across zero found level = refl
  tree_across (suc n) found level =
      ap (λ r. if is_none (first_again [] (found ++ level)) then r else None)
      (tree_across n (found ++ level) (next_level more level)
      ∙ ap (tree_from n env (found ++ level)) (flat_same (created_at more) (created_at env) creates level))

-- ---- slots

same_slot : {X : Type 0} (r : Option HirFunction → X)
    → ((f g : HirFunction) → bare f ≡ bare g → r (Some g) ≡ r (Some f))
    → (o p : Option HirFunction) → option_map bare p ≡ option_map bare o → r p ≡ r o
same_slot r h None None e = refl
same_slot r h None (Some g) e = cc
same_slot r h (Some f) None e = cc
same_slot r h (Some f) (Some g) e = h f g (let b : bare f ≡ bare g = cc in b)

-- ---- an environment with as many identifiers, whose slots hold functions that are the same but for what is inferred

module _ (env more : Environment) (as_many : length more.identifiers ≡ length env.identifiers)
    (count : length more.functions ≡ length env.functions)
    (slots : (k : ℕ) → option_map bare (slice_get more.functions k) ≡ option_map bare (slice_get env.functions k)) where
  at_slot : {X : Type 0} (r : Option HirFunction → X)
      → ((f g : HirFunction) → bare f ≡ bare g → r (Some g) ≡ r (Some f)) → (k : ℕ) → r (slice_get more.functions k)
      ≡ r (slice_get env.functions k)
  at_slot r h k = same_slot r h (slice_get env.functions k) (slice_get more.functions k) (slots k)

  created_same : (k : ℕ) → created_at more k ≡ created_at env k
  created_same = at_slot created_of created_of_bare

  contexts_same : (k : ℕ) → context_at more k ≡ context_at env k
  contexts_same = at_slot context_of context_of_bare

  identifiers_among : (o : Option HirFunction) → identifiers_of more o ≡ identifiers_of env o
  identifiers_among None = refl
  identifiers_among (Some g) = identifiers_across env more contexts_same g

  identifiers_same : (k : ℕ) → identifiers_at more k ≡ identifiers_at env k
  identifiers_same k = identifiers_among (slice_get more.functions k)
      ∙ at_slot (identifiers_of env) (identifiers_of_bare env) k

  -- more, with the types and the reports of env, at which no rule of one function looks
  abbrev beside : Environment
  beside = record more { types = env.types; interned = env.interned }

  wider : Wider env beside
  wider = record {
    identifiers = (let e = as_many in omega arith);
    types = omega arith;
    functions = (let e = count in omega arith);
    interned = grows_self env.interned;
  }

  rule_beside : (r : Rule) (o : Option FunctionId) (g : HirFunction) → rule_holds r beside o g ≡ rule_holds r more o g
  rule_beside Numbers o g = refl
  rule_beside r o g = refl

  own_rule : (r : Rule) (o : Option FunctionId) (g : HirFunction) → rule_holds r env o g ≡ Ok tt → rule_holds r more o g
      ≡ Ok tt
  own_rule r o g h = sym (rule_beside r o g) ∙ rule_kept env beside wider r o g h

  of_rule : (r : Rule) (k : ℕ) (o : Option HirFunction) → of_function r env k o ≡ Ok tt → of_function r more k o ≡ Ok tt
  of_rule r k None h = refl
  of_rule r k (Some g) h = own_rule r (Some (record { 0 = k })) g h

  nested_rule : (r : Rule) (k : ℕ) → at_function r env k ≡ Ok tt → at_function r more k ≡ Ok tt
  nested_rule r k h =
      at_slot (of_function r more k) (λ f g e. rule_of_bare r more (Some (record { 0 = k })) f g e) k
      ∙ of_rule r k (slice_get env.functions k) h

  each_rule : (r : Rule) (g : HirFunction) (ks : List ℕ) → each_function r env g ks ≡ Ok tt → each_function r more g ks
      ≡ Ok tt
  each_rule r g ks h =
      then_passes (rule_holds r env None g) (all_pass (at_function r env) ks) (rule_holds r more None g)
      (all_pass (at_function r more) ks) (own_rule r None g)
      (passes_on (at_function r env) (at_function r more) (nested_rule r) ks) h

  nested_apart : (g : HirFunction) (ks : List ℕ) (k : ℕ) → nested_is_apart more g ks k ≡ nested_is_apart env g ks k
  nested_apart g ks k =
      shared_same env more created_same count identifiers_same contexts_same g ks k
      (identifiers_across env more contexts_same g)
      ∙ ap (λ n. in_two k (first_shared n (inside env k) (outside env g ks k) (context_at env k))) as_many

  apart_same : (g : HirFunction) (ks : List ℕ) → identifiers_apart more g ks ≡ identifiers_apart env g ks
  apart_same g ks = all_same (nested_is_apart more g ks) (nested_is_apart env g ks) (nested_apart g ks) ks

  family_there : tables_fit more ≡ Ok tt → types_fit more ≡ Ok tt → signatures_fit more ≡ Ok tt
      → (g : HirFunction) (ks : List ℕ) (rule : FamilyRule)
      → family_holds env g ks rule ≡ Ok tt → family_holds more g ks rule ≡ Ok tt
  family_there tables types signatures g ks Tables h = tables
  family_there tables types signatures g ks Types h = types
  family_there tables types signatures g ks Signatures h = signatures
  family_there tables types signatures g ks Apart h = apart_same g ks ∙ h
  family_there tables types signatures g ks (Each r) h = each_rule r g ks h

  rules_there : tables_fit more ≡ Ok tt → types_fit more ≡ Ok tt → signatures_fit more ≡ Ok tt
      → (g : HirFunction) (ks : List ℕ) → function_rules env g ks ≡ Ok tt → function_rules more g ks ≡ Ok tt
  rules_there tables types signatures g ks =
      passes_on (family_holds env g ks) (family_holds more g ks) (family_there tables types signatures g ks)
      family_rules

-- ---- further identifiers

-- the environment with n further identifiers
abbrev grown : ℕ → Environment → Environment
grown zero env = env
grown (suc n) env = grown n (with_identifier None env)

grown_functions : (n : ℕ) (env : Environment) → (grown n env).functions ≡ env.functions
grown_functions zero env = refl
grown_functions (suc n) env = grown_functions n (with_identifier None env)

pub grown_length : (n : ℕ) (env : Environment) → length (grown n env).identifiers ≡ n + length env.identifiers
grown_length zero env = omega arith
grown_length (suc n) env =
    let one = length-append env.identifiers (fresh_identifier None (length env.identifiers) (length env.types) ∷ []) in
    let rest = grown_length n (with_identifier None env) in
    omega arith

pub grown_fits : (n : ℕ) (env : Environment) (g : HirFunction) → function_fits g env ≡ true
    → function_fits g (grown n env) ≡ true
grown_fits zero env g h = h
grown_fits (suc n) env g h = grown_fits n (with_identifier None env) g
    (fits_kept env (with_identifier None env) (keeps_identifier None env) g h)

-- ---- what the inference takes

some_is : (ks js : List ℕ) → ◌≡◌ {A = Option (List ℕ)} (Some ks) (Some js) → ks ≡ js
some_is ks js e = cc

module _ (env more : Environment) (e : Evolves env more) (tables : tables_fit more ≡ Ok tt)
    (types : types_fit more ≡ Ok tt) (signatures : signatures_fit more ≡ Ok tt) (g : HirFunction)
    (fits : function_fits g env ≡ true) where
  -- how many identifiers there are more
  abbrev further : ℕ
  further = length more.identifiers - length env.identifiers

  -- the environment with as many identifiers
  abbrev enough : Environment
  enough = grown further env

  enough_identifiers : length more.identifiers ≡ length enough.identifiers
  enough_identifiers = let n = e.identifiers in let l = grown_length further env in omega arith

  enough_count : length more.functions ≡ length enough.functions
  enough_count = e.count ∙ ap length (sym (grown_functions further env))

  enough_slots : (k : ℕ) → option_map bare (slice_get more.functions k) ≡ option_map bare (slice_get enough.functions k)
  enough_slots k = e.slots k ∙ ap (λ fs. option_map bare (slice_get fs k)) (sym (grown_functions further env))

  -- the functions below are the same
  tree_enough : tree_below more g ≡ tree_below enough g
  tree_enough = tree_across enough more (created_same enough more enough_identifiers enough_count enough_slots) 63 []
      (created_in g)

  tree_of_enough : tree_below enough g ≡ tree_below env g
  tree_of_enough = tree_across env enough (λ k. ap (λ fs. created_of (slice_get fs k)) (grown_functions further env)) 63
      [] (created_in g)

  rules_enough : (ks : List ℕ) → tree_below enough g ≡ Some ks → function_rules more g ks ≡ Ok tt
  rules_enough ks t =
      let s = fitting_tree g enough (grown_fits further env g fits) in
      subst (λ js. function_rules more g js ≡ Ok tt) (some_is s.0 ks (sym s.1 ∙ t))
      (rules_there enough more enough_identifiers enough_count enough_slots tables types signatures g s.0
      (fitting_rules g enough s.0 s.2))

  fits_more : reports_no_invariant more ≡ true → function_fits g more ≡ true
  fits_more reports =
      let t = fitting_tree g env fits in
      let ks : List ℕ = t.0 in
      let a = both_true _ (reports_no_invariant env) t.2 in
      let b = both_true _ (list_all (effects_fit_at env) ks) a.0 in
      let c : (is_ok (function_rules env g ks) ≡ true) × (effects_fit env g ≡ true) = both_true _ _ b.0 in
      let tree : tree_below enough g ≡ Some ks = tree_of_enough ∙ t.1 in
      let rules : is_ok (function_rules more g ks) ≡ true = ap is_ok (rules_enough ks tree) in
      let below : list_all (effects_fit_at more) ks ≡ true =
      all_weaker (effects_fit_at env) (effects_fit_at more) e.effects_at ks b.1 in
      let with_below : function_fits_with more g ks ≡ true =
      together (is_ok (function_rules more g ks) && effects_fit more g && list_all (effects_fit_at more) ks)
      (reports_no_invariant more)
      (together (is_ok (function_rules more g ks) && effects_fit more g) (list_all (effects_fit_at more) ks)
      (together (is_ok (function_rules more g ks)) (effects_fit more g) rules (e.effects g c.1)) below) reports in
      ap (λ (o : Option (List ℕ)). option_map_or (function_fits_with more g) o false) (tree_enough ∙ tree) ∙ with_below

-- a function that the inference takes is taken again over what its environment has become, where the tables keep their
-- rules
pub fits_evolved : (env more : Environment) → Evolves env more → tables_fit more ≡ Ok tt → types_fit more ≡ Ok tt
    → signatures_fit more ≡ Ok tt → reports_no_invariant more ≡ true
    → (g : HirFunction) → function_fits g env ≡ true → function_fits g more ≡ true
fits_evolved env more e tables types signatures reports g fits =
    fits_more env more e tables types signatures g fits reports
