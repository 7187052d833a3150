-- What is asked of a function that the inference takes, part by part.
use Rattle.std.specs.Prelude.{◌≡◌, ℕ, Bool, true, false, ◌&&◌, ◌||◌, nat_eq, List, [], ◌∷◌, Option, Some, None, Result}
use Rattle.std.specs.Prelude.{Ok, Err, ⊤, is_ok, slice_get, refl}
use Rattle.std.specs.List.{list_all}
use Rattle.std.specs.Option.{option_map_or}
use Rattle.std.proofs.Common.{ap, ◌∙◌, eq-eqb}
use Rattle.std.proofs.lemmas.Bool.{eqb-true}
use Rattle.alias_base.specs.Answer.{◌>>=◌, all_pass}
use Rattle.alias_base.specs.AnswerLaws.{both_true, both_pass}
use Rattle.alias_hir.specs.declared.env.Environment.{Environment}
use Rattle.alias_hir.specs.declared.hir.HirFunction.{HirFunction}
use Rattle.alias_rules.specs.function_rules.Rules.{is_among, tables_fit, types_fit, signatures_fit}
use Rattle.alias_rules.specs.Fitting.{effects_fit, effects_fit_at, reports_no_invariant, family_rules, function_rules}
use Rattle.alias_rules.specs.Fitting.{function_fits_with, function_fits}
use Rattle.alias_rules.specs.Functions.{rule_holds, at_function, each_function, FamilyRule, Tables, Types, Signatures}
use Rattle.alias_rules.specs.Functions.{Apart, Each, family_holds}
use Rattle.alias_rules.specs.Nesting.{tree_below}
use Rattle.alias_rules.specs.RuleLaws.{fitting_tree, fitting_rules, passes_at}
use Rattle.alias_rules.specs.Sharing.{identifiers_apart}
use Rattle.alias_rules.specs.declared.rules.Rule.{Rule}
use Rattle.alias_nesting_laws.specs.ClosureLaws.{left_true, right_true}
use Rattle.alias_rules.specs.declared.rules.Rule.TheVariants.{Numbers, Entry, Successors, Listed, ListedOnce, Handlers}
use Rattle.alias_rules.specs.declared.rules.Rule.TheVariants.{Phis, Orders, Distinct, Calls, ContextValues}

-- ---- steps and lists

pub together : (a b : Bool) → a ≡ true → b ≡ true → (a && b) ≡ true
together true b h k = k
together false b h k = cc

pub then_pass : {E : Type 0} (r s : Result ⊤ E) → r ≡ Ok tt → s ≡ Ok tt → (r >>= (λ _. s)) ≡ Ok tt
then_pass (Ok tt) s p q = q
then_pass (Err e) s p q = cc

pub itself : (k : ℕ) → nat_eq k k ≡ true
itself k = eq-eqb k k refl

pub first_among : (x : ℕ) (xs : List ℕ) → is_among (x ∷ xs) x ≡ true
first_among x xs = left_true (nat_eq x x) (is_among xs x) (itself x)

pub later_among : (x : ℕ) (xs : List ℕ) (k : ℕ) → is_among xs k ≡ true → is_among (x ∷ xs) k ≡ true
later_among x xs k h = right_true (nat_eq k x) (is_among xs k) h

-- what passes for each of the numbers passes for one of them
pub pass_among : {E : Type 0} (f : ℕ → Result ⊤ E) (ks : List ℕ) (k : ℕ) → all_pass f ks ≡ Ok tt → is_among ks k ≡ true
    → f k ≡ Ok tt
pass_among f [] k h i = cc
pass_among f (x ∷ xs) k h i =
    let b : (f x ≡ Ok tt) × (all_pass f xs ≡ Ok tt) = both_pass (f x) (all_pass f xs) h in
    elim (nat_eq k x) as (λ c. nat_eq k x ≡ c → (c || is_among xs k) ≡ true → f k ≡ Ok tt) [
      | true ↦ λ e j. ap f (eqb-true k x e) ∙ b.0
      | false ↦ λ e j. pass_among f xs k b.1 j
    ] refl i

-- what holds of each of the numbers holds of one of them
pub true_among : (p : ℕ → Bool) (ks : List ℕ) (k : ℕ) → list_all p ks ≡ true → is_among ks k ≡ true → p k ≡ true
true_among p [] k h i = cc
true_among p (x ∷ xs) k h i =
    let b = both_true (p x) (list_all p xs) h in
    elim (nat_eq k x) as (λ c. nat_eq k x ≡ c → (c || is_among xs k) ≡ true → p k ≡ true) [
      | true ↦ λ e j. ap p (eqb-true k x e) ∙ b.0
      | false ↦ λ e j. true_among p xs k b.1 j
    ] refl i

-- numbers each of which passes
pub pass_each : {E : Type 0} (f : ℕ → Result ⊤ E) (ks : List ℕ) → ((k : ℕ) → is_among ks k ≡ true → f k ≡ Ok tt)
    → all_pass f ks ≡ Ok tt
pass_each f [] h = refl
pass_each f (k ∷ ks) h = then_pass (f k) (all_pass f ks) (h k (first_among k ks))
    (pass_each f ks (λ j e. h j (later_among k ks j e)))

-- numbers of each of which it holds
pub true_each : (p : ℕ → Bool) (ks : List ℕ) → ((k : ℕ) → is_among ks k ≡ true → p k ≡ true) → list_all p ks ≡ true
true_each p [] h = refl
true_each p (k ∷ ks) h = together (p k) (list_all p ks) (h k (first_among k ks))
    (true_each p ks (λ j e. h j (later_among k ks j e)))

-- ---- the parts

-- the rule is asked of functions that may be inferred already
abbrev pub is_asked : Rule → Bool
is_asked Numbers = true
is_asked Entry = true
is_asked Successors = true
is_asked Listed = false
is_asked ListedOnce = true
is_asked Handlers = true
is_asked Phis = true
is_asked Orders = true
is_asked Distinct = true
is_asked Calls = true
is_asked ContextValues = true

-- the functions below it are a tree, and it and those below it keep their rules and have effects that fit
pub record Fitted (func : HirFunction) (env : Environment) : Type 0 where
  pub below : List ℕ
  pub tree : tree_below env func ≡ Some below
  pub tables : tables_fit env ≡ Ok tt
  pub types : types_fit env ≡ Ok tt
  pub signatures : signatures_fit env ≡ Ok tt
  pub reports : reports_no_invariant env ≡ true
  pub rule : (r : Rule) → is_asked r ≡ true → rule_holds r env None func ≡ Ok tt
  pub rule_below : (r : Rule) → is_asked r ≡ true → (k : ℕ) → is_among below k ≡ true → at_function r env k ≡ Ok tt
  pub apart : identifiers_apart env func below ≡ Ok tt
  pub effects : effects_fit env func ≡ true
  pub effects_below : (k : ℕ) → is_among below k ≡ true → effects_fit_at env k ≡ true

-- so is the rule of functions together
abbrev family_is_asked : FamilyRule → Bool
family_is_asked (Each r) = is_asked r
family_is_asked Tables = true
family_is_asked Types = true
family_is_asked Signatures = true
family_is_asked Apart = true

-- where a rule that is asked stands in their order
place_of : (rule : Rule) → is_asked rule ≡ true → (i : ℕ) × (slice_get family_rules i ≡ Some (Each rule))
place_of Numbers e = (1, refl)
place_of Entry e = (2, refl)
place_of Successors e = (3, refl)
place_of Listed e = cc
place_of ListedOnce e = (5, refl)
place_of Handlers e = (6, refl)
place_of Phis e = (7, refl)
place_of Orders e = (8, refl)
place_of Distinct e = (9, refl)
place_of Calls e = (12, refl)
place_of ContextValues e = (13, refl)

family_place : (rule : FamilyRule) → family_is_asked rule ≡ true → (i : ℕ) × (slice_get family_rules i ≡ Some rule)
family_place Tables e = (0, refl)
family_place Types e = (4, refl)
family_place Apart e = (10, refl)
family_place Signatures e = (11, refl)
family_place (Each r) e = place_of r e

-- each that is asked holds
asked_of : (func : HirFunction) (env : Environment) (ks : List ℕ) → function_rules env func ks ≡ Ok tt
    → (rule : FamilyRule) → family_is_asked rule ≡ true → family_holds env func ks rule ≡ Ok tt
asked_of func env ks h rule e = let p = family_place rule e in
    passes_at (family_holds env func ks) family_rules p.0 rule h p.1

-- items of which each that passes a test passes
pass_where : {A E : Type 0} (p : A → Bool) (f : A → Result ⊤ E) → ((x : A) → p x ≡ true → f x ≡ Ok tt) → (xs : List A)
    → list_all p xs ≡ true → all_pass f xs ≡ Ok tt
pass_where p f h [] t = refl
pass_where p f h (x ∷ xs) t =
    let b : (p x ≡ true) × (list_all p xs ≡ true) = both_true (p x) (list_all p xs) t in
    then_pass (f x) (all_pass f xs) (h x b.0) (pass_where p f h xs b.1)

-- a function that the inference takes has the parts
pub fitted : (func : HirFunction) (env : Environment) → function_fits func env ≡ true → Fitted func env
fitted func env h =
    let t = fitting_tree func env h in
    let ks : List ℕ = t.0 in
    let asked = asked_of func env ks (fitting_rules func env ks t.2) in
    let a : _ × (reports_no_invariant env ≡ true) = both_true _ (reports_no_invariant env) t.2 in
    let b : _ × (list_all (effects_fit_at env) ks ≡ true) = both_true _ (list_all (effects_fit_at env) ks) a.0 in
    let c : (is_ok (function_rules env func ks) ≡ true) × (effects_fit env func ≡ true) = both_true _ _ b.0 in record {
      below = ks;
      tree = t.1;
      tables = asked Tables refl;
      types = asked Types refl;
      signatures = asked Signatures refl;
      reports = a.1;
      rule = λ r i. (both_pass (rule_holds r env None func) (all_pass (at_function r env) ks) (asked (Each r) i)).0;
      rule_below = λ r i k. pass_among (at_function r env) ks k
          (both_pass (rule_holds r env None func) (all_pass (at_function r env) ks) (asked (Each r) i)).1;
      apart = asked Apart refl;
      effects = c.1;
      effects_below = λ k. true_among (effects_fit_at env) ks k b.1;
    }

module _ (func : HirFunction) (env : Environment) (f : Fitted func env) where
  each_of : (r : Rule) → is_asked r ≡ true → each_function r env func f.below ≡ Ok tt
  each_of r i = then_pass (rule_holds r env None func) (all_pass (at_function r env) f.below) (f.rule r i)
      (pass_each (at_function r env) f.below (f.rule_below r i))

  family_of : (rule : FamilyRule) → family_is_asked rule ≡ true → family_holds env func f.below rule ≡ Ok tt
  family_of Tables e = f.tables
  family_of Types e = f.types
  family_of Signatures e = f.signatures
  family_of Apart e = f.apart
  family_of (Each r) e = each_of r e

  rules_of : function_rules env func f.below ≡ Ok tt
  rules_of = pass_where family_is_asked (family_holds env func f.below) family_of family_rules refl

  -- the inference takes a function that has the parts
  pub fits_of_parts : function_fits func env ≡ true
  fits_of_parts =
      let with_them : function_fits_with env func f.below ≡ true =
      together (is_ok (function_rules env func f.below) && effects_fit env func
      && list_all (effects_fit_at env) f.below) (reports_no_invariant env)
      (together (is_ok (function_rules env func f.below) && effects_fit env func)
      (list_all (effects_fit_at env) f.below)
      (together (is_ok (function_rules env func f.below)) (effects_fit env func) (ap is_ok rules_of) f.effects)
      (true_each (effects_fit_at env) f.below f.effects_below)) f.reports in
      ap (λ (o : Option (List ℕ)). option_map_or (function_fits_with env func) o false) f.tree ∙ with_them
