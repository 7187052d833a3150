-- The order of a unit that is well formed has each nested function once.
use Rattle.std.specs.Prelude.{◌≡◌, ℕ, true, false, List, [], ◌∷◌, ◌++◌, Option, Some, None, Ok, length, slice_get}
use Rattle.std.specs.Prelude.{if◌then◌else◌}
use Rattle.std.specs.List.{flat_map}
use Rattle.std.proofs.Common.{zero, suc, refl, ap, ◌∙◌, subst, arith, ◌+◌, ◌<◌, ◌≤◌}
use Rattle.alias_hir.specs.declared.env.Environment.{Environment}
use Rattle.alias_hir.specs.declared.env.Unit.{Unit as HirUnit}
use Rattle.alias_hir.specs.declared.hir.HirFunction.{HirFunction}
use Rattle.alias_rules.specs.function_rules.Rules.{is_among}
use Rattle.alias_rules.specs.Functions.{of_function, rules_hold}
use Rattle.alias_rules.specs.Nesting.{created_in, created_of, created_at, next_level, tree_below, fresh, reached_from}
use Rattle.alias_rules.specs.Nesting.{reached, times}
use Rattle.alias_rules.specs.RuleLaws.{Parts, parts_of_rules, root_of_rules, nested_of_rules, function_past}
use Rattle.alias_rules.specs.RuleLaws.{found_within, rules_make_function_fit}
use Rattle.alias_rules.specs.TreeLaws.{times_both, counted}
use Rattle.alias_rules.specs.declared.rules.Rule.TheVariants.{Numbers, Listed, ListedOnce}
use Rattle.alias_nesting_laws.specs.ClosureLaws.{Among, Closed, tree_closed}
use Rattle.alias_nesting_laws.specs.FittingLaws.{Fitted, fitted, first_among, later_among}
use Rattle.alias_nesting_laws.specs.PartLaws.{among_cases, append_cases}
use Rattle.alias_fitting_laws.specs.pruning.BelowLaws.{Source, source_of, below_are, below_distinct}
use Rattle.alias_nested.specs.Created.{created_functions}
use Rattle.alias_nested.specs.Order.{created_by_slot, numbers}
use Rattle.alias_nested.proofs.Counting.{flat_times, total_same, zero_total, numbers_innermost_first, listed_same}
use Rattle.alias_nested.proofs.Counting.{tree_times}
use Rattle.alias_nested.proofs.Creating.{once_again, created_as_often}
use Rattle.alias_nested.proofs.InOrder.{created_numbers, order_numbers}
use Rattle.alias_answer_laws.specs.order.Order.{nested_innermost_first}

-- ---- no number past the table

slot_past : (env : Environment) (n : ℕ) (o : Option HirFunction) (k : ℕ) → of_function Numbers env n o ≡ Ok tt
    → length env.functions ≤ k → times (created_of o) k ≡ 0
slot_past env n None k h past = refl
slot_past env n (Some f) k h past = function_past env f k h past

-- ---- what is reached

fresh_among : (found xs : List ℕ) (k : ℕ) → is_among (fresh found xs) k ≡ true → is_among xs k ≡ true
fresh_among found [] k h = h
fresh_among found (x ∷ xs) k h =
    elim (is_among found x) as (λ b. is_among (if b then fresh found xs else x ∷ fresh (found ++ x ∷ []) xs) k ≡ true
    → is_among (x ∷ xs) k ≡ true) [
      | true ↦ λ g. later_among x xs k (fresh_among found xs k g)
      | false ↦ λ g. among_more (fresh (found ++ x ∷ []) xs) g (fresh_among (found ++ x ∷ []) xs k)
    ] h
  where
    here : k ≡ x → is_among (x ∷ xs) k ≡ true
    here e = subst (λ z. is_among (z ∷ xs) k ≡ true) e (first_among k xs)

    among_more : (ys : List ℕ) → is_among (x ∷ ys) k ≡ true → (is_among ys k ≡ true → is_among xs k ≡ true)
        → is_among (x ∷ xs) k ≡ true
    among_more ys g rest = among_cases x ys k (is_among (x ∷ xs) k ≡ true) g here (λ l. later_among x xs k (rest l))

pub reached_among : (n : ℕ) (env : Environment) (found level ks : List ℕ) → Among ks found → Among ks level
    → ((k : ℕ) → is_among ks k ≡ true → Among ks (created_at env k)) → Among ks (reached_from n env found level)
unfolding reached_from
reached_among zero env found level ks f l c = f
reached_among (suc n) env found level ks f l c =
    let new : Among ks (fresh found level) = λ k h. l k (fresh_among found level k h) in
    reached_among n env (found ++ fresh found level) (next_level env (fresh found level)) ks
    (λ k h. append_cases found (fresh found level) k (is_among ks k ≡ true) h (f k) (new k))
    (λ k h. let s : Source (created_at env) (fresh found level) k =
    source_of (created_at env) (fresh found level) k h in c s.number (new s.number s.among) k s.taken)
    c

-- ---- the unit

slot_as_often : (env : Environment) (k : ℕ) (o : Option HirFunction) → of_function Listed env k o ≡ Ok tt
    → of_function ListedOnce env k o ≡ Ok tt → (j : ℕ) → times (numbers (created_by_slot o)) j ≡ times (created_of o) j
slot_as_often env k None all once j = refl
slot_as_often env k (Some f) all once j = created_as_often (Some (record { 0 = k })) f all once j

module _ (u : HirUnit) (rules : rules_hold u ≡ Ok tt) where
  abbrev parts : Parts u
  parts = parts_of_rules u rules

  abbrev fits : Fitted u.function u.env
  fits = fitted u.function u.env (rules_make_function_fit u rules)

  -- the functions below the root
  abbrev pub unit_below : List ℕ
  unit_below = fits.below

  pub unit_tree : tree_below u.env u.function ≡ Some unit_below
  unit_tree = fits.tree

  -- the function in a slot creates by its blocks what its instructions create, and so does the root
  pub slots_as_often : (k j : ℕ) → times (created_numbers u.env.functions k) j ≡ times (created_at u.env k) j
  slots_as_often k j = slot_as_often u.env k (slice_get u.env.functions k) (nested_of_rules Listed u k parts.listed)
      (nested_of_rules ListedOnce u k parts.once) j

  pub root_as_often : (j : ℕ) → times (numbers (created_functions u.function)) j ≡ times (created_in u.function) j
  root_as_often j = created_as_often None u.function (root_of_rules Listed u parts.listed)
      (root_of_rules ListedOnce u parts.once) j

  -- each number is in the order as often as among the functions below the root
  order_times : (j : ℕ) → times (numbers (nested_innermost_first u)) j ≡ times fits.below j
  order_times j =
      let a : times (numbers (nested_innermost_first u)) j
      ≡ times (numbers_innermost_first 63 (created_numbers u.env.functions)
      (numbers (created_functions u.function))) j =
      ap (λ zs. times zs j) (order_numbers 63 u.env.functions (created_functions u.function)) in
      let b : times (numbers_innermost_first 63 (created_numbers u.env.functions)
      (numbers (created_functions u.function))) j
      ≡ times (numbers_innermost_first 63 (created_at u.env) (created_in u.function)) j
      = listed_same 63 (created_numbers u.env.functions) (created_at u.env) slots_as_often
      (numbers (created_functions u.function)) (created_in u.function) root_as_often j in
      let t : times fits.below j ≡ times [] j
      + times (numbers_innermost_first 63 (created_at u.env) (created_in u.function)) j =
      tree_times 63 u.env [] (created_in u.function) fits.below fits.tree j in
      let none : times [] j ≡ 0 = refl in
      let d : times (numbers_innermost_first 63 (created_at u.env) (created_in u.function)) j ≡ times fits.below j =
      omega arith in
      a ∙ b ∙ d

  pub order_past : (k : ℕ) → length u.env.functions ≤ k → times (numbers (nested_innermost_first u)) k ≡ 0
  order_past k past =
      let a : times fits.below k ≡ times (created_in u.function ++ flat_map (created_at u.env) fits.below) k =
      ap (λ zs. times zs k) (below_are u.env u.function fits.below fits.tree) in
      let b : times (created_in u.function ++ flat_map (created_at u.env) fits.below) k
      ≡ times (created_in u.function) k + times (flat_map (created_at u.env) fits.below) k =
      times_both (created_in u.function) (flat_map (created_at u.env) fits.below) k in
      let c : times (created_in u.function) k ≡ 0 =
      function_past u.env u.function k (root_of_rules Numbers u parts.numbers) past in
      let d : times (flat_map (created_at u.env) fits.below) k ≡ 0
      = flat_times (created_at u.env) fits.below k
      ∙ total_same (λ x. times (created_at u.env x) k) (λ x. 0)
      (λ x. slot_past u.env x (slice_get u.env.functions x) k (nested_of_rules Numbers u x parts.numbers) past)
      fits.below
      ∙ zero_total fits.below in
      let e : times (numbers (nested_innermost_first u)) k ≡ times fits.below k = order_times k in
      omega arith

  pub order_once : (k : ℕ) → k < length u.env.functions → times (numbers (nested_innermost_first u)) k ≡ 1
  order_once k there =
      let closed : Closed u.env [] (created_in u.function) fits.below =
      tree_closed u.env 63 [] (created_in u.function) fits.below fits.tree in
      let found : is_among (reached 63 u) k ≡ true = found_within u k parts.depth there in
      let among : is_among fits.below k ≡ true
      = reached_among 63 u.env [] (created_in u.function) fits.below closed.has_found closed.has_level
      (λ x h. closed.closed x h refl) k found in
      let least : 1 ≤ times fits.below k = counted fits.below k among in
      let most : times fits.below k ≤ 1 = once_again [] fits.below k
      (below_distinct u.env u.function fits.below fits.tree) in
      let e : times (numbers (nested_innermost_first u)) k ≡ times fits.below k = order_times k in
      let one : times fits.below k ≡ 1 = omega arith in
      e ∙ one
