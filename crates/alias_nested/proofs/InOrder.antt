-- The order in which functions are analysed: it has each function once, and stays where what functions create stays.
use Rattle.std.specs.Prelude.{◌≡◌, ℕ, true, false, List, [], ◌∷◌, ◌++◌, Option, Some, None, option_map, slice_get}
use Rattle.std.specs.List.{flat_map}
use Rattle.std.proofs.Common.{zero, suc, refl, ap, sym, ◌∙◌, subst, arith, ◌+◌, ◌≤◌}
use Rattle.std.proofs.lemmas.List.{map-append}
use Rattle.alias_base.specs.declared.ids.FunctionId.{FunctionId}
use Rattle.alias_rules.specs.function_rules.Rules.{is_among}
use Rattle.alias_hir.specs.declared.env.Environment.{Environment}
use Rattle.alias_hir.specs.declared.hir.HirFunction.{HirFunction}
use Rattle.alias_range_pass.specs.places.Keeping.{but_context}
use Rattle.alias_rules.specs.Fitting.{function_fits}
use Rattle.alias_rules.specs.Nesting.{created_in, created_at, times}
use Rattle.alias_rules.specs.TreeLaws.{times_both}
use Rattle.alias_rules.specs.declared.rules.Rule.TheVariants.{ListedOnce}
use Rattle.alias_nesting_laws.specs.ClosureLaws.{Closed, tree_closed, among_front, among_rest}
use Rattle.alias_nesting_laws.specs.FittingLaws.{Fitted, fitted, first_among}
use Rattle.alias_nesting_laws.specs.PartLaws.{absent, not_both}
use Rattle.alias_fitting_laws.specs.pruning.BelowLaws.{below_distinct}
use Rattle.alias_nested.specs.Created.{created_functions}
use Rattle.alias_nested.specs.Order.{created_by_slot, innermost_first, below_innermost_first, numbers}
use Rattle.alias_nested.proofs.Counting.{numbers_innermost_first, listed_fewer, times_in_tree}
use Rattle.alias_nested.proofs.Creating.{once_again, created_at_most, slot_at_most}

-- ---- numbers of two lists

both_numbers : (xs ys : List FunctionId) → numbers (xs ++ ys) ≡ numbers xs ++ numbers ys
both_numbers xs ys = map-append (λ (id : FunctionId). id.0) xs ys

pub times_append : (xs ys : List FunctionId) (j : ℕ) → times (numbers (xs ++ ys)) j ≡ times (numbers xs) j
    + times (numbers ys) j
times_append xs ys j = ap (λ zs. times zs j) (both_numbers xs ys) ∙ times_both (numbers xs) (numbers ys) j

pub in_front : (xs ys : List FunctionId) (k : ℕ) → is_among (numbers xs) k ≡ true → is_among (numbers (xs ++ ys)) k
    ≡ true
in_front xs ys k h = ap (λ zs. is_among zs k) (both_numbers xs ys) ∙ among_front (numbers xs) (numbers ys) k h

pub in_rest : (xs ys : List FunctionId) (k : ℕ) → is_among (numbers ys) k ≡ true → is_among (numbers (xs ++ ys)) k
    ≡ true
in_rest xs ys k h = ap (λ zs. is_among zs k) (both_numbers xs ys) ∙ among_rest (numbers xs) (numbers ys) k h

pub in_neither : (xs ys : List FunctionId) (k : ℕ) → is_among (numbers (xs ++ ys)) k ≡ false
    → (is_among (numbers xs) k ≡ false) × (is_among (numbers ys) k ≡ false)
in_neither xs ys k h = (
  absent (is_among (numbers xs) k) (λ i. not_both (is_among (numbers (xs ++ ys)) k) (in_front xs ys k i) h),
  absent (is_among (numbers ys) k) (λ i. not_both (is_among (numbers (xs ++ ys)) k) (in_rest xs ys k i) h),
)

pub not_one : (id : FunctionId) (k : ℕ) → is_among (numbers (id ∷ [])) k ≡ false → k ≡ id.0 → ⊥
not_one id k h e = not_both (is_among (numbers (id ∷ [])) k)
    (subst (λ z. is_among (id.0 ∷ []) z ≡ true) (sym e) (first_among id.0 [])) h

-- ---- the order in numbers

flat_numbers : (g : FunctionId → List FunctionId) (h : ℕ → List ℕ) → ((id : FunctionId) → numbers (g id) ≡ h id.0)
    → (ids : List FunctionId) → numbers (flat_map g ids) ≡ flat_map h (numbers ids)
flat_numbers g h e [] = refl
flat_numbers g h e (x ∷ xs) = both_numbers (g x) (flat_map g xs) ∙ ap (λ zs. zs ++ numbers (flat_map g xs)) (e x)
    ∙ ap (λ zs. h x.0 ++ zs) (flat_numbers g h e xs)

-- the numbers of what the function in a slot creates
abbrev pub created_numbers : List HirFunction → ℕ → List ℕ
created_numbers fs k = numbers (created_by_slot (slice_get fs k))

pub order_numbers : (n : ℕ) (fs : List HirFunction) (level : List FunctionId) → numbers (innermost_first n fs level)
    ≡ numbers_innermost_first n (created_numbers fs) (numbers level)
unfolding innermost_first numbers_innermost_first
order_numbers zero fs level = refl
order_numbers (suc n) fs level =
    flat_numbers (λ (id : FunctionId). innermost_first n fs (created_by_slot (slice_get fs id.0)) ++ id ∷ [])
    (λ (k : ℕ). numbers_innermost_first n (created_numbers fs) (created_numbers fs k) ++ k ∷ [])
    (λ id. both_numbers (innermost_first n fs (created_by_slot (slice_get fs id.0))) (id ∷ [])
    ∙ ap (λ zs. zs ++ id.0 ∷ []) (order_numbers n fs (created_by_slot (slice_get fs id.0)))) level

-- ---- each function is there once

-- below a function that the inference takes
pub once_below : (f : HirFunction) (env : Environment) → function_fits f env ≡ true → (n k : ℕ)
    → times (numbers (below_innermost_first n f env)) k ≤ 1
once_below f env fits n k =
    let p : Fitted f env = fitted f env fits in
    let tree : Closed env [] (created_in f) p.below = tree_closed env 63 [] (created_in f) p.below p.tree in
    let a : times (numbers (below_innermost_first n f env)) k
    ≡ times (numbers_innermost_first n (created_numbers env.functions) (numbers (created_functions f))) k =
    ap (λ zs. times zs k) (order_numbers n env.functions (created_functions f)) in
    let b : times (numbers_innermost_first n (created_numbers env.functions) (numbers (created_functions f))) k
    ≤ times (numbers_innermost_first n (created_at env) (created_in f)) k
    = listed_fewer p.below (created_numbers env.functions) (created_at env) (λ j h. tree.closed j h refl)
    (λ i j h. slot_at_most env i (slice_get env.functions i) (p.rule_below ListedOnce refl i h) j)
    n (numbers (created_functions f)) (created_in f) (created_at_most None f (p.rule ListedOnce refl)) tree.has_level
    k in
    let none : times [] k ≡ 0 = refl in
    let c : times [] k + times (numbers_innermost_first n (created_at env) (created_in f)) k ≤ times p.below k =
    times_in_tree 63 n env [] (created_in f) p.below p.tree k in
    let d : times p.below k ≤ 1 = once_again [] p.below k (below_distinct env f p.below p.tree) in
    omega arith

-- ---- the order stays where what functions create stays

-- a function that is the same, but for the effects of its context places
pub same_creates : (o p : Option HirFunction) → option_map but_context p ≡ option_map but_context o → created_by_slot p
    ≡ created_by_slot o
same_creates None None h = refl
same_creates None (Some g) h = cc
same_creates (Some f) None h = cc
same_creates (Some f) (Some g) h = let one : but_context g ≡ but_context f = cc in ap created_functions one

module _ (fs gs : List HirFunction) where
  abbrev Stays : List FunctionId → Type 0
  Stays ids = (k : ℕ) → is_among (numbers ids) k ≡ true → created_by_slot (slice_get gs k)
      ≡ created_by_slot (slice_get fs k)

  abbrev one : ℕ → List HirFunction → FunctionId → List FunctionId
  one n hs id = innermost_first n hs (created_by_slot (slice_get hs id.0)) ++ id ∷ []

  one_stays : (n : ℕ) → ((level : List FunctionId) → Stays (innermost_first n fs level) → innermost_first n gs level
      ≡ innermost_first n fs level) → (id : FunctionId) → Stays (one n fs id) → one n gs id ≡ one n fs id
  one_stays n below id h =
      let level : List FunctionId = created_by_slot (slice_get fs id.0) in
      let creates : created_by_slot (slice_get gs id.0) ≡ level =
      h id.0 (in_rest (innermost_first n fs level) (id ∷ []) id.0 (first_among id.0 [])) in
      ap (λ ids. innermost_first n gs ids ++ id ∷ []) creates
      ∙ ap (λ ids. ids ++ id ∷ []) (below level (λ k i. h k (in_front (innermost_first n fs level) (id ∷ []) k i)))

  each_stays : (n : ℕ) → ((level : List FunctionId) → Stays (innermost_first n fs level) → innermost_first n gs level
      ≡ innermost_first n fs level) → (level : List FunctionId) → Stays (flat_map (one n fs) level)
      → flat_map (one n gs) level ≡ flat_map (one n fs) level
  each_stays n below [] h = refl
  each_stays n below (x ∷ xs) h =
      ap (λ ids. ids ++ flat_map (one n gs) xs)
      (one_stays n below x (λ k i. h k (in_front (one n fs x) (flat_map (one n fs) xs) k i)))
      ∙ ap (λ ids. one n fs x ++ ids) (each_stays n below xs
      (λ k i. h k (in_rest (one n fs x) (flat_map (one n fs) xs) k i)))

  pub order_stays : (n : ℕ) (level : List FunctionId) → Stays (innermost_first n fs level) → innermost_first n gs level
      ≡ innermost_first n fs level
  unfolding innermost_first
  order_stays zero level h = refl
  order_stays (suc n) level h = each_stays n (order_stays n) level h

  pub slot_stays : (n : ℕ) (id : FunctionId) → Stays (one n fs id) → one n gs id ≡ one n fs id
  slot_stays n id h = one_stays n (order_stays n) id h
