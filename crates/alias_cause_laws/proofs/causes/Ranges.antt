-- The range ends of a unit that was inferred are those that each function's range pass left, and were unset before.
use Rattle.std.specs.Prelude.{◌≡◌, ℕ, ◌<◌, ◌≤◌, ◌⊎◌, true, false, List, [], ◌∷◌, ◌++◌, Option, Some, None, Ok, length}
use Rattle.std.specs.Prelude.{slice_get, refl}
use Rattle.std.proofs.Common.{inl, inr, ⊎_elim, ap, sym, ◌∙◌, subst, arith}
use Rattle.std.proofs.lemmas.List.{map-append, append_assoc}
use Rattle.alias_base.specs.declared.ids.FunctionId.{FunctionId}
use Rattle.alias_effects.specs.Inference.{env_after}
use Rattle.alias_rules.specs.function_rules.Rules.{is_among}
use Rattle.alias_hir.specs.declared.env.Environment.{Environment}
use Rattle.alias_hir.specs.declared.env.Unit.{Unit as HirUnit}
use Rattle.alias_hir.specs.declared.hir.HirFunction.{HirFunction}
use Rattle.alias_nested.proofs.InOrder.{once_below}
use Rattle.alias_nested.proofs.Keeping.{pruned_fits}
use Rattle.alias_nested.specs.Analysis.{Analysed, Analysis, analysis}
use Rattle.alias_nested.specs.Order.{numbers}
use Rattle.alias_nested.specs.Units.{UnitAnalysis, unit_analysed}
use Rattle.alias_nesting_laws.specs.ClosureLaws.{among_rest}
use Rattle.alias_nesting_laws.specs.FittingLaws.{first_among, later_among}
use Rattle.alias_nesting_laws.specs.PartLaws.{absent, not_both}
use Rattle.alias_answer_laws.proofs.order.Solving.{root_apart}
use Rattle.alias_answer_laws.specs.order.Order.{nested_innermost_first}
use Rattle.alias_graph.specs.Reach.{end_at}
use Rattle.alias_graph.specs.Walks.{IsOneOf}
use Rattle.alias_rules.specs.Fitting.{function_fits}
use Rattle.alias_rules.specs.Functions.{of_function, rules_hold}
use Rattle.alias_rules.specs.RuleLaws.{Parts, parts_of_rules, root_of_rules, nested_of_rules, rules_make_function_fit}
use Rattle.alias_rules.specs.Sharing.{identifiers_of, identifiers_at, context_of, context_at}
use Rattle.alias_rules.specs.TreeLaws.{counted}
use Rattle.alias_rules.specs.declared.rules.Rule.TheVariants.{Numbers}
use Rattle.alias_visit.specs.Places.{identifiers_in}
use Rattle.alias_inferred_laws.proofs.inferred.Explaining.{RootRanged, root_ranged}
use Rattle.alias_cause_laws.proofs.causes.Apart.{apart_root, apart_behind, apart_before}
use Rattle.alias_cause_laws.proofs.causes.Below.{named_below, context_named}
use Rattle.alias_cause_laws.proofs.causes.Chain.{Around, chain_length, chain_stays, chain_unset, link_after, link_left}
use Rattle.alias_cause_laws.proofs.causes.Ends.{passed_ends, passed_length, past_ends, begun_unset}
use Rattle.alias_cause_laws.proofs.causes.Passes.{PassesRan, ends_stay}
use Rattle.alias_cause_laws.proofs.causes.Walking.{Walked, analysed_walked, less_still}

-- ---- lists

number_among : (ids : List FunctionId) (id : FunctionId) → IsOneOf id ids → is_among (numbers ids) id.0 ≡ true
number_among [] id i = absurd i
number_among (x ∷ ids) id i =
    ⊎_elim (λ (same : id ≡ x). subst (λ z. is_among (numbers (z ∷ ids)) id.0 ≡ true) same
    (first_among id.0 (numbers ids))) (λ later. later_among x.0 (numbers ids) id.0 (number_among ids id later)) i

split_one : (ids : List FunctionId) (id : FunctionId) → IsOneOf id ids → (before : List FunctionId)
    × (behind : List FunctionId) × (ids ≡ before ++ id ∷ behind)
split_one [] id i = absurd i
split_one (x ∷ ids) id i =
    ⊎_elim (λ (same : id ≡ x). ([], ids, ap (λ z. z ∷ ids) (sym same)))
    (λ later. let r = split_one ids id later in (x ∷ r.0, r.1, ap (λ zs. x ∷ zs) r.2)) i

one_of_both : (xs ys : List FunctionId) (id : FunctionId) → IsOneOf id xs → IsOneOf id (xs ++ ys)
one_of_both [] ys id i = absurd i
one_of_both (x ∷ xs) ys id i = ⊎_elim (λ same. inl same) (λ later. inr (one_of_both xs ys id later)) i

one_behind : (xs ys : List FunctionId) (id : FunctionId) → IsOneOf id ys → IsOneOf id (xs ++ ys)
one_behind [] ys id i = i
one_behind (x ∷ xs) ys id i = inr (one_behind xs ys id i)

numbers_split : (xs ys : List FunctionId) (id : FunctionId) → numbers (xs ++ id ∷ ys) ≡ numbers xs ++ id.0 ∷ numbers ys
numbers_split xs ys id = map-append (λ (z : FunctionId). z.0) xs (id ∷ ys)

-- ---- a unit

module _ (u : HirUnit) (a : UnitAnalysis) (rules : rules_hold u ≡ Ok tt) (is : unit_analysed u ≡ Ok a) where
  abbrev pub order : List FunctionId
  order = nested_innermost_first u

  pub parts : Parts u
  parts = parts_of_rules u rules

  pub root : RootRanged u a
  root = root_ranged u a is

  abbrev pub nested : Analysis
  nested = root.nested

  pub fits : function_fits u.function u.env ≡ true
  fits = rules_make_function_fit u rules

  -- the functions below the root were analysed in their order
  pub walked : Walked u.env order (analysis u.env []) nested
  walked = analysed_walked u.env 63 u.function (analysis u.env []) nested fits (λ k x h. h)
      (record { slots = λ k h. refl; once = λ k. once_below u.function u.env fits 63 k }) root.analyses

  -- and then the root
  abbrev pub root_ran : PassesRan u.env u.function false nested.env u.function
  root_ran = record {
    fits = pruned_fits u.env nested.env walked.pruned u.function fits;
    same = refl;
    less = less_still u.env u.env nested.env walked.pruned (λ k x h. h);
    end = root.end;
    ended = root.ended;
    ranged = root.ranged;
    ran = root.ran;
  }

  -- ---- what stands in functions is in the table

  slot_below : (k x : ℕ) (o : Option HirFunction) → of_function Numbers u.env k o ≡ Ok tt
      → is_among (identifiers_of u.env o) x ≡ true → x < length u.env.identifiers
  slot_below k x None h i = cc
  slot_below k x (Some g) h i = named_below u.env (λ j. nested_of_rules Numbers u j parts.numbers) g x h i

  pub at_below : (k x : ℕ) → is_among (identifiers_at u.env k) x ≡ true → x < length u.env.identifiers
  at_below k x i = slot_below k x (slice_get u.env.functions k) (nested_of_rules Numbers u k parts.numbers) i

  root_below : (x : ℕ) → is_among (identifiers_in u.env u.function) x ≡ true → x < length u.env.identifiers
  root_below x i = named_below u.env (λ j. nested_of_rules Numbers u j parts.numbers) u.function x
      (root_of_rules Numbers u parts.numbers) i

  slot_named : (x : ℕ) (o : Option HirFunction) → is_among (context_of o) x ≡ true → is_among (identifiers_of u.env o) x
      ≡ true
  slot_named x None h = cc
  slot_named x (Some g) h = context_named u.env g x h

  context_below : (k x : ℕ) → is_among (context_at u.env k) x ≡ true → x < length u.env.identifiers
  context_below k x h = at_below k x (slot_named x (slice_get u.env.functions k) h)

  ordered_there : (id : FunctionId) → IsOneOf id order → id.0 < length u.env.functions
  ordered_there id i = (root_apart u rules).there id.0 (counted (numbers order) id.0 (number_among order id i))

  -- ---- a nested function

  module _ (x : Analysed) (r : Around u.env u.env.identifiers order nested.env.identifiers x) where
    abbrev number : ℕ
    number = r.id.0

    abbrev begun_env : Environment
    begun_env = env_after x.env r.link.ran.end

    -- it stands in the function and is none of its context places, or the effects pass added it
    abbrev pub IsOwn : ℕ → Type 0
    IsOwn n = ((is_among (identifiers_at u.env number) n ≡ true) × (is_among (context_at u.env number) n ≡ false))
        ⊎ ((length x.env.identifiers ≤ n) × (n < length begun_env.identifiers))

    one_of_order : IsOneOf r.id order
    one_of_order = subst (IsOneOf r.id) (sym r.split) (one_behind r.before (r.id ∷ r.behind) r.id (inl refl))

    order_split : numbers order ≡ numbers r.before ++ number ∷ numbers r.behind
    order_split = ap numbers r.split ∙ numbers_split r.before r.behind r.id

    there : number < length u.env.functions
    there = ordered_there r.id one_of_order

    pub grown : length u.env.identifiers ≤ length x.env.identifiers
    grown = chain_length u.env parts.environment u.env.identifiers x.env.identifiers r.before r.earlier r.first

    -- what stands in the function and in one before it is in the context of that
    in_context : (n : ℕ) → is_among (identifiers_at u.env number) n ≡ true → (id : FunctionId) → IsOneOf id r.before
        → is_among (identifiers_at u.env id.0) n ≡ true → is_among (context_at u.env id.0) n ≡ true
    in_context n own id i other =
        let s = split_one r.before id i in
        let split : numbers order ≡ numbers s.0 ++ id.0 ∷ (numbers s.1 ++ number ∷ numbers r.behind)
        = order_split ∙ ap (λ zs. numbers zs ++ number ∷ numbers r.behind) s.2
        ∙ ap (λ zs. zs ++ number ∷ numbers r.behind) (numbers_split s.0 s.1 id)
        ∙ append_assoc (numbers s.0) (id.0 ∷ numbers s.1) (number ∷ numbers r.behind) in
        let also : id.0 < length u.env.functions =
        ordered_there id (subst (IsOneOf id) (sym r.split) (one_of_both r.before (r.id ∷ r.behind) id i)) in
        apart_before u rules (numbers s.0) (numbers s.1 ++ number ∷ numbers r.behind) id.0 split number n also there
        (at_below number n own)
        (among_rest (numbers s.1) (number ∷ numbers r.behind) number (first_among number (numbers r.behind))) own other

    -- its end was unset as the function's range pass began
    pub own_unset : (n : ℕ) → IsOwn n → end_at begun_env.identifiers n ≡ 0
    own_unset n own =
        passed_ends x.env r.link.ran.end n
        ∙ ⊎_elim
        (λ s. chain_unset u.env parts.environment u.env.identifiers x.env.identifiers r.before r.earlier r.first n
        (in_context n s.0) (at_below number n s.0) (begun_unset u.env n parts.environment))
        (λ t. past_ends x.env.identifiers n t.0)
        own

    pub own_free : (n : ℕ) → IsOwn n → is_among (context_at u.env number) n ≡ false
    own_free n own =
        ⊎_elim (λ s. s.1)
        (λ t. absent (is_among (context_at u.env number) n)
        (λ c. let below = context_below number n c in let g = grown in let past = t.0 in absurd (omega arith)))
        own

    pub not_behind : (n : ℕ) → IsOwn n → (id : FunctionId) → IsOneOf id r.behind
        → is_among (identifiers_at u.env id.0) n
        ≡ true → ⊥
    not_behind n own id i other =
        let also : id.0 < length u.env.functions =
        ordered_there id (subst (IsOneOf id) (sym r.split) (one_behind r.before (r.id ∷ r.behind) id (inr i))) in
        ⊎_elim
        (λ s. apart_behind u rules (numbers r.before) (numbers r.behind) number order_split id.0 n there also
        (at_below number n s.0) (number_among r.behind id i) s.0 s.1 other)
        (λ t. let below = at_below id.0 n other in let g = grown in let past = t.0 in absurd (omega arith))
        own

    pub own_below : (n : ℕ) → IsOwn n → n < length r.left
    own_below n own =
        let same = link_after u.env parts.environment r.id x r.left r.link in
        let more = passed_length x.env r.link.ran.end in
        let g = grown in
        ⊎_elim (λ s. let below = at_below number n s.0 in omega arith) (λ t. let below = t.1 in omega arith) own

    pub not_root : (n : ℕ) → IsOwn n → ((is_among (identifiers_in u.env u.function) n ≡ true)
        ⊎ (length nested.env.identifiers ≤ n)) → ⊥
    not_root n own named =
        ⊎_elim
        (λ root. ⊎_elim
        (λ s. not_both (is_among (context_at u.env number) n)
        (apart_root u rules number n there (at_below number n s.0) root s.0) s.1)
        (λ t. let below = root_below n root in let g = grown in let past = t.0 in absurd (omega arith))
        own)
        (λ past. let below = own_below n own in let more =
        chain_length u.env parts.environment r.left nested.env.identifiers r.behind r.later r.rest in
        absurd (omega arith))
        named

    -- in the unit that is handed out it is the end that the function's range pass left
    pub own_stays : (n : ℕ) → IsOwn n → end_at a.inferred.unit.env.identifiers n
        ≡ end_at r.link.ran.ranged.after.1.identifiers n
    own_stays n own =
        ap (λ ids. end_at ids n) root.identifiers
        ∙ ends_stay u.env u.function parts.function false nested.env u.function root_ran n (not_root n own)
        ∙ chain_stays u.env parts.environment r.left nested.env.identifiers r.behind r.later r.rest n (not_behind n own)
        (own_below n own)
        ∙ link_left u.env parts.environment r.id x r.left r.link n (own_free n own)

  -- ---- the root

  -- it stands in the root, or the effects pass on it added it
  abbrev pub IsRoots : ℕ → Type 0
  IsRoots n = (is_among (identifiers_in u.env u.function) n ≡ true)
      ⊎ ((length nested.env.identifiers ≤ n) × (n < length (env_after nested.env root.end).identifiers))

  -- its end was unset as the root's range pass began
  pub root_unset : (n : ℕ) → IsRoots n → end_at (env_after nested.env root.end).identifiers n ≡ 0
  root_unset n own =
      passed_ends nested.env root.end n
      ∙ ⊎_elim
      (λ s. chain_unset u.env parts.environment u.env.identifiers nested.env.identifiers order walked.taken walked.chain
      n (λ id i other. apart_root u rules id.0 n (ordered_there id i) (root_below n s) s other) (root_below n s)
      (begun_unset u.env n parts.environment))
      (λ t. past_ends nested.env.identifiers n t.0)
      own
