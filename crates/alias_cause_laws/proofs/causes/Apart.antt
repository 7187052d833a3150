-- An identifier stands in one function of a unit alone, but for context places.
use Rattle.std.specs.Prelude.{◌≡◌, ℕ, ◌+◌, ◌<◌, ◌≤◌, ◌&&◌, nat_eq, Bool, true, false, not, find, if◌then◌else◌, List}
use Rattle.std.specs.Prelude.{[], ◌∷◌, ◌++◌, Option, Some, None, Ok, length, refl}
use Rattle.std.specs.List.{flat_map, range_with_len}
use Rattle.std.proofs.Common.{zero, suc, ap, sym, ◌∙◌, subst, arith}
use Rattle.std.proofs.lemmas.Bool.{eqb-true}
use Rattle.std.proofs.lemmas.List.{append_assoc}
use Rattle.alias_rules.specs.function_rules.Rules.{is_among}
use Rattle.alias_hir.specs.declared.env.Environment.{Environment}
use Rattle.alias_hir.specs.declared.env.Unit.{Unit as HirUnit}
use Rattle.alias_nested.specs.Order.{numbers}
use Rattle.alias_nesting_laws.specs.ClosureLaws.{Among, among_front, among_rest}
use Rattle.alias_nesting_laws.specs.FittingLaws.{first_among, later_among, together}
use Rattle.alias_nesting_laws.specs.PartLaws.{among_cases, append_cases, part_at, part_among, absent, not_both}
use Rattle.alias_answer_laws.proofs.order.Innermost.{order_innermost}
use Rattle.alias_answer_laws.proofs.order.Ordering.{differs}
use Rattle.alias_answer_laws.proofs.order.Unit.{order_once, reached_among}
use Rattle.alias_answer_laws.specs.order.Order.{nested_innermost_first}
use Rattle.alias_rules.specs.Functions.{nested_in, rules_hold}
use Rattle.alias_rules.specs.Nesting.{created_at, next_level, fresh, reached_from, times}
use Rattle.alias_rules.specs.RuleLaws.{parts_of_rules, each_number}
use Rattle.alias_rules.specs.Sharing.{identifiers_at, context_at, family, inside, others, outside, is_shared}
use Rattle.alias_rules.specs.Sharing.{first_in_two, in_two, nested_is_apart}
use Rattle.alias_rules.specs.TreeLaws.{times_both, counted}
use Rattle.alias_visit.specs.Places.{identifiers_in}

-- ---- lists

-- none is found where all fail
find_fails : (p : ℕ → Bool) (xs : List ℕ) (k : ℕ) → find p xs ≡ None → is_among xs k ≡ true → p k ≡ false
find_fails p [] k h i = cc
find_fails p (x ∷ xs) k h i =
    elim (p x) as (λ b. p x ≡ b → (if b then Some x else find p xs) ≡ None → p k ≡ false) [
      | true ↦ λ e g. cc
      | false ↦ λ e g. among_cases x xs k (p k ≡ false) i (λ same. ap p same ∙ e) (λ later. find_fails p xs k g later)
    ] refl h

range_among : (a n k : ℕ) → a ≤ k → k < a + n → is_among (range_with_len a n) k ≡ true
range_among a zero k low high = absurd (omega arith)
range_among a (suc n) k low high =
    elim (nat_eq k a) as (λ b. nat_eq k a ≡ b → is_among (range_with_len a (suc n)) k ≡ true) [
      | true ↦ λ e. subst (λ z. is_among (a ∷ range_with_len (a + 1) n) z ≡ true) (sym (eqb-true k a e))
          (first_among a (range_with_len (a + 1) n))
      | false ↦ λ e. let other : k ≡ a → ⊥ = λ same. differs k a e same in
          later_among a (range_with_len (a + 1) n) k (range_among (a + 1) n k (beyond a k low other) (omega arith))
    ] refl
  where
    beyond : (x y : ℕ) → x ≤ y → (y ≡ x → ⊥) → x + 1 ≤ y
    beyond x y h other = grind arith

kept_among : (those xs : List ℕ) (k : ℕ) → is_among xs k ≡ true → is_among those k ≡ false
    → is_among (others those xs) k ≡ true
kept_among those [] k h off = h
kept_among those (x ∷ xs) k h off =
    among_cases x xs k (is_among (others those (x ∷ xs)) k ≡ true) h
    (λ e. elim (is_among those x) as (λ b. is_among those x ≡ b
    → is_among (if not b then x ∷ others those xs else others those xs) k ≡ true) [
      | true ↦ λ i. absurd (not_both (is_among those k) (ap (is_among those) e ∙ i) off)
      | false ↦ λ i. subst (λ z. is_among (z ∷ others those xs) k ≡ true) e (first_among k (others those xs))
    ] refl)
    (λ later. elim (is_among those x) as (λ b. is_among (if not b then x ∷ others those xs else others those xs) k
    ≡ true) [
      | true ↦ kept_among those xs k later off
      | false ↦ later_among x (others those xs) k (kept_among those xs k later off)
    ])

flat_among : (g : ℕ → List ℕ) (ks : List ℕ) (j x : ℕ) → is_among ks j ≡ true → is_among (g j) x ≡ true
    → is_among (flat_map g ks) x ≡ true
flat_among g ks j x h i = part_among (part_at g ks j h) x i

-- ---- a function and all below it

reached_has : (n : ℕ) (env : Environment) (found level : List ℕ) (k : ℕ) → is_among found k ≡ true
    → is_among (reached_from n env found level) k ≡ true
unfolding reached_from
reached_has zero env found level k h = h
reached_has (suc n) env found level k h =
    reached_has n env (found ++ fresh found level) (next_level env (fresh found level)) k
    (among_front found (fresh found level) k h)

one_level : (n : ℕ) (env : Environment) (k : ℕ) → 0 < n → is_among (reached_from n env [] (k ∷ [])) k ≡ true
unfolding reached_from
one_level zero env k h = absurd (omega arith)
one_level (suc n) env k h = reached_has n env (k ∷ []) (next_level env (k ∷ [])) k (first_among k [])

pub family_itself : (env : Environment) (k : ℕ) → k < length env.functions → is_among (family env k) k ≡ true
family_itself env k h = one_level (length env.functions) env k (omega arith)

-- ---- a unit

not_two : (k : ℕ) (o : Option ℕ) → in_two k o ≡ Ok tt → o ≡ None
not_two k None h = refl
not_two k (Some x) h = cc

module _ (u : HirUnit) (rules : rules_hold u ≡ Ok tt) where
  -- what is inside and outside of a nested function is in its context
  in_context : (k x : ℕ) → k < length u.env.functions → x < length u.env.identifiers → is_among (inside u.env k) x
      ≡ true → is_among (outside u.env u.function (nested_in u) k) x ≡ true → is_among (context_at u.env k) x ≡ true
  in_context k x there below ins outs =
      let apart : nested_is_apart u.env u.function (nested_in u) k ≡ Ok tt =
      each_number (nested_is_apart u.env u.function (nested_in u)) (length u.env.functions) k
      (parts_of_rules u rules).apart there in
      let none : first_in_two u.env u.function (nested_in u) k ≡ None =
      not_two k (first_in_two u.env u.function (nested_in u) k) apart in
      let test : ℕ → Bool = is_shared (inside u.env k) (outside u.env u.function (nested_in u) k)
      (context_at u.env k) in
      let fails : test x ≡ false = find_fails test (range_with_len 0 (length u.env.identifiers)) x none
      (range_among 0 (length u.env.identifiers) x (omega arith) (omega arith)) in
      elim (is_among (context_at u.env k) x) as (λ b. is_among (context_at u.env k) x ≡ b → b ≡ true) [
        | true ↦ λ e. refl
        | false ↦ λ e.
            let both : (is_among (inside u.env k) x && is_among (outside u.env u.function (nested_in u) k) x) ≡ true =
            together (is_among (inside u.env k) x) (is_among (outside u.env u.function (nested_in u) k) x) ins
            outs in
            let all : test x ≡ true = together (is_among (inside u.env k) x
            && is_among (outside u.env u.function (nested_in u) k) x) (not (is_among (context_at u.env k) x)) both
            (ap not e) in
            absurd (not_both (test x) all fails)
      ] refl

  own_inside : (k x : ℕ) → k < length u.env.functions → is_among (identifiers_at u.env k) x ≡ true
      → is_among (inside u.env k) x ≡ true
  own_inside k x there h = flat_among (identifiers_at u.env) (family u.env k) k x (family_itself u.env k there) h

  -- what stands in the root and in a nested function is in the context of that
  pub apart_root : (k x : ℕ) → k < length u.env.functions → x < length u.env.identifiers
      → is_among (identifiers_in u.env u.function) x ≡ true → is_among (identifiers_at u.env k) x ≡ true
      → is_among (context_at u.env k) x ≡ true
  apart_root k x there below root own =
      in_context k x there below (own_inside k x there own)
      (among_front (identifiers_in u.env u.function)
      (flat_map (identifiers_at u.env) (others (family u.env k) (nested_in u))) x root)

  -- and so is what stands in it and in one that is not below it
  nested_apart : (k j x : ℕ) → k < length u.env.functions → j < length u.env.functions → x < length u.env.identifiers
      → is_among (family u.env k) j ≡ false → is_among (identifiers_at u.env k) x ≡ true
      → is_among (identifiers_at u.env j) x ≡ true
      → is_among (context_at u.env k) x ≡ true
  nested_apart k j x there also below off own other =
      let nested : is_among (nested_in u) j ≡ true =
      range_among 0 (length u.env.functions) j (omega arith) (omega arith) in
      in_context k x there below (own_inside k x there own)
      (among_rest (identifiers_in u.env u.function)
      (flat_map (identifiers_at u.env) (others (family u.env k) (nested_in u))) x
      (flat_among (identifiers_at u.env) (others (family u.env k) (nested_in u)) j x
      (kept_among (family u.env k) (nested_in u) j nested off) other))

  module _ (xs ys : List ℕ) (k : ℕ) (order : numbers (nested_innermost_first u) ≡ xs ++ k ∷ ys) where
    -- what is created by what stands before a number does so too
    closed : (j : ℕ) → is_among (xs ++ k ∷ []) j ≡ true → Among (xs ++ k ∷ []) (created_at u.env j)
    closed j h i c =
        append_cases xs (k ∷ []) j (is_among (xs ++ k ∷ []) i ≡ true) h
        (λ before.
        let s = split_at xs j before in
        let whole : numbers (nested_innermost_first u) ≡ s.0 ++ j ∷ (s.1 ++ k ∷ ys) = order
        ∙ ap (λ zs. zs ++ k ∷ ys) s.2 ∙ append_assoc s.0 (j ∷ s.1) (k ∷ ys) in
        let first : is_among s.0 i ≡ true = order_innermost u rules s.0 (s.1 ++ k ∷ ys) j i whole c in
        among_front xs (k ∷ []) i (subst (λ zs. is_among zs i ≡ true) (sym s.2) (among_front s.0 (j ∷ s.1) i first)))
        (λ own. among_cases k [] j (is_among (xs ++ k ∷ []) i ≡ true) own
        (λ e. among_front xs (k ∷ []) i (order_innermost u rules xs ys k i order
        (subst (λ z. is_among (created_at u.env z) i ≡ true) e c)))
        (λ no. cc))
      where
        split_at : (zs : List ℕ) (m : ℕ) → is_among zs m ≡ true → (before : List ℕ) × (after : List ℕ)
            × (zs ≡ before ++ m ∷ after)
        split_at [] m e = cc
        split_at (z ∷ zs) m e =
            among_cases z zs m ((before : List ℕ) × (after : List ℕ) × (z ∷ zs ≡ before ++ m ∷ after)) e
            (λ same. ([], zs, ap (λ w. w ∷ zs) (sym same)))
            (λ later. let r = split_at zs m later in (z ∷ r.0, r.1, ap (λ ws. z ∷ ws) r.2))

    -- all below a function stand before it
    family_before : Among (xs ++ k ∷ []) (family u.env k)
    family_before =
        reached_among (length u.env.functions) u.env [] (k ∷ []) (xs ++ k ∷ []) (λ j h. cc)
        (λ j h. among_rest xs (k ∷ []) j h) closed

    once : (j : ℕ) → j < length u.env.functions → times (xs ++ k ∷ ys) j ≡ 1
    once j there = ap (λ zs. times zs j) (sym order) ∙ order_once u rules j there

    -- what stands in it stands in none behind it, but for its context
    pub apart_behind : (j x : ℕ) → k < length u.env.functions → j < length u.env.functions → x
        < length u.env.identifiers → is_among ys j ≡ true → is_among (identifiers_at u.env k) x ≡ true
        → is_among (context_at u.env k) x ≡ false → is_among (identifiers_at u.env j) x ≡ true → ⊥
    apart_behind j x there also below behind own free other =
        let off : is_among (family u.env k) j ≡ false = absent (is_among (family u.env k) j) (λ i.
        let before : is_among (xs ++ k ∷ []) j ≡ true = family_before j i in
        let a : 1 ≤ times (xs ++ k ∷ []) j = counted (xs ++ k ∷ []) j before in
        let b : 1 ≤ times ys j = counted ys j behind in
        let c : times (xs ++ k ∷ ys) j ≡ 1 = once j also in
        let d : times ((xs ++ k ∷ []) ++ ys) j ≡ times (xs ++ k ∷ []) j + times ys j = times_both (xs ++ k ∷ []) ys j in
        let e : times ((xs ++ k ∷ []) ++ ys) j ≡ times (xs ++ k ∷ ys) j =
        ap (λ zs. times zs j) (append_assoc xs (k ∷ []) ys) in
        absurd (omega arith)) in
        not_both (is_among (context_at u.env k) x) (nested_apart k j x there also below off own other) free

    -- what stands in one behind it and in it is in its context
    pub apart_before : (j x : ℕ) → k < length u.env.functions → j < length u.env.functions → x
        < length u.env.identifiers → is_among ys j ≡ true → is_among (identifiers_at u.env j) x ≡ true
        → is_among (identifiers_at u.env k) x ≡ true → is_among (context_at u.env k) x ≡ true
    apart_before j x there also below behind other own =
        elim (is_among (context_at u.env k) x) as (λ b. is_among (context_at u.env k) x ≡ b → b ≡ true) [
          | true ↦ λ e. refl
          | false ↦ λ e. absurd (apart_behind j x there also below behind own e other)
        ] refl
