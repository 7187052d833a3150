-- In the order each function comes after those that it creates.
use Rattle.std.specs.Prelude.{◌≡◌, ℕ, true, List, [], ◌∷◌, ◌++◌, Some, Ok}
use Rattle.std.specs.List.{flat_map}
use Rattle.std.proofs.Common.{zero, suc, refl, ap, sym, ◌∙◌, subst, arith, ◌+◌, ◌≤◌, ◌⊎◌, inl, inr, ⊎_elim}
use Rattle.std.proofs.lemmas.Grind.{flat_map-append}
use Rattle.alias_hir.specs.declared.env.Environment.{Environment}
use Rattle.alias_hir.specs.declared.env.Unit.{Unit as HirUnit}
use Rattle.alias_rules.specs.function_rules.Rules.{is_among}
use Rattle.alias_rules.specs.Functions.{rules_hold}
use Rattle.alias_rules.specs.Nesting.{times, created_in, created_at, next_level, tree_from}
use Rattle.alias_rules.specs.TreeLaws.{times_both, counted}
use Rattle.alias_nesting_laws.specs.SubtreeLaws.{tree_parts, tree_end, ended_parts}
use Rattle.alias_nested.specs.Created.{created_functions}
use Rattle.alias_nested.specs.Order.{numbers}
use Rattle.alias_nested.proofs.Counting.{flat_times, total_same, same_total, there_among, numbers_innermost_first}
use Rattle.alias_nested.proofs.Counting.{listed_level}
use Rattle.alias_nested.proofs.InOrder.{created_numbers, order_numbers}
use Rattle.alias_answer_laws.specs.order.Order.{nested_innermost_first}
use Rattle.alias_answer_laws.proofs.order.Unit.{unit_below, unit_tree, slots_as_often, root_as_often}

-- ---- lists

-- the place of k in two lists is in the first, or in the second
record First (ps xs : List ℕ) (k : ℕ) : Type 0 where
  rest : List ℕ
  here : ps ≡ xs ++ k ∷ rest

record Second (ps qs xs : List ℕ) (k : ℕ) (ys : List ℕ) : Type 0 where
  before : List ℕ
  all : xs ≡ ps ++ before
  here : qs ≡ before ++ k ∷ ys

place_in : (ps qs xs ys : List ℕ) (k : ℕ) → ps ++ qs ≡ xs ++ k ∷ ys → First ps xs k ⊎ Second ps qs xs k ys
place_in [] qs xs ys k h = inr (record { before = xs; all = refl; here = h })
place_in (a ∷ ps) qs [] ys k h = let same : a ≡ k = cc in inl (record { rest = ps; here = ap (λ z. z ∷ ps) same })
place_in (a ∷ ps) qs (x ∷ xs) ys k h =
    let same : a ≡ x = cc in
    let rest : ps ++ qs ≡ xs ++ k ∷ ys = cc in
    ⊎_elim
    (λ (f : First ps xs k). inl (record { rest = f.rest; here = ap (λ z. z ∷ ps) same ∙ ap (λ zs. x ∷ zs) f.here }))
    (λ (s : Second ps qs xs k ys). inr (record
    { before = s.before; all = ap (λ z. z ∷ xs) (sym same) ∙ ap (λ zs. a ∷ zs) s.all; here = s.here }))
    (place_in ps qs xs ys k rest)

-- ---- levels that end

-- nothing is n levels down
unfoldable pub Ends : ℕ → (ℕ → List ℕ) → List ℕ → Type 0
Ends zero c level = (j : ℕ) → times level j ≡ 0
Ends (suc n) c level = Ends n c (flat_map c level)

ends_same : (n : ℕ) (c d : ℕ → List ℕ) → ((k j : ℕ) → times (c k) j ≡ times (d k) j) → (xs ys : List ℕ)
    → ((j : ℕ) → times xs j ≡ times ys j) → Ends n d ys → Ends n c xs
unfolding Ends
ends_same zero c d h xs ys e ends = λ j. e j ∙ ends j
ends_same (suc n) c d h xs ys e ends =
    ends_same n c d h (flat_map c xs) (flat_map d ys)
    (λ k. flat_times c xs k ∙ total_same (λ x. times (c x) k) (λ x. times (d x) k) (λ x. h x k) xs
    ∙ same_total (λ x. times (d x) k) xs ys e ∙ sym (flat_times d ys k)) ends

flat_two : (c : ℕ → List ℕ) (xs ys : List ℕ) (j : ℕ) → times (flat_map c (xs ++ ys)) j ≡ times (flat_map c xs) j
    + times (flat_map c ys) j
flat_two c xs ys j = ap (λ zs. times zs j) (flat_map-append c xs ys) ∙ times_both (flat_map c xs) (flat_map c ys) j

-- so it is of each part
ends_first : (n : ℕ) (c : ℕ → List ℕ) (xs ys zs : List ℕ) → ((j : ℕ) → times zs j ≡ times xs j + times ys j)
    → Ends n c zs → Ends n c xs
unfolding Ends
ends_first zero c xs ys zs t ends = λ j. let a = ends j in let b = t j in omega arith
ends_first (suc n) c xs ys zs t ends =
    ends_first n c (flat_map c xs) (flat_map c ys) (flat_map c zs)
    (λ j.
    let both : times (flat_map c (xs ++ ys)) j ≡ times (flat_map c xs) j + times (flat_map c ys) j =
    flat_two c xs ys j in
    let all : times (flat_map c zs) j ≡ times (flat_map c (xs ++ ys)) j = flat_times c zs j
    ∙ same_total (λ x. times (c x) j) zs (xs ++ ys) (λ k. t k ∙ sym (times_both xs ys k))
    ∙ sym (flat_times c (xs ++ ys) j) in
    all ∙ both) ends

-- a level is in the order, where it ends
level_there : (n : ℕ) (c : ℕ → List ℕ) (level : List ℕ) (j : ℕ) → Ends n c level → 1 ≤ times level j → 1
    ≤ times (numbers_innermost_first n c level) j
unfolding Ends
level_there zero c level j ends h = let none = ends j in absurd (omega arith)
level_there (suc n) c level j ends h = let a : times (numbers_innermost_first (suc n) c level) j ≡ times level j
    + times (numbers_innermost_first n c (flat_map c level)) j = listed_level n c level j in omega arith

front : (xs ys zs : List ℕ) (j : ℕ) → zs ≡ xs ++ ys → 1 ≤ times xs j → 1 ≤ times zs j
front xs ys zs j e h = let a : times zs j ≡ times (xs ++ ys) j = ap (λ ws. times ws j) e in let b : times (xs ++ ys) j
    ≡ times xs j + times ys j = times_both xs ys j in omega arith

behind : (xs ys zs : List ℕ) (j : ℕ) → zs ≡ xs ++ ys → 1 ≤ times ys j → 1 ≤ times zs j
behind xs ys zs j e h = let a : times zs j ≡ times (xs ++ ys) j = ap (λ ws. times ws j) e in let b : times (xs ++ ys) j
    ≡ times xs j + times ys j = times_both xs ys j in omega arith

-- where levels end, what a number creates stands before it
abbrev Before : (ℕ → List ℕ) → List ℕ → Type 0
Before c zs = (xs ys : List ℕ) (k j : ℕ) → zs ≡ xs ++ k ∷ ys → 1 ≤ times (c k) j → 1 ≤ times xs j

before_both : (c : ℕ → List ℕ) (ps qs : List ℕ) → Before c ps → Before c qs → Before c (ps ++ qs)
before_both c ps qs p q xs ys k j e h =
    ⊎_elim
    (λ (f : First ps xs k). p xs f.rest k j f.here h)
    (λ (s : Second ps qs xs k ys). behind ps s.before xs j s.all (q s.before ys k j s.here h))
    (place_in ps qs xs ys k e)

only_there : (x k : ℕ) (xs ys : List ℕ) → x ∷ [] ≡ xs ++ k ∷ ys → k ≡ x
only_there x k [] ys e = cc
only_there x k (y ∷ []) ys e = cc
only_there x k (y ∷ z ∷ zs) ys e = cc

-- one function after those below it
before_one : (c : ℕ → List ℕ) (x : ℕ) (ps : List ℕ) → Before c ps → ((j : ℕ) → 1 ≤ times (c x) j → 1 ≤ times ps j)
    → Before c (ps ++ x ∷ [])
before_one c x ps p creates xs ys k j e h =
    ⊎_elim
    (λ (f : First ps xs k). p xs f.rest k j f.here h)
    (λ (s : Second ps (x ∷ []) xs k ys). front ps s.before xs j s.all
    (creates j (subst (λ z. 1 ≤ times (c z) j) (only_there x k s.before ys s.here) h)))
    (place_in ps (x ∷ []) xs ys k e)

before_nothing : (c : ℕ → List ℕ) → Before c []
before_nothing c [] ys k j e h = cc
before_nothing c (x ∷ xs) ys k j e h = cc

before_each : (n : ℕ) (c : ℕ → List ℕ) → ((level : List ℕ) → Ends n c level
    → Before c (numbers_innermost_first n c level)) → (level : List ℕ) → Ends n c (flat_map c level)
    → Before c (flat_map (λ (k : ℕ). numbers_innermost_first n c (c k) ++ k ∷ []) level)
before_each n c below [] ends = before_nothing c
before_each n c below (x ∷ xs) ends =
    let own : Ends n c (c x) = ends_first n c (c x) (flat_map c xs) (c x ++ flat_map c xs)
    (times_both (c x) (flat_map c xs)) ends in
    let rest : Ends n c (flat_map c xs)
    = ends_first n c (flat_map c xs) (c x) (c x ++ flat_map c xs)
    (λ j. let b : times (c x ++ flat_map c xs) j ≡ times (c x) j + times (flat_map c xs) j =
    times_both (c x) (flat_map c xs) j in omega arith) ends in
    before_both c (numbers_innermost_first n c (c x) ++ x ∷ [])
    (flat_map (λ (k : ℕ). numbers_innermost_first n c (c k) ++ k ∷ []) xs)
    (before_one c x (numbers_innermost_first n c (c x)) (below (c x) own) (λ j h. level_there n c (c x) j own h))
    (before_each n c below xs rest)

pub listed_before : (n : ℕ) (c : ℕ → List ℕ) (level : List ℕ) → Ends n c level
    → Before c (numbers_innermost_first n c level)
unfolding numbers_innermost_first Ends
listed_before zero c level ends = before_nothing c
listed_before (suc n) c level ends = before_each n c (listed_before n c) level ends

-- ---- the unit

-- the levels of a tree end
tree_ends : (n : ℕ) (env : Environment) (found level ks : List ℕ) → tree_from n env found level ≡ Some ks
    → Ends n (created_at env) level
unfolding Ends
tree_ends zero env found level ks e = let p = ended_parts found level ks (sym (tree_end env found level) ∙ e) in
    λ j. ap (λ zs. times zs j) p.0
tree_ends (suc n) env found level ks e = let p = tree_parts n env found level ks e in
    tree_ends n env (found ++ level) (next_level env level) ks p.1

-- in the order of a unit that is well formed a function comes after those that it creates
pub order_innermost : (u : HirUnit) → rules_hold u ≡ Ok tt → (xs ys : List ℕ) (k j : ℕ)
    → numbers (nested_innermost_first u) ≡ xs ++ k ∷ ys → is_among (created_at u.env k) j ≡ true → is_among xs j ≡ true
order_innermost u rules xs ys k j e h =
    let c = created_numbers u.env.functions in
    let tree : Ends 63 (created_at u.env) (created_in u.function) =
    tree_ends 63 u.env [] (created_in u.function) (unit_below u rules) (unit_tree u rules) in
    let ends : Ends 63 c (numbers (created_functions u.function))
    = ends_same 63 c (created_at u.env) (slots_as_often u rules) (numbers (created_functions u.function))
    (created_in u.function) (root_as_often u rules) tree in
    let creates : 1 ≤ times (c k) j = (let a : times (c k) j ≡ times (created_at u.env k) j =
    slots_as_often u rules k j in let b : 1 ≤ times (created_at u.env k) j = counted (created_at u.env k) j h in
    omega arith) in
    there_among xs j (listed_before 63 c (numbers (created_functions u.function)) ends xs ys k j
    (sym (order_numbers 63 u.env.functions (created_functions u.function)) ∙ e) creates)
