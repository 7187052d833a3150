-- The functions below a function, where some of them create fewer: they are some of those that were below it, and each
-- is created by the one that created it.
use Rattle.std.specs.Prelude.{◌≡◌, ℕ, true, List, [], ◌∷◌, ◌++◌, Some, None, refl}
use Rattle.std.specs.List.{flat_map}
use Rattle.std.proofs.Common.{zero, suc, ap, sym, ◌∙◌, subst}
use Rattle.std.proofs.lemmas.Grind.{flat_map-append}
use Rattle.std.proofs.lemmas.List.{append-nil, append_assoc}
use Rattle.alias_hir.specs.declared.env.Environment.{Environment}
use Rattle.alias_hir.specs.declared.hir.HirFunction.{HirFunction}
use Rattle.alias_rules.specs.function_rules.Rules.{is_among, first_again}
use Rattle.alias_rules.specs.Nesting.{created_in, created_at, next_level, ended, tree_from, tree_below}
use Rattle.alias_nesting_laws.specs.FittingLaws.{first_among}
use Rattle.alias_nesting_laws.specs.PartLaws.{Part, nothing, left_out, kept, part_nothing, part_all, part_rest}
use Rattle.alias_nesting_laws.specs.PartLaws.{part_both, part_of_nothing, part_at, part_among, among_cases}
use Rattle.alias_nesting_laws.specs.PartLaws.{append_cases, not_both, part_distinct, front_apart}
use Rattle.alias_nesting_laws.specs.SubtreeLaws.{ended_parts, tree_parts}
use Rattle.alias_rules.specs.TreeLaws.{tree_step}

-- ---- lists of what is taken of numbers

-- what is taken of one of the numbers is taken of all
pub among_flat : (g : ℕ → List ℕ) (ks : List ℕ) (k x : ℕ) → is_among ks k ≡ true → is_among (g k) x ≡ true
    → is_among (flat_map g ks) x ≡ true
among_flat g ks k x h i = part_among (part_at g ks k h) x i

-- one of the numbers, of which it is taken
pub record Source (g : ℕ → List ℕ) (ks : List ℕ) (x : ℕ) : Type 0 where
  pub number : ℕ
  pub among : is_among ks number ≡ true
  pub taken : is_among (g number) x ≡ true

-- what is taken of all is taken of one of the numbers
pub source_of : (g : ℕ → List ℕ) (ks : List ℕ) (x : ℕ) → is_among (flat_map g ks) x ≡ true → Source g ks x
source_of g [] x h = cc
source_of g (k ∷ ks) x h =
    append_cases (g k) (flat_map g ks) x (Source g (k ∷ ks) x) h
    (λ i. record { number = k; among = part_among (part_front_one k ks) k (here k); taken = i })
    (λ i. let s : Source g ks x = source_of g ks x i in
    record { number = s.number; among = part_among (part_rest (k ∷ []) ks) s.number s.among; taken = s.taken })
  where
    part_front_one : (k : ℕ) (ks : List ℕ) → Part (k ∷ []) (k ∷ ks)
    part_front_one k ks = kept (part_nothing ks)

    here : (k : ℕ) → is_among (k ∷ []) k ≡ true
    here k = first_among k []

-- where nothing is there twice, it is taken of one number alone
pub one_source : (g : ℕ → List ℕ) (ks : List ℕ) (x a b : ℕ) → first_again [] (flat_map g ks) ≡ None → is_among ks a
    ≡ true → is_among (g a) x ≡ true → is_among ks b ≡ true → is_among (g b) x ≡ true → a ≡ b
one_source g [] x a b d ha ta hb tb = cc
one_source g (k ∷ ks) x a b d ha ta hb tb =
    let none_later : is_among (g k) x ≡ true → (c : ℕ) → is_among ks c ≡ true → is_among (g c) x ≡ true → ⊥ =
    λ t c hc tc. not_both (is_among (flat_map g ks) x) (among_flat g ks c x hc tc)
    (front_apart [] (g k) (flat_map g ks) x d t) in
    among_cases k ks a (a ≡ b) ha
    (λ ea. among_cases k ks b (a ≡ b) hb (λ eb. ea ∙ sym eb)
    (λ lb. absurd (none_later (subst (λ z. is_among (g z) x ≡ true) ea ta) b lb tb)))
    (λ la. among_cases k ks b (a ≡ b) hb (λ eb.
    absurd (none_later (subst (λ z. is_among (g z) x ≡ true) eb tb) a la ta))
    (λ lb. one_source g ks x a b (part_distinct [] [] (part_rest (g k) (flat_map g ks)) (λ j i. i) d) la ta lb tb))

-- ---- the steps of a tree

tree_end : (env : Environment) (found level : List ℕ) → tree_from zero env found level ≡ ended found level
unfolding tree_from
tree_end env found level = refl

-- ---- those below are the ones that a level creates, and those that they create

-- what is behind those that were found
record Behind (env : Environment) (found level ks : List ℕ) : Type 0 where
  rest : List ℕ
  all : ks ≡ found ++ rest
  levels : rest ≡ level ++ flat_map (created_at env) rest

behind : (n : ℕ) (env : Environment) (found level ks : List ℕ) → tree_from n env found level ≡ Some ks
    → Behind env found level ks
behind zero env found level ks h =
    let p = ended_parts found level ks (sym (tree_end env found level) ∙ h) in
    record { rest = []; all = sym p.1 ∙ sym (append-nil found); levels = sym (append-nil level ∙ p.0) }
behind (suc n) env found level ks h =
    let p = tree_parts n env found level ks h in
    let b : Behind env (found ++ level) (next_level env level) ks =
    behind n env (found ++ level) (next_level env level) ks p.1 in
    record {
      rest = level ++ b.rest;
      all = b.all ∙ append_assoc found level b.rest;
      levels = ap (λ zs. level ++ zs) (b.levels ∙ sym (flat_map-append (created_at env) level b.rest));
    }

distinct_from : (n : ℕ) (env : Environment) (found level ks : List ℕ) → first_again [] found ≡ None
    → tree_from n env found level ≡ Some ks → first_again [] ks ≡ None
distinct_from zero env found level ks d h = let p = ended_parts found level ks (sym (tree_end env found level) ∙ h) in
    subst (λ zs. first_again [] zs ≡ None) p.1 d
distinct_from (suc n) env found level ks d h = let p = tree_parts n env found level ks h in
    distinct_from n env (found ++ level) (next_level env level) ks p.0 p.1

-- the functions below one are those that it creates and those that they create
pub below_are : (env : Environment) (g : HirFunction) (ks : List ℕ) → tree_below env g ≡ Some ks → ks ≡ created_in g
    ++ flat_map (created_at env) ks
below_are env g ks h =
    let b : Behind env [] (created_in g) ks = behind 63 env [] (created_in g) ks h in
    b.all ∙ b.levels ∙ ap (λ zs. created_in g ++ flat_map (created_at env) zs) (sym b.all)

-- none is there twice
pub below_distinct : (env : Environment) (g : HirFunction) (ks : List ℕ) → tree_below env g ≡ Some ks
    → first_again [] ks ≡ None
below_distinct env g ks h = distinct_from 63 env [] (created_in g) ks refl h

-- what one of them creates is not created by the function itself
pub created_once : (env : Environment) (g : HirFunction) (ks : List ℕ) (k j : ℕ) → tree_below env g ≡ Some ks
    → is_among ks k ≡ true → is_among (created_at env k) j ≡ true → is_among (created_in g) j ≡ true → ⊥
created_once env g ks k j h i there own =
    let d : first_again [] (created_in g ++ flat_map (created_at env) ks) ≡ None =
    subst (λ zs. first_again [] zs ≡ None) (below_are env g ks h) (below_distinct env g ks h) in
    not_both (is_among (flat_map (created_at env) ks) j) (among_flat (created_at env) ks k j i there)
    (front_apart [] (created_in g) (flat_map (created_at env) ks) j d own)

-- ---- where functions create fewer

-- the functions that are left are some of them, and so many levels
pub record Pruned (n : ℕ) (env : Environment) (found level ks : List ℕ) : Type 0 where
  pub below : List ℕ
  pub tree : tree_from n env found level ≡ Some below
  pub part : Part below ks

module _ (env more : Environment) (fewer : (k : ℕ) → Part (created_at more k) (created_at env k)) where
  next_fewer : {xs ys : List ℕ} → Part xs ys → Part (next_level more xs) (next_level env ys)
  next_fewer nothing = nothing
  next_fewer (left_out {x} {xs} {ys} p) = part_both (part_nothing (created_at env x)) (next_fewer p)
  next_fewer (kept {x} {xs} {ys} p) = part_both (fewer x) (next_fewer p)

  pub pruned_from : (n : ℕ) (found level ks found2 level2 : List ℕ) → tree_from n env found level ≡ Some ks
      → Part found2 found → Part level2 level → Pruned n more found2 level2 ks
  pruned_from zero found level ks found2 level2 h p q =
      let e = ended_parts found level ks (sym (tree_end env found level) ∙ h) in
      let nothing2 : level2 ≡ [] = part_of_nothing (subst (λ zs. Part level2 zs) e.0 q) in
      record {
        below = found2;
        tree = tree_end more found2 level2 ∙ ap (ended found2) nothing2;
        part = subst (λ zs. Part found2 zs) e.1 p;
      }
  pruned_from (suc n) found level ks found2 level2 h p q =
      let e = tree_parts n env found level ks h in
      let distinct : first_again [] (found2 ++ level2) ≡ None = part_distinct [] [] (part_both p q) (λ k i. i) e.0 in
      let s : Pruned n more (found2 ++ level2) (next_level more level2) ks =
      pruned_from n (found ++ level) (next_level env level) ks (found2 ++ level2) (next_level more level2) e.1
      (part_both p q) (next_fewer q) in
      record { below = s.below; tree = tree_step n more found2 level2 distinct ∙ s.tree; part = s.part }

  -- the functions below a function are still a tree
  pub pruned_tree : (g : HirFunction) (ks : List ℕ) → tree_below env g ≡ Some ks → Pruned 63 more [] (created_in g) ks
  pruned_tree g ks h = pruned_from 63 [] (created_in g) ks [] (created_in g) h nothing (part_all (created_in g))

  -- one that is left is created by the one that created it
  pub creator_stays : (g : HirFunction) (ks left : List ℕ) → tree_below env g ≡ Some ks → tree_below more g ≡ Some left
      → Part left ks
      → (k j : ℕ) → is_among ks k ≡ true → is_among (created_at env k) j ≡ true → is_among left j ≡ true
      → (is_among left k ≡ true) × (is_among (created_at more k) j ≡ true)
  creator_stays g ks left t t2 part k j h there stays =
      let d : first_again [] (created_in g ++ flat_map (created_at env) ks) ≡ None =
      subst (λ zs. first_again [] zs ≡ None) (below_are env g ks t) (below_distinct env g ks t) in
      append_cases (created_in g) (flat_map (created_at more) left) j
      ((is_among left k ≡ true) × (is_among (created_at more k) j ≡ true))
      (subst (λ zs. is_among zs j ≡ true) (below_are more g left t2) stays)
      (λ own. absurd (created_once env g ks k j t h there own))
      (λ later.
      let s : Source (created_at more) left j = source_of (created_at more) left j later in
      let same : s.number ≡ k = one_source (created_at env) ks j s.number k
      (part_distinct [] [] (part_rest (created_in g) (flat_map (created_at env) ks)) (λ z i. i) d)
      (part_among part s.number s.among) (part_among (fewer s.number) j s.taken) h there in (
        subst (λ z. is_among left z ≡ true) same s.among,
        subst (λ z. is_among (created_at more z) j ≡ true) same s.taken,
      ))
