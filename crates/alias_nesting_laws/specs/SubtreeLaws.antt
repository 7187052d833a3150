-- The functions below one that another function creates: they are a tree too, a part of those below the other one.
use Rattle.std.specs.Prelude.{◌≡◌, ℕ, Bool, true, false, ◌==◌, List, [], ◌∷◌, ◌++◌, length, slice_get, Option, Some}
use Rattle.std.specs.Prelude.{None, is_none, refl, if◌then◌else◌}
use Rattle.std.proofs.Common.{zero, suc, ap, sym, ◌∙◌, subst, arith}
use Rattle.std.proofs.lemmas.Bool.{eqb-true}
use Rattle.std.proofs.lemmas.List.{append-nil}
use Rattle.alias_base.specs.declared.ids.FunctionId.{FunctionId}
use Rattle.alias_hir.specs.declared.env.Environment.{Environment}
use Rattle.alias_hir.specs.declared.hir.HirFunction.{HirFunction}
use Rattle.alias_rules.specs.function_rules.Rules.{is_among, first_again}
use Rattle.alias_rules.specs.Nesting.{created_in, created_of, created_at, next_level, ended, tree_from, tree_below}
use Rattle.alias_nesting_laws.specs.ClosureLaws.{Among, among_front, among_neither, tree_closed}
use Rattle.alias_nesting_laws.specs.FittingLaws.{first_among, later_among}
use Rattle.alias_nesting_laws.specs.PartLaws.{Part, part_nothing, part_both, part_of_nothing, part_each, part_among}
use Rattle.alias_nesting_laws.specs.PartLaws.{part_at, absent, not_both, part_distinct, front_apart}
use Rattle.alias_nesting_laws.specs.StandInLaws.{standing, creates_same}
use Rattle.alias_rules.specs.TreeLaws.{tree_step}

-- ---- the steps of a tree

-- nothing is twice, and the rest goes on
pub taken_both : (o : Option ℕ) (r : Option (List ℕ)) (ks : List ℕ) → (if is_none o then r else None) ≡ Some ks
    → (o ≡ None) × (r ≡ Some ks)
taken_both None r ks h = (refl, h)
taken_both (Some x) r ks h = cc

pub tree_parts : (n : ℕ) (env : Environment) (found level ks : List ℕ) → tree_from (suc n) env found level ≡ Some ks
    → (first_again [] (found ++ level) ≡ None) × (tree_from n env (found ++ level) (next_level env level) ≡ Some ks)
unfolding tree_from
tree_parts n env found level ks h = taken_both (first_again [] (found ++ level))
    (tree_from n env (found ++ level) (next_level env level)) ks h

pub tree_end : (env : Environment) (found level : List ℕ) → tree_from zero env found level ≡ ended found level
unfolding tree_from
tree_end env found level = refl

pub ended_parts : (found level ks : List ℕ) → ended found level ≡ Some ks → (level ≡ []) × (found ≡ ks)
ended_parts found [] ks h = let same : found ≡ ks = cc in (refl, same)
ended_parts found (x ∷ xs) ks h = none_left (length (x ∷ xs) == 0) refl h
  where
    none_left : (b : Bool) → (length (x ∷ xs) == 0) ≡ b
        → ◌≡◌ {A = Option (List ℕ)} (if b then Some found else None) (Some ks) → ((x ∷ xs) ≡ []) × (found ≡ ks)
    none_left true e g = let z : length (x ∷ xs) ≡ 0 = eqb-true (length (x ∷ xs)) 0 e in absurd (omega arith)
    none_left false e g = cc

-- with a further level, where none is below
pub one_more : (n : ℕ) (env : Environment) (found level ks : List ℕ) → first_again [] found ≡ None
    → tree_from n env found level ≡ Some ks → tree_from (suc n) env found level ≡ Some ks
one_more zero env found level ks distinct h =
    let p = ended_parts found level ks (sym (tree_end env found level) ∙ h) in
    ap (tree_from 1 env found) p.0 ∙ tree_step 0 env found [] (ap (first_again []) (append-nil found) ∙ distinct)
    ∙ tree_end env (found ++ []) [] ∙ ap (λ zs. Some zs) (append-nil found ∙ p.1)
one_more (suc n) env found level ks distinct h =
    let p = tree_parts n env found level ks h in
    tree_step (suc n) env found level p.0 ∙ one_more n env (found ++ level) (next_level env level) ks p.0 p.1

-- ---- a part of a tree

-- the functions are a part of others, and one is not among them
pub record Subtree (n : ℕ) (env : Environment) (found level ks : List ℕ) (without : ℕ) : Type 0 where
  pub below : List ℕ
  pub tree : tree_from n env found level ≡ Some below
  pub part : Part below ks
  pub left_out : is_among below without ≡ false

-- one number is another where both are among some, and only one of them is
pub apart_from : (ks : List ℕ) (k j : ℕ) → is_among ks k ≡ true → is_among ks j ≡ false → k ≡ j → ⊥
apart_from ks k j h g e = not_both (is_among ks j) (subst (λ z. is_among ks z ≡ true) e h) g

module _ (env : Environment) (id : FunctionId) (stand_in : HirFunction) where
  -- the level below one without the function
  next_same : (level : List ℕ) → is_among level id.0 ≡ false → next_level (standing env id stand_in) level
      ≡ next_level env level
  next_same [] h = refl
  next_same (x ∷ xs) h =
      let other : x ≡ id.0 → ⊥ = apart_from (x ∷ xs) x id.0 (first_among x xs) h in
      let rest : is_among xs id.0 ≡ false = absent (is_among xs id.0)
      (λ i. not_both (is_among (x ∷ xs) id.0) (later_among x xs id.0 i) h) in
      ap (λ zs. zs ++ next_level (standing env id stand_in) xs) (creates_same env id stand_in x other)
      ∙ ap (λ zs. created_at env x ++ zs) (next_same xs rest)

  -- a part of a level below the function, where it is found
  subtree_from : (n : ℕ) (found level ks found2 level2 : List ℕ) → tree_from n env found level ≡ Some ks
      → Part found2 found → Part level2 level → is_among found id.0 ≡ true → is_among found2 id.0 ≡ false
      → Subtree n (standing env id stand_in) found2 level2 ks id.0
  subtree_from zero found level ks found2 level2 h p q there out =
      let e = ended_parts found level ks (sym (tree_end env found level) ∙ h) in
      let nothing2 : level2 ≡ [] = part_of_nothing (subst (λ zs. Part level2 zs) e.0 q) in
      record {
        below = found2;
        tree = tree_end (standing env id stand_in) found2 level2 ∙ ap (ended found2) nothing2;
        part = subst (λ zs. Part found2 zs) e.1 p;
        left_out = out;
      }
  subtree_from (suc n) found level ks found2 level2 h p q there out =
      let e = tree_parts n env found level ks h in
      let other : is_among level id.0 ≡ false = front_apart [] found level id.0 e.0 there in
      let other2 : is_among level2 id.0 ≡ false =
      absent (is_among level2 id.0) (λ i. not_both (is_among level id.0) (part_among q id.0 i) other) in
      let distinct : first_again [] (found2 ++ level2) ≡ None = part_distinct [] [] (part_both p q) (λ k i. i) e.0 in
      let same : next_level (standing env id stand_in) level2 ≡ next_level env level2 = next_same level2 other2 in
      let next : Part (next_level (standing env id stand_in) level2) (next_level env level) =
      subst (λ zs. Part zs (next_level env level)) (sym same) (part_each (created_at env) q) in
      let s : Subtree n (standing env id stand_in) (found2 ++ level2) (next_level (standing env id stand_in) level2) ks
      id.0 =
      subtree_from n (found ++ level) (next_level env level) ks (found2 ++ level2)
      (next_level (standing env id stand_in) level2) e.1 (part_both p q) next (among_front found level id.0 there)
      (among_neither found2 level2 id.0 out other2) in
      record {
        below = s.below;
        tree = tree_step n (standing env id stand_in) found2 level2 distinct ∙ s.tree;
        part = s.part;
        left_out = s.left_out;
      }

  -- the functions below one that the holder creates, once it is out of its slot
  pub subtree : (holder f : HirFunction) (ks : List ℕ) → tree_below env holder ≡ Some ks
      → is_among (created_in holder) id.0 ≡ true → slice_get env.functions id.0 ≡ Some f
      → Subtree 63 (standing env id stand_in) [] (created_in f) ks id.0
  subtree holder f ks h i there =
      let e = tree_parts 62 env [] (created_in holder) ks h in
      let level : Part (created_in f) (next_level env (created_in holder)) =
      subst (λ o. Part (created_of o) (next_level env (created_in holder))) there
      (part_at (created_at env) (created_in holder) id.0 i) in
      let s : Subtree 62 (standing env id stand_in) [] (created_in f) ks id.0 =
      subtree_from 62 (created_in holder) (next_level env (created_in holder)) ks [] (created_in f) e.1
      (part_nothing (created_in holder)) level i refl in
      record {
        below = s.below;
        tree = one_more 62 (standing env id stand_in) [] (created_in f) s.below refl s.tree;
        part = s.part;
        left_out = s.left_out;
      }

-- a function that another one creates is among those below that
pub created_among : (env : Environment) (holder : HirFunction) (ks : List ℕ) → tree_below env holder ≡ Some ks
    → Among ks (created_in holder)
created_among env holder ks h = (tree_closed env 63 [] (created_in holder) ks h).has_level
