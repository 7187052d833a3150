-- How often a number is in the functions of some levels: as often as on all of the levels together.
use Rattle.std.specs.Prelude.{◌≡◌, ℕ, ◌==◌, Bool, true, false, cond, List, [], ◌∷◌, ◌++◌, ⊤, Some}
use Rattle.std.specs.List.{flat_map}
use Rattle.std.proofs.Common.{zero, suc, refl, ap, sym, subst, ◌∙◌, eq-eqb, arith, ◌+◌, ◌<◌, ◌≤◌}
use Rattle.std.proofs.lemmas.Bool.{eqb-true}
use Rattle.std.proofs.lemmas.Grind.{flat_map-append}
use Rattle.alias_rules.specs.function_rules.Rules.{is_among}
use Rattle.alias_hir.specs.declared.env.Environment.{Environment}
use Rattle.alias_rules.specs.Nesting.{times, created_at, next_level, tree_from}
use Rattle.alias_rules.specs.TreeLaws.{times_cons, times_both, counted}
use Rattle.alias_nesting_laws.specs.ClosureLaws.{Among}
use Rattle.alias_nesting_laws.specs.FittingLaws.{first_among, later_among}
use Rattle.alias_nesting_laws.specs.PartLaws.{absent}
use Rattle.alias_nesting_laws.specs.SubtreeLaws.{tree_parts, tree_end, ended_parts}
use Rattle.alias_fitting_laws.specs.pruning.BelowLaws.{Source, source_of}

-- ---- sums over numbers

abbrev pub total : (ℕ → ℕ) → List ℕ → ℕ
total h [] = 0
total h (x ∷ xs) = h x + total h xs

pub flat_times : (g : ℕ → List ℕ) (xs : List ℕ) (j : ℕ) → times (flat_map g xs) j ≡ total (λ x. times (g x) j) xs
flat_times g [] j = refl
flat_times g (x ∷ xs) j =
    let a : times (g x ++ flat_map g xs) j ≡ times (g x) j + times (flat_map g xs) j =
    times_both (g x) (flat_map g xs) j in
    let b : times (flat_map g xs) j ≡ total (λ y. times (g y) j) xs = flat_times g xs j in
    omega arith

pub total_same : (g h : ℕ → ℕ) → ((x : ℕ) → g x ≡ h x) → (xs : List ℕ) → total g xs ≡ total h xs
total_same g h e [] = refl
total_same g h e (x ∷ xs) = let a = e x in let b = total_same g h e xs in omega arith

pub zero_total : (xs : List ℕ) → total (λ x. 0) xs ≡ 0
zero_total [] = refl
zero_total (x ∷ xs) = ap (λ z. 0 + z) (zero_total xs)

-- the numbers past zero, each less one
abbrev pub lowered : List ℕ → List ℕ
lowered [] = []
lowered (zero ∷ xs) = lowered xs
lowered (suc k ∷ xs) = k ∷ lowered xs

-- n times a
abbrev pub taken_times : ℕ → ℕ → ℕ
taken_times zero a = 0
taken_times (suc n) a = a + taken_times n a

differs : (x k : ℕ) → (x ≡ k → ⊥) → (x == k) ≡ false
differs x k h = absent (x == k) (λ e. h (eqb-true x k e))

times_other : (x : ℕ) (xs : List ℕ) (k : ℕ) → (x ≡ k → ⊥) → times (x ∷ xs) k ≡ times xs k
times_other x xs k h = let a : times (x ∷ xs) k ≡ 0 + times xs k = times_cons x xs k
    ∙ ap (λ (c : Bool). cond c 1 0 + times xs k) (differs x k h) in omega arith

times_itself : (x : ℕ) (xs : List ℕ) (k : ℕ) → x ≡ k → times (x ∷ xs) k ≡ suc (times xs k)
times_itself x xs k h = let a : times (x ∷ xs) k ≡ 1 + times xs k = times_cons x xs k
    ∙ ap (λ (c : Bool). cond c 1 0 + times xs k) (eq-eqb x k h) in omega arith

zero_first : (xs : List ℕ) → times (zero ∷ xs) 0 ≡ suc (times xs 0)
zero_first xs = times_itself zero xs 0 refl

suc_first : (k : ℕ) (xs : List ℕ) → times (suc k ∷ xs) 0 ≡ times xs 0
suc_first k xs = times_other (suc k) xs 0 (λ e. omega arith)

pub total_lowered : (h : ℕ → ℕ) (xs : List ℕ) → total h xs ≡ taken_times (times xs 0) (h 0)
    + total (λ k. h (suc k)) (lowered xs)
total_lowered h [] = refl
total_lowered h (zero ∷ xs) =
    let a : total h xs ≡ taken_times (times xs 0) (h 0) + total (λ k. h (suc k)) (lowered xs) = total_lowered h xs in
    let b : taken_times (times (zero ∷ xs) 0) (h 0) ≡ h 0 + taken_times (times xs 0) (h 0) =
    ap (λ n. taken_times n (h 0)) (zero_first xs) in
    omega arith
total_lowered h (suc k ∷ xs) =
    let a : total h xs ≡ taken_times (times xs 0) (h 0) + total (λ k. h (suc k)) (lowered xs) = total_lowered h xs in
    let b : taken_times (times (suc k ∷ xs) 0) (h 0) ≡ taken_times (times xs 0) (h 0) =
    ap (λ n. taken_times n (h 0)) (suc_first k xs) in
    omega arith

pub lowered_times : (xs : List ℕ) (k : ℕ) → times (lowered xs) k ≡ times xs (suc k)
lowered_times [] k = refl
lowered_times (zero ∷ xs) k = lowered_times xs k ∙ sym (times_other zero xs (suc k) (λ e. omega arith))
lowered_times (suc j ∷ xs) k =
    let b : times (lowered xs) k ≡ times xs (suc k) = lowered_times xs k in
    elim (j == k) as (λ t. (j == k) ≡ t → times (j ∷ lowered xs) k ≡ times (suc j ∷ xs) (suc k)) [
      | true ↦ λ e. let same : j ≡ k = eqb-true j k e in times_itself j (lowered xs) k same ∙ ap suc b
          ∙ sym (times_itself (suc j) xs (suc k) (ap suc same))
      | false ↦ λ e.
          let other : j ≡ k → ⊥ = λ same. let both : true ≡ false = sym (eq-eqb j k same) ∙ e in cc in
          times_other j (lowered xs) k other ∙ b ∙ sym (times_other (suc j) xs (suc k) (λ same. other (omega arith)))
    ] refl

-- each of the numbers is below n
abbrev Under : ℕ → List ℕ → Type 0
Under n [] = ⊤
Under n (x ∷ xs) = (x < n) × Under n xs

under_more : (n m : ℕ) (xs : List ℕ) → n ≤ m → Under n xs → Under m xs
under_more n m [] h u = tt
under_more n m (x ∷ xs) h u = (let a = u.0 in omega arith, under_more n m xs h u.1)

under_lowered : (n : ℕ) (xs : List ℕ) → Under (suc n) xs → Under n (lowered xs)
under_lowered n [] u = tt
under_lowered n (zero ∷ xs) u = under_lowered n xs u.1
under_lowered n (suc k ∷ xs) u = (let a = u.0 in omega arith, under_lowered n xs u.1)

abbrev bound : List ℕ → ℕ
bound [] = 0
bound (x ∷ xs) = suc x + bound xs

under_bound : (xs : List ℕ) → Under (bound xs) xs
under_bound [] = tt
under_bound (x ∷ xs) = (omega arith, under_more (bound xs) (suc x + bound xs) xs (omega arith) (under_bound xs))

taken_less : (m n a : ℕ) → m ≤ n → taken_times m a ≤ taken_times n a
taken_less zero n a h = let z : taken_times zero a ≡ 0 = refl in omega arith
taken_less (suc m) zero a h = absurd (omega arith)
taken_less (suc m) (suc n) a h =
    let r : taken_times m a ≤ taken_times n a = taken_less m n a (omega arith) in
    let p : taken_times (suc m) a ≡ a + taken_times m a = refl in
    let q : taken_times (suc n) a ≡ a + taken_times n a = refl in
    omega arith

pub taken_once : (n a : ℕ) → n ≤ 1 → taken_times n a ≤ a
taken_once n a h = let r : taken_times n a ≤ taken_times 1 a = taken_less n 1 a h in let one : taken_times 1 a ≡ a + 0 =
    refl in omega arith

less_under : (n : ℕ) (h : ℕ → ℕ) (xs ys : List ℕ) → Under n xs → ((k : ℕ) → times xs k ≤ times ys k) → total h xs
    ≤ total h ys
less_under zero h [] ys u e = let z : total h [] ≡ 0 = refl in omega arith
less_under zero h (x ∷ xs) ys u e = let no = u.0 in absurd (omega arith)
less_under (suc n) h xs ys u e =
    let a = total_lowered h xs in
    let b = total_lowered h ys in
    let c : taken_times (times xs 0) (h 0) ≤ taken_times (times ys 0) (h 0) =
    taken_less (times xs 0) (times ys 0) (h 0) (e 0) in
    let d : total (λ k. h (suc k)) (lowered xs) ≤ total (λ k. h (suc k)) (lowered ys)
    = less_under n (λ k. h (suc k)) (lowered xs) (lowered ys) (under_lowered n xs u)
    (λ k. let p = lowered_times xs k in let q = lowered_times ys k in let r = e (suc k) in omega arith) in
    omega arith

-- a sum over numbers that are each there as often or more often is as great or greater
pub less_total : (h : ℕ → ℕ) (xs ys : List ℕ) → ((k : ℕ) → times xs k ≤ times ys k) → total h xs ≤ total h ys
less_total h xs ys e = less_under (bound xs) h xs ys (under_bound xs) e

-- a sum looks only at how often each number is there
pub same_total : (h : ℕ → ℕ) (xs ys : List ℕ) → ((k : ℕ) → times xs k ≡ times ys k) → total h xs ≡ total h ys
same_total h xs ys e =
    let a : total h xs ≤ total h ys = less_total h xs ys (λ k. let s = e k in omega arith) in
    let b : total h ys ≤ total h xs = less_total h ys xs (λ k. let s = e k in omega arith) in
    omega arith

-- what is there once or more, is there
pub there_among : (xs : List ℕ) (k : ℕ) → 1 ≤ times xs k → is_among xs k ≡ true
there_among [] k h = absurd (omega arith)
there_among (x ∷ xs) k h =
    elim (x == k) as (λ b. (x == k) ≡ b → is_among (x ∷ xs) k ≡ true) [
      | true ↦ λ e. subst (λ z. is_among (z ∷ xs) k ≡ true) (sym (eqb-true x k e)) (first_among k xs)
      | false ↦ λ e.
          let c : times (x ∷ xs) k ≡ 0 + times xs k = times_cons x xs k
          ∙ ap (λ (b : Bool). cond b 1 0 + times xs k) e in
          later_among x xs k (there_among xs k (omega arith))
    ] refl

-- ---- levels

-- the order, in numbers
unfoldable pub numbers_innermost_first : ℕ → (ℕ → List ℕ) → List ℕ → List ℕ
numbers_innermost_first zero c level = []
numbers_innermost_first (suc n) c level = flat_map (λ (k : ℕ). numbers_innermost_first n c (c k) ++ k ∷ []) level

no_levels : (c : ℕ → List ℕ) (xs : List ℕ) (j : ℕ) → times (numbers_innermost_first 0 c xs) j ≡ 0
unfolding numbers_innermost_first
no_levels c xs j = refl

listed_both : (n : ℕ) (c : ℕ → List ℕ) (xs ys : List ℕ) (j : ℕ) → times (numbers_innermost_first n c (xs ++ ys)) j
    ≡ times (numbers_innermost_first n c xs) j + times (numbers_innermost_first n c ys) j
unfolding numbers_innermost_first
listed_both zero c xs ys j = refl
listed_both (suc n) c xs ys j =
    let g : ℕ → List ℕ = λ k. numbers_innermost_first n c (c k) ++ k ∷ [] in
    ap (λ zs. times zs j) (flat_map-append g xs ys) ∙ times_both (flat_map g xs) (flat_map g ys) j

listed_none : (n : ℕ) (c : ℕ → List ℕ) (j : ℕ) → times (numbers_innermost_first n c []) j ≡ 0
unfolding numbers_innermost_first
listed_none zero c j = refl
listed_none (suc n) c j = refl

-- first the level itself
pub listed_level : (n : ℕ) (c : ℕ → List ℕ) (xs : List ℕ) (j : ℕ) → times (numbers_innermost_first (suc n) c xs) j
    ≡ times xs j + times (numbers_innermost_first n c (flat_map c xs)) j
unfolding numbers_innermost_first
listed_level n c [] j = sym (ap (λ z. 0 + z) (listed_none n c j))
listed_level n c (x ∷ xs) j =
    let g : ℕ → List ℕ = λ k. numbers_innermost_first n c (c k) ++ k ∷ [] in
    let a : times (g x ++ flat_map g xs) j ≡ times (g x) j + times (flat_map g xs) j =
    times_both (g x) (flat_map g xs) j in
    let b : times (numbers_innermost_first n c (c x) ++ x ∷ []) j ≡ times (numbers_innermost_first n c (c x)) j
    + times (x ∷ []) j = times_both (numbers_innermost_first n c (c x)) (x ∷ []) j in
    let d : times (x ∷ []) j ≡ cond (x == j) 1 0 + 0 = times_cons x [] j in
    let e : times (x ∷ xs) j ≡ cond (x == j) 1 0 + times xs j = times_cons x xs j in
    let f : times (numbers_innermost_first n c (c x ++ flat_map c xs)) j ≡ times (numbers_innermost_first n c (c x)) j
    + times (numbers_innermost_first n c (flat_map c xs)) j = listed_both n c (c x) (flat_map c xs) j in
    let rest : times (flat_map g xs) j ≡ times xs j + times (numbers_innermost_first n c (flat_map c xs)) j =
    listed_level n c xs j in
    omega arith

-- how often a number is there doesn't hang on the order of what functions create
pub listed_same : (n : ℕ) (c d : ℕ → List ℕ) → ((k j : ℕ) → times (c k) j ≡ times (d k) j) → (xs ys : List ℕ)
    → ((j : ℕ) → times xs j ≡ times ys j) → (j : ℕ) → times (numbers_innermost_first n c xs) j
    ≡ times (numbers_innermost_first n d ys) j
unfolding numbers_innermost_first
listed_same zero c d h xs ys e j = refl
listed_same (suc n) c d h xs ys e j =
    let a : times (numbers_innermost_first (suc n) c xs) j ≡ times xs j
    + times (numbers_innermost_first n c (flat_map c xs)) j = listed_level n c xs j in
    let b : times (numbers_innermost_first (suc n) d ys) j ≡ times ys j
    + times (numbers_innermost_first n d (flat_map d ys)) j = listed_level n d ys j in
    let f : times xs j ≡ times ys j = e j in
    let next : (k : ℕ) → times (flat_map c xs) k ≡ times (flat_map d ys) k = λ k.
    flat_times c xs k ∙ total_same (λ x. times (c x) k) (λ x. times (d x) k) (λ x. h x k) xs
    ∙ same_total (λ x. times (d x) k) xs ys e ∙ sym (flat_times d ys k) in
    let g : times (numbers_innermost_first n c (flat_map c xs)) j
    ≡ times (numbers_innermost_first n d (flat_map d ys)) j =
    listed_same n c d h (flat_map c xs) (flat_map d ys) next j in
    a ∙ ap (λ z. z + times (numbers_innermost_first n c (flat_map c xs)) j) f ∙ ap (λ z. times ys j + z) g ∙ sym b

-- ---- functions that create fewer

module _ (ks : List ℕ) (c d : ℕ → List ℕ) (closed : (k : ℕ) → is_among ks k ≡ true → Among ks (d k))
    (fewer : (k j : ℕ) → is_among ks k ≡ true → times (c k) j ≤ times (d k) j) where
  total_fewer : (j : ℕ) (xs : List ℕ) → Among ks xs → total (λ x. times (c x) j) xs ≤ total (λ x. times (d x) j) xs
  total_fewer j [] a = omega arith
  total_fewer j (x ∷ xs) a =
      let p : times (c x) j ≤ times (d x) j = fewer x j (a x (first_among x xs)) in
      let q : total (λ x. times (c x) j) xs ≤ total (λ x. times (d x) j) xs =
      total_fewer j xs (λ k h. a k (later_among x xs k h)) in
      omega arith

  fewer_next : (xs ys : List ℕ) → ((j : ℕ) → times xs j ≤ times ys j) → Among ks ys → (j : ℕ) → times (flat_map c xs) j
      ≤ times (flat_map d ys) j
  fewer_next xs ys e a j =
      let p : times (flat_map c xs) j ≡ total (λ x. times (c x) j) xs = flat_times c xs j in
      let q : total (λ x. times (c x) j) xs ≤ total (λ x. times (d x) j) xs =
      total_fewer j xs (λ k h. a k (there_among ys k
      (let n : 1 ≤ times xs k = counted xs k h in let m = e k in omega arith))) in
      let r : total (λ x. times (d x) j) xs ≤ total (λ x. times (d x) j) ys = less_total (λ x. times (d x) j) xs ys e in
      let s : times (flat_map d ys) j ≡ total (λ x. times (d x) j) ys = flat_times d ys j in
      omega arith

  -- where each creates no more, no number is in the order more often
  pub listed_fewer : (n : ℕ) (xs ys : List ℕ) → ((j : ℕ) → times xs j ≤ times ys j) → Among ks ys → (j : ℕ)
      → times (numbers_innermost_first n c xs) j ≤ times (numbers_innermost_first n d ys) j
  listed_fewer zero xs ys e a j = let z : times (numbers_innermost_first 0 c xs) j ≡ 0 = no_levels c xs j in omega arith
  listed_fewer (suc n) xs ys e a j =
      let p : times (numbers_innermost_first (suc n) c xs) j ≡ times xs j
      + times (numbers_innermost_first n c (flat_map c xs)) j = listed_level n c xs j in
      let q : times (numbers_innermost_first (suc n) d ys) j ≡ times ys j
      + times (numbers_innermost_first n d (flat_map d ys)) j = listed_level n d ys j in
      let f : times xs j ≤ times ys j = e j in
      let next : Among ks (flat_map d ys) = λ k h. let s : Source d ys k = source_of d ys k h in
      closed s.number (a s.number s.among) k s.taken in
      let g : times (numbers_innermost_first n c (flat_map c xs)) j
      ≤ times (numbers_innermost_first n d (flat_map d ys)) j =
      listed_fewer n (flat_map c xs) (flat_map d ys) (fewer_next xs ys e a) next j in
      omega arith

-- ---- the functions below a function

-- a tree has what was found, and the order of what is below
pub tree_times : (n : ℕ) (env : Environment) (found level ks : List ℕ) → tree_from n env found level ≡ Some ks → (j : ℕ)
    → times ks j ≡ times found j + times (numbers_innermost_first n (created_at env) level) j
tree_times zero env found level ks e j =
    let p = ended_parts found level ks (sym (tree_end env found level) ∙ e) in
    let a : times found j ≡ times ks j = ap (λ zs. times zs j) p.1 in
    let z : times (numbers_innermost_first 0 (created_at env) level) j ≡ 0 = no_levels (created_at env) level j in
    omega arith
tree_times (suc n) env found level ks e j =
    let p = tree_parts n env found level ks e in
    let a : times ks j ≡ times (found ++ level) j
    + times (numbers_innermost_first n (created_at env) (next_level env level)) j =
    tree_times n env (found ++ level) (next_level env level) ks p.1 j in
    let b : times (found ++ level) j ≡ times found j + times level j = times_both found level j in
    let c : times (numbers_innermost_first (suc n) (created_at env) level) j ≡ times level j
    + times (numbers_innermost_first n (created_at env) (next_level env level)) j =
    listed_level n (created_at env) level j in
    omega arith

-- and of any levels below no number more often
pub times_in_tree : (m n : ℕ) (env : Environment) (found level ks : List ℕ) → tree_from m env found level ≡ Some ks
    → (j : ℕ) → times found j + times (numbers_innermost_first n (created_at env) level) j ≤ times ks j
times_in_tree zero n env found level ks e j =
    let p = ended_parts found level ks (sym (tree_end env found level) ∙ e) in
    let a : times found j ≡ times ks j = ap (λ zs. times zs j) p.1 in
    let z : times (numbers_innermost_first n (created_at env) level) j ≡ 0 =
    subst (λ zs. times (numbers_innermost_first n (created_at env) zs) j ≡ 0) (sym p.0)
    (listed_none n (created_at env) j) in
    omega arith
times_in_tree (suc m) zero env found level ks e j =
    let p = tree_parts m env found level ks e in
    let a : times (found ++ level) j + times (numbers_innermost_first 0 (created_at env) (next_level env level)) j
    ≤ times ks j = times_in_tree m 0 env (found ++ level) (next_level env level) ks p.1 j in
    let b : times (found ++ level) j ≡ times found j + times level j = times_both found level j in
    let z : times (numbers_innermost_first 0 (created_at env) level) j ≡ 0 = no_levels (created_at env) level j in
    omega arith
times_in_tree (suc m) (suc n) env found level ks e j =
    let p = tree_parts m env found level ks e in
    let a : times (found ++ level) j + times (numbers_innermost_first n (created_at env) (next_level env level)) j
    ≤ times ks j = times_in_tree m n env (found ++ level) (next_level env level) ks p.1 j in
    let b : times (found ++ level) j ≡ times found j + times level j = times_both found level j in
    let c : times (numbers_innermost_first (suc n) (created_at env) level) j ≡ times level j
    + times (numbers_innermost_first n (created_at env) (next_level env level)) j =
    listed_level n (created_at env) level j in
    omega arith
