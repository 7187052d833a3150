-- The functions below a function are closed: what one of them creates is one of them.
use Rattle.std.specs.Prelude.{◌≡◌, ℕ, Bool, true, false, ◌||◌, ◌==◌, nat_eq, List, [], ◌∷◌, ◌++◌, length, is_none}
use Rattle.std.specs.Prelude.{Option, Some, None, refl, if◌then◌else◌}
use Rattle.std.proofs.Common.{zero, suc, sym, ◌∙◌, subst, arith}
use Rattle.std.proofs.lemmas.Bool.{eqb-true}
use Rattle.std.proofs.lemmas.List.Folds.{list_any-append}
use Rattle.alias_hir.specs.declared.env.Environment.{Environment}
use Rattle.alias_rules.specs.function_rules.Rules.{is_among, first_again}
use Rattle.alias_rules.specs.Nesting.{created_at, next_level, tree_from}

-- the numbers of the second list are in the first
abbrev pub Among : List ℕ → List ℕ → Type 0
Among ks xs = (k : ℕ) → is_among xs k ≡ true → is_among ks k ≡ true

pub left_true : (a b : Bool) → a ≡ true → (a || b) ≡ true
left_true true b h = refl
left_true false b h = cc

pub right_true : (a b : Bool) → b ≡ true → (a || b) ≡ true
right_true true b h = refl
right_true false b h = h

both_false : (a b : Bool) → a ≡ false → b ≡ false → (a || b) ≡ false
both_false true b h g = cc
both_false false b h g = g

pub among_front : (xs ys : List ℕ) (k : ℕ) → is_among xs k ≡ true → is_among (xs ++ ys) k ≡ true
among_front xs ys k h = list_any-append (nat_eq k) xs ys ∙ left_true (is_among xs k) (is_among ys k) h

pub among_rest : (xs ys : List ℕ) (k : ℕ) → is_among ys k ≡ true → is_among (xs ++ ys) k ≡ true
among_rest xs ys k h = list_any-append (nat_eq k) xs ys ∙ right_true (is_among xs k) (is_among ys k) h

pub among_neither : (xs ys : List ℕ) (k : ℕ) → is_among xs k ≡ false → is_among ys k ≡ false → is_among (xs ++ ys) k
    ≡ false
among_neither xs ys k h g = list_any-append (nat_eq k) xs ys ∙ both_false (is_among xs k) (is_among ys k) h g

module _ (env : Environment) where
  among_next : (level : List ℕ) (k j : ℕ) → is_among level k ≡ true → is_among (created_at env k) j ≡ true
      → is_among (next_level env level) j ≡ true
  among_next [] k j h g = cc
  among_next (x ∷ xs) k j h g =
      elim (nat_eq k x) as (λ b. nat_eq k x ≡ b → (b || is_among xs k) ≡ true → is_among (next_level env (x ∷ xs)) j
      ≡ true) [
        | true ↦ λ e i. among_front (created_at env x) (next_level env xs) j
            (subst (λ z. is_among (created_at env z) j ≡ true) (eqb-true k x e) g)
        | false ↦ λ e i. among_rest (created_at env x) (next_level env xs) j (among_next xs k j i g)
      ] refl h

  -- the numbers that were found and those of the level are in the list, and with each that was not found before those
  -- that it creates
  pub record Closed (found level ks : List ℕ) : Type 0 where
    pub has_found : Among ks found
    pub has_level : Among ks level
    pub closed : (k : ℕ) → is_among ks k ≡ true → is_among found k ≡ false → Among ks (created_at env k)

  none_there : (level : List ℕ) (k : ℕ) → (length level == 0) ≡ true → is_among level k ≡ false
  none_there [] k h = refl
  none_there (x ∷ xs) k h = let e : length (x ∷ xs) ≡ 0 = eqb-true (length (x ∷ xs)) 0 h in absurd (omega arith)

  ended_closed : (b : Bool) (found level ks : List ℕ) → (length level == 0) ≡ b
      → ◌≡◌ {A = Option (List ℕ)} (if b then Some found else None) (Some ks) → Closed found level ks
  ended_closed true found level ks h e =
      let same : found ≡ ks = cc in
      subst (Closed found level) same (record {
        has_found = λ k i. i;
        has_level = λ k i. let no = none_there level k h in let both : false ≡ true = sym no ∙ i in cc;
        closed = λ k i g. let both : false ≡ true = sym g ∙ i in cc;
      })
  ended_closed false found level ks h e = cc

  taken : (b : Bool) (o : Option (List ℕ)) (ks : List ℕ) → (if b then o else None) ≡ Some ks → o ≡ Some ks
  taken true o ks e = e
  taken false o ks e = cc

  pub tree_closed : (n : ℕ) (found level ks : List ℕ) → tree_from n env found level ≡ Some ks → Closed found level ks
  unfolding tree_from
  tree_closed zero found level ks e = ended_closed (length level == 0) found level ks refl e
  tree_closed (suc n) found level ks e =
      let c = tree_closed n (found ++ level) (next_level env level) ks
      (taken (is_none (first_again [] (found ++ level))) (tree_from n env (found ++ level) (next_level env level))
      ks e) in record {
        has_found = λ k h. c.has_found k (among_front found level k h);
        has_level = λ k h. c.has_found k (among_rest found level k h);
        closed = λ k h g.
            elim (is_among level k) as (λ b. is_among level k ≡ b → Among ks (created_at env k)) [
              | true ↦ λ i j m. c.has_level j (among_next level k j i m)
              | false ↦ λ i. c.closed k h (among_neither found level k g i)
            ] refl;
      }
