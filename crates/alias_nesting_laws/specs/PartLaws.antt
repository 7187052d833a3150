-- Lists with some of their numbers left out.
use Rattle.std.specs.Prelude.{◌≡◌, ℕ, Bool, true, false, ◌||◌, nat_eq, List, [], ◌∷◌, ◌++◌, Option, Some, None, refl}
use Rattle.std.specs.Prelude.{if◌then◌else◌}
use Rattle.std.specs.List.{flat_map}
use Rattle.std.proofs.Common.{ap, sym, ◌∙◌, subst}
use Rattle.std.proofs.lemmas.Bool.{eqb-true}
use Rattle.std.proofs.lemmas.List.Folds.{list_any-append}
use Rattle.alias_rules.specs.function_rules.Rules.{is_among, first_again}
use Rattle.alias_rules.specs.TreeLaws.{either}
use Rattle.alias_nesting_laws.specs.ClosureLaws.{Among}
use Rattle.alias_nesting_laws.specs.FittingLaws.{first_among, later_among}

-- the first list is the second with some of its numbers left out
pub data Part : List ℕ → List ℕ → Type 0 where
  nothing : Part [] []
  left_out : {x : ℕ} {xs ys : List ℕ} → Part xs ys → Part xs (x ∷ ys)
  kept : {x : ℕ} {xs ys : List ℕ} → Part xs ys → Part (x ∷ xs) (x ∷ ys)

pub part_nothing : (ys : List ℕ) → Part [] ys
part_nothing [] = nothing
part_nothing (y ∷ ys) = left_out (part_nothing ys)

pub part_all : (ys : List ℕ) → Part ys ys
part_all [] = nothing
part_all (y ∷ ys) = kept (part_all ys)

pub part_both : {xs ys us vs : List ℕ} → Part xs ys → Part us vs → Part (xs ++ us) (ys ++ vs)
part_both nothing q = q
part_both (left_out p) q = left_out (part_both p q)
part_both (kept p) q = kept (part_both p q)

pub part_front : (xs ys : List ℕ) → Part xs (xs ++ ys)
part_front [] ys = part_nothing ys
part_front (x ∷ xs) ys = kept (part_front xs ys)

pub part_rest : (xs ys : List ℕ) → Part ys (xs ++ ys)
part_rest [] ys = part_all ys
part_rest (x ∷ xs) ys = left_out (part_rest xs ys)

pub part_of_nothing : {xs : List ℕ} → Part xs [] → xs ≡ []
part_of_nothing nothing = refl

-- what is taken of a part is a part of what is taken of all
pub part_each : {xs ys : List ℕ} (g : ℕ → List ℕ) → Part xs ys → Part (flat_map g xs) (flat_map g ys)
part_each g nothing = nothing
part_each g (left_out {x} {xs} {ys} p) = part_both (part_nothing (g x)) (part_each g p)
part_each g (kept {x} {xs} {ys} p) = part_both (part_all (g x)) (part_each g p)

or_either : (a b c : Bool) → (a || b) ≡ true → (b ≡ true → c ≡ true) → (a || c) ≡ true
or_either true b c h f = refl
or_either false b c h f = f h

-- each number of a part is in the list
pub part_among : {xs ys : List ℕ} → Part xs ys → Among ys xs
part_among nothing k h = h
part_among (left_out {x} {xs} {ys} p) k h = later_among x ys k (part_among p k h)
part_among (kept {x} {xs} {ys} p) k h = or_either (nat_eq k x) (is_among xs k) (is_among ys k) h (part_among p k)

pub among_cases : (x : ℕ) (xs : List ℕ) (k : ℕ) (C : Type 0) → is_among (x ∷ xs) k ≡ true → (k ≡ x → C)
    → (is_among xs k ≡ true → C) → C
among_cases x xs k C h here there = either (nat_eq k x) (is_among xs k) C h (λ e. here (eqb-true k x e)) there

pub append_cases : (xs ys : List ℕ) (k : ℕ) (C : Type 0) → is_among (xs ++ ys) k ≡ true → (is_among xs k ≡ true → C)
    → (is_among ys k ≡ true → C) → C
append_cases xs ys k C h here there = either (is_among xs k) (is_among ys k) C
    (sym (list_any-append (nat_eq k) xs ys) ∙ h) here there

-- what is taken of one of the numbers
pub part_at : (g : ℕ → List ℕ) (xs : List ℕ) (k : ℕ) → is_among xs k ≡ true → Part (g k) (flat_map g xs)
part_at g [] k h = cc
part_at g (x ∷ xs) k h =
    among_cases x xs k (Part (g k) (flat_map g (x ∷ xs))) h
    (λ e. subst (λ z. Part (g z) (flat_map g (x ∷ xs))) (sym e) (part_front (g x) (flat_map g xs)))
    (λ i. later (g x) (part_at g xs k i))
  where
    later : {us vs : List ℕ} (ws : List ℕ) → Part us vs → Part us (ws ++ vs)
    later [] p = p
    later (w ∷ ws) p = left_out (later ws p)

-- ---- lists with no number twice

pub absent : (b : Bool) → (b ≡ true → ⊥) → b ≡ false
absent true h = absurd (h refl)
absent false h = refl

pub not_both : (b : Bool) → b ≡ true → b ≡ false → ⊥
not_both true h g = cc
not_both false h g = cc

not_again : (b : Bool) (y : ℕ) (o : Option ℕ) → ◌≡◌ {A = Option ℕ} (if b then Some y else o) None → (b ≡ false)
    × (o ≡ None)
not_again true y o h = cc
not_again false y o h = (refl, h)

-- a part has no number twice either
pub part_distinct : {xs ys : List ℕ} (seen seen2 : List ℕ) → Part xs ys → Among seen seen2 → first_again seen ys ≡ None
    → first_again seen2 xs ≡ None
part_distinct seen seen2 nothing a h = refl
part_distinct seen seen2 (left_out {x} {xs} {ys} p) a h =
    let b = not_again (is_among seen x) x (first_again (x ∷ seen) ys) h in
    part_distinct (x ∷ seen) seen2 p (λ k i. later_among x seen k (a k i)) b.1
part_distinct seen seen2 (kept {x} {xs} {ys} p) a h =
    let b = not_again (is_among seen x) x (first_again (x ∷ seen) ys) h in
    ap (λ (c : Bool). if c then Some x else first_again (x ∷ seen2) xs)
    (absent (is_among seen2 x) (λ i. not_both (is_among seen x) (a x i) b.0))
    ∙ part_distinct (x ∷ seen) (x ∷ seen2) p
    (λ k i. or_either (nat_eq k x) (is_among seen2 k) (is_among seen k) i (a k)) b.1

-- what was seen isn't there again
seen_apart : (seen ys : List ℕ) (k : ℕ) → is_among seen k ≡ true → first_again seen ys ≡ None → is_among ys k ≡ false
seen_apart seen [] k i h = refl
seen_apart seen (y ∷ ys) k i h =
    let b = not_again (is_among seen y) y (first_again (y ∷ seen) ys) h in
    absent (is_among (y ∷ ys) k) (λ j. among_cases y ys k ⊥ j
    (λ e. not_both (is_among seen y) (subst (λ z. is_among seen z ≡ true) e i) b.0)
    (λ l. not_both (is_among ys k) l (seen_apart (y ∷ seen) ys k (later_among y seen k i) b.1)))

-- what is in the first of two lists that share no number isn't in the second
pub front_apart : (seen xs ys : List ℕ) (k : ℕ) → first_again seen (xs ++ ys) ≡ None → is_among xs k ≡ true
    → is_among ys k ≡ false
front_apart seen [] ys k h i = cc
front_apart seen (x ∷ xs) ys k h i =
    let b = not_again (is_among seen x) x (first_again (x ∷ seen) (xs ++ ys)) h in
    among_cases x xs k (is_among ys k ≡ false) i
    (λ e. absent (is_among ys k) (λ j. not_both (is_among (xs ++ ys) k) (part_among (part_rest xs ys) k j)
    (seen_apart (x ∷ seen) (xs ++ ys) k (subst (λ z. is_among (x ∷ seen) z ≡ true) (sym e) (first_among x seen))
    b.1)))
    (λ j. front_apart (x ∷ seen) xs ys k b.1 j)
