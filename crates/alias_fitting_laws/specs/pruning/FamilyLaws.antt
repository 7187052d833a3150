-- A function and those below it, where some of them create fewer: one that is left is below the same ones.
use Rattle.std.specs.Prelude.{◌≡◌, ◌⊎◌, ℕ, ◌<◌, true, false, List, [], ◌∷◌, ◌++◌, length, Some, refl, if◌then◌else◌}
use Rattle.std.proofs.Common.{zero, suc, inl, inr, sym, subst, arith}
use Rattle.std.proofs.lemmas.List.{append_assoc}
use Rattle.alias_hir.specs.declared.env.Environment.{Environment}
use Rattle.alias_hir.specs.declared.hir.HirFunction.{HirFunction}
use Rattle.alias_rules.specs.function_rules.Rules.{is_among}
use Rattle.alias_rules.specs.Nesting.{created_in, created_at, next_level, fresh, reached_from, tree_below}
use Rattle.alias_rules.specs.Sharing.{family}
use Rattle.alias_nesting_laws.specs.ClosureLaws.{Among, among_front, among_rest, tree_closed}
use Rattle.alias_nesting_laws.specs.FittingLaws.{first_among}
use Rattle.alias_nesting_laws.specs.PartLaws.{Part, part_among, among_cases, append_cases}
use Rattle.alias_fitting_laws.specs.pruning.BelowLaws.{Source, source_of, among_flat, creator_stays}
use Rattle.alias_nesting_laws.specs.SeparateLaws.{fresh_among}

-- ---- what is fresh

-- a level is found, or fresh
fresh_has : (found level : List ℕ) → Among (found ++ fresh found level) level
fresh_has found [] k h = cc
fresh_has found (x ∷ xs) k h =
    elim (is_among found x) as (λ b. is_among found x ≡ b
    → is_among (found ++ (if b then fresh found xs else x ∷ fresh (found ++ x ∷ []) xs)) k ≡ true) [
      | true ↦ λ e. among_cases x xs k (is_among (found ++ fresh found xs) k ≡ true) h
          (λ s. among_front found (fresh found xs) k (subst (λ z. is_among found z ≡ true) (sym s) e))
          (λ l. fresh_has found xs k l)
      | false ↦ λ e.
          let rest : List ℕ = fresh (found ++ x ∷ []) xs in
          among_cases x xs k (is_among (found ++ x ∷ rest) k ≡ true) h
          (λ s. among_rest found (x ∷ rest) k (subst (λ z. is_among (x ∷ rest) z ≡ true) (sym s) (first_among x rest)))
          (λ l. subst (λ zs. is_among zs k ≡ true) (append_assoc found (x ∷ []) rest)
          (fresh_has (found ++ x ∷ []) xs k l))
    ] refl

-- ---- ways from one function to another

-- the second function is so many creations below the first
abbrev Leads : Environment → ℕ → ℕ → ℕ → Type 0
Leads env zero k j = k ≡ j
Leads env (suc n) k j = (i : ℕ) × (is_among (created_at env k) i ≡ true) × Leads env n i j

-- the function is fewer than n creations below one of these
record Way (env : Environment) (n : ℕ) (level : List ℕ) (j : ℕ) : Type 0 where
  first : ℕ
  among : is_among level first ≡ true
  steps : ℕ
  fewer : steps < n
  leads : Leads env steps first j

module _ (env : Environment) where
  -- what is reached was found, or there is a way to it
  way_to : (n : ℕ) (found level : List ℕ) (j : ℕ) → is_among (reached_from n env found level) j ≡ true
      → (is_among found j ≡ true) ⊎ Way env n level j
  unfolding reached_from
  way_to zero found level j h = inl h
  way_to (suc n) found level j h =
      elim (way_to n (found ++ fresh found level) (next_level env (fresh found level)) j h) [
        | inl i ↦ append_cases found (fresh found level) j ((is_among found j ≡ true) ⊎ Way env (suc n) level j) i inl
            (λ f. inr (record {
              first = j;
              among = fresh_among found level j f;
              steps = 0;
              fewer = omega arith;
              leads = refl;
            }))
        | inr w ↦
            let s : Source (created_at env) (fresh found level) w.first =
            source_of (created_at env) (fresh found level) w.first w.among in
            inr (record {
              first = s.number;
              among = fresh_among found level s.number s.among;
              steps = suc w.steps;
              fewer = (let l = w.fewer in omega arith);
              leads = (w.first, s.taken, w.leads);
            })
      ]

  -- what was found stays
  reached_has : (n : ℕ) (found level : List ℕ) → Among (reached_from n env found level) found
  unfolding reached_from
  reached_has zero found level k h = h
  reached_has (suc n) found level k h = reached_has n (found ++ fresh found level) (next_level env (fresh found level))
      k (among_front found (fresh found level) k h)

  -- what the functions create that were found was found too, or is on the level
  abbrev Open : List ℕ → List ℕ → Type 0
  Open found level = (k : ℕ) → is_among found k ≡ true → Among (found ++ level) (created_at env k)

  open_next : (found level : List ℕ) → Open found level
      → Open (found ++ fresh found level) (next_level env (fresh found level))
  open_next found level o k h j i =
      let now : List ℕ = found ++ fresh found level in
      let next : List ℕ = next_level env (fresh found level) in
      append_cases found (fresh found level) k (is_among (now ++ next) j ≡ true) h
      (λ f. among_front now next j (append_cases found level j (is_among now j ≡ true) (o k f j i)
      (among_front found (fresh found level) j) (fresh_has found level j)))
      (λ f. among_rest now next j (among_flat (created_at env) (fresh found level) k j f i))

  -- where there is a way, it is reached
  reached_by : (n : ℕ) (found level : List ℕ) → Open found level → (m k j : ℕ) → m < n → is_among (found ++ level) k
      ≡ true → Leads env m k j → is_among (reached_from n env found level) j ≡ true
  unfolding reached_from
  reached_by zero found level o m k j l h w = absurd (omega arith)
  reached_by (suc n) found level o zero k j l h w =
      reached_has n (found ++ fresh found level) (next_level env (fresh found level)) j
      (subst (λ z. is_among (found ++ fresh found level) z ≡ true) w
      (append_cases found level k (is_among (found ++ fresh found level) k ≡ true) h
      (among_front found (fresh found level) k) (fresh_has found level k)))
  reached_by (suc n) found level o (suc m) k j l h w =
      let now : List ℕ = found ++ fresh found level in
      let there : is_among now k ≡ true = append_cases found level k (is_among now k ≡ true) h
      (among_front found (fresh found level) k) (fresh_has found level k) in
      reached_by n now (next_level env (fresh found level)) (open_next found level o) m w.0 j (omega arith)
      (open_next found level o k there w.0 w.1) w.2

  -- a function below one: there is a way from that, and where there is one it is below it
  family_way : (k j : ℕ) → is_among (family env k) j ≡ true → (m : ℕ) × (m < length env.functions) × Leads env m k j
  family_way k j h =
      elim (way_to (length env.functions) [] (k ∷ []) j h) [
        | inl none ↦ cc
        | inr w ↦ (
          w.steps,
          w.fewer,
          among_cases k [] w.first (Leads env w.steps k j) w.among
              (λ e. subst (λ z. Leads env w.steps z j) e w.leads) (λ no. cc),
        )
      ]

  way_family : (k j m : ℕ) → m < length env.functions → Leads env m k j → is_among (family env k) j ≡ true
  way_family k j m l w = reached_by (length env.functions) [] (k ∷ []) (λ i no. cc) m k j l (first_among k []) w

-- ---- where functions create fewer

module _ (env more : Environment) (fewer : (k : ℕ) → Part (created_at more k) (created_at env k))
    (count : length more.functions ≡ length env.functions) where
  still_way : (m k j : ℕ) → Leads more m k j → Leads env m k j
  still_way zero k j w = w
  still_way (suc m) k j w = (w.0, part_among (fewer k) w.0 w.1, still_way m w.0 j w.2)

  -- no function comes to be below another
  pub family_fewer : (k : ℕ) → Among (family env k) (family more k)
  family_fewer k j h =
      let w = family_way more k j h in
      way_family env k j w.0 (let l = w.1 in let c = count in omega arith) (still_way w.0 k j w.2)

  module _ (g : HirFunction) (ks left : List ℕ) (tree : tree_below env g ≡ Some ks)
      (tree2 : tree_below more g ≡ Some left) (part : Part left ks) where
    way_stays : (m k j : ℕ) → is_among ks k ≡ true → Leads env m k j → is_among left j ≡ true → (is_among left k ≡ true)
        × Leads more m k j
    way_stays zero k j h w stays = (subst (λ z. is_among left z ≡ true) (sym w) stays, w)
    way_stays (suc m) k j h w stays =
        let there : is_among ks w.0 ≡ true = (tree_closed env 63 [] (created_in g) ks tree).closed k h refl w.0 w.1 in
        let rest = way_stays m w.0 j there w.2 stays in
        let c = creator_stays env more fewer g ks left tree tree2 part k w.0 h w.1 rest.0 in
        (c.0, (w.0, c.1, rest.1))

    -- a function that was below another one, and is still reached, is still below it
    pub family_stays : (k j : ℕ) → is_among ks k ≡ true → is_among left j ≡ true → is_among (family env k) j ≡ true
        → is_among (family more k) j ≡ true
    family_stays k j h stays i =
        let w = family_way env k j i in
        way_family more k j w.0 (let l = w.1 in let c = count in omega arith) (way_stays w.0 k j h w.2 stays).1
