-- Identifiers that are apart stay apart, where functions create fewer and no identifier comes to stand in one.
use Rattle.std.specs.Prelude.{◌≡◌, ℕ, Bool, true, false, not, ◌&&◌, ◌||◌, nat_eq, List, [], ◌∷◌, length, Some, None, Ok}
use Rattle.std.specs.Prelude.{refl}
use Rattle.std.specs.List.{flat_map, range_with_len}
use Rattle.std.proofs.Common.{ap, sym, ◌∙◌, subst}
use Rattle.alias_hir.specs.declared.env.Environment.{Environment}
use Rattle.alias_hir.specs.declared.hir.HirFunction.{HirFunction}
use Rattle.alias_rules.specs.function_rules.Rules.{is_among}
use Rattle.alias_rules.specs.Nesting.{created_at, tree_below}
use Rattle.alias_rules.specs.Sharing.{identifiers_at, context_at, family, inside, others, outside, is_shared}
use Rattle.alias_rules.specs.Sharing.{first_shared, in_two, nested_is_apart, identifiers_apart}
use Rattle.alias_rules.specs.TreeLaws.{either}
use Rattle.alias_visit.specs.Places.{identifiers_in}
use Rattle.alias_nesting_laws.specs.ClosureLaws.{Among, among_front, among_rest, left_true, right_true}
use Rattle.alias_nesting_laws.specs.FittingLaws.{pass_each, itself, later_among}
use Rattle.alias_nesting_laws.specs.PartLaws.{Part, part_among, among_cases, append_cases, absent, not_both}
use Rattle.alias_fitting_laws.specs.pruning.BelowLaws.{Source, source_of, among_flat}
use Rattle.alias_fitting_laws.specs.pruning.FamilyLaws.{family_fewer, family_stays}
use Rattle.alias_nesting_laws.specs.SeparateLaws.{none_found}
use Rattle.alias_rules.specs.ApartLaws.{any_other}

-- ---- tests and lists

both_parts : (a b : Bool) → (a && b) ≡ true → (a ≡ true) × (b ≡ true)
both_parts true b h = (refl, h)
both_parts false b h = cc

not_true : (a : Bool) → not a ≡ true → a ≡ false
not_true true h = cc
not_true false h = refl

with_both : (a b : Bool) → a ≡ false → b ≡ true → (not a && b) ≡ true
with_both true b h i = cc
with_both false b h i = i

-- what is among the others is one of the numbers, and none of those
others_are : (those ks : List ℕ) (j : ℕ) → is_among (others those ks) j ≡ true → (is_among ks j ≡ true)
    × (is_among those j ≡ false)
others_are those [] j h = cc
others_are those (k ∷ ks) j h =
    either (not (is_among those k) && nat_eq j k) (is_among (others those ks) j)
    ((is_among (k ∷ ks) j ≡ true) × (is_among those j ≡ false)) (sym (any_other (nat_eq j) those ks k) ∙ h)
    (λ here.
    let b = both_parts (not (is_among those k)) (nat_eq j k) here in
    let same : j ≡ k = among_cases k [] j (j ≡ k) (left_true (nat_eq j k) false b.1) (λ e. e) (λ no. cc) in (
      left_true (nat_eq j k) (is_among ks j) b.1,
      subst (λ z. is_among those z ≡ false) (sym same) (not_true (is_among those k) b.0),
    ))
    (λ there. let p = others_are those ks j there in (later_among k ks j p.0, p.1))

others_have : (those ks : List ℕ) (j : ℕ) → is_among ks j ≡ true → is_among those j ≡ false
    → is_among (others those ks) j ≡ true
others_have those [] j h o = cc
others_have those (k ∷ ks) j h o =
    any_other (nat_eq j) those ks k
    ∙ among_cases k ks j (((not (is_among those k) && nat_eq j k) || is_among (others those ks) j) ≡ true) h
    (λ e. left_true (not (is_among those k) && nat_eq j k) (is_among (others those ks) j)
    (with_both (is_among those k) (nat_eq j k) (subst (λ z. is_among those z ≡ false) e o)
    (subst (λ z. nat_eq j z ≡ true) e (itself j))))
    (λ l. right_true (not (is_among those k) && nat_eq j k) (is_among (others those ks) j) (others_have those ks j l o))

-- what is shared by fewer is shared
fewer_shared : (a b c a2 b2 : Bool) → (a2 ≡ true → a ≡ true) → (b2 ≡ true → b ≡ true) → (a && b && not c) ≡ false
    → (a2 && b2 && not c) ≡ false
fewer_shared a b c false b2 f g h = refl
fewer_shared a b c true false f g h = refl
fewer_shared a b c true true f g h = ap (λ (x : Bool). x && not c) (sym (g refl))
    ∙ ap (λ (x : Bool). x && b && not c) (sym (f refl)) ∙ h

-- ---- the identifiers of functions

-- no identifier comes to stand in a function, and each has the context that it had
module _ (env more : Environment) (fewer : (k : ℕ) → Part (created_at more k) (created_at env k))
    (count : length more.functions ≡ length env.functions)
    (contexts : (k : ℕ) → context_at more k ≡ context_at env k)
    (places : (k : ℕ) → Among (identifiers_at env k) (identifiers_at more k)) where
  inside_fewer : (k : ℕ) → Among (inside env k) (inside more k)
  inside_fewer k x h =
      let s : Source (identifiers_at more) (family more k) x = source_of (identifiers_at more) (family more k) x h in
      among_flat (identifiers_at env) (family env k) s.number x (family_fewer env more fewer count k s.number s.among)
      (places s.number x s.taken)

  module _ (g : HirFunction) (ks left : List ℕ) (tree : tree_below env g ≡ Some ks)
      (tree2 : tree_below more g ≡ Some left) (part : Part left ks)
      (own : Among (identifiers_in env g) (identifiers_in more g)) where
    other_stays : (k j : ℕ) → is_among ks k ≡ true → is_among (others (family more k) left) j ≡ true
        → is_among (others (family env k) ks) j ≡ true
    other_stays k j h i =
        let p = others_are (family more k) left j i in
        others_have (family env k) ks j (part_among part j p.0)
        (absent (is_among (family env k) j) (λ e.
        not_both (is_among (family more k) j)
        (family_stays env more fewer count g ks left tree tree2 part k j h p.0 e) p.1))

    outside_fewer : (k : ℕ) → is_among ks k ≡ true → Among (outside env g ks k) (outside more g left k)
    outside_fewer k h x i =
        let those : List ℕ = flat_map (identifiers_at env) (others (family env k) ks) in
        append_cases (identifiers_in more g) (flat_map (identifiers_at more) (others (family more k) left)) x
        (is_among (outside env g ks k) x ≡ true) i
        (λ o. among_front (identifiers_in env g) those x (own x o))
        (λ o.
        let s : Source (identifiers_at more) (others (family more k) left) x =
        source_of (identifiers_at more) (others (family more k) left) x o in
        among_rest (identifiers_in env g) those x
        (among_flat (identifiers_at env) (others (family env k) ks) s.number x (other_stays k s.number h s.among)
        (places s.number x s.taken)))

    -- none is shared below n, where none was
    still_apart_at : (n k : ℕ) → is_among ks k ≡ true
        → first_shared n (inside env k) (outside env g ks k) (context_at env k) ≡ None
        → first_shared n (inside more k) (outside more g left k) (context_at more k) ≡ None
    still_apart_at n k h e =
        ap (first_shared n (inside more k) (outside more g left k)) (contexts k)
        ∙ none_found (is_shared (inside env k) (outside env g ks k) (context_at env k))
        (is_shared (inside more k) (outside more g left k) (context_at env k)) (range_with_len 0 n)
        (λ x. fewer_shared (is_among (inside env k) x) (is_among (outside env g ks k) x) (is_among (context_at env k) x)
        (is_among (inside more k) x) (is_among (outside more g left k) x) (inside_fewer k x) (outside_fewer k h x))
        e

    -- the identifiers below a function are still apart
    pub still_apart : ((k : ℕ) → is_among ks k ≡ true
        → first_shared (length more.identifiers) (inside env k) (outside env g ks k) (context_at env k) ≡ None)
        → identifiers_apart more g left ≡ Ok tt
    still_apart h =
        pass_each (nested_is_apart more g left) left
        (λ k i. ap (in_two k) (still_apart_at (length more.identifiers) k (part_among part k i)
        (h k (part_among part k i))))
