-- Identifiers that are apart below a function are apart below one that it creates, once that is out of its slot.
use Rattle.std.specs.Prelude.{◌≡◌, ℕ, zero, suc, Bool, true, false, cond, not, ◌&&◌, ◌||◌, nat_eq, find, List, [], ◌∷◌}
use Rattle.std.specs.Prelude.{◌++◌, length, map, slice_get, Option, Some, None, Ok, refl, if◌then◌else◌}
use Rattle.std.specs.List.{flat_map, list_any, range_with_len}
use Rattle.std.specs.Option.{option_map_or}
use Rattle.std.proofs.Common.{ap, sym, ◌∙◌, subst}
use Rattle.std.proofs.lemmas.List.Folds.{list_any-append}
use Rattle.alias_base.specs.declared.ids.BlockId.{BlockId}
use Rattle.alias_base.specs.declared.ids.FunctionId.{FunctionId}
use Rattle.alias_hir.specs.Parts.{param_place}
use Rattle.alias_hir.specs.Values.{places_of, created}
use Rattle.alias_hir.specs.declared.env.Environment.{Environment}
use Rattle.alias_hir.specs.declared.hir.BasicBlock.{BasicBlock}
use Rattle.alias_hir.specs.declared.hir.HirFunction.{HirFunction}
use Rattle.alias_hir.specs.declared.hir.Instruction.{Instruction}
use Rattle.alias_hir.specs.declared.place.Place.{Place}
use Rattle.alias_visit.specs.Places.{created_places, instruction_places, block_places, identifiers_in}
use Rattle.alias_rules.specs.function_rules.Rules.{is_among}
use Rattle.alias_rules.specs.ApartLaws.{is_among_each, any_other}
use Rattle.alias_rules.specs.Nesting.{number_of, created_in, created_of, created_at, next_level, fresh, reached_from}
use Rattle.alias_rules.specs.Sharing.{identifiers_of, identifiers_at, context_of, context_at, family, inside, others}
use Rattle.alias_rules.specs.Sharing.{outside, is_shared, first_shared, first_in_two, in_two, nested_is_apart}
use Rattle.alias_rules.specs.Sharing.{identifiers_apart}
use Rattle.alias_nesting_laws.specs.ClosureLaws.{Among, among_front, among_rest, among_neither}
use Rattle.alias_nesting_laws.specs.FittingLaws.{first_among, later_among, pass_among, pass_each}
use Rattle.alias_nesting_laws.specs.PartLaws.{among_cases, append_cases, absent, not_both}
use Rattle.alias_nesting_laws.specs.SlotLaws.{length_set}
use Rattle.alias_nesting_laws.specs.StandInLaws.{standing, slot_other, creates_same}
use Rattle.alias_nesting_laws.specs.SubtreeLaws.{apart_from}

-- ---- tests and lists

parts_false : (a b : Bool) → (a || b) ≡ false → (a ≡ false) × (b ≡ false)
parts_false true b e = cc
parts_false false b e = (refl, e)

unless_left_out : (s t : Bool) → s ≡ false → (not s && t) ≡ false → t ≡ false
unless_left_out true t e f = cc
unless_left_out false t e f = f

next_false : (s t r : Bool) → (s ≡ false → t ≡ false) → r ≡ false → ((not s && t) || r) ≡ false
next_false true t r h e = e
next_false false t r h e = ap (λ (b : Bool). b || r) (h refl) ∙ e

and_false : (a : Bool) → (a && false) ≡ false
and_false true = refl
and_false false = refl

fewer_shared : (a b b2 c : Bool) → (b ≡ false → b2 ≡ false) → (a && b && not c) ≡ false → (a && b2 && not c) ≡ false
fewer_shared false b b2 c h e = refl
fewer_shared true false b2 c h e = ap (λ (z : Bool). z && not c) (h refl)
fewer_shared true true b2 true h e = and_false b2
fewer_shared true true b2 false h e = cc

pub next_none : (b b2 : Bool) (x : ℕ) (r r2 : Option ℕ) → (b ≡ false → b2 ≡ false) → (r ≡ None → r2 ≡ None)
    → cond b (Some x) r ≡ None → cond b2 (Some x) r2 ≡ None
next_none true b2 x r r2 h g e = cc
next_none false b2 x r r2 h g e = ap (λ (z : Bool). cond z (Some x) r2) (h refl) ∙ g e

pub none_found : (p q : ℕ → Bool) (xs : List ℕ) → ((x : ℕ) → p x ≡ false → q x ≡ false) → find p xs ≡ None → find q xs
    ≡ None
none_found p q [] h e = refl
none_found p q (x ∷ xs) h e = next_none (p x) (q x) x (find p xs) (find q xs) (h x) (none_found p q xs h) e

no_fault : (k : ℕ) (o : Option ℕ) → in_two k o ≡ Ok tt → o ≡ None
no_fault k None e = refl
no_fault k (Some x) e = cc

-- where it holds of none of the others, it doesn't hold of one of them
none_at : (q : ℕ → Bool) (those ks : List ℕ) (k : ℕ) → list_any q (others those ks) ≡ false → is_among ks k ≡ true
    → is_among those k ≡ false → q k ≡ false
none_at q those [] k h e s = cc
none_at q those (y ∷ ys) k h e s =
    let p : ((not (is_among those y) && q y) ≡ false) × (list_any q (others those ys) ≡ false) =
    parts_false _ (list_any q (others those ys)) (sym (any_other q those ys y) ∙ h) in
    among_cases y ys k (q k ≡ false) e
    (λ same. unless_left_out (is_among those k) (q k) s
    (subst (λ z. (not (is_among those z) && q z) ≡ false) (sym same) p.0))
    (λ later. none_at q those ys k p.1 later s)

none_of : (q : ℕ → Bool) (those ks : List ℕ) → ((k : ℕ) → is_among ks k ≡ true → is_among those k ≡ false → q k ≡ false)
    → list_any q (others those ks) ≡ false
none_of q those [] h = refl
none_of q those (k ∷ ks) h = any_other q those ks k
    ∙ next_false (is_among those k) (q k) _ (h k (first_among k ks))
    (none_of q those ks (λ j i. h j (later_among k ks j i)))

-- what is the same of each of the numbers is the same of all
same_each : (f g : ℕ → List ℕ) (xs : List ℕ) → ((x : ℕ) → is_among xs x ≡ true → f x ≡ g x) → flat_map f xs
    ≡ flat_map g xs
same_each f g [] h = refl
same_each f g (x ∷ xs) h = ap (λ l. l ++ flat_map f xs) (h x (first_among x xs))
    ∙ ap (λ l. g x ++ l) (same_each f g xs (λ j i. h j (later_among x xs j i)))

-- ---- what is fresh

pub fresh_among : (found level : List ℕ) → Among level (fresh found level)
fresh_among found [] k h = h
fresh_among found (x ∷ xs) k h =
    elim (is_among found x) as (λ b. is_among (if b then fresh found xs else x ∷ fresh (found ++ x ∷ []) xs) k ≡ true
    → is_among (x ∷ xs) k ≡ true) [
      | true ↦ λ i. later_among x xs k (fresh_among found xs k i)
      | false ↦ λ i. among_cases x (fresh (found ++ x ∷ []) xs) k (is_among (x ∷ xs) k ≡ true) i
          (λ e. subst (λ z. is_among (x ∷ xs) z ≡ true) (sym e) (first_among x xs))
          (λ l. later_among x xs k (fresh_among (found ++ x ∷ []) xs k l))
    ] h

-- ---- numbers that are closed under creation, and the function that stands in is none of them

module _ (env : Environment) (id : FunctionId) (stand_in : HirFunction) (ks : List ℕ)
    (closed : (k : ℕ) → is_among ks k ≡ true → Among ks (created_at env k)) (out : is_among ks id.0 ≡ false) where
  other : (k : ℕ) → is_among ks k ≡ true → k ≡ id.0 → ⊥
  other k h = apart_from ks k id.0 h out

  next_among : (level : List ℕ) → Among ks level → Among ks (next_level env level)
  next_among [] a k h = cc
  next_among (x ∷ xs) a k h =
      append_cases (created_at env x) (next_level env xs) k (is_among ks k ≡ true) h
      (λ i. closed x (a x (first_among x xs)) k i) (λ i. next_among xs (λ j l. a j (later_among x xs j l)) k i)

  reached_among : (n : ℕ) (found level : List ℕ) → Among ks found → Among ks level
      → Among ks (reached_from n env found level)
  unfolding reached_from
  reached_among zero found level a b = a
  reached_among (suc n) found level a b =
      let c : Among ks (fresh found level) = λ k h. b k (fresh_among found level k h) in
      reached_among n (found ++ fresh found level) (next_level env (fresh found level))
      (λ k h. append_cases found (fresh found level) k (is_among ks k ≡ true) h (a k) (c k))
      (next_among (fresh found level) c)

  next_same : (level : List ℕ) → Among ks level → next_level (standing env id stand_in) level ≡ next_level env level
  next_same level a = same_each (created_at (standing env id stand_in)) (created_at env) level
      (λ k h. creates_same env id stand_in k (other k (a k h)))

  reached_same : (n : ℕ) (found level : List ℕ) → Among ks level → reached_from n (standing env id stand_in) found level
      ≡ reached_from n env found level
  unfolding reached_from
  reached_same zero found level b = refl
  reached_same (suc n) found level b =
      let c : Among ks (fresh found level) = λ k h. b k (fresh_among found level k h) in
      ap (reached_from n (standing env id stand_in) (found ++ fresh found level)) (next_same (fresh found level) c)
      ∙ reached_same n (found ++ fresh found level) (next_level env (fresh found level))
      (next_among (fresh found level) c)

  alone : (k : ℕ) → is_among ks k ≡ true → Among ks (k ∷ [])
  alone k h j i = among_cases k [] j (is_among ks j ≡ true) i (λ e. subst (λ z. is_among ks z ≡ true) (sym e) h)
      (λ no. cc)

  family_among : (k : ℕ) → is_among ks k ≡ true → Among ks (family env k)
  family_among k h = reached_among (length env.functions) [] (k ∷ []) (λ j i. cc) (alone k h)

  family_same : (k : ℕ) → is_among ks k ≡ true → family (standing env id stand_in) k ≡ family env k
  family_same k h =
      ap (λ n. reached_from n (standing env id stand_in) [] (k ∷ [])) (length_set env.functions id.0 stand_in)
      ∙ reached_same (length env.functions) [] (k ∷ []) (alone k h)

  -- ---- the identifiers of a function that creates some of them alone

  created_same : (o : Option FunctionId) → Among ks (number_of o) → created_places (standing env id stand_in) o
      ≡ created_places env o
  created_same None a = refl
  created_same (Some f) a = ap (λ (o : Option HirFunction). option_map_or (λ (g : HirFunction). g.context) o [])
      (slot_other env id stand_in f.0 (other f.0 (a f.0 (first_among f.0 []))))

  instructions_same : (xs : List Instruction)
      → Among ks (flat_map (λ (i : Instruction). number_of (created i.value)) xs)
      → flat_map (instruction_places (standing env id stand_in)) xs ≡ flat_map (instruction_places env) xs
  instructions_same [] a = refl
  instructions_same (x ∷ xs) a =
      let rest = flat_map (λ (i : Instruction). number_of (created i.value)) xs in
      ap (λ (l : List Place). (x.lvalue ∷ l ++ places_of x.value)
      ++ flat_map (instruction_places (standing env id stand_in)) xs)
      (created_same (created x.value) (λ k h. a k (among_front (number_of (created x.value)) rest k h)))
      ∙ ap (λ l. instruction_places env x ++ l)
      (instructions_same xs (λ k h. a k (among_rest (number_of (created x.value)) rest k h)))

  identifiers_same : (g : HirFunction) → Among ks (created_in g) → identifiers_in (standing env id stand_in) g
      ≡ identifiers_in env g
  identifiers_same g a =
      ap (λ (l : List Place). map (λ (p : Place). p.identifier.0)
      (map param_place g.params ++ g.context ++ g.returns ∷ l
      ++ flat_map (λ (e : BlockId × BasicBlock). block_places e.1) g.body.blocks))
      (instructions_same g.instructions a)

  of_same : (o : Option HirFunction) → Among ks (created_of o) → identifiers_of (standing env id stand_in) o
      ≡ identifiers_of env o
  of_same None a = refl
  of_same (Some g) a = identifiers_same g a

  at_same : (k : ℕ) → is_among ks k ≡ true → identifiers_at (standing env id stand_in) k ≡ identifiers_at env k
  at_same k h = ap (identifiers_of (standing env id stand_in)) (slot_other env id stand_in k (other k h))
      ∙ of_same (slice_get env.functions k) (closed k h)

  inside_same : (k : ℕ) → is_among ks k ≡ true → inside (standing env id stand_in) k ≡ inside env k
  inside_same k h =
      ap (flat_map (identifiers_at (standing env id stand_in))) (family_same k h)
      ∙ same_each (identifiers_at (standing env id stand_in)) (identifiers_at env) (family env k)
      (λ j i. at_same j (family_among k h j i))

  contexts_same : (k : ℕ) → is_among ks k ≡ true → context_at (standing env id stand_in) k ≡ context_at env k
  contexts_same k h = ap context_of (slot_other env id stand_in k (other k h))

  -- ---- what is outside

  module _ (holder f : HirFunction) (all : List ℕ) (there : slice_get env.functions id.0 ≡ Some f)
      (creates : Among ks (created_in f)) (part : Among all ks) (within : is_among all id.0 ≡ true) where
    own_outside : (k x : ℕ) → is_among ks k ≡ true
        → list_any (λ j. is_among (identifiers_at env j) x) (others (family env k) all) ≡ false
        → is_among (identifiers_in (standing env id stand_in) f) x ≡ false
    own_outside k x h e =
        ap (λ zs. is_among zs x) (identifiers_same f creates ∙ ap (identifiers_of env) (sym there))
        ∙ none_at (λ j. is_among (identifiers_at env j) x) (family env k) all id.0 e within
        (absent (is_among (family env k) id.0) (λ i. not_both (is_among ks id.0) (family_among k h id.0 i) out))

    others_outside : (k x : ℕ) → is_among ks k ≡ true
        → list_any (λ j. is_among (identifiers_at env j) x) (others (family env k) all) ≡ false
        → list_any (λ j. is_among (identifiers_at (standing env id stand_in) j) x)
        (others (family (standing env id stand_in) k) ks) ≡ false
    others_outside k x h e =
        ap (λ those. list_any (λ j. is_among (identifiers_at (standing env id stand_in) j) x) (others those ks))
        (family_same k h)
        ∙ none_of (λ j. is_among (identifiers_at (standing env id stand_in) j) x) (family env k) ks
        (λ j i o. ap (λ zs. is_among zs x) (at_same j i)
        ∙ none_at (λ j. is_among (identifiers_at env j) x) (family env k) all j e (part j i) o)

    outside_fewer : (k x : ℕ) → is_among ks k ≡ true → is_among (outside env holder all k) x ≡ false
        → is_among (outside (standing env id stand_in) f ks k) x ≡ false
    outside_fewer k x h e =
        let p = parts_false (is_among (identifiers_in env holder) x)
        (is_among (flat_map (identifiers_at env) (others (family env k) all)) x)
        (sym (list_any-append (nat_eq x) (identifiers_in env holder)
        (flat_map (identifiers_at env) (others (family env k) all))) ∙ e) in
        let r : list_any (λ j. is_among (identifiers_at env j) x) (others (family env k) all) ≡ false =
        sym (is_among_each (identifiers_at env) (others (family env k) all) x) ∙ p.1 in
        among_neither (identifiers_in (standing env id stand_in) f)
        (flat_map (identifiers_at (standing env id stand_in)) (others (family (standing env id stand_in) k) ks)) x
        (own_outside k x h r)
        (is_among_each (identifiers_at (standing env id stand_in)) (others (family (standing env id stand_in) k) ks) x
        ∙ others_outside k x h r)

    apart_at : (k : ℕ) → is_among ks k ≡ true → nested_is_apart env holder all k ≡ Ok tt
        → nested_is_apart (standing env id stand_in) f ks k ≡ Ok tt
    apart_at k h e =
        ap (λ ins. in_two k (first_shared (length env.identifiers) ins (outside (standing env id stand_in) f ks k)
        (context_at (standing env id stand_in) k))) (inside_same k h)
        ∙ ap (λ context. in_two k (first_shared (length env.identifiers) (inside env k)
        (outside (standing env id stand_in) f ks k) context)) (contexts_same k h)
        ∙ ap (in_two k) (none_found (is_shared (inside env k) (outside env holder all k) (context_at env k))
        (is_shared (inside env k) (outside (standing env id stand_in) f ks k) (context_at env k))
        (range_with_len 0 (length env.identifiers))
        (λ x. fewer_shared (is_among (inside env k) x) (is_among (outside env holder all k) x)
        (is_among (outside (standing env id stand_in) f ks k) x) (is_among (context_at env k) x)
        (outside_fewer k x h))
        (no_fault k (first_in_two env holder all k) e))

    -- identifiers that are apart among all are apart among those below the function
    pub still_apart : identifiers_apart env holder all ≡ Ok tt → identifiers_apart (standing env id stand_in) f ks
        ≡ Ok tt
    still_apart h = pass_each (nested_is_apart (standing env id stand_in) f ks) ks
        (λ k i. apart_at k i (pass_among (nested_is_apart env holder all) all k h (part k i)))
