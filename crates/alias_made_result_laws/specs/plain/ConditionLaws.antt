-- The instructions of a made unit pass the conditions of plainness, where the objects that they use are sure.
use Rattle.std.specs.Prelude.{◌≡◌, ℕ, ◌+◌, Bool, true, false, ◌&&◌, ◌||◌, not, List, [], ◌∷◌, ◌++◌, filter, None}
use Rattle.std.specs.Prelude.{if◌then◌else◌, refl}
use Rattle.std.specs.List.{list_all}
use Rattle.std.proofs.Common.{ap, ◌∙◌, arith}
use Rattle.std.proofs.lemmas.Bool.Decides.{nat_tests}
use Rattle.std.proofs.lemmas.List.{append-nil}
use Rattle.alias_rules.specs.function_rules.Rules.{is_among}
use Rattle.alias_hir.specs.declared.effect.AliasingEffect.{AliasingEffect}
use Rattle.alias_hir.specs.declared.effect.AliasingEffect.TheVariants.{CreateFrom}
use Rattle.alias_hir.specs.declared.effect.ValueKind.TheVariants as kind
use Rattle.alias_hir.specs.declared.env.Environment.{Environment}
use Rattle.alias_hir.specs.declared.hir.HirFunction.{HirFunction}
use Rattle.alias_hir.specs.declared.value.ArrayElement.TheVariants as element
use Rattle.alias_hir.specs.declared.value.InstructionValue.{InstructionValue}
use Rattle.alias_hir.specs.declared.value.InstructionValue.TheVariants.{ArrayExpression, ObjectExpression}
use Rattle.alias_hir.specs.declared.value.InstructionValue.TheVariants.{PropertyStore}
use Rattle.alias_hir.specs.declared.value.PropertyLiteral.{PropertyLiteral}
use Rattle.alias_hir.specs.Types.{is_primitive_at}
use Rattle.alias_signature.specs.Created.{created}
use Rattle.alias_plainness.specs.Conditions.{first_broken, first_failing, are_distinct, makes_well, is_compatible}
use Rattle.alias_plainness.specs.Conditions.{freezes_no_spread}
use Rattle.alias_plainness.specs.Making.{all_made, needed}
use Rattle.alias_plainness.specs.Sureness.{Sure}
use Rattle.alias_made.specs.Instructions.{use_of, instruction, value_of}
use Rattle.alias_made.specs.laws.InstructionLaws.{by_kind}

first_of : (a : Bool) → a ≡ true → first_broken a true true true true ≡ None
first_of true h = refl
first_of false h = cc

both_so : (a b : Bool) → a ≡ true → b ≡ true → (a && b) ≡ true
both_so true b h k = k
both_so false b h k = cc

-- what is kept is sure, where all but what isn't kept is
all_kept : (s : Sure) (made : List ℕ) (x : ℕ) (xs : List ℕ) → (is_among made x ≡ false → s x ≡ true)
    → list_all s (filter (λ y. not (is_among made y)) xs) ≡ true
    → list_all s (filter (λ y. not (is_among made y)) (x ∷ xs)) ≡ true
all_kept s made x xs h rest = by_test (is_among made x) h
  where
    by_test : (b : Bool) → (b ≡ false → s x ≡ true)
        → list_all s (if not b then x ∷ filter (λ y. not (is_among made y)) xs
        else filter (λ y. not (is_among made y)) xs) ≡ true
    by_test true k = rest
    by_test false k = both_so (s x) (list_all s (filter (λ y. not (is_among made y)) xs)) (k refl) rest

among_itself : (n : ℕ) → is_among (n ∷ []) n ≡ true
among_itself n = grind (arith, nat_tests)

contrary : (b : Bool) → b ≡ true → b ≡ false → (A : Type 0) → A
contrary true h k A = cc
contrary false h k A = cc

module _ (func : HirFunction) (env : Environment) (s : Sure) where
  -- the conditions of an instruction with this list, that creates no function
  abbrev Passes : List AliasingEffect → Type 0
  Passes list = first_broken (list_all s (needed list ++ [])) (are_distinct (all_made list)) (makes_well env list)
      (is_compatible env list) (freezes_no_spread env list) ≡ None

  -- a new object needs nothing
  pub object_passes : (order n : ℕ) → first_failing func env s (instruction order n (ObjectExpression [])) ≡ None
  object_passes order n = refl

  module _ (o : ℕ) (sure : s o ≡ true) where
    one_sure : list_all s (o ∷ []) ≡ true
    one_sure = both_so (s o) true sure refl

    array_passes : (order n : ℕ) → first_failing func env s
        (instruction order n (ArrayExpression (element.Place (use_of o) ∷ []))) ≡ None
    array_passes order n =
        let kept : List ℕ = filter (λ y. not (is_among (n ∷ []) y)) (o ∷ n ∷ []) in
        let need : list_all s kept ≡ true = all_kept s (n ∷ []) o (n ∷ []) (λ h. sure)
        (all_kept s (n ∷ []) n [] (λ h. contrary (is_among (n ∷ []) n) (among_itself n) h (s n ≡ true)) refl) in
        first_of (list_all s ((kept ++ []) ++ [])) (ap (list_all s) (append-nil (kept ++ []) ∙ append-nil kept) ∙ need)

    property_passes : (n : ℕ) (b : Bool) → Passes
        (if b then created (use_of n) kind.Primitive ∷ [] else CreateFrom (use_of o) (use_of n) ∷ [])
    property_passes n true = refl
    property_passes n false = first_of (list_all s (o ∷ [])) one_sure

    -- what is made of the object needs the object alone
    pub value_passes : (order n which : ℕ) → first_failing func env s (instruction order n (value_of which (use_of o)))
        ≡ None
    value_passes order n which =
        by_kind (λ (v : InstructionValue). first_failing func env s (instruction order n v) ≡ None) which (use_of o)
        (first_of (list_all s (o ∷ [])) one_sure) (array_passes order n)
        (property_passes n (is_primitive_at env (use_of n).identifier)) refl

    -- a store needs the object and the value
    pub store_passes : (order n v : ℕ) (name : PropertyLiteral) → s v ≡ true
        → first_failing func env s (instruction order n (PropertyStore (use_of o) name (use_of v))) ≡ None
    store_passes order n v name valued = first_of (list_all s (o ∷ v ∷ o ∷ []))
        (both_so (s o) (list_all s (v ∷ o ∷ [])) sure (both_so (s v) (list_all s (o ∷ [])) valued one_sure))
