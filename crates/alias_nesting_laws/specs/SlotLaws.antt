-- A function that another one creates is in its slot; and lists of which one item is set.
use Rattle.std.specs.Prelude.{◌≡◌, ℕ, ◌<◌, Bool, true, false, nat_lt, List, [], ◌∷◌, length, slice_get, slice_set}
use Rattle.std.specs.Prelude.{Option, Some, None, Result, Ok, Err, ⊤, refl, if◌then◌else◌}
use Rattle.std.specs.List.{flat_map}
use Rattle.std.proofs.Common.{zero, suc, ap, sym, subst, arith}
use Rattle.std.proofs.lemmas.Bool.{ltb-true}
use Rattle.alias_base.specs.Answer.{all_pass}
use Rattle.alias_base.specs.AnswerLaws.{both_pass}
use Rattle.alias_base.specs.declared.ids.FunctionId.{FunctionId}
use Rattle.alias_hir.specs.Parts.{param_place}
use Rattle.alias_hir.specs.Values.{places_of, created}
use Rattle.alias_hir.specs.declared.env.Environment.{Environment}
use Rattle.alias_hir.specs.declared.hir.HirFunction.{HirFunction}
use Rattle.alias_hir.specs.declared.hir.Instruction.{Instruction}
use Rattle.alias_rules.specs.function_rules.Rules.{is_among, place_fits, created_fits, instruction_fits, numbers_fit}
use Rattle.alias_rules.specs.declared.function_rules.fault.UnitFault.{UnitFault}
use Rattle.alias_rules.specs.Fitting.{function_fits}
use Rattle.alias_rules.specs.Nesting.{number_of, created_in}
use Rattle.alias_rules.specs.declared.rules.Rule.TheVariants.{Numbers}
use Rattle.alias_nesting_laws.specs.FittingLaws.{Fitted, fitted}
use Rattle.alias_nesting_laws.specs.PartLaws.{among_cases, append_cases}

-- ---- lists of which one item is set

pub length_set : {X : Type 0} (xs : List X) (n : ℕ) (x : X) → length (slice_set xs n x) ≡ length xs
length_set [] n x = refl
length_set (y ∷ ys) zero x = refl
length_set (y ∷ ys) (suc n) x = let e = length_set ys n x in omega arith

-- the other items stay
pub set_other : {X : Type 0} (xs : List X) (n k : ℕ) (x : X) → (k ≡ n → ⊥) → slice_get (slice_set xs n x) k
    ≡ slice_get xs k
set_other [] n k x h = refl
set_other (y ∷ ys) zero zero x h = absurd (h refl)
set_other (y ∷ ys) zero (suc k) x h = refl
set_other (y ∷ ys) (suc n) zero x h = refl
set_other (y ∷ ys) (suc n) (suc k) x h = set_other ys n k x (λ e. h (ap suc e))

-- the item is there
pub set_there : {X : Type 0} (xs : List X) (n : ℕ) (x y : X) → slice_get xs n ≡ Some y → slice_get (slice_set xs n x) n
    ≡ Some x
set_there [] n x y h = cc
set_there (z ∷ zs) zero x y h = refl
set_there (z ∷ zs) (suc n) x y h = set_there zs n x y h

-- what is said of each item before and after
pub at_set : {X : Type 0} (P : Option X → Option X → Type 0) (f g : X) → ((o : Option X) → P o o) → P (Some f) (Some g)
    → (xs : List X) (n k : ℕ) → slice_get xs n ≡ Some f → P (slice_get xs k) (slice_get (slice_set xs n g) k)
at_set P f g same set [] n k e = cc
at_set P f g same set (x ∷ xs) zero zero e = let is : x ≡ f = cc in subst (λ z. P (Some z) (Some g)) (sym is) set
at_set P f g same set (x ∷ xs) zero (suc k) e = same (slice_get xs k)
at_set P f g same set (x ∷ xs) (suc n) zero e = same (Some x)
at_set P f g same set (x ∷ xs) (suc n) (suc k) e = at_set P f g same set xs n k e

-- ---- a function that another one creates is in its slot

pub where_asked : (b : Bool) (f : UnitFault) (ok : Result ⊤ UnitFault) → ok ≡ Ok tt → (if b then ok else Err f) ≡ Ok tt
    → b ≡ true
where_asked true f ok o e = refl
where_asked false f ok o e = cc

module _ (env : Environment) (k : ℕ) where
  number_exists : (o : Option FunctionId) → created_fits env o ≡ Ok tt → is_among (number_of o) k ≡ true → k
      < length env.functions
  number_exists None h i = cc
  number_exists (Some f) h i =
      let below : f.0 < length env.functions =
      ltb-true f.0 (length env.functions) (where_asked (nat_lt f.0 (length env.functions)) _ (Ok tt) refl h) in
      among_cases f.0 [] k (k < length env.functions) i (λ e. subst (λ z. z < length env.functions) (sym e) below)
      (λ no. cc)

  instruction_creates : (i : Instruction) → instruction_fits env i ≡ Ok tt → created_fits env (created i.value) ≡ Ok tt
  instruction_creates i h = (both_pass (created_fits env (created i.value))
      (all_pass (place_fits env) (places_of i.value)) (both_pass (place_fits env i.lvalue) _ h).1).0

  numbers_exist : (is : List Instruction) → all_pass (instruction_fits env) is ≡ Ok tt
      → is_among (flat_map (λ (i : Instruction). number_of (created i.value)) is) k ≡ true → k < length env.functions
  numbers_exist [] h i = cc
  numbers_exist (x ∷ xs) h i =
      let b : (instruction_fits env x ≡ Ok tt) × (all_pass (instruction_fits env) xs ≡ Ok tt) =
      both_pass (instruction_fits env x) (all_pass (instruction_fits env) xs) h in
      append_cases (number_of (created x.value)) (flat_map (λ (i : Instruction). number_of (created i.value)) xs) k
      (k < length env.functions) i
      (number_exists (created x.value) (instruction_creates x b.0)) (numbers_exist xs b.1)

  function_exists : (func : HirFunction) → numbers_fit env func ≡ Ok tt → is_among (created_in func) k ≡ true → k
      < length env.functions
  function_exists func h i =
      let a = both_pass (all_pass (λ p. place_fits env (param_place p)) func.params) _ h in
      let b = both_pass (all_pass (place_fits env) func.context) _ a.1 in
      let c = both_pass (place_fits env func.returns) _ b.1 in
      numbers_exist func.instructions (both_pass (all_pass (instruction_fits env) func.instructions) _ c.1).0 i

-- a function that another one creates is in its slot
pub created_exists : (env : Environment) (holder : HirFunction) (id : FunctionId) → function_fits holder env ≡ true
    → is_among (created_in holder) id.0 ≡ true → id.0 < length env.functions
created_exists env holder id h i = let f : Fitted holder env = fitted holder env h in
    function_exists env id.0 holder (f.rule Numbers refl) i

item_exists : {X : Type 0} (xs : List X) (k : ℕ) → k < length xs → (x : X) × (slice_get xs k ≡ Some x)
item_exists [] k h = absurd (omega arith)
item_exists (x ∷ xs) zero h = (x, refl)
item_exists (x ∷ xs) (suc k) h = item_exists xs k (omega arith)

-- the slot has a function
pub slot_facts : (env : Environment) (holder : HirFunction) (id : FunctionId) → function_fits holder env ≡ true
    → is_among (created_in holder) id.0 ≡ true → (f : HirFunction) × (slice_get env.functions id.0 ≡ Some f)
slot_facts env holder id h i = item_exists env.functions id.0 (created_exists env holder id h i)
