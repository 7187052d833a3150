-- The order in which the functions below a function are analysed, and how far in it an analysis comes that is refused.
use Rattle.std.specs.Prelude.{◌≡◌, ◌⊎◌, ℕ, zero, suc, Bool, true, false, List, [], ◌∷◌, ◌++◌, Option, Some, None}
use Rattle.std.specs.Prelude.{Result, Ok, Err, ⊤, map, option_map, slice_get}
use Rattle.std.specs.List.{flat_map}
use Rattle.alias_base.specs.declared.ids.FunctionId.{FunctionId}
use Rattle.alias_effects.specs.declared.solved.Solved.{Solved}
use Rattle.alias_rules.specs.function_rules.Rules.{is_among}
use Rattle.alias_hir.specs.declared.env.Environment.{Environment}
use Rattle.alias_hir.specs.declared.error.InferError.{InferError}
use Rattle.alias_hir.specs.declared.error.InferError.TheVariants.{NotSettled, Uninitialized, Reinitialized}
use Rattle.alias_hir.specs.declared.error.InferError.TheVariants.{AliasBeforeCreate, IncompatibleLibrary}
use Rattle.alias_hir.specs.declared.error.InferError.TheVariants.{SpreadArgument, UnreplacedApply, EffectsNotInferred}
use Rattle.alias_hir.specs.declared.error.InferError.TheVariants.{PassFault, TooMany, Memory}
use Rattle.alias_hir.specs.declared.hir.HirFunction.{HirFunction}
use Rattle.alias_range_pass.specs.places.Keeping.{but_context}
use Rattle.alias_nested.specs.Created.{created_functions}

-- ---- the order

-- the functions that the function in a slot creates
abbrev pub created_by_slot : Option HirFunction → List FunctionId
created_by_slot None = []
created_by_slot (Some f) = created_functions f

-- the functions of a level with those on the n - 1 levels below it, innermost first: of each function those below it,
-- and then itself
unfoldable pub innermost_first : ℕ → List HirFunction → List FunctionId → List FunctionId
innermost_first zero fs level = []
innermost_first (suc n) fs level = flat_map
    (λ (id : FunctionId). innermost_first n fs (created_by_slot (slice_get fs id.0)) ++ id ∷ []) level

-- the functions on the n levels below a function
abbrev pub below_innermost_first : ℕ → HirFunction → Environment → List FunctionId
below_innermost_first n f env = innermost_first n env.functions (created_functions f)

-- the function of a number, after those on the n levels below it
abbrev pub slot_innermost_first : ℕ → FunctionId → Environment → List FunctionId
slot_innermost_first n id env = innermost_first n env.functions (created_by_slot (slice_get env.functions id.0)) ++ id
    ∷ []

-- their numbers
abbrev pub numbers : List FunctionId → List ℕ
numbers ids = map (λ (id : FunctionId). id.0) ids

-- the function that each solution is of: None is the root
abbrev pub functions_of : List Solved → List (Option FunctionId)
functions_of solved = map (λ (s : Solved). s.function) solved

-- solutions of these functions were noted behind the others, in their order
abbrev pub Notes : List FunctionId → List Solved → List Solved → Type 0
Notes ids old new = functions_of new ≡ functions_of old ++ map Some ids

-- ---- which functions change

-- the function in a slot is the same, but for the effects of its context places
abbrev pub SameInSlot : Environment → Environment → ℕ → Type 0
SameInSlot old new k = option_map but_context (slice_get new.functions k)
    ≡ option_map but_context (slice_get old.functions k)

-- so are all functions in their slots
abbrev pub SameInSlots : Environment → Environment → Type 0
SameInSlots old new = map but_context new.functions ≡ map but_context old.functions

-- so are all but these
abbrev pub ChangesOnly : List FunctionId → Environment → Environment → Type 0
ChangesOnly ids old new = (k : ℕ) → is_among (numbers ids) k ≡ false → SameInSlot old new k

-- ---- refusals

-- the function that a refusal names
abbrev pub refused_function : InferError → Option FunctionId
refused_function (NotSettled f visits report) = f
refused_function (Uninitialized f block identifier span report) = f
refused_function (Reinitialized f instruction identifier) = f
refused_function (AliasBeforeCreate f instruction identifier) = f
refused_function (IncompatibleLibrary f instruction report) = f
refused_function (SpreadArgument f instruction span report) = f
refused_function (PassFault f pass) = f
refused_function e = None

-- a refusal that has no function to name
abbrev pub is_nameless : InferError → Bool
is_nameless (UnreplacedApply instruction report) = true
is_nameless (EffectsNotInferred identifier) = true
is_nameless (TooMany which) = true
is_nameless (Memory e) = true
is_nameless e = false

-- a refusal names this function
abbrev pub Names : {A : Type 0} → FunctionId → Result A InferError → Type 0
Names id (Ok a) = ⊤
Names id (Err e) = is_nameless e ≡ false → refused_function e ≡ Some id

-- The analysis ended at a function of the order: but for effects of context places only that one and those before it
-- changed.
pub record EndsAt (order : List FunctionId) (refused : Option FunctionId) (old new : Environment) : Type 0 where
  pub id : FunctionId
  pub named : refused ≡ Some id
  pub before : List FunctionId
  pub after : List FunctionId
  pub split : order ≡ before ++ id ∷ after
  pub changes : ChangesOnly (before ++ id ∷ []) old new

-- Only functions of the order change; and a refusal names the function at which the analysis ended.
pub record KeepsToOrder {A : Type 0} (order : List FunctionId) (result : Result A InferError) (old new : Environment) :
    Type 0 where
  pub changes : ChangesOnly order old new
  pub ends : (e : InferError) → result ≡ Err e → is_nameless e ≡ false → EndsAt order (refused_function e) old new

-- The same of an analysis of a function that is out of its slot, and of those below it, which come first: a refusal of
-- one of those leaves the function that is out
-- as it was.
pub record KeepsToOrderWith (below : List FunctionId) (id : FunctionId) (result : Result ⊤ InferError)
    (f g : HirFunction) (old new : Environment) : Type 0 where
  pub changes : ChangesOnly below old new
  pub ends : (e : InferError) → result ≡ Err e → is_nameless e ≡ false
      → (EndsAt below (refused_function e) old new × (g ≡ f)) ⊎ (refused_function e ≡ Some id)
