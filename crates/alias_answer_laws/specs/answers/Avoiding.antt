-- Answers that don't refuse for one reason, and what they answer.
use Rattle.std.specs.Prelude.{◌≡◌, Bool, true, false, Result, Ok, Err, ⊤, if◌then◌else◌, refl}
use Rattle.std.proofs.Common.{sym, subst}
use Rattle.alias_base.specs.Answer.{◌>>=◌}
use Rattle.alias_base.specs.declared.ids.BlockId.{BlockId}
use Rattle.alias_base.specs.declared.ids.FunctionId.{FunctionId}
use Rattle.alias_base.specs.declared.ids.InstructionId.{InstructionId}
use Rattle.alias_hir.specs.declared.env.Environment.{Environment}
use Rattle.alias_hir.specs.declared.error.Counter.TheVariants.{GraphPositions}
use Rattle.alias_hir.specs.declared.error.HirError.{HirError}
use Rattle.alias_hir.specs.declared.error.HirError.TheVariants as hir
use Rattle.alias_hir.specs.declared.error.InferError.{InferError}
use Rattle.alias_hir.specs.declared.error.InferError.TheVariants as error
use Rattle.alias_hir.specs.declared.error.InferError.TheVariants.{EffectsNotInferred, UnreplacedApply, TooMany}
use Rattle.alias_tables.specs.declared.faults.Refusal.{Refusal}
use Rattle.alias_tables.specs.declared.faults.Refusal.TheVariants as refused
use Rattle.alias_step.specs.declared.block.faults.BlockRefusal.{BlockRefusal}
use Rattle.alias_step.specs.declared.block.faults.BlockRefusal.TheVariants as block
use Rattle.alias_effects.specs.Inference.{instruction_refusal, refusal}
use Rattle.alias_graph.specs.declared.recorded.listing.Listing.{Listing}
use Rattle.alias_range_pass.specs.Refusals.{listing_or}
use Rattle.alias_validate.specs.Walks.{and_then}
use Rattle.alias_validate.specs.declared.outcome.WalkOutcome.{WalkOutcome}
use Rattle.alias_validate.specs.declared.outcome.WalkOutcome.TheVariants.{Continue, End}
use Rattle.alias_nested.specs.Analysis.{named, naming}

-- ---- two reasons

-- an Apply is said to be left
abbrev pub is_unreplaced : InferError → Bool
is_unreplaced (UnreplacedApply i report) = true
is_unreplaced e = false

-- an operand is said to have no effect
abbrev pub is_not_inferred : InferError → Bool
is_not_inferred (EffectsNotInferred x) = true
is_not_inferred e = false

-- of the answer no more is said
abbrev pub Answered : {A : Type 0} → A → Type 0
Answered x = ⊤

-- ---- answers that avoid a reason

module _ (is : InferError → Bool) where
  -- what is answered has the property, and what is refused isn't for this reason
  abbrev pub Avoids : {A : Type 0} → (A → Type 0) → Result A InferError → Type 0
  Avoids P (Ok x) = P x
  Avoids P (Err e) = is e ≡ false

  pub avoids_then : {A B : Type 0} (P : A → Type 0) (Q : B → Type 0) (r : Result A InferError)
      (g : A → Result B InferError) → Avoids P r → ((x : A) → P x → Avoids Q (g x)) → Avoids Q (r >>= g)
  avoids_then P Q (Ok x) g h k = k x h
  avoids_then P Q (Err e) g h k = h

  pub avoids_on : {A : Type 0} (P Q : A → Type 0) (r : Result A InferError) → ((x : A) → P x → Q x) → Avoids P r
      → Avoids Q r
  avoids_on P Q (Ok x) f h = f x h
  avoids_on P Q (Err e) f h = h

  pub avoids_and_then : {S : Type 0} (f : S → Result (S × WalkOutcome) InferError) (s : S) (o : WalkOutcome)
      → Avoids (Answered {A = S × WalkOutcome}) (f s)
      → Avoids (Answered {A = S × WalkOutcome}) (and_then f s o)
  avoids_and_then f s Continue h = h
  avoids_and_then f s (End p) h = tt

  -- a reason that stays when the function is named
  pub avoids_naming : {A : Type 0} (P : A → Type 0) (id : FunctionId) (r : Result A InferError)
      → ((e : InferError) → is (named id e) ≡ is e) → Avoids P r → Avoids P (naming id r)
  avoids_naming P id (Ok x) same h = h
  avoids_naming P id (Err e) same h = subst (λ (b : Bool). b ≡ false) (sym (same e)) h

-- neither reason
abbrev pub AvoidsBoth : {A : Type 0} → Result A InferError → Type 0
AvoidsBoth {A} r = Avoids is_unreplaced (Answered {A = A}) r × Avoids is_not_inferred (Answered {A = A}) r

-- ---- refusals for neither reason

-- a refusal that names its function is for the same reason
pub named_alike : (id : FunctionId) (e : InferError) → (is_unreplaced (named id e) ≡ is_unreplaced e)
    × (is_not_inferred (named id e) ≡ is_not_inferred e)
named_alike id (error.NotSettled f visits report) = (refl, refl)
named_alike id (error.Uninitialized f block identifier span report) = (refl, refl)
named_alike id (error.Reinitialized f instruction identifier) = (refl, refl)
named_alike id (error.AliasBeforeCreate f instruction identifier) = (refl, refl)
named_alike id (error.IncompatibleLibrary f instruction report) = (refl, refl)
named_alike id (error.SpreadArgument f instruction span report) = (refl, refl)
named_alike id e = (refl, refl)

instruction_refused : (i : InstructionId) (c : Refusal) → (is_unreplaced (instruction_refusal i c) ≡ false)
    × (is_not_inferred (instruction_refusal i c) ≡ false)
instruction_refused i (refused.Reinitialized x) = (refl, refl)
instruction_refused i (refused.AliasBeforeCreate x) = (refl, refl)
instruction_refused i (refused.IncompatibleLibrary report) = (refl, refl)
instruction_refused i (refused.SpreadArgument span report) = (refl, refl)
instruction_refused i (refused.TooMany which) = (refl, refl)

pub block_refused : (env : Environment) (b : BlockId) (c : BlockRefusal) → (is_unreplaced (refusal env b c) ≡ false)
    × (is_not_inferred (refusal env b c) ≡ false)
block_refused env b (block.Instruction i c) = instruction_refused i c
block_refused env b (block.Uninitialized m) = (refl, refl)

pub listing_avoids : (r : Result Listing HirError) → AvoidsBoth (listing_or r)
listing_avoids (Ok l) = (tt, tt)
listing_avoids (Err (hir.TooMany which)) = (refl, refl)
listing_avoids (Err (hir.Memory e)) = (refl, refl)

pub room_avoids : (b : Bool) → (let r : Result ⊤ InferError = if b then Ok tt else Err (TooMany GraphPositions) in
    AvoidsBoth r)
room_avoids true = (tt, tt)
room_avoids false = (refl, refl)
