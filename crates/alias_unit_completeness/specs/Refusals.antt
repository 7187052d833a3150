-- Why the inference of a unit is refused: which function a refusal blames, and that it blames none of a plain unit.
use Rattle.std.specs.Prelude.{◌≡◌, ℕ, true, false, Option, Some, None, is_some, slice_get}
use Rattle.std.proofs.Common.{subst}
use Rattle.alias_base.specs.declared.ids.FunctionId.{FunctionId}
use Rattle.alias_hir.specs.declared.env.Unit.{Unit as HirUnit}
use Rattle.alias_hir.specs.declared.error.InferError.{InferError}
use Rattle.alias_hir.specs.declared.error.InferError.TheVariants as error
use Rattle.alias_hir.specs.declared.hir.HirFunction.{HirFunction}
use Rattle.alias_plainness.specs.Plainness.{IsPlain, IsPlainUnit, function_at}
use Rattle.alias_completeness.specs.Forward.{GoesForward}

-- ---- the function that is blamed

-- the function of this number, or the root, isn't plain
abbrev pub IsNotPlain : HirUnit → Option FunctionId → Type 0
IsNotPlain u f = (func : HirFunction) × (function_at u f ≡ Some func) × (IsPlain func u.env → ⊥)

-- not all of its edges go to later blocks
abbrev pub IsNotForward : HirUnit → Option FunctionId → Type 0
IsNotForward u f = (func : HirFunction) × (function_at u f ≡ Some func) × (GoesForward u.env func (is_some f) → ⊥)

-- Where the refusal blames a function of the unit for what it does, that function isn't plain; and where it isn't
-- settled, it isn't forward.
abbrev pub BlamesRightly : HirUnit → InferError → Type 0
BlamesRightly u (error.NotSettled f visits report) = IsNotForward u f
BlamesRightly u (error.Uninitialized f block identifier span report) = IsNotPlain u f
BlamesRightly u (error.Reinitialized f instruction identifier) = IsNotPlain u f
BlamesRightly u (error.AliasBeforeCreate f instruction identifier) = IsNotPlain u f
BlamesRightly u (error.IncompatibleLibrary f instruction report) = IsNotPlain u f
BlamesRightly u (error.SpreadArgument f instruction span report) = IsNotPlain u f
BlamesRightly u e = Unit {0}

-- The cause of a refusal of the whole inference: a function that is blamed rightly, or a counter that was at its last
-- value when another one was needed.
abbrev pub IsCaused : HirUnit → InferError → Type 0
IsCaused u (error.UnreplacedApply instruction report) = ⊥
IsCaused u (error.EffectsNotInferred identifier) = ⊥
IsCaused u (error.PassFault f pass) = ⊥
IsCaused u (error.Memory e) = ⊥
IsCaused u e = BlamesRightly u e

-- ---- plain units

-- all edges of the unit's functions go to later blocks
pub record IsForwardUnit (u : HirUnit) : Type 0 where
  pub root : GoesForward u.env u.function false
  pub nested : (k : ℕ) (f : HirFunction) → slice_get u.env.functions k ≡ Some f → GoesForward u.env f true

-- a counter was at its last value
abbrev pub IsTooMany : InferError → Type 0
IsTooMany (error.TooMany which) = Unit {0}
IsTooMany e = ⊥

-- or a block was still wanted after 100 rounds
abbrev pub IsTooManyOrUnsettled : InferError → Type 0
IsTooManyOrUnsettled (error.NotSettled f visits report) = Unit {0}
IsTooManyOrUnsettled e = IsTooMany e

-- The refusal blames no plain unit: where the unit is plain, a counter was at its last value or a function isn't
-- settled, and where it is forward as well, a counter alone is the cause.
abbrev pub BlamesNoPlain : HirUnit → InferError → Type 0
BlamesNoPlain u e = IsPlainUnit u → IsTooManyOrUnsettled e × (IsForwardUnit u → IsTooMany e)

same_some : (f g : HirFunction) → Some f ≡ Some g → f ≡ g
same_some f g h = cc

module _ (u : HirUnit) where
  forward_contradicts : (f : Option FunctionId) → IsForwardUnit u → IsNotForward u f → ⊥
  forward_contradicts None h c = c.2 (subst (λ (g : HirFunction). GoesForward u.env g false)
      (same_some u.function c.0 c.1) h.root)
  forward_contradicts (Some id) h c = c.2 (h.nested id.0 c.0 c.1)

  plain_contradicts : (f : Option FunctionId) → IsPlainUnit u → IsNotPlain u f → ⊥
  plain_contradicts None h c = c.2 (subst (λ (g : HirFunction). IsPlain g u.env) (same_some u.function c.0 c.1) h.root)
  plain_contradicts (Some id) h c = c.2 (h.nested id.0 c.0 c.1)

  -- what has such a cause blames no plain unit
  pub blames_no_plain : (e : InferError) → IsCaused u e → BlamesNoPlain u e
  blames_no_plain (error.TooMany which) c = λ plain. (tt, λ forward. tt)
  blames_no_plain (error.NotSettled f visits report) c = λ plain. (tt, λ forward. forward_contradicts f forward c)
  blames_no_plain (error.Uninitialized f block identifier span report) c = λ plain. absurd (plain_contradicts f plain c)
  blames_no_plain (error.Reinitialized f instruction identifier) c = λ plain. absurd (plain_contradicts f plain c)
  blames_no_plain (error.AliasBeforeCreate f instruction identifier) c = λ plain. absurd (plain_contradicts f plain c)
  blames_no_plain (error.IncompatibleLibrary f instruction report) c = λ plain. absurd (plain_contradicts f plain c)
  blames_no_plain (error.SpreadArgument f instruction span report) c = λ plain. absurd (plain_contradicts f plain c)
  blames_no_plain e c = absurd c
