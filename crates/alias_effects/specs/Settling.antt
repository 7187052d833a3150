-- A forward function settles.
use Rattle.std.specs.Prelude.{◌≡◌, Bool, true, false, Result, IfErr}
use Rattle.alias_step.specs.block.Contexts.{context_of}
use Rattle.alias_effects.specs.Numbered.{numbered}
use Rattle.alias_flow.specs.Solutions.{IsForward}
use Rattle.alias_hir.specs.declared.env.Environment.{Environment}
use Rattle.alias_hir.specs.declared.error.InferError.{InferError}
use Rattle.alias_hir.specs.declared.error.InferError.TheVariants.{NotSettled}
use Rattle.alias_hir.specs.declared.hir.HirFunction.{HirFunction}

-- the edges of the function go to later blocks
abbrev pub GoesForward : Environment → HirFunction → Bool → Type 0
GoesForward env func is_function_expression = IsForward (numbered (context_of env func is_function_expression))

abbrev pub is_unsettled : InferError → Bool
is_unsettled (NotSettled function visits report) = true
is_unsettled e = false

-- the answer isn't NotSettled
abbrev pub IsSettled : {A : Type 0} → Result A InferError → Type 0
IsSettled r = IfErr r (λ e. is_unsettled e ≡ false)
