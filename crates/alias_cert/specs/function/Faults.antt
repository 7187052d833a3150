-- Why a certificate isn't accepted, and what calls say of their answers.
use Rattle.std.specs.Prelude.{◌≡◌, Bool, true, false, Option, Result, Ok, Err, ⊤}
use Rattle.alias_base.specs.declared.ids.BlockId.{BlockId}
use Rattle.alias_base.specs.declared.ids.FunctionId.{FunctionId}
use Rattle.alias_hir.specs.declared.env.Environment.{Environment}
use Rattle.alias_hir.specs.Positions.{Blocks}
use Rattle.alias_step.specs.declared.block.faults.BlockRefusal.{BlockRefusal}
use Rattle.alias_step.specs.declared.block.faults.BlockRefusal.TheVariants as block
use Rattle.alias_effects.specs.Inference.{refusal, block_at}
use Rattle.alias_flow.specs.declared.check.fault.Unsolved.{Unsolved}
use Rattle.alias_flow.specs.declared.check.fault.Unsolved.TheVariants as unsolved
use Rattle.alias_tables.specs.declared.faults.EffectFault.{EffectFault}
use Rattle.alias_tables.specs.declared.faults.EffectFault.TheVariants as effect
use Rattle.alias_tables.specs.declared.faults.Refusal.TheVariants as refused
use Rattle.alias_cert.specs.declared.function.claims.Difference.{Difference}
use Rattle.alias_cert.specs.declared.function.claims.Difference.TheVariants as difference
use Rattle.alias_certificate.specs.declared.fault.CheckFault.{CheckFault}
use Rattle.alias_certificate.specs.declared.fault.CheckFault.TheVariants as fault
use Rattle.alias_cert.specs.function.Named.{named}

abbrev pub is_memory : CheckFault → Bool
is_memory (fault.Memory e) = true
is_memory e = false

-- what is made is what is stated, or the fault is the one stated. Out of memory is free: it can come in the place of
-- any answer
abbrev pub StatesInto : {A : Type 0} → Result A CheckFault → Result ⊤ CheckFault → A → Type 0
StatesInto stated (Ok u) t = stated ≡ Ok t
StatesInto stated (Err e) t = is_memory e ≡ false → stated ≡ Err e

-- why a temporary isn't given
abbrev pub temporary_fault : Option FunctionId → EffectFault → CheckFault
temporary_fault function (effect.Refused (refused.TooMany which)) = fault.TooMany which
temporary_fault function (effect.Refused e) = fault.Temporaries function
temporary_fault function (effect.Memory e) = fault.Memory e

-- why a step is refused: no number is left, or the refusal as one of the function
abbrev pub step_fault : Option FunctionId → Environment → BlockId → BlockRefusal → CheckFault
step_fault function env b (block.Instruction i (refused.TooMany which)) = fault.TooMany which
step_fault function env b c = fault.Step function b (named function (refusal env b c))

abbrev pub difference_fault : Option FunctionId → BlockId → Difference → CheckFault
difference_fault function b difference.MissingTemporary = fault.MissingTemporary function b
difference_fault function b difference.Effects = fault.Effects function b

-- what a check of entry states finds, as a fault of the function
abbrev pub unsolved_fault : Option FunctionId → Environment → Blocks → Unsolved BlockRefusal Difference → CheckFault
unsolved_fault function env blocks unsolved.Initial = fault.Initial function
unsolved_fault function env blocks (unsolved.Step b c) = step_fault function env (block_at blocks b) c
unsolved_fault function env blocks (unsolved.Differs b d) = difference_fault function (block_at blocks b) d
unsolved_fault function env blocks (unsolved.NotBelow b e) =
    fault.NotBelow function (block_at blocks b) (block_at blocks e)
unsolved_fault function env blocks (unsolved.NotJoin b) = fault.NotJoin function (block_at blocks b)
unsolved_fault function env blocks (unsolved.Memory e) = fault.Memory e

-- the answer, or what was found as a fault of the function
abbrev pub faulted : {A : Type 0} → Option FunctionId → Environment → Blocks
    → Result A (Unsolved BlockRefusal Difference) → Result A CheckFault
faulted function env blocks (Ok x) = Ok x
faulted function env blocks (Err e) = Err (unsolved_fault function env blocks e)
