-- Which refusals a check passes on: those of the steps of blocks, and no others.
use Rattle.std.specs.Prelude.{◌≡◌, ℕ, Bool, List, Option, Result, Ok, Err, IfErr, ⊤}
use Rattle.alias_base.specs.declared.ids.BlockId.{BlockId}
use Rattle.alias_base.specs.declared.ids.FunctionId.{FunctionId}
use Rattle.alias_hir.specs.declared.env.Environment.{Environment}
use Rattle.alias_hir.specs.declared.env.Unit.{Unit as HirUnit}
use Rattle.alias_hir.specs.declared.error.InferError.{InferError}
use Rattle.alias_hir.specs.declared.hir.HirFunction.{HirFunction}
use Rattle.alias_lattice.specs.Flows.{Refused}
use Rattle.alias_lattice.specs.States.{State}
use Rattle.alias_tables.specs.Tables.{TableLists}
use Rattle.alias_step.specs.block.Contexts.{context_of}
use Rattle.alias_step.specs.declared.block.faults.BlockRefusal.{BlockRefusal}
use Rattle.alias_effects.specs.Inference.{refusal, block_at}
use Rattle.alias_effects.specs.Numbered.{numbered}
use Rattle.alias_rules.specs.Functions.{rules_hold}
use Rattle.alias_certificate.specs.declared.certificate.CertFunction.{CertFunction}
use Rattle.alias_certificate.specs.declared.fault.CheckFault.{CheckFault}
use Rattle.alias_certificate.specs.declared.fault.CheckFault.TheVariants as fault
use Rattle.alias_cert.specs.declared.check.Accepted.{Accepted}
use Rattle.alias_cert.specs.function.Named.{named}
use Rattle.alias_cert.specs.Units.{Accepts}

-- a block steps from some state and tables, and the step is refused for this, as one of the function
pub record IsRefusedStep (function : Option FunctionId) (b : BlockId) (cause : InferError) : Type 0 where
  pub env : Environment
  pub func : HirFunction
  pub is_function_expression : Bool
  pub position : ℕ
  pub tables : TableLists
  pub state : State
  pub refused : BlockRefusal
  pub step : (numbered (context_of env func is_function_expression)).flow.step tables position state ≡ Refused refused
  pub block : b ≡ block_at func.body.blocks position
  pub cause_is : cause ≡ named function (refusal env b refused)

-- the fault of a step is that of a step; of other faults no more is said
abbrev pub BlamesAStep : CheckFault → Type 0
BlamesAStep (fault.Step function b cause) = IsRefusedStep function b cause
BlamesAStep e = ⊤

-- so it is of each answer of a check, where the unit is well formed
abbrev pub ChecksBlameSteps : Type 0
ChecksBlameSteps = (certificate : List CertFunction) (u : HirUnit) (answer : Result Accepted CheckFault)
    → rules_hold u ≡ Ok tt → Accepts certificate u answer → IfErr answer BlamesAStep
