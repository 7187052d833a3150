-- Why what is given of a function isn't followed.
use Rattle.std.specs.Prelude.{Option, Result, Ok, Err}
use Rattle.alias_base.specs.declared.ids.BlockId.{BlockId}
use Rattle.alias_base.specs.declared.ids.FunctionId.{FunctionId}
use Rattle.alias_hir.specs.declared.env.Environment.{Environment}
use Rattle.alias_hir.specs.Positions.{Blocks}
use Rattle.alias_step.specs.declared.block.faults.BlockRefusal.{BlockRefusal}
use Rattle.alias_effects.specs.Inference.{block_at}
use Rattle.alias_flow.specs.declared.check.fault.Unsolved.{Unsolved}
use Rattle.alias_flow.specs.declared.check.fault.Unsolved.TheVariants as unsolved
use Rattle.alias_certificate.specs.declared.fault.CheckFault.{CheckFault}
use Rattle.alias_certificate.specs.declared.fault.CheckFault.TheVariants as fault
use Rattle.alias_cert.specs.function.Faults.{step_fault}
use Rattle.alias_follow.specs.declared.lines.entering.Unfollowed.{Unfollowed}
use Rattle.alias_follow.specs.declared.lines.entering.Unfollowed.TheVariants as unfollowed

abbrev pub lack_fault : Option FunctionId → BlockId → Unfollowed → CheckFault
lack_fault function b unfollowed.State = fault.State function b
lack_fault function b unfollowed.MissingTemporary = fault.MissingTemporary function b

-- what a pass finds, as a fault of the function; it begins with the initial state and has joins alone, so that neither
-- is ever wrong
abbrev pub pass_fault : Option FunctionId → Environment → Blocks → Unsolved BlockRefusal Unfollowed → CheckFault
pass_fault function env blocks unsolved.Initial = fault.Initial function
pass_fault function env blocks (unsolved.Step b c) = step_fault function env (block_at blocks b) c
pass_fault function env blocks (unsolved.Differs b d) = lack_fault function (block_at blocks b) d
pass_fault function env blocks (unsolved.NotBelow b e) =
    fault.NotBelow function (block_at blocks b) (block_at blocks e)
pass_fault function env blocks (unsolved.NotJoin b) = fault.NotJoin function (block_at blocks b)
pass_fault function env blocks (unsolved.Memory e) = fault.Memory e

-- the answer, or what was found as a fault of the function
abbrev pub faulted : {A : Type 0} → Option FunctionId → Environment → Blocks
    → Result A (Unsolved BlockRefusal Unfollowed) → Result A CheckFault
faulted function env blocks (Ok x) = Ok x
faulted function env blocks (Err e) = Err (pass_fault function env blocks e)
