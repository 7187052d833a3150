-- Locals that are reassigned after rendering.
use Rattle.std.specs.Prelude.{Bool, true, false, ◌||◌, ℕ, List, [], ◌++◌, Option, None, Some, Result, Ok, slice_get}
use Rattle.std.specs.Prelude.{option_map, option_to_list}
use Rattle.std.proofs.Common.{zero, suc}
use Rattle.std.specs.Option.{option_or}
use Rattle.alias_base.specs.Answer.{◌>>=◌}
use Rattle.alias_base.specs.declared.ids.BlockId.{BlockId}
use Rattle.alias_base.specs.declared.ids.FunctionId.{FunctionId}
use Rattle.alias_base.specs.declared.ids.IdentifierId.{IdentifierId}
use Rattle.alias_base.specs.declared.ids.InstructionId.{InstructionId}
use Rattle.alias_hir.specs.Terminals.{terminal_places}
use Rattle.alias_hir.specs.Values.{created}
use Rattle.alias_hir.specs.declared.env.Environment.{Environment}
use Rattle.alias_hir.specs.declared.error.InferError.{InferError}
use Rattle.alias_hir.specs.declared.hir.BasicBlock.{BasicBlock}
use Rattle.alias_hir.specs.declared.hir.HirFunction.{HirFunction}
use Rattle.alias_hir.specs.declared.hir.Instruction.{Instruction}
use Rattle.alias_hir.specs.declared.place.Place.{Place}
use Rattle.alias_hir.specs.declared.report.Report.{Report}
use Rattle.alias_validate.specs.InstructionSteps.{found, plain_step}
use Rattle.alias_validate.specs.OperandMarks.{Seen, first_mark}
use Rattle.alias_validate.specs.Reports.{reassigned_report, with_reports}
use Rattle.alias_validate.specs.Walks.{and_then, each, ended, place_of}
use Rattle.alias_validate.specs.declared.outcome.Shared.{Shared}
use Rattle.alias_validate.specs.declared.outcome.WalkOutcome.{WalkOutcome}
use Rattle.alias_validate.specs.declared.outcome.WalkOutcome.TheVariants.{Continue}
use Rattle.alias_visit.specs.Operands.{lvalue_ids}

-- the walk of a created function, which counts as async or not: its place, if it ends with one
abbrev pub Below : Type 0
Below = Bool → HirFunction → Shared → Result (Shared × Option Place) InferError

module _ (env : Environment) where
  -- a created function: the place of its walk, or else the first mark of its context
  abbrev pub created_step : Below → Bool → IdentifierId → Seen → Option HirFunction
      → Result (Seen × WalkOutcome) InferError
  created_step below async lvalue s None = Ok (s, Continue)
  created_step below async lvalue s (Some f) = below (async || f.is_async) f s.1
      >>= (λ r. Ok (found env (async || f.is_async) lvalue s.0 r.0 (option_or r.1 (first_mark s.0 f.context))))

  module _ (below : Below) (is_function_expression async : Bool) where
    abbrev pub value_step : Seen → Instruction → Option FunctionId → Result (Seen × WalkOutcome) InferError
    value_step s i None = plain_step env is_function_expression s i.lvalue.identifier (lvalue_ids i) i.value
    value_step s i (Some f) = created_step below async i.lvalue.identifier s (slice_get env.functions f.0)

    abbrev pub instruction_step : Seen → Option Instruction → Result (Seen × WalkOutcome) InferError
    instruction_step s None = Ok (s, Continue)
    instruction_step s (Some i) = value_step s i (created i.value)

    -- ---- functions

    -- the instructions, by their numbers
    abbrev pub instruction_steps : HirFunction → Seen → List InstructionId → Result (Seen × WalkOutcome) InferError
    instruction_steps func s is = each (λ t (i : InstructionId). instruction_step t (slice_get func.instructions i.0)) s
        is

    -- after the instructions a marked operand of the terminal ends the walk
    abbrev pub block_step : HirFunction → Seen → BasicBlock → Result (Seen × WalkOutcome) InferError
    block_step func s b = instruction_steps func s b.instructions
        >>= (λ r. and_then (λ t. Ok (t, ended (first_mark t.0 (terminal_places b.terminal)))) r.0 r.1)

    abbrev pub block_steps : HirFunction → Seen → List (BlockId × BasicBlock) → Result (Seen × WalkOutcome) InferError
    block_steps func s bs = each (λ t (b : BlockId × BasicBlock). block_step func t b.1) s bs

abbrev pub walk_ended : Shared → Option Place → Shared × Option Place
walk_ended sh p = (sh, p)

-- the walk of a function, and of those that it creates, within so many levels; each function has marks of its own
unfoldable pub context_reassignment : ℕ → Environment → Bool → Bool → HirFunction → Shared
    → Result (Shared × Option Place) InferError
context_reassignment zero env is_function_expression async func sh = Ok (sh, None)
context_reassignment (suc n) env is_function_expression async func sh =
    block_steps env (context_reassignment n env true) is_function_expression async func ([], sh) func.body.blocks
    >>= (λ r. Ok (r.0.1, place_of r.1))

-- the async reports, then that of the function's own place
abbrev pub reassignment_reports : Environment → Shared → Option Place → List Report
reassignment_reports env sh p = sh.reports ++ option_to_list (option_map (reassigned_report env) p)

-- the reports of the walk within so many levels; whether the outermost function is async isn't read
abbrev pub reassigned_within : ℕ → Environment → HirFunction → Result (List Report) InferError
reassigned_within n env func = context_reassignment n env false false func
    (record { context_variables = []; reports = [] }) >>= (λ r. Ok (reassignment_reports env r.0 r.1))

-- the reports of the first validation; functions are nested in at most 64 levels
abbrev pub reassigned_reports : Environment → HirFunction → Result (List Report) InferError
reassigned_reports env func = reassigned_within 64 env func

-- the tables with these reports appended
abbrev pub with_reassigned : Environment → Result (List Report) InferError → Result Environment InferError
with_reassigned env r = r >>= (λ rs. Ok (with_reports env rs))
