-- What the effects pass answers for a function.
use Rattle.std.specs.Prelude.{ℕ, Bool, List, [], ◌∷◌, map, slice_get, Option, Some, None, Result, Ok, Err}
use Rattle.std.specs.List.{flat_map}
use Rattle.std.specs.Option.{option_map_or}
use Rattle.alias_base.specs.Answer.{◌>>=◌}
use Rattle.alias_base.specs.declared.ids.BlockId.{BlockId}
use Rattle.alias_base.specs.declared.ids.InstructionId.{InstructionId}
use Rattle.alias_hir.specs.declared.env.Environment.{Environment}
use Rattle.alias_hir.specs.declared.hir.BasicBlock.{BasicBlock}
use Rattle.alias_hir.specs.declared.hir.HirFunction.{HirFunction}
use Rattle.alias_hir.specs.declared.error.InferError.{InferError}
use Rattle.alias_hir.specs.declared.error.InferError.TheVariants as error
use Rattle.alias_hir.specs.Reports.{uninitialized_report, not_settled_report}
use Rattle.alias_hir.specs.Positions.{Blocks}
use Rattle.alias_lattice.specs.States.{State}
use Rattle.alias_flow.specs.Machine.{SolverState, VisitLog, End}
use Rattle.alias_flow.specs.Machine as end
use Rattle.alias_step.specs.declared.block.faults.BlockRefusal.{BlockRefusal}
use Rattle.alias_step.specs.declared.block.faults.BlockRefusal.TheVariants as block
use Rattle.alias_step.specs.declared.block.recorded.BlockEffects.{BlockEffects}
use Rattle.alias_tables.specs.Tables.{TableLists}
use Rattle.alias_effects.specs.declared.solved.BlockEntry.{BlockEntry}
use Rattle.alias_step.specs.declared.block.recorded.InstructionEffects.{InstructionEffects}
use Rattle.alias_effects.specs.declared.solved.Solved.{Solved}
use Rattle.alias_step.specs.declared.block.recorded.TerminalEffects.{TerminalEffects}
use Rattle.alias_step.specs.block.Contexts.{context_of}
use Rattle.alias_tables.specs.declared.faults.Refusal.{Refusal}
use Rattle.alias_tables.specs.declared.faults.Refusal.TheVariants as refused
use Rattle.alias_tables.specs.write_back.WriteBack.{with_tables}
use Rattle.alias_effects.specs.declared.output.PassEnd.{PassEnd}
use Rattle.alias_effects.specs.Numbered.{visits_end}
use Rattle.alias_effects.specs.Recording.{with_effects_of}

-- the refusal of an instruction's step, of the root function
abbrev pub instruction_refusal : InstructionId → Refusal → InferError
instruction_refusal i (refused.Reinitialized x) = error.Reinitialized None i x
instruction_refusal i (refused.AliasBeforeCreate x) = error.AliasBeforeCreate None i x
instruction_refusal i (refused.IncompatibleLibrary report) = error.IncompatibleLibrary None i report
instruction_refusal i (refused.SpreadArgument span report) = error.SpreadArgument None i span report
instruction_refusal i (refused.TooMany which) = error.TooMany which

-- the refusal of a block's step, of the root function
abbrev pub refusal : Environment → BlockId → BlockRefusal → InferError
refusal env b (block.Instruction i c) = instruction_refusal i c
refusal env b (block.Uninitialized m) = error.Uninitialized None b m.identifier m.span
    (uninitialized_report env m.identifier m.span)

-- the name of the block at a position
abbrev pub block_at : Blocks → ℕ → BlockId
block_at blocks n = option_map_or (λ (b : BlockId × BasicBlock). b.0) (slice_get blocks n) (record { 0 = 0 })

-- the blocks that were reached, with their entry states, in stored order
abbrev pub entries_of : Blocks → List (Option State) → List BlockEntry
entries_of [] xs = []
entries_of (b ∷ bs) [] = []
entries_of (b ∷ bs) (None ∷ xs) = entries_of bs xs
entries_of (b ∷ bs) (Some x ∷ xs) = record { block = b.0; state = x } ∷ entries_of bs xs

-- what was recorded of the instructions of a block that was visited
abbrev pub instructions_recorded : Option BlockEffects → List InstructionEffects
instructions_recorded None = []
instructions_recorded (Some r) = r.instructions

-- what was recorded of the terminal of a block that was visited
abbrev pub terminal_recorded : Option BlockEffects → List TerminalEffects
terminal_recorded None = []
terminal_recorded (Some r) = r.terminal

-- what is handed out where nothing is dirty any more: entry states are the joins of what was sent, effects those of
-- last visits, and interned effects and temporaries those of the tables
abbrev pub solved_of : HirFunction → SolverState (VisitLog State) TableLists BlockEffects → Solved
solved_of func w = record {
  function = None;
  visits = map (block_at func.body.blocks) w.progress.visits;
  entries = entries_of func.body.blocks w.progress.joined_input;
  first = w.tables.first;
  temporaries = w.tables.temporaries;
  effects = flat_map instructions_recorded w.recorded;
  terminal_effects = flat_map terminal_recorded w.recorded;
}

-- with what else the tables have
abbrev pub end_of : HirFunction → SolverState (VisitLog State) TableLists BlockEffects → PassEnd
end_of func w = record { solved = solved_of func w; reports = w.tables.reports; reads = w.tables.reads }

abbrev pub answer_of : Environment → HirFunction → End (VisitLog State) TableLists BlockEffects BlockRefusal
    → Result PassEnd InferError
answer_of env func (end.Solved w) = Ok (end_of func w)
answer_of env func (end.Fault n c) = Err (refusal env (block_at func.body.blocks n) c)
answer_of env func (end.NotSettled visits) = Err (error.NotSettled None visits not_settled_report)

-- how the sequence of visits ends, or its refusal
abbrev pub pass_end : Environment → HirFunction → Bool → Result PassEnd InferError
pass_end env func is_function_expression = answer_of env func (visits_end (context_of env func is_function_expression))

-- the solution that the sequence of visits ends with, or its refusal
abbrev pub inferred : Environment → HirFunction → Bool → Result Solved InferError
inferred env func is_function_expression = do
  e ← pass_end env func is_function_expression
  Ok e.solved

-- the tables that the pass ends with
abbrev pub end_tables : PassEnd → TableLists
end_tables e = record {
  first = e.solved.first;
  temporaries = e.solved.temporaries;
  reports = e.reports;
  reads = e.reads;
}

-- the environment with what the pass added to it
abbrev pub env_after : Environment → PassEnd → Environment
env_after env e = with_tables (end_tables e) env

-- the environment after the pass, or the refusal
abbrev pub env_inferred : Environment → HirFunction → Bool → Result Environment InferError
env_inferred env func is_function_expression = do
  e ← pass_end env func is_function_expression
  Ok (env_after env e)

-- the function with its effects on its instructions and terminals, or the refusal
abbrev pub effects_inferred : Environment → HirFunction → Bool → Result HirFunction InferError
effects_inferred env func is_function_expression = do
  e ← pass_end env func is_function_expression
  Ok (with_effects_of e.solved func)
