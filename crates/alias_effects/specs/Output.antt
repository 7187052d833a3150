-- The parts of what is handed out.
use Rattle.std.specs.Prelude.{◌≡◌, ℕ, Bool, List, [], ◌∷◌, Option, Some, None, Result, Ok, Err}
use Rattle.std.specs.List.{flat_map}
use Rattle.alias_base.specs.Answer.{◌>>=◌}
use Rattle.alias_base.specs.declared.ids.BlockId.{BlockId}
use Rattle.alias_hir.specs.declared.env.Environment.{Environment}
use Rattle.alias_hir.specs.declared.error.InferError.{InferError}
use Rattle.alias_hir.specs.declared.error.InferError.TheVariants as error
use Rattle.alias_hir.specs.declared.hir.HirFunction.{HirFunction}
use Rattle.alias_hir.specs.Reports.{not_settled_report}
use Rattle.alias_lattice.specs.States.{State}
use Rattle.alias_flow.specs.declared.flow.Solution.{Solution}
use Rattle.alias_flow.specs.declared.flow.SolveFault.{SolveFault}
use Rattle.alias_flow.specs.declared.flow.SolveFault.TheVariants.{Step, NotSettled, Memory}
use Rattle.alias_flow.specs.Machine.{SolverState, VisitLog, End}
use Rattle.alias_flow.specs.Machine as end
use Rattle.alias_step.specs.declared.block.recorded.BlockEffects.{BlockEffects}
use Rattle.alias_tables.specs.Tables.{TableLists}
use Rattle.alias_step.specs.declared.block.faults.BlockRefusal.{BlockRefusal}
use Rattle.alias_effects.specs.declared.solved.BlockEntry.{BlockEntry}
use Rattle.alias_effects.specs.declared.output.LastVisits.{LastVisits}
use Rattle.alias_effects.specs.declared.output.PassEnd.{PassEnd}
use Rattle.alias_effects.specs.Inference.{refusal, block_at, instructions_recorded, terminal_recorded, pass_end}

-- the entry of a block that was reached
abbrev pub entry_as : BlockId → Option State → List BlockEntry
entry_as b None = []
entry_as b (Some x) = record { block = b; state = x } ∷ []

-- what was recorded of all blocks that were visited
abbrev pub all_recorded : List (Option BlockEffects) → BlockEffects
all_recorded recorded = record {
  instructions = flat_map instructions_recorded recorded;
  terminal = flat_map terminal_recorded recorded;
}

-- where the visits ended, as far as it is handed out
abbrev pub solver_state_with : Solution State → TableLists → List (Option BlockEffects)
    → SolverState (VisitLog State) TableLists BlockEffects
solver_state_with s tables recorded = record {
  progress = record { visits = s.visits; joined_input = s.entries; last_input = [] };
  tables = tables;
  recorded = recorded;
}

-- a block was still dirty after 100 rounds
abbrev pub unsettled : ℕ → InferError
unsettled visits = error.NotSettled None visits not_settled_report

-- why the flow has no solution, as a refusal of the root function
abbrev pub unsolved : Environment → HirFunction → SolveFault BlockRefusal → InferError
unsolved env func (Step n c) = refusal env (block_at func.body.blocks n) c
unsolved env func (NotSettled visits) = unsettled visits
unsolved env func (Memory e) = error.Memory e

-- the effects and the tables of an end
abbrev pub last_of : PassEnd → LastVisits
last_of e = record {
  effects = record { instructions = e.solved.effects; terminal = e.solved.terminal_effects };
  tables = record { first = e.solved.first; temporaries = e.solved.temporaries; reports = e.reports; reads = e.reads };
}

-- what the last visits of the function's blocks record, and the tables that they leave, or the refusal
abbrev pub last_visits : Environment → HirFunction → Bool → Result LastVisits InferError
last_visits env func is_function_expression = do
  e ← pass_end env func is_function_expression
  Ok (last_of e)

-- what is recorded and the tables are what the visits end with, and a fault is theirs. Memory may fail at any time.
abbrev pub VisitsEnd : End (VisitLog State) TableLists BlockEffects BlockRefusal
    → Result (Unit {0}) (SolveFault BlockRefusal) → TableLists → List (Option BlockEffects) → Type 0
VisitsEnd ending (Ok u) tables recorded = (w : SolverState (VisitLog State) TableLists BlockEffects)
    × (ending ≡ end.Solved w) × (tables ≡ w.tables) × (recorded ≡ w.recorded)
VisitsEnd ending (Err (Step n c)) tables recorded = ending ≡ end.Fault n c
VisitsEnd ending (Err (NotSettled visits)) tables recorded = ending ≡ end.NotSettled visits
VisitsEnd ending (Err (Memory e)) tables recorded = Unit {0}
