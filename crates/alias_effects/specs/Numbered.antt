-- A function as a flow over the positions of its blocks, which the solver works with.
use Rattle.std.specs.Prelude.{length, Option, Some, None, replicate, slice_get}
use Rattle.alias_base.specs.declared.ids.BlockId.{BlockId}
use Rattle.alias_hir.specs.Positions.{edges_at, entry_position}
use Rattle.alias_hir.specs.declared.hir.BasicBlock.{BasicBlock}
use Rattle.alias_lattice.specs.Flows.{Outcome, Stepped}
use Rattle.alias_lattice.specs.States.{State, state_below, state_join}
use Rattle.alias_flow.specs.Machine.{Rules, VisitLog, End, solution}
use Rattle.alias_flow.specs.Machine as end
use Rattle.alias_step.specs.block.Blocks.{infer_block}
use Rattle.alias_step.specs.block.Contexts.{BlockContext}
use Rattle.alias_step.specs.block.Initial.{initial_state}
use Rattle.alias_step.specs.block.Recorded.{no_effects}
use Rattle.alias_tables.specs.write_back.WriteBack.{tables_of}
use Rattle.alias_effects.specs.FunctionFlow.{outcome_of}
use Rattle.alias_step.specs.declared.block.recorded.BlockEffects.{BlockEffects}
use Rattle.alias_tables.specs.Tables.{TableLists}
use Rattle.alias_step.specs.declared.block.faults.BlockRefusal.{BlockRefusal}

-- a position past the end does nothing
abbrev pub step_at : BlockContext → Option (BlockId × BasicBlock) → TableLists → State
    → Outcome State TableLists BlockEffects BlockRefusal
step_at c None tables x = Stepped x tables no_effects
step_at c (Some b) tables x = outcome_of (infer_block c b.0 b.1 x tables)

-- a function as a flow over the positions of its blocks
abbrev pub numbered : BlockContext → Rules State TableLists BlockEffects BlockRefusal
numbered c = record {
  blocks = length c.func.body.blocks;
  flow = record {
    entry = entry_position c.func;
    initial = initial_state c;
    edges = λ n. edges_at c.func.body.blocks (slice_get c.func.body.blocks n);
    step = λ tables n x. step_at c (slice_get c.func.body.blocks n) tables x;
  };
}

-- how the sequence of visits of the function ends
abbrev pub visits_end : BlockContext → End (VisitLog State) TableLists BlockEffects BlockRefusal
visits_end c = solution state_join state_below (numbered c) (tables_of c.env)
    (replicate (length c.func.body.blocks) None)

-- the tables that the visits leave; where they are refused, those that they begin with
abbrev pub tables_at : TableLists → End (VisitLog State) TableLists BlockEffects BlockRefusal → TableLists
tables_at begun (end.Solved w) = w.tables
tables_at begun e = begun

abbrev pub tables_left : BlockContext → TableLists
tables_left c = tables_at (tables_of c.env) (visits_end c)
