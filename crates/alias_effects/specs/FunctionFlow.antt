-- A function as a flow over its blocks.
use Rattle.std.specs.Prelude.{List, [], Option, Some, None, Result, Ok, Err}
use Rattle.alias_base.specs.Find.{value_at}
use Rattle.alias_base.specs.declared.ids.BlockId.{BlockId}
use Rattle.alias_hir.specs.declared.hir.BasicBlock.{BasicBlock}
use Rattle.alias_hir.specs.Terminals.{successors}
use Rattle.alias_lattice.specs.Flows.{Flow, Outcome, Stepped, Refused}
use Rattle.alias_lattice.specs.States.{State}
use Rattle.alias_tables.specs.Tables.{TableLists}
use Rattle.alias_step.specs.declared.block.faults.BlockRefusal.{BlockRefusal}
use Rattle.alias_step.specs.declared.block.recorded.BlockEffects.{BlockEffects}
use Rattle.alias_step.specs.block.Blocks.{infer_block}
use Rattle.alias_step.specs.block.Contexts.{BlockContext}
use Rattle.alias_step.specs.block.Initial.{initial_state}
use Rattle.alias_step.specs.block.Recorded.{no_effects}

-- what the step of a block gives, as an outcome of a flow
abbrev pub outcome_of : Result ((State × BlockEffects) × TableLists) BlockRefusal
    → Outcome State TableLists BlockEffects BlockRefusal
outcome_of (Ok r) = Stepped r.0.0 r.1 r.0.1
outcome_of (Err c) = Refused c

-- a block that isn't there does nothing
abbrev pub outcome_at : BlockContext → BlockId → Option BasicBlock → TableLists → State
    → Outcome State TableLists BlockEffects BlockRefusal
outcome_at c b None tables x = Stepped x tables no_effects
outcome_at c b (Some block) tables x = outcome_of (infer_block c b block x tables)

-- the blocks that control may go on to from a block
abbrev pub successors_at : Option BasicBlock → List BlockId
successors_at None = []
successors_at (Some b) = successors b.terminal

-- a function as a flow over its blocks
abbrev pub flow_of : BlockContext → Flow BlockId State TableLists BlockEffects BlockRefusal
flow_of c = record {
  entry = c.func.body.entry;
  initial = initial_state c;
  edges = λ b. successors_at (value_at c.func.body.blocks b);
  step = λ tables b x. outcome_at c b (value_at c.func.body.blocks b) tables x;
}
