-- Laws of what the steps of an instruction and of a block have come to alone, for a law of progress.
use Rattle.std.specs.Prelude.{List, [], Option}
use Rattle.alias_base.specs.declared.ids.BlockId.{BlockId}
use Rattle.alias_base.specs.declared.ids.InstructionId.{InstructionId}
use Rattle.alias_facts.specs.declared.facts.FunctionFacts.{FunctionFacts}
use Rattle.alias_hir.specs.declared.effect.AliasingEffect.{AliasingEffect}
use Rattle.alias_hir.specs.declared.env.Environment.{Environment}
use Rattle.alias_hir.specs.declared.hir.BasicBlock.{BasicBlock}
use Rattle.alias_hir.specs.declared.hir.Instruction.{Instruction}
use Rattle.alias_hir.specs.declared.place.Place.{Place}
use Rattle.alias_hir.specs.declared.terminal.Terminal.{Terminal}
use Rattle.alias_hir.specs.declared.terminal.Terminal.TheVariants.{Return}
use Rattle.alias_lattice.specs.States.{State, appended}
use Rattle.alias_lattice.specs.declared.lookup.MissingLookup.{MissingLookup}
use Rattle.alias_signature.specs.Known.{known}
use Rattle.alias_signature.specs.Signatures.{signature_of}
use Rattle.alias_tables.specs.Tables.{TableLists}
use Rattle.alias_apply.specs.Progress.{with_state}
use Rattle.alias_apply.specs.declared.progress.StepProgress.{StepProgress}
use Rattle.alias_step.specs.Instructions.{begun, apply_signature}
use Rattle.alias_step.specs.block.Blocks.{infer_phis, infer_block}
use Rattle.alias_step.specs.block.Contexts.{BlockContext}
use Rattle.alias_walks.specs.Applying.{To}
use Rattle.alias_walks.specs.Blocking.{InstructionKnown, signature_applied, BlockLaw, AreKnown, are_known, Returned}
use Rattle.alias_walks.specs.Blocking.{Out, block_inferred}
use Rattle.alias_walks.specs.OfProgress.{ProgressLaw, law_of, any_named}
use Rattle.alias_walks.specs.Words.{all_of, Leads}

-- beside the law of its steps: what is known of states and of what is recorded, and what a block does itself
pub record ProgressBlockLaw (env : Environment) : Type 1 where
  pub steps : ProgressLaw env
  pub Stated : State → Type 0
  pub Listed : List AliasingEffect → Type 0
  pub starts : (x : State) (m : Option MissingLookup) → Stated x
      → steps.Here (record { state = x; made = []; recorded = []; missing = m })
  pub states : (s : StepProgress) → steps.Here s → Stated s.state
  pub lists : (s : StepProgress) → steps.Here s → Listed s.recorded
  pub appends : (x v : Place) (s : StepProgress) → steps.Here s
      → steps.Here (with_state (appended x.identifier v.identifier s.state) s)

abbrev pub block_law_of : (env : Environment) → ProgressBlockLaw env → BlockLaw env
block_law_of env B = record {
  steps = law_of env B.steps;
  Stated = λ t x. B.Stated x;
  Listed = λ t es. B.Listed es;
  listed_later = λ t u x es h. h;
  starts = λ x m t h. B.starts x m h;
  states = λ s t h. B.states s h;
  lists = λ s t h. B.lists s h;
  appends = λ x v s t p q h. B.appends x v s h;
}

module _ (env : Environment) (L : ProgressLaw env) where
  any_instruction : (facts : FunctionFacts) (i : Instruction) → InstructionKnown (law_of env L) facts i
  any_instruction facts i = record {
    lvalue = λ t k. tt;
    creation = tt;
    effects = λ error t k h. any_named (signature_of (known env facts error) i);
  }

  pub instruction_leads : (facts : FunctionFacts) (i : Instruction) (s : StepProgress) (t : TableLists)
      → L.Here (begun s) → To (law_of env L) (apply_signature env facts i s) t
  instruction_leads facts i s t h = signature_applied (law_of env L) facts i s t tt (any_instruction facts i) h

module _ (c : BlockContext) (B : ProgressBlockLaw c.env) where
  any_known : (is : List InstructionId) → AreKnown c (block_law_of c.env B) is
  any_known is = are_known c (block_law_of c.env B)
      (all_of (InstructionKnown (law_of c.env B.steps) c.facts) (any_instruction c.env B.steps c.facts)
      c.func.instructions) is

  any_returned : (end : Terminal) → Returned c (block_law_of c.env B) end
  any_returned (Return id place effects) = λ t k. tt
  any_returned end = tt

  -- the step of a block, where its state behind the phis is known
  pub block_leads : (b : BlockId) (block : BasicBlock) (x : State) (t : TableLists) → B.Stated (infer_phis block.phis x)
      → Leads (law_of c.env B.steps) (Out c (block_law_of c.env B)) (infer_block c b block x) t
  block_leads b block x t h = block_inferred c (block_law_of c.env B) (λ o p e t k. tt) b block x t tt
      (any_known block.instructions) (any_returned block.terminal) h
