-- The step of a block is the same beside.
use Rattle.std.specs.Prelude.{◌≡◌, List, Option, Some, None, slice_get}
use Rattle.std.proofs.Common.{ap}
use Rattle.alias_base.specs.declared.ids.BlockId.{BlockId}
use Rattle.alias_base.specs.declared.ids.InstructionId.{InstructionId}
use Rattle.alias_hir.specs.declared.hir.BasicBlock.{BasicBlock}
use Rattle.alias_hir.specs.declared.hir.Instruction.{Instruction}
use Rattle.alias_lattice.specs.States.{State}
use Rattle.alias_tables.specs.Steps.{and_then, gives}
use Rattle.alias_tables.specs.Tables.{TableLists, Step}
use Rattle.alias_apply.specs.declared.progress.StepProgress.{StepProgress}
use Rattle.alias_step.specs.Instructions.{apply_signature}
use Rattle.alias_step.specs.block.Blocks.{step_start, after_instruction, infer_instruction_at, apply_signatures}
use Rattle.alias_step.specs.block.Blocks.{apply_terminal, block_start, finished, infer_phis, infer_block}
use Rattle.alias_step.specs.block.Contexts.{BlockContext}
use Rattle.alias_step.specs.block.Faults.{in_block_at, in_block}
use Rattle.alias_step.specs.block.ReplayLaws.{in_block_gives}
use Rattle.alias_step.specs.declared.block.block.BlockProgress.{BlockProgress}
use Rattle.alias_step.specs.declared.block.faults.BlockRefusal.{BlockRefusal}
use Rattle.alias_walks.specs.Applying.{To}
use Rattle.alias_walks.specs.Blocking.{signature_applied, BlockLaw, IfKnown, AreKnown}
use Rattle.alias_walks.specs.Law.{Law}
use Rattle.alias_walks.specs.Words.{Leads, lead_gives, lead_then}
use Rattle.alias_seen_laws.specs.Beside.{Others, with_others}
use Rattle.alias_seen_laws.proofs.steps.Applying.{Sees}
use Rattle.alias_seen_laws.proofs.steps.Both.{Both, both_self, both_each}
use Rattle.alias_seen_laws.proofs.steps.Instructing.{signature_same}

-- the context of blocks over the environment beside, with what is known of the function
abbrev pub block_beside : BlockContext → Others → BlockContext
block_beside c z = record c { env = with_others c.env z }

module _ (c : BlockContext) (B : BlockLaw c.env) (z : Others) (S : Sees B.steps z) where
  abbrev L : Law c.env
  L = B.steps

  abbrev d : BlockContext
  d = block_beside c z

  abbrev Stands : TableLists → BlockProgress → Type 0
  Stands t s = B.Stated t s.state

  step_in_block : (i : InstructionId) (f : Step StepProgress) (t : TableLists) → To L f t
      → Leads L {C = BlockRefusal} L.Here (in_block i f) t
  step_in_block i f t h = record {
    leads = λ u s e.
        let r = h.leads u s (in_block_gives i (f t) (s, u) e) in
        record { grown = r.grown; again = λ v x. ap (in_block_at i) (r.again v x); kept = r.kept; value = r.value };
  }

  instruction_twice : (i : InstructionId) (o : Option Instruction) (s : BlockProgress) (t : TableLists) → L.Kept t
      → IfKnown c B o → Stands t s → Both L Stands (infer_instruction_at c i o s) (infer_instruction_at d i o s) t
  instruction_twice i None s t k f h = both_self L Stands _ t (lead_gives L Stands s t k h)
  instruction_twice i (Some x) s t k f h =
      let begins = B.starts s.state s.missing t h in
      record {
        leads =
            lead_then L L.Here Stands (in_block i (apply_signature c.env c.facts x (step_start s)))
            (λ u. gives (after_instruction i s.effects u)) t
            (step_in_block i (apply_signature c.env c.facts x (step_start s)) t
            (signature_applied L c.facts x (step_start s) t k f begins))
            (λ w u y l g. lead_gives L Stands (after_instruction i s.effects w) u l (B.states w u g));
        same =
            ap (λ r. and_then (in_block_at i r) (λ u. gives (after_instruction i s.effects u)))
            (signature_same L z S c.facts x (step_start s) t k f begins);
      }

  signatures_twice : (is : List InstructionId) (s : BlockProgress) (t : TableLists) → L.Kept t → AreKnown c B is
      → Stands t s → Both L Stands (apply_signatures c is s) (apply_signatures d is s) t
  signatures_twice is s t k f h =
      both_each L (λ u i. IfKnown c B (slice_get c.func.instructions i.0)) Stands
      (λ i. infer_instruction_at c i (slice_get c.func.instructions i.0))
      (λ i. infer_instruction_at d i (slice_get c.func.instructions i.0)) (λ u v x i g. g)
      (λ i w u l g r. instruction_twice i (slice_get c.func.instructions i.0) w u l g r) is s t k f h

  -- where its instructions and its state behind the phis are known
  pub block_same : (b : BlockId) (block : BasicBlock) (x : State) (t : TableLists) → L.Kept t
      → AreKnown c B block.instructions → B.Stated t (infer_phis block.phis x)
      → infer_block d b block x t ≡ infer_block c b block x t
  block_same b block x t k f h =
      let begun : BlockProgress = block_start (infer_phis block.phis x) in
      ap (λ r. and_then r (λ s v. and_then (apply_terminal c b block s v) finished))
      (signatures_twice block.instructions begun t k f h).same
