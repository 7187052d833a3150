-- Over other spans of identifiers the visits of a function end the same.
use Rattle.std.specs.Prelude.{◌≡◌, Bool, length, List, Option, Some, None, replicate, slice_get, refl}
use Rattle.std.proofs.Common.{ap, ◌∙◌}
use Rattle.alias_base.specs.declared.ids.BlockId.{BlockId}
use Rattle.alias_base.specs.declared.ids.InstructionId.{InstructionId}
use Rattle.alias_hir.specs.Values.{created}
use Rattle.alias_hir.specs.declared.env.Environment.{Environment}
use Rattle.alias_hir.specs.declared.env.Identifier.{Identifier}
use Rattle.alias_hir.specs.declared.hir.BasicBlock.{BasicBlock}
use Rattle.alias_hir.specs.declared.hir.HirFunction.{HirFunction}
use Rattle.alias_hir.specs.declared.hir.Instruction.{Instruction}
use Rattle.alias_hir.specs.declared.report.ReportId.{ReportId}
use Rattle.alias_hir.specs.Positions.{edges_at, entry_position}
use Rattle.alias_lattice.specs.States.{State, state_join, state_below}
use Rattle.alias_facts.specs.Facts.{function_facts}
use Rattle.alias_facts.specs.declared.facts.FunctionFacts.{FunctionFacts}
use Rattle.alias_flow.specs.Machine.{solution}
use Rattle.alias_tables.specs.Steps.{◌>>=◌, gives, each}
use Rattle.alias_tables.specs.Tables.{TableLists}
use Rattle.alias_apply.specs.declared.progress.StepProgress.{StepProgress}
use Rattle.alias_signature.specs.Globals.{instruction_report}
use Rattle.alias_step.specs.Instructions.{apply_instruction, intern_reported, context_with, apply_signature_with}
use Rattle.alias_step.specs.Instructions.{apply_signature}
use Rattle.alias_step.specs.block.Blocks.{infer_phis, step_start, after_instruction, infer_instruction}
use Rattle.alias_step.specs.block.Blocks.{infer_instruction_at, apply_signatures, apply_terminal, block_start, finished}
use Rattle.alias_step.specs.block.Blocks.{infer_block}
use Rattle.alias_step.specs.block.Contexts.{BlockContext, context_of}
use Rattle.alias_step.specs.block.Faults.{in_block}
use Rattle.alias_step.specs.block.Initial.{initial_state}
use Rattle.alias_step.specs.declared.block.block.BlockProgress.{BlockProgress}
use Rattle.alias_effects.specs.FunctionFlow.{outcome_of}
use Rattle.alias_effects.specs.Numbered.{step_at, numbered, visits_end}
use Rattle.alias_tables.specs.write_back.WriteBack.{tables_of}
use Rattle.alias_certificate_laws.specs.accepting.Alike.{Paired}
use Rattle.alias_range_alike_laws.specs.Spans.{Respanned}
use Rattle.alias_accepted_laws.specs.Spans.{with_ids, SpansAreNotRead}
use Rattle.alias_accepted_laws.proofs.Knowing.{facts_same, signature_same}
use Rattle.alias_accepted_laws.proofs.Respanning.{instruction_same}

module _ (env : Environment) (ids : List Identifier) (spans : Paired Respanned env.identifiers ids) where
  abbrev there : Environment
  there = with_ids env ids

  signature_with_same : (facts : FunctionFacts) (x : Instruction) (e : Option ReportId) (s : StepProgress)
      → apply_signature_with there facts x e s ≡ apply_signature_with env facts x e s
  signature_with_same facts x e s =
      ap (λ es. apply_instruction (context_with there facts) (created x.value) es x.lvalue.identifier s)
      (signature_same env ids spans facts e x.lvalue x.span x.value)
      ∙ instruction_same env ids spans facts.hoisted (created x.value) _ x.lvalue.identifier s

  applied_same : (facts : FunctionFacts) (x : Instruction) (s : StepProgress) → apply_signature there facts x s
      ≡ apply_signature env facts x s
  applied_same facts x s = λ i. intern_reported (instruction_report x.value x.span)
      >>= (λ error. signature_with_same facts x error s i)

  module _ (func : HirFunction) (b : Bool) where
    -- what is known of the function is the same already
    abbrev between : BlockContext
    between = record { env = there; func = func; facts = function_facts func env; is_function_expression = b }

    abbrev here : BlockContext
    here = context_of env func b

    inferred_same : (i : InstructionId) (x : Instruction) (s : BlockProgress) → infer_instruction between i x s
        ≡ infer_instruction here i x s
    inferred_same i x s = λ j. in_block i (applied_same (function_facts func env) x (step_start s) j)
        >>= (λ u. gives (after_instruction i s.effects u))

    at_same : (i : InstructionId) (o : Option Instruction) (s : BlockProgress) → infer_instruction_at between i o s
        ≡ infer_instruction_at here i o s
    at_same i None s = refl
    at_same i (Some x) s = inferred_same i x s

    signatures_same : (is : List InstructionId) (s : BlockProgress) → apply_signatures between is s
        ≡ apply_signatures here is s
    signatures_same is s = λ j. each (λ i t. at_same i (slice_get func.instructions i.0) t j) is s

    block_same : (name : BlockId) (block : BasicBlock) (x : State) → infer_block between name block x
        ≡ infer_block here name block x
    block_same name block x = λ j. signatures_same block.instructions (block_start (infer_phis block.phis x)) j
        >>= (λ s. apply_terminal here name block s >>= finished)

    step_same : (o : Option (BlockId × BasicBlock)) (t : TableLists) (x : State) → step_at between o t x
        ≡ step_at here o t x
    step_same None t x = refl
    step_same (Some block) t x = λ j. outcome_of (block_same block.0 block.1 x j t)

    flow_same : numbered between ≡ numbered here
    flow_same = λ j. record {
      blocks = length func.body.blocks;
      flow = record {
        entry = entry_position func;
        initial = initial_state here;
        edges = λ n. edges_at func.body.blocks (slice_get func.body.blocks n);
        step = λ t n x. step_same (slice_get func.body.blocks n) t x j;
      };
    }

    visits_same : visits_end (context_of there func b) ≡ visits_end here
    visits_same =
        ap (λ k. visits_end (let c : BlockContext =
        record { env = there; func = func; facts = k; is_function_expression = b } in c))
        (facts_same env ids spans func)
        ∙ ap (λ r. solution state_join state_below r (tables_of env) (replicate (length func.body.blocks) None))
        flow_same

pub spans_not_read : SpansAreNotRead
spans_not_read env ids func b spans = visits_same env ids spans func b
