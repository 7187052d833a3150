-- The definite writes that a step comes to, each with the state in which it comes to it.
use Rattle.std.specs.Prelude.{Bool, true, false, ◌&&◌, not, ◌==◌, ℕ, List, [], ◌∷◌, ◌++◌, map, Option, Some, None}
use Rattle.std.specs.Prelude.{Result, Ok, Err, slice_get}
use Rattle.std.specs.List.{list_any}
use Rattle.alias_base.specs.declared.ids.FunctionId.{FunctionId}
use Rattle.alias_base.specs.declared.ids.IdentifierId.{IdentifierId}
use Rattle.alias_base.specs.declared.ids.InstructionId.{InstructionId}
use Rattle.alias_base.specs.declared.ids.TypeId.{TypeId}
use Rattle.alias_hir.specs.declared.effect.AliasingEffect.{AliasingEffect}
use Rattle.alias_hir.specs.declared.effect.AliasingEffect.TheVariants as effect
use Rattle.alias_hir.specs.declared.effect.ValueKind.{ValueKind}
use Rattle.alias_hir.specs.declared.effect.ValueKind.TheVariants as kind
use Rattle.alias_hir.specs.declared.env.Environment.{Environment}
use Rattle.alias_hir.specs.declared.hir.BasicBlock.{BasicBlock}
use Rattle.alias_hir.specs.declared.hir.Instruction.{Instruction}
use Rattle.alias_hir.specs.declared.place.Place.{Place}
use Rattle.alias_hir.specs.declared.report.ReportId.{ReportId}
use Rattle.alias_hir.specs.declared.signature.FunctionSignature.{FunctionSignature}
use Rattle.alias_hir.specs.Types.{is_ref_at}
use Rattle.alias_hir.specs.Values.{created}
use Rattle.alias_facts.specs.declared.facts.FunctionFacts.{FunctionFacts}
use Rattle.alias_signature.specs.Globals.{instruction_report}
use Rattle.alias_signature.specs.Known.{known}
use Rattle.alias_signature.specs.Signatures.{signature_of}
use Rattle.alias_lattice.specs.States.{State, lookup}
use Rattle.alias_tables.specs.Tables.{TableLists, intern}
use Rattle.alias_apply.specs.declared.progress.StepProgress.{StepProgress}
use Rattle.alias_apply.specs.Apply.{intern_and_apply_simple, intern_and_apply_plain}
use Rattle.alias_apply.specs.Contexts.{StepContext}
use Rattle.alias_calls.specs.Copies.{Collected}
use Rattle.alias_calls.specs.Legacy.{legacy_expansion}
use Rattle.alias_step.specs.Calls.{call_of, with_missing, incompatible, apply_inner_effect, apply_effect}
use Rattle.alias_step.specs.Instructions.{written_by, check_created, begun, intern_reported, context_with}
use Rattle.alias_step.specs.Expansions.{called_function, expansion_of_called, signature_of_type, expansion_of_config}
use Rattle.alias_step.specs.Operands.{Call}
use Rattle.alias_step.specs.declared.block.block.BlockProgress.{BlockProgress}
use Rattle.alias_step.specs.declared.block.recorded.InstructionEffects.{InstructionEffects}
use Rattle.alias_step.specs.block.Blocks.{step_start, infer_instruction_at, block_start, infer_phis}
use Rattle.alias_step.specs.block.Contexts.{BlockContext}

-- a place that is written for certain, and the state at that moment
pub record Write : Type 0 where
  pub place : Place
  pub state : State

-- ---- words of steps

module _ {T C : Type 0} where
  -- what the next step comes to, if this one isn't refused
  abbrev pub after_answer : {A W : Type 0} → Result (A × T) C → (A → T → List W) → List W
  after_answer (Ok p) next = next p.0 p.1
  after_answer (Err c) next = []

  abbrev pub after : {A W : Type 0} → (T → Result (A × T) C) → (A → T → List W) → T → List W
  after step next t = after_answer (step t) next

  -- what a step for each of a list comes to, in order
  abbrev pub over_each : {X A W : Type 0} → (X → A → T → Result (A × T) C) → (X → A → T → List W) → List X → A → T
      → List W
  over_each step writes [] a t = []
  over_each step writes (x ∷ xs) a t = writes x a t ++ after (step x a) (over_each step writes xs) t

-- ---- effects

abbrev pub write_of : Option Place → State → List Write
write_of None u = []
write_of (Some v) u = record { place = v; state = u } ∷ []

-- an effect is interned, and then stepped: what is written is what the interned effect of its key writes
abbrev pub plain_writes : AliasingEffect → StepProgress → TableLists → List Write
plain_writes e s = after (intern e) (λ first t. write_of (written_by first) s.state)

module _ (c : StepContext) where
  -- of a list that holds no call
  abbrev pub list_writes : List AliasingEffect → StepProgress → TableLists → List Write
  list_writes = over_each (intern_and_apply_plain c) plain_writes

  abbrev pub summary_writes : Call → List AliasingEffect → StepProgress → TableLists → List Write
  summary_writes call list s = after (intern_and_apply_simple c (effect.MutateTransitiveConditionally call.function) s)
      (list_writes list)

  -- ---- a call in the list of an aliasing part; by default nothing is written for certain

  abbrev pub inner_call_writes_by : Collected → Call → StepProgress → TableLists → List Write
  inner_call_writes_by (Some list) call s t = summary_writes call list s t
  inner_call_writes_by None call s t = []

  abbrev pub inner_call_writes : Call → StepProgress → TableLists → List Write
  inner_call_writes call s = after (expansion_of_called c.env call (called_function s.state call.function))
      (λ list. inner_call_writes_by list call s)

  abbrev pub inner_writes : AliasingEffect → StepProgress → TableLists → List Write
  inner_writes (effect.Apply receiver function mutates args into signature span) s =
      inner_call_writes (call_of receiver function mutates args into span) s
  inner_writes e s = plain_writes e s

  -- ---- a call by a signature

  abbrev pub legacy_writes : FunctionSignature → Call → StepProgress → TableLists → List Write
  legacy_writes signature call s =
      after (legacy_expansion c.env signature call.site call.args s.state)
      (λ legacy. list_writes legacy.effects (with_missing legacy.missing s))

  abbrev pub config_writes : Collected → FunctionSignature → Call → StepProgress → TableLists → List Write
  config_writes (Some list) signature call s = over_each (apply_inner_effect c) inner_writes list s
  config_writes None signature call s = legacy_writes signature call s

  abbrev pub compatible_writes : Option (List ℕ) → FunctionSignature → Call → StepProgress → TableLists → List Write
  compatible_writes (Some text) signature call s t = []
  compatible_writes None signature call s t =
      after (expansion_of_config c.env call signature.aliasing) (λ list. config_writes list signature call s) t

  abbrev pub signature_writes : Option FunctionSignature → Call → StepProgress → TableLists → List Write
  signature_writes (Some signature) call s t = compatible_writes (incompatible c signature) signature call s t
  signature_writes None call s t = []

  -- ---- a call of an instruction

  abbrev pub call_writes_by : Collected → Option TypeId → Call → StepProgress → TableLists → List Write
  call_writes_by (Some list) signature call s = summary_writes call list s
  call_writes_by None signature call s = signature_writes (signature_of_type c.env signature) call s

  abbrev pub call_writes : Option TypeId → Call → StepProgress → TableLists → List Write
  call_writes signature call s = after (expansion_of_called c.env call (called_function s.state call.function))
      (λ list. call_writes_by list signature call s)

  abbrev pub effect_writes : AliasingEffect → StepProgress → TableLists → List Write
  effect_writes (effect.Apply receiver function mutates args into signature span) s =
      call_writes signature (call_of receiver function mutates args into span) s
  effect_writes e s = plain_writes e s

  -- of an instruction that creates this function and has these effects
  abbrev pub writes_of_effects : Option FunctionId → List AliasingEffect → StepProgress → TableLists → List Write
  writes_of_effects f effects s = after (check_created c f (begun s)) (over_each (apply_effect c) effect_writes effects)

-- ---- instructions

abbrev pub writes_with : Environment → FunctionFacts → Instruction → Option ReportId → StepProgress → TableLists
    → List Write
writes_with env facts i error s = writes_of_effects (context_with env facts) (created i.value)
    (signature_of (known env facts error) i) s

abbrev pub instruction_writes : Environment → FunctionFacts → Instruction → StepProgress → TableLists → List Write
instruction_writes env facts i s = after (intern_reported (instruction_report i.value i.span))
    (λ error. writes_with env facts i error s)

-- ---- blocks

-- an instruction, and what it writes
abbrev pub by_instruction : InstructionId → List Write → List (InstructionId × Write)
by_instruction i = map (λ w. (i, w))

abbrev pub writes_at : BlockContext → InstructionId → Option Instruction → BlockProgress → TableLists
    → List (InstructionId × Write)
writes_at c i None s t = []
writes_at c i (Some x) s t = by_instruction i (instruction_writes c.env c.facts x (step_start s) t)

abbrev pub writes_of_all : BlockContext → List InstructionId → BlockProgress → TableLists → List (InstructionId × Write)
writes_of_all c =
    over_each (λ i. infer_instruction_at c i (slice_get c.func.instructions i.0))
    (λ i. writes_at c i (slice_get c.func.instructions i.0))

-- what the instructions of a block write for certain, from a state
abbrev pub block_writes : BlockContext → BasicBlock → State → TableLists → List (InstructionId × Write)
block_writes c block x = writes_of_all c block.instructions (block_start (infer_phis block.phis x))

-- ---- what has to be told

-- the value is frozen, may be frozen, or is a global
abbrev pub is_protected : ValueKind → Bool
is_protected kind.Frozen = true
is_protected kind.MaybeFrozen = true
is_protected kind.Global = true
is_protected k = false

-- the value isn't to be written: it is protected, and no ref
abbrev pub is_forbidden : Environment → Write → Bool
is_forbidden env w = is_protected (lookup w.state w.place.identifier).kind && not (is_ref_at env w.place.identifier)

-- the effect is the error of a write of the identifier
abbrev pub is_write_error : IdentifierId → AliasingEffect → Bool
is_write_error x (effect.MutateFrozen p error) = p.identifier.0 == x.0
is_write_error x (effect.MutateGlobal p error) = p.identifier.0 == x.0
is_write_error x e = false

abbrev pub has_write_error : IdentifierId → List AliasingEffect → Bool
has_write_error x = list_any (is_write_error x)

-- the error of the write stands among what the instruction recorded
abbrev pub is_reported_by : InstructionId × Write → InstructionEffects → Bool
is_reported_by w r = (r.instruction.0 == w.0.0) && has_write_error w.1.place.identifier r.effects

abbrev pub is_reported : List InstructionEffects → InstructionId × Write → Bool
is_reported recorded w = list_any (is_reported_by w) recorded
