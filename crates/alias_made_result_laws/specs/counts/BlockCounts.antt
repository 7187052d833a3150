-- How many reports the step of a block adds, and how many effects it records of an instruction and of the terminal.
use Rattle.std.specs.Prelude.{◌≡◌, ℕ, ◌+◌, ◌*◌, ◌≤◌, Bool, true, false, List, [], ◌∷◌, length, Option, Some, None}
use Rattle.std.specs.Prelude.{Result, Ok, Err, slice_get, is_some, refl}
use Rattle.std.specs.List.{AllByRecursion}
use Rattle.std.proofs.Common.{arith}
use Rattle.alias_base.specs.declared.ids.BlockId.{BlockId}
use Rattle.alias_base.specs.declared.ids.FunctionId.{FunctionId}
use Rattle.alias_base.specs.declared.ids.IdentifierId.{IdentifierId}
use Rattle.alias_base.specs.declared.ids.InstructionId.{InstructionId}
use Rattle.alias_facts.specs.declared.facts.FunctionFacts.{FunctionFacts}
use Rattle.alias_hir.specs.Values.{created}
use Rattle.alias_hir.specs.declared.effect.AliasingEffect.{AliasingEffect}
use Rattle.alias_hir.specs.declared.effect.AliasingEffect.TheVariants as effect
use Rattle.alias_hir.specs.declared.effect.ValueReason.TheVariants.{JsxCaptured}
use Rattle.alias_hir.specs.declared.env.Environment.{Environment}
use Rattle.alias_hir.specs.declared.hir.BasicBlock.{BasicBlock}
use Rattle.alias_hir.specs.declared.hir.Instruction.{Instruction}
use Rattle.alias_hir.specs.declared.report.Report.{Report}
use Rattle.alias_hir.specs.declared.terminal.Terminal.{Terminal}
use Rattle.alias_hir.specs.declared.terminal.Terminal.TheVariants.{MaybeThrow, Return}
use Rattle.alias_signature.specs.Globals.{instruction_report}
use Rattle.alias_signature.specs.Known.{known}
use Rattle.alias_signature.specs.Signatures.{signature_of}
use Rattle.alias_lattice.specs.declared.lookup.MissingLookup.{MissingLookup}
use Rattle.alias_lattice.specs.States.{State, sites_of}
use Rattle.alias_tables.specs.declared.faults.Refusal.{Refusal}
use Rattle.alias_tables.specs.Steps.{◌>>=◌, gives}
use Rattle.alias_tables.specs.Tables.{TableLists, Step, intern}
use Rattle.alias_apply.specs.declared.progress.StepProgress.{StepProgress}
use Rattle.alias_step.specs.Calls.{apply_effects}
use Rattle.alias_step.specs.Instructions.{begun, with_result, apply_instruction, intern_reported, context_with}
use Rattle.alias_step.specs.Instructions.{apply_signature_with, apply_signature}
use Rattle.alias_step.specs.declared.block.block.BlockProgress.{BlockProgress}
use Rattle.alias_step.specs.declared.block.faults.BlockRefusal.{BlockRefusal}
use Rattle.alias_step.specs.declared.block.faults.BlockRefusal.TheVariants as refused
use Rattle.alias_step.specs.declared.block.recorded.BlockEffects.{BlockEffects}
use Rattle.alias_step.specs.declared.block.recorded.InstructionEffects.{InstructionEffects}
use Rattle.alias_step.specs.declared.block.recorded.TerminalEffects.{TerminalEffects}
use Rattle.alias_step.specs.block.Actions.{interned_or, record_interned, terminal_action}
use Rattle.alias_step.specs.block.Blocks.{infer_phis, step_start, after_instruction, infer_instruction}
use Rattle.alias_step.specs.block.Blocks.{infer_instruction_at, apply_signatures, after_terminal, apply_terminal}
use Rattle.alias_step.specs.block.Blocks.{block_start, finished_at, finished, infer_block}
use Rattle.alias_step.specs.block.Contexts.{BlockContext}
use Rattle.alias_step.specs.block.Faults.{BlockStep, in_block_at, in_block}
use Rattle.alias_step.specs.block.Recorded.{recorded_as, terminal_recorded_as}
use Rattle.alias_completeness.specs.Going.{all_both}
use Rattle.alias_completeness.specs.Shapes.{IsAlike}
use Rattle.alias_made_result_laws.specs.counts.Adding.{IsOther, AddsAt, Adds, adds_gives, adds_on, adds_then, adds_if}
use Rattle.alias_made_result_laws.specs.counts.Adding.{adds_intern}
use Rattle.alias_made_result_laws.specs.counts.EffectCounts.{IsWithin, IsLight, counts_effects}

-- ---- an instruction

-- it creates no function, nothing is reported of it, and its signature has four effects at most, none of which is a
-- call or creates a function
pub record IsLightInstruction (env : Environment) (facts : FunctionFacts) (x : Instruction) : Type 0 where
  pub creates : created x.value ≡ None
  pub tells : instruction_report x.value x.span ≡ None
  pub light : AllByRecursion IsLight (signature_of (known env facts None) x)
  pub few : length (signature_of (known env facts None) x) ≤ 4

-- at most so many effects were recorded
abbrev pub Records : ℕ → StepProgress → Type 0
Records k s = length s.recorded ≤ k

with_result_records : (b : Bool) (x : IdentifierId) (s : StepProgress) → Records 8 s → Records 8 (with_result b x s)
with_result_records true x s h = h
with_result_records false x s h = h

module _ (env : Environment) (facts : FunctionFacts) (x : Instruction) (h : IsLightInstruction env facts x)
    (s : StepProgress) where
  abbrev list : List AliasingEffect
  list = signature_of (known env facts None) x

  effects_add : Adds IsOther 8 (Records 8)
      (apply_effects (context_with env facts) list (begun s)
      >>= (λ u. gives (with_result (is_some (sites_of u.state x.lvalue.identifier)) x.lvalue.identifier u)))
  effects_add =
      let finish : StepProgress → Step StepProgress =
      λ u. gives (with_result (is_some (sites_of u.state x.lvalue.identifier)) x.lvalue.identifier u) in
      adds_on IsOther (2 * length list + 0) 8 (Records 8) (Records 8)
      (apply_effects (context_with env facts) list (begun s) >>= finish) (omega (arith, h.few)) (λ u w. w)
      (adds_then IsOther (2 * length list) 0 (IsWithin (2 * length list) (begun s)) (Records 8)
      (apply_effects (context_with env facts) list (begun s)) finish
      (counts_effects (context_with env facts) list (begun s) h.light)
      (λ u w. adds_gives IsOther 0 (Records 8)
      (with_result (is_some (sites_of u.state x.lvalue.identifier)) x.lvalue.identifier u)
      (with_result_records (is_some (sites_of u.state x.lvalue.identifier)) x.lvalue.identifier u
      (omega (arith, w, h.few)))))

  without_function : (o : Option FunctionId) → o ≡ None
      → Adds IsOther 8 (Records 8) (apply_instruction (context_with env facts) o list x.lvalue.identifier s)
  without_function None e = effects_add
  without_function (Some f) e = cc

  without_reported : (o : Option (IdentifierId × Report)) → o ≡ None
      → Adds IsOther 8 (Records 8) (intern_reported o >>= (λ error. apply_signature_with env facts x error s))
  without_reported None e = without_function (created x.value) h.creates
  without_reported (Some t) e = cc

  -- the step of the instruction
  pub instruction_adds : Adds IsOther 8 (Records 8) (apply_signature env facts x s)
  instruction_adds = without_reported (instruction_report x.value x.span) h.tells

-- ---- a block

-- the refusal isn't that a counter is at its last value
abbrev pub IsOtherAt : BlockRefusal → Type 0
IsOtherAt (refused.Instruction i c) = IsOther c
IsOtherAt (refused.Uninitialized m) = Unit {0}

abbrev pub AreShort : List InstructionEffects → Type 0
AreShort xs = AllByRecursion (λ (x : InstructionEffects). length x.effects ≤ 8) xs

abbrev pub AreSingle : List TerminalEffects → Type 0
AreSingle xs = AllByRecursion (λ (x : TerminalEffects). length x.effects ≤ 1) xs

-- what is recorded of a block is short
pub record IsShort (e : BlockEffects) : Type 0 where
  pub instructions : AreShort e.instructions
  pub terminal : AreSingle e.terminal

-- the block's progress has recorded what is short
abbrev pub IsShortSoFar : BlockProgress → Type 0
IsShortSoFar s = IsShort s.effects

-- a terminal that catches nothing
abbrev pub IsLightEnd : Terminal → Type 0
IsLightEnd (MaybeThrow id continuation handler effects) = ⊥
IsLightEnd t = Unit {0}

-- three instructions at most, and nothing is caught
pub record IsLightBlock (b : BasicBlock) : Type 0 where
  pub few : length b.instructions ≤ 3
  pub ends : IsLightEnd b.terminal

recorded_short : (i : InstructionId) (es : List AliasingEffect) → length es ≤ 8 → AreShort (recorded_as i es)
recorded_short i [] h = tt
recorded_short i (e ∷ es) h = (h, tt)

terminal_single : (b : BlockId) (es : List AliasingEffect) → length es ≤ 1 → AreSingle (terminal_recorded_as b es)
terminal_single b [] h = tt
terminal_single b (e ∷ es) h = (h, tt)

module _ (c : BlockContext) where
  in_block_adds : {A : Type 0} (k : ℕ) (P : A → Type 0) (i : InstructionId) (t : TableLists)
      (r : Result (A × TableLists) Refusal) → AddsAt IsOther k P t r → AddsAt IsOtherAt k P t (in_block_at i r)
  in_block_adds k P i t (Ok p) h = h
  in_block_adds k P i t (Err e) h = h

  one_adds : (i : InstructionId) (x : Instruction) (s : BlockProgress) → IsLightInstruction c.env c.facts x
      → IsShort s.effects → Adds IsOtherAt 8 IsShortSoFar (infer_instruction c i x s)
  one_adds i x s light h =
      adds_then IsOtherAt 8 0 (Records 8) IsShortSoFar (in_block i (apply_signature c.env c.facts x (step_start s)))
      (λ u. gives (after_instruction i s.effects u))
      (λ t room. in_block_adds 8 (Records 8) i t (apply_signature c.env c.facts x (step_start s) t)
      (instruction_adds c.env c.facts x light (step_start s) t room))
      (λ u w. adds_gives IsOtherAt 0 IsShortSoFar (after_instruction i s.effects u)
      (record {
        instructions = all_both (λ (y : InstructionEffects). length y.effects ≤ 8) s.effects.instructions
            (recorded_as i u.recorded) h.instructions (recorded_short i u.recorded w);
        terminal = h.terminal;
      }))

  -- ---- the terminal

  interned_kept : (e : AliasingEffect) (t : TableLists) (r : Result (AliasingEffect × TableLists) Refusal)
      → AddsAt IsOther 0 (IsAlike e) t r → length (interned_or (e, t) r).1.reports ≤ length t.reports + 0
  interned_kept e t (Ok p) h = h.0
  interned_kept e t (Err r) h = omega arith

  interned_adds : (e : AliasingEffect) (s : BlockProgress)
      → Adds IsOtherAt 0 (Records 1) (record_interned e (step_start s))
  interned_adds e s t room = (interned_kept e t (intern e t) (adds_intern c.env e t room), omega arith)

  end_adds : (is : List InstructionId) (e : Terminal) (s : BlockProgress) → IsLightEnd e
      → Adds IsOtherAt 0 (Records 1) (terminal_action c is e (step_start s))
  end_adds is (MaybeThrow id continuation handler effects) s h = absurd h
  end_adds is (Return id value effects) s h =
      adds_if IsOtherAt 0 (Records 1) c.is_function_expression (gives (step_start s))
      (record_interned (effect.Freeze value JsxCaptured) (step_start s))
      (adds_gives IsOtherAt 0 (Records 1) (step_start s) (omega arith))
      (interned_adds (effect.Freeze value JsxCaptured) s)
  end_adds is e s h = adds_gives IsOtherAt 0 (Records 1) (step_start s) (omega arith)

  terminal_adds : (b : BlockId) (block : BasicBlock) (s : BlockProgress) → IsLightEnd block.terminal → IsShort s.effects
      → Adds IsOtherAt 0 IsShortSoFar (apply_terminal c b block s)
  terminal_adds b block s light h =
      adds_then IsOtherAt 0 0 (Records 1) IsShortSoFar
      (terminal_action c block.instructions block.terminal (step_start s))
      (λ u. gives (after_terminal b s.effects u)) (end_adds block.instructions block.terminal s light)
      (λ u w. adds_gives IsOtherAt 0 IsShortSoFar (after_terminal b s.effects u)
      (record { instructions = h.instructions; terminal = terminal_single b u.recorded w }))

  -- ---- all of it

  abbrev pub IsShortEnd : State × BlockEffects → Type 0
  IsShortEnd p = IsShort p.1

  finished_adds : (o : Option MissingLookup) (s : BlockProgress) → IsShort s.effects
      → Adds IsOtherAt 0 IsShortEnd (finished_at o s)
  finished_adds None s h = adds_gives IsOtherAt 0 IsShortEnd (s.state, s.effects) h
  finished_adds (Some lookup) s h = λ t room. tt

  module _ (light : (n : ℕ) (x : Instruction) → slice_get c.func.instructions n ≡ Some x
      → IsLightInstruction c.env c.facts x) where
    at_adds : (i : InstructionId) (o : Option Instruction) (s : BlockProgress) → slice_get c.func.instructions i.0 ≡ o
        → IsShort s.effects → Adds IsOtherAt 8 IsShortSoFar (infer_instruction_at c i o s)
    at_adds i None s e h = adds_gives IsOtherAt 8 IsShortSoFar s h
    at_adds i (Some x) s e h = one_adds i x s (light i.0 x e) h

    signatures_add : (is : List InstructionId) (s : BlockProgress) → IsShort s.effects
        → Adds IsOtherAt (8 * length is) IsShortSoFar (apply_signatures c is s)
    signatures_add [] s h = adds_gives IsOtherAt (8 * length {A = InstructionId} []) IsShortSoFar s h
    signatures_add (i ∷ is) s h =
        adds_on IsOtherAt (8 + 8 * length is) (8 * length (i ∷ is)) IsShortSoFar IsShortSoFar
        (apply_signatures c (i ∷ is) s) (omega arith) (λ u w. w)
        (adds_then IsOtherAt 8 (8 * length is) IsShortSoFar IsShortSoFar
        (infer_instruction_at c i (slice_get c.func.instructions i.0) s) (apply_signatures c is)
        (at_adds i (slice_get c.func.instructions i.0) s refl h) (λ u w. signatures_add is u w))

    -- the step of a block with three instructions at most adds 24 reports at most
    pub block_adds : (b : BlockId) (block : BasicBlock) (x : State) → IsLightBlock block
        → Adds IsOtherAt 24 IsShortEnd (infer_block c b block x)
    block_adds b block x h =
        let rest : BlockProgress → BlockStep (State × BlockEffects) = λ s. apply_terminal c b block s >>= finished in
        adds_on IsOtherAt (8 * length block.instructions + 0) 24 IsShortEnd IsShortEnd (infer_block c b block x)
        (omega (arith, h.few)) (λ p w. w)
        (adds_then IsOtherAt (8 * length block.instructions) 0 IsShortSoFar IsShortEnd
        (apply_signatures c block.instructions (block_start (infer_phis block.phis x))) rest
        (signatures_add block.instructions (block_start (infer_phis block.phis x))
        (record { instructions = tt; terminal = tt }))
        (λ s w. adds_then IsOtherAt 0 0 IsShortSoFar IsShortEnd (apply_terminal c b block s) finished
        (terminal_adds b block s h.ends w) (λ u v. finished_adds u.missing u v)))
