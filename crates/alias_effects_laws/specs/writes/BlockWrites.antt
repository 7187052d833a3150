-- What the instructions of a block write for certain, where it isn't to be written, stands as an error in what the
-- block records.
use Rattle.std.specs.Prelude.{◌≡◌, Bool, true, false, ◌&&◌, ◌==◌, List, [], ◌∷◌, ◌++◌, Option, None, Some, Result, Ok}
use Rattle.std.specs.Prelude.{Err, slice_get, refl}
use Rattle.std.specs.List.{AllByRecursion}
use Rattle.std.proofs.Common.{subst, eq-eqb}
use Rattle.alias_base.specs.declared.ids.BlockId.{BlockId}
use Rattle.alias_base.specs.declared.ids.InstructionId.{InstructionId}
use Rattle.alias_hir.specs.declared.effect.AliasingEffect.{AliasingEffect}
use Rattle.alias_hir.specs.declared.hir.BasicBlock.{BasicBlock}
use Rattle.alias_hir.specs.declared.hir.Instruction.{Instruction}
use Rattle.alias_lattice.specs.declared.lookup.MissingLookup.{MissingLookup}
use Rattle.alias_lattice.specs.States.{State}
use Rattle.alias_tables.specs.ReplayLaws.{first_is, not_given}
use Rattle.alias_tables.specs.Steps.{◌>>=◌, and_then, gives}
use Rattle.alias_tables.specs.Tables.{TableLists}
use Rattle.alias_tables.specs.declared.faults.Refusal.{Refusal}
use Rattle.alias_apply.specs.declared.progress.StepProgress.{StepProgress}
use Rattle.alias_step.specs.Instructions.{apply_signature, context_with}
use Rattle.alias_step.specs.block.Actions.{terminal_action}
use Rattle.alias_step.specs.block.Blocks.{step_start, after_instruction, infer_instruction_at, apply_signatures}
use Rattle.alias_step.specs.block.Blocks.{after_terminal, apply_terminal, block_start, infer_phis, finished_at}
use Rattle.alias_step.specs.block.Blocks.{finished, infer_block}
use Rattle.alias_step.specs.block.Contexts.{BlockContext}
use Rattle.alias_step.specs.block.Faults.{BlockStep, in_block, in_block_at}
use Rattle.alias_step.specs.block.Recorded.{recorded_as}
use Rattle.alias_step.specs.declared.block.block.BlockProgress.{BlockProgress}
use Rattle.alias_step.specs.declared.block.faults.BlockRefusal.{BlockRefusal}
use Rattle.alias_step.specs.declared.block.faults.BlockRefusal.TheVariants.{Instruction as RefusedInstruction}
use Rattle.alias_step.specs.declared.block.faults.BlockRefusal.TheVariants.{Uninitialized}
use Rattle.alias_step.specs.declared.block.recorded.BlockEffects.{BlockEffects}
use Rattle.alias_step.specs.declared.block.recorded.InstructionEffects.{InstructionEffects}
use Rattle.alias_effects_laws.specs.writes.Telling.{LeadsTo, All, Tells, tells_each, leads_then}
use Rattle.alias_effects_laws.specs.writes.WriteLaws.{AllReported, any_more, any_last, tells_signature}
use Rattle.alias_effects_laws.specs.writes.Writes.{Write, by_instruction, instruction_writes, writes_at, writes_of_all}
use Rattle.alias_effects_laws.specs.writes.Writes.{block_writes, is_forbidden, has_write_error, is_reported_by}
use Rattle.alias_effects_laws.specs.writes.Writes.{is_reported}

both : (a b : Bool) → a ≡ true → b ≡ true → (a && b) ≡ true
both true b h g = g
both false b h g = h

module _ (c : BlockContext) where
  -- if the write isn't allowed, its error stands among what was recorded of its instruction
  abbrev pub ReportedIn : List InstructionEffects → InstructionId × Write → Type 0
  ReportedIn recorded w = is_forbidden c.env w.1 ≡ true → is_reported recorded w ≡ true

  abbrev pub InProgress : BlockProgress → InstructionId × Write → Type 0
  InProgress s w = ReportedIn s.effects.instructions w

  abbrev pub InOutcome : State × BlockEffects → InstructionId × Write → Type 0
  InOutcome r w = ReportedIn r.1.instructions w

  all_reported_more : (ws : List (InstructionId × Write)) (before more : List InstructionEffects)
      → AllByRecursion (ReportedIn before) ws → AllByRecursion (ReportedIn (before ++ more)) ws
  all_reported_more [] before more h = tt
  all_reported_more (w ∷ ws) before more h =
      ((λ f. any_more (is_reported_by w) before more (h.0 f)), all_reported_more ws before more h.1)

  -- ---- one instruction

  recorded_tells : (i : InstructionId) (w : Write) (before : List InstructionEffects) (es : List AliasingEffect)
      → has_write_error w.place.identifier es ≡ true → is_reported (before ++ recorded_as i es) (i, w) ≡ true
  recorded_tells i w before [] h = cc
  recorded_tells i w before (e ∷ es) h =
      any_last (is_reported_by (i, w)) before (record { instruction = i; effects = e ∷ es })
      (both (i.0 == i.0) (has_write_error w.place.identifier (e ∷ es)) (eq-eqb i.0 i.0 refl) h)

  all_recorded : (i : InstructionId) (ws : List Write) (before : List InstructionEffects) (es : List AliasingEffect)
      → AllByRecursion (λ (w : Write). is_forbidden c.env w ≡ true → has_write_error w.place.identifier es ≡ true) ws
      → AllByRecursion (ReportedIn (before ++ recorded_as i es)) (by_instruction i ws)
  all_recorded i [] before es h = tt
  all_recorded i (w ∷ ws) before es h = ((λ f. recorded_tells i w before es (h.0 f)), all_recorded i ws before es h.1)

  instruction_bound : (i : InstructionId) (s : BlockProgress) (ws : List Write)
      (r : Result (StepProgress × TableLists) Refusal) (u : TableLists) (y : BlockProgress)
      → ((z : StepProgress) (v : TableLists) → r ≡ Ok (z, v) → AllReported (context_with c.env c.facts) ws z.recorded)
      → and_then (in_block_at i r) (λ z. gives (after_instruction i s.effects z)) ≡ Ok (y, u)
      → AllByRecursion (InProgress y) (by_instruction i ws)
  instruction_bound i s ws (Ok p) u y h e =
      let next = after_instruction i s.effects p.0 in
      subst (λ (z : BlockProgress). AllByRecursion (InProgress z) (by_instruction i ws)) (first_is next y p.1 u e)
      (all_recorded i ws s.effects.instructions p.0.recorded (h p.0 p.1 refl))
  instruction_bound i s ws (Err x) u y h e = not_given (RefusedInstruction i x) y u e

  instruction_tells : (i : InstructionId) (o : Option Instruction) (s : BlockProgress)
      → Tells InProgress (infer_instruction_at c i o s) (writes_at c i o s)
  instruction_tells i None s t u y e = tt
  instruction_tells i (Some x) s t u y e =
      let started = step_start s in
      instruction_bound i s (instruction_writes c.env c.facts x started t) (apply_signature c.env c.facts x started t) u
      y (λ z v. tells_signature c.env c.facts x started t v z) e

  -- ---- what comes after it keeps what was reported

  keeps_bound : (i : InstructionId) (s : BlockProgress) (ws : List (InstructionId × Write))
      (r : Result (StepProgress × TableLists) BlockRefusal) (u : TableLists) (y : BlockProgress)
      → AllByRecursion (InProgress s) ws → and_then r (λ z. gives (after_instruction i s.effects z)) ≡ Ok (y, u)
      → AllByRecursion (InProgress y) ws
  keeps_bound i s ws (Ok p) u y h e =
      let next = after_instruction i s.effects p.0 in
      subst (λ (z : BlockProgress). AllByRecursion (InProgress z) ws) (first_is next y p.1 u e)
      (all_reported_more ws s.effects.instructions (recorded_as i p.0.recorded) h)
  keeps_bound i s ws (Err x) u y h e = not_given x y u e

  instruction_keeps : (ws : List (InstructionId × Write)) (i : InstructionId) (o : Option Instruction)
      (s : BlockProgress) → All InProgress ws s → LeadsTo (All InProgress ws) (infer_instruction_at c i o s)
  instruction_keeps ws i None s h t u y e = subst (All InProgress ws) (first_is s y t u e) h
  instruction_keeps ws i (Some x) s h t u y e =
      keeps_bound i s ws (in_block i (apply_signature c.env c.facts x (step_start s)) t) u y h e

  instructions_tell : (is : List InstructionId) (s : BlockProgress)
      → Tells InProgress (apply_signatures c is s) (writes_of_all c is s)
  instructions_tell =
      tells_each InProgress (λ i. infer_instruction_at c i (slice_get c.func.instructions i.0))
      (λ i. writes_at c i (slice_get c.func.instructions i.0))
      (λ i. instruction_tells i (slice_get c.func.instructions i.0))
      (λ ws i. instruction_keeps ws i (slice_get c.func.instructions i.0))

  terminal_bound : (b : BlockId) (s : BlockProgress) (ws : List (InstructionId × Write))
      (r : Result (StepProgress × TableLists) BlockRefusal) (u : TableLists) (y : BlockProgress)
      → AllByRecursion (InProgress s) ws → and_then r (λ z. gives (after_terminal b s.effects z)) ≡ Ok (y, u)
      → AllByRecursion (InProgress y) ws
  terminal_bound b s ws (Ok p) u y h e = subst (λ (z : BlockProgress). AllByRecursion (InProgress z) ws)
      (first_is (after_terminal b s.effects p.0) y p.1 u e) h
  terminal_bound b s ws (Err x) u y h e = not_given x y u e

  terminal_keeps : (b : BlockId) (block : BasicBlock) (ws : List (InstructionId × Write)) (s : BlockProgress)
      → All InProgress ws s → LeadsTo (All InProgress ws) (apply_terminal c b block s)
  terminal_keeps b block ws s h t u y e =
      terminal_bound b s ws (terminal_action c block.instructions block.terminal (step_start s) t) u y h e

  finished_keeps : (ws : List (InstructionId × Write)) (m : Option MissingLookup) (s : BlockProgress)
      → All InProgress ws s → LeadsTo (All InOutcome ws) (finished_at m s)
  finished_keeps ws None s h t u y e = subst (All InOutcome ws) (first_is (s.state, s.effects) y t u e) h
  finished_keeps ws (Some lookup) s h t u y e = not_given (Uninitialized lookup) y u e

  -- ---- the block

  end_keeps : (b : BlockId) (block : BasicBlock) (ws : List (InstructionId × Write)) (s : BlockProgress)
      → All InProgress ws s → LeadsTo (All InOutcome ws) (apply_terminal c b block s >>= finished)
  end_keeps b block ws s h = leads_then (All InProgress ws) (All InOutcome ws) (apply_terminal c b block s) finished
      (terminal_keeps b block ws s h) (λ z. finished_keeps ws z.missing z)

  leads_bound : (ws : List (InstructionId × Write)) (r : Result (BlockProgress × TableLists) BlockRefusal)
      (g : BlockProgress → BlockStep (State × BlockEffects)) (u : TableLists) (y : State × BlockEffects)
      → ((z : BlockProgress) (v : TableLists) → r ≡ Ok (z, v) → All InProgress ws z)
      → ((z : BlockProgress) → All InProgress ws z → LeadsTo (All InOutcome ws) (g z)) → and_then r g ≡ Ok (y, u)
      → All InOutcome ws y
  leads_bound ws (Ok p) g u y f h e = h p.0 (f p.0 p.1 refl) p.1 u y e
  leads_bound ws (Err x) g u y f h e = not_given x y u e

  -- each forbidden write of the block's instructions stands as an error of its instruction
  pub block_tells : (b : BlockId) (block : BasicBlock) (x : State) (t u : TableLists) (y : State × BlockEffects)
      → infer_block c b block x t ≡ Ok (y, u) → AllByRecursion (ReportedIn y.1.instructions) (block_writes c block x t)
  block_tells b block x t u y e =
      let s = block_start (infer_phis block.phis x) in
      leads_bound (block_writes c block x t) (apply_signatures c block.instructions s t)
      (λ z. apply_terminal c b block z >>= finished) u y (λ z v. instructions_tell block.instructions s t v z)
      (end_keeps b block (block_writes c block x t)) e
