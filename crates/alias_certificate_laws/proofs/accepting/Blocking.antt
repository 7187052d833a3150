-- The step of a block repeats, whatever interned effects and reports there are.
use Rattle.std.specs.Prelude.{◌≡◌, Bool, List, [], ◌++◌, Option, Some, None, Result, Ok, slice_get, refl}
use Rattle.std.proofs.Common.{ap, sym, ◌∙◌, subst}
use Rattle.std.specs.Option.{is_some}
use Rattle.alias_base.specs.declared.ids.BlockId.{BlockId}
use Rattle.alias_base.specs.declared.ids.InstructionId.{InstructionId}
use Rattle.alias_hir.specs.declared.effect.AliasingEffect.{AliasingEffect}
use Rattle.alias_hir.specs.declared.effect.AliasingEffect.TheVariants as effect
use Rattle.alias_hir.specs.declared.effect.ValueReason.TheVariants.{JsxCaptured}
use Rattle.alias_hir.specs.declared.hir.BasicBlock.{BasicBlock}
use Rattle.alias_hir.specs.declared.hir.Instruction.{Instruction}
use Rattle.alias_hir.specs.declared.place.Place.{Place}
use Rattle.alias_hir.specs.declared.terminal.Terminal.{Terminal}
use Rattle.alias_hir.specs.declared.terminal.Terminal.TheVariants.{MaybeThrow, Return}
use Rattle.alias_lattice.specs.declared.lookup.MissingLookup.{MissingLookup}
use Rattle.alias_lattice.specs.States.{State, sites_of, appended}
use Rattle.alias_tables.specs.GrowingLaws.{Grows, grows_self}
use Rattle.alias_tables.specs.ReplayLaws.{first_is, tables_are}
use Rattle.alias_tables.specs.Tables.{TableLists, Step}
use Rattle.alias_tables.specs.declared.faults.Refusal.{Refusal}
use Rattle.alias_tables.specs.declared.temporaries.Temporary.{Temporary}
use Rattle.alias_apply.specs.declared.progress.StepProgress.{StepProgress}
use Rattle.alias_apply.specs.Kinds.{is_writable}
use Rattle.alias_apply.specs.Progress.{record_of, with_state, kind_at}
use Rattle.alias_step.specs.declared.block.block.BlockProgress.{BlockProgress}
use Rattle.alias_step.specs.declared.block.faults.BlockRefusal.{BlockRefusal}
use Rattle.alias_step.specs.declared.block.faults.BlockRefusal.TheVariants.{Uninitialized, Instruction as Refused}
use Rattle.alias_step.specs.declared.block.recorded.BlockEffects.{BlockEffects}
use Rattle.alias_step.specs.block.Actions.{interned_or, record_interned, catch_call, is_call, catch_instruction}
use Rattle.alias_step.specs.block.Actions.{catch_calls, handler_binding, catch_into, return_value, terminal_action}
use Rattle.alias_step.specs.block.Blocks.{infer_phis, step_start, after_instruction, infer_instruction}
use Rattle.alias_step.specs.block.Blocks.{infer_instruction_at, apply_signatures, after_terminal, apply_terminal}
use Rattle.alias_step.specs.block.Blocks.{block_start, finished_at, finished, infer_block}
use Rattle.alias_step.specs.block.Contexts.{BlockContext}
use Rattle.alias_step.specs.block.Faults.{BlockStep, in_block_at, in_block}
use Rattle.alias_step.specs.block.Recorded.{recorded_as, terminal_recorded_as}
use Rattle.alias_step.specs.block.ReplayLaws.{in_block_gives}
use Rattle.alias_certificate_laws.specs.accepting.Alike.{Paired, none, more, Alike, AlikeEffects, AlikeLookup, there}
use Rattle.alias_certificate_laws.specs.accepting.Alike.{missing, AlikeProgress, like, AlikeTemporaries, IsFull, Gives}
use Rattle.alias_certificate_laws.specs.accepting.Alike.{given, excused, Repeats, Elsewhere, elsewhere}
use Rattle.alias_certificate_laws.specs.accepting.AlikeBlocks.{AlikeInstruction, of_instruction, AlikeTerminal}
use Rattle.alias_certificate_laws.specs.accepting.AlikeBlocks.{of_terminal, AlikeRecorded, AlikeSoFar, so_far, AlikeOut}
use Rattle.alias_certificate_laws.specs.accepting.AlikeBlocks.{out, IsBlockFull}
use Rattle.alias_certificate_laws.proofs.accepting.Interning.{interned}
use Rattle.alias_certificate_laws.proofs.accepting.Likeness.{paired_self, paired_append, alike_self, alike_sym}
use Rattle.alias_certificate_laws.proofs.accepting.Likeness.{alike_trans, lookup_self, progress_self}
use Rattle.alias_certificate_laws.proofs.accepting.Repeating.{repeats_gives, repeats_refuses, repeats_then, repeats_if}
use Rattle.alias_certificate_laws.proofs.accepting.Repeating.{repeats_each}
use Rattle.alias_certificate_laws.proofs.accepting.Applying.{recorded_alike, stated}
use Rattle.alias_certificate_laws.proofs.accepting.Stepping.{same_signature}

-- ---- a step of an instruction as one of its block's

in_block_given : {A : Type 0} {whole : List Temporary} {R : A → A → Type 0} (i : InstructionId) (x : A)
    (r : Result (A × TableLists) Refusal) → Gives IsFull whole R x r → Gives IsBlockFull whole R x (in_block_at i r)
in_block_given i x r (given y v is a t) = given y v (ap (in_block_at i) is) a t
in_block_given i x r (excused c is why) = excused (Refused i c) (ap (in_block_at i) is) why

repeats_in_block : {A : Type 0} {whole : List Temporary} (R : A → A → Type 0) (i : InstructionId) (f g : Step A)
    → Repeats IsFull whole R f g → Repeats IsBlockFull whole R (in_block i f) (in_block i g)
repeats_in_block R i f g h = record {
  grows = λ t u x e. h.grows t u x (in_block_gives i (f t) (x, u) e);
  again = λ t u v x e a b. in_block_given i x (g v) (h.again t u v x (in_block_gives i (f t) (x, u) e) a b);
}

-- ---- interning is never refused

recorded_is : (e : AliasingEffect) (s : StepProgress) (t : TableLists) → record_interned e s t
    ≡ Ok (record_of (interned e t).effect s, (interned e t).tables)
recorded_is e s t = ap (λ r. let first = interned_or (e, t) r in
    let q : Result (StepProgress × TableLists) BlockRefusal = Ok (record_of first.0 s, first.1) in q) (interned e t).is

interned_alike : (e f : AliasingEffect) (t v : TableLists) → Alike e f
    → Alike (interned e t).effect (interned f v).effect
interned_alike e f t v a = alike_trans (interned e t).effect e (interned f v).effect
    (alike_sym e (interned e t).effect (interned e t).alike)
    (alike_trans e f (interned f v).effect a (interned f v).alike)

-- ---- what is recorded

recorded_as_alike : (i : InstructionId) (es fs : List AliasingEffect) → AlikeEffects es fs
    → Paired AlikeInstruction (recorded_as i es) (recorded_as i fs)
recorded_as_alike i es fs none = none
recorded_as_alike i es fs (more q qs) = more (of_instruction i _ _ (more q qs)) none

terminal_recorded_alike : (b : BlockId) (es fs : List AliasingEffect) → AlikeEffects es fs
    → Paired AlikeTerminal (terminal_recorded_as b es) (terminal_recorded_as b fs)
terminal_recorded_alike b es fs none = none
terminal_recorded_alike b es fs (more q qs) = more (of_terminal b _ _ (more q qs)) none

start_alike : (s t : BlockProgress) → AlikeSoFar s t → AlikeProgress (step_start s) (step_start t)
start_alike s t (so_far u e m a l) = like (step_start u) [] m none l

before_alike : (s t : BlockProgress) → AlikeSoFar s t → AlikeRecorded s.effects t.effects
before_alike s t (so_far u e m a l) = a

after_instruction_alike : (i : InstructionId) (r q : BlockEffects) (s t : StepProgress) → AlikeRecorded r q
    → AlikeProgress s t → AlikeSoFar (after_instruction i r s) (after_instruction i q t)
after_instruction_alike i r q s t a (like u es m b l) =
    so_far (after_instruction i r u) (record q { instructions = q.instructions ++ recorded_as i es }) m
    (record {
      instructions = paired_append a.instructions (recorded_as_alike i u.recorded es b);
      terminal = a.terminal;
    }) l

after_terminal_alike : (b : BlockId) (r q : BlockEffects) (s t : StepProgress) → AlikeRecorded r q → AlikeProgress s t
    → AlikeSoFar (after_terminal b r s) (after_terminal b q t)
after_terminal_alike b r q s t a (like u es m d l) =
    so_far (after_terminal b r u) (record q { terminal = terminal_recorded_as b es }) m
    (record { instructions = a.instructions; terminal = terminal_recorded_alike b u.recorded es d }) l

instruction_self : (r : BlockEffects) → AlikeRecorded r r
instruction_self r = record {
  instructions = paired_self AlikeInstruction
      (λ i. of_instruction i.instruction i.effects i.effects (paired_self Alike alike_self i.effects)) r.instructions;
  terminal = paired_self AlikeTerminal (λ i.
      of_terminal i.block i.effects i.effects (paired_self Alike alike_self i.effects)) r.terminal;
}

so_far_self : (s : BlockProgress) → AlikeSoFar s s
so_far_self s = so_far s s.effects s.missing (instruction_self s.effects) (lookup_self s.missing)

-- the second step of a block repeats the first
abbrev Same : List Temporary → BlockStep StepProgress → BlockStep StepProgress → Type 0
Same whole f g = Repeats IsBlockFull whole AlikeProgress f g

-- the same over the environment elsewhere
abbrev pub away : (c : BlockContext) → Elsewhere c.env → BlockContext
away c o = record c { env = elsewhere c.env o }

module _ {whole : List Temporary} where
  same_record_interned : (e f : AliasingEffect) (s t : StepProgress) → Alike e f → AlikeProgress s t
      → Same whole (record_interned e s) (record_interned f t)
  same_record_interned e f s t a b = record {
    grows = λ t₀ u y h.
        let i = interned e t₀ in
        let tables : i.tables ≡ u = tables_are (record_of i.effect s) y i.tables u (sym (recorded_is e s t₀) ∙ h) in
        subst (λ (w : TableLists). Grows t₀.temporaries w.temporaries) tables
        (subst (Grows t₀.temporaries) (sym i.same) (grows_self t₀.temporaries));
    again = λ t₀ u v y h g likes.
        let i = interned e t₀ in
        let j = interned f v in
        let first : record_of i.effect s ≡ y =
        first_is (record_of i.effect s) y i.tables u (sym (recorded_is e s t₀) ∙ h) in
        given (record_of j.effect t) j.tables (recorded_is f t v)
        (subst (λ z. AlikeProgress z (record_of j.effect t)) first
        (recorded_alike i.effect j.effect s t (interned_alike e f t₀ v a) b))
        (subst (AlikeTemporaries whole) (sym j.same) likes);
  }

  -- ---- the terminal

  same_catch_call : (binding x : Place) (s t : StepProgress) → AlikeProgress s t
      → Same whole (catch_call binding x s) (catch_call binding x t)
  same_catch_call binding x s t (like u r m a l) =
      let now = stated (appended binding.identifier x.identifier) u _ (like u r m a l) in
      repeats_if AlikeProgress (is_writable (kind_at x
      (with_state (appended binding.identifier x.identifier u.state) u))) _ _ _ _
      (same_record_interned _ _ _ _ (alike_self (effect.Alias x binding)) now) (repeats_gives AlikeProgress _ _ now)

  same_catch_instruction : (binding : Place) (o : Option Instruction) (s t : StepProgress) → AlikeProgress s t
      → Same whole (catch_instruction binding o s) (catch_instruction binding o t)
  same_catch_instruction binding None s t a = repeats_gives AlikeProgress s t a
  same_catch_instruction binding (Some x) s t a =
      repeats_if AlikeProgress (is_call x.value) _ _ _ _ (same_catch_call binding x.lvalue s t a)
      (repeats_gives AlikeProgress s t a)

  same_catch_calls : (instructions : List Instruction) (binding : Place) (is : List InstructionId) (s t : StepProgress)
      → AlikeProgress s t → Same whole (catch_calls instructions binding is s) (catch_calls instructions binding is t)
  same_catch_calls instructions binding is s t a =
      repeats_each (λ i j. i ≡ j) AlikeProgress progress_self
      (λ i. catch_instruction binding (slice_get instructions i.0))
      (λ i. catch_instruction binding (slice_get instructions i.0))
      (λ i j e u v b. subst (λ z. Same whole (catch_instruction binding (slice_get instructions i.0) u)
      (catch_instruction binding (slice_get instructions z.0) v)) e
      (same_catch_instruction binding (slice_get instructions i.0) u v b))
      is is (paired_self (λ i j. i ≡ j) (λ i. refl) is) s t a

  same_catch_into : (instructions : List Instruction) (o : Option Place) (is : List InstructionId) (s t : StepProgress)
      → AlikeProgress s t → Same whole (catch_into instructions o is s) (catch_into instructions o is t)
  same_catch_into instructions None is s t a = repeats_gives AlikeProgress s t a
  same_catch_into instructions (Some binding) is s t (like u r m a l) =
      repeats_if AlikeProgress (is_some (sites_of u.state binding.identifier)) _ _ _ _
      (same_catch_calls instructions binding is u _ (like u r m a l))
      (repeats_gives AlikeProgress u _ (like u r m a l))

  same_return_value : (b : Bool) (value : Place) (s t : StepProgress) → AlikeProgress s t
      → Same whole (return_value b value s) (return_value b value t)
  same_return_value b value s t a = repeats_if AlikeProgress b _ _ _ _ (repeats_gives AlikeProgress s t a)
      (same_record_interned _ _ s t (alike_self (effect.Freeze value JsxCaptured)) a)

  same_terminal_action : (c : BlockContext) (o : Elsewhere c.env) (is : List InstructionId) (z : Terminal)
      (s t : StepProgress) → AlikeProgress s t
      → Same whole (terminal_action c is z s) (terminal_action (away c o) is z t)
  same_terminal_action c o is (MaybeThrow id continuation handler effects) s t a =
      same_catch_into c.func.instructions (handler_binding c.facts.handlers handler) is s t a
  same_terminal_action c o is (Return id value effects) s t a = same_return_value c.is_function_expression value s t a
  same_terminal_action c o is z s t a = repeats_gives AlikeProgress s t a

  -- ---- a block

  same_finished_at : (m n : Option MissingLookup) (s t : BlockProgress) → AlikeLookup m n → AlikeSoFar s t
      → Repeats IsBlockFull whole AlikeOut (finished_at m s) (finished_at n t)
  same_finished_at m n s t (missing l k) a = repeats_refuses AlikeOut (Uninitialized l) _
  same_finished_at m n s t there (so_far u e k a l) = repeats_gives AlikeOut _ _ (out u.state u.effects e a)

  same_finished : (s t : BlockProgress) → AlikeSoFar s t → Repeats IsBlockFull whole AlikeOut (finished s) (finished t)
  same_finished s t (so_far u e m a l) = same_finished_at u.missing m u _ l (so_far u e m a l)

  module _ (c : BlockContext) (o : Elsewhere c.env) where
    same_infer_instruction : (i : InstructionId) (x : Instruction) (s t : BlockProgress) → AlikeSoFar s t
        → Repeats IsBlockFull whole AlikeSoFar (infer_instruction c i x s) (infer_instruction (away c o) i x t)
    same_infer_instruction i x s t a =
        repeats_then AlikeProgress AlikeSoFar progress_self _ _ _ _
        (repeats_in_block AlikeProgress i _ _
        (same_signature c.env o c.facts x (step_start s) (step_start t) (start_alike s t a)))
        (λ u v b. repeats_gives AlikeSoFar _ _
        (after_instruction_alike i s.effects t.effects u v (before_alike s t a) b))

    same_infer_instruction_at : (i : InstructionId) (z : Option Instruction) (s t : BlockProgress) → AlikeSoFar s t
        → Repeats IsBlockFull whole AlikeSoFar (infer_instruction_at c i z s) (infer_instruction_at (away c o) i z t)
    same_infer_instruction_at i None s t a = repeats_gives AlikeSoFar s t a
    same_infer_instruction_at i (Some x) s t a = same_infer_instruction i x s t a

    same_apply_signatures : (is : List InstructionId) (s t : BlockProgress) → AlikeSoFar s t
        → Repeats IsBlockFull whole AlikeSoFar (apply_signatures c is s) (apply_signatures (away c o) is t)
    same_apply_signatures is s t a =
        repeats_each (λ i j. i ≡ j) AlikeSoFar so_far_self
        (λ i. infer_instruction_at c i (slice_get c.func.instructions i.0))
        (λ i. infer_instruction_at (away c o) i (slice_get c.func.instructions i.0))
        (λ i j e u v b. subst (λ z. Repeats IsBlockFull whole AlikeSoFar
        (infer_instruction_at c i (slice_get c.func.instructions i.0) u)
        (infer_instruction_at (away c o) z (slice_get c.func.instructions z.0) v)) e
        (same_infer_instruction_at i (slice_get c.func.instructions i.0) u v b))
        is is (paired_self (λ i j. i ≡ j) (λ i. refl) is) s t a

    same_apply_terminal : (b : BlockId) (block : BasicBlock) (s t : BlockProgress) → AlikeSoFar s t
        → Repeats IsBlockFull whole AlikeSoFar (apply_terminal c b block s) (apply_terminal (away c o) b block t)
    same_apply_terminal b block s t a =
        repeats_then AlikeProgress AlikeSoFar progress_self _ _ _ _
        (same_terminal_action c o block.instructions block.terminal (step_start s) (step_start t)
        (start_alike s t a))
        (λ u v d. repeats_gives AlikeSoFar _ _ (after_terminal_alike b s.effects t.effects u v (before_alike s t a) d))

    pub same_infer_block : (b : BlockId) (block : BasicBlock) (x : State)
        → Repeats IsBlockFull whole AlikeOut (infer_block c b block x) (infer_block (away c o) b block x)
    same_infer_block b block x =
        repeats_then AlikeSoFar AlikeOut so_far_self _ _ _ _
        (same_apply_signatures block.instructions _ _ (so_far_self (block_start (infer_phis block.phis x))))
        (λ s t a.
        repeats_then AlikeSoFar AlikeOut so_far_self _ _ _ _ (same_apply_terminal b block s t a)
        (λ u v d. same_finished u v d))
