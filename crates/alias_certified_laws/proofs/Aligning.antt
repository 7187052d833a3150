-- What the step of a block records stands in the order of its instructions, an entry for each of which anything is
-- recorded.
use Rattle.std.specs.Prelude.{◌≡◌, ◌⊎◌, List, [], ◌∷◌, ◌++◌, Option, Some, None, Result, Ok, Err, slice_get, refl}
use Rattle.std.proofs.Common.{ap, sym, ◌∙◌, inl, inr, subst, append_assoc, append-nil}
use Rattle.alias_base.specs.declared.ids.BlockId.{BlockId}
use Rattle.alias_base.specs.declared.ids.InstructionId.{InstructionId}
use Rattle.alias_hir.specs.Terminals.{terminal_effects, with_terminal_effects}
use Rattle.alias_hir.specs.declared.effect.AliasingEffect.{AliasingEffect}
use Rattle.alias_hir.specs.declared.hir.BasicBlock.{BasicBlock}
use Rattle.alias_hir.specs.declared.hir.Instruction.{Instruction}
use Rattle.alias_hir.specs.declared.terminal.Terminal.{Terminal}
use Rattle.alias_hir.specs.declared.terminal.Terminal.TheVariants as terminal
use Rattle.alias_lattice.specs.States.{State}
use Rattle.alias_lattice.specs.declared.lookup.MissingLookup.{MissingLookup}
use Rattle.alias_tables.specs.ReplayLaws.{first_is, not_given}
use Rattle.alias_tables.specs.Steps.{and_then, gives}
use Rattle.alias_tables.specs.Tables.{TableLists}
use Rattle.alias_apply.specs.declared.progress.StepProgress.{StepProgress}
use Rattle.alias_step.specs.Instructions.{apply_signature}
use Rattle.alias_step.specs.block.Actions.{terminal_action}
use Rattle.alias_step.specs.block.Blocks.{infer_phis, step_start, after_instruction, infer_instruction_at}
use Rattle.alias_step.specs.block.Blocks.{apply_signatures, after_terminal, apply_terminal, block_start, finished_at}
use Rattle.alias_step.specs.block.Blocks.{finished, infer_block}
use Rattle.alias_step.specs.block.Contexts.{BlockContext}
use Rattle.alias_step.specs.block.Faults.{in_block}
use Rattle.alias_step.specs.block.Recorded.{recorded_as, terminal_recorded_as}
use Rattle.alias_step.specs.declared.block.block.BlockProgress.{BlockProgress}
use Rattle.alias_step.specs.declared.block.faults.BlockRefusal.{BlockRefusal}
use Rattle.alias_step.specs.declared.block.recorded.BlockEffects.{BlockEffects}
use Rattle.alias_step.specs.declared.block.recorded.InstructionEffects.{InstructionEffects}
use Rattle.alias_step.specs.declared.block.recorded.TerminalEffects.{TerminalEffects}

-- entries in the order of the numbers, each of an instruction that is there
pub data Aligned (xs : List Instruction) : List InstructionId → List InstructionEffects → Type 0 where
  none : Aligned xs [] []
  skip : (i : InstructionId) {is : List InstructionId} {es : List InstructionEffects} → Aligned xs is es
      → Aligned xs (i ∷ is) es
  take : (i : InstructionId) (x : Instruction) (es : List AliasingEffect) {is : List InstructionId}
      {rest : List InstructionEffects} → slice_get xs i.0 ≡ Some x → Aligned xs is rest
      → Aligned xs (i ∷ is) (record { instruction = i; effects = es } ∷ rest)

split : {A B C : Type 0} (g : A → TableLists → Result (B × TableLists) C) (r : Result (A × TableLists) C) (y : B)
    (w : TableLists) → and_then r g ≡ Ok (y, w)
    → (x : A) × (u : TableLists) × (r ≡ Ok (x, u)) × (g x u ≡ Ok (y, w))
split g (Ok p) y w e = (p.0, p.1, refl, e)
split g (Err c) y w e = not_given c y w e

-- the terminal carries what is put on it
abbrev pub CanCarry : Terminal → Type 0
CanCarry t = (es : List AliasingEffect) → terminal_effects (with_terminal_effects t es) ≡ Some es

-- what is recorded of the terminal: nothing, where it can't carry any
pub record EndOf (b : BlockId) (t : Terminal) (rs : List TerminalEffects) : Type 0 where
  pub effects : List AliasingEffect
  pub is : rs ≡ terminal_recorded_as b effects
  pub carried : (effects ≡ []) ⊎ CanCarry t

module _ (c : BlockContext) where
  abbrev Xs : List Instruction
  Xs = c.func.instructions

  -- ---- instructions

  -- what a part of a block's step adds
  record Adds (is : List InstructionId) (s u : BlockProgress) : Type 0 where
    more : List InstructionEffects
    is_so : u.effects.instructions ≡ s.effects.instructions ++ more
    aligned : Aligned Xs is more
    ends : u.effects.terminal ≡ s.effects.terminal

  one_aligned : (i : InstructionId) (x : Instruction) (es : List AliasingEffect) (is : List InstructionId)
      (more : List InstructionEffects) → slice_get Xs i.0 ≡ Some x
      → Aligned Xs is more → Aligned Xs (i ∷ is) (recorded_as i es ++ more)
  one_aligned i x [] is more at h = skip i h
  one_aligned i x (e ∷ es) is more at h = take i x (e ∷ es) at h

  -- one instruction, and then the others
  adds_more : (i : InstructionId) (o : Option Instruction) (is : List InstructionId) (s v : BlockProgress)
      (t u : TableLists) → slice_get Xs i.0 ≡ o → infer_instruction_at c i o s t ≡ Ok (v, u)
      → (w : BlockProgress) → Adds is v w → Adds (i ∷ is) s w
  adds_more i None is s v t u at e w a =
      let same : s ≡ v = first_is s v t u e in
      subst (λ z. Adds (i ∷ is) z w) (sym same)
      (record { more = a.more; is_so = a.is_so; aligned = skip i a.aligned; ends = a.ends })
  adds_more i (Some x) is s v t u at e w a =
      let p = split (λ z. gives (after_instruction i s.effects z))
      (in_block i (apply_signature c.env c.facts x (step_start s)) t) v u e in
      let same : after_instruction i s.effects p.0 ≡ v = first_is (after_instruction i s.effects p.0) v p.1 u p.3 in
      record {
        more = recorded_as i p.0.recorded ++ a.more;
        is_so = a.is_so ∙ ap (λ (z : BlockProgress). z.effects.instructions ++ a.more) (sym same)
            ∙ append_assoc s.effects.instructions (recorded_as i p.0.recorded) a.more;
        aligned = one_aligned i x p.0.recorded is a.more at a.aligned;
        ends = a.ends ∙ ap (λ (z : BlockProgress). z.effects.terminal) (sym same);
      }

  adds_all : (is : List InstructionId) (s w : BlockProgress) (t u : TableLists) → apply_signatures c is s t ≡ Ok (w, u)
      → Adds is s w
  adds_all [] s w t u e =
      let same : s ≡ w = first_is s w t u e in
      record {
        more = [];
        is_so = ap (λ (z : BlockProgress). z.effects.instructions) (sym same) ∙ sym (append-nil s.effects.instructions);
        aligned = none;
        ends = ap (λ (z : BlockProgress). z.effects.terminal) (sym same);
      }
  adds_all (i ∷ is) s w t u e =
      let p = split (apply_signatures c is) (infer_instruction_at c i (slice_get Xs i.0) s t) w u e in
      adds_more i (slice_get Xs i.0) is s p.0 t p.1 refl p.2 w (adds_all is p.0 w p.1 u p.3)

  -- ---- the terminal

  nothing_more : (t : Terminal) (s u : StepProgress) (a b : TableLists) → s.recorded ≡ []
      → ◌≡◌ {A = Result (StepProgress × TableLists) BlockRefusal} (gives s a) (Ok (u, b))
      → (u.recorded ≡ []) ⊎ CanCarry t
  nothing_more t s u a b h e = inl (ap (λ (z : StepProgress). z.recorded) (sym (first_is s u a b e)) ∙ h)

  end_carries : (is : List InstructionId) (t : Terminal) (s u : StepProgress) (a b : TableLists) → s.recorded ≡ []
      → terminal_action c is t s a ≡ Ok (u, b) → (u.recorded ≡ []) ⊎ CanCarry t
  end_carries is (terminal.MaybeThrow id continuation handler effects) s u a b h e = inr (λ es. refl)
  end_carries is (terminal.Return id value effects) s u a b h e = inr (λ es. refl)
  end_carries is t s u a b h e = nothing_more t s u a b h e

  -- ---- a block

  -- what is recorded of it
  pub record BlockSays (b : BlockId) (block : BasicBlock) (k : BlockEffects) : Type 0 where
    pub instructions : Aligned Xs block.instructions k.instructions
    pub end : EndOf b block.terminal k.terminal

  ended : (m : Option MissingLookup) (s : BlockProgress) (y : State) (k : BlockEffects) (t u : TableLists)
      → finished_at m s t ≡ Ok ((y, k), u) → s.effects ≡ k
  ended (Some lookup) s y k t u e = not_given _ (y, k) u e
  ended None s y k t u e = ap (λ (z : State × BlockEffects). z.1) (first_is (s.state, s.effects) (y, k) t u e)

  pub block_says : (b : BlockId) (block : BasicBlock) (x y : State) (k : BlockEffects) (t u : TableLists)
      → infer_block c b block x t ≡ Ok ((y, k), u) → BlockSays b block k
  block_says b block x y k t u e =
      let begun = block_start (infer_phis block.phis x) in
      let p = split (λ s v. and_then (apply_terminal c b block s v) finished)
      (apply_signatures c block.instructions begun t) (y, k) u e in
      let q = split finished (apply_terminal c b block p.0 p.1) (y, k) u p.3 in
      let r = split (λ z. gives (after_terminal b p.0.effects z))
      (terminal_action c block.instructions block.terminal (step_start p.0) p.1) q.0 q.1 q.2 in
      let a = adds_all block.instructions begun p.0 t p.1 p.2 in
      let after : after_terminal b p.0.effects r.0 ≡ q.0 =
      first_is (after_terminal b p.0.effects r.0) q.0 r.1 q.1 r.3 in
      let last : q.0.effects ≡ k = ended q.0.missing q.0 y k q.1 u q.3 in
      let says : (after_terminal b p.0.effects r.0).effects ≡ k = ap (λ (z : BlockProgress). z.effects) after ∙ last in
      let listed : a.more ≡ k.instructions = sym a.is_so ∙ ap (λ (z : BlockEffects). z.instructions) says in
      record {
        instructions = subst (Aligned Xs block.instructions) listed a.aligned;
        end = record {
          effects = r.0.recorded;
          is = ap (λ (z : BlockEffects). z.terminal) (sym says);
          carried = end_carries block.instructions block.terminal (step_start p.0) r.0 p.1 r.1 refl r.2;
        };
      }
