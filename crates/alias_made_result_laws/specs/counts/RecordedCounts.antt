-- A function that is short stays so with what is recorded of it, where that is short.
use Rattle.std.specs.Prelude.{◌≡◌, ℕ, ◌≤◌, List, [], ◌∷◌, length, Option, Some, None, position, slice_get, slice_set}
use Rattle.std.specs.Prelude.{refl}
use Rattle.std.specs.List.{AllByRecursion}
use Rattle.std.specs.Map.{keys_of}
use Rattle.std.specs.Option.{option_map_or}
use Rattle.std.proofs.Common.{zero, suc, ◌∙◌, arith}
use Rattle.indexmap.specs.IndexMap.{set_value_at}
use Rattle.indexmap.specs.Layout.{length-set_value_at}
use Rattle.alias_base.specs.Find.{same_block}
use Rattle.alias_base.specs.declared.ids.BlockId.{BlockId}
use Rattle.alias_hir.specs.Terminals.{terminal_effects, with_terminal_effects}
use Rattle.alias_hir.specs.declared.effect.AliasingEffect.{AliasingEffect}
use Rattle.alias_hir.specs.declared.hir.BasicBlock.{BasicBlock}
use Rattle.alias_hir.specs.declared.hir.HirFunction.{HirFunction}
use Rattle.alias_hir.specs.declared.hir.Instruction.{Instruction}
use Rattle.alias_hir.specs.declared.terminal.Terminal.{Terminal}
use Rattle.alias_hir.specs.declared.terminal.Terminal.TheVariants.{MaybeThrow, Return}
use Rattle.alias_step.specs.declared.block.recorded.InstructionEffects.{InstructionEffects}
use Rattle.alias_step.specs.declared.block.recorded.TerminalEffects.{TerminalEffects}
use Rattle.alias_effects.specs.declared.solved.Solved.{Solved}
use Rattle.alias_effects.specs.Recording.{recorded_instructions, block_with, with_terminal_at, recorded_terminals}
use Rattle.alias_effects.specs.Recording.{with_effects_of}
use Rattle.alias_made_result_laws.specs.counts.BlockCounts.{AreShort, AreSingle}
use Rattle.alias_made_result_laws.specs.counts.FlowCounts.{all_set}
use Rattle.alias_made_result_laws.specs.counts.ListingCounts.{Carries, IsShortBlock, IsShortInstruction, all_at}
use Rattle.alias_made_result_laws.specs.counts.ListingCounts.{IsShortFunction}
use Rattle.alias_made_result_laws.specs.counts.PassCounts.{IsShortSolution}

-- ---- instructions

found_recorded : (e : InstructionEffects) (xs : List Instruction) (o : Option Instruction) → length e.effects ≤ 8
    → AllByRecursion IsShortInstruction xs
    → AllByRecursion IsShortInstruction (option_map_or
    (λ (x : Instruction). slice_set xs e.instruction.0 (record x { effects = Some e.effects })) o xs)
found_recorded e xs None s h = h
found_recorded e xs (Some x) s h = all_set IsShortInstruction xs e.instruction.0 (record x { effects = Some e.effects })
    h s

all_recorded : (es : List InstructionEffects) (xs : List Instruction) → AreShort es
    → AllByRecursion IsShortInstruction xs → AllByRecursion IsShortInstruction (recorded_instructions es xs)
all_recorded [] xs s h = h
all_recorded (e ∷ es) xs s h = let ys = recorded_instructions es xs in
    found_recorded e ys (slice_get ys e.instruction.0) s.0 (all_recorded es xs s.1 h)

-- ---- terminals

-- n blocks, which are short
abbrev AreBlocks : ℕ → List (BlockId × BasicBlock) → Type 0
AreBlocks n bs = AllByRecursion IsShortBlock bs × (length bs ≡ n)

all_value_set : (P : BlockId × BasicBlock → Type 0) (xs : List (BlockId × BasicBlock)) (i : ℕ) (w : BasicBlock)
    → AllByRecursion P xs → ((k : BlockId) → P (k, w)) → AllByRecursion P (set_value_at xs i w)
all_value_set P [] i w h p = h
all_value_set P (x ∷ xs) zero w h p = (p x.0, h.1)
all_value_set P (x ∷ xs) (suc i) w h p = (h.0, all_value_set P xs i w h.1 p)

ends_carry : (t : Terminal) (es : List AliasingEffect) → length es ≤ 1 → Carries 1 (terminal_effects t)
    → Carries 1 (terminal_effects (with_terminal_effects t es))
ends_carry (Return id value effects) es s h = s
ends_carry (MaybeThrow id continuation handler effects) es s h = s
ends_carry t es s h = h

block_short : (x : BlockId × BasicBlock) (es : List AliasingEffect) (k : BlockId) → length es ≤ 1 → IsShortBlock x
    → IsShortBlock (k, block_with x.1 es)
block_short x es k s h = record { phis = h.phis; few = h.few; ends = ends_carry x.1.terminal es s h.ends }

found_terminal : (n : ℕ) (es : List AliasingEffect) (bs : List (BlockId × BasicBlock)) (i : ℕ)
    (o : Option (BlockId × BasicBlock)) → slice_get bs i ≡ o → length es ≤ 1 → AreBlocks n bs
    → AreBlocks n (option_map_or (λ (x : BlockId × BasicBlock). set_value_at bs i (block_with x.1 es)) o bs)
found_terminal n es bs i None e s h = h
found_terminal n es bs i (Some x) e s h = (
  all_value_set IsShortBlock bs i (block_with x.1 es) h.0
      (λ k. block_short x es k s (all_at IsShortBlock bs i x h.0 e)),
  length-set_value_at bs i (block_with x.1 es) ∙ h.1,
)

terminal_at : (n : ℕ) (e : TerminalEffects) (bs : List (BlockId × BasicBlock)) (o : Option ℕ) → length e.effects ≤ 1
    → AreBlocks n bs → AreBlocks n (option_map_or (with_terminal_at e.effects bs) o bs)
terminal_at n e bs None s h = h
terminal_at n e bs (Some i) s h = found_terminal n e.effects bs i (slice_get bs i) refl s h

all_terminals : (n : ℕ) (es : List TerminalEffects) (bs : List (BlockId × BasicBlock)) → AreSingle es → AreBlocks n bs
    → AreBlocks n (recorded_terminals es bs)
all_terminals n [] bs s h = h
all_terminals n (e ∷ es) bs s h = let cs = recorded_terminals es bs in
    terminal_at n e cs (position (same_block e.block) (keys_of cs)) s.0 (all_terminals n es bs s.1 h)

-- ---- a function

pub short_with : (s : Solved) (f : HirFunction) → IsShortSolution s → IsShortFunction f
    → IsShortFunction (with_effects_of s f)
short_with s f short h =
    let after = all_terminals (length f.body.blocks) s.terminal_effects f.body.blocks short.terminals
    (h.blocks, refl) in
    record {
      instructions = all_recorded s.effects f.instructions short.instructions h.instructions;
      blocks = after.0;
      few = omega (arith, after.1, h.few);
      tracked = h.tracked;
    }
