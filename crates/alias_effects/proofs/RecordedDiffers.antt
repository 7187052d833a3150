-- A function with what was recorded of it differs from before in effects alone.
use Rattle.std.specs.Prelude.{◌≡◌, ℕ, zero, suc, List, [], ◌∷◌, map, Option, Some, None, slice_get, slice_set, position}
use Rattle.std.specs.Option.{option_map_or}
use Rattle.std.specs.Map.{keys_of}
use Rattle.std.proofs.Common.{refl, sym, ◌∙◌, ap}
use Rattle.indexmap.specs.IndexMap.{set_value_at}
use Rattle.alias_base.specs.Find.{same_block}
use Rattle.alias_base.specs.declared.ids.BlockId.{BlockId}
use Rattle.alias_hir.specs.declared.effect.AliasingEffect.{AliasingEffect}
use Rattle.alias_hir.specs.declared.hir.BasicBlock.{BasicBlock}
use Rattle.alias_hir.specs.declared.hir.HirFunction.{HirFunction}
use Rattle.alias_hir.specs.declared.hir.Instruction.{Instruction}
use Rattle.alias_rules.specs.RecordedLaws.{DiffersInEffects, without_instruction_effects, without_block_effects}
use Rattle.alias_rules.specs.RecordedLaws.{without_effects_again}
use Rattle.alias_step.specs.declared.block.recorded.InstructionEffects.{InstructionEffects}
use Rattle.alias_step.specs.declared.block.recorded.TerminalEffects.{TerminalEffects}
use Rattle.alias_effects.specs.declared.solved.Solved.{Solved}
use Rattle.alias_effects.specs.Recording.{recorded_instructions, block_with, with_terminal_at, recorded_terminals}
use Rattle.alias_effects.specs.Recording.{with_effects_of}

-- the function with other instructions and blocks, and no summary
abbrev with_parts : HirFunction → List Instruction → List (BlockId × BasicBlock) → HirFunction
with_parts func xs es = record func {
  instructions = xs;
  body = record func.body { blocks = es };
  aliasing_effects = None;
}

-- an instruction that gets effects is the same with none
stripped_set : (xs : List Instruction) (i : ℕ) (x : Instruction) (es : List AliasingEffect) → slice_get xs i ≡ Some x
    → map without_instruction_effects (slice_set xs i (record x { effects = Some es }))
    ≡ map without_instruction_effects xs
stripped_set [] i x es h = cc
stripped_set (y ∷ ys) zero x es h = let same : y ≡ x = cc in
    ap (λ z. without_instruction_effects z ∷ map without_instruction_effects ys) (sym same)
stripped_set (y ∷ ys) (suc i) x es h = ap (λ z. without_instruction_effects y ∷ z) (stripped_set ys i x es h)

-- and so where there is no such instruction
stripped_at : (xs : List Instruction) (i : ℕ) (es : List AliasingEffect) (o : Option Instruction) → slice_get xs i ≡ o
    → map without_instruction_effects (option_map_or
    (λ (x : Instruction). slice_set xs i (record x { effects = Some es })) o xs)
    ≡ map without_instruction_effects xs
stripped_at xs i es None h = refl
stripped_at xs i es (Some x) h = stripped_set xs i x es h

stripped_instructions : (es : List InstructionEffects) (xs : List Instruction)
    → map without_instruction_effects (recorded_instructions es xs) ≡ map without_instruction_effects xs
stripped_instructions [] xs = refl
stripped_instructions (e ∷ es) xs =
    let ys = recorded_instructions es xs in
    stripped_at ys e.instruction.0 e.effects (slice_get ys e.instruction.0) refl ∙ stripped_instructions es xs

-- a block whose terminal gets effects is the same with none
stripped_block_set : (bs : List (BlockId × BasicBlock)) (i : ℕ) (x : BlockId × BasicBlock) (es : List AliasingEffect)
    → slice_get bs i ≡ Some x
    → map without_block_effects (set_value_at bs i (block_with x.1 es)) ≡ map without_block_effects bs
stripped_block_set [] i x es h = cc
stripped_block_set (y ∷ ys) zero x es h =
    let same : y ≡ x = cc in
    ap (λ t. (y.0, record x.1 { terminal = t }) ∷ map without_block_effects ys) (without_effects_again es x.1.terminal)
    ∙ ap (λ (z : BlockId × BasicBlock). (y.0, block_with z.1 []) ∷ map without_block_effects ys) (sym same)
stripped_block_set (y ∷ ys) (suc i) x es h = ap (λ z. without_block_effects y ∷ z) (stripped_block_set ys i x es h)

-- and so where there is no such block
stripped_block_at : (bs : List (BlockId × BasicBlock)) (i : ℕ) (es : List AliasingEffect)
    (o : Option (BlockId × BasicBlock)) → slice_get bs i ≡ o
    → map without_block_effects (option_map_or (λ (x : BlockId × BasicBlock). set_value_at bs i (block_with x.1 es)) o
    bs) ≡ map without_block_effects bs
stripped_block_at bs i es None h = refl
stripped_block_at bs i es (Some x) h = stripped_block_set bs i x es h

stripped_terminal : (bs : List (BlockId × BasicBlock)) (es : List AliasingEffect) (o : Option ℕ)
    → map without_block_effects (option_map_or (with_terminal_at es bs) o bs) ≡ map without_block_effects bs
stripped_terminal bs es None = refl
stripped_terminal bs es (Some i) = stripped_block_at bs i es (slice_get bs i) refl

stripped_terminals : (es : List TerminalEffects) (bs : List (BlockId × BasicBlock))
    → map without_block_effects (recorded_terminals es bs) ≡ map without_block_effects bs
stripped_terminals [] bs = refl
stripped_terminals (e ∷ es) bs =
    let cs = recorded_terminals es bs in
    stripped_terminal cs e.effects (position (same_block e.block) (keys_of cs)) ∙ stripped_terminals es bs

-- without effects, the function is the one that it was
pub recorded_differs : (s : Solved) (func : HirFunction) → DiffersInEffects func (with_effects_of s func)
recorded_differs s func = sym (
    ap (λ xs. with_parts func xs (map without_block_effects (recorded_terminals s.terminal_effects func.body.blocks)))
    (stripped_instructions s.effects func.instructions)
    ∙ ap (λ es. with_parts func (map without_instruction_effects func.instructions) es)
    (stripped_terminals s.terminal_effects func.body.blocks))
