-- Functions that carry what is alike.
use Rattle.std.specs.Prelude.{◌≡◌, ℕ, List, ◌∷◌, Option, Some, None, position, slice_get, slice_set, refl}
use Rattle.std.proofs.Common.{zero, suc, ap, sym, ◌∙◌, subst}
use Rattle.std.specs.List.{flat_map}
use Rattle.std.specs.Map.{keys_of}
use Rattle.std.specs.Option.{option_map_or}
use Rattle.indexmap.specs.IndexMap.{set_value_at}
use Rattle.alias_base.specs.Find.{same_block}
use Rattle.alias_base.specs.declared.ids.BlockId.{BlockId}
use Rattle.alias_hir.specs.Terminals.{terminal_effects, with_terminal_effects}
use Rattle.alias_hir.specs.declared.effect.AliasingEffect.{AliasingEffect}
use Rattle.alias_hir.specs.declared.hir.BasicBlock.{BasicBlock}
use Rattle.alias_hir.specs.declared.hir.HirFunction.{HirFunction}
use Rattle.alias_hir.specs.declared.hir.Instruction.{Instruction}
use Rattle.alias_hir.specs.declared.terminal.Terminal.{Terminal}
use Rattle.alias_hir.specs.declared.terminal.Terminal.TheVariants.{Return, MaybeThrow}
use Rattle.alias_step.specs.declared.block.recorded.BlockEffects.{BlockEffects}
use Rattle.alias_step.specs.declared.block.recorded.InstructionEffects.{InstructionEffects}
use Rattle.alias_step.specs.declared.block.recorded.TerminalEffects.{TerminalEffects}
use Rattle.alias_effects.specs.Inference.{instructions_recorded, terminal_recorded}
use Rattle.alias_effects.specs.Recording.{recorded_instructions, block_with, with_terminal_at, recorded_terminals}
use Rattle.alias_effects.specs.Recording.{with_effects_of}
use Rattle.alias_effects.specs.declared.solved.Solved.{Solved}
use Rattle.alias_certificate_laws.specs.accepting.Alike.{Paired, none, more, Maybe, nothing, just, Alike, AlikeEffects}
use Rattle.alias_certificate_laws.specs.accepting.AlikeBlocks.{AlikeInstruction, of_instruction, AlikeTerminal}
use Rattle.alias_certificate_laws.specs.accepting.AlikeBlocks.{of_terminal, AlikeRecorded}
use Rattle.alias_certificate_laws.proofs.accepting.Likeness.{paired_self, paired_append, paired_get, alike_self}
use Rattle.alias_range_alike_laws.specs.Ranging.{CarryAlike, carried, EndAlike, stays, ended, CarriesAlike}
use Rattle.alias_accepted_laws.proofs.Seen.{paired_set}

-- ---- what blocks record

pub instructions_alike : (rs qs : List (Option BlockEffects)) → Paired (Maybe AlikeRecorded) rs qs
    → Paired AlikeInstruction (flat_map instructions_recorded rs) (flat_map instructions_recorded qs)
instructions_alike rs qs none = none
instructions_alike rs qs (more {xs = xs} {ys = ys} nothing rest) = instructions_alike xs ys rest
instructions_alike rs qs (more {xs = xs} {ys = ys} (just a) rest) =
    paired_append a.instructions (instructions_alike xs ys rest)

pub terminals_alike : (rs qs : List (Option BlockEffects)) → Paired (Maybe AlikeRecorded) rs qs
    → Paired AlikeTerminal (flat_map terminal_recorded rs) (flat_map terminal_recorded qs)
terminals_alike rs qs none = none
terminals_alike rs qs (more {xs = xs} {ys = ys} nothing rest) = terminals_alike xs ys rest
terminals_alike rs qs (more {xs = xs} {ys = ys} (just a) rest) = paired_append a.terminal (terminals_alike xs ys rest)

-- ---- instructions

put_at : (n : ℕ) (es fs : List AliasingEffect) → AlikeEffects es fs
    → (xs ys : List Instruction) (o p : Option Instruction) → Maybe CarryAlike o p → Paired CarryAlike xs ys
    → Paired CarryAlike (option_map_or (λ (x : Instruction). slice_set xs n (record x { effects = Some es })) o xs)
    (option_map_or (λ (x : Instruction). slice_set ys n (record x { effects = Some fs })) p ys)
put_at n es fs a xs ys o p nothing all = all
put_at n es fs a xs ys o p (just (carried i effects m)) all =
    paired_set CarryAlike n (record i { effects = Some es }) (record i { effects = Some fs })
    (carried (record i { effects = Some es }) (Some fs) (just a)) all

put_all : (is js : List InstructionEffects) → Paired AlikeInstruction is js → (xs ys : List Instruction)
    → Paired CarryAlike xs ys → Paired CarryAlike (recorded_instructions is xs) (recorded_instructions js ys)
put_all is js none xs ys all = all
put_all is js (more {xs = us} {ys = vs} (of_instruction n es fs a) rest) xs ys all =
    let later : Paired CarryAlike (recorded_instructions us xs) (recorded_instructions vs ys) =
    put_all us vs rest xs ys all in
    put_at n.0 es fs a (recorded_instructions us xs) (recorded_instructions vs ys) _ _
    (paired_get n.0 (recorded_instructions us xs) (recorded_instructions vs ys) later) later

effects_self : (o : Option (List AliasingEffect)) → Maybe AlikeEffects o o
effects_self None = nothing
effects_self (Some es) = just (paired_self Alike alike_self es)

carry_self : (i : Instruction) → CarryAlike i i
carry_self i = carried i i.effects (effects_self i.effects)

-- ---- terminals

put_again : (t : Terminal) (es fs : List AliasingEffect) → with_terminal_effects (with_terminal_effects t es) fs
    ≡ with_terminal_effects t fs
put_again (Return id value effects) es fs = refl
put_again (MaybeThrow id continuation handler effects) es fs = refl
put_again t es fs = refl

put_alike : (t : Terminal) (es fs : List AliasingEffect) → AlikeEffects es fs
    → Maybe AlikeEffects (terminal_effects (with_terminal_effects t es))
    (terminal_effects (with_terminal_effects (with_terminal_effects t es) fs))
put_alike (Return id value effects) es fs a = just a
put_alike (MaybeThrow id continuation handler effects) es fs a = just a
put_alike t es fs a = effects_self (terminal_effects t)

end_by : (b : BlockId) (block : BasicBlock) (es fs : List AliasingEffect) (t : Terminal) → AlikeEffects es fs → t
    ≡ with_terminal_effects block.terminal fs → EndAlike (b, block_with block es) (b, record block { terminal = t })
end_by b block es fs t a e =
    subst (λ (z : Terminal). EndAlike (b, block_with block es) (b, record block { terminal = z }))
    (put_again block.terminal es fs ∙ sym e) (ended b (block_with block es) fs (put_alike block.terminal es fs a))

new_end : (x y : BlockId × BasicBlock) (es fs : List AliasingEffect) → AlikeEffects es fs → EndAlike x y
    → EndAlike (x.0, block_with x.1 es) (y.0, block_with y.1 fs)
new_end x y es fs a (stays b block) = end_by b block es fs (with_terminal_effects block.terminal fs) a refl
new_end x y es fs a (ended b block effects m) =
    end_by b block es fs (with_terminal_effects (with_terminal_effects block.terminal effects) fs) a
    (put_again block.terminal effects fs)

same_keys : (bs cs : List (BlockId × BasicBlock)) → Paired EndAlike bs cs → keys_of cs ≡ keys_of bs
same_keys bs cs none = refl
same_keys bs cs (more {xs = xs} {ys = ys} (stays b block) rest) = ap (λ ks. b ∷ ks) (same_keys xs ys rest)
same_keys bs cs (more {xs = xs} {ys = ys} (ended b block effects m) rest) = ap (λ ks. b ∷ ks) (same_keys xs ys rest)

value_put : (n : ℕ) (bs cs : List (BlockId × BasicBlock)) (x y : BlockId × BasicBlock) (v w : BasicBlock)
    → Paired EndAlike bs cs → slice_get bs n ≡ Some x → slice_get cs n ≡ Some y → EndAlike (x.0, v) (y.0, w)
    → Paired EndAlike (set_value_at bs n v) (set_value_at cs n w)
value_put n bs cs x y v w none at there new = none
value_put zero bs cs x y v w (more {a = a} {b = b} q rest) at there new =
    let first : a ≡ x = cc in
    let second : b ≡ y = cc in
    more (subst (λ (z : BlockId × BasicBlock). EndAlike (z.0, v) (b.0, w)) (sym first)
    (subst (λ (z : BlockId × BasicBlock). EndAlike (x.0, v) (z.0, w)) (sym second) new)) rest
value_put (suc n) bs cs x y v w (more {xs = xs} {ys = ys} q rest) at there new =
    more q (value_put n xs ys x y v w rest at there new)

end_put : (n : ℕ) (es fs : List AliasingEffect) → AlikeEffects es fs
    → (bs cs : List (BlockId × BasicBlock)) (o p : Option (BlockId × BasicBlock)) → slice_get bs n ≡ o → slice_get cs n
    ≡ p → Maybe EndAlike o p → Paired EndAlike bs cs
    → Paired EndAlike (option_map_or (λ (x : BlockId × BasicBlock). set_value_at bs n (block_with x.1 es)) o bs)
    (option_map_or (λ (x : BlockId × BasicBlock). set_value_at cs n (block_with x.1 fs)) p cs)
end_put n es fs a bs cs o p at there nothing all = all
end_put n es fs a bs cs o p at there (just {a = x} {b = y} q) all =
    value_put n bs cs x y (block_with x.1 es) (block_with y.1 fs) all at there (new_end x y es fs a q)

ends_put : (b : BlockId) (es fs : List AliasingEffect) → AlikeEffects es fs → (bs cs : List (BlockId × BasicBlock))
    → Paired EndAlike bs cs → (o : Option ℕ)
    → Paired EndAlike (option_map_or (with_terminal_at es bs) o bs) (option_map_or (with_terminal_at fs cs) o cs)
ends_put b es fs a bs cs all None = all
ends_put b es fs a bs cs all (Some n) = end_put n es fs a bs cs (slice_get bs n) (slice_get cs n) refl refl
    (paired_get n bs cs all) all

ends_all : (is js : List TerminalEffects) → Paired AlikeTerminal is js → (bs cs : List (BlockId × BasicBlock))
    → Paired EndAlike bs cs → Paired EndAlike (recorded_terminals is bs) (recorded_terminals js cs)
ends_all is js none bs cs all = all
ends_all is js (more {xs = us} {ys = vs} (of_terminal b es fs a) rest) bs cs all =
    let later : Paired EndAlike (recorded_terminals us bs) (recorded_terminals vs cs) = ends_all us vs rest bs cs all in
    subst (λ ks. Paired EndAlike (option_map_or (with_terminal_at es (recorded_terminals us bs))
    (position (same_block b) (keys_of (recorded_terminals us bs))) (recorded_terminals us bs))
    (option_map_or (with_terminal_at fs (recorded_terminals vs cs)) (position (same_block b) ks)
    (recorded_terminals vs cs))) (sym (same_keys (recorded_terminals us bs) (recorded_terminals vs cs) later))
    (ends_put b es fs a (recorded_terminals us bs) (recorded_terminals vs cs) later
    (position (same_block b) (keys_of (recorded_terminals us bs))))

-- ---- a function

-- a function with what is alike on its instructions and terminals carries alike
pub recorded_carry : (f : HirFunction) (s t : Solved) → Paired AlikeInstruction s.effects t.effects
    → Paired AlikeTerminal s.terminal_effects t.terminal_effects
    → CarriesAlike (with_effects_of s f) (with_effects_of t f)
recorded_carry f s t is ts = record {
  same = refl;
  instructions = put_all s.effects t.effects is f.instructions f.instructions
      (paired_self CarryAlike carry_self f.instructions);
  entry = refl;
  blocks = ends_all s.terminal_effects t.terminal_effects ts f.body.blocks f.body.blocks
      (paired_self EndAlike (λ b. stays b.0 b.1) f.body.blocks);
}
