-- A function that carries what was recorded sets the context places of each function that an instruction with an entry
-- creates.
use Rattle.std.specs.Prelude.{◌≡◌, ℕ, nat_eq, true, false, List, [], ◌∷◌, Option, Some, None, position, slice_get}
use Rattle.std.specs.Prelude.{slice_set, slice_index_or, refl}
use Rattle.std.proofs.Common.{zero, suc, ⊎_elim, ap, sym, ◌∙◌, subst}
use Rattle.std.proofs.lemmas.Bool.{eqb-true}
use Rattle.std.specs.List.{flat_map}
use Rattle.std.specs.Map.{keys_of}
use Rattle.std.specs.Option.{option_map_or}
use Rattle.indexmap.specs.IndexMap.{set_value_at}
use Rattle.alias_base.specs.Find.{same_block}
use Rattle.alias_base.specs.declared.ids.BlockId.{BlockId}
use Rattle.alias_base.specs.declared.ids.InstructionId.{InstructionId}
use Rattle.alias_hir.specs.Values.{created}
use Rattle.alias_hir.specs.declared.effect.AliasingEffect.{AliasingEffect}
use Rattle.alias_hir.specs.declared.hir.BasicBlock.{BasicBlock}
use Rattle.alias_hir.specs.declared.hir.HirFunction.{HirFunction}
use Rattle.alias_hir.specs.declared.hir.Instruction.{Instruction}
use Rattle.alias_hir.specs.declared.value.InstructionValue.{InstructionValue}
use Rattle.alias_nesting_laws.specs.SlotLaws.{set_other, set_there}
use Rattle.alias_step.specs.declared.block.recorded.BlockEffects.{BlockEffects}
use Rattle.alias_step.specs.declared.block.recorded.InstructionEffects.{InstructionEffects}
use Rattle.alias_step.specs.declared.block.recorded.TerminalEffects.{TerminalEffects}
use Rattle.alias_effects.specs.Inference.{instructions_recorded}
use Rattle.alias_effects.specs.Recording.{with_recorded, recorded_instructions, block_with, with_terminal_at}
use Rattle.alias_effects.specs.Recording.{recorded_terminals, with_effects_of}
use Rattle.alias_effects.specs.declared.solved.Solved.{Solved}
use Rattle.alias_answer_laws.proofs.order.Ordering.{differs}
use Rattle.alias_graph.specs.Walks.{IsOneOf}
use Rattle.alias_range_alike_laws.specs.Ranging.{SetsContext}
use Rattle.alias_accepted_laws.proofs.Recording.{Filled, AllFilled, HasEntry, has_front, has_rest, all_filled}

some_same : {A : Type 0} (x y : A) → Some x ≡ Some y → x ≡ y
some_same x y e = cc

-- ---- instructions

-- the instruction carries an effect
abbrev Full : Instruction → Type 0
Full i = (first : AliasingEffect) × (others : List AliasingEffect) × (i.effects ≡ Some (first ∷ others))

-- the instruction at the position, of this value
record Stands (xs : List Instruction) (n : ℕ) (v : InstructionValue) : Type 0 where
  one : Instruction
  there : slice_get xs n ≡ Some one
  value : one.value ≡ v

filled_full : (e : InstructionEffects) (i : Instruction) → Filled e.effects
    → Full (record i { effects = Some e.effects })
filled_full e i f = (f.0, f.1, ap Some f.2)

module _ (e : InstructionEffects) (xs : List Instruction) where
  put_own : (n : ℕ) (z : Instruction) → e.instruction.0 ≡ n → slice_get xs n ≡ Some z → slice_get (with_recorded e xs) n
      ≡ Some (record z { effects = Some e.effects })
  put_own n z same at =
      subst (λ k. slice_get (option_map_or (λ (x : Instruction). slice_set xs k (record x { effects = Some e.effects }))
      (slice_get xs k) xs) n ≡ Some (record z { effects = Some e.effects })) (sym same)
      (ap (λ o. slice_get (option_map_or (λ (x : Instruction). slice_set xs n (record x { effects = Some e.effects })) o
      xs) n) at ∙ set_there xs n (record z { effects = Some e.effects }) z at)

  put_other : (n : ℕ) (z : Instruction) (o : Option Instruction) → (n ≡ e.instruction.0 → ⊥) → slice_get xs n ≡ Some z
      → slice_get (option_map_or (λ (x : Instruction).
      slice_set xs e.instruction.0 (record x { effects = Some e.effects })) o xs) n ≡ Some z
  put_other n z None other at = at
  put_other n z (Some w) other at = set_other xs e.instruction.0 n (record w { effects = Some e.effects }) other ∙ at

  -- what stands there stays of its value, and carries an effect where it did
  put_stands : (n : ℕ) (z : Instruction) → Filled e.effects → slice_get xs n ≡ Some z → (y : Instruction)
      × (slice_get (with_recorded e xs) n ≡ Some y) × (y.value ≡ z.value) × (Full z → Full y)
  put_stands n z f at =
      elim (nat_eq n e.instruction.0) as (λ b. nat_eq n e.instruction.0 ≡ b → (y : Instruction)
      × (slice_get (with_recorded e xs) n ≡ Some y) × (y.value ≡ z.value) × (Full z → Full y)) [
        | true ↦ λ g. (
          record z { effects = Some e.effects },
          put_own n z (sym (eqb-true n e.instruction.0 g)) at,
          refl,
          λ full. filled_full e z f,
        )
        | false ↦ λ g. (
          z,
          put_other n z (slice_get xs e.instruction.0) (differs n e.instruction.0 g) at,
          refl,
          λ full. full,
        )
      ] refl

stands_all : (es : List InstructionEffects) → AllFilled es → (xs : List Instruction) (n : ℕ) (x : Instruction)
    → slice_get xs n ≡ Some x → Stands (recorded_instructions es xs) n x.value
stands_all [] f xs n x at = record { one = x; there = at; value = refl }
stands_all (e ∷ es) f xs n x at =
    let s : Stands (recorded_instructions es xs) n x.value = stands_all es f.1 xs n x at in
    let p = put_stands e (recorded_instructions es xs) n s.one f.0 s.there in
    record { one = p.0; there = p.1; value = p.2 ∙ s.value }

-- one with an entry carries an effect
entered : (es : List InstructionEffects) → AllFilled es → (xs : List Instruction) (id : InstructionId) (x : Instruction)
    → slice_get xs id.0 ≡ Some x → HasEntry es id
    → (y : Instruction) × (slice_get (recorded_instructions es xs) id.0 ≡ Some y) × (y.value ≡ x.value) × Full y
entered [] f xs id x at h = absurd h
entered (e ∷ es) f xs id x at h =
    ⊎_elim
    (λ (same : e.instruction ≡ id).
    let s : Stands (recorded_instructions es xs) id.0 x.value = stands_all es f.1 xs id.0 x at in (
      record s.one { effects = Some e.effects },
      put_own e (recorded_instructions es xs) id.0 s.one (ap (λ (z : InstructionId). z.0) same) s.there,
      s.value,
      filled_full e s.one f.0,
    ))
    (λ later.
    let r = entered es f.1 xs id x at later in
    let p = put_stands e (recorded_instructions es xs) id.0 r.0 f.0 r.1 in
    (p.0, p.1, p.2 ∙ r.2, p.3 r.3))
    h

-- ---- blocks

value_set : (bs : List (BlockId × BasicBlock)) (i : ℕ) (v : BasicBlock) (n : ℕ) (b : BlockId × BasicBlock)
    → slice_get bs n ≡ Some b → ((c : BlockId × BasicBlock) → slice_get bs i ≡ Some c → v.instructions
    ≡ c.1.instructions)
    → (d : BlockId × BasicBlock) × (slice_get (set_value_at bs i v) n ≡ Some d) × (d.1.instructions ≡ b.1.instructions)
value_set [] i v n b at h = cc
value_set (x ∷ xs) zero v zero b at h = (
  (x.0, v),
  refl,
  h x refl ∙ ap (λ (z : BlockId × BasicBlock). z.1.instructions) (some_same x b at),
)
value_set (x ∷ xs) zero v (suc n) b at h = (b, at, refl)
value_set (x ∷ xs) (suc i) v zero b at h = (b, at, refl)
value_set (x ∷ xs) (suc i) v (suc n) b at h = value_set xs i v n b at h

terminal_set : (es : List AliasingEffect) (bs : List (BlockId × BasicBlock)) (i : ℕ) (n : ℕ) (b : BlockId × BasicBlock)
    (o : Option (BlockId × BasicBlock)) → slice_get bs i ≡ o → slice_get bs n ≡ Some b
    → (d : BlockId × BasicBlock) × (slice_get
    (option_map_or (λ (x : BlockId × BasicBlock). set_value_at bs i (block_with x.1 es)) o bs) n ≡ Some d)
    × (d.1.instructions ≡ b.1.instructions)
terminal_set es bs i n b None is at = (b, at, refl)
terminal_set es bs i n b (Some x) is at =
    value_set bs i (block_with x.1 es) n b at
    (λ c there. ap (λ (z : BlockId × BasicBlock). z.1.instructions) (some_same x c (sym is ∙ there)))

terminal_put : (es : List AliasingEffect) (bs : List (BlockId × BasicBlock)) (n : ℕ) (b : BlockId × BasicBlock)
    (o : Option ℕ) → slice_get bs n ≡ Some b
    → (d : BlockId × BasicBlock) × (slice_get (option_map_or (with_terminal_at es bs) o bs) n ≡ Some d)
    × (d.1.instructions ≡ b.1.instructions)
terminal_put es bs n b None at = (b, at, refl)
terminal_put es bs n b (Some i) at = terminal_set es bs i n b (slice_get bs i) refl at

block_stays : (ts : List TerminalEffects) (bs : List (BlockId × BasicBlock)) (n : ℕ) (b : BlockId × BasicBlock)
    → slice_get bs n ≡ Some b
    → (d : BlockId × BasicBlock) × (slice_get (recorded_terminals ts bs) n ≡ Some d)
    × (d.1.instructions ≡ b.1.instructions)
block_stays [] bs n b at = (b, at, refl)
block_stays (t ∷ ts) bs n b at =
    let r = block_stays ts bs n b at in
    let p = terminal_put t.effects (recorded_terminals ts bs) n r.0
    (position (same_block t.block) (keys_of (recorded_terminals ts bs))) r.1 in
    (p.0, p.1, p.2 ∙ r.2)

-- ---- the function

pub sets_context : (f : HirFunction) (s : Solved) → AllFilled s.effects → (k slot : ℕ) (block : BlockId × BasicBlock)
    → slice_get f.body.blocks slot ≡ Some block → (id : InstructionId) → IsOneOf id block.1.instructions
    → (i : Instruction) → slice_get f.instructions id.0 ≡ Some i → created i.value ≡ Some (record { 0 = k })
    → HasEntry s.effects id → SetsContext (with_effects_of s f) k
sets_context f s filled k slot block there id listed i at creates h =
    let b = block_stays s.terminal_effects f.body.blocks slot block there in
    let y = entered s.effects filled f.instructions id i at h in
    record {
      slot = slot;
      block = b.0;
      block_there = b.1;
      id = id;
      listed = subst (IsOneOf id) (sym b.2) listed;
      sets = record {
        instruction = y.0;
        there = y.1;
        creates = ap created y.2 ∙ creates;
        first = y.3.0;
        others = y.3.1;
        carries = y.3.2;
      };
    }

-- ---- what all blocks recorded

pub recorded_filled : (rs : List (Option BlockEffects))
    → ((b : ℕ) (k : BlockEffects) → slice_index_or rs b None ≡ Some k → AllFilled k.instructions)
    → AllFilled (flat_map instructions_recorded rs)
recorded_filled [] h = tt
recorded_filled (None ∷ rs) h = recorded_filled rs (λ b k e. h (suc b) k e)
recorded_filled (Some k ∷ rs) h = all_filled k.instructions (flat_map instructions_recorded rs) (h zero k refl)
    (recorded_filled rs (λ b j e. h (suc b) j e))

pub recorded_enters : (rs : List (Option BlockEffects)) (b : ℕ) (k : BlockEffects) (id : InstructionId)
    → slice_index_or rs b None ≡ Some k → HasEntry k.instructions id → HasEntry (flat_map instructions_recorded rs) id
recorded_enters [] b k id e h = cc
recorded_enters (r ∷ rs) zero k id e h =
    has_front (instructions_recorded r) (flat_map instructions_recorded rs) id
    (subst (λ o. HasEntry (instructions_recorded o) id) (sym e) h)
recorded_enters (r ∷ rs) (suc b) k id e h =
    has_rest (instructions_recorded r) (flat_map instructions_recorded rs) id (recorded_enters rs b k id e h)
