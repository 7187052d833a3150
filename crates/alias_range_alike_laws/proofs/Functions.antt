-- Functions that carry alike get the same effects of places and the same ranges.
use Rattle.std.specs.Prelude.{◌≡◌, ℕ, zero, suc, ◌+◌, ◌<◌, ◌≤◌, ◌⊎◌, Bool, List, [], ◌∷◌, Option, Some, None}
use Rattle.std.specs.Prelude.{option_map, length, slice_get, refl}
use Rattle.std.proofs.Common.{ap, sym, ◌∙◌, subst, inl, inr, ⊎_elim, arith, eq-or-lt_of_le}
use Rattle.std.proofs.lemmas.Option.{slice_get_within}
use Rattle.indexmap.specs.IndexMap.{set_value_at}
use Rattle.alias_base.specs.declared.ids.BlockId.{BlockId}
use Rattle.alias_base.specs.declared.ids.EvaluationOrder.{EvaluationOrder}
use Rattle.alias_base.specs.declared.ids.InstructionId.{InstructionId}
use Rattle.alias_hir.specs.Terminals.{terminal_effects, with_terminal_effects, evaluation_order}
use Rattle.alias_hir.specs.declared.effect.AliasingEffect.{AliasingEffect}
use Rattle.alias_hir.specs.declared.env.Environment.{Environment}
use Rattle.alias_hir.specs.declared.env.Identifier.{Identifier}
use Rattle.alias_hir.specs.declared.hir.BasicBlock.{BasicBlock}
use Rattle.alias_hir.specs.declared.hir.HirFunction.{HirFunction}
use Rattle.alias_hir.specs.declared.hir.Instruction.{Instruction}
use Rattle.alias_hir.specs.declared.report.Interned.{Interned}
use Rattle.alias_hir.specs.declared.terminal.Terminal.{Terminal}
use Rattle.alias_hir.specs.declared.terminal.Terminal.TheVariants as terminal
use Rattle.alias_range_pass.specs.places.Blocks.{terminal_placed, ends_placed, order_or, order_of_first, first_order}
use Rattle.alias_range_pass.specs.places.Blocks.{Placed, with_blocks, ends_at_slot, with_instructions}
use Rattle.alias_range_pass.specs.places.Blocks.{block_instructions, placed_at, block_placed, blocks_placed}
use Rattle.alias_range_pass.specs.places.Blocks.{function_placed}
use Rattle.alias_range_pass.specs.places.Instructions.{instructions_placed, with_identifiers}
use Rattle.alias_range_pass.specs.places.Ranges.{phis_merged}
use Rattle.alias_certificate_laws.specs.accepting.Alike.{Paired, none, more, Maybe, nothing, just, AlikeEffects}
use Rattle.alias_certificate_laws.proofs.accepting.Likeness.{paired_get}
use Rattle.alias_range_alike_laws.specs.Ranging.{CarryAlike, carried, EndAlike, stays, ended, CarriesAlike, Sets}
use Rattle.alias_range_alike_laws.specs.Ranging.{SetsContext}
use Rattle.alias_range_alike_laws.proofs.Answers.{same_length}
use Rattle.alias_range_alike_laws.proofs.Around.{AlikeEnv, of_env, around, weaken}
use Rattle.alias_range_alike_laws.proofs.Blocks.{with_parts}
use Rattle.alias_range_alike_laws.proofs.Placing.{State, AlikeState, OneSets, sets_stay, instructions_alike}

-- ---- functions

-- the function itself, with instructions and blocks that carry alike
pub data AlikeForm : HirFunction → HirFunction → Type 0 where
  of_form : (f : HirFunction) (is : List Instruction) (bs : List (BlockId × BasicBlock))
      → Paired CarryAlike f.instructions is → Paired EndAlike f.body.blocks bs → AlikeForm f (with_parts f is bs)

pub carries_alike : (f g : HirFunction) → AlikeForm f g → CarriesAlike f g
carries_alike f g (of_form _ is bs a b) = record { same = refl; instructions = a; entry = refl; blocks = b }

-- a function that carries alike is the first with its own instructions and blocks
pub parts_are : (f g : HirFunction) → CarriesAlike f g → with_parts f g.instructions g.body.blocks ≡ g
parts_are f g c =
    sym (ap (λ (h : HirFunction). record h { instructions = g.instructions; body = g.body }) c.same
    ∙ ap (λ (b : BlockId). record f { instructions = g.instructions; body = record g.body { entry = b } }) c.entry)

-- ---- terminals

record PlacedEnd (effects : List AliasingEffect) (t u : Terminal) : Type 0 where
  pub is : u ≡ with_terminal_effects t effects
  pub carries : Maybe AlikeEffects (terminal_effects t) (terminal_effects (with_terminal_effects t effects))

-- what is set of a terminal's places leaves its effects
terminal_alike : (b : Bool) (t : Terminal) (effects : List AliasingEffect)
    → Maybe AlikeEffects (terminal_effects t) (terminal_effects (with_terminal_effects t effects))
    → PlacedEnd effects (terminal_placed b t) (terminal_placed b (with_terminal_effects t effects))
terminal_alike b (terminal.Return id value old) effects h = record { is = refl; carries = h }
terminal_alike b (terminal.MaybeThrow id continuation handler old) effects h = record { is = refl; carries = h }
terminal_alike b t effects h = record { is = refl; carries = h }

order_same : (t : Terminal) (effects : List AliasingEffect) → evaluation_order (with_terminal_effects t effects)
    ≡ evaluation_order t
order_same (terminal.Return id value old) effects = refl
order_same (terminal.MaybeThrow id continuation handler old) effects = refl
order_same t effects = refl

-- ---- the order of a block

found_order : (o p : Option Instruction) (t : EvaluationOrder) → Maybe CarryAlike o p → order_or p t ≡ order_or o t
found_order o p t nothing = refl
found_order o p t (just (carried i effects q)) = refl

first_same : (xs ys : List Instruction) → Paired CarryAlike xs ys → (ids : List InstructionId) (t : EvaluationOrder)
    → order_of_first ys ids t ≡ order_of_first xs ids t
first_same xs ys q [] t = refl
first_same xs ys q (id ∷ ids) t = found_order (slice_get xs id.0) (slice_get ys id.0) t (paired_get id.0 xs ys q)

block_order : (xs ys : List Instruction) → Paired CarryAlike xs ys → (x y : BlockId × BasicBlock) → EndAlike x y
    → first_order ys y.1 ≡ first_order xs x.1
block_order xs ys q x y (stays b block) = first_same xs ys q block.instructions (evaluation_order block.terminal)
block_order xs ys q x y (ended b block effects h) =
    first_same xs ys q block.instructions (evaluation_order (with_terminal_effects block.terminal effects))
    ∙ ap (λ t. order_of_first xs block.instructions t) (order_same block.terminal effects)

-- ---- the ends of a block

placed_end : (name : BlockId) (b : Bool) (ids : List Identifier) (t : EvaluationOrder) (x y : BlockId × BasicBlock)
    → EndAlike x y → EndAlike (name, ends_placed b ids t x.1) (name, ends_placed b ids t y.1)
placed_end name b ids t x y (stays _ block) = stays name (ends_placed b ids t block)
placed_end name b ids t x y (ended _ block effects h) =
    let new : BasicBlock = ends_placed b ids t block in
    let r = terminal_alike b block.terminal effects h in
    subst (λ (u : Terminal). EndAlike (name, new) (name, record new { terminal = u })) (sym r.is)
    (ended name new effects r.carries)

ends_set : (xs ys : List (BlockId × BasicBlock)) (k : ℕ) (v w : BasicBlock)
    → ((name : BlockId) → EndAlike (name, v) (name, w)) → Paired EndAlike xs ys
    → Paired EndAlike (set_value_at xs k v) (set_value_at ys k w)
ends_set xs ys k v w h none = none
ends_set xs ys zero v w h (more (stays b block) ps) = more (h b) ps
ends_set xs ys zero v w h (more (ended b block effects a) ps) = more (h b) ps
ends_set xs ys (suc k) v w h (more {xs = us} {ys = vs} p ps) = more p (ends_set us vs k v w h ps)

-- ---- a block

-- what a function and its environment are set to
pub record AlikePlacing (P : ℕ → Type 0) (recording : Bool) (interned : List Interned) (s t : Placed) : Type 0 where
  pub function : AlikeForm s.0 t.0
  pub env : AlikeEnv P recording interned s.1 t.1

pub weaken_placing : (P Q : ℕ → Type 0) (recording : Bool) (interned : List Interned) → ((k : ℕ) → P k → Q k)
    → (s t : Placed) → AlikePlacing Q recording interned s t → AlikePlacing P recording interned s t
weaken_placing P Q recording interned h s t q =
    record { function = q.function; env = weaken recording interned P Q h s.1 t.1 q.env }

-- the ends of the block in slot k, where this is the order
abbrev by_order : Bool → ℕ → EvaluationOrder → BasicBlock → HirFunction → Environment → Placed
by_order b k t block f env = (
  with_blocks (set_value_at f.body.blocks k (ends_placed b (phis_merged t block.phis env.identifiers) t block)) f,
  with_identifiers (phis_merged t block.phis env.identifiers) env,
)

phis_same : (x y : BlockId × BasicBlock) → EndAlike x y → y.1.phis ≡ x.1.phis
phis_same x y (stays b block) = refl
phis_same x y (ended b block effects h) = refl

pub ids_same : (x y : BlockId × BasicBlock) → EndAlike x y → y.1.instructions ≡ x.1.instructions
ids_same x y (stays b block) = refl
ids_same x y (ended b block effects h) = refl

module _ (P : ℕ → Type 0) (recording : Bool) (interned : List Interned) (b : Bool) where
  order_alike : (k : ℕ) (t : EvaluationOrder) (x y : BlockId × BasicBlock) (f g : HirFunction) (env other : Environment)
      → EndAlike x y → AlikeForm f g → AlikeEnv P recording interned env other
      → AlikePlacing P recording interned (by_order b k t x.1 f env) (by_order b k t y.1 g other)
  order_alike k t x y f g env other e (of_form _ is bs carry ends) (of_env _ fs errors q same) =
      let there : Environment = around env fs interned errors in
      let ids : List Identifier = phis_merged t x.1.phis env.identifiers in
      subst (λ phis. AlikePlacing P recording interned (by_order b k t x.1 f env) (
        with_blocks (set_value_at bs k (ends_placed b (phis_merged t phis env.identifiers) t y.1))
            (with_parts f is bs),
        with_identifiers (phis_merged t phis env.identifiers) there,
      ))
      (sym (phis_same x y e))
      (record {
        function = of_form (with_blocks (set_value_at f.body.blocks k (ends_placed b ids t x.1)) f) is
            (set_value_at bs k (ends_placed b ids t y.1)) carry
            (ends_set f.body.blocks bs k (ends_placed b ids t x.1) (ends_placed b ids t y.1)
            (λ name. placed_end name b ids t x y e) ends);
        env = of_env (with_identifiers ids env) fs errors q same;
      })

  same_order : (f g : HirFunction) (x y : BlockId × BasicBlock) → AlikeForm f g → EndAlike x y
      → first_order g.instructions y.1 ≡ first_order f.instructions x.1
  same_order f g x y (of_form _ is bs carry ends) e = block_order f.instructions is carry x y e

  ends_alike : (k : ℕ) (x y : BlockId × BasicBlock) (f g : HirFunction) (env other : Environment) → EndAlike x y
      → AlikeForm f g → AlikeEnv P recording interned env other
      → AlikePlacing P recording interned (ends_at_slot b k x.1 f env) (ends_at_slot b k y.1 g other)
  ends_alike k x y f g env other e a q =
      subst (λ (t : EvaluationOrder). AlikePlacing P recording interned (ends_at_slot b k x.1 f env)
      (by_order b k t y.1 g other)) (sym (same_order f g x y a e))
      (order_alike k (first_order f.instructions x.1) x y f g env other e a q)

  state_alike : (s t : Placed) → AlikePlacing P recording interned s t
      → AlikeState P recording interned (s.0.instructions, s.1) (t.0.instructions, t.1)
  state_alike s t q = record { instructions = (carries_alike s.0 t.0 q.function).instructions; env = q.env }

  with_alike : (f g : HirFunction) (s t : State) (Q : ℕ → Type 0) → AlikeForm f g → AlikeState Q recording interned s t
      → AlikePlacing Q recording interned (with_instructions s f) (with_instructions t g)
  with_alike f g s t Q (of_form _ is bs carry ends) q =
      record { function = of_form (record f { instructions = s.0 }) t.0 bs q.instructions ends; env = q.env }

  listed_alike : (ids : List InstructionId) (s t : Placed) → AlikePlacing P recording interned s t
      → AlikePlacing (λ k. P k ⊎ OneSets s.0.instructions ids k) recording interned (block_instructions ids s)
      (block_instructions ids t)
  listed_alike ids s t q =
      with_alike s.0 t.0 (instructions_placed ids (s.0.instructions, s.1))
      (instructions_placed ids (t.0.instructions, t.1)) (λ k. P k ⊎ OneSets s.0.instructions ids k) q.function
      (instructions_alike recording interned P ids (s.0.instructions, s.1) (t.0.instructions, t.1) (state_alike s t q))

-- an instruction of the block that is found creates the k-th function, and carries an effect at least
abbrev BlockSets : List Instruction → Option (BlockId × BasicBlock) → ℕ → Type 0
BlockSets is o k = (block : BlockId × BasicBlock) × (o ≡ Some block) × OneSets is block.1.instructions k

abbrev block_of : BlockId × BasicBlock → BasicBlock
block_of e = e.1

blocks_get : (f g : HirFunction) (k : ℕ) → AlikeForm f g
    → Maybe EndAlike (slice_get f.body.blocks k) (slice_get g.body.blocks k)
blocks_get f g k (of_form _ is bs carry ends) = paired_get k f.body.blocks bs ends

module _ (recording : Bool) (interned : List Interned) (b : Bool) where
  found_alike : (P : ℕ → Type 0) (k : ℕ) (o p : Option (BlockId × BasicBlock)) (s t : Placed) → Maybe EndAlike o p
      → AlikePlacing P recording interned s t
      → AlikePlacing (λ j. P j ⊎ BlockSets s.0.instructions o j) recording interned
      (placed_at b k (option_map block_of o) s) (placed_at b k (option_map block_of p) t)
  found_alike P k o p s t nothing q = weaken_placing (λ j. P j ⊎ BlockSets s.0.instructions None j) P recording interned
      (λ j. ⊎_elim (λ h. h) (λ (h : BlockSets s.0.instructions None j). let no : None ≡ Some h.0 = h.1 in cc)) s t q
  found_alike P k o p s t (just {a = x} {b = y} e) q =
      let s1 : Placed = ends_at_slot b k x.1 s.0 s.1 in
      let t1 : Placed = ends_at_slot b k y.1 t.0 t.1 in
      let r = listed_alike P recording interned b x.1.instructions s1 t1
      (ends_alike P recording interned b k x y s.0 t.0 s.1 t.1 e q.function q.env) in
      let Q : ℕ → Type 0 = λ j. P j ⊎ BlockSets s.0.instructions (Some x) j in
      let its : (j : ℕ) → BlockSets s.0.instructions (Some x) j → OneSets s.0.instructions x.1.instructions j =
      λ j h. let is : Some x ≡ Some h.0 = h.1 in let same : x ≡ h.0 = cc in
      subst (λ (z : BlockId × BasicBlock). OneSets s.0.instructions z.1.instructions j) (sym same) h.2 in
      subst (λ ids. AlikePlacing Q recording interned (block_instructions x.1.instructions s1)
      (block_instructions ids t1)) (sym (ids_same x y e))
      (weaken_placing Q (λ j. P j ⊎ OneSets s.0.instructions x.1.instructions j) recording interned
      (λ j. ⊎_elim (λ h. inl h) (λ h. inr (its j h))) (block_instructions x.1.instructions s1)
      (block_instructions x.1.instructions t1) r)

  block_alike : (P : ℕ → Type 0) (k : ℕ) (s t : Placed) → AlikePlacing P recording interned s t
      → AlikePlacing (λ j. P j ⊎ BlockSets s.0.instructions (slice_get s.0.body.blocks k) j) recording interned
      (block_placed b k s) (block_placed b k t)
  block_alike P k s t q = found_alike P k (slice_get s.0.body.blocks k) (slice_get t.0.body.blocks k) s t
      (blocks_get s.0 t.0 k q.function) q

-- ---- what is to be set stays so

kept_block : (is js : List Instruction) (x y : BlockId × BasicBlock) (j : ℕ) → y.1.instructions ≡ x.1.instructions
    → ((m : ℕ) → Sets (slice_get is m) j → Sets (slice_get js m) j) → OneSets is x.1.instructions j
    → OneSets js y.1.instructions j
kept_block is js x y j same up h = subst (λ ids. OneSets js ids j) (sym same) (h.0, h.1, up h.0.0 h.2)

-- the block in slot k has other ends
kept_in : (is js : List Instruction) (bs : List (BlockId × BasicBlock)) (k slot j : ℕ) (x : BasicBlock) (w : BasicBlock)
    → w.instructions ≡ x.instructions → option_map block_of (slice_get bs k) ≡ Some x
    → ((m : ℕ) → Sets (slice_get is m) j → Sets (slice_get js m) j)
    → BlockSets is (slice_get bs slot) j → BlockSets js (slice_get (set_value_at bs k w) slot) j
kept_in is js [] k slot j x w same at up h = let no : None ≡ Some h.0 = h.1 in cc
kept_in is js (e ∷ bs) zero zero j x w same at up h =
    let found : Some e ≡ Some h.0 = h.1 in
    let one : e ≡ h.0 = cc in
    let is_x : e.1 ≡ x = cc in (
      (e.0, w),
      refl,
      kept_block is js h.0 (e.0, w) j
          (same ∙ ap (λ (z : BasicBlock). z.instructions) (sym is_x)
          ∙ ap (λ (z : BlockId × BasicBlock). z.1.instructions) one) up h.2,
    )
kept_in is js (e ∷ bs) zero (suc slot) j x w same at up h = (h.0, h.1, kept_block is js h.0 h.0 j refl up h.2)
kept_in is js (e ∷ bs) (suc k) zero j x w same at up h = (h.0, h.1, kept_block is js h.0 h.0 j refl up h.2)
kept_in is js (e ∷ bs) (suc k) (suc slot) j x w same at up h = kept_in is js bs k slot j x w same at up h

kept_by : (b : Bool) (k slot j : ℕ) (o : Option BasicBlock) (s : Placed)
    → option_map block_of (slice_get s.0.body.blocks k) ≡ o
    → BlockSets s.0.instructions (slice_get s.0.body.blocks slot) j
    → BlockSets (placed_at b k o s).0.instructions (slice_get (placed_at b k o s).0.body.blocks slot) j
kept_by b k slot j None s at h = h
kept_by b k slot j (Some x) s at h =
    let s1 : Placed = ends_at_slot b k x s.0 s.1 in
    kept_in s.0.instructions (placed_at b k (Some x) s).0.instructions s.0.body.blocks k slot j x
    (ends_placed b s1.1.identifiers (first_order s.0.instructions x) x) refl at
    (λ m z. sets_stay x.instructions (s.0.instructions, s1.1) m j z) h

kept : (b : Bool) (k slot j : ℕ) (s : Placed) → BlockSets s.0.instructions (slice_get s.0.body.blocks slot) j
    → BlockSets (block_placed b k s).0.instructions (slice_get (block_placed b k s).0.body.blocks slot) j
kept b k slot j s h = kept_by b k slot j (option_map block_of (slice_get s.0.body.blocks k)) s refl h

-- ---- all blocks

-- a block in one of n slots from k on does
pub record SlotSets (f : HirFunction) (k n j : ℕ) : Type 0 where
  pub slot : ℕ
  pub from : k ≤ slot
  pub below : slot < k + n
  pub sets : BlockSets f.instructions (slice_get f.body.blocks slot) j

next_sets : (b : Bool) (k n j : ℕ) (s : Placed) → SlotSets s.0 k (suc n) j
    → BlockSets s.0.instructions (slice_get s.0.body.blocks k) j ⊎ SlotSets (block_placed b k s).0 (k + 1) n j
next_sets b k n j s h =
    let low : k ≤ h.slot = h.from in
    let high : h.slot < k + suc n = h.below in
    ⊎_elim (λ (is : k ≡ h.slot). inl (subst (λ z. BlockSets s.0.instructions (slice_get s.0.body.blocks z) j) (sym is)
    h.sets))
    (λ (lt : k < h.slot). inr (record {
      slot = h.slot;
      from = omega arith;
      below = omega arith;
      sets = kept b k h.slot j s h.sets;
    })) (eq-or-lt_of_le low)

module _ (recording : Bool) (interned : List Interned) (b : Bool) where
  blocks_alike : (P : ℕ → Type 0) (n k : ℕ) (s t : Placed) → AlikePlacing P recording interned s t
      → AlikePlacing (λ j. P j ⊎ SlotSets s.0 k n j) recording interned (blocks_placed b n k s) (blocks_placed b n k t)
  blocks_alike P zero k s t q =
      weaken_placing (λ j. P j ⊎ SlotSets s.0 k zero j) P recording interned
      (λ j. ⊎_elim (λ h. h) (λ (h : SlotSets s.0 k zero j). let low : k ≤ h.slot = h.from in let high : h.slot < k
      + zero = h.below in let no : ⊥ = omega arith in absurd no)) s t q
  blocks_alike P (suc n) k s t q =
      let P1 : ℕ → Type 0 = λ j. P j ⊎ BlockSets s.0.instructions (slice_get s.0.body.blocks k) j in
      let s1 : Placed = block_placed b k s in
      let t1 : Placed = block_placed b k t in
      weaken_placing (λ j. P j ⊎ SlotSets s.0 k (suc n) j) (λ j. P1 j ⊎ SlotSets s1.0 (k + 1) n j) recording interned
      (λ j. ⊎_elim (λ h. inl (inl h)) (λ (h : SlotSets s.0 k (suc n) j).
      ⊎_elim (λ a. inl (inr a)) (λ c. inr c) (next_sets b k n j s h)))
      (blocks_placed b n (k + 1) s1) (blocks_placed b n (k + 1) t1)
      (blocks_alike P1 n (k + 1) s1 t1 (block_alike recording interned b P k s t q))

  same_count : (f g : HirFunction) → AlikeForm f g → length g.body.blocks ≡ length f.body.blocks
  same_count f g (of_form _ is bs carry ends) = same_length f.body.blocks bs ends

  pub function_alike : (P : ℕ → Type 0) (s t : Placed) → AlikePlacing P recording interned s t
      → AlikePlacing (λ j. P j ⊎ SlotSets s.0 0 (length s.0.body.blocks) j) recording interned (function_placed b s)
      (function_placed b t)
  function_alike P s t q =
      subst (λ n. AlikePlacing (λ j. P j ⊎ SlotSets s.0 0 (length s.0.body.blocks) j) recording interned
      (function_placed b s) (blocks_placed b n 0 t)) (sym (same_count s.0 t.0 q.function))
      (blocks_alike P (length s.0.body.blocks) 0 s t q)

-- an instruction of a block that sets a context does so in its slot
pub slot_sets : (f : HirFunction) (j : ℕ) → SetsContext f j → SlotSets f 0 (length f.body.blocks) j
slot_sets f j h =
    let within : h.slot < length f.body.blocks = slice_get_within f.body.blocks h.slot h.block h.block_there in
    record {
      slot = h.slot;
      from = omega arith;
      below = omega arith;
      sets = (h.block, h.block_there, (h.id, h.listed, h.sets));
    }
