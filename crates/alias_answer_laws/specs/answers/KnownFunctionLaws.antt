-- After the range pass each instruction that stands in a block of the function has operands with effects, and the
-- function creates what it did.
use Rattle.std.specs.Prelude.{◌≡◌, ℕ, ◌+◌, ◌<◌, Bool, List, [], ◌∷◌, ◌++◌, Option, Some, None, length, map, option_map}
use Rattle.std.specs.Prelude.{position, slice_get, slice_set, refl}
use Rattle.std.specs.List.{AllByRecursion, flat_map}
use Rattle.std.specs.Map.{keys_of}
use Rattle.std.specs.Option.{option_map_or}
use Rattle.std.proofs.Common.{zero, suc, ap, sym, ◌∙◌, subst, arith}
use Rattle.std.proofs.lemmas.List.{length-map}
use Rattle.indexmap.specs.IndexMap.{set_value_at}
use Rattle.alias_base.specs.Find.{same_block}
use Rattle.alias_base.specs.declared.ids.BlockId.{BlockId}
use Rattle.alias_base.specs.declared.ids.InstructionId.{InstructionId}
use Rattle.alias_hir.specs.Values.{created}
use Rattle.alias_hir.specs.declared.effect.AliasingEffect.{AliasingEffect}
use Rattle.alias_hir.specs.declared.env.Environment.{Environment}
use Rattle.alias_hir.specs.declared.hir.BasicBlock.{BasicBlock}
use Rattle.alias_hir.specs.declared.hir.HirFunction.{HirFunction}
use Rattle.alias_hir.specs.declared.hir.Instruction.{Instruction}
use Rattle.alias_step.specs.declared.block.recorded.InstructionEffects.{InstructionEffects}
use Rattle.alias_step.specs.declared.block.recorded.TerminalEffects.{TerminalEffects}
use Rattle.alias_effects.specs.Recording.{recorded_instructions, block_with, with_terminal_at, recorded_terminals}
use Rattle.alias_effects.specs.Recording.{with_effects_of}
use Rattle.alias_effects.specs.declared.solved.Solved.{Solved}
use Rattle.alias_nested.specs.Created.{one_of, created_by, created_by_all, created_functions}
use Rattle.alias_range_pass.specs.places.Blocks.{Placed, ends_placed, first_order, block_merged, placed_at}
use Rattle.alias_range_pass.specs.places.Blocks.{block_placed, blocks_placed, function_placed}
use Rattle.alias_range_pass.specs.places.Instructions.{instruction_placed, placed_in, instruction_at}
use Rattle.alias_range_pass.specs.places.Instructions.{instructions_placed}
use Rattle.alias_range_pass.specs.places.Ranges.{assigned}
use Rattle.alias_range_pass.specs.places.Tables.{table_of}
use Rattle.alias_answer_laws.specs.answers.KnownValueLaws.{OperandsKnown, table_known, value_known, creates_same}

-- the instruction, where there is one, has operands with effects
abbrev pub KnownAt : Option Instruction → Type 0
KnownAt None = Unit {0}
KnownAt (Some i) = OperandsKnown i.value

-- so have those of these numbers
abbrev pub IdsKnown : List Instruction → List InstructionId → Type 0
IdsKnown is ids = AllByRecursion (λ (id : InstructionId). KnownAt (slice_get is id.0)) ids

abbrev pub listed_in : BlockId × BasicBlock → List InstructionId
listed_in b = b.1.instructions

-- the lists of the blocks, in stored order
abbrev pub lists : HirFunction → List (List InstructionId)
lists f = map listed_in f.body.blocks

-- each instruction that stands in a block has operands with effects
abbrev pub FunctionKnown : HirFunction → Type 0
FunctionKnown f = AllByRecursion (IdsKnown f.instructions) (lists f)

-- ---- one instruction

set_known : (is : List Instruction) (n k : ℕ) (x : Instruction) → OperandsKnown x.value → KnownAt (slice_get is k)
    → KnownAt (slice_get (slice_set is n x) k)
set_known [] n k x h p = p
set_known (y ∷ ys) zero zero x h p = h
set_known (y ∷ ys) zero (suc k) x h p = p
set_known (y ∷ ys) (suc n) zero x h p = p
set_known (y ∷ ys) (suc n) (suc k) x h p = set_known ys n k x h p

there_known : (is : List Instruction) (n : ℕ) (x : Instruction) → OperandsKnown x.value
    → KnownAt (slice_get (slice_set is n x) n)
there_known [] n x h = tt
there_known (y ∷ ys) zero x h = h
there_known (y ∷ ys) (suc n) x h = there_known ys n x h

instruction_known : (i : Instruction) (env : Environment) → OperandsKnown (instruction_placed i env).0.value
instruction_known i env = value_known (table_of (assigned i env.identifiers) i)
    (table_known (assigned i env.identifiers) i) i.value

placed_persists : (is : List Instruction) (env : Environment) (id : InstructionId) (o : Option Instruction) (k : ℕ)
    → KnownAt (slice_get is k) → KnownAt (slice_get (placed_in is env id o).0 k)
placed_persists is env id None k p = p
placed_persists is env id (Some i) k p = set_known is id.0 k (instruction_placed i env).0 (instruction_known i env) p

placed_there : (is : List Instruction) (env : Environment) (id : InstructionId) (o : Option Instruction)
    → slice_get is id.0 ≡ o → KnownAt (slice_get (placed_in is env id o).0 id.0)
placed_there is env id None e = subst KnownAt (sym e) tt
placed_there is env id (Some i) e = there_known is id.0 (instruction_placed i env).0 (instruction_known i env)

persists : (ids : List InstructionId) (s : List Instruction × Environment) (k : ℕ) → KnownAt (slice_get s.0 k)
    → KnownAt (slice_get (instructions_placed ids s).0 k)
persists [] s k p = p
persists (id ∷ ids) s k p = persists ids (instruction_at s id) k (placed_persists s.0 s.1 id (slice_get s.0 id.0) k p)

ids_placed : (ids : List InstructionId) (s : List Instruction × Environment)
    → IdsKnown (instructions_placed ids s).0 ids
ids_placed [] s = tt
ids_placed (id ∷ ids) s = (
  persists ids (instruction_at s id) id.0 (placed_there s.0 s.1 id (slice_get s.0 id.0) refl),
  ids_placed ids (instruction_at s id),
)

ids_persist : (ids : List InstructionId) (s : List Instruction × Environment) (js : List InstructionId)
    → IdsKnown s.0 js → IdsKnown (instructions_placed ids s).0 js
ids_persist ids s [] p = tt
ids_persist ids s (j ∷ js) p = (persists ids s j.0 p.0, ids_persist ids s js p.1)

-- ---- the lists of blocks

abbrev block_of : BlockId × BasicBlock → BasicBlock
block_of b = b.1

lists_set : (bs : List (BlockId × BasicBlock)) (k : ℕ) (x y : BasicBlock) → option_map block_of (slice_get bs k)
    ≡ Some x → y.instructions ≡ x.instructions → map listed_in (set_value_at bs k y) ≡ map listed_in bs
lists_set [] k x y h e = refl
lists_set (b ∷ bs) zero x y h e = let same : b.1 ≡ x = cc in
    ap (λ z. z ∷ map listed_in bs) (e ∙ ap (λ (z : BasicBlock). z.instructions) (sym same))
lists_set (b ∷ bs) (suc k) x y h e = ap (λ z. listed_in b ∷ z) (lists_set bs k x y h e)

some_listed : (bs : List (BlockId × BasicBlock)) (k : ℕ) (x : BasicBlock) → option_map block_of (slice_get bs k)
    ≡ Some x → slice_get (map listed_in bs) k ≡ Some x.instructions
some_listed [] k x h = cc
some_listed (b ∷ bs) zero x h = let same : b.1 ≡ x = cc in ap (λ (z : BasicBlock). Some z.instructions) same
some_listed (b ∷ bs) (suc k) x h = some_listed bs k x h

none_listed : (bs : List (BlockId × BasicBlock)) (k : ℕ) → option_map block_of (slice_get bs k) ≡ None
    → slice_get (map listed_in bs) k ≡ None
none_listed [] k h = refl
none_listed (b ∷ bs) zero h = cc
none_listed (b ∷ bs) (suc k) h = none_listed bs k h

slot_lists : (b : Bool) (k : ℕ) (o : Option BasicBlock) (s : Placed) → option_map block_of (slice_get s.0.body.blocks k)
    ≡ o → lists (placed_at b k o s).0 ≡ lists s.0
slot_lists b k None s e = refl
slot_lists b k (Some x) s e = lists_set s.0.body.blocks k x
    (ends_placed b (block_merged s.0 x s.1).identifiers (first_order s.0.instructions x) x) e refl

blocks_lists : (b : Bool) (n k : ℕ) (s : Placed) → lists (blocks_placed b n k s).0 ≡ lists s.0
blocks_lists b zero k s = refl
blocks_lists b (suc n) k s = blocks_lists b n (k + 1) (block_placed b k s)
    ∙ slot_lists b k (option_map block_of (slice_get s.0.body.blocks k)) s refl

-- ---- blocks

abbrev ListKnown : List Instruction → Option (List InstructionId) → Type 0
ListKnown is None = Unit {0}
ListKnown is (Some ids) = IdsKnown is ids

abbrev SlotKnown : Placed → ℕ → Type 0
SlotKnown s j = ListKnown s.0.instructions (slice_get (lists s.0) j)

list_persists : (ids : List InstructionId) (s : List Instruction × Environment) (o : Option (List InstructionId))
    → ListKnown s.0 o → ListKnown (instructions_placed ids s).0 o
list_persists ids s None p = tt
list_persists ids s (Some js) p = ids_persist ids s js p

slot_persists : (b : Bool) (k : ℕ) (o : Option BasicBlock) (s : Placed) (j : ℕ)
    → option_map block_of (slice_get s.0.body.blocks k) ≡ o → SlotKnown s j → SlotKnown (placed_at b k o s) j
slot_persists b k None s j e p = p
slot_persists b k (Some x) s j e p =
    let begun : List Instruction × Environment = (s.0.instructions, block_merged s.0 x s.1) in
    subst (λ ls. ListKnown (instructions_placed x.instructions begun).0 (slice_get ls j))
    (sym (slot_lists b k (Some x) s e)) (list_persists x.instructions begun (slice_get (lists s.0) j) p)

slot_there : (b : Bool) (k : ℕ) (o : Option BasicBlock) (s : Placed) → option_map block_of (slice_get s.0.body.blocks k)
    ≡ o → SlotKnown (placed_at b k o s) k
slot_there b k None s e = subst (ListKnown s.0.instructions) (sym (none_listed s.0.body.blocks k e)) tt
slot_there b k (Some x) s e =
    let begun : List Instruction × Environment = (s.0.instructions, block_merged s.0 x s.1) in
    let here : slice_get (lists (placed_at b k (Some x) s).0) k ≡ Some x.instructions =
    ap (λ ls. slice_get ls k) (slot_lists b k (Some x) s e) ∙ some_listed s.0.body.blocks k x e in
    subst (ListKnown (instructions_placed x.instructions begun).0) (sym here) (ids_placed x.instructions begun)

blocks_persist : (b : Bool) (n k : ℕ) (s : Placed) (j : ℕ) → SlotKnown s j → SlotKnown (blocks_placed b n k s) j
blocks_persist b zero k s j p = p
blocks_persist b (suc n) k s j p = blocks_persist b n (k + 1) (block_placed b k s) j
    (slot_persists b k (option_map block_of (slice_get s.0.body.blocks k)) s j refl p)

blocks_there : (b : Bool) (n k : ℕ) (s : Placed) (d : ℕ) → d < n → SlotKnown (blocks_placed b n k s) (k + d)
blocks_there b zero k s d h = absurd (omega arith)
blocks_there b (suc n) k s zero h =
    let here : k ≡ k + 0 = omega arith in
    subst (SlotKnown (blocks_placed b (suc n) k s)) here
    (blocks_persist b n (k + 1) (block_placed b k s) k
    (slot_there b k (option_map block_of (slice_get s.0.body.blocks k)) s refl))
blocks_there b (suc n) k s (suc d) h =
    let here : (k + 1) + d ≡ k + suc d = omega arith in
    subst (SlotKnown (blocks_placed b (suc n) k s)) here (blocks_there b n (k + 1) (block_placed b k s) d (omega arith))

all_slots : (is : List Instruction) (ls : List (List InstructionId))
    → ((j : ℕ) → j < length ls → ListKnown is (slice_get ls j)) → AllByRecursion (IdsKnown is) ls
all_slots is [] h = tt
all_slots is (l ∷ ls) h = (h 0 (omega arith), all_slots is ls (λ j p. h (suc j) (omega arith)))

-- a function after the effects of its places are set
pub function_known : (b : Bool) (s : Placed) → FunctionKnown (function_placed b s).0
function_known b s =
    let n : ℕ = length s.0.body.blocks in
    let r : Placed = function_placed b s in
    let long : length (lists r.0) ≡ n = ap length (blocks_lists b n 0 s) ∙ length-map s.0.body.blocks listed_in in
    all_slots r.0.instructions (lists r.0) (λ j p.
    let here : 0 + j ≡ j = omega arith in
    subst (SlotKnown r) here (blocks_there b n 0 s j (subst (λ m. j < m) long p)))

-- ---- what a function creates

-- the blocks list the same instructions, and these create the same
pub record SameListing (f g : HirFunction) : Type 0 where
  pub listed : lists g ≡ lists f
  pub creates : (k : ℕ) → created_by (slice_get g.instructions k) ≡ created_by (slice_get f.instructions k)

pub listing_through : (f g h : HirFunction) → SameListing f g → SameListing g h → SameListing f h
listing_through f g h p q = record { listed = q.listed ∙ p.listed; creates = λ k. q.creates k ∙ p.creates k }

created_all : (f g : HirFunction) → SameListing f g → (ids : List InstructionId) → created_by_all g ids
    ≡ created_by_all f ids
created_all f g p [] = refl
created_all f g p (i ∷ ids) = ap (λ z. z ++ created_by_all g ids) (p.creates i.0)
    ∙ ap (λ z. created_by (slice_get f.instructions i.0) ++ z) (created_all f g p ids)

created_of_lists : (f g : HirFunction) → SameListing f g → (ls : List (List InstructionId))
    → flat_map (created_by_all g) ls ≡ flat_map (created_by_all f) ls
created_of_lists f g p [] = refl
created_of_lists f g p (l ∷ ls) = ap (λ z. z ++ flat_map (created_by_all g) ls) (created_all f g p l)
    ∙ ap (λ z. created_by_all f l ++ z) (created_of_lists f g p ls)

created_by_lists : (f : HirFunction) (bs : List (BlockId × BasicBlock))
    → flat_map (λ (b : BlockId × BasicBlock). created_by_all f b.1.instructions) bs
    ≡ flat_map (created_by_all f) (map listed_in bs)
created_by_lists f [] = refl
created_by_lists f (b ∷ bs) = ap (λ z. created_by_all f b.1.instructions ++ z) (created_by_lists f bs)

pub same_functions : (f g : HirFunction) → SameListing f g → created_functions g ≡ created_functions f
same_functions f g p =
    created_by_lists g g.body.blocks ∙ ap (flat_map (created_by_all g)) p.listed ∙ created_of_lists f g p (lists f)
    ∙ sym (created_by_lists f f.body.blocks)

set_creates : (is : List Instruction) (n : ℕ) (i x : Instruction) (k : ℕ) → slice_get is n ≡ Some i → created x.value
    ≡ created i.value → created_by (slice_get (slice_set is n x) k) ≡ created_by (slice_get is k)
set_creates [] n i x k h e = refl
set_creates (y ∷ ys) zero i x zero h e = let same : y ≡ i = cc in
    ap one_of (e ∙ ap (λ (z : Instruction). created z.value) (sym same))
set_creates (y ∷ ys) zero i x (suc k) h e = refl
set_creates (y ∷ ys) (suc n) i x zero h e = refl
set_creates (y ∷ ys) (suc n) i x (suc k) h e = set_creates ys n i x k h e

-- by the range pass

placed_creates : (is : List Instruction) (env : Environment) (id : InstructionId) (o : Option Instruction) (k : ℕ)
    → slice_get is id.0 ≡ o → created_by (slice_get (placed_in is env id o).0 k) ≡ created_by (slice_get is k)
placed_creates is env id None k e = refl
placed_creates is env id (Some i) k e = set_creates is id.0 i (instruction_placed i env).0 k e
    (creates_same (table_of (assigned i env.identifiers) i) i.value)

instructions_create : (ids : List InstructionId) (s : List Instruction × Environment) (k : ℕ)
    → created_by (slice_get (instructions_placed ids s).0 k) ≡ created_by (slice_get s.0 k)
instructions_create [] s k = refl
instructions_create (id ∷ ids) s k = instructions_create ids (instruction_at s id) k
    ∙ placed_creates s.0 s.1 id (slice_get s.0 id.0) k refl

slot_creates : (b : Bool) (j : ℕ) (o : Option BasicBlock) (s : Placed) (k : ℕ)
    → created_by (slice_get (placed_at b j o s).0.instructions k) ≡ created_by (slice_get s.0.instructions k)
slot_creates b j None s k = refl
slot_creates b j (Some x) s k = instructions_create x.instructions (s.0.instructions, block_merged s.0 x s.1) k

blocks_create : (b : Bool) (n j : ℕ) (s : Placed) (k : ℕ)
    → created_by (slice_get (blocks_placed b n j s).0.instructions k) ≡ created_by (slice_get s.0.instructions k)
blocks_create b zero j s k = refl
blocks_create b (suc n) j s k = blocks_create b n (j + 1) (block_placed b j s) k
    ∙ slot_creates b j (option_map block_of (slice_get s.0.body.blocks j)) s k

pub placed_lists_same : (b : Bool) (s : Placed) → SameListing s.0 (function_placed b s).0
placed_lists_same b s = record {
  listed = blocks_lists b (length s.0.body.blocks) 0 s;
  creates = blocks_create b (length s.0.body.blocks) 0 s;
}

-- by the effects pass

recorded_at : (e : InstructionEffects) (xs : List Instruction) (o : Option Instruction) (k : ℕ)
    → slice_get xs e.instruction.0 ≡ o
    → created_by (slice_get (option_map_or
    (λ (x : Instruction). slice_set xs e.instruction.0 (record x { effects = Some e.effects })) o xs) k)
    ≡ created_by (slice_get xs k)
recorded_at e xs None k h = refl
recorded_at e xs (Some x) k h = set_creates xs e.instruction.0 x (record x { effects = Some e.effects }) k h refl

recorded_create : (es : List InstructionEffects) (xs : List Instruction) (k : ℕ)
    → created_by (slice_get (recorded_instructions es xs) k) ≡ created_by (slice_get xs k)
recorded_create [] xs k = refl
recorded_create (e ∷ es) xs k = recorded_at e (recorded_instructions es xs)
    (slice_get (recorded_instructions es xs) e.instruction.0) k refl ∙ recorded_create es xs k

end_at : (es : List AliasingEffect) (bs : List (BlockId × BasicBlock)) (n : ℕ) (o : Option (BlockId × BasicBlock))
    → slice_get bs n ≡ o
    → map listed_in (option_map_or (λ (x : BlockId × BasicBlock). set_value_at bs n (block_with x.1 es)) o bs)
    ≡ map listed_in bs
end_at es bs n None h = refl
end_at es bs n (Some x) h = lists_set bs n x.1 (block_with x.1 es) (ap (option_map block_of) h) refl

end_set : (es : List AliasingEffect) (bs : List (BlockId × BasicBlock)) (o : Option ℕ)
    → map listed_in (option_map_or (with_terminal_at es bs) o bs) ≡ map listed_in bs
end_set es bs None = refl
end_set es bs (Some n) = end_at es bs n (slice_get bs n) refl

ends_listed : (ts : List TerminalEffects) (bs : List (BlockId × BasicBlock)) → map listed_in (recorded_terminals ts bs)
    ≡ map listed_in bs
ends_listed [] bs = refl
ends_listed (t ∷ ts) bs = end_set t.effects (recorded_terminals ts bs)
    (position (same_block t.block) (keys_of (recorded_terminals ts bs))) ∙ ends_listed ts bs

pub effects_lists_same : (s : Solved) (f : HirFunction) → SameListing f (with_effects_of s f)
effects_lists_same s f = record {
  listed = ends_listed s.terminal_effects f.body.blocks;
  creates = recorded_create s.effects f.instructions;
}
