-- What holds of the blocks of a made unit.
use Rattle.std.proofs.Common.{◌≡◌, refl, ap, sym, ◌∙◌, ℕ, suc, zero, ◌+◌, ◌*◌, ◌<◌, ◌≤◌, ◌≢◌, ◌⊎◌, inl, inr, Bool, true}
use Rattle.std.proofs.Common.{false, cond, eqb, List, [], ◌∷◌, ◌++◌, map, append-nil, Option, None, Some, Result, Ok}
use Rattle.std.proofs.Common.{arith}
use Rattle.std.specs.Prelude.{⊤, is_some}
use Rattle.std.specs.List.{flat_map, list_all, range_with_len}
use Rattle.std.proofs.lemmas.Bool.Decides.{eqb_tells}
use Rattle.std.proofs.lemmas.Grind.{flat_map-append}
use Rattle.alias_base.specs.Answer.{all_pass}
use Rattle.alias_base.specs.Find.{value_at}
use Rattle.alias_base.specs.declared.ids.BlockId.{BlockId}
use Rattle.alias_base.specs.declared.ids.InstructionId.{InstructionId}
use Rattle.alias_hir.specs.declared.hir.BasicBlock.{BasicBlock}
use Rattle.alias_made.specs.Blocks.{block_of, last_block, made_blocks}
use Rattle.alias_made.specs.laws.RangeLaws.{then_passes, both, all_pass-append, each_passes, list_all-append}
use Rattle.alias_made.specs.laws.RangeLaws.{each_holds}

-- what passes of each block passes of all
pub blocks_pass : {E : Type 0} (f : BlockId × BasicBlock → Result ⊤ E) (size : ℕ)
    → ((block : ℕ) → block < size → f (block_of block) ≡ Ok tt) → f (last_block size) ≡ Ok tt
    → all_pass f (made_blocks size) ≡ Ok tt
blocks_pass f size each end_passes =
    all_pass-append f (map block_of (range_with_len 0 size)) (last_block size ∷ [])
    (each_passes f block_of 0 size (λ block below. each block (omega arith)))
    (then_passes (f (last_block size)) (Ok tt) end_passes refl)

pub blocks_hold : (p : BlockId × BasicBlock → Bool) (size : ℕ) → ((block : ℕ) → p (block_of block) ≡ true)
    → p (last_block size) ≡ true → list_all p (made_blocks size) ≡ true
blocks_hold p size each end_holds =
    list_all-append p (map block_of (range_with_len 0 size)) (last_block size ∷ [])
    (each_holds p block_of 0 size (λ block below. each block)) (both (p (last_block size)) true end_holds refl)

lists_nothing : {A : Type 0} (f : BlockId × BasicBlock → List A) (a n : ℕ) → ((block : ℕ) → f (block_of block) ≡ [])
    → flat_map f (map block_of (range_with_len a n)) ≡ []
lists_nothing f a zero each = refl
lists_nothing f a (suc n) each = ap (λ xs. xs ++ flat_map f (map block_of (range_with_len (a + 1) n))) (each a)
    ∙ lists_nothing f (a + 1) n each

-- what no block has
pub blocks_list_nothing : {A : Type 0} (f : BlockId × BasicBlock → List A) (size : ℕ)
    → ((block : ℕ) → f (block_of block) ≡ []) → f (last_block size) ≡ [] → flat_map f (made_blocks size) ≡ []
blocks_list_nothing f size each last =
    flat_map-append f (map block_of (range_with_len 0 size)) (last_block size ∷ [])
    ∙ ap (λ xs. xs ++ (f (last_block size) ++ [])) (lists_nothing f 0 size each)
    ∙ ap (λ xs. xs ++ []) last

-- ---- the blocks by their numbers

found : {V : Type 0} (b : Bool) (v : V) (o : Option V) → (b ≡ true) ⊎ (is_some o ≡ true) → is_some (cond b (Some v) o)
    ≡ true
found true v o h = refl
found false v o h = elim h [ inl p ↦ cc | inr q ↦ q ]

above_next : (i j : ℕ) → i ≤ j → j ≢ i → i + 1 ≤ j
above_next i j h other = omega arith

itself : (k s : ℕ) → k ≡ s → eqb k s ≡ true
itself k s e = elim (eqb_tells k s) [ inl p ↦ p.0 | inr p ↦ absurd (p.1 e) ]

there_from : (a n k s : ℕ) → a ≤ k → k ≤ s → s ≡ a + n
    → is_some (value_at (map block_of (range_with_len a n) ++ last_block s ∷ []) (record { 0 = k })) ≡ true
there_from a zero k s above within is = found (eqb k s) (last_block s).1 None (inl (itself k s (omega arith)))
there_from a (suc n) k s above within is =
    found (eqb k a) (block_of a).1 (value_at (map block_of (range_with_len (a + 1) n) ++ last_block s ∷ [])
    (record { 0 = k }))
    (elim (eqb_tells k a) [
      | inl p ↦ inl p.0
      | inr p ↦ inr
          (there_from (a + 1) n k s (above_next a k above p.1) within (omega arith))
    ])

-- each number up to that of the last block is a block's
pub block_there : (size k : ℕ) → k ≤ size → is_some (value_at (made_blocks size) (record { 0 = k })) ≡ true
block_there size k within = there_from 0 size k size (omega arith) within (omega arith)

-- ---- the instructions that the blocks list

listed_from : (a n : ℕ) → flat_map (λ (e : BlockId × BasicBlock). map (λ (i : InstructionId). i.0) e.1.instructions)
    (map block_of (range_with_len a n)) ≡ range_with_len (3 * a) (3 * n)
listed_from a zero = refl
listed_from a (suc n) =
    let count : 3 * suc n ≡ suc (suc (suc (3 * n))) = omega arith in
    let third : (3 * a + 1) + 1 ≡ 3 * a + 2 = omega arith in
    let next : ((3 * a + 1) + 1) + 1 ≡ 3 * (a + 1) = omega arith in
    let rest : flat_map (λ (e : BlockId × BasicBlock). map (λ (i : InstructionId). i.0) e.1.instructions)
    (map block_of (range_with_len (a + 1) n)) ≡ range_with_len (3 * (a + 1)) (3 * n) = listed_from (a + 1) n in
    ap (λ ks. (3 * a) ∷ (3 * a + 1) ∷ (3 * a + 2) ∷ ks) (rest ∙ sym (ap (λ k. range_with_len k (3 * n)) next))
    ∙ sym (ap (λ k. (3 * a) ∷ (3 * a + 1) ∷ k ∷ range_with_len (((3 * a + 1) + 1) + 1) (3 * n)) third)
    ∙ sym (ap (range_with_len (3 * a)) count)

-- they list all, in their order
pub listed_in_order : (size : ℕ) → flat_map
    (λ (e : BlockId × BasicBlock). map (λ (i : InstructionId). i.0) e.1.instructions) (made_blocks size)
    ≡ range_with_len 0 (3 * size)
listed_in_order size =
    let f : BlockId × BasicBlock → List ℕ = λ e. map (λ (i : InstructionId). i.0) e.1.instructions in
    let all : flat_map f (map block_of (range_with_len 0 size)) ≡ range_with_len 0 (3 * size) = listed_from 0 size in
    flat_map-append f (map block_of (range_with_len 0 size)) (last_block size ∷ [])
    ∙ append-nil (flat_map f (map block_of (range_with_len 0 size))) ∙ all
