-- What is found in a made function: the block of a number, and the instructions of a block.
use Rattle.std.specs.Prelude.{◌≡◌, ℕ, ◌+◌, ◌*◌, ◌<◌, ◌≤◌, Bool, true, false, cond, List, [], ◌∷◌, ◌++◌, Option, Some}
use Rattle.std.specs.Prelude.{None, map, slice_get, refl}
use Rattle.std.specs.List.{flat_map, range_with_len}
use Rattle.std.proofs.Common.{zero, suc, ap, sym, ◌∙◌, subst, inl, inr, arith, eqb}
use Rattle.std.proofs.lemmas.Bool.Decides.{eqb_tells}
use Rattle.alias_base.specs.Find.{value_at}
use Rattle.alias_base.specs.declared.ids.BlockId.{BlockId}
use Rattle.alias_hir.specs.declared.hir.BasicBlock.{BasicBlock}
use Rattle.alias_hir.specs.declared.hir.Instruction.{Instruction}
use Rattle.alias_made.specs.Blocks.{block_of, last_block, made_blocks}
use Rattle.alias_made.specs.Units.{drawn_instructions, made_instructions}

-- ---- blocks

-- so many blocks from the number on, and the last one
abbrev pub blocks_from : ℕ → ℕ → ℕ → List (BlockId × BasicBlock)
blocks_from a n s = map block_of (range_with_len a n) ++ last_block s ∷ []

-- what is found under the number k, where the last block has the number s
pub data LookedUp (s k : ℕ) (o : Option BasicBlock) : Type 0 where
  is_block : k < s → o ≡ Some (block_of k).1 → LookedUp s k o
  is_last : o ≡ Some (last_block s).1 → LookedUp s k o
  is_none : o ≡ None → LookedUp s k o

last_found : (s k : ℕ) (b : Bool) → LookedUp s k (cond b (Some (last_block s).1) None)
last_found s k true = is_last refl
last_found s k false = is_none refl

first_found : (a s k : ℕ) (o : Option BasicBlock) (b : Bool) → a < s → (b ≡ true → k ≡ a) → LookedUp s k o
    → LookedUp s k (cond b (Some (block_of a).1) o)
first_found a s k o true below same rest =
    is_block (subst (λ n. n < s) (sym (same refl)) below) (ap (λ n. Some (block_of n).1) (sym (same refl)))
first_found a s k o false below same rest = rest

equal_if : (k a : ℕ) → eqb k a ≡ true → k ≡ a
equal_if k a h = elim (eqb_tells k a) [ inl p ↦ p.1 | inr p ↦ cc ]

looked_up_from : (a n s k : ℕ) → s ≡ a + n → LookedUp s k (value_at (blocks_from a n s) (record { 0 = k }))
looked_up_from a zero s k is = last_found s k (eqb k s)
looked_up_from a (suc n) s k is =
    first_found a s k (value_at (blocks_from (a + 1) n s) (record { 0 = k })) (eqb k a) (omega (arith, is))
    (equal_if k a) (looked_up_from (a + 1) n s k (omega (arith, is)))

pub looked_up : (size k : ℕ) → LookedUp size k (value_at (made_blocks size) (record { 0 = k }))
looked_up size k = looked_up_from 0 size size k (omega arith)

-- what stands at a position: the block of this number, or the last one
pub data Stood (s k : ℕ) (e : BlockId × BasicBlock) : Type 0 where
  as_block : e ≡ block_of k → Stood s k e
  as_last : k ≡ s → e ≡ last_block s → Stood s k e

same_entry : (e f : BlockId × BasicBlock) → Some e ≡ Some f → f ≡ e
same_entry e f h = cc

stood_from : (a n s m : ℕ) (e : BlockId × BasicBlock) → s ≡ a + n → slice_get (blocks_from a n s) m ≡ Some e
    → Stood s (a + m) e
stood_from a zero s zero e is h = as_last (omega (arith, is)) (same_entry (last_block s) e h)
stood_from a zero s (suc m) e is h = cc
stood_from a (suc n) s zero e is h = let here : a ≡ a + 0 = omega arith in
    as_block (same_entry (block_of a) e h ∙ ap block_of here)
stood_from a (suc n) s (suc m) e is h =
    let there : (a + 1) + m ≡ a + suc m = omega arith in
    subst (λ k. Stood s k e) there (stood_from (a + 1) n s m e (omega (arith, is)) h)

pub stood : (size m : ℕ) (e : BlockId × BasicBlock) → slice_get (made_blocks size) m ≡ Some e → Stood size m e
stood size m e h = let there : 0 + m ≡ m = omega arith in
    subst (λ k. Stood size k e) there (stood_from 0 size size m e (omega arith) h)

-- ---- instructions

one_of_three : (x y z : Instruction) (rest : List Instruction) (r : ℕ) → r < 3 → slice_get (x ∷ y ∷ z ∷ rest) r
    ≡ slice_get (x ∷ y ∷ z ∷ []) r
one_of_three x y z rest zero h = refl
one_of_three x y z rest (suc zero) h = refl
one_of_three x y z rest (suc (suc zero)) h = refl
one_of_three x y z rest (suc (suc (suc r))) h = absurd (omega (arith, h))

drawn_at : (seed a n m r : ℕ) → m < n → r < 3
    → slice_get (flat_map (drawn_instructions seed) (range_with_len a n)) (3 * m + r)
    ≡ slice_get (drawn_instructions seed (a + m)) r
drawn_at seed a zero m r below part = absurd (omega (arith, below))
drawn_at seed a (suc n) zero r below part =
    let here : 3 * 0 + r ≡ r = omega arith in
    let start : a ≡ a + 0 = omega arith in
    ap (slice_get (flat_map (drawn_instructions seed) (range_with_len a (suc n)))) here
    ∙ one_of_three _ _ _ (flat_map (drawn_instructions seed) (range_with_len (a + 1) n)) r part
    ∙ ap (λ k. slice_get (drawn_instructions seed k) r) start
drawn_at seed a (suc n) (suc m) r below part =
    let on : 3 * suc m + r ≡ suc (suc (suc (3 * m + r))) = omega arith in
    let there : (a + 1) + m ≡ a + suc m = omega arith in
    ap (slice_get (flat_map (drawn_instructions seed) (range_with_len a (suc n)))) on
    ∙ drawn_at seed (a + 1) n m r (omega (arith, below)) part
    ∙ ap (λ k. slice_get (drawn_instructions seed k) r) there

-- the instruction of this number in the block of this number
pub instruction_at : (seed size m r : ℕ) → m < size → r < 3 → slice_get (made_instructions seed size) (3 * m + r)
    ≡ slice_get (drawn_instructions seed m) r
instruction_at seed size m r below part =
    let there : 0 + m ≡ m = omega arith in
    drawn_at seed 0 size m r below part ∙ ap (λ k. slice_get (drawn_instructions seed k) r) there
