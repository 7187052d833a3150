-- Blocks by their slots in stored order, and that a path of a forward function goes through rising slots.
use Rattle.std.proofs.Common.{◌≡◌, ℕ, suc, ◌+◌, ◌<◌, ◌≤◌, Bool, true, false, cond, List, [], ◌∷◌, ◌++◌, Option, Some}
use Rattle.std.proofs.Common.{nat_lt, slice_get, refl, ap, sym, ◌∙◌, subst, inl, inr, arith}
use Rattle.std.specs.List.{list_all, position_from}
use Rattle.std.specs.Map.{keys_of}
use Rattle.std.proofs.lemmas.Bool.Decides.{nat_tests}
use Rattle.std.proofs.lemmas.Iterator.Adapters.{position_from-zero}
use Rattle.alias_base.specs.AnswerLaws.{both_true}
use Rattle.alias_base.specs.declared.ids.BlockId.{BlockId}
use Rattle.alias_base.specs.Find.{same_block, value_at}
use Rattle.alias_hir.specs.declared.hir.BasicBlock.{BasicBlock}
use Rattle.alias_hir.specs.declared.hir.HirFunction.{HirFunction}
use Rattle.alias_hir.specs.Terminals.{successors}
use Rattle.alias_graph.specs.Walks.{IsOneOf}
use Rattle.alias_graph.specs.recorded.BlockListings.{slot_of_block}
use Rattle.alias_ranges.specs.heap.Paths.{is_before, goes_forward, is_forward, GoesOn, IsPath}
use Rattle.alias_ranges.proofs.heap.Operands.{block_is}

abbrev pub Blocks : Type 0
Blocks = List (BlockId × BasicBlock)

-- the block stands in this slot
pub record StandsAt (blocks : Blocks) (p : BlockId) (b : BasicBlock) (j : ℕ) : Type 0 where
  pub found : value_at blocks p ≡ Some b
  pub slot : slot_of_block blocks p ≡ Some j
  pub entry : slice_get blocks j ≡ Some (p, b)

record FoundFrom (blocks : Blocks) (p : BlockId) (b : BasicBlock) (i : ℕ) : Type 0 where
  n : ℕ
  slot : position_from (same_block p) i (keys_of blocks) ≡ Some (i + n)
  entry : slice_get blocks n ≡ Some (p, b)

found_from : (blocks : Blocks) (p : BlockId) (b : BasicBlock) (i : ℕ) → value_at blocks p ≡ Some b
    → FoundFrom blocks p b i
found_from [] p b i h = cc
found_from (e ∷ blocks) p b i h =
    elim (same_block p e.0) as (λ c. same_block p e.0 ≡ c → cond c (Some e.1) (value_at blocks p) ≡ Some b
    → FoundFrom (e ∷ blocks) p b i) [
      | true ↦ λ is at. record {
        n = 0;
        slot = ap (λ c. cond c (Some i) (position_from (same_block p) (i + 1) (keys_of blocks))) is
            ∙ ap Some (plus_none i);
        entry = pair_is e p b (sym (block_is p e.0 is)) at;
      }
      | false ↦ λ is at.
          let r = found_from blocks p b (i + 1) at in
          record {
            n = suc r.n;
            slot = ap (λ c. cond c (Some i) (position_from (same_block p) (i + 1) (keys_of blocks))) is
                ∙ (r.slot ∙ ap Some (plus_more i r.n));
            entry = r.entry;
          }
    ] refl h
  where
    plus_none : (i : ℕ) → i ≡ i + 0
    plus_none i = omega arith

    plus_more : (i n : ℕ) → i + 1 + n ≡ i + suc n
    plus_more i n = omega arith

    pair_is : (e : BlockId × BasicBlock) (p : BlockId) (b : BasicBlock) → e.0 ≡ p
        → (let o : Option BasicBlock = Some e.1 in o ≡ Some b)
        → (let o : Option (BlockId × BasicBlock) = Some e in o ≡ Some (p, b))
    pair_is e p b ids h = let is : e.1 ≡ b = cc in λ z. Some (ids z, is z)

pub stands_at : (blocks : Blocks) (p : BlockId) (b : BasicBlock) → value_at blocks p ≡ Some b → (j : ℕ)
    × StandsAt blocks p b j
stands_at blocks p b h =
    let r = found_from blocks p b 0 h in
    let none : 0 + r.n ≡ r.n = omega arith in (
      r.n,
      record {
        found = h;
        slot = position_from-zero (same_block p) (keys_of blocks) ∙ (r.slot ∙ ap Some none);
        entry = r.entry;
      },
    )

-- ---- forward functions

all_one : (test : BlockId → Bool) (xs : List BlockId) (x : BlockId) → list_all test xs ≡ true → IsOneOf x xs → test x
    ≡ true
all_one test [] x h i = absurd i
all_one test (y ∷ xs) x h (inl is) = ap test is ∙ (both_true (test y) (list_all test xs) h).0
all_one test (y ∷ xs) x h (inr i) = all_one test xs x (both_true (test y) (list_all test xs) h).1 i

all_found : (test : BlockId × BasicBlock → Bool) (blocks : Blocks) (p : BlockId) (b : BasicBlock) → list_all test blocks
    ≡ true → value_at blocks p ≡ Some b → test (p, b) ≡ true
all_found test [] p b h at = cc
all_found test (e ∷ blocks) p b h at =
    let t = both_true (test e) (list_all test blocks) h in
    elim (same_block p e.0) as (λ c. same_block p e.0 ≡ c → cond c (Some e.1) (value_at blocks p) ≡ Some b → test (p, b)
    ≡ true) [
      | true ↦ λ is found. ap test (pair_is e p b (sym (block_is p e.0 is)) found) ∙ t.0
      | false ↦ λ is found. all_found test blocks p b t.1 found
    ] refl at
  where
    pair_is : (e : BlockId × BasicBlock) (p : BlockId) (b : BasicBlock) → e.0 ≡ p
        → (let o : Option BasicBlock = Some e.1 in o ≡ Some b) → (let z : BlockId × BasicBlock = (p, b) in z ≡ e)
    pair_is e p b ids h = let is : e.1 ≡ b = cc in sym (λ z. (ids z, is z))

pub lower : (p q : ℕ) → nat_lt p q ≡ true → p < q
lower p q h = grind (arith, nat_tests)

pub is_lower : (p q : ℕ) → p < q → nat_lt p q ≡ true
is_lower p q h = grind (arith, nat_tests)

-- an edge goes to a later slot
edge_rises : (f : HirFunction) → is_forward f ≡ true → (p q : BlockId) (b c : BasicBlock) (i j : ℕ)
    → StandsAt f.body.blocks p b i → StandsAt f.body.blocks q c j → IsOneOf q (successors b.terminal) → i < j
edge_rises f forward p q b c i j at_p at_q edge =
    let blocks = f.body.blocks in
    let from = all_found (goes_forward blocks) blocks p b forward at_p.found in
    let to : is_before (slot_of_block blocks p) (slot_of_block blocks q) ≡ true =
    all_one (λ s. is_before (slot_of_block blocks p) (slot_of_block blocks s)) (successors b.terminal) q from
    edge in
    lower i j (ap (λ o. is_before o (Some j)) (sym at_p.slot)
    ∙ (ap (λ o. is_before (slot_of_block blocks p) o) (sym at_q.slot) ∙ to))

-- ---- paths

-- these blocks are there, in slots from k on that rise, and t behind them all
abbrev pub Rises : Blocks → ℕ → List BlockId → BlockId → Type 0
Rises blocks k [] t = (b : BasicBlock) × (j : ℕ) × (k ≤ j) × StandsAt blocks t b j
Rises blocks k (p ∷ ps) t = (b : BasicBlock) × (j : ℕ) × (k ≤ j) × StandsAt blocks p b j × Rises blocks (j + 1) ps t

one_block : {v w : BasicBlock} → (let o : Option BasicBlock = Some v in o ≡ Some w) → v ≡ w
one_block h = cc

-- a block from which a path goes on is there
goes_found : (f : HirFunction) (p : BlockId) (ps : List BlockId) (t : BlockId) → GoesOn f p (ps ++ t ∷ [])
    → (b : BasicBlock) × (value_at f.body.blocks p ≡ Some b)
goes_found f p [] t on = (on.0, on.1)
goes_found f p (q ∷ qs) t on = (on.0, on.1)

module _ (f : HirFunction) (forward : is_forward f ≡ true) where
  abbrev blocks : Blocks
  blocks = f.body.blocks

  -- the block after p stands behind it
  next_rises : (p q : BlockId) (b b2 c : BasicBlock) (i j : ℕ) → StandsAt blocks p b i → value_at blocks p ≡ Some b2
      → IsOneOf q (successors b2.terminal) → StandsAt blocks q c j → i + 1 ≤ j
  next_rises p q b b2 c i j at_p is edge at_q =
      let lt : i < j = edge_rises f forward p q b c i j at_p at_q
      (subst (λ (z : BasicBlock). IsOneOf q (successors z.terminal)) (one_block (sym is ∙ at_p.found)) edge) in
      omega arith

  path_rises : (p : BlockId) (ps : List BlockId) (t : BlockId) (b c : BasicBlock) (i : ℕ) → StandsAt blocks p b i
      → GoesOn f p (ps ++ t ∷ []) → value_at blocks t ≡ Some c → Rises blocks (i + 1) ps t
  path_rises p [] t b c i at_p on last =
      let s = stands_at blocks t c last in
      (c, s.0, next_rises p t b on.0 c i s.0 at_p on.1 on.2 s.1, s.1)
  path_rises p (q ∷ qs) t b c i at_p on last =
      let d = goes_found f q qs t on.3 in
      let s = stands_at blocks q d.0 d.1 in
      (d.0, s.0, next_rises p q b on.0 d.0 i s.0 at_p on.1 on.2 s.1, s.1, path_rises q qs t d.0 c s.0 s.1 on.3 last)

  pub rises_from_start : (before : List BlockId) (t : BlockId) (c : BasicBlock) → IsPath f (before ++ t ∷ [])
      → value_at blocks t ≡ Some c → Rises blocks 0 before t
  rises_from_start [] t c path last = let s = stands_at blocks t c last in (c, s.0, omega arith, s.1)
  rises_from_start (p ∷ ps) t c path last =
      let d = goes_found f p ps t path.1 in
      let s = stands_at blocks p d.0 d.1 in
      (d.0, s.0, omega arith, s.1, path_rises p ps t d.0 c s.0 s.1 path.1 last)
