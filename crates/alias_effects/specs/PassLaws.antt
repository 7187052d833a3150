-- The laws of the effects pass as a flow over positions.
use Rattle.std.specs.Prelude.{◌≡◌, ℕ, ◌<◌, true, List, [], ◌∷◌, length, Option, Some, None, Result, Ok, Err, is_some}
use Rattle.std.specs.Prelude.{slice_get, refl}
use Rattle.std.proofs.Common.{ap, subst}
use Rattle.std.specs.Map.{keys_of}
use Rattle.std.specs.Option.{option_map_or}
use Rattle.std.specs.List.{AllByRecursion}
use Rattle.std.proofs.lemmas.List.Quantifiers.{position-Some}
use Rattle.std.proofs.lemmas.Map.Entries.{length-keys_of}
use Rattle.alias_base.specs.Find.{same_block, value_at}
use Rattle.alias_base.specs.declared.ids.BlockId.{BlockId}
use Rattle.alias_hir.specs.declared.hir.BasicBlock.{BasicBlock}
use Rattle.alias_hir.specs.Terminals.{successors}
use Rattle.alias_flow.specs.Machine.{FlowLaws}
use Rattle.alias_lattice.specs.ProperStates.{StateProper}
use Rattle.alias_lattice.specs.Flows.{Stepped}
use Rattle.alias_lattice.specs.States.{State}
use Rattle.alias_step.specs.declared.block.recorded.BlockEffects.{BlockEffects}
use Rattle.alias_step.specs.declared.block.faults.BlockRefusal.{BlockRefusal}
use Rattle.alias_step.specs.block.Blocks.{infer_block}
use Rattle.alias_step.specs.block.Contexts.{BlockContext}
use Rattle.alias_step.specs.block.ProperLaws.{proper_initial_state}
use Rattle.alias_walks.specs.Blocks.{again_infer_block, proper_infer_block}
use Rattle.alias_tables.specs.GrowingLaws.{Extends, extends_self, extends_through}
use Rattle.alias_tables.specs.Tables.{TableLists}
use Rattle.alias_effects.specs.FunctionFlow.{outcome_of}
use Rattle.alias_hir.specs.PositionLaws.{found_has_position}
use Rattle.alias_hir.specs.Positions.{Blocks, position_in, with_position, positions_of, edges_at}
use Rattle.alias_effects.specs.Numbered.{step_at, numbered}

-- a position is below the number of blocks
pub position_below : (blocks : Blocks) (b : BlockId) (n : ℕ) → position_in blocks b ≡ Some n → n < length blocks
position_below blocks b n e = subst (λ k. n < k) (length-keys_of blocks)
    (position-Some (same_block b) (keys_of blocks) n b e).0

more_below : (o : Option ℕ) (m : ℕ) (ns : List ℕ) → ((n : ℕ) → o ≡ Some n → n < m) → AllByRecursion (λ n. n < m) ns
    → AllByRecursion (λ n. n < m) (with_position o ns)
more_below None m ns h a = a
more_below (Some n) m ns h a = (h n refl, a)

positions_below : (blocks : Blocks) (bs : List BlockId)
    → AllByRecursion (λ n. n < length blocks) (positions_of blocks bs)
positions_below blocks [] = tt
positions_below blocks (b ∷ bs) = more_below (position_in blocks b) (length blocks) (positions_of blocks bs)
    (position_below blocks b) (positions_below blocks bs)

edges_below : (blocks : Blocks) (o : Option (BlockId × BasicBlock))
    → AllByRecursion (λ n. n < length blocks) (edges_at blocks o)
edges_below blocks None = tt
edges_below blocks (Some b) = positions_below blocks (successors b.1.terminal)

entry_below : (o : Option ℕ) (m : ℕ) → is_some o ≡ true → ((n : ℕ) → o ≡ Some n → n < m) → option_map_or (λ n. n) o 0
    < m
entry_below None m h f = cc
entry_below (Some n) m h f = f n refl

pub outcome_is : (r : Result ((State × BlockEffects) × TableLists) BlockRefusal) (y : State) (u : TableLists)
    (k : BlockEffects) → outcome_of r ≡ Stepped y u k → r ≡ Ok ((y, k), u)
outcome_is (Ok ((x, l), t)) y u k e = cc
outcome_is (Err c) y u k e = cc

module _ (c : BlockContext) where
  step_proper : (o : Option (BlockId × BasicBlock)) (t u : TableLists) (x y : State) (k : BlockEffects) → StateProper x
      → step_at c o t x ≡ Stepped y u k → StateProper y
  step_proper None t u x y k p e = let same : x ≡ y = cc in subst StateProper same p
  step_proper (Some b) t u x y k p e = proper_infer_block c b.0 b.1 x p t u (y, k)
      (outcome_is (infer_block c b.0 b.1 x t) y u k e)

  step_grows : (o : Option (BlockId × BasicBlock)) (t u : TableLists) (x y : State) (k : BlockEffects) → step_at c o t x
      ≡ Stepped y u k → Extends t u
  step_grows None t u x y k e = let same : t ≡ u = cc in subst (Extends t) same (extends_self t)
  step_grows (Some b) t u x y k e = (again_infer_block c b.0 b.1 x).grows t u (y, k)
      (outcome_is (infer_block c b.0 b.1 x t) y u k e)

  step_again : (o : Option (BlockId × BasicBlock)) (t u v : TableLists) (x y : State) (k : BlockEffects)
      → step_at c o t x ≡ Stepped y u k → Extends u v → step_at c o v x ≡ Stepped y v k
  step_again None t u v x y k e g = cc
  step_again (Some b) t u v x y k e g = ap outcome_of
      ((again_infer_block c b.0 b.1 x).again t u v (y, k) (outcome_is (infer_block c b.0 b.1 x t) y u k e) g)

-- where the entry is a block, the pass is a flow over the positions of blocks
pub pass_laws : (c : BlockContext) → is_some (value_at c.func.body.blocks c.func.body.entry) ≡ true
    → (recorded : List (Option BlockEffects)) → length recorded ≡ length c.func.body.blocks
    → FlowLaws StateProper Extends (numbered c) recorded
pass_laws c at_index recorded long =
    let blocks = c.func.body.blocks in
    let entry = c.func.body.entry in
    record {
      recorded_length = long;
      initial_proper = proper_initial_state c;
      step_proper = λ t n x y u k p e. step_proper c (slice_get blocks n) t u x y k p e;
      entry_below = entry_below (position_in blocks entry) (length blocks) (found_has_position blocks entry at_index)
          (position_below blocks entry);
      edges_below = λ n h. edges_below blocks (slice_get blocks n);
      reflexive = extends_self;
      transitive = extends_through;
      grow = λ t n x y u k e. step_grows c (slice_get blocks n) t u x y k e;
      replay = λ t n x y u v k e g. step_again c (slice_get blocks n) t u v x y k e g;
    }
