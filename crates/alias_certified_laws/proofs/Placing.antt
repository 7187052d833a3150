-- A block that is reached stands at the position of its name.
use Rattle.std.specs.Prelude.{◌≡◌, ℕ, true, List, [], ◌∷◌, Option, Some, None, slice_get, refl}
use Rattle.std.specs.Option.{is_some, option_map_or}
use Rattle.std.proofs.Common.{subst, ap, sym, ◌∙◌, inl, inr}
use Rattle.alias_base.specs.Find.{value_at}
use Rattle.alias_base.specs.declared.ids.BlockId.{BlockId}
use Rattle.alias_hir.specs.Terminals.{successors}
use Rattle.alias_hir.specs.declared.hir.BasicBlock.{BasicBlock}
use Rattle.alias_lattice.specs.Flows.{IsOneOf, IsReached, at_entry, by_edge}
use Rattle.alias_step.specs.block.Contexts.{BlockContext}
use Rattle.alias_effects.specs.Numbered.{numbered}
use Rattle.alias_hir.specs.PositionLaws.{found_has_position, position_is_at}
use Rattle.alias_hir.specs.Positions.{Blocks, position_in, with_position, positions_of, edges_at}
use Rattle.alias_certified_laws.proofs.Carrying.{some_same}

-- the position is that of a name
abbrev pub IsPlace : Blocks → ℕ → Type 0
IsPlace bs n = (k : BlockId) × (position_in bs k ≡ Some n)

module _ (bs : Blocks) (n : ℕ) where
  one_place : (k : BlockId) (o : Option ℕ) (ns : List ℕ) → position_in bs k ≡ o → (IsOneOf n ns → IsPlace bs n)
      → IsOneOf n (with_position o ns) → IsPlace bs n
  one_place k None ns at f h = f h
  one_place k (Some m) ns at f (inl same) = (k, at ∙ ap Some (sym same))
  one_place k (Some m) ns at f (inr h) = f h

  places : (ks : List BlockId) → IsOneOf n (positions_of bs ks) → IsPlace bs n
  places [] h = absurd h
  places (k ∷ ks) h = one_place k (position_in bs k) (positions_of bs ks) refl (places ks) h

  edge_place : (o : Option (BlockId × BasicBlock)) → IsOneOf n (edges_at bs o) → IsPlace bs n
  edge_place None h = absurd h
  edge_place (Some b) h = places (successors b.1.terminal) h

  -- the block there has that name, and so its position is this one
  pub at_its_place : (b : BlockId × BasicBlock) → slice_get bs n ≡ Some b → IsPlace bs n → position_in bs b.0 ≡ Some n
  at_its_place b at p =
      let r = position_is_at bs p.0 n p.1 in
      let same : b ≡ (p.0, r.0) = some_same b (p.0, r.0) (sym at ∙ r.1) in
      subst (λ k. position_in bs k ≡ Some n) (sym (ap (λ (z : BlockId × BasicBlock). z.0) same)) p.1

entry_place : (bs : Blocks) (k : BlockId) (o : Option ℕ) → position_in bs k ≡ o → is_some o ≡ true
    → IsPlace bs (option_map_or (λ n. n) o 0)
entry_place bs k None at h = cc
entry_place bs k (Some n) at h = (k, at)

module _ (c : BlockContext) (entered : is_some (value_at c.func.body.blocks c.func.body.entry) ≡ true) where
  pub reached_place : (n : ℕ) → IsReached (numbered c).flow n → IsPlace c.func.body.blocks n
  reached_place n at_entry = entry_place c.func.body.blocks c.func.body.entry
      (position_in c.func.body.blocks c.func.body.entry) refl
      (found_has_position c.func.body.blocks c.func.body.entry entered)
  reached_place n (by_edge m k r h) = edge_place c.func.body.blocks k (slice_get c.func.body.blocks m) h
