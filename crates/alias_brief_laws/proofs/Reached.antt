-- A block that is reached is the first of its name.
use Rattle.std.specs.Prelude.{slice_get, is_some}
use Rattle.std.specs.Option.{option_map_or}
use Rattle.std.proofs.Common.{◌≡◌, ℕ, Bool, true, Option, Some, None, ap, sym, ◌∙◌, subst}
use Rattle.alias_base.specs.Find.{value_at}
use Rattle.alias_base.specs.declared.ids.BlockId.{BlockId}
use Rattle.alias_hir.specs.PositionLaws.{found_has_position, some_is, position_is_at}
use Rattle.alias_hir.specs.Positions.{Blocks, position_in, edges_at, entry_position}
use Rattle.alias_hir.specs.Terminals.{successors}
use Rattle.alias_hir.specs.declared.env.Environment.{Environment}
use Rattle.alias_hir.specs.declared.hir.BasicBlock.{BasicBlock}
use Rattle.alias_hir.specs.declared.hir.HirFunction.{HirFunction}
use Rattle.alias_lattice.specs.Flows.{IsOneOf, IsReached, at_entry, by_edge}
use Rattle.alias_step.specs.block.Contexts.{context_of}
use Rattle.alias_effects.specs.Numbered.{numbered}
use Rattle.alias_effects.proofs.Solving.{position_among}

-- the block at the position that a name has is the first of its name
named_first : (es : Blocks) (c : BlockId) (q : ℕ) (e : BlockId × BasicBlock) → position_in es c ≡ Some q
    → slice_get es q ≡ Some e → position_in es e.0 ≡ Some q
named_first es c q e is at =
    let i = position_is_at es c q is in
    let two : Some (c, i.0) ≡ Some e = sym i.1 ∙ at in
    let pair : (c, i.0) ≡ e = cc in
    subst (λ z. position_in es z ≡ Some q) (ap (λ (p : BlockId × BasicBlock). p.0) pair) is

edge_first : (es : Blocks) (o : Option (BlockId × BasicBlock)) (q : ℕ) (e : BlockId × BasicBlock)
    → IsOneOf q (edges_at es o) → slice_get es q ≡ Some e → position_in es e.0 ≡ Some q
edge_first es None q e one at = absurd one
edge_first es (Some x) q e one at =
    let a = position_among es q (successors x.1.terminal) one in named_first es a.block q e a.at at

module _ (f : HirFunction) (env : Environment) (b : Bool)
    (there : is_some (value_at f.body.blocks f.body.entry) ≡ true) where
  entry_is : position_in f.body.blocks f.body.entry ≡ Some (entry_position f)
  entry_is =
      let p = some_is (position_in f.body.blocks f.body.entry)
      (found_has_position f.body.blocks f.body.entry there) in
      p.1 ∙ ap Some (sym (ap (λ o. option_map_or (λ (n : ℕ). n) o 0) p.1))

  pub reached_first : (q : ℕ) → IsReached (numbered (context_of env f b)).flow q → (e : BlockId × BasicBlock)
      → slice_get f.body.blocks q ≡ Some e → position_in f.body.blocks e.0 ≡ Some q
  reached_first q at_entry e at = named_first f.body.blocks f.body.entry (entry_position f) e entry_is at
  reached_first q (by_edge a c r one) e at = edge_first f.body.blocks (slice_get f.body.blocks a) c e one at
