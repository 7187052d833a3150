use Rattle.std.proofs.Common.{◌≡◌, ℕ, ◌+◌, List, drop, slice_get, Some, None, ap, sym, ◌∙◌, subst}
use Rattle.std.specs.Prelude.{Option, Result, Ok, Err, ⊤, IsErrAnd, slice_index_or}
use Rattle.alias_base.specs.declared.ids.BlockId.{BlockId}
use Rattle.alias_hir.specs.declared.hir.BasicBlock.{BasicBlock}
use Rattle.alias_tables.specs.Steps.{and_then}
use Rattle.alias_tables.specs.Tables.{TableLists}
use Rattle.alias_plain.specs.declared.laws.stop.Stop.{Stop}
use Rattle.alias_plain.specs.Ends.{Scans}
use Rattle.alias_plain.specs.laws.Scopes.{Scope}
use Rattle.alias_plain.specs.Held.{held}
use Rattle.alias_plain.specs.unsure.Ways.{UnsureState}
use Rattle.alias_plain.specs.laws.Scans.{scan_block, scan_from}
use Rattle.alias_plain.proofs.Drops.{drop_here}
use Rattle.alias_plain.proofs.scan.scan_blocks.Goals as goal

-- the blocks from the k-th on are that block and the others
first_block : (s : Scope) (entries : List (Option UnsureState)) (k : ℕ) (b : BlockId × BasicBlock)
    (o : Option UnsureState) (t : TableLists) (one : Result (⊤ × TableLists) Stop) (all : Result (⊤ × TableLists) Stop)
    → slice_get s.func.body.blocks k ≡ Some b → o ≡ slice_index_or entries k None → scan_block s b.1 o t ≡ one
    → scan_from s entries k (drop k s.func.body.blocks) t ≡ all
    → all ≡ and_then one (λ u. scan_from s entries (k + 1) (drop (k + 1) s.func.body.blocks))
first_block s entries k b o t one all here state is left =
    sym left
    ∙ ap (λ bs. scan_from s entries k bs t) (drop_here s.func.body.blocks k b here)
    ∙ ap (λ r. and_then r (λ u. scan_from s entries (k + 1) (drop (k + 1) s.func.body.blocks)))
    (ap (λ x. scan_block s b.1 x t) (sym state) ∙ is)

pub loop-position-preserved : goal.loop-position-preserved
loop-position-preserved c =
    sym (first_block (held c.args.scope.now) c.args.entries.now c.loop-position.position _ _ c.loop-position.tables _ _
    (sym c.in-Some.ensures) c.state_at.ensures c.in_ok-scan_block.ensures c.loop-position.invariant)

-- a stop in that block is that of all
stops_here : (s : Scope) (entries : List (Option UnsureState)) (k : ℕ) (b : BlockId × BasicBlock)
    (o : Option UnsureState) (t now : TableLists) (e : Stop) (q : Result ⊤ Stop) (all : Result (⊤ × TableLists) Stop)
    → slice_get s.func.body.blocks k ≡ Some b → o ≡ slice_index_or entries k None
    → Scans (scan_block s b.1 o t) (Err e) now → scan_from s entries k (drop k s.func.body.blocks) t ≡ all
    → IsErrAnd q (λ z. z ≡ e) → Scans all q now
stops_here s entries k b o t now e (Ok u) all here state stops left is = absurd is
stops_here s entries k b o t now e (Err z) all here state stops left is =
    subst (λ (y : Stop). Scans all (Err y) now) (sym is)
    (λ no. first_block s entries k b o t (Err e) all here state (stops no) left)

pub returns-in_err-scan_block : goal.returns-in_err-scan_block
returns-in_err-scan_block c =
    stops_here (held c.args.scope.now) c.args.entries.now c.loop-position.position _ _ c.loop-position.tables
    c.scan_block.new.tables _ c.from_residual.result _ (sym c.in-Some.ensures) c.state_at.ensures
    c.in_err-scan_block.ensures c.loop-position.invariant c.from_residual.ensures.1
