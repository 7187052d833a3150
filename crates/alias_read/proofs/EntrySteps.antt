-- A step of the loop over the entries of a map.
use Rattle.std.proofs.Common.{Bor, refl, sym, ◌∙◌, ap, subst, ◌≡◌, ℕ, ◌+◌, ◌<◌, List, ◌∷◌, drop, get_or, length, suc}
use Rattle.std.proofs.Common.{add-one, drop-cons}
use Rattle.std.specs.Prelude.{Result, Ok, Err, IsErrAnd}
use Rattle.alias_json.specs.Tree.{view, items_view}
use Rattle.alias_json.specs.declared.tree.Tree.{Tree}
use Rattle.alias_base.specs.Answer.{◌>>=◌, Gives}
use Rattle.alias_base.specs.Find.{with_value}
use Rattle.alias_base.specs.declared.ids.BlockId.{BlockId}
use Rattle.alias_json.specs.declared.fault.ValueFault.{ValueFault}
use Rattle.alias_json.specs.Fault.{is_memory}
use Rattle.alias_json.specs.declared.path.Path.{Path, fold-roll-Path}
use Rattle.alias_json.specs.declared.path.Path.TheOpen.{Path-F}
use Rattle.alias_json.specs.declared.path.Path.TheViews.{Index}
use Rattle.alias_json.specs.declared.path.Path.TheVariants.{rolls-Index}
use Rattle.alias_json.specs.Pointer.{at_index, pointer, pointer_step}
use Rattle.alias_read.specs.Entries.{ReadsEntry, entry_items_at}

-- the pointer of an item
pub pointer-index : (above : Bor Path) (i : ℕ) → pointer (Index above i) ≡ at_index (pointer above.now) i
pointer-index above i = ap pointer (sym (rolls-Index above i))
    ∙ fold-roll-Path (List ℕ) pointer_step (Path-F.Index above i)

module _ {V : Type 0} (f : ReadsEntry V) (p : List ℕ) (vs : List Tree) (i : ℕ) (v : Tree) (found : List (BlockId × V))
    (q : List ℕ) (here : q ≡ at_index p i) where
  entry_first : i < length vs → v ≡ get_or vs i v
      → entry_items_at f p i found (items_view (drop i vs))
      ≡ (f found q (view v) >>= (λ (e : BlockId × V).
      entry_items_at f p (i + 1) (with_value found e.0 e.1) (items_view (drop (i + 1) vs))))
  entry_first h is =
      let first : drop i vs ≡ v ∷ drop (i + 1) vs =
      rw add-one (drop-cons vs i v h ∙ ap (λ z. z ∷ drop (suc i) vs) (sym is)) in
      rw (first, here) refl

  pub entries_next : (start : Result (List (BlockId × V)) ValueFault) (id : BlockId) (entry : V)
      (new : List (BlockId × V)) → i < length vs → v ≡ get_or vs i v
      → start ≡ entry_items_at f p i found (items_view (drop i vs)) → f found q (view v) ≡ Ok (id, entry) → new
      ≡ with_value found id entry
      → start ≡ entry_items_at f p (i + 1) new (items_view (drop (i + 1) vs))
  entries_next start id entry new h is inv e n =
      inv ∙ entry_first h is ∙ ap (λ r. r >>= (λ (e : BlockId × V).
      entry_items_at f p (i + 1) (with_value found e.0 e.1) (items_view (drop (i + 1) vs)))) e
      ∙ ap (λ z. entry_items_at f p (i + 1) z (items_view (drop (i + 1) vs))) (sym n)

  pub entries_fault : (start : Result (List (BlockId × V)) ValueFault) (fault : ValueFault) → i < length vs → v
      ≡ get_or vs i v
      → start ≡ entry_items_at f p i found (items_view (drop i vs))
      → Gives {A = BlockId × V} is_memory (f found q (view v)) (Err fault)
      → Gives {A = List (BlockId × V)} is_memory start (Err fault)
  entries_fault start fault h is inv g m =
      inv ∙ entry_first h is ∙ ap (λ r. r >>= (λ (e : BlockId × V).
      entry_items_at f p (i + 1) (with_value found e.0 e.1) (items_view (drop (i + 1) vs)))) (g m)

-- an answer whose fault is that of another
pub gives_same : {A : Type 0} (stated : Result A ValueFault) (r : Result A ValueFault) (e : ValueFault)
    → IsErrAnd r (λ z. z ≡ e) → Gives is_memory stated (Err e) → Gives is_memory stated r
gives_same stated (Ok x) e is g = absurd is
gives_same stated (Err z) e is g = subst (λ (y : ValueFault). Gives is_memory stated (Err y)) (sym is) g
