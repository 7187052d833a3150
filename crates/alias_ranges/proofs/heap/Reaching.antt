-- From what the heap holds, a legal path from a mutation to each place that reaches a written object.
use Rattle.std.proofs.Common.{◌≡◌, ℕ, ◌≤◌, Bool, true, false, refl, subst}
use Rattle.alias_base.specs.declared.ids.IdentifierId.{IdentifierId}
use Rattle.alias_graph.specs.declared.types.Direction.TheVariants.{Backwards}
use Rattle.alias_graph.specs.declared.types.Entry.{Entry}
use Rattle.alias_graph.specs.declared.types.MutationKind.{MutationKind}
use Rattle.alias_graph.specs.Legal.{Legal, begin}
use Rattle.alias_graph.specs.Links.{entry}
use Rattle.alias_graph.specs.Nodes.{Nodes, has_node}
use Rattle.alias_ranges.specs.heap.Heap.{History, Object, Holds, Stores, IsWithin, itself, stored, Reaches}
use Rattle.alias_ranges.proofs.heap.Linking.{Grows, Chain, StoreLink, grows_has, chain_grows, store_grows, BackAt, At}
use Rattle.alias_ranges.proofs.heap.Linking.{into_holder, into_stored, back_along, along}

-- each place that holds an object has a chain from the place that the object was made for, and each stored object has a
-- capture
pub record Sound (g : Nodes) (n : ℕ) (h : History) : Type 0 where
  pub known : (y : IdentifierId) (o : Object) → Holds h y o → has_node g y ≡ true
  pub chains : (y : IdentifierId) (o : Object) → Holds h y o → Chain g n o.origin y
  pub stores : (o q : Object) → Stores h o q → StoreLink g n o.origin q.origin

pub sound_grows : (g k : Nodes) (n m : ℕ) (h : History) → Grows g k → n ≤ m → Sound g n h → Sound k m h
sound_grows g k n m h gr le s = record {
  known = λ y o w. grows_has g k gr y (s.known y o w);
  chains = λ y o w. chain_grows g k n m o.origin y gr le (s.chains y o w);
  stores = λ o q w. store_grows g k n m o.origin q.origin gr le (s.stores o q w);
}

module _ (g : Nodes) (m : ℕ) (h : History) (s : Sound g m h) (start : Entry) where
  -- from a stored object to what stores it
  out_of : (o w : Object) → IsWithin h o w → (t : Bool) (d : MutationKind)
      → Legal g m start (entry w.origin t Backwards d) → (u : Bool) × (c : MutationKind)
      × Legal g m start (entry o.origin u Backwards c)
  out_of o _ itself t d l = (t, d, l)
  out_of o _ (stored p q within st) t d l =
      let link = s.stores p q st in
      let a = along g m start q.origin link.from link.value t Backwards d l in
      let x = into_holder g m start link.from link.into t a.0 a.1 link.captured a.2 in
      let b = back_along g m start p.origin link.into link.holder t a.1 x in
      out_of o p within b.0 b.1 b.2

  abbrev SetAt : IdentifierId → Type 0
  SetAt y = (d : MutationKind) × Legal g m start (entry y true Backwards d)

  set_at : (y : IdentifierId) → BackAt g m start true y → SetAt y
  set_at y b = let P : Bool → Type 0 = λ u. Legal g m start (entry y u Backwards b.1) in (b.1, subst P (b.3 refl) b.2)

  -- from an object to what it stores, with the flag set
  into : (o w : Object) → IsWithin h o w → SetAt o.origin → SetAt w.origin
  into o _ itself l = l
  into o _ (stored p q within st) l =
      let r = into o p within l in
      let link = s.stores p q st in
      let a = along g m start p.origin link.into link.holder true Backwards r.0 r.1 in
      let x = into_stored g m start link.from link.into a.0 a.1 link.captured a.2 in
      set_at q.origin (back_along g m start q.origin link.from link.value true a.1 x)

  -- from the place that a written object was made for to each place that reaches it
  from_written : (w : Object) (t : Bool) (d : MutationKind) → Legal g m start (entry w.origin t Backwards d)
      → (y : IdentifierId) → Reaches h y w → (u : Bool) × At g m start u y
  from_written w t d l y r =
      let o = out_of r.0 w r.2 t d l in
      (o.0, along g m start r.0.origin y (s.chains y r.0 r.1) o.0 Backwards o.1 o.2)

-- a legal path from the mutation of v leads to the node y
abbrev pub LeadsTo : Nodes → ℕ → Entry → IdentifierId → Type 0
LeadsTo g m start y = (u : Bool) × At g m start u y

module _ (g : Nodes) (m : ℕ) (h : History) (s : Sound g m h) (v : IdentifierId) (d : MutationKind) where
  pub local_leads : (w : Object) → Holds h v w → (y : IdentifierId) → Reaches h y w
      → LeadsTo g m (entry v false Backwards d) y
  local_leads w holds y r =
      let start = entry v false Backwards d in
      let b = back_along g m start w.origin v (s.chains v w holds) false d (begin (s.known v w holds)) in
      from_written g m h s start w b.0 b.1 b.2 y r

  pub transitive_leads : (w : Object) → Reaches h v w → (y : IdentifierId) → Reaches h y w
      → LeadsTo g m (entry v true Backwards d) y
  transitive_leads w writes y r =
      let start = entry v true Backwards d in
      let b = back_along g m start writes.0.origin v (s.chains v writes.0 writes.1) true d
      (begin (s.known v writes.0 writes.1)) in
      let i = into g m h s start writes.0 w writes.2 (set_at g m h s start writes.0.origin b) in
      from_written g m h s start w true i.0 i.1 y r
