-- Each change of the heap keeps what is known of it, where the graph has the change's link.
use Rattle.std.proofs.Common.{◌≡◌, ℕ, true, ◌∷◌, inl, inr}
use Rattle.alias_base.specs.declared.ids.IdentifierId.{IdentifierId}
use Rattle.alias_graph.specs.Nodes.{Nodes, has_node}
use Rattle.alias_ranges.specs.heap.Heap.{New, NewFrom, Copies, Clears, Adds, StoresInto, History, Object, new_object}
use Rattle.alias_ranges.specs.heap.Heap.{Holds, Stores}
use Rattle.alias_ranges.proofs.heap.Linking.{LinkKind, CaptureLink, Joins, into_there, Chain, here, further, StoreLink}
use Rattle.alias_ranges.proofs.heap.Linking.{IsAlias}
use Rattle.alias_ranges.proofs.heap.Reaching.{Sound}

-- a link that is no capture, in the lists of both ends
abbrev pub Aliases : Nodes → ℕ → IdentifierId → IdentifierId → Type 0
Aliases g n a x = (k : LinkKind) × IsAlias k × Joins g n k a x

module _ (g : Nodes) (n : ℕ) (h : History) (s : Sound g n h) where
  -- what holds of a place and an object that it holds
  abbrev Has : IdentifierId → Object → Type 0
  Has y o = (has_node g y ≡ true) × Chain g n o.origin y

  has : (y : IdentifierId) (o : Object) → Holds h y o → Has y o
  has y o w = (s.known y o w, s.chains y o w)

  has_new : (x : IdentifierId) → has_node g x ≡ true → (y : IdentifierId) (o : Object) → y ≡ x → o ≡ new_object x h
      → Has y o
  has_new x m y o ey eo = rw (ey, eo) (m, here)

  has_from : (a x : IdentifierId) → (has_node g a ≡ true → Aliases g n a x) → (y : IdentifierId) (o : Object) → y ≡ x
      → Holds h a o → Has y o
  has_from a x j y o ey w =
      let l = j (s.known a o w) in
      rw ey (into_there g n l.0 a x l.2, further a x l.0 (s.chains a o w) l.1 l.2)

  of_new : (x : IdentifierId) → has_node g x ≡ true → (y : IdentifierId) (o : Object) → Holds (New x ∷ h) y o → Has y o
  of_new x m y o (inl w) = has_new x m y o w.0 w.1
  of_new x m y o (inr w) = has y o w.1

  of_new_from : (a x : IdentifierId) → has_node g x ≡ true → (has_node g a ≡ true → Aliases g n a x)
      → (y : IdentifierId) (o : Object) → Holds (NewFrom a x ∷ h) y o → Has y o
  of_new_from a x m j y o (inl (ey, inl eo)) = has_new x m y o ey eo
  of_new_from a x m j y o (inl (ey, inr w)) = has_from a x j y o ey w
  of_new_from a x m j y o (inr w) = has y o w.1

  of_copies : (a x : IdentifierId) → (has_node g a ≡ true → Aliases g n a x) → (y : IdentifierId) (o : Object)
      → Holds (Copies a x ∷ h) y o → Has y o
  of_copies a x j y o (inl w) = has_from a x j y o w.0 w.1
  of_copies a x j y o (inr w) = has y o w.1

  of_adds : (a x : IdentifierId) → (has_node g a ≡ true → Aliases g n a x) → (y : IdentifierId) (o : Object)
      → Holds (Adds a x ∷ h) y o → Has y o
  of_adds a x j y o (inl w) = has y o w
  of_adds a x j y o (inr w) = has_from a x j y o w.0 w.1

  of_stores : (a x : IdentifierId) → (has_node g a ≡ true → has_node g x ≡ true → Joins g n CaptureLink a x)
      → (o q : Object) → Stores (StoresInto a x ∷ h) o q → StoreLink g n o.origin q.origin
  of_stores a x j o q (inl w) = s.stores o q w
  of_stores a x j o q (inr w) = record {
    from = a;
    into = x;
    captured = j (s.known a q w.1) (s.known x o w.0);
    value = s.chains a q w.1;
    holder = s.chains x o w.0;
  }

  pub sound_new : (x : IdentifierId) → has_node g x ≡ true → Sound g n (New x ∷ h)
  sound_new x m = record {
    known = λ y o w. (of_new x m y o w).0;
    chains = λ y o w. (of_new x m y o w).1;
    stores = λ o q w. s.stores o q w;
  }

  pub sound_new_from : (a x : IdentifierId) → has_node g x ≡ true → (has_node g a ≡ true → Aliases g n a x)
      → Sound g n (NewFrom a x ∷ h)
  sound_new_from a x m j = record {
    known = λ y o w. (of_new_from a x m j y o w).0;
    chains = λ y o w. (of_new_from a x m j y o w).1;
    stores = λ o q w. s.stores o q w;
  }

  pub sound_copies : (a x : IdentifierId) → (has_node g a ≡ true → Aliases g n a x) → Sound g n (Copies a x ∷ h)
  sound_copies a x j = record {
    known = λ y o w. (of_copies a x j y o w).0;
    chains = λ y o w. (of_copies a x j y o w).1;
    stores = λ o q w. s.stores o q w;
  }

  pub sound_clears : (x : IdentifierId) → Sound g n (Clears x ∷ h)
  sound_clears x = record {
    known = λ y o w. s.known y o w.1;
    chains = λ y o w. s.chains y o w.1;
    stores = λ o q w. s.stores o q w;
  }

  pub sound_adds : (a x : IdentifierId) → (has_node g a ≡ true → Aliases g n a x) → Sound g n (Adds a x ∷ h)
  sound_adds a x j = record {
    known = λ y o w. (of_adds a x j y o w).0;
    chains = λ y o w. (of_adds a x j y o w).1;
    stores = λ o q w. s.stores o q w;
  }

  pub sound_stores : (a x : IdentifierId) → (has_node g a ≡ true → has_node g x ≡ true → Joins g n CaptureLink a x)
      → Sound g n (StoresInto a x ∷ h)
  sound_stores a x j = record {
    known = λ y o w. s.known y o w;
    chains = λ y o w. s.chains y o w;
    stores = λ o q w. of_stores a x j o q w;
  }
