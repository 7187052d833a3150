-- The slot of a node, and a change there.
use Rattle.std.proofs.Common.{◌≡◌, ◌==◌, ℕ, ◌+◌, Bool, true, false, not, cond, [], ◌∷◌, Option, Some, None, nat_lt}
use Rattle.std.proofs.Common.{length, option_map, is_some, slice_get, refl, ap, sym, ◌∙◌, arith, suc, zero}
use Rattle.std.specs.List.{position_or_len}
use Rattle.std.specs.Map.{keys_of}
use Rattle.std.specs.Cmp.{IsEquivalence}
use Rattle.std.specs.List.{IsDistinct}
use Rattle.indexmap.specs.IndexMap.{set_value_at}
use Rattle.indexmap.proofs.MapLemmas.{index-first}
use Rattle.indexmap.proofs.RemoveLemmas.{own_first}
use Rattle.alias_base.specs.declared.ids.IdentifierId.{IdentifierId}
use Rattle.alias_graph.specs.Nodes.{Entries, node_at, has_node, slot_of, same_id}
use Rattle.alias_graph.specs.Graph.{changed}
use Rattle.alias_graph.proofs.Covering.{eqb_is, eqb_itself}

slot_is : (b : Bool) (a i : ℕ) → cond b (Some a) None ≡ Some i → a ≡ i
slot_is true a i h = cc
slot_is false a i h = cc

no_slot : (b : Bool) (a : ℕ) → cond b (Some a) None ≡ None → b ≡ false
no_slot true a h = cc
no_slot false a h = refl

one_more : (n : ℕ) → 1 + n ≡ suc n
one_more n = omega arith

slot_less : (b : Bool) (a i : ℕ) → cond b (Some a) None ≡ Some i → b ≡ true
slot_less true a i h = refl
slot_less false a i h = cc

same_either : (a b : ℕ) → (a == b) ≡ (b == a)
same_either a b = grind arith

same_laws : IsEquivalence same_id
same_laws = record {
  refl = λ x. eqb_itself x.0;
  symm = λ x y. same_either x.0 y.0;
  congr = λ x y z h. ap (λ n. n == z.0) (eqb_is x.0 y.0 h);
}

module _ {V : Type 0} where
  -- an entry of the identifier is where its node is
  pub slot_here : (g : Entries V) (id key : IdentifierId) (i : ℕ) (n : V) → IsDistinct same_id (keys_of g)
      → Some (key, n) ≡ slice_get g i → key.0 ≡ id.0 → Some i ≡ slot_of g id
  slot_here g id key i n distinct at same =
      let one : key ≡ id = ap (λ (k : ℕ). let z : IdentifierId = record { 0 = k } in z) same in
      sym (index-first (same_id id) g i (own_first same_id same_laws g i id n distinct
      (sym at ∙ ap (λ k. Some (k, n)) one)))

  -- a lookup of the same identifier
  pub same_key : (g : Entries V) (id key : IdentifierId) (n : V) → node_at g key ≡ Some n → key.0 ≡ id.0 → Some n
      ≡ node_at g id
  same_key g id key n at same = sym at ∙ ap (λ (k : ℕ). let z : IdentifierId = record { 0 = k } in node_at g z) same

  -- the node n of the identifier is at slot i
  abbrev pub Found : Entries V → IdentifierId → ℕ → V → Type 0
  Found [] id i n = ⊥
  Found (p ∷ g) id zero n = (same_id id p.0 ≡ true) × (p.1 ≡ n)
  Found (p ∷ g) id (suc i) n = (same_id id p.0 ≡ false) × Found g id i n

  abbrev slot : Entries V → IdentifierId → ℕ
  slot g id = position_or_len (same_id id) (keys_of g)

  abbrev value_at : Entries V → ℕ → Option V
  value_at g i = option_map (λ (e : IdentifierId × V). e.1) (slice_get g i)

  here : (e : IdentifierId × V) (g : Entries V) (id : IdentifierId) (n : V) (j : ℕ) → same_id id e.0 ≡ true → 0 ≡ j
      → value_at (e ∷ g) j ≡ Some n → Found (e ∷ g) id j n
  here e g id n zero is q v = (is, cc)
  here e g id n (suc j) is q v = absurd (omega arith)

  later : (e : IdentifierId × V) (g : Entries V) (id : IdentifierId) (n : V) (j : ℕ)
      → ((k : ℕ) → slot g id ≡ k → value_at g k ≡ Some n → Found g id k n)
      → same_id id e.0 ≡ false → 1 + slot g id ≡ j → value_at (e ∷ g) j ≡ Some n → Found (e ∷ g) id j n
  later e g id n zero ih is q v = absurd (omega arith)
  later e g id n (suc j) ih is q v = (is, ih j (omega arith) v)

  slot_found_at : (g : Entries V) (id : IdentifierId) (i : ℕ) (n : V) → slot g id ≡ i → value_at g i ≡ Some n
      → Found g id i n
  slot_found_at [] id i n p h = cc
  slot_found_at (e ∷ g) id i n p h =
      elim (same_id id e.0) as (λ b. same_id id e.0 ≡ b → cond (not b) (1 + slot g id) 0 ≡ i → Found (e ∷ g) id i n) [
        | true ↦ λ is q. here e g id n i is q h
        | false ↦ λ is q. later e g id n i (λ k r v. slot_found_at g id k n r v) is q h
      ] refl p

  pub slot_found : (g : Entries V) (id : IdentifierId) (i : ℕ) (n : V) → slot_of g id ≡ Some i
      → option_map (λ (e : IdentifierId × V). e.1) (slice_get g i) ≡ Some n → Found g id i n
  slot_found g id i n p h = slot_found_at g id i n (slot_is (nat_lt (slot g id) (length (keys_of g))) (slot g id) i p) h

  pub found_changed : (g : Entries V) (id : IdentifierId) (f : V → V) (i : ℕ) (n : V) → Found g id i n
      → set_value_at g i (f n) ≡ changed g id f
  found_changed [] id f i n h = absurd h
  found_changed (p ∷ g) id f zero n h = ap (λ x. (p.0, f x) ∷ g) (sym h.1)
      ∙ ap (λ b. cond b ((p.0, f p.1) ∷ g) (p ∷ changed g id f)) (sym h.0)
  found_changed (p ∷ g) id f (suc i) n h = ap (λ r. p ∷ r) (found_changed g id f i n h.1)
      ∙ ap (λ b. cond b ((p.0, f p.1) ∷ g) (p ∷ changed g id f)) (sym h.0)

  pub found_node : (g : Entries V) (id : IdentifierId) (i : ℕ) (n : V) → Found g id i n → node_at g id ≡ Some n
  found_node [] id i n h = absurd h
  found_node (p ∷ g) id zero n h = ap (λ b. cond b (Some p.1) (node_at g id)) h.0 ∙ ap Some h.1
  found_node (p ∷ g) id (suc i) n h = ap (λ b. cond b (Some p.1) (node_at g id)) h.0 ∙ found_node g id i n h.1

  missing : (g : Entries V) (id : IdentifierId) (f : V → V) → nat_lt (slot g id) (length (keys_of g)) ≡ false
      → changed g id f ≡ g
  missing [] id f h = refl
  missing (e ∷ g) id f h =
      elim (same_id id e.0) as (λ b. same_id id e.0 ≡ b
      → nat_lt (cond (not b) (1 + slot g id) 0) (length (keys_of (e ∷ g))) ≡ false
      → cond b ((e.0, f e.1) ∷ g) (e ∷ changed g id f) ≡ e ∷ g) [
        | true ↦ λ is q. absurd (grind arith)
        | false ↦ λ is q. ap (λ r. e ∷ r) (missing g id f (grind arith))
      ] refl h

  -- a change where the node is
  pub changed_slot : (g : Entries V) (id : IdentifierId) (f : V → V) (i : ℕ) (n w : V) → slot_of g id ≡ Some i → Some n
      ≡ option_map (λ (e : IdentifierId × V). e.1) (slice_get g i) → w ≡ f n → set_value_at g i w ≡ changed g id f
  changed_slot g id f i n w p h e = ap (set_value_at g i) e ∙ found_changed g id f i n (slot_found g id i n p (sym h))

  pub unchanged_slot : (g : Entries V) (id : IdentifierId) (f : V → V) → slot_of g id ≡ None → g ≡ changed g id f
  unchanged_slot g id f p = sym (missing g id f (no_slot (nat_lt (slot g id) (length (keys_of g))) (slot g id) p))

  found_some : (g : Entries V) (id : IdentifierId) → nat_lt (slot g id) (length (keys_of g)) ≡ true → (n : V)
      × (value_at g (slot g id) ≡ Some n)
  found_some [] id h = absurd (grind arith)
  found_some (e ∷ g) id h =
      elim (same_id id e.0) as (λ b. nat_lt (cond (not b) (1 + slot g id) 0) (length (keys_of (e ∷ g))) ≡ true → (n : V)
      × (value_at (e ∷ g) (cond (not b) (1 + slot g id) 0) ≡ Some n)) [
        | true ↦ λ q. (e.1, refl)
        | false ↦ λ q. let r = found_some g id (grind arith) in
            (r.0, ap (value_at (e ∷ g)) (one_more (slot g id)) ∙ r.1)
      ] h

  -- what a slot holds
  pub slot_some : (g : Entries V) (id : IdentifierId) (i : ℕ) → slot_of g id ≡ Some i → (n : V) × Found g id i n
  slot_some g id i p =
      let lt = nat_lt (slot g id) (length (keys_of g)) in
      let is : slot g id ≡ i = slot_is lt (slot g id) i p in
      let n = found_some g id (slot_less lt (slot g id) i p) in
      (n.0, slot_found_at g id i n.0 is (ap (value_at g) (sym is) ∙ n.1))

  pub no_hole : (g : Entries V) (id : IdentifierId) (i : ℕ) → slot_of g id ≡ Some i → None
      ≡ option_map (λ (e : IdentifierId × V). e.1) (slice_get g i) → ⊥
  no_hole g id i p h =
      let lt = nat_lt (slot g id) (length (keys_of g)) in
      let is : slot g id ≡ i = slot_is lt (slot g id) i p in
      let n = found_some g id (slot_less lt (slot g id) i p) in
      let e : None ≡ Some n.0 = h ∙ ap (value_at g) (sym is) ∙ n.1 in
      cc

  no_node : (g : Entries V) (id : IdentifierId) → nat_lt (slot g id) (length (keys_of g)) ≡ false → node_at g id ≡ None
  no_node [] id h = refl
  no_node (e ∷ g) id h =
      elim (same_id id e.0) as (λ b. nat_lt (cond (not b) (1 + slot g id) 0) (length (keys_of (e ∷ g))) ≡ false
      → cond b (Some e.1) (node_at g id) ≡ None) [
        | true ↦ λ q. absurd (grind arith)
        | false ↦ λ q. no_node g id (grind arith)
      ] h

  pub slot_missing : (g : Entries V) (id : IdentifierId) → slot_of g id ≡ None → node_at g id ≡ None
  slot_missing g id p = no_node g id (no_slot (nat_lt (slot g id) (length (keys_of g))) (slot g id) p)

  -- an identifier has a node where it has a slot
  pub slot_there : (g : Entries V) (id : IdentifierId) (i : ℕ) → Some i ≡ slot_of g id → has_node g id ≡ true
  slot_there g id i p = let n = slot_some g id i (sym p) in ap is_some (found_node g id i n.0 n.1)

  pub slot_nowhere : (g : Entries V) (id : IdentifierId) → None ≡ slot_of g id → has_node g id ≡ false
  slot_nowhere g id p = ap is_some (slot_missing g id (sym p))

  -- a value that is put where it is changes nothing
  pub same_slot : (g : Entries V) (i : ℕ) (n w : V) → Some n
      ≡ option_map (λ (e : IdentifierId × V). e.1) (slice_get g i) → w ≡ n → set_value_at g i w ≡ g
  same_slot [] i n w h e = refl
  same_slot (p ∷ g) zero n w h e = let same : n ≡ p.1 = cc in ap (λ x. (p.0, x) ∷ g) (e ∙ same)
  same_slot (p ∷ g) (suc i) n w h e = ap (λ r. p ∷ r) (same_slot g i n w h e)
