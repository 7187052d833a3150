-- What is known of the links behind the first few of a list.
use Rattle.std.proofs.Common.{◌≡◌, ℕ, ◌+◌, ◌*◌, ◌<◌, ◌≤◌, Bool, true, false, not, cond, ◌&&◌, ◌||◌, slice_get, List, []}
use Rattle.std.proofs.Common.{◌∷◌, ◌++◌, Option, Some, None, nat_lt, take, drop, length, option_map, if◌then◌else◌}
use Rattle.std.proofs.Common.{refl, ap, sym, ◌∙◌, subst, arith, suc, zero}
use Rattle.std.specs.Prelude.{IsTrue}
use Rattle.std.specs.List.{AllByRecursion}
use Rattle.std.specs.Option.{option_map_or}
use Rattle.alias_base.specs.declared.ids.IdentifierId.{IdentifierId}
use Rattle.alias_graph.specs.declared.types.EdgeKind.{EdgeKind}
use Rattle.alias_graph.specs.declared.types.EdgeKind.TheVariants.{Capture, Alias, MaybeAlias}
use Rattle.alias_graph.specs.declared.types.NodeValue.{NodeValue}
use Rattle.alias_graph.specs.declared.types.NodeValue.TheVariants.{Object}
use Rattle.alias_graph.specs.declared.types.StoredLink.{StoredLink}
use Rattle.alias_graph.specs.declared.types.Node.{Node as StoredNode}
use Rattle.alias_graph.specs.Nodes.{Source, Node, Entries, Nodes, node_at, has_node, slot_of, same_id}
use Rattle.alias_graph.specs.Graph.{changed, created, made_from, linked, fresh, edge, source, noted, has_source}
use Rattle.alias_graph.specs.Graph.{with_edge, with_created_from, with_source}
use Rattle.alias_graph.specs.Flat.{link_at, source_of, sources_at, node_of, nodes_of, stored_sources}
use Rattle.alias_graph.specs.Flat.{stored_sources_into, with_forward_slot, AllFit, AllBelow, NodeFits, IsFirst}
use Rattle.alias_graph.specs.KnownLinks.{ends, is_known, Grows, few, AreKnown, SourcesKnown, AllKnown, sources_of}
use Rattle.alias_graph.specs.KnownLinks.{sources_into, found_early}
use Rattle.alias_graph.proofs.Covering.{eqb_is}
use Rattle.alias_graph.proofs.Flats.{node_at_of, sources_kept, link_new}
use Rattle.alias_graph.proofs.Lists.{fit_node}
use Rattle.alias_graph.proofs.Slots.{slot_found, found_node}

-- ---- lists

drop_none : {A : Type 0} (n : ℕ) → ◌≡◌ {A = List A} (drop n []) []
drop_none zero = refl
drop_none (suc n) = refl

module _ {A : Type 0} (P : A → Type 0) where
  all_push : (xs : List A) (x : A) → AllByRecursion P xs → P x → AllByRecursion P (xs ++ x ∷ [])
  all_push [] x h p = (p, tt)
  all_push (y ∷ xs) x h p = (h.0, all_push xs x h.1 p)

  rear_push : (n : ℕ) (xs : List A) (x : A) → AllByRecursion P (drop n xs) → (n ≤ length xs → P x)
      → AllByRecursion P (drop n (xs ++ x ∷ []))
  rear_push zero xs x h p = all_push xs x h (p (omega arith))
  rear_push (suc n) [] x h p = subst (AllByRecursion P) (sym (drop_none n)) tt
  rear_push (suc n) (y ∷ xs) x h p = rear_push n xs x h (λ le. p (omega arith))

all_known_more : (P Q : Source → Type 0) → ((s : Source) → P s → Q s) → (ss : List Source) → AllByRecursion P ss
    → AllByRecursion Q ss
all_known_more P Q f [] h = tt
all_known_more P Q f (s ∷ ss) h = (f s h.0, all_known_more P Q f ss h.1)

-- ---- a node without this source

module _ (known : List ℕ) (from into : IdentifierId) (unknown : is_known (ends from into) known ≡ false) where
  not_both : (b : Bool) → b ≡ true → b ≡ false → ⊥
  not_both true h g = cc
  not_both false h g = cc

  other_source : (s : Source) → is_known (ends s.other into) known ≡ true → (b : Bool) → same_id from s.other ≡ b → b
      ≡ false
  other_source s h true e = absurd (not_both (is_known (ends from into) known)
      (ap (λ n. is_known (n * 4294967296 + into.0) known) (eqb_is from.0 s.other.0 e) ∙ h) unknown)
  other_source s h false e = refl

  none_known : (ss : List Source) → AllByRecursion (λ (s : Source). is_known (ends s.other into) known ≡ true) ss
      → has_source from ss ≡ false
  none_known [] h = refl
  none_known (s ∷ ss) h = ap (λ b. b || has_source from ss) (other_source s h.0 (same_id from s.other) refl)
      ∙ none_known ss h.1

  none_early : (n : ℕ) (ss : List Source)
      → AllByRecursion (λ (s : Source). is_known (ends s.other into) known ≡ true) (drop n ss)
      → has_source from (take n ss) ≡ false → has_source from ss ≡ false
  none_early zero ss h e = none_known ss h
  none_early (suc n) [] h e = refl
  none_early (suc n) (s ∷ ss) h e = elim (same_id from s.other) as
      (λ b. (b || has_source from (take n ss)) ≡ false → (b || has_source from ss) ≡ false)
      [ true ↦ λ i. i | false ↦ none_early n ss h ] e

-- ---- a list that is looked through

sources_long : (links : List StoredLink) (ps : List ℕ) → length (sources_at links ps) ≡ length ps
sources_long links [] = refl
sources_long links (p ∷ ps) = ap suc (sources_long links ps)

sources_taken : (links : List StoredLink) (n : ℕ) (ps : List ℕ) → sources_at links (take n ps)
    ≡ take n (sources_at links ps)
sources_taken links zero ps = refl
sources_taken links (suc n) [] = refl
sources_taken links (suc n) (p ∷ ps) = ap (λ r. source_of (link_at links p) ∷ r) (sources_taken links n ps)

pub below_taken : (n k : ℕ) (ps : List ℕ) → AllBelow n ps → AllBelow n (take k ps)
below_taken n zero ps h = tt
below_taken n (suc k) [] h = tt
below_taken n (suc k) (p ∷ ps) h = (h.0, below_taken n k ps h.1)

is_less : (m n : ℕ) → m < n → nat_lt m n ≡ true
is_less m n h = grind arith

no_less : (m n : ℕ) → n ≤ m → nat_lt m n ≡ false
no_less m n h = grind arith

early_test : (from : IdentifierId) (b : Bool) (ss ts : List Source) → b ≡ nat_lt (length ss) few → ts ≡ take few ss
    → (if b then None else Some (has_source from ts)) ≡ found_early from ss
early_test from b ss ts e t = ap (λ c. if c then None else Some (has_source from ts)) e
    ∙ ap (λ z. if nat_lt (length ss) few then None else Some (has_source from z)) t

-- a list of few sources
pub early_few : (links : List StoredLink) (from : IdentifierId) (ps : List ℕ) → length ps < few → None
    ≡ found_early from (sources_at links ps)
early_few links from ps h = early_test from true (sources_at links ps) (take few (sources_at links ps))
    (sym (is_less (length ps) few h) ∙ ap (λ n. nat_lt n few) (sym (sources_long links ps))) refl

-- a list of more
pub early_many : (links : List StoredLink) (from : IdentifierId) (ps : List ℕ) → few ≤ length ps
    → Some (has_source from (sources_at links (take few ps))) ≡ found_early from (sources_at links ps)
early_many links from ps h = early_test from false (sources_at links ps) (sources_at links (take few ps))
    (sym (no_less (length ps) few h) ∙ ap (λ n. nat_lt n few) (sym (sources_long links ps)))
    (sources_taken links few ps)

sources_stored : (kind : EdgeKind) (links : List StoredLink) (k : StoredNode) → sources_of kind (node_of links k)
    ≡ sources_at links (stored_sources kind k)
sources_stored Capture links k = refl
sources_stored Alias links k = refl
sources_stored MaybeAlias links k = refl

among_stored : (kind : EdgeKind) (links : List StoredLink) (o : Option StoredNode)
    → option_map_or (sources_of kind) (option_map (node_of links) o) []
    ≡ sources_at links (option_map_or (stored_sources kind) o [])
among_stored kind links None = refl
among_stored kind links (Some k) = sources_stored kind links k

into_stored : (links : List StoredLink) (g : Entries StoredNode) (into : IdentifierId) (kind : EdgeKind)
    → sources_into (nodes_of links g) into kind ≡ sources_at links (stored_sources_into g into kind)
into_stored links g into kind = ap (λ o. option_map_or (sources_of kind) o []) (node_at_of links g into)
    ∙ among_stored kind links (node_at g into)

-- the node is there
pub early_at_node : (links : List StoredLink) (g : Entries StoredNode) (from into : IdentifierId) (kind : EdgeKind)
    (k : StoredNode) → Some k ≡ node_at g into → found_early from (sources_at links (stored_sources kind k))
    ≡ found_early from (sources_into (nodes_of links g) into kind)
early_at_node links g from into kind k h =
    ap (λ o. found_early from (sources_at links (option_map_or (stored_sources kind) o []))) h
    ∙ ap (found_early from) (sym (into_stored links g into kind))

-- the node isn't there
pub early_nowhere : (links : List StoredLink) (g : Entries StoredNode) (from into : IdentifierId) (kind : EdgeKind)
    → None ≡ node_at g into → None ≡ found_early from (sources_into (nodes_of links g) into kind)
early_nowhere links g from into kind h =
    ap (λ o. found_early from (sources_at links (option_map_or (stored_sources kind) o []))) h
    ∙ ap (found_early from) (sym (into_stored links g into kind))

-- ---- a new link

sources_fit : (n : ℕ) (kind : EdgeKind) (o : Option StoredNode) → ((k : StoredNode) → Some k ≡ o → NodeFits n k)
    → AllBelow n (option_map_or (stored_sources kind) o [])
sources_fit n kind None h = tt
sources_fit n Capture (Some k) h = (h k refl).captures
sources_fit n Alias (Some k) h = (h k refl).aliases
sources_fit n MaybeAlias (Some k) h = (h k refl).maybe_aliases

-- where a link is the first of its kind and ends, it is so among all links
pub still_first : (links : List StoredLink) (l : StoredLink) (g : Entries StoredNode) → AllFit (length links) g
    → has_source l.from (sources_into (nodes_of links g) l.into l.kind) ≡ false
    → IsFirst (links ++ l ∷ []) (length links) (stored_sources_into g l.into l.kind)
still_first links l g fit h =
    let ps = stored_sources_into g l.into l.kind in
    ap (λ (z : StoredLink). has_source z.from (sources_at (links ++ l ∷ []) ps)) (link_new links l)
    ∙ ap (has_source l.from) (sources_kept links l ps
    (sources_fit (length links) l.kind (node_at g l.into) (λ k e. fit_node (length links) g l.into k fit e)))
    ∙ ap (has_source l.from) (sym (into_stored links g l.into l.kind)) ∙ h

-- what a change of a node leaves as it is
module _ {V X : Type 0} (r : V → X) (d : X) (f : V → V) (same : (v : V) → r (f v) ≡ r v) where
  left_as_is : (g : Entries V) (id q : IdentifierId) → option_map_or r (node_at (changed g id f) q) d
      ≡ option_map_or r (node_at g q) d
  left_as_is [] id q = refl
  left_as_is (p ∷ g) id q = elim (same_id id p.0) as
      (λ b. option_map_or r (node_at (cond b ((p.0, f p.1) ∷ g) (p ∷ changed g id f)) q) d
      ≡ option_map_or r (cond (same_id q p.0) (Some p.1) (node_at g q)) d) [
        | true ↦ elim (same_id q p.0) as (λ b. option_map_or r (cond b (Some (f p.1)) (node_at g q)) d
            ≡ option_map_or r (cond b (Some p.1) (node_at g q)) d) [ true ↦ same p.1 | false ↦ refl ]
        | false ↦ elim (same_id q p.0) as (λ b. option_map_or r (cond b (Some p.1) (node_at (changed g id f) q)) d
            ≡ option_map_or r (cond b (Some p.1) (node_at g q)) d) [ true ↦ refl | false ↦ left_as_is g id q ]
      ]

forward_sources : (kind : EdgeKind) (p : ℕ) (k : StoredNode) → stored_sources kind (with_forward_slot p k)
    ≡ stored_sources kind k
forward_sources Capture p k = refl
forward_sources Alias p k = refl
forward_sources MaybeAlias p k = refl

-- a link more in a forward list
pub first_beside : (links : List StoredLink) (p : ℕ) (g new : Entries StoredNode) (from into : IdentifierId)
    (kind : EdgeKind) → new ≡ changed g from (with_forward_slot p) → IsFirst links p (stored_sources_into g into kind)
    → IsFirst links p (stored_sources_into new into kind)
first_beside links p g new from into kind e h =
    subst (IsFirst links p) (sym (ap (λ z. stored_sources_into z into kind) e
    ∙ left_as_is (stored_sources kind) [] (with_forward_slot p) (forward_sources kind p) g from into)) h

-- the node that the link enters
pub first_there : (links : List StoredLink) (p : ℕ) (g : Entries StoredNode) (into : IdentifierId) (kind : EdgeKind)
    (i : ℕ) (k : StoredNode) → slot_of g into ≡ Some i → Some k
    ≡ option_map (λ (e : IdentifierId × StoredNode). e.1) (slice_get g i)
    → IsFirst links p (stored_sources_into g into kind) → IsFirst links p (stored_sources kind k)
first_there links p g into kind i k at is h =
    subst (IsFirst links p) (ap (λ o. option_map_or (stored_sources kind) o [])
    (found_node g into i k (slot_found g into i k at (sym is)))) h

-- ---- all nodes

known_grows : (ks ls : List ℕ) → Grows ks ls → (into : IdentifierId) (ss : List Source) → AreKnown ks into ss
    → AreKnown ls into ss
known_grows ks ls f into ss h = all_known_more (λ (s : Source). is_known (ends s.other into) ks ≡ true)
    (λ (s : Source). is_known (ends s.other into) ls ≡ true) (λ s. f (ends s.other into)) (drop few ss) h

-- what is known of nodes still is
pub all_grows : (ks ls : List ℕ) → Grows ks ls → (g : Nodes) → AllKnown ks g → AllKnown ls g
all_grows ks ls f [] h = tt
all_grows ks ls f (e ∷ g) h = (
  record {
    captures = known_grows ks ls f e.0 e.1.captures h.0.captures;
    aliases = known_grows ks ls f e.0 e.1.aliases h.0.aliases;
    maybe_aliases = known_grows ks ls f e.0 e.1.maybe_aliases h.0.maybe_aliases;
  },
  all_grows ks ls f g h.1,
)

module _ (ks : List ℕ) where
  -- a new node
  pub created_known : (g : Nodes) (id : IdentifierId) (v : NodeValue) → AllKnown ks g → AllKnown ks (created g id v)
  created_known [] id v h = (record { captures = tt; aliases = tt; maybe_aliases = tt }, tt)
  created_known (p ∷ g) id v h = elim (same_id id p.0) as
      (λ b. AllKnown ks (if b then (p.0, fresh v) ∷ g else p ∷ created g id v)) [
        | true ↦ (record { captures = tt; aliases = tt; maybe_aliases = tt }, h.1)
        | false ↦ (h.0, created_known g id v h.1)
      ]

  changed_known : (f : Node → Node) → ((id : IdentifierId) (n : Node) → SourcesKnown ks id n → SourcesKnown ks id (f n))
      → (g : Nodes) (id : IdentifierId) → AllKnown ks g → AllKnown ks (changed g id f)
  changed_known f k [] id h = tt
  changed_known f k (p ∷ g) id h = elim (same_id id p.0) as
      (λ b. AllKnown ks (cond b ((p.0, f p.1) ∷ g) (p ∷ changed g id f))) [
        | true ↦ (k p.0 p.1 h.0, h.1)
        | false ↦ (h.0, changed_known f k g id h.1)
      ]

  -- a node that is made from another
  pub made_known : (g : Nodes) (index : ℕ) (from into : IdentifierId) → AllKnown ks g
      → AllKnown ks (made_from g index from into)
  made_known g index from into h =
      changed_known (with_created_from (source index from))
      (λ id n k. record { captures = k.captures; aliases = k.aliases; maybe_aliases = k.maybe_aliases })
      (changed (created g into Object) from (with_edge (edge index into Alias))) into
      (changed_known (with_edge (edge index into Alias))
      (λ id n k. record { captures = k.captures; aliases = k.aliases; maybe_aliases = k.maybe_aliases })
      (created g into Object) from (created_known g into Object h))

  noted_known : (index : ℕ) (from id : IdentifierId) (ss : List Source) → AreKnown ks id ss
      → (few ≤ length ss → is_known (ends from id) ks ≡ true) → AreKnown ks id (noted (source index from) ss)
  noted_known index from id ss h k =
      elim (has_source from ss) as (λ b. AreKnown ks id (cond b ss (ss ++ source index from ∷ []))) [
        | true ↦ h
        | false ↦ rear_push (λ (s : Source). is_known (ends s.other id) ks ≡ true) few ss
            (source index from) h k
      ]

  source_known : (kind : EdgeKind) (index : ℕ) (from id : IdentifierId) (n : Node) → SourcesKnown ks id n
      → (few ≤ length (sources_of kind n) → is_known (ends from id) ks ≡ true)
      → SourcesKnown ks id (with_source kind (source index from) n)
  source_known Capture index from id n h k =
      record {
        captures = noted_known index from id n.captures h.captures k;
        aliases = h.aliases;
        maybe_aliases = h.maybe_aliases;
      }
  source_known Alias index from id n h k =
      record {
        captures = h.captures;
        aliases = noted_known index from id n.aliases h.aliases k;
        maybe_aliases = h.maybe_aliases;
      }
  source_known MaybeAlias index from id n h k =
      record {
        captures = h.captures;
        aliases = h.aliases;
        maybe_aliases = noted_known index from id n.maybe_aliases h.maybe_aliases k;
      }

  entered_known : (kind : EdgeKind) (index : ℕ) (from into : IdentifierId) (g : Nodes) → AllKnown ks g
      → (few ≤ length (sources_into g into kind) → is_known (ends from into) ks ≡ true)
      → AllKnown ks (changed g into (with_source kind (source index from)))
  entered_known kind index from into [] h k = tt
  entered_known kind index from into (p ∷ g) h k =
      elim (same_id into p.0) as (λ b. same_id into p.0 ≡ b
      → (few ≤ length (option_map_or (sources_of kind) (cond b (Some p.1) (node_at g into)) [])
      → is_known (ends from into) ks ≡ true)
      → AllKnown ks (cond b ((p.0, with_source kind (source index from) p.1) ∷ g)
      (p ∷ changed g into (with_source kind (source index from))))) [
        | true ↦ λ is q. (
          source_known kind index from p.0 p.1 h.0
              (λ le. ap (λ n. is_known (from.0 * 4294967296 + n) ks) (sym (eqb_is into.0 p.0.0 is)) ∙ q le),
          h.1,
        )
        | false ↦ λ is q. (h.0, entered_known kind index from into g h.1 q)
      ] refl k

  edge_sources : (kind : EdgeKind) (index : ℕ) (into : IdentifierId) (n : Node)
      → sources_of kind (with_edge (edge index into kind) n) ≡ sources_of kind n
  edge_sources Capture index into n = refl
  edge_sources Alias index into n = refl
  edge_sources MaybeAlias index into n = refl

  -- a link, which is known where it would stand behind the first few
  pub linked_known : (g : Nodes) (kind : EdgeKind) (index : ℕ) (from into : IdentifierId) → AllKnown ks g
      → (few ≤ length (sources_into g into kind) → is_known (ends from into) ks ≡ true)
      → AllKnown ks (linked kind g index from into)
  linked_known g kind index from into h k =
      elim (has_node g from && has_node g into) as
      (λ b. AllKnown ks (cond b (changed (changed g from (with_edge (edge index into kind))) into
      (with_source kind (source index from))) g)) [
        | true ↦ entered_known kind index from into (changed g from (with_edge (edge index into kind)))
            (changed_known (with_edge (edge index into kind))
            (λ id n k. record { captures = k.captures; aliases = k.aliases; maybe_aliases = k.maybe_aliases }) g from h)
            (λ le. k (subst (λ ss. few ≤ length ss)
            (left_as_is (sources_of kind) [] (with_edge (edge index into kind)) (edge_sources kind index into) g
            from into) le))
        | false ↦ h
      ]

-- a link that isn't known doesn't stand behind the first few
module _ (ks : List ℕ) (from into : IdentifierId) (unknown : is_known (ends from into) ks ≡ false) where
  node_unknown : (kind : EdgeKind) (id : IdentifierId) (n : Node) → into.0 ≡ id.0 → SourcesKnown ks id n
      → has_source from (take few (sources_of kind n)) ≡ false → has_source from (sources_of kind n) ≡ false
  node_unknown Capture id n e h k = none_early ks from id
      (ap (λ m. is_known (from.0 * 4294967296 + m) ks) (sym e) ∙ unknown) few n.captures h.captures k
  node_unknown Alias id n e h k = none_early ks from id
      (ap (λ m. is_known (from.0 * 4294967296 + m) ks) (sym e) ∙ unknown) few n.aliases h.aliases k
  node_unknown MaybeAlias id n e h k = none_early ks from id
      (ap (λ m. is_known (from.0 * 4294967296 + m) ks) (sym e) ∙ unknown) few n.maybe_aliases h.maybe_aliases k

  not_linked : (g : Nodes) (kind : EdgeKind) → AllKnown ks g → has_source from (take few (sources_into g into kind))
      ≡ false → has_source from (sources_into g into kind) ≡ false
  not_linked [] kind h k = refl
  not_linked (p ∷ g) kind h k =
      elim (same_id into p.0) as (λ b. same_id into p.0 ≡ b
      → has_source from (take few (option_map_or (sources_of kind) (cond b (Some p.1) (node_at g into)) [])) ≡ false
      → has_source from (option_map_or (sources_of kind) (cond b (Some p.1) (node_at g into)) []) ≡ false) [
        | true ↦ λ is q. node_unknown kind p.0 p.1 (eqb_is into.0 p.0.0 is) h.0 q
        | false ↦ λ is q. not_linked g kind h.1 q
      ] refl k

  found_is : (from : IdentifierId) (ss : List Source) (b : Bool) → found_early from ss ≡ Some b
      → has_source from (take few ss) ≡ b
  found_is from ss b h = some_is (nat_lt (length ss) few) (has_source from (take few ss)) h
    where
      some_is : (c a : Bool) → (if c then None else Some a) ≡ Some b → a ≡ b
      some_is true a h = cc
      some_is false a h = cc

  -- nor among these
  pub is_no_link : (g : Nodes) (kind : EdgeKind) → AllKnown ks g → found_early from (sources_into g into kind)
      ≡ Some false → has_source from (sources_into g into kind) ≡ false
  is_no_link g kind h e = not_linked g kind h (found_is from (sources_into g into kind) false e)

pub not_early : (b : Bool) → IsTrue (not b) → b ≡ false
not_early true h = cc
not_early false h = refl
