-- Each event that makes a new node, or none, lets the graph grow, and a link that it adds stands in the lists of both
-- ends.
use Rattle.std.proofs.Common.{◌≡◌, ℕ, ◌<◌, ◌≤◌, ⊎_elim, true, false, cond, ◌&&◌, ◌||◌, List, [], ◌∷◌, ◌++◌, Option}
use Rattle.std.proofs.Common.{Some, None, is_some, option_map, refl, ap, sym, ◌∙◌, subst, inl, inr, ◌⊎◌, arith}
use Rattle.std.proofs.lemmas.Bool.{cases_eq}
use Rattle.alias_base.specs.declared.ids.IdentifierId.{IdentifierId}
use Rattle.alias_graph.specs.declared.types.EdgeKind.TheVariants.{Capture, Alias, MaybeAlias}
use Rattle.alias_graph.specs.declared.types.NodeValue.{NodeValue}
use Rattle.alias_graph.specs.declared.types.NodeValue.TheVariants.{Object}
use Rattle.alias_graph.specs.Graph.{created_out, joined, fresh, created, changed, with_edge, has_source, noted}
use Rattle.alias_graph.specs.Graph.{with_created_from, with_source, edge, source, after}
use Rattle.alias_graph.specs.Nodes.{Edge, Source, Node, Nodes, node_at, has_node, with_node, same_id}
use Rattle.alias_graph.specs.Walks.{IsOneOf}
use Rattle.alias_graph.proofs.Covering.{eqb_is, eqb_itself}
use Rattle.alias_graph.proofs.Effects.{changed_here, changed_apart}
use Rattle.alias_graph.proofs.Legality.{in_left, in_right, in_either}
use Rattle.alias_graph.proofs.Reaching.{id_is}
use Rattle.alias_graph.proofs.RemainingNodes.{put_at}
use Rattle.alias_graph.proofs.Within.{same_changed, created_more}
use Rattle.alias_ranges.proofs.heap.Linking.{LinkKind, CreatedLink, CaptureLink, AliasLink, MaybeLink, edge_kind}
use Rattle.alias_ranges.proofs.heap.Linking.{sources_of, Joins, NodeGrows, Grows, node_same, grows_same, grows_on}
use Rattle.alias_ranges.proofs.heap.Linking.{node_of}

-- ---- sources before a position

abbrev pub NodeBefore : ℕ → Node → Type 0
NodeBefore n v = (k : LinkKind) (l : Source) → IsOneOf l (sources_of k v) → l.index < n

-- all sources in the graph stand before n
abbrev pub SourcesBefore : ℕ → Nodes → Type 0
SourcesBefore n g = (q : IdentifierId) (v : Node) → node_at g q ≡ Some v → NodeBefore n v

pub before_later : (n m : ℕ) (g : Nodes) → n ≤ m → SourcesBefore n g → SourcesBefore m g
before_later n m g le b q v e k l i = let lt : l.index < n = b q v e k l i in omega arith

-- ---- a changed node

changed_or : (g : Nodes) (i q : IdentifierId) (f : Node → Node)
    → (node_at (changed g i f) q ≡ option_map f (node_at g q)) ⊎ (node_at (changed g i f) q ≡ node_at g q)
changed_or g i q f = ⊎_elim
    (λ is. inl (ap (λ z. node_at (changed g z f) q) (id_is i q is) ∙ changed_here g q f))
    (λ other. inr (changed_apart g i q f other))
    (cases_eq i.0 q.0)

mapped : (f : Node → Node) (o : Option Node) (w : Node) → option_map f o ≡ Some w → (v : Node) × (o ≡ Some v)
    × (f v ≡ w)
mapped f None w e = cc
mapped f (Some v) w e = (v, refl, cc)

changed_grows : (g : Nodes) (i : IdentifierId) (f : Node → Node) → ((v : Node) → NodeGrows v (f v))
    → Grows g (changed g i f)
changed_grows g i f more q v e = ⊎_elim
    (λ is. (f v, is ∙ ap (option_map f) e, more v))
    (λ is. (v, is ∙ e, node_same v))
    (changed_or g i q f)

changed_before : (n : ℕ) (g : Nodes) (i : IdentifierId) (f : Node → Node)
    → ((v : Node) → NodeBefore n v → NodeBefore n (f v)) → SourcesBefore n g → SourcesBefore n (changed g i f)
changed_before n g i f keep b q w e = ⊎_elim
    (λ is. let m = mapped f (node_at g q) w (sym is ∙ e) in subst (NodeBefore n) m.2 (keep m.0 (b q m.0 m.1)))
    (λ is. b q w (sym is ∙ e))
    (changed_or g i q f)

-- ---- a link more at a node

abbrev pub with_source_of : LinkKind → Source → Node → Node
with_source_of CreatedLink s v = with_created_from s v
with_source_of CaptureLink s v = with_source Capture s v
with_source_of AliasLink s v = with_source Alias s v
with_source_of MaybeLink s v = with_source MaybeAlias s v

noted_keeps : (s : Source) (ss : List Source) (l : Source) → IsOneOf l ss → IsOneOf l (noted s ss)
noted_keeps s ss l i = elim (has_source s.other ss) as (λ b. IsOneOf l (cond b ss (ss ++ s ∷ [])))
    [ true ↦ i | false ↦ in_left ss (s ∷ []) l i ]

noted_before : (n : ℕ) (s : Source) (ss : List Source) → s.index < n → ((l : Source) → IsOneOf l ss → l.index < n)
    → (l : Source) → IsOneOf l (noted s ss) → l.index < n
noted_before n s ss lt b l = elim (has_source s.other ss) as (λ c. IsOneOf l (cond c ss (ss ++ s ∷ [])) → l.index < n) [
  | true ↦ λ i. b l i
  | false ↦ λ i. ⊎_elim (λ j. b l j) (λ j.
      ⊎_elim (λ (is : l ≡ s). subst (λ (z : Source). z.index < n) (sym is) lt) (λ no. absurd no) j)
      (in_either ss (s ∷ []) l i)
]

source_there : (id : IdentifierId) (ss : List Source) → has_source id ss ≡ true → (l : Source) × IsOneOf l ss
    × (l.other ≡ id)
source_there id [] h = cc
source_there id (s ∷ ss) h = elim (same_id id s.other) as
    (λ b. same_id id s.other ≡ b → (b || has_source id ss) ≡ true → (l : Source) × IsOneOf l (s ∷ ss) × (l.other ≡ id)) [
      | true ↦ λ is more. (s, inl refl, id_is s.other id (sym (eqb_is id.0 s.other.0 is)))
      | false ↦ λ is more. let r = source_there id ss more in (r.0, inr r.1, r.2)
    ] refl h

-- the source itself, or one that was there with the same end
noted_there : (n : ℕ) (s : Source) (ss : List Source) → s.index < n → ((l : Source) → IsOneOf l ss → l.index < n)
    → (l : Source) × IsOneOf l (noted s ss) × (l.index < n) × (l.other ≡ s.other)
noted_there n s ss lt b = elim (has_source s.other ss) as
    (λ c. has_source s.other ss ≡ c → (l : Source) × IsOneOf l (cond c ss (ss ++ s ∷ [])) × (l.index < n)
    × (l.other ≡ s.other)) [
      | true ↦ λ is. let r = source_there s.other ss is in (r.0, r.1, b r.0 r.1, r.2)
      | false ↦ λ is. (s, in_right ss (s ∷ []) s (inl refl), lt, refl)
    ] refl

edge_grown : (e : Edge) (v : Node) (k : LinkKind) (l : Source) → IsOneOf l (sources_of k v)
    → IsOneOf l (sources_of k (with_edge e v))
edge_grown e v CreatedLink l i = i
edge_grown e v CaptureLink l i = i
edge_grown e v AliasLink l i = i
edge_grown e v MaybeLink l i = i

edge_back : (e : Edge) (v : Node) (k : LinkKind) (l : Source) → IsOneOf l (sources_of k (with_edge e v))
    → IsOneOf l (sources_of k v)
edge_back e v CreatedLink l i = i
edge_back e v CaptureLink l i = i
edge_back e v AliasLink l i = i
edge_back e v MaybeLink l i = i

edge_more : (e : Edge) (v : Node) → NodeGrows v (with_edge e v)
edge_more e v = record { forward = λ l i. in_left v.forward (e ∷ []) l i; sources = edge_grown e v }

source_grown : (k : LinkKind) (s : Source) (v : Node) (j : LinkKind) (l : Source) → IsOneOf l (sources_of j v)
    → IsOneOf l (sources_of j (with_source_of k s v))
source_grown CreatedLink s v CreatedLink l i = noted_keeps s v.created_from l i
source_grown CaptureLink s v CaptureLink l i = noted_keeps s v.captures l i
source_grown AliasLink s v AliasLink l i = noted_keeps s v.aliases l i
source_grown MaybeLink s v MaybeLink l i = noted_keeps s v.maybe_aliases l i
source_grown CreatedLink s v _ l i = i
source_grown CaptureLink s v _ l i = i
source_grown AliasLink s v _ l i = i
source_grown MaybeLink s v _ l i = i

source_edges : (k : LinkKind) (s : Source) (v : Node) (l : Edge) → IsOneOf l v.forward
    → IsOneOf l (with_source_of k s v).forward
source_edges CreatedLink s v l i = i
source_edges CaptureLink s v l i = i
source_edges AliasLink s v l i = i
source_edges MaybeLink s v l i = i

source_more : (k : LinkKind) (s : Source) (v : Node) → NodeGrows v (with_source_of k s v)
source_more k s v = record { forward = source_edges k s v; sources = source_grown k s v }

source_before : (n : ℕ) (k : LinkKind) (s : Source) (v : Node) → s.index < n → NodeBefore n v
    → NodeBefore n (with_source_of k s v)
source_before n CreatedLink s v lt b CreatedLink l i = noted_before n s v.created_from lt (b CreatedLink) l i
source_before n CaptureLink s v lt b CaptureLink l i = noted_before n s v.captures lt (b CaptureLink) l i
source_before n AliasLink s v lt b AliasLink l i = noted_before n s v.aliases lt (b AliasLink) l i
source_before n MaybeLink s v lt b MaybeLink l i = noted_before n s v.maybe_aliases lt (b MaybeLink) l i
source_before n CreatedLink s v lt b j l i = b j l i
source_before n CaptureLink s v lt b j l i = b j l i
source_before n AliasLink s v lt b j l i = b j l i
source_before n MaybeLink s v lt b j l i = b j l i

source_here : (n : ℕ) (k : LinkKind) (s : Source) (v : Node) → s.index < n → NodeBefore n v → (l : Source)
    × IsOneOf l (sources_of k (with_source_of k s v)) × (l.index < n) × (l.other ≡ s.other)
source_here n CreatedLink s v lt b = noted_there n s v.created_from lt (b CreatedLink)
source_here n CaptureLink s v lt b = noted_there n s v.captures lt (b CaptureLink)
source_here n AliasLink s v lt b = noted_there n s v.aliases lt (b AliasLink)
source_here n MaybeLink s v lt b = noted_there n s v.maybe_aliases lt (b MaybeLink)

-- ---- a link more in the graph

abbrev pub link_in : LinkKind → Nodes → ℕ → IdentifierId → IdentifierId → Nodes
link_in k g p a x = changed (changed g a (with_edge (edge p x (edge_kind k)))) x (with_source_of k (source p a))

module _ (k : LinkKind) (g : Nodes) (p : ℕ) (a x : IdentifierId) where
  abbrev with_forward : Nodes
  with_forward = changed g a (with_edge (edge p x (edge_kind k)))

  with_forward_grows : Grows g with_forward
  with_forward_grows = changed_grows g a (with_edge (edge p x (edge_kind k))) (edge_more (edge p x (edge_kind k)))

  source_grows : Grows with_forward (link_in k g p a x)
  source_grows = changed_grows with_forward x (with_source_of k (source p a)) (source_more k (source p a))

  pub link_grows : Grows g (link_in k g p a x)
  link_grows = grows_on g with_forward (link_in k g p a x) with_forward_grows source_grows

  forward_before : (n : ℕ) → SourcesBefore n g → SourcesBefore n with_forward
  forward_before n b = changed_before n g a (with_edge (edge p x (edge_kind k)))
      (λ v h j l i. h j l (edge_back (edge p x (edge_kind k)) v j l i)) b

  pub link_before : (n : ℕ) → p < n → SourcesBefore n g → SourcesBefore n (link_in k g p a x)
  link_before n lt b = changed_before n with_forward x (with_source_of k (source p a))
      (λ v h. source_before n k (source p a) v lt h) (forward_before n b)

  pub link_same : (q : IdentifierId) → has_node (link_in k g p a x) q ≡ has_node g q
  link_same q = same_changed with_forward x (with_source_of k (source p a)) q
      ∙ same_changed g a (with_edge (edge p x (edge_kind k))) q

  pub link_joins : (n : ℕ) → p < n → SourcesBefore n g → has_node g a ≡ true → has_node g x ≡ true
      → Joins (link_in k g p a x) n k a x
  link_joins n lt b ma mx =
      let E = edge p x (edge_kind k) in
      let S = source p a in
      let va = node_of g a ma in
      let there : node_at with_forward a ≡ Some (with_edge E va.0) = changed_here g a (with_edge E)
      ∙ ap (option_map (with_edge E)) va.1 in
      let w = source_grows a (with_edge E va.0) there in
      let vx = node_of with_forward x (same_changed g a (with_edge E) x ∙ mx) in
      let l = source_here n k S vx.0 lt (forward_before n b x vx.0 vx.1) in
      record {
        forward = record {
          node = w.0;
          is_node = w.1;
          edge = E;
          listed = w.2.forward E (in_right va.0.forward (E ∷ []) E (inl refl));
          before = lt;
          kind = refl;
          other = refl;
        };
        back = record {
          node = with_source_of k S vx.0;
          is_node = changed_here with_forward x (with_source_of k S) ∙ ap (option_map (with_source_of k S)) vx.1;
          source = l.0;
          listed = l.1;
          before = l.2;
          other = l.3;
        };
      }

-- ---- a node more

put_apart : (g : Nodes) (i q : IdentifierId) (n : Node) → same_id q i ≡ false → node_at (with_node g i n) q
    ≡ node_at g q
put_apart g i q n h = put_at g i q n ∙ ap (λ b. cond b (Some n) (node_at g q)) h

put_here : (g : Nodes) (i : IdentifierId) (n : Node) → node_at (with_node g i n) i ≡ Some n
put_here g i n = put_at g i i n ∙ ap (λ b. cond b (Some n) (node_at g i)) (eqb_itself i.0)

no_sources : (value : NodeValue) (k : LinkKind) (l : Source) → IsOneOf l (sources_of k (fresh value)) → ⊥
no_sources value CreatedLink l i = i
no_sources value CaptureLink l i = i
no_sources value AliasLink l i = i
no_sources value MaybeLink l i = i

put_or : (g : Nodes) (i q : IdentifierId) (n : Node) → ((i ≡ q) × (node_at (with_node g i n) q ≡ Some n))
    ⊎ (node_at (with_node g i n) q ≡ node_at g q)
put_or g i q n = elim (same_id q i) as (λ b. same_id q i ≡ b → ((i ≡ q) × (node_at (with_node g i n) q ≡ Some n))
    ⊎ (node_at (with_node g i n) q ≡ node_at g q)) [
      | true ↦ λ is.
          let ids : i ≡ q = id_is i q (sym (eqb_is q.0 i.0 is)) in
          inl (ids, ap (λ z. node_at (with_node g z n) q) ids ∙ put_here g q n)
      | false ↦ λ is. inr (put_apart g i q n is)
    ] refl

module _ (g : Nodes) (x : IdentifierId) (value : NodeValue) where
  pub made_grows : has_node g x ≡ false → Grows g (created g x value)
  made_grows new q v e = ⊎_elim
      (λ is. let t : has_node g x ≡ true = ap (has_node g) is.0 ∙ ap is_some e in absurd (cc))
      (λ is. (v, is ∙ e, node_same v))
      (put_or g x q (fresh value))

  pub made_before : (n : ℕ) → SourcesBefore n g → SourcesBefore n (created g x value)
  made_before n b q w e k l i = ⊎_elim
      (λ is. let is_fresh : fresh value ≡ w = some_is (fresh value) w (sym is.1 ∙ e) in
      absurd (no_sources value k l (subst (λ z. IsOneOf l (sources_of k z)) (sym is_fresh) i)))
      (λ is. b q w (sym is ∙ e) k l i)
      (put_or g x q (fresh value))
    where
      some_is : (v w : Node) → (let o : Option Node = Some v in o ≡ Some w) → v ≡ w
      some_is v w h = cc

  pub made_here : has_node (created g x value) x ≡ true
  made_here = ap is_some (put_here g x (fresh value))

-- ---- events

abbrev pub IsPlain : LinkKind → Type 0
IsPlain CreatedLink = ⊥
IsPlain CaptureLink = Unit {0}
IsPlain AliasLink = Unit {0}
IsPlain MaybeLink = Unit {0}

after_joined : (k : LinkKind) → IsPlain k → (g : Nodes) (p : ℕ) (a x : IdentifierId)
    → after g (joined (edge_kind k) p a x) ≡ cond (has_node g a && has_node g x) (link_in k g p a x) g
after_joined CreatedLink pl g p a x = absurd pl
after_joined CaptureLink pl g p a x = refl
after_joined AliasLink pl g p a x = refl
after_joined MaybeLink pl g p a x = refl

module _ (k : LinkKind) (pl : IsPlain k) (g : Nodes) (p : ℕ) (a x : IdentifierId) where
  abbrev joined_graph : Nodes
  joined_graph = after g (joined (edge_kind k) p a x)

  pub joined_grows : Grows g joined_graph
  joined_grows = subst (Grows g) (sym (after_joined k pl g p a x))
      (elim (has_node g a && has_node g x) as (λ b. Grows g (cond b (link_in k g p a x) g))
      [ true ↦ link_grows k g p a x | false ↦ grows_same g ])

  pub joined_before : (n : ℕ) → p < n → SourcesBefore n g → SourcesBefore n joined_graph
  joined_before n lt b = subst (SourcesBefore n) (sym (after_joined k pl g p a x))
      (elim (has_node g a && has_node g x) as (λ c. SourcesBefore n (cond c (link_in k g p a x) g))
      [ true ↦ link_before k g p a x n lt b | false ↦ b ])

  pub joined_same : (q : IdentifierId) → has_node joined_graph q ≡ has_node g q
  joined_same q = ap (λ z. has_node z q) (after_joined k pl g p a x)
      ∙ elim (has_node g a && has_node g x) as (λ b. has_node (cond b (link_in k g p a x) g) q ≡ has_node g q)
      [ true ↦ link_same k g p a x q | false ↦ refl ]

  pub joined_joins : (n : ℕ) → p < n → SourcesBefore n g → has_node g a ≡ true → has_node g x ≡ true
      → Joins joined_graph n k a x
  joined_joins n lt b ma mx =
      let both : (has_node g a && has_node g x) ≡ true = ap (λ c. c && has_node g x) ma ∙ mx in
      let is : joined_graph ≡ link_in k g p a x = after_joined k pl g p a x
      ∙ ap (λ c. cond c (link_in k g p a x) g) both in
      subst (λ z. Joins z n k a x) (sym is) (link_joins k g p a x n lt b ma mx)

module _ (g : Nodes) (p : ℕ) (a x : IdentifierId) where
  abbrev created_graph : Nodes
  created_graph = after g (created_out p a x)

  pub out_grows : has_node g x ≡ false → Grows g created_graph
  out_grows new = grows_on g (created g x Object) created_graph (made_grows g x Object new)
      (link_grows CreatedLink (created g x Object) p a x)

  pub out_before : (n : ℕ) → p < n → SourcesBefore n g → SourcesBefore n created_graph
  out_before n lt b = link_before CreatedLink (created g x Object) p a x n lt (made_before g x Object n b)

  pub out_more : (q : IdentifierId) → has_node created_graph q ≡ (same_id q x || has_node g q)
  out_more q = link_same CreatedLink (created g x Object) p a x q ∙ created_more g x Object q

  pub out_joins : (n : ℕ) → p < n → SourcesBefore n g → has_node created_graph a ≡ true
      → Joins created_graph n CreatedLink a x
  out_joins n lt b ma = link_joins CreatedLink (created g x Object) p a x n lt (made_before g x Object n b)
      (sym (link_same CreatedLink (created g x Object) p a x a) ∙ ma) (made_here g x Object)
