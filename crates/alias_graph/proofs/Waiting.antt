-- What waits on the stack, and what a search passes over.
use Rattle.std.proofs.Common.{◌≡◌, ℕ, ◌+◌, ◌<◌, ◌≤◌, Bool, true, false, cond, List, [], ◌∷◌, ◌++◌, Option, Some, None}
use Rattle.std.proofs.Common.{nat_lt, min, length, take, slice_get, slice_index_or, option_map, refl, ap, sym, ◌∙◌}
use Rattle.std.proofs.Common.{subst, arith, suc, zero, append_assoc, append-nil, length-append}
use Rattle.std.proofs.lemmas.List.{take_all}
use Rattle.alias_base.specs.declared.ids.IdentifierId.{IdentifierId}
use Rattle.alias_graph.specs.declared.types.MutationKind.{MutationKind}
use Rattle.alias_graph.specs.declared.types.MutationKind.TheVariants.{Conditional}
use Rattle.alias_graph.specs.declared.types.LinkList.{LinkList}
use Rattle.alias_graph.specs.declared.types.LinkList.TheVariants.{Forward, CreatedFrom, Captures, Aliases, MaybeAliases}
use Rattle.alias_graph.specs.declared.types.StoredLink.{StoredLink}
use Rattle.alias_graph.specs.declared.types.Node.{Node as StoredNode}
use Rattle.alias_graph.specs.declared.types.Origin.{Origin}
use Rattle.alias_graph.specs.declared.types.Entry.{Entry}
use Rattle.alias_graph.specs.declared.types.Found.{Found}
use Rattle.alias_graph.specs.declared.types.Pending.{Pending}
use Rattle.alias_graph.specs.declared.seen.Seen.{Seen}
use Rattle.alias_graph.specs.Claims.{claimed}
use Rattle.alias_graph.specs.Flat.{AllBelow, AllFit, NodeFits, link_at, edges_at, sources_at, node_of, nodes_of}
use Rattle.alias_graph.specs.Flat.{stored_visited, stored_marked_by}
use Rattle.alias_graph.specs.Graph.{changed}
use Rattle.alias_graph.specs.Links.{along, back_entries, forward_entries, opens, alias_entries, capture_entries, led_to}
use Rattle.alias_graph.specs.Links.{led_from, next}
use Rattle.alias_graph.specs.NodeMarks.{info, later, first_reason}
use Rattle.alias_graph.specs.Nodes.{Entries, slot_of, same_id}
use Rattle.alias_graph.specs.Seen.{is_seen, nothing_seen}
use Rattle.alias_graph.specs.Waiting.{listed, listed_in, stored_at, led, led_entries, waiting_of, waiting, pending}
use Rattle.alias_graph.specs.Waiting.{pending_aliases, pending_captures, followed, followed_in, AllOld, Searched}
use Rattle.alias_graph.proofs.Flats.{node_at_of}
use Rattle.alias_graph.proofs.Slots.{slot_some, found_node, Found as FoundAt}
use Rattle.alias_graph.proofs.Walking.{seen_slot}

-- ---- the entries of links

module _ (list : LinkList) (m : ℕ) (t : Bool) (k : MutationKind) (links : List StoredLink) where
  abbrev of : List ℕ → List Entry
  of ps = led_entries list m t k links ps

  last : (xs : List ℕ) (p : ℕ) → of (xs ++ p ∷ []) ≡ of xs
      ++ cond (nat_lt (link_at links p).index m) (led list t k (link_at links p) ∷ []) []
  last [] p = refl
  last (x ∷ xs) p = elim (nat_lt (link_at links x).index m) as
      (λ b. cond b (led list t k (link_at links x) ∷ of (xs ++ p ∷ [])) (of (xs ++ p ∷ []))
      ≡ cond b (led list t k (link_at links x) ∷ of xs) (of xs)
      ++ cond (nat_lt (link_at links p).index m) (led list t k (link_at links p) ∷ []) []) [
        | true ↦ ap (λ z. led list t k (link_at links x) ∷ z) (last xs p)
        | false ↦ last xs p
      ]

  one_more : (ps : List ℕ) (j : ℕ) → j < length ps → take (suc j) ps ≡ take j ps ++ slice_index_or ps j 0 ∷ []
  one_more [] j lt = absurd (omega arith)
  one_more (p ∷ ps) zero lt = refl
  one_more (p ∷ ps) (suc j) lt = ap (λ z. p ∷ z) (one_more ps j (omega arith))

  is_before : (a b : ℕ) → a < b → nat_lt a b ≡ true
  is_before a b h = grind arith

  is_not_before : (a b : ℕ) → b ≤ a → nat_lt a b ≡ false
  is_not_before a b h = grind arith

  module _ (ps : List ℕ) (left j : ℕ) (one : left ≡ suc j) (within : left ≤ length ps) where
    split : of (take left ps) ≡ of (take j ps)
        ++ cond (nat_lt (link_at links (slice_index_or ps j 0)).index m)
        (led list t k (link_at links (slice_index_or ps j 0)) ∷ []) []
    split = ap (λ n. of (take n ps)) one ∙ ap of (one_more ps j (omega arith))
        ∙ last (take j ps) (slice_index_or ps j 0)

    -- a link before m comes off the end
    pub one_off : (link_at links (slice_index_or ps j 0)).index < m → (old : List Entry) → of (take left ps) ++ old
        ≡ of (take j ps) ++ led list t k (link_at links (slice_index_or ps j 0)) ∷ old
    one_off lt old =
        let e = led list t k (link_at links (slice_index_or ps j 0)) in
        ap (λ z. z ++ old) (split ∙ ap (λ b. of (take j ps) ++ cond b (e ∷ []) []) (is_before _ _ lt))
        ∙ append_assoc (of (take j ps)) (e ∷ []) old

    -- another link leads nowhere
    pub none_off : m ≤ (link_at links (slice_index_or ps j 0)).index → (old : List Entry) → of (take left ps) ++ old
        ≡ of (take j ps) ++ old
    none_off le old =
        let e = led list t k (link_at links (slice_index_or ps j 0)) in
        ap (λ z. z ++ old) (split ∙ ap (λ b. of (take j ps) ++ cond b (e ∷ []) []) (is_not_before _ _ le)
        ∙ append-nil (of (take j ps)))

-- no more are taken than there are
pub take_min : (l n : ℕ) (ps : List ℕ) → l ≡ min n (length ps) → take l ps ≡ take n ps
take_min l n [] e = take_all l [] (omega arith) ∙ sym (take_all n [] (omega arith))
take_min l zero (p ∷ ps) e = let none : l ≡ 0 = omega (arith, e) in ap (λ j. take j (p ∷ ps)) none
take_min zero (suc n) (p ∷ ps) e = absurd (omega (arith, e))
take_min (suc l) (suc n) (p ∷ ps) e = ap (λ z. p ∷ z) (take_min l n ps (omega (arith, e)))

-- ---- the stack

module _ (links : List StoredLink) (g : Entries StoredNode) (m : ℕ) where
  pub waiting_append : (a b : List Pending) → waiting links g m (a ++ b) ≡ waiting links g m a ++ waiting links g m b
  waiting_append [] b = refl
  waiting_append (p ∷ a) b = ap (λ z. waiting_of links g m p ++ z) (waiting_append a b)
      ∙ sym (append_assoc (waiting_of links g m p) (waiting links g m a) (waiting links g m b))

  pub waiting_last : (a : List Pending) (p : Pending) → waiting links g m (a ++ p ∷ []) ≡ waiting links g m a
      ++ waiting_of links g m p
  waiting_last a p = waiting_append a (p ∷ [])
      ∙ ap (λ z. waiting links g m a ++ z) (append-nil (waiting_of links g m p))

-- ---- marks change no list

listed_marked : (list : LinkList) (b : Bool) (index : ℕ) (origin : Origin) (e : Entry) (n : StoredNode)
    → listed list (record (stored_marked_by b (info e.kind origin.span) n)
    { last_mutated = later index n.last_mutated; mutation_reason = first_reason origin.reason n.mutation_reason })
    ≡ listed list n
listed_marked Forward true index origin e n = refl
listed_marked Forward false index origin e n = refl
listed_marked CreatedFrom true index origin e n = refl
listed_marked CreatedFrom false index origin e n = refl
listed_marked Captures true index origin e n = refl
listed_marked Captures false index origin e n = refl
listed_marked Aliases true index origin e n = refl
listed_marked Aliases false index origin e n = refl
listed_marked MaybeAliases true index origin e n = refl
listed_marked MaybeAliases false index origin e n = refl

listed_changed : (f : StoredNode → StoredNode)
    → ((list : LinkList) (n : StoredNode) → listed list (f n) ≡ listed list n)
    → (g : Entries StoredNode) (id : IdentifierId) (list : LinkList) (i : ℕ)
    → listed_in list (stored_at (changed g id f) i) ≡ listed_in list (stored_at g i)
listed_changed f h [] id list i = refl
listed_changed f h (p ∷ g) id list zero =
    elim (same_id id p.0) as (λ b. listed_in list (stored_at (cond b ((p.0, f p.1) ∷ g) (p ∷ changed g id f)) zero)
    ≡ listed list p.1) [ true ↦ h list p.1 | false ↦ refl ]
listed_changed f h (p ∷ g) id list (suc i) =
    elim (same_id id p.0) as (λ b. listed_in list (stored_at (cond b ((p.0, f p.1) ∷ g) (p ∷ changed g id f)) (suc i))
    ≡ listed_in list (stored_at g i)) [ true ↦ refl | false ↦ listed_changed f h g id list i ]

pub waiting_changed : (links : List StoredLink) (g : Entries StoredNode) (m : ℕ) (id : IdentifierId) (index : ℕ)
    (origin : Origin) (e : Entry) (stack : List Pending)
    → waiting links (changed g id (stored_visited index origin e)) m stack ≡ waiting links g m stack
waiting_changed links g m id index origin e [] = refl
waiting_changed links g m id index origin e (p ∷ ps) =
    let same = listed_changed (stored_visited index origin e)
    (λ list n. listed_marked list e.transitive index origin e n) g id p.list p.slot in
    ap (λ z. led_entries p.list m p.transitive p.kind links (take p.left z)
    ++ waiting links (changed g id (stored_visited index origin e)) m ps) same
    ∙ ap (λ z. waiting_of links g m p ++ z) (waiting_changed links g m id index origin e ps)

-- ---- what an entry follows is what it leads to

edges_led : (m : ℕ) (t : Bool) (k : MutationKind) (links : List StoredLink) (ps : List ℕ)
    → led_entries Forward m t k links ps ≡ forward_entries m t k (edges_at links ps)
edges_led m t k links [] = refl
edges_led m t k links (p ∷ ps) = let l = link_at links p in
    ap (λ z. cond (nat_lt l.index m) (along l.kind l.into t k ∷ z) z) (edges_led m t k links ps)

abbrev IsBackward : LinkList → Type 0
IsBackward list = (t : Bool) (k : MutationKind) (l : StoredLink) → led list t k l ≡ led CreatedFrom t k l

sources_led : (list : LinkList) → IsBackward list
    → (m : ℕ) (t : Bool) (k : MutationKind) (links : List StoredLink) (ps : List ℕ) → led_entries list m t k links ps
    ≡ back_entries m t k (sources_at links ps)
sources_led list h m t k links [] = refl
sources_led list h m t k links (p ∷ ps) =
    let l = link_at links p in
    ap (λ z. cond (nat_lt l.index m) (led list t k l ∷ z) z) (sources_led list h m t k links ps)
    ∙ ap (λ e. cond (nat_lt l.index m) (e ∷ back_entries m t k (sources_at links ps))
    (back_entries m t k (sources_at links ps))) (h t k l)

module _ (links : List StoredLink) (g : Entries StoredNode) (m slot : ℕ) (n : StoredNode)
    (at : stored_at g slot ≡ Some n) where
  all_led : (list : LinkList) (t : Bool) (k : MutationKind) (ps : List ℕ) → listed list n ≡ ps
      → waiting links g m (pending slot list t k ps) ≡ led_entries list m t k links ps
  all_led list t k [] is = refl
  all_led list t k (p ∷ ps) is =
      append-nil (led_entries list m t k links (take (suc (length ps)) (listed_in list (stored_at g slot))))
      ∙ ap (λ z. led_entries list m t k links (take (suc (length ps)) z)) (ap (listed_in list) at ∙ is)
      ∙ ap (led_entries list m t k links) (take_all (suc (length ps)) (p ∷ ps) (omega arith))

  pub forward_led : (t : Bool) (k : MutationKind) → waiting links g m (pending slot Forward t k n.forward)
      ≡ forward_entries m t k (edges_at links n.forward)
  forward_led t k = all_led Forward t k n.forward refl ∙ edges_led m t k links n.forward

  backward_led : (list : LinkList) → IsBackward list → (t : Bool) (k : MutationKind)
      → waiting links g m (pending slot list t k (listed list n))
      ≡ back_entries m t k (sources_at links (listed list n))
  backward_led list h t k = all_led list t k (listed list n) refl ∙ sources_led list h m t k links (listed list n)

  aliases_led : (b : Bool) (t : Bool) (k : MutationKind) → waiting links g m (pending_aliases b slot t k n)
      ≡ alias_entries b m t k (sources_at links n.aliases) (sources_at links n.maybe_aliases)
  aliases_led true t k =
      waiting_append links g m (pending slot Aliases t k n.aliases)
      (pending slot MaybeAliases t Conditional n.maybe_aliases)
      ∙ ap (λ z. z ++ waiting links g m (pending slot MaybeAliases t Conditional n.maybe_aliases))
      (backward_led Aliases (λ t k l. refl) t k)
      ∙ ap (λ z. back_entries m t k (sources_at links n.aliases) ++ z)
      (backward_led MaybeAliases (λ t k l. refl) t Conditional)
  aliases_led false t k = refl

  captures_led : (b : Bool) (k : MutationKind) → waiting links g m (pending_captures b slot k n)
      ≡ capture_entries b m k (sources_at links n.captures)
  captures_led true k = backward_led Captures (λ t k l. refl) true k
  captures_led false k = refl

  pub followed_led : (e : Entry) → waiting links g m (followed slot e n) ≡ led_to m e (node_of links n)
  followed_led e =
      let f = pending slot Forward e.transitive e.kind n.forward in
      let c = pending slot CreatedFrom true e.kind n.created_from in
      let a = pending_aliases (opens n.value e.direction) slot e.transitive e.kind n in
      let h = pending_captures e.transitive slot e.kind n in
      let edges = forward_entries m e.transitive e.kind (edges_at links n.forward) in
      let made = back_entries m true e.kind (sources_at links n.created_from) in
      let same = alias_entries (opens n.value e.direction) m e.transitive e.kind (sources_at links n.aliases)
      (sources_at links n.maybe_aliases) in
      let two : waiting links g m (f ++ c) ≡ edges ++ made =
      waiting_append links g m f c
      ∙ ap (λ z. z ++ waiting links g m c) (forward_led e.transitive e.kind)
      ∙ ap (λ z. edges ++ z) (backward_led CreatedFrom (λ t k l. refl) true e.kind) in
      let three : waiting links g m ((f ++ c) ++ a) ≡ (edges ++ made) ++ same =
      waiting_append links g m (f ++ c) a
      ∙ ap (λ z. z ++ waiting links g m a) two
      ∙ ap (λ z. (edges ++ made) ++ z) (aliases_led (opens n.value e.direction) e.transitive e.kind) in
      waiting_append links g m ((f ++ c) ++ a) h
      ∙ ap (λ z. z ++ waiting links g m h) three
      ∙ ap (λ z. ((edges ++ made) ++ same) ++ z) (captures_led e.transitive e.kind)

-- the stack after a visit
pub waiting_visited : (links : List StoredLink) (g k : Entries StoredNode) (m slot : ℕ) (index : ℕ) (origin : Origin)
    (e : Entry) (old new : List Pending)
    → slot_of g e.id ≡ Some slot → k ≡ changed g e.id (stored_visited index origin e) → new ≡ old
    ++ followed_in slot e (stored_at g slot)
    → waiting links k m new ≡ waiting links g m old ++ next (nodes_of links g) m e
waiting_visited links g k m slot index origin e old new at is put =
    let f = slot_some g e.id slot at in
    let there : stored_at g slot ≡ Some f.0 = found_stored g e.id slot f.0 f.1 in
    let leads : next (nodes_of links g) m e ≡ led_to m e (node_of links f.0) =
    ap (led_from m e) (node_at_of links g e.id
    ∙ ap (option_map (node_of links)) (found_node g e.id slot f.0 f.1)) in
    ap (λ z. waiting links z m new) is
    ∙ waiting_changed links g m e.id index origin e new
    ∙ ap (waiting links g m) (put ∙ ap (λ o. old ++ followed_in slot e o) there)
    ∙ waiting_append links g m old (followed slot e f.0)
    ∙ ap (λ z. waiting links g m old ++ z) (followed_led links g m slot f.0 there e ∙ sym leads)
  where
    found_stored : (g : Entries StoredNode) (id : IdentifierId) (i : ℕ) (n : StoredNode) → FoundAt g id i n
        → stored_at g i ≡ Some n
    found_stored [] id i n h = absurd h
    found_stored (p ∷ g) id zero n h = ap Some h.1
    found_stored (p ∷ g) id (suc i) n h = found_stored g id i n h.1

-- ---- bounds

pub listed_fits : (n : ℕ) (list : LinkList) (k : StoredNode) → NodeFits n k → AllBelow n (listed list k)
listed_fits n Forward k h = h.forward
listed_fits n CreatedFrom k h = h.created_from
listed_fits n Captures k h = h.captures
listed_fits n Aliases k h = h.aliases
listed_fits n MaybeAliases k h = h.maybe_aliases

pub fit_index : (n : ℕ) (g : Entries StoredNode) (i : ℕ) (key : IdentifierId) (k : StoredNode) → AllFit n g
    → Some (key, k) ≡ slice_get g i → NodeFits n k
fit_index n [] i key k h is = absurd (cc)
fit_index n (p ∷ g) zero key k h is = let same : p.1 ≡ k = cc in subst (NodeFits n) same h.0
fit_index n (p ∷ g) (suc i) key k h is = fit_index n g i key k h.1 is

-- ---- what a search passes over

pub claimed_slot : (o : Option ℕ) (seen : List Seen) (e : Entry) (p : ℕ) → claimed o seen e ≡ Some p → o ≡ Some p
claimed_slot None seen e p h = cc
claimed_slot (Some q) seen e p h = ap Some (seen_slot (is_seen (slice_index_or seen q nothing_seen) e) q p h)

-- where there is no node, no link is pending
pub search_none : (links : List StoredLink) (g : Entries StoredNode) (seen : List Seen) (m : ℕ) (p : Pending) (s : ℕ)
    → None ≡ slice_get g p.slot
    → Searched g seen (waiting_of links g m p) (waiting_of links g m (record p { left = 0 })) s s None
search_none links g seen m p s at =
    let none : listed_in p.list (stored_at g p.slot) ≡ [] =
    ap (λ (o : Option (IdentifierId × StoredNode)).
    listed_in p.list (option_map (λ (e : IdentifierId × StoredNode). e.1) o)) (sym at) in
    let all : [] ≡ waiting_of links g m p =
    sym (ap (λ z. led_entries p.list m p.transitive p.kind links (take p.left z)) none
    ∙ ap (led_entries p.list m p.transitive p.kind links) (take_all p.left [] (omega arith))) in
    (refl, subst (AllOld g seen) all tt, let n = ap length all in omega arith)

-- the pending links of a node that is there
pub listed_at : (g : Entries StoredNode) (p : Pending) (key : IdentifierId) (n : StoredNode) → Some (key, n)
    ≡ slice_get g p.slot → listed p.list n ≡ listed_in p.list (stored_at g p.slot)
listed_at g p key n at = ap (λ (o : Option (IdentifierId × StoredNode)).
    listed_in p.list (option_map (λ (e : IdentifierId × StoredNode). e.1) o)) at

pub search_list : (links : List StoredLink) (g : Entries StoredNode) (seen : List Seen) (m : ℕ) (p : Pending)
    (key : IdentifierId) (n : StoredNode) (slots : List ℕ) (left s counted : ℕ) (found : Option Found) → Some (key, n)
    ≡ slice_get g p.slot → slots ≡ listed p.list n
    → Searched g seen (led_entries p.list m p.transitive p.kind links (take p.left slots))
    (led_entries p.list m p.transitive p.kind links (take left slots)) s counted found
    → Searched g seen (waiting_of links g m p) (waiting_of links g m (record p { left = left })) s counted found
search_list links g seen m p key n slots left s counted found at is h =
    subst (λ z. Searched g seen (led_entries p.list m p.transitive p.kind links (take p.left z))
    (led_entries p.list m p.transitive p.kind links (take left z)) s counted found) (is ∙ listed_at g p key n at) h

module _ (g : Entries StoredNode) (seen : List Seen) where
  pub old_append : (a b : List Entry) → AllOld g seen a → AllOld g seen b → AllOld g seen (a ++ b)
  old_append [] b h k = k
  old_append (e ∷ a) b h k = (h.0, old_append a b h.1 k)

  -- a search of the newest part, after a search that passed over what was newer
  pub search_goes_on : (rest part old all : List Entry) (left : List Entry) (s s₀ s₁ : ℕ) → (rest ++ part) ++ old ≡ all
      → AllOld g seen old → s₀ ≡ s + length old → Searched g seen part left s₀ s₁ None
      → (rest ++ (part ++ old) ≡ all) × AllOld g seen (part ++ old) × (s₁ ≡ s + length (part ++ old))
  search_goes_on rest part old all left s s₀ s₁ is olds counted h =
      let len = length-append part old in
      let more : s₁ ≡ s₀ + length part = h.2 in
      (sym (append_assoc rest part old) ∙ is, old_append part old h.1 olds, omega arith)

  pub search_finds : (rest part old all left : List Entry) (s s₀ s₁ : ℕ) (f : Found) → (rest ++ part) ++ old ≡ all
      → AllOld g seen old → s₀ ≡ s + length old → Searched g seen part left s₀ s₁ (Some f)
      → Searched g seen all (rest ++ left) s s₁ (Some f)
  search_finds rest part old all left s s₀ s₁ f is olds counted h =
      let len = length-append h.0 old in
      let more : s₁ ≡ s₀ + length h.0 = h.3 in (
        h.0 ++ old,
        sym is ∙ ap (λ z. (rest ++ z) ++ old) h.1
            ∙ ap (λ z. z ++ old) (sym (append_assoc rest left (f.entry ∷ h.0)))
            ∙ append_assoc (rest ++ left) (f.entry ∷ h.0) old,
        old_append h.0 old h.2 olds,
        omega arith,
        h.4,
      )
