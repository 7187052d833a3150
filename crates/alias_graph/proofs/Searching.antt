-- How far a walk has come after a search.
use Rattle.std.proofs.Common.{◌≡◌, ℕ, ◌+◌, ◌*◌, ◌<◌, ◌≤◌, true, List, [], ◌∷◌, ◌++◌, Option, Some, None, length}
use Rattle.std.proofs.Common.{replicate, refl, ap, sym, ◌∙◌, subst, arith, suc, zero, append_assoc, append-nil}
use Rattle.alias_base.specs.declared.ids.EvaluationOrder.{EvaluationOrder}
use Rattle.alias_hir.specs.declared.env.Identifier.{Identifier}
use Rattle.alias_graph.specs.declared.types.Entry.{Entry}
use Rattle.alias_graph.specs.declared.types.Found.{Found}
use Rattle.alias_graph.specs.declared.types.Node.{Node as StoredNode}
use Rattle.alias_graph.specs.declared.types.Origin.{Origin}
use Rattle.alias_graph.specs.declared.types.Pending.{Pending}
use Rattle.alias_graph.specs.declared.types.StoredLink.{StoredLink}
use Rattle.alias_graph.specs.declared.seen.Seen.{Seen}
use Rattle.alias_graph.specs.Claims.{claimed, noted_at}
use Rattle.alias_graph.specs.Flat.{nodes_of, stored_visited}
use Rattle.alias_graph.specs.Graph.{changed}
use Rattle.alias_graph.specs.Links.{step_to, all_links, next as links_next}
use Rattle.alias_graph.specs.NodeMarks.{range_visited, visited}
use Rattle.alias_graph.specs.Nodes.{Entries, Nodes, slot_of, has_node}
use Rattle.alias_graph.specs.Seen.{nothing_seen}
use Rattle.alias_graph.specs.Waiting.{AllOld, Searched, waiting, stored_at, followed_in}
use Rattle.alias_graph.proofs.Flats.{slot_of_nodes, length_of_nodes, nodes_changed, visited_slot}
use Rattle.alias_graph.proofs.Waiting.{claimed_slot, waiting_visited}
use Rattle.alias_graph.proofs.Walking.{Walking, walking_begins, walking_same, walking_skips, walking_expands}
use Rattle.alias_graph.proofs.Walking.{walking_more, done_kept, done_more, claimed_has, claimed_below}

-- the entries to come, with the next one where it was found
abbrev pub coming : List Entry → Option Found → List Entry
coming left None = left
coming left (Some f) = left ++ f.entry ∷ []

-- the next one is new, or none is left
abbrev pub Comes : Entries StoredNode → List Seen → List Entry → Option Found → Type 0
Comes k seen left None = left ≡ []
Comes k seen left (Some f) = claimed (slot_of k f.entry.id) seen f.entry ≡ Some f.slot

-- the next one is new in the nodes with links
pub comes_new : (links : List StoredLink) (k : Entries StoredNode) (seen : List Seen) (left : List Entry)
    (next : Option Found) (f : Found) → next ≡ Some f → Comes k seen left next
    → claimed (slot_of (nodes_of links k) f.entry.id) seen f.entry ≡ Some f.slot
comes_new links k seen left next f is h = ap (λ o. claimed o seen f.entry) (slot_of_nodes links k f.entry.id)
    ∙ subst (Comes k seen left) is h

pub none_left : (k : Entries StoredNode) (seen : List Seen) (left : List Entry) (next : Option Found) → next ≡ None
    → Comes k seen left next → coming left next ≡ []
none_left k seen left next is h = ap (coming left) is ∙ subst (Comes k seen left) is h

module _ (g₀ : Nodes) (rs₀ : List Identifier) (m : ℕ) (origin : Origin) (end : Option EvaluationOrder) (s : Entry)
    (links : List StoredLink) (k : Entries StoredNode) (rs : List Identifier) (seen : List Seen) where
  abbrev At : List Entry → ℕ → Type 0
  At stack n = Walking g₀ rs₀ m origin end s (nodes_of links k) rs seen stack n

  abbrev done : ℕ → List Entry
  done n = (step_to g₀ m s n).done

  -- old entries are skipped
  skips : (old rest : List Entry) (n : ℕ) → AllOld k seen old → At (rest ++ old) n → At rest (n + length old)
      × (done (n + length old) ≡ done n)
  skips [] rest n olds h =
      let same : n ≡ n + zero = omega arith in
      (subst (At rest) same (subst (λ z. At z n) (append-nil rest) h), ap done (sym same))
  skips (e ∷ old) rest n olds h =
      let more = skips old (rest ++ e ∷ []) n olds.1 (subst (λ z. At z n) (sym (append_assoc rest (e ∷ []) old)) h) in
      let claim : claimed (slot_of (nodes_of links k) e.id) seen e ≡ None =
      ap (λ o. claimed o seen e) (slot_of_nodes links k e.id) ∙ olds.0 in
      let j = n + length old in
      let same : j + 1 ≡ n + suc (length old) = omega arith in (
        subst (At rest) same (walking_skips g₀ rs₀ m origin end s (nodes_of links k) rs seen (rest ++ e ∷ []) rest e j
            more.0 refl claim),
        ap done (sym same) ∙ done_kept g₀ rs₀ m origin end s (nodes_of links k) rs seen (rest ++ e ∷ []) rest e j more.0
            refl claim ∙ more.1,
      )

  pub record Came (left : List Entry) (next : Option Found) (n steps counted : ℕ) : Type 0 where
    pub passed : ℕ
    pub steps_are : counted ≡ steps + passed
    pub walking : At (coming left next) (n + passed)
    pub done_are : done (n + passed) ≡ done n
    pub comes : Comes k seen left next

  -- what a search counts was popped
  pub came : (entries left : List Entry) (next : Option Found) (n steps counted : ℕ) → At entries n
      → Searched k seen entries left steps counted next → Came left next n steps counted
  came entries left None n steps counted h q =
      let all = skips entries [] n q.1 h in
      record {
        passed = length entries;
        steps_are = q.2;
        walking = subst (λ z. At z (n + length entries)) (sym q.0) all.0;
        done_are = all.1;
        comes = q.0;
      }
  came entries left (Some f) n steps counted h q =
      let all = skips q.0 (left ++ f.entry ∷ []) n q.2
      (subst (λ z. At z n) (q.1 ∙ sym (append_assoc left (f.entry ∷ []) q.0)) h) in
      record { passed = length q.0; steps_are = q.3; walking = all.0; done_are = all.1; comes = q.4 }

  -- the next entry, where there is one
  module _ (left : List Entry) (next : Option Found) (f : Found) (n : ℕ) (is : next ≡ Some f)
      (h : At (coming left next) n) (comes : Comes k seen left next) where
    abbrev claim : claimed (slot_of (nodes_of links k) f.entry.id) seen f.entry ≡ Some f.slot
    claim = comes_new links k seen left next f is comes

    pub next_slot : slot_of k f.entry.id ≡ Some f.slot
    next_slot = claimed_slot (slot_of k f.entry.id) seen f.entry f.slot (subst (Comes k seen left) is comes)

    pub next_has : has_node g₀ f.entry.id ≡ true
    next_has = claimed_has g₀ rs₀ m origin end s (nodes_of links k) rs seen (coming left next) left f.entry n h
        (ap (coming left) is) f.slot claim

    pub next_below : f.slot < length seen
    next_below = claimed_below g₀ rs₀ m origin end s (nodes_of links k) rs seen (coming left next) left f.entry n h
        (ap (coming left) is) f.slot claim

    pub next_done : done (n + 1) ≡ f.entry ∷ done n
    next_done = done_more g₀ rs₀ m origin end s (nodes_of links k) rs seen (coming left next) left f.entry n h
        (ap (coming left) is) f.slot claim

    pub next_few : n + 1 ≤ 1 + 8 * all_links g₀
    next_few = walking_more g₀ rs₀ m origin end s (nodes_of links k) rs seen (coming left next) n h left f.entry
        (ap (coming left) is)

    next_expands : Walking g₀ rs₀ m origin end s (changed (nodes_of links k) f.entry.id (visited m origin f.entry))
        (range_visited end f.entry.id rs) (noted_at (Some f.slot) seen f.entry)
        (left ++ links_next (nodes_of links k) m f.entry) (n + 1)
    next_expands = walking_expands g₀ rs₀ m origin end s (nodes_of links k) rs seen (coming left next) left f.entry n h
        (ap (coming left) is) f.slot claim

-- once the next entry was expanded
pub expanded : (g₀ : Nodes) (rs₀ : List Identifier) (m : ℕ) (origin : Origin) (end : Option EvaluationOrder) (s : Entry)
    (links : List StoredLink) (k : Entries StoredNode) (rs : List Identifier) (seen : List Seen) (stack : List Pending)
    (next : Option Found) (f : Found) (n : ℕ)
    → next ≡ Some f → Walking g₀ rs₀ m origin end s (nodes_of links k) rs seen (coming (waiting links k m stack) next) n
    → Comes k seen (waiting links k m stack) next
    → (k' : Entries StoredNode) (rs' : List Identifier) (seen' : List Seen) (stack' : List Pending)
    → k' ≡ changed k f.entry.id (stored_visited m origin f.entry) → rs' ≡ range_visited end f.entry.id rs → seen'
    ≡ noted_at (Some f.slot) seen f.entry → stack' ≡ stack ++ followed_in f.slot f.entry (stored_at k f.slot)
    → Walking g₀ rs₀ m origin end s (nodes_of links k') rs' seen' (waiting links k' m stack') (n + 1)
expanded g₀ rs₀ m origin end s links k rs seen stack next f n is h comes k' rs' seen' stack' nodes_are ranges_are notes
    stack_is =
    let left = waiting links k m stack in
    let at = next_slot g₀ rs₀ m origin end s links k rs seen left next f n is h comes in
    let more = next_expands g₀ rs₀ m origin end s links k rs seen left next f n is h comes in
    walking_same g₀ rs₀ m origin end s _ _ _ _ (n + 1) more (nodes_of links k') rs' seen' (waiting links k' m stack')
    (ap (nodes_of links) nodes_are ∙ nodes_changed links (stored_visited m origin f.entry) (visited m origin f.entry)
    (visited_slot links m origin f.entry) k f.entry.id)
    ranges_are
    notes
    (waiting_visited links k k' m f.slot m origin f.entry stack stack' at nodes_are stack_is)

-- after the search for the first entry
pub begun : (rs₀ : List Identifier) (m : ℕ) (origin : Origin) (end : Option EvaluationOrder) (s : Entry)
    (links : List StoredLink) (k : Entries StoredNode) (seen : List Seen) (stack : List Pending) (next : Option Found)
    (steps counted : ℕ)
    → seen ≡ replicate (length k) nothing_seen → stack ≡ [] → Searched k seen (s ∷ []) [] steps counted next
    → Came (nodes_of links k) rs₀ m origin end s links k rs₀ seen (waiting links k m stack) next 0 steps counted
begun rs₀ m origin end s links k seen stack next steps counted nothing empty q =
    let g₀ = nodes_of links k in
    let same : seen ≡ replicate (length g₀) nothing_seen = nothing
    ∙ ap (λ n. replicate n nothing_seen) (sym (length_of_nodes links k)) in
    let first = walking_same g₀ rs₀ m origin end s g₀ rs₀ (replicate (length g₀) nothing_seen) (s ∷ []) 0
    (walking_begins g₀ rs₀ m origin end s) g₀ rs₀ seen (s ∷ []) refl refl same refl in
    subst (λ z. Came g₀ rs₀ m origin end s links k rs₀ seen (waiting links k m z) next 0 steps counted) (sym empty)
    (came g₀ rs₀ m origin end s links k rs₀ seen (s ∷ []) [] next 0 steps counted first q)
