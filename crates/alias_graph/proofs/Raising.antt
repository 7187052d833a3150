-- How far a sweep has come.
use Rattle.std.proofs.Common.{◌≡◌, ℕ, ◌+◌, ◌<◌, ◌≤◌, ◌⊎◌, ⊎_elim, inl, inr, Bool, true, false, cond, IsTrue, List, []}
use Rattle.std.proofs.Common.{◌∷◌, ◌++◌, Option, Some, None, is_some, not, length, replicate, drop, option_map}
use Rattle.std.proofs.Common.{slice_index_or, slice_set, nat_lt, refl, ap, sym, ◌∙◌, subst, arith, suc, zero}
use Rattle.std.proofs.Common.{append_assoc, append-nil}
use Rattle.std.proofs.lemmas.List.{drop_more, length-set}
use Rattle.std.proofs.lemmas.Bool.{false≢true}
use Rattle.std.specs.List.{position_or_len}
use Rattle.std.specs.Map.{keys_of}
use Rattle.alias_base.specs.declared.ids.EvaluationOrder.{EvaluationOrder}
use Rattle.alias_base.specs.declared.ids.IdentifierId.{IdentifierId}
use Rattle.alias_hir.specs.declared.env.Identifier.{Identifier}
use Rattle.alias_graph.specs.declared.seen.Seen.{Seen}
use Rattle.alias_graph.specs.declared.types.Entry.{Entry}
use Rattle.alias_graph.specs.declared.types.Found.{Found}
use Rattle.alias_graph.specs.declared.types.Node.{Node as StoredNode}
use Rattle.alias_graph.specs.declared.types.Pending.{Pending}
use Rattle.alias_graph.specs.declared.types.RangeWalk.{RangeWalk}
use Rattle.alias_graph.specs.declared.types.StoredLink.{StoredLink}
use Rattle.alias_graph.specs.Claims.{claimed, noted_at}
use Rattle.alias_graph.specs.Flat.{node_of, nodes_of}
use Rattle.alias_graph.specs.Legal.{Legal, Link, forward_alias, forward_maybe_alias, forward_capture, created_from}
use Rattle.alias_graph.specs.Legal.{alias, maybe_alias, capture}
use Rattle.alias_graph.specs.Links.{covers, led_to, led_from, next, next as next_of, node_exists}
use Rattle.alias_graph.specs.NodeMarks.{range_visited}
use Rattle.alias_graph.specs.Nodes.{Node, Nodes, Entries, node_at, slot_of, has_node, same_id, Within}
use Rattle.alias_graph.specs.Raising.{range_entry, EndsRise, RaiseCause, Raised, Swept}
use Rattle.alias_graph.specs.Reach.{end_at, end_of, Covered}
use Rattle.alias_graph.specs.Seen.{is_seen, see, nothing_seen}
use Rattle.alias_graph.specs.Waiting.{waiting, stored_at, followed, followed_in, AllOld, Searched}
use Rattle.alias_graph.specs.Walks.{IsOneOf, Path, begin, more, is_covered}
use Rattle.alias_graph.proofs.Covering.{opened}
use Rattle.alias_graph.proofs.Effects.{ranges_length, ranges_up, ranges_rest, ranges_there, ranges_cause}
use Rattle.alias_graph.proofs.Flats.{node_at_of, slot_of_nodes, length_of_nodes}
use Rattle.alias_graph.proofs.Legality.{link_of, of_link, in_left, in_right, in_either}
use Rattle.alias_graph.proofs.Reaching.{covers_itself, graph_laws, path_of, legal_of}
use Rattle.alias_graph.proofs.Searching.{coming, Comes, none_left}
use Rattle.alias_graph.proofs.Slots.{Found as FoundAt, slot_some, slot_missing, found_node}
use Rattle.alias_graph.proofs.Table.{Sees, sees_nothing, sees_more, found_below}
use Rattle.alias_graph.proofs.Unseen.{unseen, noted_less}
use Rattle.alias_graph.proofs.Visits.{Met, covered_met}
use Rattle.alias_graph.proofs.Waiting.{claimed_slot, waiting_append, followed_led}
use Rattle.alias_graph.proofs.Walking.{seen_slot}

-- ---- earlier positions lead to less

link_later : (m k : ℕ) (n : Node) (e f : Entry) → m ≤ k → Link m n e f → Link k n e f
link_later m k n e f le (forward_alias l i lt a is) = forward_alias l i (omega arith) a is
link_later m k n e f le (forward_maybe_alias l i lt a is) = forward_maybe_alias l i (omega arith) a is
link_later m k n e f le (forward_capture l i lt a is) = forward_capture l i (omega arith) a is
link_later m k n e f le (created_from l i lt is) = created_from l i (omega arith) is
link_later m k n e f le (alias l i lt free is) = alias l i (omega arith) free is
link_later m k n e f le (maybe_alias l i lt free is) = maybe_alias l i (omega arith) free is
link_later m k n e f le (capture l i lt t is) = capture l i (omega arith) t is

next_later : (g : Nodes) (m k : ℕ) (e f : Entry) → m ≤ k → IsOneOf f (next g m e) → IsOneOf f (next g k e)
next_later g m k e f le i = by (node_at g e.id) i
  where
    by : (o : Option Node) → IsOneOf f (led_from m e o) → IsOneOf f (led_from k e o)
    by None j = absurd j
    by (Some n) j = of_link k n e f (link_later m k n e f le (link_of m n e f j))

-- ---- the table by slots

sees_slot : (g : Nodes) (seen : List Seen) (done : List Entry) → Sees g seen done → (e : Entry) (i : ℕ) → slot_of g e.id
    ≡ Some i → is_seen (slice_index_or seen i nothing_seen) e ≡ is_covered covers done e
sees_slot g seen done h e i at = let f = slot_some g e.id i at in h.says e i f.0 f.1

abbrev index_of : Nodes → IdentifierId → ℕ
index_of g id = position_or_len (same_id id) (keys_of g)

found_index : (g : Nodes) (id : IdentifierId) (i : ℕ) (n : Node) → FoundAt g id i n → index_of g id ≡ i
found_index [] id i n h = absurd h
found_index (p ∷ g) id zero n h = ap (λ b. cond (not b) (1 + index_of g id) 0) h.0
found_index (p ∷ g) id (suc i) n h = let rest = found_index g id i n h.1 in let one : 1 + index_of g id ≡ suc i =
    omega arith in ap (λ b. cond (not b) (1 + index_of g id) 0) h.0 ∙ one

keys_length : (g : Nodes) → length (keys_of g) ≡ length g
keys_length [] = refl
keys_length (p ∷ g) = ap suc (keys_length g)

is_less : (a b : ℕ) → a < b → nat_lt a b ≡ true
is_less a b h = grind arith

found_slot : (g : Nodes) (id : IdentifierId) (i : ℕ) (n : Node) → FoundAt g id i n → slot_of g id ≡ Some i
found_slot g id i n h =
    let is = found_index g id i n h in
    let below = found_below g id i n h in
    let len = keys_length g in
    ap (λ b. cond b (Some (index_of g id)) None) (is_less (index_of g id) (length (keys_of g)) (omega arith))
    ∙ ap Some is

swept_sees : (g : Nodes) (m end : ℕ) (rs : List Identifier) (seen : List Seen) (h : Swept g m end rs seen)
    → Sees g seen h.done
swept_sees g m end rs seen h = record { size = h.size; says = λ e i n at. h.says e i (found_slot g e.id i n at) }

-- the table serves at earlier positions and ends
pub swept_before : (g : Nodes) (m k end last : ℕ) (rs : List Identifier) (seen : List Seen) → m ≤ k → end ≤ last
    → Swept g k last rs seen → Swept g m end rs seen
swept_before g m k end last rs seen le low h = record {
  done = h.done;
  size = h.size;
  says = h.says;
  closed = λ d f i j t. h.closed d f i (next_later g m k d f le j) t;
  ended = λ d i. let e = h.ended d i in omega arith;
}

pub swept_nothing : (g : Nodes) (m end : ℕ) (rs : List Identifier) (seen : List Seen) → Sees g seen []
    → Swept g m end rs seen
swept_nothing g m end rs seen sees = record {
  done = [];
  size = sees.size;
  says = λ e i at. sees_slot g seen [] sees e i at;
  closed = λ d f i j t. absurd i;
  ended = λ d i. absurd i;
}

pub swept_begun : (links : List StoredLink) (k : Entries StoredNode) (m end : ℕ) (rs : List Identifier)
    (seen : List Seen) → seen ≡ replicate (length k) nothing_seen → Swept (nodes_of links k) m end rs seen
swept_begun links k m end rs seen is =
    let same : seen ≡ replicate (length (nodes_of links k)) nothing_seen = is
    ∙ ap (λ n. replicate n nothing_seen) (sym (length_of_nodes links k)) in
    swept_nothing (nodes_of links k) m end rs seen
    (subst (λ z. Sees (nodes_of links k) z []) (sym same) (sees_nothing (nodes_of links k)))

-- ---- one raise

pub rise_same : (rs : List Identifier) → EndsRise rs rs
rise_same rs = record { size = refl; kept = λ i. omega arith; rest = λ i. refl }

pub rise_trans : (a b c : List Identifier) → EndsRise a b → EndsRise b c → EndsRise a c
rise_trans a b c h k = record {
  size = k.size ∙ h.size;
  kept = λ i. let p = h.kept i in let q = k.kept i in omega arith;
  rest = λ i. k.rest i ∙ h.rest i;
}

pub rise_visited : (v : EvaluationOrder) (e : Entry) (rs : List Identifier)
    → EndsRise rs (range_visited (Some v) e.id rs)
rise_visited v e rs = record {
  size = ranges_length (Some v) rs (e ∷ []);
  kept = λ i. ranges_up (Some v) rs (e ∷ []) i;
  rest = λ i. ranges_rest (Some v) rs (e ∷ []) i;
}

visited_cause : (v : EvaluationOrder) (e : Entry) (rs : List Identifier) (i : ℕ)
    → (end_at (range_visited (Some v) e.id rs) i ≡ end_at rs i)
    ⊎ ((e.id.0 ≡ i) × (end_at (range_visited (Some v) e.id rs) i ≡ v.0))
visited_cause v e rs i = ⊎_elim
    (λ same. inl (ap end_of same))
    (λ h. let is : v ≡ h.0.0 = cc in inr (
      ⊎_elim (λ (q : h.1 ≡ e). ap (λ (z : Entry). z.id.0) (sym q))
          (λ none. absurd none) h.3 ∙ h.2,
      h.0.2 ∙ ap (λ (z : EvaluationOrder). z.0) (sym is),
    ))
    (ranges_cause (Some v) rs (e ∷ []) i)

-- ---- the walk

module _ (g : Nodes) (m : ℕ) (s : Entry) (v : EvaluationOrder) (rs₀ : List Identifier) where
  -- something that was or will be expanded covers the entry
  abbrev Held : List Entry → List Entry → Entry → Type 0
  Held done stack f = node_exists g f ≡ true → Met covers done f ⊎ Met covers stack f

  abbrev Cause : ℕ → ℕ → Type 0
  Cause i end = (e : Entry) × (e.id.0 ≡ i) × Legal g m s e × (end ≡ v.0)

  -- with this stack, the newest last, and these entries expanded
  pub record Going (rs : List Identifier) (seen : List Seen) (stack : List Entry) : Type 0 where
    pub done : List Entry
    pub sees : Sees g seen done
    pub start : Held done stack s
    pub led : (d f : Entry) → IsOneOf d done → IsOneOf f (next g m d) → Held done stack f
    pub legal : (e : Entry) → IsOneOf e stack → node_exists g e ≡ true → Path (node_exists g) (next g m) s e
    pub ended : (d : Entry) → IsOneOf d done → v.0 ≤ end_at rs d.id.0
    pub rise : EndsRise rs₀ rs
    pub cause : (i : ℕ) → (end_at rs i ≡ end_at rs₀ i) ⊎ Cause i (end_at rs i)

  pub going_begins : (seen : List Seen) → Swept g m v.0 rs₀ seen → Going rs₀ seen (s ∷ [])
  going_begins seen h = record {
    done = h.done;
    sees = swept_sees g m v.0 rs₀ seen h;
    start = λ t. inr (s, inl refl, covers_itself s);
    led = λ d f i j t. inl (h.closed d f i j t);
    legal = λ e i t. ⊎_elim (λ (same : e ≡ s).
        subst (Path (node_exists g) (next g m) s) (sym same) (begin (ap (node_exists g) (sym same) ∙ t)))
        (λ none. absurd none) i;
    ended = h.ended;
    rise = rise_same rs₀;
    cause = λ i. inl refl;
  }

  none_seen : (b : Bool) (p : ℕ) → cond b None (Some p) ≡ None → b ≡ true
  none_seen true p h = refl
  none_seen false p h = cc

  -- an old entry is covered
  old_met : (seen : List Seen) (done : List Entry) → Sees g seen done → (e : Entry) → node_exists g e ≡ true
      → (o : Option ℕ) → slot_of g e.id ≡ o → claimed o seen e ≡ None → Met covers done e
  old_met seen done sees e t None at c = absurd (false≢true (sym (ap is_some (slot_missing g e.id at)) ∙ t))
  old_met seen done sees e t (Some p) at c =
      let f = slot_some g e.id p at in
      covered_met covers done e (sym (sees.says e p f.0 f.1)
      ∙ none_seen (is_seen (slice_index_or seen p nothing_seen) e) p c)

  module _ (rs : List Identifier) (seen : List Seen) (rest : List Entry) (e : Entry)
      (h : Going rs seen (rest ++ e ∷ [])) where
    skipped : claimed (slot_of g e.id) seen e ≡ None → (f : Entry) → Held h.done (rest ++ e ∷ []) f → Held h.done rest f
    skipped c f held t = ⊎_elim
        (λ old. inl old)
        (λ p. ⊎_elim
        (λ left. inr (p.0, left, p.2))
        (λ last. ⊎_elim
        (λ (same : p.0 ≡ e).
        let by : IsTrue (covers e f) = subst (λ z. IsTrue (covers z f)) same p.2 in
        let met = old_met seen h.done h.sees e ((graph_laws g m).alike e f by ∙ t) (slot_of g e.id) refl c in
        inl (met.0, met.1, (graph_laws g m).trans met.0 e f met.2 by))
        (λ none. absurd none) last)
        (in_either rest (e ∷ []) p.0 p.1))
        (held t)

    pub going_skips : claimed (slot_of g e.id) seen e ≡ None → Going rs seen rest
    going_skips c = record {
      done = h.done;
      sees = h.sees;
      start = skipped c s h.start;
      led = λ d f i j. skipped c f (h.led d f i j);
      legal = λ x i t. h.legal x (in_left rest (e ∷ []) x i) t;
      ended = h.ended;
      rise = h.rise;
      cause = h.cause;
    }

    expands : (new : List Entry) (f : Entry) → Held h.done (rest ++ e ∷ []) f → Held (e ∷ h.done) (rest ++ new) f
    expands new f held t = ⊎_elim
        (λ old. inl (old.0, inr old.1, old.2))
        (λ p. ⊎_elim
        (λ left. inr (p.0, in_left rest new p.0 left, p.2))
        (λ last. ⊎_elim (λ (same : p.0 ≡ e). inl (e, inl refl, subst (λ z. IsTrue (covers z f)) same p.2))
        (λ none. absurd none) last)
        (in_either rest (e ∷ []) p.0 p.1))
        (held t)

    -- a new entry is expanded
    module _ (p : ℕ) (c : claimed (slot_of g e.id) seen e ≡ Some p)
        (within : has_node g e.id ≡ true → e.id.0 < length rs₀) where
      found : (n : Node) × FoundAt g e.id p n
      found = slot_some g e.id p (claimed_slot (slot_of g e.id) seen e p c)

      there : node_exists g e ≡ true
      there = ap is_some (found_node g e.id p found.0 found.1)

      pub new_below : p < length seen
      new_below = let b = found_below g e.id p found.0 found.1 in omega (arith, h.sees.size)

      pub new_within : e.id.0 < length rs
      new_within = let b = within there in omega (arith, h.rise.size)

      path : Path (node_exists g) (next g m) s e
      path = h.legal e (in_right rest (e ∷ []) e (inl refl)) there

      abbrev raised : List Identifier
      raised = range_visited (Some v) e.id rs

      pub going_expands : Going raised (noted_at (Some p) seen e) (rest ++ next g m e)
      going_expands =
          let rise = rise_visited v e rs in
          record {
            done = e ∷ h.done;
            sees = sees_more g seen h.done e p found.0 found.1 h.sees;
            start = expands (next g m e) s h.start;
            led = λ d f i j. ⊎_elim
                (λ (same : d ≡ e) t. inr (
                  f,
                  in_right rest (next g m e) f (subst (λ z. IsOneOf f (next g m z)) same j),
                  covers_itself f,
                ))
                (λ other. expands (next g m e) f (h.led d f other j)) i;
            legal = λ x i t. ⊎_elim (λ left. h.legal x (in_left rest (e ∷ []) x left) t) (λ new. more path new t)
                (in_either rest (next g m e) x i);
            ended = λ d i. ⊎_elim
                (λ (same : d ≡ e). subst (λ (z : Entry). v.0 ≤ end_at raised z.id.0) (sym same)
                (ranges_there (Some v) rs (e ∷ []) e (inl refl) new_within))
                (λ other. let a = h.ended d other in let b = rise.kept d.id.0 in omega arith) i;
            rise = rise_trans rs₀ rs raised h.rise rise;
            cause = λ i. ⊎_elim
                (λ same. ⊎_elim (λ before. inl (same ∙ before)) (λ q. inr (q.0, q.1, q.2, same ∙ q.3)) (h.cause i))
                (λ q. inr (e, q.0, legal_of g m s e path, q.1))
                (visited_cause v e rs i);
          }

  -- ---- at the end

  module _ (rs : List Identifier) (seen : List Seen) (h : Going rs seen []) where
    met : (f : Entry) → node_exists g f ≡ true → Held h.done [] f → Met covers h.done f
    met f t held = ⊎_elim (λ old. old) (λ p. absurd p.1) (held t)

    reached : (e : Entry) → Path (node_exists g) (next g m) s e → Met covers h.done e
    reached e (begin t) = met s t h.start
    reached e (more {e = d} p i t) =
        let by = reached d p in
        let onto = (graph_laws g m).mono by.0 d e by.2 i in
        let last = met onto.0 ((graph_laws g m).alike onto.0 e onto.2 ∙ t) (h.led by.0 onto.0 by.1 onto.1) in
        (last.0, last.1, (graph_laws g m).trans last.0 onto.0 e last.2 onto.2)

    pub going_covered : Covered g m s (Some v) rs
    going_covered e l =
        let by = reached e (path_of g m s e l) in
        let same : by.0.id.0 ≡ e.id.0 = (opened by.0 e by.2).id in
        subst (λ i. v.0 ≤ end_at rs i) same (h.ended by.0 by.1)

    pub going_swept : Swept g m v.0 rs seen
    going_swept = record {
      done = h.done;
      size = h.sees.size;
      says = λ e i at. sees_slot g seen h.done h.sees e i at;
      closed = λ d f i j t. met f t (h.led d f i j);
      ended = h.ended;
    }

  -- ---- after a search

  module _ (links : List StoredLink) (k : Entries StoredNode) (is : nodes_of links k ≡ g) where
    slots_are : (e : Entry) (seen : List Seen) → claimed (slot_of g e.id) seen e ≡ claimed (slot_of k e.id) seen e
    slots_are e seen = ap (λ z. claimed (slot_of z e.id) seen e) (sym is)
        ∙ ap (λ o. claimed o seen e) (slot_of_nodes links k e.id)

    skips : (rs : List Identifier) (seen : List Seen) (old rest : List Entry) → AllOld k seen old
        → Going rs seen (rest ++ old) → Going rs seen rest
    skips rs seen [] rest olds h = subst (Going rs seen) (append-nil rest) h
    skips rs seen (e ∷ old) rest olds h =
        let before = skips rs seen old (rest ++ e ∷ []) olds.1
        (subst (Going rs seen) (sym (append_assoc rest (e ∷ []) old)) h) in
        going_skips rs seen rest e before (slots_are e seen ∙ olds.0)

    pub searched : (rs : List Identifier) (seen : List Seen) (entries left : List Entry) (next : Option Found)
        (steps counted : ℕ)
        → Going rs seen entries → Searched k seen entries left steps counted next → Going rs seen (coming left next)
        × Comes k seen left next
    searched rs seen entries left None steps counted h q =
        (subst (Going rs seen) (sym q.0) (skips rs seen entries [] q.1 h), q.0)
    searched rs seen entries left (Some f) steps counted h q = (
      skips rs seen q.0 (left ++ f.entry ∷ []) q.2
          (subst (Going rs seen) (q.1 ∙ sym (append_assoc left (f.entry ∷ []) q.0)) h),
      q.4,
    )

    pub next_claim : (seen : List Seen) (left : List Entry) (next : Option Found) (f : Found) → next ≡ Some f
        → Comes k seen left next → claimed (slot_of g f.entry.id) seen f.entry ≡ Some f.slot
    next_claim seen left next f at h = slots_are f.entry seen ∙ subst (Comes k seen left) at h

-- ---- the links that an entry follows

found_stored : (g : Entries StoredNode) (id : IdentifierId) (i : ℕ) (n : StoredNode) → FoundAt g id i n → stored_at g i
    ≡ Some n
found_stored [] id i n h = absurd h
found_stored (p ∷ g) id zero n h = ap Some h.1
found_stored (p ∷ g) id (suc i) n h = found_stored g id i n h.1

pub waiting_followed : (links : List StoredLink) (k : Entries StoredNode) (m slot : ℕ) (e : Entry)
    (old new : List Pending)
    → slot_of k e.id ≡ Some slot → new ≡ old ++ followed_in slot e (stored_at k slot)
    → waiting links k m new ≡ waiting links k m old ++ next (nodes_of links k) m e
waiting_followed links k m slot e old new at put =
    let f = slot_some k e.id slot at in
    let there : stored_at k slot ≡ Some f.0 = found_stored k e.id slot f.0 f.1 in
    let leads : next (nodes_of links k) m e ≡ led_to m e (node_of links f.0) =
    ap (led_from m e) (node_at_of links k e.id
    ∙ ap (option_map (node_of links)) (found_node k e.id slot f.0 f.1)) in
    ap (waiting links k m) (put ∙ ap (λ o. old ++ followed_in slot e o) there)
    ∙ waiting_append links k m old (followed slot e f.0)
    ∙ ap (λ z. waiting links k m old ++ z) (followed_led links k m slot f.0 there e ∙ sym leads)

-- ---- the loop of the code

module _ (links : List StoredLink) (k : Entries StoredNode) (w : RangeWalk) (rs₀ : List Identifier) where
  abbrev graph : Nodes
  graph = nodes_of links k

  abbrev left : List Pending → List Entry
  left items = waiting links k w.index items

  abbrev pub AllGoing : List Identifier → List Seen → List Entry → Type 0
  AllGoing rs seen stack = Going graph w.index (range_entry w) w.end rs₀ rs seen stack

  abbrev pub Raising : List Identifier → List Seen → List Pending → Option Found → Type 0
  Raising rs seen items next = AllGoing rs seen (coming (left items) next) × Comes k seen (left items) next

  pub raising_begins : (start : Entry) (seen : List Seen) (items : List Pending) (next : Option Found)
      (steps counted : ℕ)
      → start ≡ range_entry w → items ≡ [] → Swept graph w.index w.end.0 rs₀ seen
      → Searched k seen (start ∷ []) [] steps counted next → Raising rs₀ seen items next
  raising_begins start seen items next steps counted is empty table q =
      let first = going_begins graph w.index (range_entry w) w.end rs₀ seen table in
      let q₁ : Searched k seen (range_entry w ∷ []) [] steps counted next =
      subst (λ z. Searched k seen (z ∷ []) [] steps counted next) is q in
      subst (λ z. Raising rs₀ seen z next) (sym empty)
      (searched graph w.index (range_entry w) w.end rs₀ links k refl rs₀ seen (range_entry w ∷ []) [] next steps counted
      first q₁)

  module _ (rs : List Identifier) (seen : List Seen) (items : List Pending) (next : Option Found)
      (h : Raising rs seen items next) where
    pub raising_size : length seen ≡ length k
    raising_size = h.0.sees.size ∙ length_of_nodes links k

    -- the next entry
    module _ (f : Found) (is : next ≡ Some f) (within : Within (length rs₀) graph) where
      claim : claimed (slot_of graph f.entry.id) seen f.entry ≡ Some f.slot
      claim = next_claim graph w.index (range_entry w) w.end rs₀ links k refl seen (left items) next f is h.1

      going : AllGoing rs seen (left items ++ f.entry ∷ [])
      going = subst (λ z. AllGoing rs seen (coming (left items) z)) is h.0

      abbrev IdWithin : Type 0
      IdWithin = has_node graph f.entry.id ≡ true → f.entry.id.0 < length rs₀

      id_within : IdWithin
      id_within t = within f.entry.id t

      pub raising_below : f.slot < length seen
      raising_below = new_below graph w.index (range_entry w) w.end rs₀ rs seen (left items) f.entry going f.slot claim
          id_within

      pub raising_within : f.entry.id.0 < length rs
      raising_within = new_within graph w.index (range_entry w) w.end rs₀ rs seen (left items) f.entry going f.slot
          claim id_within

      not_seen : (b : Bool) (q p : ℕ) → cond b None (Some q) ≡ Some p → b ≡ false
      not_seen true q p e = cc
      not_seen false q p e = refl

      new_at : (o : Option ℕ) → claimed o seen f.entry ≡ Some f.slot
          → is_seen (slice_index_or seen f.slot nothing_seen) f.entry ≡ false
      new_at None c = cc
      new_at (Some q) c =
          let same : q ≡ f.slot = seen_slot (is_seen (slice_index_or seen q nothing_seen) f.entry) q f.slot c in
          subst (λ i. is_seen (slice_index_or seen i nothing_seen) f.entry ≡ false) same
          (not_seen (is_seen (slice_index_or seen q nothing_seen) f.entry) q f.slot c)

      module _ (new : List Seen) (notes : new
          ≡ slice_set seen f.slot (see f.entry (slice_index_or seen f.slot nothing_seen))) where
        pub raising_less : unseen new < unseen seen
        raising_less = subst (λ z. unseen z < unseen seen) (sym notes)
            (noted_less seen f.slot f.entry raising_below (new_at (slot_of graph f.entry.id) claim))

        pub raising_new_size : length new ≡ length k
        raising_new_size = ap length notes ∙ length-set seen f.slot
            (see f.entry (slice_index_or seen f.slot nothing_seen)) ∙ raising_size

        pub raising_goes_on : (raised : List Identifier) (put rest : List Pending) (then : Option Found)
            (steps counted : ℕ)
            → raised ≡ range_visited (Some w.end) f.entry.id rs → put ≡ items
            ++ followed_in f.slot f.entry (stored_at k f.slot)
            → Searched k new (left put) (left rest) steps counted then → Raising raised new rest then
        raising_goes_on raised put rest then steps counted ranges_are put_are q =
            let more = going_expands graph w.index (range_entry w) w.end rs₀ rs seen (left items) f.entry going f.slot
            claim id_within in
            let slot : slot_of k f.entry.id ≡ Some f.slot = sym (slot_of_nodes links k f.entry.id)
            ∙ claimed_slot (slot_of graph f.entry.id) seen f.entry f.slot claim in
            let follows : left put ≡ left items ++ next_of graph w.index f.entry =
            waiting_followed links k w.index f.slot f.entry items put slot put_are in
            let one : AllGoing raised (noted_at (Some f.slot) seen f.entry)
            (left items ++ next_of graph w.index f.entry) =
            subst (λ z. AllGoing z (noted_at (Some f.slot) seen f.entry)
            (left items ++ next_of graph w.index f.entry)) (sym ranges_are) more in
            let two : AllGoing raised new (left items ++ next_of graph w.index f.entry) =
            subst (λ z. AllGoing raised z (left items ++ next_of graph w.index f.entry)) (sym notes) one in
            let three : AllGoing raised new (left put) = subst (AllGoing raised new) (sym follows) two in
            searched graph w.index (range_entry w) w.end rs₀ links k refl raised new (left put) (left rest)
            then steps counted three q

    -- at the end
    module _ (is : next ≡ None) where
      ended : AllGoing rs seen []
      ended = subst (AllGoing rs seen) (none_left k seen (left items) next is h.1) h.0

      pub raising_swept : Swept graph w.index w.end.0 rs seen
      raising_swept = going_swept graph w.index (range_entry w) w.end rs₀ rs seen ended

      pub raising_covered : Covered graph w.index (range_entry w) (Some w.end) rs
      raising_covered = going_covered graph w.index (range_entry w) w.end rs₀ rs seen ended

    pub raising_cause : (i : ℕ) → (end_at rs i ≡ end_at rs₀ i) ⊎ RaiseCause graph (w ∷ []) i (end_at rs i)
    raising_cause i = ⊎_elim (λ same. inl same) (λ c. inr (w, inl refl, c.0, c.1, c.2, c.3)) (h.0.cause i)

    pub raising_rise : EndsRise rs₀ rs
    raising_rise = h.0.rise

-- ---- several walks

-- one walk, and then the others
pub raised_more : (g : Nodes) (w : RangeWalk) (ws : List RangeWalk) (a b c : List Identifier)
    → EndsRise a b → Covered g w.index (range_entry w) (Some w.end) b
    → ((i : ℕ) → (end_at b i ≡ end_at a i) ⊎ RaiseCause g (w ∷ []) i (end_at b i)) → Raised g ws b c
    → Raised g (w ∷ ws) a c
raised_more g w ws a b c rise covered cause later = record {
  rise = rise_trans a b c rise later.rise;
  covered = λ x i. ⊎_elim
      (λ (same : x ≡ w). subst (λ (z : RangeWalk). Covered g z.index (range_entry z) (Some z.end) c) (sym same)
      (λ e l. let low : w.end.0 ≤ end_at b e.id.0 = covered e l in let up = later.rise.kept e.id.0 in omega arith))
      (λ other. later.covered x other) i;
  cause = λ i. ⊎_elim
      (λ same. ⊎_elim
      (λ before. inl (same ∙ before))
      (λ q. inr (q.0, ⊎_elim (λ one. inl one) (λ none. absurd none) q.1, q.2, q.3, q.4, same ∙ q.5))
      (cause i))
      (λ q. inr (q.0, inr q.1, q.2, q.3, q.4, q.5))
      (later.cause i);
}

-- the walk at a position of the list, and then the others
pub raised_next : (g : Nodes) (ws : List RangeWalk) (i : ℕ) (d : RangeWalk) (a b c : List Identifier) → i < length ws
    → EndsRise a b → Covered g (slice_index_or ws i d).index (range_entry (slice_index_or ws i d))
    (Some (slice_index_or ws i d).end) b
    → ((j : ℕ) → (end_at b j ≡ end_at a j) ⊎ RaiseCause g (slice_index_or ws i d ∷ []) j (end_at b j))
    → Raised g (drop (i + 1) ws) b c → Raised g (drop i ws) a c
raised_next g ws i d a b c lt rise covered cause later =
    subst (λ z. Raised g z a c) (sym (drop_more ws i d lt))
    (raised_more g (slice_index_or ws i d) (drop (i + 1) ws) a b c rise covered cause later)
