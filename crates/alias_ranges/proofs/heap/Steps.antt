-- Each step of a listing lets the graph grow, and takes positions that are new.
use Rattle.std.proofs.Common.{◌≡◌, ℕ, ◌+◌, ◌<◌, ◌≤◌, true, false, ◌||◌, List, [], ◌∷◌, ◌++◌, Option, Some, None}
use Rattle.std.proofs.Common.{slice_get, slice_set, refl, ap, sym, ◌∙◌, subst, arith, le_refl, le_trans, append_assoc}
use Rattle.std.proofs.Common.{append-nil}
use Rattle.std.specs.Prelude.{Result, Ok}
use Rattle.std.specs.Option.{option_map_or}
use Rattle.std.proofs.lemmas.List.Sums.{fold_push}
use Rattle.alias_base.specs.Answer.{◌>>=◌}
use Rattle.alias_base.specs.declared.ids.IdentifierId.{IdentifierId}
use Rattle.alias_hir.specs.declared.error.HirError.{HirError}
use Rattle.alias_graph.specs.declared.events.GraphEvent.{GraphEvent}
use Rattle.alias_graph.specs.declared.events.GraphEvent.TheVariants as event
use Rattle.alias_graph.specs.declared.types.EdgeKind.TheVariants.{Capture, Alias, MaybeAlias}
use Rattle.alias_graph.specs.declared.types.NodeValue.{NodeValue}
use Rattle.alias_graph.specs.Events.{event_of, events_of}
use Rattle.alias_graph.specs.Graph.{after, graph_of}
use Rattle.alias_graph.specs.Nodes.{has_node, same_id}
use Rattle.alias_graph.proofs.Within.{created_more}
use Rattle.alias_graph.specs.recorded.BlockListings.{pending_at, pending_more}
use Rattle.alias_graph.specs.declared.recorded.listing.Listing.{Listing}
use Rattle.alias_graph.specs.recorded.Fitting.{AllOf}
use Rattle.alias_graph.proofs.FitLaws.{all_at, all_set, all_push, next_is, went_on}
use Rattle.alias_graph.specs.recorded.Listings.{position_after}
use Rattle.alias_graph.specs.recorded.Recording.{graph_listed}
use Rattle.alias_ranges.specs.heap.Making.{is_among}
use Rattle.alias_ranges.proofs.heap.Linking.{LinkKind, AliasLink, CreatedLink, edge_kind, Grows, grows_same, grows_on}
use Rattle.alias_ranges.proofs.heap.Linking.{Joins}
use Rattle.alias_ranges.proofs.heap.Growing.{SourcesBefore, before_later, IsPlain, made_grows, made_before}
use Rattle.alias_ranges.proofs.heap.Growing.{joined_grows, joined_before, joined_same, joined_joins, out_grows}
use Rattle.alias_ranges.proofs.heap.Growing.{out_before, out_more, out_joins}

-- ---- the graph of one event more

events_push : (es : List GraphEvent) (e : GraphEvent) → events_of (es ++ e ∷ []) ≡ events_of es ++ event_of e ∷ []
events_push [] e = refl
events_push (x ∷ es) e = ap (λ z. event_of x ∷ z) (events_push es e)

pub graph_push : (es : List GraphEvent) (e : GraphEvent) → graph_of (events_of (es ++ e ∷ []))
    ≡ after (graph_of (events_of es)) (event_of e)
graph_push es e = ap graph_of (events_push es e) ∙ fold_push after [] (events_of es) (event_of e)

-- ---- what is kept

-- the event is an alias of a phi's operand, at a position before n
abbrev pub WaitsBefore : ℕ → GraphEvent → Type 0
WaitsBefore n (event.Make id value) = ⊥
WaitsBefore n (event.CreateFrom index a x) = ⊥
WaitsBefore n (event.Link Capture index a x) = ⊥
WaitsBefore n (event.Link Alias index a x) = index < n
WaitsBefore n (event.Link MaybeAlias index a x) = ⊥

abbrev pub AllWait : ℕ → List (List GraphEvent) → Type 0
AllWait n pending = AllOf (AllOf (WaitsBefore n)) pending

-- `done` are the places that have nodes, and every position was taken before the next one
pub record Keeping (done : List IdentifierId) (l : Listing) : Type 0 where
  pub agree : (x : IdentifierId) → has_node (graph_listed l) x ≡ is_among done x
  pub sources : SourcesBefore l.next (graph_listed l)
  pub waits : AllWait l.next l.pending

-- the second list has more at its end
abbrev pub HasMore : {A : Type 0} → List A → List A → Type 0
HasMore {A} xs ys = (zs : List A) × (ys ≡ xs ++ zs)

pub more_same : {A : Type 0} (xs : List A) → HasMore xs xs
more_same xs = ([], sym (append-nil xs))

pub more_more : {A : Type 0} (xs ys zs : List A) → HasMore xs ys → HasMore ys zs → HasMore xs zs
more_more xs ys zs (us, e) (vs, f) = (us ++ vs, f ∙ (ap (λ l. l ++ vs) e ∙ append_assoc xs us vs))

pub record Step (done : List IdentifierId) (l m : Listing) : Type 0 where
  pub grows : Grows (graph_listed l) (graph_listed m)
  pub later : l.next ≤ m.next
  pub mutations : HasMore l.mutations m.mutations
  pub keeping : Keeping done m

pub step_none : (done : List IdentifierId) (l : Listing) → Keeping done l → Step done l l
step_none done l k = record {
  grows = grows_same (graph_listed l);
  later = le_refl l.next;
  mutations = more_same l.mutations;
  keeping = k;
}

pub step_on : (done more : List IdentifierId) (l m n : Listing) → Step done l m → Step more m n → Step more l n
step_on done more l m n s t = record {
  grows = grows_on (graph_listed l) (graph_listed m) (graph_listed n) s.grows t.grows;
  later = le_trans s.later t.later;
  mutations = more_more l.mutations m.mutations n.mutations s.mutations t.mutations;
  keeping = t.keeping;
}

waits_later : (n m : ℕ) (e : GraphEvent) → n ≤ m → WaitsBefore n e → WaitsBefore m e
waits_later n m (event.Make id value) le w = w
waits_later n m (event.CreateFrom index a x) le w = w
waits_later n m (event.Link Capture index a x) le w = w
waits_later n m (event.Link Alias index a x) le w = omega arith
waits_later n m (event.Link MaybeAlias index a x) le w = w

each_later : (n m : ℕ) (es : List GraphEvent) → n ≤ m → AllOf (WaitsBefore n) es → AllOf (WaitsBefore m) es
each_later n m [] le w = tt
each_later n m (e ∷ es) le w = (waits_later n m e le w.0, each_later n m es le w.1)

pub all_later : (n m : ℕ) (pending : List (List GraphEvent)) → n ≤ m → AllWait n pending → AllWait m pending
all_later n m [] le w = tt
all_later n m (es ∷ pending) le w = (each_later n m es le w.0, all_later n m pending le w.1)

-- ---- steps

-- with an event more, and a later next position
abbrev pub with_more : ℕ → GraphEvent → Listing → Listing
with_more next e l = record l { next = next; events = l.events ++ e ∷ [] }

among_new : (done : List IdentifierId) (l : Listing) (x : IdentifierId) → Keeping done l → is_among done x ≡ false
    → has_node (graph_listed l) x ≡ false
among_new done l x k new = k.agree x ∙ new

module _ (done : List IdentifierId) (l : Listing) (k : Keeping done l) where
  pub step_make : (x : IdentifierId) (value : NodeValue) → is_among done x ≡ false
      → Step (x ∷ done) l (with_more l.next (event.Make x value) l)
  step_make x value new =
      let is = sym (graph_push l.events (event.Make x value)) in
      record {
        grows = subst (Grows (graph_listed l)) is (made_grows (graph_listed l) x value (among_new done l x k new));
        later = le_refl l.next;
        mutations = more_same l.mutations;
        keeping = record {
          agree = λ q. ap (λ z. has_node z q) (sym is) ∙ created_more (graph_listed l) x value q
              ∙ ap (λ b. same_id q x || b) (k.agree q);
          sources = subst (SourcesBefore l.next) is (made_before (graph_listed l) x value l.next k.sources);
          waits = k.waits;
        };
      }

  pub step_out : (a x : IdentifierId) → is_among done x ≡ false
      → Step (x ∷ done) l (with_more (l.next + 1) (event.CreateFrom l.next a x) l)
  step_out a x new =
      let is = sym (graph_push l.events (event.CreateFrom l.next a x)) in
      record {
        grows = subst (Grows (graph_listed l)) is (out_grows (graph_listed l) l.next a x (among_new done l x k new));
        later = omega arith;
        mutations = more_same l.mutations;
        keeping = record {
          agree = λ q. ap (λ z. has_node z q) (sym is) ∙ out_more (graph_listed l) l.next a x q
              ∙ ap (λ b. same_id q x || b) (k.agree q);
          sources = subst (SourcesBefore (l.next + 1)) is
              (out_before (graph_listed l) l.next a x (l.next + 1) (omega arith)
              (before_later l.next (l.next + 1) (graph_listed l) (omega arith) k.sources));
          waits = all_later l.next (l.next + 1) l.pending (omega arith) k.waits;
        };
      }

  pub step_join : (kind : LinkKind) → IsPlain kind → (p next : ℕ) (a x : IdentifierId) → p < next → l.next ≤ next
      → Step done l (with_more next (event.Link (edge_kind kind) p a x) l)
  step_join kind plain p next a x lt le =
      let is = sym (graph_push l.events (event.Link (edge_kind kind) p a x)) in
      record {
        grows = subst (Grows (graph_listed l)) is (joined_grows kind plain (graph_listed l) p a x);
        later = le;
        mutations = more_same l.mutations;
        keeping = record {
          agree = λ q. ap (λ z. has_node z q) (sym is) ∙ joined_same kind plain (graph_listed l) p a x q ∙ k.agree q;
          sources = subst (SourcesBefore next) is
              (joined_before kind plain (graph_listed l) p a x next lt
              (before_later l.next next (graph_listed l) le k.sources));
          waits = all_later l.next next l.pending le k.waits;
        };
      }

  pub out_now : (a x : IdentifierId) → has_node (graph_listed (with_more (l.next + 1) (event.CreateFrom l.next a x) l))
      a ≡ true → Joins (graph_listed (with_more (l.next + 1) (event.CreateFrom l.next a x) l)) (l.next + 1) CreatedLink
      a x
  out_now a x ma =
      let is = sym (graph_push l.events (event.CreateFrom l.next a x)) in
      subst (λ z. Joins z (l.next + 1) CreatedLink a x) is
      (out_joins (graph_listed l) l.next a x (l.next + 1) (omega arith)
      (before_later l.next (l.next + 1) (graph_listed l) (omega arith) k.sources) (ap (λ z. has_node z a) is ∙ ma))

  -- the link that was just added stands in both lists, where both ends have nodes
  pub join_now : (kind : LinkKind) → IsPlain kind → (p next : ℕ) (a x : IdentifierId) → p < next → l.next ≤ next
      → has_node (graph_listed (with_more next (event.Link (edge_kind kind) p a x) l)) a ≡ true →
      has_node (graph_listed (with_more next (event.Link (edge_kind kind) p a x) l)) x ≡ true
      → Joins (graph_listed (with_more next (event.Link (edge_kind kind) p a x) l)) next kind a x
  join_now kind plain p next a x lt le ma mx =
      let is = sym (graph_push l.events (event.Link (edge_kind kind) p a x)) in
      let there = λ (q : IdentifierId). sym (joined_same kind plain (graph_listed l) p a x q)
      ∙ ap (λ z. has_node z q) is in
      subst (λ z. Joins z next kind a x) is (joined_joins kind plain (graph_listed l) p a x next lt
      (before_later l.next next (graph_listed l) le k.sources) (there a ∙ ma) (there x ∙ mx))

  -- a step that leaves events and what waits
  pub step_quiet : (m : Listing) → m.events ≡ l.events → m.pending ≡ l.pending → l.next ≤ m.next
      → HasMore l.mutations m.mutations → Step done l m
  step_quiet m es ps le ms = record {
    grows = subst (λ z. Grows (graph_listed l) (graph_of (events_of z))) (sym es) (grows_same (graph_listed l));
    later = le;
    mutations = ms;
    keeping = record {
      agree = λ q. ap (λ z. has_node (graph_of (events_of z)) q) es ∙ k.agree q;
      sources = subst (λ z. SourcesBefore m.next (graph_of (events_of z))) (sym es)
          (before_later l.next m.next (graph_listed l) le k.sources);
      waits = subst (AllWait m.next) (sym ps) (all_later l.next m.next l.pending le k.waits);
    };
  }

-- ---- operands that wait

pending_push : (n : ℕ) (pending : List (List GraphEvent)) (p : ℕ) (e : GraphEvent) (o : Option (List GraphEvent))
    → AllWait n pending → WaitsBefore n e → slice_get pending p ≡ o
    → AllWait n (option_map_or (λ es. slice_set pending p (es ++ e ∷ [])) o pending)
pending_push n pending p e None w we is = w
pending_push n pending p e (Some es) w we is =
    all_set (AllOf (WaitsBefore n)) pending p (es ++ e ∷ []) w
    (all_push (WaitsBefore n) es e (all_at (AllOf (WaitsBefore n)) pending p es w is) we)

pub step_wait : (done : List IdentifierId) (l : Listing) → Keeping done l → (p : ℕ) (a x : IdentifierId)
    → Step done l (record l { next = l.next + 1; pending = pending_more l.pending p (event.Link Alias l.next a x) })
step_wait done l k p a x = record {
  grows = grows_same (graph_listed l);
  later = omega arith;
  mutations = more_same l.mutations;
  keeping = record {
    agree = k.agree;
    sources = before_later l.next (l.next + 1) (graph_listed l) (omega arith) k.sources;
    waits = pending_push (l.next + 1) l.pending p (event.Link Alias l.next a x) (slice_get l.pending p)
        (all_later l.next (l.next + 1) l.pending (omega arith) k.waits) (omega arith) refl;
  };
}

abbrev with_all : List GraphEvent → Listing → Listing
with_all es l = record l { events = l.events ++ es }

step_waited : (done : List IdentifierId) (e : GraphEvent) (l : Listing) → Keeping done l → WaitsBefore l.next e
    → Step done l (with_more l.next e l)
step_waited done (event.Make id value) l k w = absurd w
step_waited done (event.CreateFrom index a x) l k w = absurd w
step_waited done (event.Link Capture index a x) l k w = absurd w
step_waited done (event.Link Alias index a x) l k w =
    step_join done l k AliasLink tt index l.next a x w (le_refl l.next)
step_waited done (event.Link MaybeAlias index a x) l k w = absurd w

step_all : (done : List IdentifierId) (es : List GraphEvent) (l : Listing) → Keeping done l
    → AllOf (WaitsBefore l.next) es → Step done l (with_all es l)
step_all done [] l k w = let P : List GraphEvent → Type 0 = λ z. Step done l (record l { events = z }) in
    subst P (sym (append-nil l.events)) (step_none done l k)
step_all done (e ∷ es) l k w =
    let s = step_waited done e l k w.0 in
    let t = step_on done done l (with_more l.next e l) (with_all es (with_more l.next e l)) s
    (step_all done es (with_more l.next e l) s.keeping w.1) in
    let P : List GraphEvent → Type 0 = λ z. Step done l (record l { events = z }) in
    subst P (append_assoc l.events (e ∷ []) es) t

waiting : (n : ℕ) (pending : List (List GraphEvent)) (k : ℕ) (o : Option (List GraphEvent)) → AllWait n pending
    → slice_get pending k ≡ o → AllOf (WaitsBefore n) (option_map_or (λ es. es) o [])
waiting n pending k None w is = tt
waiting n pending k (Some es) w is = all_at (AllOf (WaitsBefore n)) pending k es w is

-- what waited for the end of a block is added there
pub step_pending : (done : List IdentifierId) (l : Listing) → Keeping done l → (k : ℕ)
    → Step done l (record l { events = l.events ++ pending_at l.pending k })
step_pending done l kp k = step_all done (pending_at l.pending k) l kp
    (waiting l.next l.pending k (slice_get l.pending k) kp.waits refl)

-- ---- answers

pub okay_is : (l m : Listing) → (let r : Result Listing HirError = Ok l in r ≡ Ok m) → l ≡ m
okay_is l m h = cc

-- a listing that a position is taken for
pub next_listing : (l m : Listing) (more : ℕ → Listing)
    → (position_after l.next >>= (λ after. let r : Result Listing HirError = Ok (more after) in r)) ≡ Ok m
    → more (l.next + 1) ≡ m
next_listing l m more h =
    let w = went_on (position_after l.next) (λ after. let r : Result Listing HirError = Ok (more after) in r) m h in
    ap more (sym (next_is l.next w.0 w.1)) ∙ okay_is (more w.0) m w.2
