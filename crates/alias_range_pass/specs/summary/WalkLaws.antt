-- What the walks of a function's mutations leave, by the legal paths of the graph that was listed.
use Rattle.std.proofs.Common.{◌≡◌, ℕ, ◌+◌, ◌≤◌, ◌<◌, ◌⊎◌, max, inl, inr, ⊎_elim, Bool, true, false, List, [], ◌∷◌}
use Rattle.std.proofs.Common.{Option, Some, None, option_map, length, refl, ap, sym, ◌∙◌, subst, arith}
use Rattle.std.proofs.lemmas.Bool.{cases_eq}
use Rattle.alias_base.specs.declared.ids.IdentifierId.{IdentifierId}
use Rattle.alias_hir.specs.declared.env.Environment.{Environment}
use Rattle.alias_hir.specs.declared.env.Identifier.{Identifier}
use Rattle.alias_graph.specs.declared.types.Entry.{Entry}
use Rattle.alias_graph.specs.declared.types.MutationKind.TheVariants.{Definite}
use Rattle.alias_graph.specs.declared.types.Origin.{Origin}
use Rattle.alias_graph.specs.Events.{events_of}
use Rattle.alias_graph.specs.Graph.{Event, changed, graph_of}
use Rattle.alias_graph.specs.Legal.{Legal}
use Rattle.alias_graph.specs.NodeMarks.{later, visited, info, marked}
use Rattle.alias_graph.specs.Nodes.{Node, Nodes, node_at, Within}
use Rattle.alias_graph.specs.Reach.{end_of, end_at, AllMutatedBefore, SeenDefinite}
use Rattle.alias_graph.specs.RemainingLinks.{was_made, when, remaining_node}
use Rattle.alias_graph.proofs.Effects.{ranges_length, ranges_up, changed_here, changed_apart, walk_covered, walk_caused}
use Rattle.alias_graph.proofs.Effects.{walk_marks, EitherDefinite, stored_one, marks_stay}
use Rattle.alias_graph.proofs.Reaching.{id_is}
use Rattle.alias_graph.proofs.RemainingNodes.{graph_is_remaining}
use Rattle.alias_graph.proofs.Within.{marked_same}
use Rattle.alias_graph.specs.declared.recorded.listing.Listing.{Listing}
use Rattle.alias_graph.specs.declared.recorded.listing.RecordedMutation.{RecordedMutation}
use Rattle.alias_graph.specs.declared.recorded.listing.RecordedRender.{RecordedRender}
use Rattle.alias_graph.specs.recorded.Fitting.{AllOf, StandsBefore, ListingFits}
use Rattle.alias_graph.proofs.FitLaws.{graph_within}
use Rattle.alias_graph.specs.recorded.Recording.{graph_listed}
use Rattle.alias_range_pass.specs.summary.KeepingLaws.{within_kept}
use Rattle.alias_range_pass.specs.summary.Laws.{SameLinks, Covers, SeesDefinite, MutationCause, MutationCauses}
use Rattle.alias_range_pass.specs.summary.LegalLaws.{links_same, links_back, links_after, legal_same}
use Rattle.alias_range_pass.specs.summary.Walking.{start_origin, expanded, mutation_end, mutation_start, mutation_entry}
use Rattle.alias_range_pass.specs.summary.Walking.{Walked, after_mutation, after_mutations, after_render, after_renders}
use Rattle.alias_range_pass.specs.summary.Walking.{env_reported, mutations_done, renders_done}

-- ---- nodes and links

pub walks_links : (g : Nodes) (r : Bool) (ms : List RecordedMutation) (w : Walked) → SameLinks g w.0
    → SameLinks g (after_mutations r ms w).0
walks_links g r [] w same = same
walks_links g r (m ∷ ms) w same = walks_links g r ms (after_mutation r w m) (links_after g w.0 (mutation_start m) same)

within_after : (r : Bool) (m : RecordedMutation) (w : Walked) → Within (length w.1.identifiers) w.0
    → Within (length (after_mutation r w m).1.identifiers) (after_mutation r w m).0
within_after r m w p =
    let s = mutation_start m in
    let e : length (after_mutation r w m).1.identifiers ≡ length w.1.identifiers =
    ranges_length s.end w.1.identifiers (expanded w.0 s) in
    let P : ℕ → Type 0 = λ k. Within k (after_mutation r w m).0 in
    subst P (sym e) (within_kept (length w.1.identifiers) w.0 (after_mutation r w m).0
    (marked_same s.index (start_origin s) w.0 (expanded w.0 s)) p)

-- ---- cover

one_up : (r : Bool) (m : RecordedMutation) (w : Walked) (j : ℕ) → end_at w.1.identifiers j
    ≤ end_at (after_mutation r w m).1.identifiers j
one_up r m w j = ranges_up (mutation_start m).end w.1.identifiers (expanded w.0 (mutation_start m)) j

walks_up : (r : Bool) (ms : List RecordedMutation) (w : Walked) (j : ℕ) → end_at w.1.identifiers j
    ≤ end_at (after_mutations r ms w).1.identifiers j
walks_up r [] w j = omega arith
walks_up r (m ∷ ms) w j =
    let a = one_up r m w j in
    let b = walks_up r ms (after_mutation r w m) j in
    omega arith

one_covers : (g : Nodes) (r : Bool) (m : RecordedMutation) (w : Walked) → SameLinks g w.0
    → Within (length w.1.identifiers) w.0 → (e : Entry) → Legal g m.index (mutation_entry m) e → m.order.0 + 1
    ≤ end_at (after_mutation r w m).1.identifiers e.id.0
one_covers g r m w same p e l =
    let s = mutation_start m in
    walk_covered w.0 m.index (mutation_entry m) (start_origin s) s.end w.1.identifiers p e
    (legal_same g w.0 same m.index (mutation_entry m) e l)

pub walks_cover : (g : Nodes) (r : Bool) (ms : List RecordedMutation) (w : Walked) → SameLinks g w.0
    → Within (length w.1.identifiers) w.0 → Covers g ms (after_mutations r ms w).1.identifiers
walks_cover g r [] w same p m i e l = absurd i
walks_cover g r (x ∷ ms) w same p m (inl is) e l =
    let Q : RecordedMutation → Type 0 = λ z. m.order.0 + 1 ≤ end_at (after_mutation r w z).1.identifiers e.id.0 in
    let here : m.order.0 + 1 ≤ end_at (after_mutation r w x).1.identifiers e.id.0 =
    subst Q is (one_covers g r m w same p e l) in
    let up = walks_up r ms (after_mutation r w x) e.id.0 in
    omega arith
walks_cover g r (x ∷ ms) w same p m (inr i) e l =
    walks_cover g r ms (after_mutation r w x) (links_after g w.0 (mutation_start x) same) (within_after r x w p) m i e l

-- ---- definite

stays_definite : (m : ℕ) (origin : Origin) (g : Nodes) (done : List Entry) (q : IdentifierId) → SeenDefinite g q
    → SeenDefinite (marked m origin g done) q
stays_definite m origin g [] q s = s
stays_definite m origin g (d ∷ done) q s =
    stored_one m origin g EitherDefinite (λ e n h. marks_stay e.transitive (info e.kind origin.span) n h) done d q
    (stays_definite m origin g done q s)

walks_stay : (r : Bool) (ms : List RecordedMutation) (w : Walked) (q : IdentifierId) → SeenDefinite w.0 q
    → SeenDefinite (after_mutations r ms w).0 q
walks_stay r [] w q s = s
walks_stay r (m ∷ ms) w q s = walks_stay r ms (after_mutation r w m) q
    (stays_definite m.index (start_origin (mutation_start m)) w.0 (expanded w.0 (mutation_start m)) q s)

one_sees : (g : Nodes) (r : Bool) (m : RecordedMutation) (w : Walked) → SameLinks g w.0 → (e : Entry)
    → Legal g m.index (mutation_entry m) e → e.kind ≡ Definite → SeenDefinite (after_mutation r w m).0 e.id
one_sees g r m w same e l is = (walk_marks w.0 m.index (mutation_entry m) (start_origin (mutation_start m))).definite e
    (legal_same g w.0 same m.index (mutation_entry m) e l) is

pub walks_see : (g : Nodes) (r : Bool) (ms : List RecordedMutation) (w : Walked) → SameLinks g w.0
    → SeesDefinite g ms (after_mutations r ms w).0
walks_see g r [] w same m i e l is = absurd i
walks_see g r (x ∷ ms) w same m (inl at) e l is =
    let P : RecordedMutation → Type 0 = λ z. SeenDefinite (after_mutation r w z).0 e.id in
    walks_stay r ms (after_mutation r w x) e.id (subst P at (one_sees g r m w same e l is))
walks_see g r (x ∷ ms) w same m (inr i) e l is =
    walks_see g r ms (after_mutation r w x) (links_after g w.0 (mutation_start x) same) m i e l is

-- ---- causes

one_caused : (g : Nodes) (r : Bool) (m : RecordedMutation) (ms : List RecordedMutation) (w : Walked) → SameLinks g w.0
    → (k : ℕ)
    → (end_at (after_mutation r w m).1.identifiers k ≡ end_at w.1.identifiers k)
    ⊎ MutationCause g (m ∷ ms) k (end_at (after_mutation r w m).1.identifiers k)
one_caused g r m ms w same k =
    let s = mutation_start m in
    ⊎_elim
    (λ h. inl (ap end_of h))
    (λ h. let is : mutation_end m ≡ h.0 = cc in
    inr (
      m,
      inl refl,
      h.3,
      h.4,
      legal_same w.0 g (links_back g w.0 same) m.index (mutation_entry m) h.3 h.5,
      h.2 ∙ ap (λ z. z.0) (sym is),
    ))
    ((walk_caused w.0 m.index (mutation_entry m) (start_origin s) s.end w.1.identifiers).cause k)

pub walks_caused : (g : Nodes) (r : Bool) (ms : List RecordedMutation) (w : Walked) → SameLinks g w.0
    → MutationCauses g ms w.1.identifiers (after_mutations r ms w).1.identifiers
walks_caused g r [] w same k = inl refl
walks_caused g r (m ∷ ms) w same k =
    let P : ℕ → Type 0 = λ z. MutationCause g (m ∷ ms) k z in
    ⊎_elim
    (λ h. ⊎_elim (λ j. inl (h ∙ j)) (λ c. inr (subst P (sym h) c)) (one_caused g r m ms w same k))
    (λ c. inr (c.0, inr c.1, c.2, c.3, c.4, c.5))
    (walks_caused g r ms (after_mutation r w m) (links_after g w.0 (mutation_start m) same) k)

-- ---- last positions

was_mapped : (f : Node → Node) (o : Option Node) (n : Node) → option_map f o ≡ Some n → (w : Node) × (o ≡ Some w)
    × (f w ≡ n)
was_mapped f None n h = cc
was_mapped f (Some w) n h = (w, refl, cc)

later_before : (m b : ℕ) (o : Option ℕ) (k : ℕ) → m < b → ((j : ℕ) → o ≡ Some j → j < b) → later m o ≡ Some k → k < b
later_before m b None k lt h is = let e : m ≡ k = cc in omega arith
later_before m b (Some j) k lt h is = let e : max j m ≡ k = cc in let low = h j refl in omega arith

-- a walk at a position before b leaves all last positions before b
pub stay_before : (m b : ℕ) (origin : Origin) (g : Nodes) → m < b → AllMutatedBefore g b → (done : List Entry)
    → AllMutatedBefore (marked m origin g done) b
stay_before m b origin g lt before [] q n k at is = before q n k at is
stay_before m b origin g lt before (e ∷ done) q n k at is = ⊎_elim
    (λ same.
    let w = was_mapped (visited m origin e) (node_at (marked m origin g done) q) n
    (sym (changed_here (marked m origin g done) q (visited m origin e))
    ∙ ap (λ z. node_at (changed (marked m origin g done) z (visited m origin e)) q) (sym (id_is e.id q same))
    ∙ at) in
    later_before m b w.0.last_mutated k lt (λ j h. stay_before m b origin g lt before done q w.0 j w.1 h)
    (ap (λ (z : Node). z.last_mutated) w.2 ∙ is))
    (λ other. stay_before m b origin g lt before done q n k
    (sym (changed_apart (marked m origin g done) e.id q (visited m origin e) other) ∙ at) is)
    (cases_eq e.id.0 q.0)

none_yet : (b : Bool) (x n : Node) (k : ℕ) → x.last_mutated ≡ None → when b x ≡ Some n → n.last_mutated ≡ Some k → ⊥
none_yet true x n k none at is = let e : x ≡ n = cc in let f : x.last_mutated ≡ n.last_mutated =
    ap (λ (z : Node). z.last_mutated) e in cc
none_yet false x n k none at is = cc

-- the graph that was listed has no last position
pub graph_before : (events : List Event) (b : ℕ) → AllMutatedBefore (graph_of events) b
graph_before events b q n k at is = absurd
    (none_yet (was_made q events) (remaining_node events q) n k refl (sym (graph_is_remaining events q) ∙ at) is)

pub walks_before : (b : ℕ) (r : Bool) (ms : List RecordedMutation) (w : Walked) → AllOf (StandsBefore b) ms
    → AllMutatedBefore w.0 b → AllMutatedBefore (after_mutations r ms w).0 b
walks_before b r [] w p before = before
walks_before b r (m ∷ ms) w p before = walks_before b r ms (after_mutation r w m) p.1
    (stay_before m.index b (start_origin (mutation_start m)) w.0 p.0 before (expanded w.0 (mutation_start m)))

-- ---- renders

renders_same : (g : Nodes) (rs : List RecordedRender) (env : Environment) → (after_renders g rs env).identifiers
    ≡ env.identifiers
renders_same g [] env = refl
renders_same g (r ∷ rs) env = renders_same g rs (after_render g env r)

-- renders change no range
pub done_same : (r : Bool) (l : Listing) (w : Walked) → (renders_done r l w).identifiers ≡ w.1.identifiers
done_same true l w = renders_same w.0 l.renders w.1
done_same false l w = refl

-- ---- a listing

module _ (r : Bool) (l : Listing) (env : Environment) where
  abbrev begun : Walked
  begun = (graph_listed l, env_reported r l env)

  -- the graph after the walks has the links that were listed
  pub done_links : SameLinks (graph_listed l) (mutations_done r l env).0
  done_links = walks_links (graph_listed l) r l.mutations begun (links_same (graph_listed l))

  -- all its last positions are before those of flows
  pub done_before : AllOf (StandsBefore l.next) l.mutations → AllMutatedBefore (mutations_done r l env).0 l.next
  done_before stand = walks_before l.next r l.mutations begun stand (graph_before (events_of l.events) l.next)

  pub listing_covers : (g : Nodes) (new : Environment) → ListingFits (length env.identifiers) l → g ≡ graph_listed l
      → new ≡ renders_done r l (mutations_done r l env) → Covers g l.mutations new.identifiers
  listing_covers g new fits is_g is_new =
      let within : Within (length env.identifiers) (graph_listed l) =
      graph_within (length env.identifiers) l.events fits.events in
      let e : new.identifiers ≡ (mutations_done r l env).1.identifiers = ap (λ (z : Environment). z.identifiers) is_new
      ∙ done_same r l (mutations_done r l env) in
      let P : Nodes → Type 0 = λ z. Covers z l.mutations (mutations_done r l env).1.identifiers in
      let Q : List Identifier → Type 0 = λ z. Covers g l.mutations z in
      subst Q (sym e) (subst P (sym is_g) (walks_cover (graph_listed l) r l.mutations begun
      (links_same (graph_listed l)) within))

  pub listing_sees : (g h : Nodes) → g ≡ graph_listed l → h ≡ (mutations_done r l env).0 → SeesDefinite g l.mutations h
  listing_sees g h is_g is_h =
      let P : Nodes → Type 0 = λ z. SeesDefinite z l.mutations (mutations_done r l env).0 in
      let Q : Nodes → Type 0 = λ z. SeesDefinite g l.mutations z in
      subst Q (sym is_h) (subst P (sym is_g)
      (walks_see (graph_listed l) r l.mutations begun (links_same (graph_listed l))))

  pub listing_causes : (g : Nodes) (new : Environment) → g ≡ graph_listed l → new
      ≡ renders_done r l (mutations_done r l env) → MutationCauses g l.mutations env.identifiers new.identifiers
  listing_causes g new is_g is_new =
      let e : new.identifiers ≡ (mutations_done r l env).1.identifiers = ap (λ (z : Environment). z.identifiers) is_new
      ∙ done_same r l (mutations_done r l env) in
      let P : Nodes → Type 0 = λ z. MutationCauses z l.mutations env.identifiers
      (mutations_done r l env).1.identifiers in
      let Q : List Identifier → Type 0 = λ z. MutationCauses g l.mutations env.identifiers z in
      subst Q (sym e) (subst P (sym is_g) (walks_caused (graph_listed l) r l.mutations begun
      (links_same (graph_listed l))))
