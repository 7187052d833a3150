-- What a walk leaves, by the legal paths.
use Rattle.std.proofs.Common.{◌≡◌, ℕ, ◌+◌, ◌*◌, ◌<◌, ◌≤◌, ◌⊎◌, max, inl, inr, ⊎_elim, Bool, true, false, cond, IsTrue}
use Rattle.std.proofs.Common.{List, [], ◌∷◌, Option, Some, None, is_some, length, option_map, slice_get, slice_set}
use Rattle.std.proofs.Common.{refl, ap, sym, ◌∙◌, subst, arith, suc, zero}
use Rattle.std.proofs.lemmas.Bool.{cases_eq}
use Rattle.std.specs.Option.{option_map_or}
use Rattle.alias_base.specs.declared.ids.IdentifierId.{IdentifierId}
use Rattle.alias_base.specs.declared.ids.EvaluationOrder.{EvaluationOrder}
use Rattle.alias_graph.specs.declared.types.MutationKind.{MutationKind}
use Rattle.alias_graph.specs.declared.types.MutationKind.TheVariants.{Conditional, Definite}
use Rattle.alias_graph.specs.declared.types.MutationInfo.{MutationInfo}
use Rattle.alias_graph.specs.declared.types.Origin.{Origin}
use Rattle.alias_graph.specs.declared.types.Entry.{Entry}
use Rattle.alias_graph.specs.Nodes.{Node}
use Rattle.alias_hir.specs.declared.env.Identifier.{Identifier}
use Rattle.alias_graph.specs.Nodes.{Nodes, node_at, has_node, same_id}
use Rattle.alias_graph.specs.Graph.{changed}
use Rattle.alias_graph.specs.Walks.{IsOneOf}
use Rattle.alias_graph.specs.Links.{covers, node_exists, next, walk, all_links, is_definite, at_least}
use Rattle.alias_graph.specs.Legal.{Legal}
use Rattle.alias_graph.specs.NodeMarks.{later, higher, remarked, info, marked_by, visited, marked, raised, raised_at}
use Rattle.alias_graph.specs.NodeMarks.{range_visited, ranges_after}
use Rattle.alias_graph.specs.Reach.{end_of, end_at, but_end, Visits, AtLeast, Covered, Caused, IsDefiniteMark}
use Rattle.alias_graph.specs.Reach.{SeenDefinite, MutatedAt, Reached, Marks}
use Rattle.alias_graph.proofs.Covering.{eqb_is, opened}
use Rattle.alias_graph.proofs.Visits.{Met, run_new}
use Rattle.alias_graph.proofs.Size.{eight_times}
use Rattle.alias_graph.proofs.Reaching.{walk_reaches, walk_stays, legal_exists, id_is}
use Rattle.alias_graph.proofs.Shapes.{shape, marked_shape}
use Rattle.alias_graph.proofs.Ending.{walk_empties}

-- ranges
abbrev lift_at : List Identifier → ℕ → EvaluationOrder → List Identifier
lift_at [] i v = []
lift_at (r ∷ rs) zero v = raised v r ∷ rs
lift_at (r ∷ rs) (suc i) v = r ∷ lift_at rs i v

push_in : (o : Option Identifier) (r : Identifier) (rs : List Identifier) (i : ℕ) (v : EvaluationOrder)
    → option_map_or (λ x. r ∷ slice_set rs i (raised v x)) o (r ∷ rs) ≡ r
    ∷ option_map_or (λ x. slice_set rs i (raised v x)) o rs
push_in None r rs i v = refl
push_in (Some x) r rs i v = refl

lifts : (rs : List Identifier) (i : ℕ) (v : EvaluationOrder) → raised_at rs i v ≡ lift_at rs i v
lifts [] i v = refl
lifts (r ∷ rs) zero v = refl
lifts (r ∷ rs) (suc i) v = push_in (slice_get rs i) r rs i v ∙ ap (λ z. r ∷ z) (lifts rs i v)

lift_length : (rs : List Identifier) (i : ℕ) (v : EvaluationOrder) → length (lift_at rs i v) ≡ length rs
lift_length [] i v = refl
lift_length (r ∷ rs) zero v = refl
lift_length (r ∷ rs) (suc i) v = ap suc (lift_length rs i v)

lift_up : (rs : List Identifier) (i : ℕ) (v : EvaluationOrder) (j : ℕ) → end_at rs j ≤ end_at (lift_at rs i v) j
lift_up [] i v j = omega arith
lift_up (r ∷ rs) zero v zero = omega arith
lift_up (r ∷ rs) zero v (suc j) = omega arith
lift_up (r ∷ rs) (suc i) v zero = omega arith
lift_up (r ∷ rs) (suc i) v (suc j) = lift_up rs i v j

lift_there : (rs : List Identifier) (i : ℕ) (v : EvaluationOrder) → i < length rs → v.0 ≤ end_at (lift_at rs i v) i
lift_there [] i v h = absurd (omega arith)
lift_there (r ∷ rs) zero v h = omega arith
lift_there (r ∷ rs) (suc i) v h = lift_there rs i v (omega arith)

either_max : (a v : ℕ) → (max a v ≡ a) ⊎ (max a v ≡ v)
either_max a v = ⊎_elim (λ (h : max a v ≡ a). inl h) (λ (h : max a v ≡ a → ⊥). inr (omega arith)) (cases_eq (max a v) a)

abbrev with_end : Identifier → ℕ → Identifier
with_end r n = record r { mutable_range = record r.mutable_range { end = record { 0 = n } } }

-- an identifier that changes has the given end
lift_cause : (rs : List Identifier) (i : ℕ) (v : EvaluationOrder) (j : ℕ)
    → (slice_get (lift_at rs i v) j ≡ slice_get rs j) ⊎ ((i ≡ j) × (end_at (lift_at rs i v) j ≡ v.0))
lift_cause [] i v j = inl refl
lift_cause (r ∷ rs) zero v zero = ⊎_elim (λ h. inl (ap (λ n. Some (with_end r n)) h)) (λ h. inr (refl, h))
    (either_max r.mutable_range.end.0 v.0)
lift_cause (r ∷ rs) zero v (suc j) = inl refl
lift_cause (r ∷ rs) (suc i) v zero = inl refl
lift_cause (r ∷ rs) (suc i) v (suc j) = ⊎_elim (λ h. inl h) (λ h. inr (ap suc h.0, h.1)) (lift_cause rs i v j)

lift_rest : (rs : List Identifier) (i : ℕ) (v : EvaluationOrder) (j : ℕ)
    → option_map but_end (slice_get (lift_at rs i v) j) ≡ option_map but_end (slice_get rs j)
lift_rest [] i v j = refl
lift_rest (r ∷ rs) zero v zero = refl
lift_rest (r ∷ rs) zero v (suc j) = refl
lift_rest (r ∷ rs) (suc i) v zero = refl
lift_rest (r ∷ rs) (suc i) v (suc j) = lift_rest rs i v j

range_length : (end : Option EvaluationOrder) (id : IdentifierId) (rs : List Identifier)
    → length (range_visited end id rs) ≡ length rs
range_length None id rs = refl
range_length (Some v) id rs = ap length (lifts rs id.0 v) ∙ lift_length rs id.0 v

pub ranges_length : (end : Option EvaluationOrder) (rs : List Identifier) (done : List Entry)
    → length (ranges_after end rs done) ≡ length rs
ranges_length end rs [] = refl
ranges_length end rs (e ∷ done) = range_length end e.id (ranges_after end rs done) ∙ ranges_length end rs done

range_up : (end : Option EvaluationOrder) (id : IdentifierId) (rs : List Identifier) (j : ℕ) → end_at rs j
    ≤ end_at (range_visited end id rs) j
range_up None id rs j = omega arith
range_up (Some v) id rs j = subst (λ z. end_at rs j ≤ end_at z j) (sym (lifts rs id.0 v)) (lift_up rs id.0 v j)

pub ranges_up : (end : Option EvaluationOrder) (rs : List Identifier) (done : List Entry) (j : ℕ) → end_at rs j
    ≤ end_at (ranges_after end rs done) j
ranges_up end rs [] j = omega arith
ranges_up end rs (e ∷ done) j = let a = ranges_up end rs done j in let b =
    range_up end e.id (ranges_after end rs done) j in omega arith

range_rest : (end : Option EvaluationOrder) (id : IdentifierId) (rs : List Identifier) (j : ℕ)
    → option_map but_end (slice_get (range_visited end id rs) j) ≡ option_map but_end (slice_get rs j)
range_rest None id rs j = refl
range_rest (Some v) id rs j = ap (λ z. option_map but_end (slice_get z j)) (lifts rs id.0 v) ∙ lift_rest rs id.0 v j

pub ranges_rest : (end : Option EvaluationOrder) (rs : List Identifier) (done : List Entry) (j : ℕ)
    → option_map but_end (slice_get (ranges_after end rs done) j) ≡ option_map but_end (slice_get rs j)
ranges_rest end rs [] j = refl
ranges_rest end rs (e ∷ done) j = range_rest end e.id (ranges_after end rs done) j ∙ ranges_rest end rs done j

least_up : (end : Option EvaluationOrder) (a b : ℕ) → a ≤ b → AtLeast end a → AtLeast end b
least_up None a b h p = tt
least_up (Some v) a b h p = omega arith

range_there : (end : Option EvaluationOrder) (id : IdentifierId) (rs : List Identifier) → id.0 < length rs
    → AtLeast end (end_at (range_visited end id rs) id.0)
range_there None id rs h = tt
range_there (Some v) id rs h = subst (λ z. v.0 ≤ end_at z id.0) (sym (lifts rs id.0 v)) (lift_there rs id.0 v h)

pub ranges_there : (end : Option EvaluationOrder) (rs : List Identifier) (done : List Entry) (e : Entry)
    → IsOneOf e done → e.id.0 < length rs → AtLeast end (end_at (ranges_after end rs done) e.id.0)
ranges_there end rs [] e i lt = absurd i
ranges_there end rs (d ∷ done) e (inl same) lt =
    subst (λ (z : Entry). AtLeast end (end_at (range_visited end z.id (ranges_after end rs done)) e.id.0)) same
    (range_there end e.id (ranges_after end rs done) (let n = ranges_length end rs done in omega arith))
ranges_there end rs (d ∷ done) e (inr other) lt =
    least_up end (end_at (ranges_after end rs done) e.id.0) (end_at (ranges_after end rs (d ∷ done)) e.id.0)
    (range_up end d.id (ranges_after end rs done) e.id.0) (ranges_there end rs done e other lt)

abbrev HasEnd : Option EvaluationOrder → ℕ → Type 0
HasEnd end n = (v : EvaluationOrder) × (end ≡ Some v) × (n ≡ v.0)

range_cause : (end : Option EvaluationOrder) (id : IdentifierId) (rs : List Identifier) (j : ℕ)
    → (slice_get (range_visited end id rs) j ≡ slice_get rs j)
    ⊎ ((id.0 ≡ j) × HasEnd end (end_at (range_visited end id rs) j))
range_cause None id rs j = inl refl
range_cause (Some v) id rs j =
    subst (λ z. (slice_get z j ≡ slice_get rs j) ⊎ ((id.0 ≡ j) × HasEnd (Some v) (end_at z j))) (sym (lifts rs id.0 v))
    (⊎_elim (λ h. inl h) (λ h. inr (h.0, (v, refl, h.1))) (lift_cause rs id.0 v j))

pub ranges_cause : (end : Option EvaluationOrder) (rs : List Identifier) (done : List Entry) (j : ℕ)
    → (slice_get (ranges_after end rs done) j ≡ slice_get rs j)
    ⊎ (HasEnd end (end_at (ranges_after end rs done) j) × (e : Entry) × (e.id.0 ≡ j) × IsOneOf e done)
ranges_cause end rs [] j = inl refl
ranges_cause end rs (d ∷ done) j = ⊎_elim
    (λ same. ⊎_elim
    (λ old. inl (same ∙ old))
    (λ r. inr ((r.0.0, r.0.1, ap end_of same ∙ r.0.2), r.1, r.2, inr r.3))
    (ranges_cause end rs done j))
    (λ h. inr (h.1, d, h.0, inl refl))
    (range_cause end d.id (ranges_after end rs done) j)

-- nodes
pub changed_here : (g : Nodes) (id : IdentifierId) (f : Node → Node) → node_at (changed g id f) id
    ≡ option_map f (node_at g id)
changed_here [] id f = refl
changed_here (p ∷ g) id f = elim (same_id id p.0) as
    (λ b. same_id id p.0 ≡ b → node_at (cond b ((p.0, f p.1) ∷ g) (p ∷ changed g id f)) id
    ≡ option_map f (cond b (Some p.1) (node_at g id))) [
      | true ↦ λ is. ap (λ b. cond b (Some (f p.1)) (node_at g id)) is
      | false ↦ λ is. ap (λ b. cond b (Some p.1) (node_at (changed g id f) id)) is ∙ changed_here g id f
    ] refl

pub changed_apart : (g : Nodes) (id q : IdentifierId) (f : Node → Node) → (id.0 ≡ q.0 → ⊥) → node_at (changed g id f) q
    ≡ node_at g q
changed_apart [] id q f h = refl
changed_apart (p ∷ g) id q f h = elim (same_id id p.0) as
    (λ b. same_id id p.0 ≡ b → node_at (cond b ((p.0, f p.1) ∷ g) (p ∷ changed g id f)) q ≡ node_at (p ∷ g) q) [
      | true ↦ λ is. elim (same_id q p.0) as (λ b. same_id q p.0 ≡ b → cond b (Some (f p.1)) (node_at g q)
          ≡ cond b (Some p.1) (node_at g q)) [
            | true ↦ λ at. absurd (let x = eqb_is id.0 p.0.0 is in let y = eqb_is q.0 p.0.0 at in h (x ∙ sym y))
            | false ↦ λ at. refl
          ] refl
      | false ↦ λ is. ap (cond (same_id q p.0) (Some p.1)) (changed_apart g id q f h)
    ] refl

some_node : (o : Option Node) → is_some o ≡ true → (n : Node) × (o ≡ Some n)
some_node None h = cc
some_node (Some n) h = (n, refl)

some_shape : (o w : Option Node) → option_map shape o ≡ option_map shape w → is_some w ≡ true → is_some o ≡ true
some_shape None None h t = t
some_shape None (Some n) h t = cc
some_shape (Some n) w h t = refl

module _ (m : ℕ) (origin : Origin) (g : Nodes) where
  still_there : (done : List Entry) (q : IdentifierId) → has_node g q ≡ true
      → is_some (node_at (marked m origin g done) q) ≡ true
  still_there done q t = some_shape (node_at (marked m origin g done) q) (node_at g q) (marked_shape m origin g done q)
      t

  pub marked_apart : (done : List Entry) (q : IdentifierId) → ((e : Entry) → IsOneOf e done → e.id.0 ≡ q.0 → ⊥)
      → node_at (marked m origin g done) q ≡ node_at g q
  marked_apart [] q h = refl
  marked_apart (e ∷ done) q h = changed_apart (marked m origin g done) e.id q (visited m origin e) (h e (inl refl))
      ∙ marked_apart done q (λ d i. h d (inr i))

  -- a property of the node that visits keep, and that a visit by e brings
  module _ (P : Node → Type 0) (keeps : (d : Entry) (n : Node) → P n → P (visited m origin d n)) where
    abbrev pub Holds : Option Node → Type 0
    Holds o = (n : Node) × (o ≡ Some n) × P n

    keep : (d : Entry) (o : Option Node) → Holds o → Holds (option_map (visited m origin d) o)
    keep d o h = (visited m origin d h.0, ap (option_map (visited m origin d)) h.1, keeps d h.0 h.2)

    pub stored_one : (done : List Entry) (d : Entry) (q : IdentifierId) → Holds (node_at (marked m origin g done) q)
        → Holds (node_at (marked m origin g (d ∷ done)) q)
    stored_one done d q h = ⊎_elim
        (λ same. subst Holds (sym (ap (λ z. node_at (changed (marked m origin g done) z (visited m origin d)) q)
        (id_is d.id q same) ∙ changed_here (marked m origin g done) q (visited m origin d)))
        (keep d (node_at (marked m origin g done) q) h))
        (λ other. subst Holds (sym (changed_apart (marked m origin g done) d.id q (visited m origin d) other)) h)
        (cases_eq d.id.0 q.0)

    pub brought : (done : List Entry) (e : Entry) → ((n : Node) → P (visited m origin e n)) → IsOneOf e done
        → has_node g e.id ≡ true → Holds (node_at (marked m origin g done) e.id)
    brought [] e brings i t = absurd i
    brought (d ∷ done) e brings (inl same) t =
        let n = some_node (node_at (marked m origin g done) e.id) (still_there done e.id t) in
        subst (λ (z : Entry). Holds (node_at (changed (marked m origin g done) z.id (visited m origin z)) e.id)) same
        (subst Holds (sym (changed_here (marked m origin g done) e.id (visited m origin e)
        ∙ ap (option_map (visited m origin e)) n.1)) (visited m origin e n.0, refl, brings n.0))
    brought (d ∷ done) e brings (inr other) t = stored_one done d e.id (brought done e brings other t)

definite_stays : (i : MutationInfo) (o : Option MutationInfo) → IsDefiniteMark o → IsDefiniteMark (remarked i o)
definite_stays i None h = absurd (cc)
definite_stays i (Some old) h = (
  old,
  ap Some (stays i.kind old.kind (ap (λ (z : MutationInfo). z.kind) same ∙ h.2)),
  ap (λ (z : MutationInfo). z.kind) same ∙ h.2,
)
  where
    same : old ≡ h.0
    same = let e = h.1 in cc

    stays : (j k : MutationKind) → k ≡ Definite → higher i j k old ≡ old
    stays Definite Conditional e = cc
    stays Definite Definite e = refl
    stays Conditional k e = refl

definite_comes : (i : MutationInfo) (o : Option MutationInfo) → i.kind ≡ Definite → IsDefiniteMark (remarked i o)
definite_comes i None h = (i, refl, h)
definite_comes i (Some old) h = comes i.kind old.kind h refl
  where
    comes : (j k : MutationKind) → j ≡ Definite → old.kind ≡ k → IsDefiniteMark (Some (higher i j k old))
    comes Definite Conditional e f = (i, refl, h)
    comes Definite Definite e f = (old, refl, f)
    comes Conditional k e f = cc

abbrev pub EitherDefinite : Node → Type 0
EitherDefinite n = IsDefiniteMark n.transitive ⊎ IsDefiniteMark n.local

pub marks_stay : (b : Bool) (i : MutationInfo) (n : Node) → EitherDefinite n → EitherDefinite (marked_by b i n)
marks_stay true i n (inl h) = inl (definite_stays i n.transitive h)
marks_stay true i n (inr h) = inr h
marks_stay false i n (inl h) = inl h
marks_stay false i n (inr h) = inr (definite_stays i n.local h)

marks_come : (b : Bool) (i : MutationInfo) (n : Node) → i.kind ≡ Definite → EitherDefinite (marked_by b i n)
marks_come true i n h = inl (definite_comes i n.transitive h)
marks_come false i n h = inr (definite_comes i n.local h)

later_is : (m : ℕ) (o : Option ℕ) → (k : ℕ) × (later m o ≡ Some k) × (m ≤ k)
later_is m None = (m, refl, omega arith)
later_is m (Some old) = (max old m, refl, omega arith)

high : (d e : MutationKind) → at_least (is_definite d) (is_definite e) ≡ true → e ≡ Definite → d ≡ Definite
high Definite e h is = refl
high Conditional Definite h is = cc
high Conditional Conditional h is = is

module _ (g : Nodes) (m : ℕ) (s : Entry) (origin : Origin) where
  abbrev pub visits : List Entry
  visits = (walk g m s).done

  pub met : (e : Entry) → Legal g m s e → Met covers visits e
  met e p = walk_reaches g m s (1 + 8 * all_links g) (walk_empties g m s) e p

  pub visit_legal : (e : Entry) → IsOneOf e visits → Legal g m s e
  visit_legal e i = walk_stays g m s (1 + 8 * all_links g) e i

  pub walk_visits : Visits g m s visits
  walk_visits = record {
    legal = λ e i. visit_legal e i;
    reached = λ e p. met e p;
    new = run_new covers (node_exists g) (next g m) s (1 + 8 * all_links g);
    eight = λ id. eight_times g m s (1 + 8 * all_links g) id;
  }

  pub walk_covered : (end : Option EvaluationOrder) (rs : List Identifier)
      → ((id : IdentifierId) → IsTrue (has_node g id) → id.0 < length rs)
      → Covered g m s end (ranges_after end rs visits)
  walk_covered end rs fits e p =
      let by = met e p in
      let same = (opened by.0 e by.2).id in
      subst (λ i. AtLeast end (end_at (ranges_after end rs visits) i)) same
      (ranges_there end rs visits by.0 by.1 (fits by.0.id (legal_exists g m s by.0 (visit_legal by.0 by.1))))

  pub walk_caused : (end : Option EvaluationOrder) (rs : List Identifier)
      → Caused g m s end rs (ranges_after end rs visits)
  walk_caused end rs = record {
    kept = λ i. ranges_up end rs visits i;
    rest = λ i. ranges_rest end rs visits i;
    cause = λ i. ⊎_elim (λ h. inl h) (λ h. inr (h.0.0, h.0.1, h.0.2, h.1, h.2, visit_legal h.1 h.3))
        (ranges_cause end rs visits i);
  }

  pub walk_marks : Marks g m s (marked m origin g visits)
  walk_marks = record {
    reached = λ e p.
        let by = met e p in
        let same = id_is by.0.id e.id (opened by.0 e by.2).id in
        subst (λ q. Reached (marked m origin g visits) m q) same
        (brought m origin g (MutatedAt m) (λ d n h. later_is m n.last_mutated) visits by.0
        (λ n. later_is m n.last_mutated) by.1 (legal_exists g m s by.0 (visit_legal by.0 by.1)));
    definite = λ e p is.
        let by = met e p in
        let o = opened by.0 e by.2 in
        subst (λ q. SeenDefinite (marked m origin g visits) q) (id_is by.0.id e.id o.id)
        (brought m origin g EitherDefinite (λ d n h. marks_stay d.transitive (info d.kind origin.span) n h) visits by.0
        (λ n. marks_come by.0.transitive (info by.0.kind origin.span) n (high by.0.kind e.kind o.kind is)) by.1
        (legal_exists g m s by.0 (visit_legal by.0 by.1)));
    untouched = λ id none. marked_apart m origin g visits id (λ e i same. none e (visit_legal e i) same);
  }
