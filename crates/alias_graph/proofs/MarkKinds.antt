-- The kinds of the marks that a walk leaves.
use Rattle.std.proofs.Common.{◌≡◌, ℕ, ◌⊎◌, inl, inr, ⊎_elim, Bool, true, false, List, [], ◌∷◌, Option, Some, None}
use Rattle.std.proofs.Common.{option_map, refl, ap, sym, ◌∙◌}
use Rattle.std.proofs.lemmas.Bool.{cases_eq}
use Rattle.alias_base.specs.declared.ids.IdentifierId.{IdentifierId}
use Rattle.alias_graph.specs.declared.types.MutationKind.{MutationKind}
use Rattle.alias_graph.specs.declared.types.MutationKind.TheVariants.{Conditional, Definite}
use Rattle.alias_graph.specs.declared.types.MutationInfo.{MutationInfo}
use Rattle.alias_graph.specs.declared.types.Origin.{Origin}
use Rattle.alias_graph.specs.declared.types.Entry.{Entry}
use Rattle.alias_graph.specs.Nodes.{Node, Nodes, node_at}
use Rattle.alias_graph.specs.Graph.{changed}
use Rattle.alias_graph.specs.Walks.{IsOneOf}
use Rattle.alias_graph.specs.Links.{walk, is_definite, at_least}
use Rattle.alias_graph.specs.NodeMarks.{higher, remarked, info, marked_by, visited, marked}
use Rattle.alias_graph.specs.Reach.{MarkedAs, MarkCause, Kinds}
use Rattle.alias_graph.proofs.Covering.{opened, least_itself, least_trans}
use Rattle.alias_graph.proofs.Reaching.{legal_exists, id_is}
use Rattle.alias_graph.proofs.Effects.{changed_here, changed_apart, brought, met, visit_legal}

high_stays : (i old : MutationInfo) (x : Bool) (j k : MutationKind) → i.kind ≡ j → at_least (is_definite old.kind) x
    ≡ true → at_least (is_definite (higher i j k old).kind) x ≡ true
high_stays i old x Definite Conditional e h = ap (λ z. at_least (is_definite z) x) e
high_stays i old x Definite Definite e h = h
high_stays i old x Conditional k e h = h

mark_stays : (k : MutationKind) (i : MutationInfo) (o : Option MutationInfo) → MarkedAs k o → MarkedAs k (remarked i o)
mark_stays k i None h = absurd (let e = h.1 in cc)
mark_stays k i (Some old) h =
    let same : h.0 ≡ old = (let e = h.1 in cc) in (
      higher i i.kind old.kind old,
      refl,
      high_stays i old (is_definite k) i.kind old.kind refl
          (ap (λ (z : MutationInfo). at_least (is_definite z.kind) (is_definite k)) (sym same) ∙ h.2),
    )

least_low : (b : Bool) → at_least b false ≡ true
least_low true = refl
least_low false = refl

high_comes : (i old : MutationInfo) (j k : MutationKind) → i.kind ≡ j → old.kind ≡ k
    → at_least (is_definite (higher i j k old).kind) (is_definite i.kind) ≡ true
high_comes i old Definite Conditional e f = least_itself (is_definite i.kind)
high_comes i old Definite Definite e f = ap (λ z. at_least (is_definite z) (is_definite i.kind)) f
high_comes i old Conditional k e f = ap (λ z. at_least (is_definite old.kind) (is_definite z)) e
    ∙ least_low (is_definite old.kind)

mark_comes : (i : MutationInfo) (o : Option MutationInfo) → MarkedAs i.kind (remarked i o)
mark_comes i None = (i, refl, least_itself (is_definite i.kind))
mark_comes i (Some old) = (higher i i.kind old.kind old, refl, high_comes i old i.kind old.kind refl refl)

transitive_stays : (k : MutationKind) (b : Bool) (i : MutationInfo) (n : Node) → MarkedAs k n.transitive
    → MarkedAs k (marked_by b i n).transitive
transitive_stays k true i n h = mark_stays k i n.transitive h
transitive_stays k false i n h = h

transitive_comes : (b : Bool) (i : MutationInfo) (n : Node) → b ≡ true → MarkedAs i.kind (marked_by b i n).transitive
transitive_comes true i n h = mark_comes i n.transitive
transitive_comes false i n h = cc

lower_mark : (j k : MutationKind) (o : Option MutationInfo) → at_least (is_definite j) (is_definite k) ≡ true
    → MarkedAs j o → MarkedAs k o
lower_mark j k o le h = (h.0, h.1, least_trans (is_definite h.0.kind) (is_definite j) (is_definite k) h.2 le)

flag_up : (a b : Bool) → at_least a b ≡ true → b ≡ true → a ≡ true
flag_up true b h e = refl
flag_up false true h e = cc
flag_up false false h e = e

-- what a mark becomes
higher_is : (i old : MutationInfo) (j k : MutationKind) → (Some (higher i j k old) ≡ Some old)
    ⊎ (Some (higher i j k old) ≡ Some i)
higher_is i old Definite Conditional = inr refl
higher_is i old Definite Definite = inl refl
higher_is i old Conditional k = inl refl

remark_is : (i : MutationInfo) (o : Option MutationInfo) → (remarked i o ≡ o) ⊎ (remarked i o ≡ Some i)
remark_is i None = inr refl
remark_is i (Some old) = higher_is i old i.kind old.kind

abbrev mark_of : Bool → Node → Option MutationInfo
mark_of true n = n.transitive
mark_of false n = n.local

flag_is : (t b : Bool) (i : MutationInfo) (n : Node) → (mark_of t (marked_by b i n) ≡ mark_of t n)
    ⊎ ((b ≡ t) × (mark_of t (marked_by b i n) ≡ Some i))
flag_is true true i n = ⊎_elim (λ h. inl h) (λ h. inr (refl, h)) (remark_is i n.transitive)
flag_is true false i n = inl refl
flag_is false true i n = inl refl
flag_is false false i n = ⊎_elim (λ h. inl h) (λ h. inr (refl, h)) (remark_is i n.local)

mark_visited : (t : Bool) (m : ℕ) (origin : Origin) (e : Entry) (n : Node) → mark_of t (visited m origin e n)
    ≡ mark_of t (marked_by e.transitive (info e.kind origin.span) n)
mark_visited true m origin e n = refl
mark_visited false m origin e n = refl

was_mapped : (f : Node → Node) (o : Option Node) (n : Node) → option_map f o ≡ Some n → (w : Node) × (o ≡ Some w)
    × (f w ≡ n)
was_mapped f None n h = cc
was_mapped f (Some w) n h = (w, refl, cc)

same_some : (n w : Node) → Some n ≡ Some w → n ≡ w
same_some n w h = cc

module _ (m : ℕ) (origin : Origin) (g : Nodes) (t : Bool) where
  abbrev Cause : List Entry → IdentifierId → Option MutationInfo → Option MutationInfo → Type 0
  Cause done id before after = (after ≡ before)
      ⊎ ((e : Entry) × IsOneOf e done × (e.id.0 ≡ id.0) × (e.transitive ≡ t) × (after ≡ Some (info e.kind origin.span)))

  cause_later : (d : Entry) (done : List Entry) (id : IdentifierId) (before mid after : Option MutationInfo) → after
      ≡ mid → Cause done id before mid → Cause (d ∷ done) id before after
  cause_later d done id before mid after e (inl h) = inl (e ∙ h)
  cause_later d done id before mid after e (inr h) = inr (h.0, inr h.1, h.2, h.3, e ∙ h.4)

  causes : (done : List Entry) (id : IdentifierId) (n w : Node) → node_at g id ≡ Some n
      → node_at (marked m origin g done) id ≡ Some w → Cause done id (mark_of t n) (mark_of t w)
  causes [] id n w at is = inl (ap (mark_of t) (same_some w n (sym is ∙ at)))
  causes (e ∷ done) id n w at is = ⊎_elim
      (λ same.
      let r = was_mapped (visited m origin e) (node_at (marked m origin g done) id) w
      (sym (changed_here (marked m origin g done) id (visited m origin e))
      ∙ ap (λ z. node_at (changed (marked m origin g done) z (visited m origin e)) id) (sym (id_is e.id id same))
      ∙ is) in
      let i = info e.kind origin.span in
      let now : mark_of t w ≡ mark_of t (marked_by e.transitive i r.0) = ap (mark_of t) (sym r.2)
      ∙ mark_visited t m origin e r.0 in
      ⊎_elim
      (λ h. cause_later e done id (mark_of t n) (mark_of t r.0) (mark_of t w) (now ∙ h) (causes done id n r.0 at r.1))
      (λ h. inr (e, inl refl, same, h.0, now ∙ h.1))
      (flag_is t e.transitive i r.0))
      (λ other. cause_later e done id (mark_of t n) (mark_of t w) (mark_of t w) refl
      (causes done id n w at (sym (changed_apart (marked m origin g done) e.id id (visited m origin e) other) ∙ is)))
      (cases_eq e.id.0 id.0)

legal_cause : (g : Nodes) (m : ℕ) (s : Entry) (origin : Origin) (t : Bool) (id : IdentifierId) (n w : Node)
    → node_at g id ≡ Some n → node_at (marked m origin g (walk g m s).done) id ≡ Some w
    → MarkCause g m s origin.span t id (mark_of t n) (mark_of t w)
legal_cause g m s origin t id n w at is = ⊎_elim
    (λ h. inl h)
    (λ h. inr (h.0, h.2, h.3, h.4, visit_legal g m s origin h.0 h.1))
    (causes m origin g t (walk g m s).done id n w at is)

pub walk_kinds : (g : Nodes) (m : ℕ) (s : Entry) (origin : Origin)
    → Kinds g m s origin.span (marked m origin g (walk g m s).done)
walk_kinds g m s origin = record {
  transitive = λ e p flag.
      let by = met g m s origin e p in
      let o = opened by.0 e by.2 in
      let d = by.0 in
      let r = brought m origin g (λ n. MarkedAs d.kind n.transitive)
      (λ c n h. transitive_stays d.kind c.transitive (info c.kind origin.span) n h) (walk g m s).done d
      (λ n. transitive_comes d.transitive (info d.kind origin.span) n
      (flag_up d.transitive e.transitive o.transitive flag)) by.1
      (legal_exists g m s d (visit_legal g m s origin d by.1)) in (
        r.0,
        ap (node_at (marked m origin g (walk g m s).done)) (sym (id_is d.id e.id o.id)) ∙ r.1,
        lower_mark d.kind e.kind r.0.transitive o.kind r.2,
      );
  transitive_cause = λ id n w at is. legal_cause g m s origin true id n w at is;
  local_cause = λ id n w at is. legal_cause g m s origin false id n w at is;
}
