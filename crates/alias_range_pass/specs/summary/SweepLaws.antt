-- One sweep raises what the walks of all mutations raise, and in a part of the graph that is cut off they leave the
-- same marks and reports.
use Rattle.std.proofs.Common.{◌≡◌, ℕ, ◌+◌, ◌<◌, ⊎_elim, inl, inr, Bool, true, false, cond, IsTrue, ◌||◌, List, [], ◌∷◌}
use Rattle.std.proofs.Common.{◌++◌, Option, Some, None, is_some, length, map, reverse, slice_get, refl, ap, sym, ◌∙◌}
use Rattle.std.proofs.Common.{subst, arith}
use mathlib.Core.List.{reverse-cons}
use Rattle.alias_base.specs.declared.ids.IdentifierId.{IdentifierId}
use Rattle.alias_hir.specs.declared.env.Environment.{Environment}
use Rattle.alias_hir.specs.declared.env.Identifier.{Identifier}
use Rattle.alias_hir.specs.declared.report.Report.{Report}
use Rattle.alias_hir.specs.ReportNumbers.{effect_reports, summary}
use Rattle.alias_graph.specs.declared.types.Entry.{Entry}
use Rattle.alias_graph.specs.declared.types.NodeValue.{NodeValue}
use Rattle.alias_graph.specs.declared.types.NodeValue.TheVariants.{Object, Phi, Function}
use Rattle.alias_graph.specs.declared.types.Origin.{Origin}
use Rattle.alias_graph.specs.declared.types.RangeWalk.{RangeWalk}
use Rattle.alias_graph.specs.Legal.{Legal}
use Rattle.alias_graph.specs.NodeMarks.{marked, ranges_after}
use Rattle.alias_graph.specs.Nodes.{Node, Nodes, node_at, has_node, Within}
use Rattle.alias_graph.specs.Parts.{SamePart, IsQuiet, CutOff}
use Rattle.alias_graph.specs.Raising.{range_entry, EndsRise, Raised}
use Rattle.alias_graph.specs.Reach.{end_at}
use Rattle.alias_graph.specs.Renders.{rendered, render_reports}
use Rattle.alias_graph.specs.Reports.{value_reports, reported_at, reports_after, recorded_after}
use Rattle.alias_graph.specs.Walks.{IsOneOf}
use Rattle.alias_graph.proofs.Effects.{ranges_length, ranges_up, ranges_rest}
use Rattle.alias_graph.proofs.Ends.{raised_once}
use Rattle.alias_graph.proofs.Legality.{in_left, in_right, in_either}
use Rattle.alias_graph.proofs.Parting.{keeps, walks_part, renders_part, marked_part, quiet_marked, reported_part}
use Rattle.alias_graph.proofs.Parting.{rendered_part}
use Rattle.alias_graph.proofs.PartWalks.{kept}
use Rattle.alias_graph.proofs.Raising.{rise_same, rise_trans}
use Rattle.alias_graph.proofs.Within.{marked_same}
use Rattle.alias_graph.specs.declared.recorded.listing.Listing.{Listing}
use Rattle.alias_graph.specs.declared.recorded.listing.RecordedMutation.{RecordedMutation}
use Rattle.alias_graph.specs.declared.recorded.listing.RecordedRender.{RecordedRender}
use Rattle.alias_graph.specs.recorded.Fitting.{ListingFits}
use Rattle.alias_graph.proofs.FitLaws.{graph_within}
use Rattle.alias_graph.specs.recorded.Recording.{graph_listed}
use Rattle.alias_range_pass.specs.summary.KeepingLaws.{within_kept}
use Rattle.alias_range_pass.specs.summary.Laws.{Covers, MutationCauses}
use Rattle.alias_range_pass.specs.summary.LegalLaws.{links_same}
use Rattle.alias_range_pass.specs.summary.Sweeping.{range_walk, mark_start, after_mark, after_marks, IsPart}
use Rattle.alias_range_pass.specs.summary.Walking.{start_origin, expanded, mutation_start, mutation_entry, Walked}
use Rattle.alias_range_pass.specs.summary.Walking.{after_mutation, after_mutations, after_render, after_renders}
use Rattle.alias_range_pass.specs.summary.Walking.{env_reported, mutations_done, renders_done}
use Rattle.alias_range_pass.specs.summary.WalkLaws.{walks_cover, walks_caused}

-- ---- the walks of the sweep are those of the mutations

in_reverse : {A : Type 0} (xs : List A) (x : A) → IsOneOf x xs → IsOneOf x (reverse xs)
in_reverse [] x i = absurd i
in_reverse (y ∷ xs) x i = subst (IsOneOf x) (sym (reverse-cons y xs))
    (⊎_elim (λ here. in_right (reverse xs) (y ∷ []) x (inl here))
    (λ later. in_left (reverse xs) (y ∷ []) x (in_reverse xs x later)) i)

of_reverse : {A : Type 0} (xs : List A) (x : A) → IsOneOf x (reverse xs) → IsOneOf x xs
of_reverse [] x i = absurd i
of_reverse (y ∷ xs) x i = ⊎_elim (λ later. inr (of_reverse xs x later))
    (λ here. ⊎_elim (λ same. inl same) (λ none. absurd none) here)
    (in_either (reverse xs) (y ∷ []) x (subst (IsOneOf x) (reverse-cons y xs) i))

pub in_map : {A B : Type 0} (f : A → B) (xs : List A) (x : A) → IsOneOf x xs → IsOneOf (f x) (map f xs)
in_map f [] x i = absurd i
in_map f (y ∷ xs) x i = ⊎_elim (λ same. inl (ap f same)) (λ other. inr (in_map f xs x other)) i

of_map : {A B : Type 0} (f : A → B) (xs : List A) (y : B) → IsOneOf y (map f xs) → (x : A) × IsOneOf x xs × (y ≡ f x)
of_map f [] y i = absurd i
of_map f (x ∷ xs) y i = ⊎_elim (λ same. (x, inl refl, same))
    (λ other. let r = of_map f xs y other in (r.0, inr r.1, r.2)) i

one_rise : (r : Bool) (m : RecordedMutation) (w : Walked)
    → EndsRise w.1.identifiers (after_mutation r w m).1.identifiers
one_rise r m w = record {
  size = ranges_length (mutation_start m).end w.1.identifiers (expanded w.0 (mutation_start m));
  kept = λ i. ranges_up (mutation_start m).end w.1.identifiers (expanded w.0 (mutation_start m)) i;
  rest = λ i. ranges_rest (mutation_start m).end w.1.identifiers (expanded w.0 (mutation_start m)) i;
}

walks_rise : (r : Bool) (ms : List RecordedMutation) (w : Walked)
    → EndsRise w.1.identifiers (after_mutations r ms w).1.identifiers
walks_rise r [] w = rise_same w.1.identifiers
walks_rise r (m ∷ ms) w = rise_trans w.1.identifiers (after_mutation r w m).1.identifiers
    (after_mutations r ms (after_mutation r w m)).1.identifiers (one_rise r m w)
    (walks_rise r ms (after_mutation r w m))

module _ (r : Bool) (l : Listing) (env : Environment) (fits : ListingFits (length env.identifiers) l) where
  abbrev begun : Walked
  begun = (graph_listed l, env_reported r l env)

  abbrev swept_walks : List RangeWalk
  swept_walks = map range_walk (reverse l.mutations)

  abbrev last : List Identifier
  last = (mutations_done r l env).1.identifiers

  covers : Covers (graph_listed l) l.mutations last
  covers = walks_cover (graph_listed l) r l.mutations begun (links_same (graph_listed l))
      (graph_within (length env.identifiers) l.events fits.events)

  causes : MutationCauses (graph_listed l) l.mutations env.identifiers last
  causes = walks_caused (graph_listed l) r l.mutations begun (links_same (graph_listed l))

  -- the walks of all mutations raise the same
  pub walks_raise : Raised (graph_listed l) swept_walks env.identifiers last
  walks_raise = record {
    rise = walks_rise r l.mutations begun;
    covered = λ w i e p.
        let m = of_map range_walk (reverse l.mutations) w i in
        let low : m.0.order.0 < end_at last e.id.0 =
        covers m.0 (of_reverse l.mutations m.0 m.1) e
        (subst (λ (z : RangeWalk). Legal (graph_listed l) z.index (range_entry z) e) m.2 p) in
        let end : w.end.0 ≡ m.0.order.0 + 1 = ap (λ (z : RangeWalk). z.end.0) m.2 in
        omega arith;
    cause = λ k. ⊎_elim
        (λ same. inl same)
        (λ c. inr (
          range_walk c.0,
          in_map range_walk (reverse l.mutations) c.0 (in_reverse l.mutations c.0 c.1),
          c.2,
          c.3,
          c.4,
          c.5,
        ))
        (causes k);
  }

  -- so what one sweep raises is what all walks raise
  pub sweep_is : (g : Nodes) (new : List Identifier) → g ≡ graph_listed l → Raised g swept_walks env.identifiers new
      → new ≡ last
  sweep_is g new is h = raised_once (graph_listed l) swept_walks env.identifiers new last
      (subst (λ z. Raised z swept_walks env.identifiers new) is h) walks_raise

-- ---- an environment of which range ends and reports alone may be others

abbrev pub IsFramed : Environment → Environment → Type 0
IsFramed old env = env ≡ record old { identifiers = env.identifiers; errors = env.errors }

framed : (old env : Environment) (ids : List Identifier) (errors : List Report) → IsFramed old env
    → IsFramed old (record env { identifiers = ids; errors = errors })
framed old env ids errors h = ap (λ (z : Environment). let v : Environment =
    record z { identifiers = ids; errors = errors } in v) h

reports_alike : (a b : Environment) → a.functions ≡ b.functions → a.interned ≡ b.interned → (v : NodeValue)
    → value_reports a v ≡ value_reports b v
reports_alike a b f i Object = refl
reports_alike a b f i Phi = refl
reports_alike a b f i (Function id) = ap (λ z. effect_reports z (summary (slice_get a.functions id.0))) i
    ∙ ap (λ z. effect_reports b.interned (summary (slice_get z id.0))) f

reported_alike : (a b : Environment) → a.functions ≡ b.functions → a.interned ≡ b.interned → (o : Option Node)
    → reported_at a o ≡ reported_at b o
reported_alike a b f i None = refl
reported_alike a b f i (Some n) = ap (λ z. cond (is_some n.local || is_some n.transitive) [] z)
    (reports_alike a b f i n.value)

walk_alike : (a b : Environment) → a.functions ≡ b.functions → a.interned ≡ b.interned
    → (index : ℕ) (origin : Origin) (g : Nodes) (done : List Entry) → reports_after a index origin g done
    ≡ reports_after b index origin g done
walk_alike a b f i index origin g [] = refl
walk_alike a b f i index origin g (d ∷ done) =
    ap (λ z. z ++ reported_at a (node_at (marked index origin g done) d.id)) (walk_alike a b f i index origin g done)
    ∙ ap (λ z. reports_after b index origin g done ++ z)
    (reported_alike a b f i (node_at (marked index origin g done) d.id))

render_alike : (a b : Environment) → a.functions ≡ b.functions → a.interned ≡ b.interned
    → (g : Nodes) (ids : List IdentifierId) → render_reports a g ids ≡ render_reports b g ids
render_alike a b f i g [] = refl
render_alike a b f i g (id ∷ ids) =
    ap (λ z. z ++ reported_at a (node_at g id)) (render_alike a b f i g ids)
    ∙ ap (λ z. render_reports b g ids ++ z) (reported_alike a b f i (node_at g id))

-- ---- walks over the part

module _ (r : Bool) (base : Environment) (keep : IdentifierId → Bool) where
  -- what was walked of the whole and of the part
  pub record Twins (whole part : Walked) : Type 0 where
    pub same : SamePart keep whole.0 part.0
    pub quiet : r ≡ true → IsQuiet keep base whole.0 × IsQuiet keep base part.0
    pub errors : part.1.errors ≡ whole.1.errors
    pub whole_framed : IsFramed base whole.1
    pub part_framed : IsFramed base part.1

  functions_are : (env : Environment) → IsFramed base env → env.functions ≡ base.functions
  functions_are env h = ap (λ (z : Environment). z.functions) h

  interned_are : (env : Environment) → IsFramed base env → env.interned ≡ base.interned
  interned_are env h = ap (λ (z : Environment). z.interned) h

  module _ (v w : Walked) (h : Twins v w) where
    module _ (m : RecordedMutation) where
      abbrev index : ℕ
      index = m.index

      abbrev from : Origin
      from = start_origin (mutation_start m)

      abbrev whole_done : List Entry
      whole_done = expanded v.0 (mutation_start m)

      abbrev part_done : List Entry
      part_done = expanded w.0 (mark_start m)

      expands : kept (keeps keep) whole_done ≡ kept (keeps keep) part_done
      expands = walks_part keep v.0 w.0 h.same index (mutation_entry m)

      in_summary : (b : Bool) → r ≡ b → recorded_after b w.1 index from w.0 part_done
          ≡ recorded_after b v.1 index from v.0 whole_done
      in_summary false is = refl
      in_summary true is =
          let q = h.quiet is in
          walk_alike w.1 base (functions_are w.1 h.part_framed) (interned_are w.1 h.part_framed) index from w.0
          part_done
          ∙ reported_part keep base index from v.0 w.0 h.same q.0 q.1 whole_done part_done expands
          ∙ sym (walk_alike v.1 base (functions_are v.1 h.whole_framed) (interned_are v.1 h.whole_framed) index from v.0
          whole_done)

      twins_walk : Twins (after_mutation r v m) (after_mark r w m)
      twins_walk = record {
        same = marked_part keep v.0 w.0 h.same index from whole_done part_done expands;
        quiet = λ is. let q = h.quiet is in (
          quiet_marked keep base v.0 index from whole_done q.0,
          quiet_marked keep base w.0 index from part_done q.1,
        );
        errors = ap (λ z. z ++ recorded_after r w.1 index from w.0 part_done) h.errors
            ∙ ap (λ z. v.1.errors ++ z) (in_summary r refl);
        whole_framed = framed base v.1 (ranges_after (mutation_start m).end v.1.identifiers whole_done)
            (v.1.errors ++ recorded_after r v.1 index from v.0 whole_done) h.whole_framed;
        part_framed = framed base w.1 (ranges_after None w.1.identifiers part_done)
            (w.1.errors ++ recorded_after r w.1 index from w.0 part_done) h.part_framed;
      }

    module _ (is : r ≡ true) (x : RecordedRender) where
      render_reported : render_reports w.1 w.0 (rendered w.0 x.index x.place.identifier).done
          ≡ render_reports v.1 v.0 (rendered v.0 x.index x.place.identifier).done
      render_reported =
          let q = h.quiet is in
          let ds = (rendered v.0 x.index x.place.identifier).done in
          let cs = (rendered w.0 x.index x.place.identifier).done in
          render_alike w.1 base (functions_are w.1 h.part_framed) (interned_are w.1 h.part_framed) w.0 cs
          ∙ rendered_part keep base v.0 w.0 h.same q.0 q.1 ds cs
          (renders_part keep v.0 w.0 h.same x.index x.place.identifier)
          ∙ sym (render_alike v.1 base (functions_are v.1 h.whole_framed) (interned_are v.1 h.whole_framed) v.0 ds)

      twins_render : Twins (v.0, after_render v.0 v.1 x) (w.0, after_render w.0 w.1 x)
      twins_render = record {
        same = h.same;
        quiet = h.quiet;
        errors = ap (λ z. z ++ render_reports w.1 w.0 (rendered w.0 x.index x.place.identifier).done) h.errors
            ∙ ap (λ z. v.1.errors ++ z) render_reported;
        whole_framed = framed base v.1 v.1.identifiers
            (v.1.errors ++ render_reports v.1 v.0 (rendered v.0 x.index x.place.identifier).done) h.whole_framed;
        part_framed = framed base w.1 w.1.identifiers
            (w.1.errors ++ render_reports w.1 w.0 (rendered w.0 x.index x.place.identifier).done) h.part_framed;
      }

  twins_walks : (ms : List RecordedMutation) (v w : Walked) → Twins v w
      → Twins (after_mutations r ms v) (after_marks r ms w)
  twins_walks [] v w h = h
  twins_walks (m ∷ ms) v w h = twins_walks ms (after_mutation r v m) (after_mark r w m) (twins_walk v w h m)

  twins_renders : r ≡ true → (xs : List RecordedRender) (v w : Walked) → Twins v w
      → Twins (v.0, after_renders v.0 xs v.1) (w.0, after_renders w.0 xs w.1)
  twins_renders is [] v w h = h
  twins_renders is (x ∷ xs) v w h = twins_renders is xs (v.0, after_render v.0 v.1 x) (w.0, after_render w.0 w.1 x)
      (twins_render v w h is x)

-- ---- range ends stay where they were swept

same_ranges : (ids : List Identifier) (done : List Entry) → ranges_after None ids done ≡ ids
same_ranges ids [] = refl
same_ranges ids (d ∷ done) = same_ranges ids done

marks_same : (r : Bool) (ms : List RecordedMutation) (w : Walked) → (after_marks r ms w).1.identifiers ≡ w.1.identifiers
marks_same r [] w = refl
marks_same r (m ∷ ms) w = marks_same r ms (after_mark r w m) ∙ same_ranges w.1.identifiers (expanded w.0 (mark_start m))

renders_same : (g : Nodes) (xs : List RecordedRender) (env : Environment) → (after_renders g xs env).identifiers
    ≡ env.identifiers
renders_same g [] env = refl
renders_same g (x ∷ xs) env = renders_same g xs (after_render g env x)

-- ---- a listing

whole_env : (old a b : Environment) → IsFramed old a → IsFramed old b → a.identifiers ≡ b.identifiers → a.errors
    ≡ b.errors → a ≡ b
whole_env old a b h k ids errors =
    h ∙ ap (λ z. let v : Environment = record old { identifiers = z; errors = a.errors } in v) ids
    ∙ ap (λ z. let v : Environment = record old { identifiers = b.identifiers; errors = z } in v) errors ∙ sym k

module _ (r : Bool) (l : Listing) (env : Environment) (ids : List IdentifierId)
    (fits : ListingFits (length env.identifiers) l) where
  abbrev first : Environment
  first = env_reported r l env

  -- the environment once the sweep is done
  abbrev pub with_swept : List Identifier → Environment
  with_swept swept = record first { identifiers = swept }

  module _ (g part : Nodes) (swept : List Identifier) (is : g ≡ graph_listed l)
      (raised : Raised g (map range_walk (reverse l.mutations)) env.identifiers swept)
      (cut : CutOff r (with_swept swept) ids g part) where
    abbrev whole : Walked
    whole = mutations_done r l env

    abbrev marks : Walked
    marks = after_marks r l.mutations (part, with_swept swept)

    quiet_alike : (keep : IdentifierId → Bool) (h : Nodes) → IsQuiet keep (with_swept swept) h → IsQuiet keep first h
    quiet_alike keep h q id n at k = reports_alike first (with_swept swept) refl refl n.value ∙ q id n at k

    begin : Twins r first cut.keep (graph_listed l, first) (part, with_swept swept)
    begin = record {
      same = subst (λ z. SamePart cut.keep z part) is cut.part;
      quiet = λ t. let q = cut.quiet t in (
        subst (IsQuiet cut.keep first) is (quiet_alike cut.keep g q.0),
        quiet_alike cut.keep part q.1,
      );
      errors = refl;
      whole_framed = refl;
      part_framed = refl;
    }

    twins : Twins r first cut.keep whole marks
    twins = twins_walks r first cut.keep l.mutations (graph_listed l, first) (part, with_swept swept) begin

    swept_is : swept ≡ whole.1.identifiers
    swept_is = sweep_is r l env fits g swept is raised

    has_same : (id : IdentifierId) → has_node whole.0 id ≡ has_node g id
    has_same id =
        let one = twins.same.ids id in
        let two = cut.part.ids id in
        sym one ∙ marks_ids l.mutations (part, with_swept swept) id ∙ two
      where
        marks_ids : (ms : List RecordedMutation) (w : Walked) (q : IdentifierId) → has_node (after_marks r ms w).0 q
            ≡ has_node w.0 q
        marks_ids [] w q = refl
        marks_ids (m ∷ ms) w q = marks_ids ms (after_mark r w m) q
            ∙ marked_same m.index (start_origin (mark_start m)) w.0 (expanded w.0 (mark_start m)) q

    -- the marks of the part are those of the whole
    pub marks_part : IsPart ids whole.0 marks.0
    marks_part = record {
      keep = cut.keep;
      same = twins.same;
      kept = λ id i t. cut.kept id i (subst IsTrue (has_same id) t);
    }

    all_same : (b : Bool) → r ≡ b → cond b (after_renders marks.0 l.renders marks.1) marks.1
        ≡ cond b (after_renders whole.0 l.renders whole.1) whole.1
    all_same false t = whole_env first marks.1 whole.1 twins.part_framed twins.whole_framed
        (marks_same r l.mutations (part, with_swept swept) ∙ swept_is) twins.errors
    all_same true t =
        let h = twins_renders r first cut.keep t l.renders whole marks twins in
        whole_env first (after_renders marks.0 l.renders marks.1) (after_renders whole.0 l.renders whole.1)
        h.part_framed h.whole_framed
        (renders_same marks.0 l.renders marks.1 ∙ marks_same r l.mutations (part, with_swept swept) ∙ swept_is
        ∙ sym (renders_same whole.0 l.renders whole.1))
        h.errors

    -- and so is the environment
    pub done_part : renders_done r l marks ≡ renders_done r l whole
    done_part = all_same r refl

-- ---- the code's steps

module _ (r : Bool) (l : Listing) (env : Environment) (ids : List IdentifierId)
    (fits : ListingFits (length env.identifiers) l)
    (g kept part : Nodes) (one two : Environment) (is : g ≡ graph_listed l) (reported : one ≡ env_reported r l env)
    (raised : Raised g (map range_walk (reverse l.mutations)) one.identifiers two.identifiers)
    (framed_two : two ≡ record one { identifiers = two.identifiers })
    (same : kept ≡ g) (cut : CutOff r two ids kept part) where
  whole_two : two ≡ with_swept r l env ids fits two.identifiers
  whole_two = framed_two ∙ ap (λ (z : Environment). let v : Environment = record z { identifiers = two.identifiers } in
      v) reported

  cut_two : CutOff r (with_swept r l env ids fits two.identifiers) ids g part
  cut_two = subst (λ z. CutOff r z ids g part) whole_two (subst (λ z. CutOff r two ids z part) same cut)

  raised_two : Raised g (map range_walk (reverse l.mutations)) env.identifiers two.identifiers
  raised_two = subst (λ (z : Environment).
      Raised g (map range_walk (reverse l.mutations)) z.identifiers two.identifiers) reported raised

  pub step_part : (h : Nodes) → h ≡ (after_marks r l.mutations (part, two)).0 → IsPart ids (mutations_done r l env).0 h
  step_part h at =
      subst (IsPart ids (mutations_done r l env).0)
      (sym (at ∙ ap (λ (z : Environment). (after_marks r l.mutations (part, z)).0) whole_two))
      (marks_part r l env ids fits g part two.identifiers is raised_two cut_two)

  pub step_env : (after : Environment) → after ≡ renders_done r l (after_marks r l.mutations (part, two)) → after
      ≡ renders_done r l (mutations_done r l env)
  step_env after at = at ∙ ap (λ (z : Environment). renders_done r l (after_marks r l.mutations (part, z))) whole_two
      ∙ done_part r l env ids fits g part two.identifiers is raised_two cut_two

  pub step_within : Within (length two.identifiers) part
  step_within =
      let all : Within (length env.identifiers) g =
      subst (Within (length env.identifiers)) (sym is)
      (graph_within (length env.identifiers) l.events fits.events) in
      let size : length two.identifiers ≡ length env.identifiers = raised_two.rise.size in
      subst (λ n. Within n part) (sym size) (within_kept (length env.identifiers) g part cut_two.part.ids all)
