-- What walks and renders leave in a part of a graph, where the rest is cut off.
use Rattle.std.proofs.Common.{◌≡◌, ℕ, ◌+◌, ◌*◌, ⊎_elim, Bool, true, false, cond, ◌||◌, IsTrue, List, [], ◌∷◌, ◌++◌}
use Rattle.std.proofs.Common.{Option, Some, None, nat_lt, is_some, option_map, inl, inr, refl, ap, sym, ◌∙◌, subst}
use Rattle.std.proofs.Common.{append-nil}
use Rattle.std.proofs.lemmas.Bool.{cases_eq, false≢true}
use Rattle.alias_base.specs.declared.ids.IdentifierId.{IdentifierId}
use Rattle.alias_hir.specs.declared.env.Environment.{Environment}
use Rattle.alias_hir.specs.declared.report.Report.{Report}
use Rattle.alias_graph.specs.declared.types.Entry.{Entry}
use Rattle.alias_graph.specs.declared.types.MutationKind.{MutationKind}
use Rattle.alias_graph.specs.declared.types.Origin.{Origin}
use Rattle.alias_graph.specs.Graph.{changed}
use Rattle.alias_graph.specs.Legal.{Link, forward_alias, forward_maybe_alias, forward_capture, created_from, alias}
use Rattle.alias_graph.specs.Legal.{maybe_alias, capture}
use Rattle.alias_graph.specs.Links.{covers, back_entries, forward_entries, opens, alias_entries, capture_entries}
use Rattle.alias_graph.specs.Links.{led_to, led_from, next, node_exists, walk, all_links}
use Rattle.alias_graph.specs.NodeMarks.{visited, marked}
use Rattle.alias_graph.specs.Nodes.{Source, Node, Nodes, node_at, same_id}
use Rattle.alias_graph.specs.Parts.{LeadsOut, HasNoLink, SamePart, IsQuiet}
use Rattle.alias_graph.specs.Renders.{is_lit, lit, before, sources_of, sources_at_node, sources, rendered}
use Rattle.alias_graph.specs.Renders.{render_reports}
use Rattle.alias_graph.specs.Reports.{value_reports, reported_at, reports_after}
use Rattle.alias_graph.specs.Walks.{IsOneOf}
use Rattle.alias_graph.proofs.Covering.{eqb_is, opened}
use Rattle.alias_graph.proofs.Effects.{changed_here, changed_apart}
use Rattle.alias_graph.proofs.Ending.{walk_empties}
use Rattle.alias_graph.proofs.Endings.{run_empties}
use Rattle.alias_graph.proofs.Legality.{link_of, in_either}
use Rattle.alias_graph.proofs.Lighting.{renders_few}
use Rattle.alias_graph.proofs.PartWalks.{kept, none_kept, PartLaws, same_part}
use Rattle.alias_graph.proofs.Reaching.{id_is}
use Rattle.alias_graph.proofs.Shapes.{shape, marked_shape}
use Rattle.alias_graph.proofs.Within.{marked_same}

-- ---- a node without links leads nowhere

no_aliases : (b : Bool) (m : ℕ) (t : Bool) (k : MutationKind) → alias_entries b m t k [] [] ≡ []
no_aliases true m t k = refl
no_aliases false m t k = refl

no_captures : (b : Bool) (m : ℕ) (k : MutationKind) → capture_entries b m k [] ≡ []
no_captures true m k = refl
no_captures false m k = refl

nothing_led : (m : ℕ) (e : Entry) (n : Node) → HasNoLink n → led_to m e n ≡ []
nothing_led m e n h =
    let b = opens n.value e.direction in
    let t = e.transitive in
    let k = e.kind in
    ap (λ z. forward_entries m t k z ++ back_entries m true k n.created_from
    ++ alias_entries b m t k n.aliases n.maybe_aliases ++ capture_entries t m k n.captures) h.forward
    ∙ ap (λ z. [] ++ back_entries m true k z ++ alias_entries b m t k n.aliases n.maybe_aliases
    ++ capture_entries t m k n.captures) h.created_from
    ∙ ap (λ z. [] ++ [] ++ alias_entries b m t k z n.maybe_aliases ++ capture_entries t m k n.captures) h.aliases
    ∙ ap (λ z. [] ++ [] ++ alias_entries b m t k [] z ++ capture_entries t m k n.captures) h.maybe_aliases
    ∙ ap (λ z. [] ++ [] ++ z ++ capture_entries t m k n.captures) (no_aliases b m t k)
    ∙ ap (λ z. [] ++ [] ++ [] ++ capture_entries t m k z) h.captures
    ∙ ap (λ z. [] ++ [] ++ [] ++ z) (no_captures t m k)

no_sources : (m : ℕ) (n : Node) → HasNoLink n → sources_of m n ≡ []
no_sources m n h =
    ap (λ z. before m z ++ before m n.aliases ++ before m n.captures) h.created_from
    ∙ ap (λ z. [] ++ before m z ++ before m n.captures) h.aliases
    ∙ ap (λ z. [] ++ [] ++ before m z) h.captures

-- ---- marks change no link and no value

shaped : (o : Option Node) (n : Node) → option_map shape o ≡ Some (shape n) → (w : Node) × (o ≡ Some w)
    × (shape w ≡ shape n)
shaped None n h = cc
shaped (Some w) n h = (w, refl, cc)

-- the node before the marks
unmarked : (index : ℕ) (origin : Origin) (g : Nodes) (done : List Entry) (id : IdentifierId) (n : Node)
    → node_at (marked index origin g done) id ≡ Some n → (w : Node) × (node_at g id ≡ Some w) × (shape w ≡ shape n)
unmarked index origin g done id n at = shaped (node_at g id) n
    (sym (marked_shape index origin g done id) ∙ ap (option_map shape) at)

module _ (keep : IdentifierId → Bool) where
  abbrev pub keeps : Entry → Bool
  keeps e = keep e.id

  out_shape : (n : Node) → LeadsOut keep n → LeadsOut keep (shape n)
  out_shape n h = record {
    forward = h.forward;
    created_from = h.created_from;
    captures = h.captures;
    aliases = h.aliases;
    maybe_aliases = h.maybe_aliases;
  }

  out_unshape : (n : Node) → LeadsOut keep (shape n) → LeadsOut keep n
  out_unshape n h = record {
    forward = h.forward;
    created_from = h.created_from;
    captures = h.captures;
    aliases = h.aliases;
    maybe_aliases = h.maybe_aliases;
  }

  bare_shape : (n : Node) → HasNoLink n → HasNoLink (shape n)
  bare_shape n h = record {
    forward = h.forward;
    created_from = h.created_from;
    captures = h.captures;
    aliases = h.aliases;
    maybe_aliases = h.maybe_aliases;
  }

  bare_unshape : (n : Node) → HasNoLink (shape n) → HasNoLink n
  bare_unshape n h = record {
    forward = h.forward;
    created_from = h.created_from;
    captures = h.captures;
    aliases = h.aliases;
    maybe_aliases = h.maybe_aliases;
  }

  same_keeps : (d e : Entry) → IsTrue (covers d e) → keep d.id ≡ keep e.id
  same_keeps d e h = ap keep (id_is d.id e.id (opened d e h).id)

  link_out : (m : ℕ) (n : Node) (e f : Entry) → LeadsOut keep n → Link m n e f → keep f.id ≡ false
  link_out m n e f o (forward_alias l i lt k is) = ap (λ (z : Entry). keep z.id) is ∙ o.forward l i
  link_out m n e f o (forward_maybe_alias l i lt k is) = ap (λ (z : Entry). keep z.id) is ∙ o.forward l i
  link_out m n e f o (forward_capture l i lt k is) = ap (λ (z : Entry). keep z.id) is ∙ o.forward l i
  link_out m n e f o (created_from l i lt is) = ap (λ (z : Entry). keep z.id) is ∙ o.created_from l i
  link_out m n e f o (alias l i lt free is) = ap (λ (z : Entry). keep z.id) is ∙ o.aliases l i
  link_out m n e f o (maybe_alias l i lt free is) = ap (λ (z : Entry). keep z.id) is ∙ o.maybe_aliases l i
  link_out m n e f o (capture l i lt t is) = ap (λ (z : Entry). keep z.id) is ∙ o.captures l i

  before_out : (m : ℕ) (ls : List Source) → ((l : Source) → IsOneOf l ls → keep l.other ≡ false) → (id : IdentifierId)
      → IsOneOf id (before m ls) → keep id ≡ false
  before_out m [] h id i = absurd i
  before_out m (l ∷ ls) h id i = elim (nat_lt l.index m) as
      (λ b. IsOneOf id (cond b (l.other ∷ before m ls) (before m ls)) → keep id ≡ false) [
        | true ↦ λ j. ⊎_elim (λ same. ap keep same ∙ h l (inl refl))
            (λ other. before_out m ls (λ x k. h x (inr k)) id other) j
        | false ↦ λ j. before_out m ls (λ x k. h x (inr k)) id j
      ] i

  sources_out : (m : ℕ) (n : Node) → LeadsOut keep n → (id : IdentifierId) → IsOneOf id (sources_of m n) → keep id
      ≡ false
  sources_out m n o id i = ⊎_elim
      (λ two. ⊎_elim
      (λ a. before_out m n.created_from o.created_from id a)
      (λ a. before_out m n.aliases o.aliases id a)
      (in_either (before m n.created_from) (before m n.aliases) id two))
      (λ a. before_out m n.captures o.captures id a)
      (in_either (before m n.created_from ++ before m n.aliases) (before m n.captures) id i)

  -- ---- the marks of the part

  module _ (index : ℕ) (origin : Origin) where
    one_alike : (g h : Nodes) (d : Entry) (id : IdentifierId) → node_at g id ≡ node_at h id
        → node_at (changed g d.id (visited index origin d)) id ≡ node_at (changed h d.id (visited index origin d)) id
    one_alike g h d id is = ⊎_elim
        (λ same.
        let to : d.id ≡ id = id_is d.id id same in
        let f = visited index origin d in
        ap (λ z. node_at (changed g z f) id) to ∙ changed_here g id f ∙ ap (option_map f) is ∙ sym (changed_here h id f)
        ∙ ap (λ z. node_at (changed h z f) id) (sym to))
        (λ other. changed_apart g d.id id (visited index origin d) other ∙ is
        ∙ sym (changed_apart h d.id id (visited index origin d) other))
        (cases_eq d.id.0 id.0)

    not_it : (d : Entry) (id : IdentifierId) → keep d.id ≡ false → keep id ≡ true → d.id.0 ≡ id.0 → ⊥
    not_it d id out is same = false≢true (sym out ∙ ap keep (id_is d.id id same) ∙ is)

    marked_kept : (g : Nodes) (done : List Entry) (id : IdentifierId) → keep id ≡ true
        → node_at (marked index origin g done) id ≡ node_at (marked index origin g (kept keeps done)) id
    marked_kept g [] id is = refl
    marked_kept g (d ∷ done) id is = elim (keep d.id) as
        (λ b. keep d.id ≡ b → node_at (changed (marked index origin g done) d.id (visited index origin d)) id
        ≡ node_at (marked index origin g (cond b (d ∷ kept keeps done) (kept keeps done))) id) [
          | true ↦ λ k. one_alike (marked index origin g done) (marked index origin g (kept keeps done)) d id
              (marked_kept g done id is)
          | false ↦ λ k. changed_apart (marked index origin g done) d.id id (visited index origin d) (not_it d id k is)
              ∙ marked_kept g done id is
        ] refl

    marked_alike : (g h : Nodes) (done : List Entry) (id : IdentifierId) → node_at h id ≡ node_at g id
        → node_at (marked index origin h done) id ≡ node_at (marked index origin g done) id
    marked_alike g h [] id is = is
    marked_alike g h (d ∷ done) id is = one_alike (marked index origin h done) (marked index origin g done) d id
        (marked_alike g h done id is)

  module _ (g h : Nodes) (same : SamePart keep g h) where
    out_at : (m : ℕ) (e f : Entry) (o : Option Node) → node_at g e.id ≡ o → keep e.id ≡ false
        → IsOneOf f (led_from m e o) → keep f.id ≡ false
    out_at m e f None at k i = absurd i
    out_at m e f (Some n) at k i = link_out m n e f (same.outside e.id n at k) (link_of m n e f i)

    nowhere_at : (m : ℕ) (e : Entry) (o : Option Node) → node_at h e.id ≡ o → keep e.id ≡ false → led_from m e o ≡ []
    nowhere_at m e None at k = refl
    nowhere_at m e (Some n) at k = nothing_led m e n (same.cut_off e.id n at k)

    walk_laws : (m : ℕ) → PartLaws keeps covers (node_exists g) (node_exists h) (next g m) (next h m)
    walk_laws m = record {
      alike = same_keeps;
      exists = λ e is. ap is_some (same.alike e.id is);
      next = λ e is. ap (led_from m e) (same.alike e.id is);
      out = λ e k. none_kept keeps (next g m e) (λ f i. out_at m e f (node_at g e.id) refl k i);
      nowhere = λ e k. nowhere_at m e (node_at h e.id) refl k;
    }

    -- both walks expand the same of the part, in the same order
    pub walks_part : (m : ℕ) (s : Entry) → kept keeps (walk g m s).done ≡ kept keeps (walk h m s).done
    walks_part m s = same_part keeps covers (node_exists g) (node_exists h) (next g m) (next h m) (walk_laws m) s
        (1 + 8 * all_links g) (1 + 8 * all_links h) (walk_empties g m s) (walk_empties h m s)

    sources_out_at : (m : ℕ) (e id : IdentifierId) (o : Option Node) → node_at g e ≡ o → keep e ≡ false
        → IsOneOf id (sources_at_node m o) → keep id ≡ false
    sources_out_at m e id None at k i = absurd i
    sources_out_at m e id (Some n) at k i = sources_out m n (same.outside e n at k) id i

    no_sources_at : (m : ℕ) (e : IdentifierId) (o : Option Node) → node_at h e ≡ o → keep e ≡ false
        → sources_at_node m o ≡ []
    no_sources_at m e None at k = refl
    no_sources_at m e (Some n) at k = no_sources m n (same.cut_off e n at k)

    render_laws : (m : ℕ) → PartLaws keep same_id (lit g) (lit h) (sources g m) (sources h m)
    render_laws m = record {
      alike = λ d e is. ap keep (id_is d e (eqb_is d.0 e.0 is));
      exists = λ e is. ap is_lit (same.alike e is);
      next = λ e is. ap (sources_at_node m) (same.alike e is);
      out = λ e k. none_kept keep (sources g m e) (λ f i. sources_out_at m e f (node_at g e) refl k i);
      nowhere = λ e k. no_sources_at m e (node_at h e) refl k;
    }

    render_empties : (k : Nodes) (m : ℕ) (s : IdentifierId) → (rendered k m s).stack ≡ []
    render_empties k m s = run_empties same_id (lit k) (sources k m) s (1 + all_links k)
        (renders_few k m s (1 + all_links k))

    -- both renders do too
    pub renders_part : (m : ℕ) (s : IdentifierId) → kept keep (rendered g m s).done ≡ kept keep (rendered h m s).done
    renders_part m s = same_part keep same_id (lit g) (lit h) (sources g m) (sources h m) (render_laws m) s
        (1 + all_links g) (1 + all_links h) (render_empties g m s) (render_empties h m s)

    -- ---- after walks that expanded the same of the part

    module _ (index : ℕ) (origin : Origin) (ds cs : List Entry) (expanded : kept keeps ds ≡ kept keeps cs) where
      pub marked_part : SamePart keep (marked index origin g ds) (marked index origin h cs)
      marked_part = record {
        ids = λ q. marked_same index origin h cs q ∙ same.ids q ∙ sym (marked_same index origin g ds q);
        alike = λ id is.
            marked_kept index origin h cs id is
            ∙ ap (λ z. node_at (marked index origin h z) id) (sym expanded)
            ∙ marked_alike index origin g h (kept keeps ds) id (same.alike id is)
            ∙ sym (marked_kept index origin g ds id is);
        outside = λ id n at k. let w = unmarked index origin g ds id n at in
            out_unshape n (subst (LeadsOut keep) w.2 (out_shape w.0 (same.outside id w.0 w.1 k)));
        cut_off = λ id n at k. let w = unmarked index origin h cs id n at in
            bare_unshape n (subst HasNoLink w.2 (bare_shape w.0 (same.cut_off id w.0 w.1 k)));
      }

  -- ---- reports

  pub quiet_marked : (env : Environment) (g : Nodes) (index : ℕ) (origin : Origin) (done : List Entry)
      → IsQuiet keep env g → IsQuiet keep env (marked index origin g done)
  quiet_marked env g index origin done quiet id n at k =
      let w = unmarked index origin g done id n at in
      ap (λ (z : Node). value_reports env z.value) (sym w.2) ∙ quiet id w.0 w.1 k

  no_reports : (b : Bool) (rs : List Report) → rs ≡ [] → cond b [] rs ≡ []
  no_reports true rs is = refl
  no_reports false rs is = is

  quiet_at : (env : Environment) (g : Nodes) (id : IdentifierId) (o : Option Node) → IsQuiet keep env g → node_at g id
      ≡ o → keep id ≡ false → reported_at env o ≡ []
  quiet_at env g id None quiet at k = refl
  quiet_at env g id (Some n) quiet at k =
      no_reports (is_some n.local || is_some n.transitive) (value_reports env n.value) (quiet id n at k)

  module _ (env : Environment) (index : ℕ) (origin : Origin) where
    abbrev reported : Nodes → List Entry → List Report
    reported g done = reports_after env index origin g done

    reported_kept : (g : Nodes) → IsQuiet keep env g → (done : List Entry) → reported g done
        ≡ reported g (kept keeps done)
    reported_kept g quiet [] = refl
    reported_kept g quiet (d ∷ done) = elim (keep d.id) as
        (λ b. keep d.id ≡ b → reported g done ++ reported_at env (node_at (marked index origin g done) d.id)
        ≡ reported g (cond b (d ∷ kept keeps done) (kept keeps done))) [
          | true ↦ λ k. ap (λ z. z ++ reported_at env (node_at (marked index origin g done) d.id))
              (reported_kept g quiet done) ∙ ap (λ z. reported g (kept keeps done) ++ reported_at env z)
              (marked_kept index origin g done d.id k)
          | false ↦ λ k.
              ap (λ z. reported g done ++ z) (quiet_at env (marked index origin g done) d.id
              (node_at (marked index origin g done) d.id) (quiet_marked env g index origin done quiet) refl k)
              ∙ append-nil (reported g done) ∙ reported_kept g quiet done
        ] refl

    reported_alike : (g h : Nodes) → SamePart keep g h → (done : List Entry) → reported h (kept keeps done)
        ≡ reported g (kept keeps done)
    reported_alike g h same [] = refl
    reported_alike g h same (d ∷ done) = elim (keep d.id) as
        (λ b. keep d.id ≡ b → reported h (cond b (d ∷ kept keeps done) (kept keeps done))
        ≡ reported g (cond b (d ∷ kept keeps done) (kept keeps done))) [
          | true ↦ λ k.
              ap (λ z. z ++ reported_at env (node_at (marked index origin h (kept keeps done)) d.id))
              (reported_alike g h same done)
              ∙ ap (λ z. reported g (kept keeps done) ++ reported_at env z)
              (marked_alike index origin g h (kept keeps done) d.id (same.alike d.id k))
          | false ↦ λ k. reported_alike g h same done
        ] refl

    -- walks that expanded the same of the part tell the same
    pub reported_part : (g h : Nodes) → SamePart keep g h → IsQuiet keep env g → IsQuiet keep env h
        → (ds cs : List Entry) → kept keeps ds ≡ kept keeps cs → reported h cs ≡ reported g ds
    reported_part g h same quiet other ds cs expanded = reported_kept h other cs ∙ ap (reported h) (sym expanded)
        ∙ reported_alike g h same ds ∙ sym (reported_kept g quiet ds)

  module _ (env : Environment) where
    lit_kept : (g : Nodes) → IsQuiet keep env g → (ids : List IdentifierId) → render_reports env g ids
        ≡ render_reports env g (kept keep ids)
    lit_kept g quiet [] = refl
    lit_kept g quiet (id ∷ ids) = elim (keep id) as
        (λ b. keep id ≡ b → render_reports env g ids ++ reported_at env (node_at g id)
        ≡ render_reports env g (cond b (id ∷ kept keep ids) (kept keep ids))) [
          | true ↦ λ k. ap (λ z. z ++ reported_at env (node_at g id)) (lit_kept g quiet ids)
          | false ↦ λ k. ap (λ z. render_reports env g ids ++ z) (quiet_at env g id (node_at g id) quiet refl k)
              ∙ append-nil (render_reports env g ids) ∙ lit_kept g quiet ids
        ] refl

    lit_alike : (g h : Nodes) → SamePart keep g h → (ids : List IdentifierId) → render_reports env h (kept keep ids)
        ≡ render_reports env g (kept keep ids)
    lit_alike g h same [] = refl
    lit_alike g h same (id ∷ ids) = elim (keep id) as
        (λ b. keep id ≡ b → render_reports env h (cond b (id ∷ kept keep ids) (kept keep ids))
        ≡ render_reports env g (cond b (id ∷ kept keep ids) (kept keep ids))) [
          | true ↦ λ k. ap (λ z. z ++ reported_at env (node_at h id)) (lit_alike g h same ids)
              ∙ ap (λ z. render_reports env g (kept keep ids) ++ reported_at env z) (same.alike id k)
          | false ↦ λ k. lit_alike g h same ids
        ] refl

    -- renders that expanded the same of the part tell the same
    pub rendered_part : (g h : Nodes) → SamePart keep g h → IsQuiet keep env g → IsQuiet keep env h
        → (ds cs : List IdentifierId) → kept keep ds ≡ kept keep cs → render_reports env h cs ≡ render_reports env g ds
    rendered_part g h same quiet other ds cs expanded = lit_kept h other cs ∙ ap (render_reports env h) (sym expanded)
        ∙ lit_alike g h same ds ∙ sym (lit_kept g quiet ds)
