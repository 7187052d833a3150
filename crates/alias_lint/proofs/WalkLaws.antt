-- The lints of walks and renders, without their places, are the reports that these record.
use Rattle.std.proofs.Common.{◌≡◌, ℕ, Bool, true, false, cond, ◌||◌, List, [], ◌∷◌, ◌++◌, Option, Some, None, fold}
use Rattle.std.proofs.Common.{is_some, refl, ap, sym, ◌∙◌, append_assoc, append-nil}
use Rattle.std.specs.Prelude.{Ok}
use Rattle.alias_base.specs.declared.ids.IdentifierId.{IdentifierId}
use Rattle.alias_hir.specs.declared.env.Environment.{Environment}
use Rattle.alias_hir.specs.declared.hir.HirFunction.{HirFunction}
use Rattle.alias_hir.specs.ReportNumbers.{effect_reports}
use Rattle.alias_graph.specs.declared.types.Entry.{Entry}
use Rattle.alias_graph.specs.declared.types.NodeValue.{NodeValue}
use Rattle.alias_graph.specs.declared.types.NodeValue.TheVariants.{Object, Phi, Function}
use Rattle.alias_graph.specs.declared.types.Origin.{Origin}
use Rattle.alias_graph.specs.NodeMarks.{marked}
use Rattle.alias_graph.specs.Nodes.{Node, Nodes, node_at}
use Rattle.alias_graph.specs.Renders.{rendered, render_reports}
use Rattle.alias_graph.specs.Reports.{value_reports, reported_at, reports_after}
use Rattle.alias_graph.specs.declared.recorded.listing.Listing.{Listing}
use Rattle.alias_graph.specs.declared.recorded.listing.RecordedMutation.{RecordedMutation}
use Rattle.alias_graph.specs.declared.recorded.listing.RecordedRender.{RecordedRender}
use Rattle.alias_graph.specs.recorded.BlockListings.{listed}
use Rattle.alias_graph.specs.recorded.Recording.{graph_listed}
use Rattle.alias_range_pass.specs.summary.Walking.{Walked, start_origin, expanded, mutation_start, after_mutation}
use Rattle.alias_range_pass.specs.summary.Walking.{after_mutations, after_render, after_renders, env_reported}
use Rattle.alias_range_pass.specs.summary.Walking.{mutations_done, renders_done}
use Rattle.alias_lint.specs.declared.sites.Lint.{Lint}
use Rattle.alias_lint.specs.LintLaws.{SameReports}
use Rattle.alias_lint.specs.Sites.{reports_of, in_root}
use Rattle.alias_lint.specs.WalkLints.{effect_lints, walk_reports, after_walk, mutation_lints, render_lints}
use Rattle.alias_lint.specs.WalkLints.{walked_lints, walk_lints}
use Rattle.alias_lint.proofs.EffectLaws.{effects_same}
use Rattle.alias_lint.proofs.Lists.{reports_back, reports_more}

module _ (env more : Environment) (same : SameReports env more) where
  value_same : (v : NodeValue) → value_reports more v ≡ value_reports env v
  value_same Object = refl
  value_same Phi = refl
  value_same (Function k) = same k

  node_same : (o : Option Node) → reported_at more o ≡ reported_at env o
  node_same None = refl
  node_same (Some n) = ap (λ z. cond (is_some n.local || is_some n.transitive) [] z) (value_same n.value)

  walk_same : (index : ℕ) (origin : Origin) (g : Nodes) (done : List Entry) → reports_after more index origin g done
      ≡ reports_after env index origin g done
  walk_same index origin g [] = refl
  walk_same index origin g (e ∷ es) =
      ap (λ z. z ++ reported_at more (node_at (marked index origin g es) e.id)) (walk_same index origin g es)
      ∙ ap (λ z. reports_after env index origin g es ++ z) (node_same (node_at (marked index origin g es) e.id))

  render_same : (g : Nodes) (ids : List IdentifierId) → render_reports more g ids ≡ render_reports env g ids
  render_same g [] = refl
  render_same g (id ∷ ids) =
      ap (λ z. z ++ reported_at more (node_at g id)) (render_same g ids)
      ∙ ap (λ z. render_reports env g ids ++ z) (node_same (node_at g id))

-- ---- mutations

nodes_walked : (ms : List RecordedMutation) (w : Walked) → (after_mutations true ms w).0 ≡ fold after_walk w.0 ms
nodes_walked [] w = refl
nodes_walked (m ∷ ms) w = nodes_walked ms (after_mutation true w m)

kept : (env : Environment) (ms : List RecordedMutation) (w : Walked) → SameReports env w.1
    → SameReports env (after_mutations true ms w).1
kept env [] w same = same
kept env (m ∷ ms) w same = kept env ms (after_mutation true w m) same

module _ (env : Environment) (f : HirFunction) where
  mutations_same : (ms : List RecordedMutation) (w : Walked) → SameReports env w.1
      → (after_mutations true ms w).1.errors ≡ w.1.errors ++ reports_of (mutation_lints env f w.0 ms)
  mutations_same [] w same = sym (append-nil w.1.errors)
  mutations_same (m ∷ ms) w same =
      let s = mutation_start m in
      let rest = mutation_lints env f (after_walk w.0 m) ms in
      let here = walk_reports env w.0 m in
      mutations_same ms (after_mutation true w m) same
      ∙ ap (λ z. (w.1.errors ++ z) ++ reports_of rest)
      (walk_same env w.1 same s.index (start_origin s) w.0 (expanded w.0 s))
      ∙ append_assoc w.1.errors here (reports_of rest)
      ∙ ap (λ z. w.1.errors ++ (z ++ reports_of rest)) (sym (reports_back (in_root f m.instruction) here))
      ∙ ap (λ z. w.1.errors ++ z) (sym (reports_more _ rest))

  renders_same : (g : Nodes) (rs : List RecordedRender) (more : Environment) → SameReports env more
      → (after_renders g rs more).errors ≡ more.errors ++ reports_of (render_lints env f g rs)
  renders_same g [] more same = sym (append-nil more.errors)
  renders_same g (r ∷ rs) more same =
      let done = (rendered g r.index r.place.identifier).done in
      let here = render_reports env g done in
      let rest = render_lints env f g rs in
      renders_same g rs (after_render g more r) same
      ∙ ap (λ z. (more.errors ++ z) ++ reports_of rest) (render_same env more same g done)
      ∙ append_assoc more.errors here (reports_of rest)
      ∙ ap (λ z. more.errors ++ (z ++ reports_of rest)) (sym (reports_back (in_root f r.instruction) here))
      ∙ ap (λ z. more.errors ++ z) (sym (reports_more _ rest))

  three_more : (a b c : List Lint) → reports_of (a ++ (b ++ c)) ≡ (reports_of a ++ reports_of b) ++ reports_of c
  three_more a b c = reports_more a (b ++ c) ∙ ap (λ z. reports_of a ++ z) (reports_more b c)
      ∙ sym (append_assoc (reports_of a) (reports_of b) (reports_of c))

  -- where errors are recorded: those of the walks, begun with another environment of the same reports
  recorded_same : (l : Listing) (begun : Environment) → SameReports env begun → begun.interned ≡ env.interned → listed f
      ≡ Ok l
      → (renders_done true l (mutations_done true l begun)).errors ≡ begun.errors ++ reports_of (walked_lints env f l)
  recorded_same l begun same interned h =
      let g = graph_listed l in
      let w : Walked = (g, env_reported true l begun) in
      let walked = mutations_done true l begun in
      let end = fold after_walk g l.mutations in
      let a = effect_lints env f in
      let b = mutation_lints env f g l.mutations in
      let c = render_lints env f end l.renders in
      renders_same walked.0 l.renders walked.1 (kept env l.mutations w same)
      ∙ ap (λ z. walked.1.errors ++ reports_of (render_lints env f z l.renders)) (nodes_walked l.mutations w)
      ∙ ap (λ z. z ++ reports_of c) (mutations_same l.mutations w same)
      ∙ ap (λ z. ((begun.errors ++ z) ++ reports_of b) ++ reports_of c)
      (ap (λ z. effect_reports z l.summary) interned ∙ sym (effects_same env f l h))
      ∙ ap (λ z. z ++ reports_of c) (append_assoc begun.errors (reports_of a) (reports_of b))
      ∙ append_assoc begun.errors (reports_of a ++ reports_of b) (reports_of c)
      ∙ ap (λ z. begun.errors ++ z) (sym (three_more a b c))

  unrecorded : (ms : List RecordedMutation) (w : Walked) → (after_mutations false ms w).1.errors ≡ w.1.errors
  unrecorded [] w = refl
  unrecorded (m ∷ ms) w = unrecorded ms (after_mutation false w m) ∙ append-nil w.1.errors

  -- the lints of error effects, walks and renders, without their places, are what the range pass records of the root
  pub walks_same : (c : Bool) → env.config.enable_validations ≡ c → (l : Listing) (begun : Environment)
      → SameReports env begun → begun.interned ≡ env.interned → listed f ≡ Ok l
      → (renders_done c l (mutations_done c l begun)).errors ≡ begun.errors ++ reports_of (walk_lints env f l)
  walks_same true on l begun same interned h =
      recorded_same l begun same interned h
      ∙ ap (λ b. begun.errors ++ reports_of (cond b (walked_lints env f l) [])) (sym on)
  walks_same false off l begun same interned h =
      unrecorded l.mutations (graph_listed l, env_reported false l begun)
      ∙ ap (λ b. begun.errors ++ reports_of (cond b (walked_lints env f l) [])) (sym off)
