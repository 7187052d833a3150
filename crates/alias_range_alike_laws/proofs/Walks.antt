-- Walks of mutations and renders that are alike leave graphs and environments that are alike.
use Rattle.std.specs.Prelude.{◌≡◌, ℕ, Bool, true, false, cond, List, [], Option}
use Rattle.std.proofs.Common.{ap, sym, subst}
use Rattle.alias_base.specs.declared.ids.EvaluationOrder.{EvaluationOrder}
use Rattle.alias_hir.specs.ReportNumbers.{effect_reports}
use Rattle.alias_hir.specs.declared.effect.MutationReason.{MutationReason}
use Rattle.alias_hir.specs.declared.env.Environment.{Environment}
use Rattle.alias_hir.specs.declared.place.Place.{Place}
use Rattle.alias_hir.specs.declared.report.Interned.{Interned}
use Rattle.alias_hir.specs.declared.report.Report.{Report}
use Rattle.alias_graph.specs.declared.types.Entry.{Entry}
use Rattle.alias_graph.specs.declared.types.Origin.{Origin}
use Rattle.alias_graph.specs.NodeMarks.{marked, with_ranges}
use Rattle.alias_graph.specs.Nodes.{Nodes}
use Rattle.alias_graph.specs.Renders.{rendered, render_reports}
use Rattle.alias_graph.specs.Reports.{walked, with_reports, reports_after}
use Rattle.alias_graph.specs.Walks.{Walk}
use Rattle.alias_graph.specs.declared.recorded.listing.Listing.{Listing}
use Rattle.alias_graph.specs.declared.recorded.listing.RecordedMutation.{RecordedMutation}
use Rattle.alias_graph.specs.declared.recorded.listing.RecordedRender.{RecordedRender}
use Rattle.alias_graph.specs.recorded.Recording.{graph_listed}
use Rattle.alias_range_pass.specs.declared.summary.start.WalkStart.{WalkStart}
use Rattle.alias_range_pass.specs.summary.Walking.{start_entry, start_origin, expanded, nodes_after, env_after}
use Rattle.alias_range_pass.specs.summary.Walking.{mutation_start, Walked, after_mutation, after_mutations}
use Rattle.alias_range_pass.specs.summary.Walking.{after_render, after_renders, env_reported, mutations_done}
use Rattle.alias_range_pass.specs.summary.Walking.{renders_done}
use Rattle.alias_certificate_laws.specs.accepting.Alike.{Paired, none, more, moved}
use Rattle.alias_range_alike_laws.proofs.Around.{AlikeEnv, of_env, reported_alike}
use Rattle.alias_range_alike_laws.proofs.Listings.{AlikeMutation, of_mutation, AlikeRender, AlikeListing, listing}
use Rattle.alias_range_alike_laws.proofs.Nodes.{AlikeNodes, nodes_self, marked_alike, walk_same}

-- the same, but for the reason and what else the place says
pub data AlikeStart : WalkStart → WalkStart → Type 0 where
  of_start : (s : WalkStart) (p : Place) (reason : Option MutationReason)
      → AlikeStart s (record s { place = moved s.place p; reason = reason })

pub start_self : (s : WalkStart) → AlikeStart s s
start_self s = of_start s s.place s.reason

-- ---- one walk

pub expanded_same : (s t : WalkStart) (g h : Nodes) → AlikeStart s t → AlikeNodes g h → expanded h t ≡ expanded g s
expanded_same s t g h (of_start _ p reason) q =
    ap (λ (w : Walk Entry). w.done) (walk_same g h q s.index (start_entry s))

nodes_by : (s t : WalkStart) (g h : Nodes) (es : List Entry) → AlikeStart s t → AlikeNodes g h
    → AlikeNodes (marked s.index (start_origin s) g es) (marked t.index (start_origin t) h es)
nodes_by s t g h es (of_start _ p reason) q =
    marked_alike s.index (start_origin s) (start_origin (record s { place = moved s.place p; reason = reason })) g h es
    q

pub nodes_after_alike : (s t : WalkStart) (g h : Nodes) → AlikeStart s t → AlikeNodes g h
    → AlikeNodes (nodes_after s g) (nodes_after t h)
nodes_after_alike s t g h a q = subst (λ (es : List Entry).
    AlikeNodes (nodes_after s g) (marked t.index (start_origin t) h es)) (sym (expanded_same s t g h a q))
    (nodes_by s t g h (expanded g s) a q)

module _ (P : ℕ → Type 0) (recording : Bool) (interned : List Interned) where
  ranges_alike : (end : Option EvaluationOrder) (es : List Entry) (env other : Environment)
      → AlikeEnv P recording interned env other
      → AlikeEnv P recording interned (with_ranges end es env) (with_ranges end es other)
  ranges_alike end es env other (of_env _ fs errors near same) = of_env (with_ranges end es env) fs errors near same

  walked_alike : (index : ℕ) (o p : Origin) (end : Option EvaluationOrder) (g h : Nodes) (es : List Entry)
      (env other : Environment) → AlikeEnv P recording interned env other
      → AlikeEnv P recording interned (walked recording index o end g es env) (walked recording index p end h es other)
  walked_alike index o p end g h es env other q =
      reported_alike recording interned P (reports_after env index o g es) (reports_after other index p h es)
      (with_ranges end es env) (with_ranges end es other) (ranges_alike end es env other q)

  env_by : (s t : WalkStart) (g h : Nodes) (es : List Entry) (env other : Environment) → AlikeStart s t
      → AlikeEnv P recording interned env other
      → AlikeEnv P recording interned (walked recording s.index (start_origin s) s.end g es env)
      (walked recording t.index (start_origin t) t.end h es other)
  env_by s t g h es env other (of_start _ p reason) q =
      walked_alike s.index (start_origin s) (start_origin (record s { place = moved s.place p; reason = reason })) s.end
      g h es env other q

  env_after_alike : (s t : WalkStart) (g h : Nodes) (env other : Environment) → AlikeStart s t → AlikeNodes g h
      → AlikeEnv P recording interned env other
      → AlikeEnv P recording interned (env_after recording s g env) (env_after recording t h other)
  env_after_alike s t g h env other a q r =
      subst (λ (es : List Entry). AlikeEnv P recording interned (env_after recording s g env)
      (walked recording t.index (start_origin t) t.end h es other)) (sym (expanded_same s t g h a q))
      (env_by s t g h (expanded g s) env other a r)

  -- ---- mutations

  pub record AlikeWalked (w v : Walked) : Type 0 where
    pub nodes : AlikeNodes w.0 v.0
    pub env : AlikeEnv P recording interned w.1 v.1

  start_alike : (m n : RecordedMutation) → AlikeMutation m n → AlikeStart (mutation_start m) (mutation_start n)
  start_alike m n (of_mutation _ p reason) = of_start (mutation_start m) p reason

  mutation_alike : (m n : RecordedMutation) (w v : Walked) → AlikeMutation m n → AlikeWalked w v
      → AlikeWalked (after_mutation recording w m) (after_mutation recording v n)
  mutation_alike m n w v a q = record {
    nodes = nodes_after_alike (mutation_start m) (mutation_start n) w.0 v.0 (start_alike m n a) q.nodes;
    env = env_after_alike (mutation_start m) (mutation_start n) w.0 v.0 w.1 v.1 (start_alike m n a) q.nodes q.env;
  }

  mutations_alike : (ms ns : List RecordedMutation) (w v : Walked) → Paired AlikeMutation ms ns → AlikeWalked w v
      → AlikeWalked (after_mutations recording ms w) (after_mutations recording ns v)
  mutations_alike ms ns w v none q = q
  mutations_alike ms ns w v (more {a = m} {b = n} {xs = us} {ys = vs} a as_) q =
      mutations_alike us vs (after_mutation recording w m) (after_mutation recording v n) as_
      (mutation_alike m n w v a q)

  pub mutations_done_alike : (l m : Listing) (env other : Environment) → AlikeListing l m
      → AlikeEnv P recording interned env other
      → AlikeWalked (mutations_done recording l env) (mutations_done recording m other)
  mutations_done_alike l m env other (listing _ ms rs es a b c) q =
      mutations_alike l.mutations ms (graph_listed l, env_reported recording l env)
      (graph_listed l, with_reports (cond recording (effect_reports other.interned es) []) other) a
      (record {
        nodes = nodes_self (graph_listed l);
        env = reported_alike recording interned P (effect_reports env.interned l.summary)
            (effect_reports other.interned es) env other q;
      })

-- ---- renders

module _ (P : ℕ → Type 0) (interned : List Interned) where
  -- while errors are recorded any may be added
  added_alike : (xs ys : List Report) (env other : Environment) → AlikeEnv P true interned env other
      → AlikeEnv P true interned (with_reports xs env) (with_reports ys other)
  added_alike xs ys env other q = reported_alike true interned P xs ys env other q

  renders_alike : (rs ss : List RecordedRender) (g h : Nodes) (env other : Environment) → Paired AlikeRender rs ss
      → AlikeEnv P true interned env other → AlikeEnv P true interned (after_renders g rs env)
      (after_renders h ss other)
  renders_alike rs ss g h env other none q = q
  renders_alike rs ss g h env other (more {a = r} {b = s} {xs = us} {ys = vs} a as_) q =
      renders_alike us vs g h (after_render g env r) (after_render h other s) as_
      (added_alike (render_reports env g (rendered g r.index r.place.identifier).done)
      (render_reports other h (rendered h s.index s.place.identifier).done) env other q)

  pub renders_done_alike : (recording : Bool) (l m : Listing) (w v : Walked) → AlikeListing l m
      → AlikeWalked P recording interned w v
      → AlikeEnv P recording interned (renders_done recording l w) (renders_done recording m v)
  renders_done_alike true l m w v (listing _ ms rs es a b c) q = renders_alike l.renders rs w.0 v.0 w.1 v.1 b q.env
  renders_done_alike false l m w v a q = q.env
