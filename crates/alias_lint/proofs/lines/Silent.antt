-- Where no nested function has a report, walks and renders find none.
use Rattle.std.proofs.Common.{◌≡◌, ℕ, zero, suc, ◌==◌, Bool, true, false, cond, not, ◌||◌, List, [], ◌∷◌, ◌++◌, Option}
use Rattle.std.proofs.Common.{Some, None, is_some, fold, length, slice_get, refl, ap, ◌∙◌, ⊎_elim, arith}
use Rattle.std.specs.List.{list_any}
use Rattle.std.proofs.lemmas.Bool.Decides.{eqb_tells}
use Rattle.alias_base.specs.declared.ids.FunctionId.{FunctionId}
use Rattle.alias_base.specs.declared.ids.IdentifierId.{IdentifierId}
use Rattle.alias_hir.specs.declared.env.Environment.{Environment}
use Rattle.alias_hir.specs.declared.hir.HirFunction.{HirFunction}
use Rattle.alias_hir.specs.declared.report.Report.{Report}
use Rattle.alias_hir.specs.ReportNumbers.{effect_reports, summary, summary_reports}
use Rattle.alias_graph.specs.declared.types.Entry.{Entry}
use Rattle.alias_graph.specs.declared.types.NodeValue.{NodeValue}
use Rattle.alias_graph.specs.declared.types.NodeValue.TheVariants.{Object, Phi, Function}
use Rattle.alias_graph.specs.declared.types.Origin.{Origin}
use Rattle.alias_graph.specs.NodeMarks.{marked}
use Rattle.alias_graph.specs.Nodes.{Node, Nodes, node_at}
use Rattle.alias_graph.specs.Renders.{rendered, render_reports}
use Rattle.alias_graph.specs.Reports.{value_reports, reported_at, reports_after}
use Rattle.alias_graph.specs.declared.recorded.listing.Listing.{Listing}
use Rattle.alias_graph.specs.declared.recorded.listing.RecordedMutation.{RecordedMutation}
use Rattle.alias_graph.specs.declared.recorded.listing.RecordedRender.{RecordedRender}
use Rattle.alias_range_pass.specs.summary.Walking.{start_origin, expanded, mutation_start}
use Rattle.alias_lint.specs.Sites.{in_root, lints_at}
use Rattle.alias_lint.specs.WalkLints.{walk_reports, after_walk, mutation_lints, render_lint, render_lints, found_lints}
use Rattle.alias_lint.specs.lines.Summaries.{has_report, any_report}

-- ---- summaries

neither : (a b : Bool) → (a || b) ≡ false → (a ≡ false) × (b ≡ false)
neither true b h = cc
neither false b h = (refl, h)

is_zero : (n : ℕ) → not (n == 0) ≡ false → n ≡ 0
is_zero n h = ⊎_elim (λ t. t.1) (λ f. let e : not (n == 0) ≡ true = ap not f.0 in cc) (eqb_tells n 0)

none_there : (rs : List Report) → not (length rs == 0) ≡ false → rs ≡ []
none_there [] h = refl
none_there (r ∷ rs) h = let e : length (r ∷ rs) ≡ 0 = is_zero (length (r ∷ rs)) h in absurd (omega arith)

none_at : (env : Environment) (fs : List HirFunction) → list_any (has_report env) fs ≡ false → (k : ℕ)
    → effect_reports env.interned (summary (slice_get fs k)) ≡ []
none_at env [] h k = refl
none_at env (f ∷ fs) h zero = none_there (effect_reports env.interned (summary (Some f)))
    (neither (has_report env f) (list_any (has_report env) fs) h).0
none_at env (f ∷ fs) h (suc k) = none_at env fs (neither (has_report env f) (list_any (has_report env) fs) h).1 k

abbrev IsSilent : Environment → Type 0
IsSilent env = (k : FunctionId) → summary_reports env k ≡ []

silent : (env : Environment) → any_report env ≡ false → IsSilent env
silent env h k = none_at env env.functions h k.0

-- ---- walks and renders

module _ (env : Environment) (quiet : IsSilent env) where
  value_silent : (v : NodeValue) → value_reports env v ≡ []
  value_silent Object = refl
  value_silent Phi = refl
  value_silent (Function k) = quiet k

  unless_silent : (b : Bool) (rs : List Report) → rs ≡ [] → cond b [] rs ≡ []
  unless_silent true rs h = refl
  unless_silent false rs h = h

  node_silent : (o : Option Node) → reported_at env o ≡ []
  node_silent None = refl
  node_silent (Some n) = unless_silent (is_some n.local || is_some n.transitive) (value_reports env n.value)
      (value_silent n.value)

  walk_silent : (index : ℕ) (origin : Origin) (g : Nodes) (done : List Entry) → reports_after env index origin g done
      ≡ []
  walk_silent index origin g [] = refl
  walk_silent index origin g (e ∷ done) =
      ap (λ z. z ++ reported_at env (node_at (marked index origin g done) e.id)) (walk_silent index origin g done)
      ∙ node_silent (node_at (marked index origin g done) e.id)

  render_silent : (g : Nodes) (ids : List IdentifierId) → render_reports env g ids ≡ []
  render_silent g [] = refl
  render_silent g (id ∷ ids) = ap (λ z. z ++ reported_at env (node_at g id)) (render_silent g ids)
      ∙ node_silent (node_at g id)

  module _ (f : HirFunction) where
    mutations_silent : (g : Nodes) (ms : List RecordedMutation) → mutation_lints env f g ms ≡ []
    mutations_silent g [] = refl
    mutations_silent g (m ∷ ms) =
        ap (λ z. lints_at (in_root f m.instruction) z ++ mutation_lints env f (after_walk g m) ms)
        (walk_silent m.index (start_origin (mutation_start m)) g (expanded g (mutation_start m)))
        ∙ mutations_silent (after_walk g m) ms

    renders_silent : (g : Nodes) (rs : List RecordedRender) → render_lints env f g rs ≡ []
    renders_silent g [] = refl
    renders_silent g (r ∷ rs) =
        ap (λ z. lints_at (in_root f r.instruction) z ++ render_lints env f g rs)
        (render_silent g (rendered g r.index r.place.identifier).done)
        ∙ renders_silent g rs

pub found_none : (env : Environment) (f : HirFunction) (g : Nodes) (l : Listing) → any_report env ≡ false
    → found_lints env f g l ≡ []
found_none env f g l h =
    ap (λ z. z ++ render_lints env f (fold after_walk g l.mutations) l.renders)
    (mutations_silent env (silent env h) f g l.mutations)
    ∙ renders_silent env (silent env h) f (fold after_walk g l.mutations) l.renders
