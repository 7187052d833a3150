use Rattle.std.proofs.Common.{◌≡◌, OnOk, ap, ◌∙◌, subst}
use Rattle.alias_hir.specs.declared.env.Environment.{Environment}
use Rattle.alias_graph.specs.Flat.{nodes_of}
use Rattle.alias_graph.specs.Renders.{rendered, render_reports}
use Rattle.alias_graph.specs.Reports.{with_reports}
use Rattle.alias_graph.proofs.Lighting.{render_visits}
use Rattle.alias_graph.proofs.ReportLaws.{answered}
use Rattle.alias_graph.proofs.graph.AliasGraph.render.Goals as goal

pub returns-clause-env : goal.returns-clause-env
returns-clause-env c =
    let env = c.args.env.now in
    subst (λ (e : Environment). OnOk c.render_walk.result (c.render_walk.new.env ≡ e))
    (
    ap (λ l. with_reports (render_reports env (nodes_of l c.self.inside.nodes)
    (rendered (nodes_of l c.self.inside.nodes) c.args.index c.args.start).done) env) c.as_slice.ensures
    ∙ ap (λ z. with_reports (render_reports env z (rendered z c.args.index c.args.start).done) env) c.self.view_is
    )
    c.render_walk.ensures.env

pub returns-clause-renders : goal.returns-clause-renders
returns-clause-renders c = answered _ (render_visits c.args.self.now c.args.index c.args.start)
