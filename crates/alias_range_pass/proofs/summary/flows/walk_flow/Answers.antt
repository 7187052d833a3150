use Rattle.std.proofs.Common.{◌≡◌, false, length, ap, ◌∙◌, subst}
use Rattle.alias_hir.specs.declared.env.Environment.{Environment}
use Rattle.alias_graph.specs.Nodes.{Within}
use Rattle.alias_range_pass.specs.declared.summary.start.WalkStart.{WalkStart}
use Rattle.alias_range_pass.specs.summary.Walking.{env_after}
use Rattle.alias_range_pass.proofs.summary.Simulated.{simulated}
use Rattle.alias_range_pass.proofs.summary.flows.walk_flow.Goals as goal

pub returns-clause-env : goal.returns-clause-env
returns-clause-env c =
    let after : WalkStart → Environment = λ z. env_after false z c.args.graph.now c.args.env.now in
    c.in_ok-walk.ensures.env ∙ ap after c.flow_start.ensures
    ∙ simulated c.args.index c.args.into.now c.args.graph.now c.args.env.now

pub returns-clause-within : goal.returns-clause-within
returns-clause-within c =
    let after : WalkStart → Environment = λ z. env_after false z c.args.graph.now c.args.env.now in
    let same : c.walk.new.env ≡ c.args.env.now = c.in_ok-walk.ensures.env ∙ ap after c.flow_start.ensures
    ∙ simulated c.args.index c.args.into.now c.args.graph.now c.args.env.now in
    let P : Environment → Type 0 = λ z. Within (length z.identifiers) c.walk.new.graph in
    subst P same c.in_ok-walk.ensures.within
