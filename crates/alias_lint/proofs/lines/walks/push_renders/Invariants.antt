use Rattle.std.proofs.Common.{◌≡◌, ◌++◌, drop}
use Rattle.alias_lint.specs.WalkLints.{render_lints}
use Rattle.alias_lint.proofs.lines.walks.push_renders.Given as goal

abbrev pub invariant-loop-render : goal.invariant-loop-render
invariant-loop-render l =
    (l.lints ++ render_lints l.env l.func l.graph (drop l.render-index l.renders) ≡ l.initial.lints
    ++ render_lints l.initial.env l.func l.graph l.renders)
    × (l.env ≡ l.initial.env)
