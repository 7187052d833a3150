use Rattle.std.proofs.Common.{◌≡◌, drop}
use Rattle.alias_range_pass.specs.summary.Keeping.{WalksKeep}
use Rattle.alias_range_pass.specs.summary.Walking.{after_renders}
use Rattle.alias_range_pass.proofs.summary.walking.run_renders.Given as goal

abbrev pub invariant-loop-render : goal.invariant-loop-render
invariant-loop-render l =
    (after_renders l.graph (drop l.render-index l.renders) l.env ≡ after_renders l.graph l.renders l.initial.env)
    × WalksKeep l.initial.env l.env
