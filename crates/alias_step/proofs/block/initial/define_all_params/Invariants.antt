use Rattle.std.proofs.Common.{◌≡◌, drop}
use Rattle.std.specs.List.{fold}
use Rattle.alias_step.specs.block.Initial.{with_param}
use Rattle.alias_step.proofs.block.initial.define_all_params.Given as goal

-- the parameters that are left go where all of them do
abbrev pub invariant-loop-param : goal.invariant-loop-param
invariant-loop-param l = fold (with_param l.value) l.state (drop l.param-index l.params)
    ≡ fold (with_param l.value) l.initial.state l.params
