use Rattle.std.proofs.Common.{◌≡◌, ◌++◌, take}
use Rattle.alias_range_pass.specs.summary.Flows.{flows_into}
use Rattle.alias_range_pass.proofs.summary.flows.push_flows_into.Given as goal

abbrev pub invariant-loop-from : goal.invariant-loop-from
invariant-loop-from l = l.summary ≡ l.initial.summary
    ++ flows_into l.graph l.index l.returns (take l.from-index l.places) l.into
