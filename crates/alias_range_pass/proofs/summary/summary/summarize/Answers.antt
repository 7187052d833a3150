use Rattle.std.proofs.Common.{◌∙◌}
use Rattle.alias_range_pass.specs.summary.FlowLaws.{ends_with_flows}
use Rattle.alias_range_pass.proofs.summary.Captured.{summarized_is}
use Rattle.alias_range_pass.proofs.summary.summary.summarize.Goals as goal

pub returns-clause-summary : goal.returns-clause-summary
returns-clause-summary c =
    summarized_is c.args.graph.now c.args.next c.args.func.now c.args.env.now c.args.summary.now c.as_slice.result.now
    c.args.places.now c.returns_created-created.result c.push_summary.new.summary
    (c.as_slice.ensures ∙ c.in_ok-marked.ensures) c.returns_created-created.ensures c.requires.places
    c.in_ok-push_summary.ensures.summary

pub returns-clause-flows : goal.returns-clause-flows
returns-clause-flows c = λ g same before.
    ends_with_flows g c.args.graph.now c.args.next c.args.func.now c.args.env.now c.args.summary.now
    c.push_summary.new.summary
    (summarized_is c.args.graph.now c.args.next c.args.func.now c.args.env.now c.args.summary.now c.as_slice.result.now
    c.args.places.now c.returns_created-created.result c.push_summary.new.summary
    (c.as_slice.ensures ∙ c.in_ok-marked.ensures) c.returns_created-created.ensures c.requires.places
    c.in_ok-push_summary.ensures.summary)
    same before
