use Rattle.std.proofs.Common.{◌≡◌, ◌++◌, false, ap, sym, ◌∙◌, append-nil}
use Rattle.alias_graph.specs.recorded.Recording.{graph_listed}
use Rattle.alias_lint.specs.lines.Summaries.{any_report}
use Rattle.alias_lint.proofs.lines.Silent.{found_none}
use Rattle.alias_lint.proofs.lines.lints.push_where_reported.Goals as goal

pub returns-then-not-branch-clause-lints : goal.returns-then-not-branch-clause-lints
returns-then-not-branch-clause-lints c =
    let off : any_report c.args.env.now ≡ false = sym c.in_ok-any_report.ensures ∙ c.if-not-branch.true in
    sym (append-nil c.args.lints.now) ∙ ap (λ z. c.args.lints.now ++ z)
    (sym (found_none c.args.env.now c.args.func.now (graph_listed c.args.listing.now) c.args.listing.now off))
