use Rattle.std.proofs.Common.{Some, ap, sym, ◌∙◌}
use Rattle.alias_graph.proofs.KnownLinks.{is_no_link, not_early}
use Rattle.alias_graph.proofs.events.is_new.Goals as goal

pub returns-then-is_unknown-clause-new : goal.returns-then-is_unknown-clause-new
returns-then-is_unknown-clause-new c = λ late.
    is_no_link c.args.known.now c.args.from c.args.into (c.in_ok-is_unknown.ensures.new c.if-is_unknown.true)
    c.args.graph.now c.args.kind c.requires (sym c.in-Some.ensures ∙ ap Some (not_early c.in-Some.is_early late))
