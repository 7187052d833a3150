use Rattle.std.proofs.Common.{sym, subst}
use Rattle.alias_graph.specs.KnownLinks.{AllKnown}
use Rattle.alias_graph.proofs.KnownLinks.{created_known, made_known, linked_known, all_grows}
use Rattle.alias_graph.proofs.events.apply.Goals as goal

pub returns-in_ok-make-in-Make-clause-known : goal.returns-in_ok-make-in-Make-clause-known
returns-in_ok-make-in-Make-clause-known c =
    subst (AllKnown c.args.known.now) (sym c.in_ok-make-in-Make.ensures.ok)
    (created_known c.args.known.now c.args.graph.now c.in-Make.id c.in-Make.value c.requires)

pub returns-in_ok-make_from-in-CreateFrom-clause-known : goal.returns-in_ok-make_from-in-CreateFrom-clause-known
returns-in_ok-make_from-in-CreateFrom-clause-known c =
    subst (AllKnown c.args.known.now) (sym c.in_ok-make_from-in-CreateFrom.ensures.ok)
    (made_known c.args.known.now c.args.graph.now c.in-CreateFrom.index c.in-CreateFrom.from c.in-CreateFrom.into
    c.requires)

pub returns-in_ok-join-in-Link-clause-known : goal.returns-in_ok-join-in-Link-clause-known
returns-in_ok-join-in-Link-clause-known c =
    subst (AllKnown c.is_new.new.known) (sym c.in_ok-join-in-Link.ensures.ok)
    (linked_known c.is_new.new.known c.args.graph.now c.in-Link.kind c.in-Link.index c.in-Link.from c.in-Link.into
    (all_grows c.args.known.now c.is_new.new.known c.in_ok-is_new-in-Link.ensures.grows c.args.graph.now c.requires)
    c.in_ok-is_new-in-Link.ensures.noted)
