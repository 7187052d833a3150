use Rattle.std.proofs.Common.{◌<◌, sym, ap, ◌∙◌, subst}
use Rattle.alias_apply.specs.freezing.Contexts.{context_of}
use Rattle.alias_apply.specs.freezing.Transitive.{live}
use Rattle.alias_apply.specs.freezing.TransitiveLaws.{Sorted, frozen_less, frozen_sorted}
use Rattle.alias_lattice.specs.States.{frozen}
use Rattle.alias_apply.specs.freezing.Tasks.{finish, NextIs}
use Rattle.alias_apply.specs.freezing.TaskLaws.{finish-place}
use Rattle.alias_apply.proofs.freezing.transitive.freeze_transitively.Goals as goal

pub freezings-smaller : goal.freezings-smaller
freezings-smaller c =
    let s = c.freezings.state in
    let n = subst (λ o. NextIs (context_of c.args.env.now) c.args.reason c.freezings.stack.items s o
    c.next_freezing.new.stack.items) c.in-Some.is c.in_ok-place.ensures in
    subst (λ z. live z.values < live s.values) (sym c.in_ok-freeze_top-in-Some.ensures.state)
    (frozen_less c.args.reason c.in-Some.place s c.freezings.invariant.0 n.0)

pub freezings-preserved : goal.freezings-preserved
freezings-preserved c =
    let s = c.freezings.state in
    let r = c.args.reason in
    let context = context_of c.args.env.now in
    let p = c.in-Some.place in
    let n = subst (λ o. NextIs context r c.freezings.stack.items s o c.next_freezing.new.stack.items) c.in-Some.is
    c.in_ok-place.ensures in (
      subst Sorted (sym c.in_ok-freeze_top-in-Some.ensures.state) (frozen_sorted r p s c.freezings.invariant.0),
      ap (finish context r c.freeze_top.new.stack.items) c.in_ok-freeze_top-in-Some.ensures.state
          ∙ ap (λ t. finish context r t (frozen p r s)) c.in_ok-freeze_top-in-Some.ensures.stack
          ∙ sym (finish-place context r c.next_freezing.new.stack.items p s n.0)
          ∙ sym n.1 ∙ c.freezings.invariant.1,
    )
