use Rattle.std.proofs.Common.{ap, ◌∙◌}
use Rattle.std.specs.BTreeMap.{get_by_text}
use Rattle.alias_base.specs.Indexes.{at_slot}
use Rattle.alias_hir.specs.ShapeNames.{shape_named, named_at}
use Rattle.alias_hir.proofs.shapes.Shapes.named.Goals as goal

pub returns-in-Some : goal.returns-in-Some
returns-in-Some c =
    c.get-in-Some.ensures
    ∙ ap (λ o. at_slot o c.self.inside.entries) c.in-Some.ensures.value
    ∙ named_at (get_by_text c.self.inside.slots) c.self.inside.entries c.args.name.now c.self.invariant
    ∙ ap (λ shapes. shape_named shapes c.args.name.now) c.self.view_is

pub returns-in-None : goal.returns-in-None
returns-in-None c =
    ap (λ o. at_slot o c.self.inside.entries) c.in-None.ensures.value
    ∙ named_at (get_by_text c.self.inside.slots) c.self.inside.entries c.args.name.now c.self.invariant
    ∙ ap (λ shapes. shape_named shapes c.args.name.now) c.self.view_is
