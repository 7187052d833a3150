use Rattle.std.proofs.Common.{◌≡◌, false, ◌∙◌, subst}
use Rattle.std.specs.BTreeMap.{get_by_text}
use Rattle.std.specs.Option.{is_some}
use Rattle.std.specs.String.{string_bytes}
use Rattle.std.proofs.lemmas.Map.Text.{btree_map_updates_text}
use Rattle.alias_hir.specs.ShapeNames.{slots_still, slots_push}
use Rattle.alias_hir.proofs.shapes.Shapes.push.Goals as goal

pub invariant_of-self-then-is_taken : goal.invariant_of-self-then-is_taken
invariant_of-self-then-is_taken c =
    slots_still (get_by_text c.self.inside.slots) c.self.inside.entries c.args.shape c.self.invariant c.push.new.self
    c.as_str-2.result.now
    c.in_ok-push.ensures.items (c.as_str-2.ensures.value ∙ c.in_ok-name.ensures.ok ∙ c.as_str.ensures)
    c.if-is_taken.ensures

pub invariant_of-self-in-Ok : goal.invariant_of-self-in-Ok
invariant_of-self-in-Ok c =
    slots_push (get_by_text c.self.inside.slots) c.self.inside.entries c.args.shape c.self.invariant
    (get_by_text c.insert.new.self) c.push.new.self (string_bytes c.in_ok-name.name) c.len-slot.result
    c.in_ok-push.ensures.items (c.in_ok-name.ensures.ok ∙ c.as_str.ensures) c.len-slot.ensures
    (subst (λ z. false ≡ is_some (get_by_text c.self.inside.slots z)) c.as_str-2.ensures.value c.if-is_taken.ensures)
    (btree_map_updates_text _ c.self.inside.slots c.insert.new.self _ c.in-Ok.ensures.updates)
