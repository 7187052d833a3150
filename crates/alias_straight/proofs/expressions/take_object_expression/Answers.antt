use Rattle.std.proofs.Common.{ap}
use Rattle.alias_straight.specs.Members.{from_key}
use Rattle.alias_straight.proofs.Expressing.{object_expression_taken}
use Rattle.alias_straight.proofs.expressions.take_object_expression.Goals as goal

pub returns : goal.returns
returns c =
    object_expression_taken c.args.depth _ _ _ c.in_ok-properties.properties c.in_ok-properties.ensures
    (ap (λ k. from_key k c.take_list.new.reader) c.in_ok-close_object.ensures)
