use Rattle.std.proofs.Common.{ap}
use Rattle.alias_straight.specs.Members.{from_key}
use Rattle.alias_straight.proofs.Expressing.{array_taken}
use Rattle.alias_straight.proofs.expressions.take_array_expression.Goals as goal

pub returns : goal.returns
returns c =
    array_taken c.args.depth _ _ _ c.in_ok-elements.elements c.in_ok-elements.ensures
    (ap (λ k. from_key k c.take_list.new.reader) c.in_ok-close_object.ensures)
