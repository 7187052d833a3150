use Rattle.std.proofs.Common.{ap}
use Rattle.alias_straight.specs.Members.{from_key}
use Rattle.alias_straight.proofs.Expressing.{jsx_taken}
use Rattle.alias_straight.proofs.expressions.take_jsx_expression.Goals as goal

pub returns : goal.returns
returns c =
    jsx_taken c.args.depth _ _ _ _ _ c.in_ok-tag.tag c.in_ok-props.props c.in_ok-children.children c.in_ok-tag.ensures
    c.in_ok-props.ensures c.in_ok-children.ensures
    (ap (λ k. from_key k c.take_list-2.new.reader) c.in_ok-close_object.ensures)
