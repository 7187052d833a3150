use Rattle.std.proofs.Common.{ap}
use Rattle.alias_straight.specs.Members.{from_key}
use Rattle.alias_straight.proofs.Patterning.{destructure_taken}
use Rattle.alias_straight.proofs.patterns.take_destructure.Goals as goal

pub returns : goal.returns
returns c =
    (destructure_taken c.args.depth _ _ _ _ c.in_ok-lvalue.lvalue c.in_ok-value.value c.in_ok-lvalue.ensures
    c.in_ok-value.ensures
    (ap (λ k. from_key k c.take_member-2.new.reader) c.in_ok-close_object.ensures))
