use Rattle.std.proofs.Common.{ap}
use Rattle.alias_straight.specs.Members.{from_key}
use Rattle.alias_straight.proofs.Expressing.{store_global_taken}
use Rattle.alias_straight.proofs.expressions.take_store_global.Goals as goal

pub returns : goal.returns
returns c =
    store_global_taken c.args.depth _ _ _ _ c.in_ok-name.name c.in_ok-value.value c.in_ok-name.ensures
    c.in_ok-value.ensures
    (ap (λ k. from_key k c.take_member-2.new.reader) c.in_ok-close_object.ensures)
