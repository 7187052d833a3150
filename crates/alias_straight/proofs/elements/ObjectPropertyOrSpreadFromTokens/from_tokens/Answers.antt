use Rattle.std.proofs.Common.{ap, arith}
use Rattle.alias_straight.specs.Members.{from_key}
use Rattle.alias_straight.proofs.Properties.{keyed_taken, property_spread_taken}
use Rattle.alias_straight.proofs.elements.ObjectPropertyOrSpreadFromTokens.from_tokens.Goals as goal

pub returns-then-is_next : goal.returns-then-is_next
returns-then-is_next c =
    property_spread_taken c.args.depth c.args.reader.now _ _ _ c.in_ok-spread.spread (omega arith) c.in_ok-next.ensures
    c.in_ok-spread.ensures
    (ap (λ k. from_key k c.take_member.new.reader) c.in_ok-close_object.ensures)

pub returns : goal.returns
returns c =
    keyed_taken c.args.depth c.args.reader.now _ _ _ _ c.in_ok-computed.computed c.in_ok-place.place (omega arith)
    c.in_ok-next.ensures c.in_ok-computed.ensures c.in_ok-place.ensures
    (ap (λ k. from_key k c.take_member-2.new.reader) c.in_ok-close_object-2.ensures)
