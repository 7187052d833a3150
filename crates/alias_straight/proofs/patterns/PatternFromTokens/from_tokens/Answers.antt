use Rattle.std.proofs.Common.{ap, arith}
use Rattle.alias_straight.specs.Members.{from_key}
use Rattle.alias_straight.proofs.Patterning.{array_pattern_taken, object_pattern_taken}
use Rattle.alias_straight.proofs.patterns.PatternFromTokens.from_tokens.Goals as goal

pub returns-then-is_next : goal.returns-then-is_next
returns-then-is_next c =
    array_pattern_taken c.args.depth c.args.reader.now _ _ _ c.in_ok-items.items (omega arith) c.in_ok-next.ensures
    c.in_ok-items.ensures
    (ap (λ k. from_key k c.take_member.new.reader) c.in_ok-close_object.ensures)

pub returns : goal.returns
returns c =
    object_pattern_taken c.args.depth c.args.reader.now _ _ _ c.in_ok-properties.properties (omega arith)
    c.in_ok-next.ensures c.in_ok-properties.ensures
    (ap (λ k. from_key k c.take_member-2.new.reader) c.in_ok-close_object-2.ensures)
