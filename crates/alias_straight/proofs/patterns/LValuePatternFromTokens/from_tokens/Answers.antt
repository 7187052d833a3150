use Rattle.std.proofs.Common.{ap, arith}
use Rattle.alias_straight.specs.Members.{from_key}
use Rattle.alias_straight.proofs.Patterning.{lvalue_pattern_taken}
use Rattle.alias_straight.proofs.patterns.LValuePatternFromTokens.from_tokens.Goals as goal

pub returns : goal.returns
returns c =
    lvalue_pattern_taken c.args.depth c.args.reader.now _ _ _ _ c.in_ok-kind.kind c.in_ok-pattern.pattern (omega arith)
    c.in_ok-next.ensures c.in_ok-kind.ensures c.in_ok-pattern.ensures
    (ap (λ k. from_key k c.take_member-2.new.reader) c.in_ok-close_object.ensures)
