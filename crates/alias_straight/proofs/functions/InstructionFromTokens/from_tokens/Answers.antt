use Rattle.std.proofs.Common.{ap, arith}
use Rattle.alias_straight.specs.Members.{from_key}
use Rattle.alias_straight.proofs.Instructing.{instruction_taken}
use Rattle.alias_straight.proofs.functions.InstructionFromTokens.from_tokens.Goals as goal

pub returns : goal.returns
returns c =
    instruction_taken c.args.depth c.args.reader.now _ _ _ _ _ _ c.in_ok-id.id c.in_ok-lvalue.lvalue c.in_ok-value.value
    c.in_ok-span.span (omega arith) c.in_ok-next.ensures c.in_ok-id.ensures c.in_ok-lvalue.ensures
    c.in_ok-value.ensures c.in_ok-span.ensures
    (ap (λ k. from_key k c.take_optional.new.reader) c.in_ok-close_object.ensures)
