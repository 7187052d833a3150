use Rattle.std.proofs.Common.{ap, arith}
use Rattle.alias_straight.specs.Members.{from_key}
use Rattle.alias_straight.proofs.Phis.{phi_taken}
use Rattle.alias_straight.proofs.functions.PhiFromTokens.from_tokens.Goals as goal

pub returns : goal.returns
returns c =
    phi_taken c.args.depth c.args.reader.now _ _ _ _ c.in_ok-place.place c.in_ok-operands.operands (omega arith)
    c.in_ok-next.ensures c.in_ok-place.ensures c.in_ok-operands.ensures
    (ap (λ k. from_key k c.take_member-2.new.reader) c.in_ok-close_object.ensures)
