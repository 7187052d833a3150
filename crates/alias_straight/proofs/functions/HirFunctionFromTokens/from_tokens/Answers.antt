use Rattle.std.proofs.Common.{ap, arith}
use Rattle.alias_straight.specs.Members.{from_key}
use Rattle.alias_straight.proofs.Functioning.{function_taken}
use Rattle.alias_straight.proofs.functions.HirFunctionFromTokens.from_tokens.Goals as goal

pub returns : goal.returns
returns c =
    rw (c.new.ensures, c.unwrap_or.ensures)
    (function_taken c.args.depth c.args.reader.now _ _ _ _ _ _ _ _ _ _ _ c.in_ok-fn_type.fn_type
    c.in_ok-params.params c.in_ok-context.context c.in_ok-returns.returns c.in_ok-entry.entry
    c.in_ok-is_async.is_async c.in_ok-span.span c.in_ok-instructions.instructions _ (omega arith)
    c.in_ok-next.ensures c.in_ok-fn_type.ensures c.in_ok-params.ensures c.in_ok-context.ensures
    c.in_ok-returns.ensures c.in_ok-entry.ensures c.in_ok-is_async.ensures c.in_ok-span.ensures
    c.in_ok-instructions.ensures c.in_ok-blocks.ensures
    (ap (λ k. from_key k c.take_member-4.new.reader) c.in_ok-close_object.ensures))
