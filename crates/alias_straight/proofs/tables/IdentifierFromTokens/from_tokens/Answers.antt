use Rattle.std.proofs.Common.{ap, arith}
use Rattle.alias_straight.specs.Members.{from_key}
use Rattle.alias_straight.proofs.Identifying.{identifier_taken, early_taken}
use Rattle.alias_straight.proofs.tables.IdentifierFromTokens.from_tokens.Goals as goal

pub returns-then-is_next : goal.returns-then-is_next
returns-then-is_next c =
    rw c.identifier_of.ensures (early_taken c.args.depth c.args.reader.now _ _ _ _ _ _ c.in_ok-declaration.declaration
    c.in_ok-type_.type_ c.in_ok-name.name c.in_ok-span.span (omega arith) c.in_ok-next.ensures
    c.in_ok-declaration.ensures c.in_ok-type_.ensures c.in_ok-name.ensures c.in_ok-span.ensures
    (ap (λ k. from_key k c.take_optional-then-is_next.new.reader) c.in_ok-close_object.ensures))

pub returns : goal.returns
returns c =
    rw c.identifier_of-2.ensures (identifier_taken c.args.depth c.args.reader.now _ _ _ _ _ _
    c.in_ok-declaration.declaration c.in_ok-type_-2.type_ c.in_ok-name-2.name c.in_ok-span-2.span (omega arith)
    c.in_ok-next.ensures c.in_ok-declaration.ensures c.in_ok-name-2.ensures c.in_ok-span-2.ensures
    c.in_ok-type_-2.ensures
    (ap (λ k. from_key k c.take_member-2.new.reader) c.in_ok-close_object-2.ensures))
