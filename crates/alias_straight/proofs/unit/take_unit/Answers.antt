use Rattle.std.proofs.Common.{ap, arith}
use Rattle.alias_straight.specs.Members.{from_key}
use Rattle.alias_straight.proofs.Uniting.{unit_taken}
use Rattle.alias_straight.proofs.unit.take_unit.Goals as goal

pub returns : goal.returns
returns c =
    rw (c.with_context_values.ensures, c.new.ensures, c.new-2.ensures)
    (unit_taken c.args.depth c.args.reader.now _ _ _ _ _ _ _ _ _ _ _ _ _ _ c.in_ok-config.config c.in_ok-types.types
    c.in_ok-shapes.shapes c.in_ok-identifiers.identifiers c.in_ok-functions.functions c.in_ok-root.root
    c.in_ok-context_values.context_values (omega arith) c.in_ok-next.ensures
    c.in_ok-config_part.ensures c.in_ok-types_part.ensures c.in_ok-shapes_part.ensures c.in_ok-identifiers.ensures
    c.in_ok-functions.ensures c.in_ok-root.ensures c.in_ok-values_part.ensures
    (ap (λ k. from_key k c.take_part-4.new.reader) c.in_ok-close_object.ensures)
    c.in_ok-config.ensures c.in_ok-types.ensures c.in_ok-shapes.ensures c.in_ok-format.format c.in_ok-format.ensures
    c.in_ok-context_values.ensures)
