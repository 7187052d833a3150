-- Identifiers before their ranges are known.
use Rattle.std.specs.Prelude.{ℕ, Option, None}
use Rattle.alias_hir.specs.declared.env.Identifier.{Identifier}
use Rattle.alias_hir.specs.declared.env.IdentifierName.{IdentifierName}
use Rattle.alias_hir.specs.declared.place.Span.{Span}

-- an identifier with an unset range, in no scope
abbrev pub identifier_of : ℕ → ℕ → Option IdentifierName → Option Span → Identifier
identifier_of declaration t name span =
    record {
      declaration_id = record { 0 = declaration };
      name = name;
      mutable_range = record { start = record { 0 = 0 }; end = record { 0 = 0 } };
      scope = None;
      type_ = record { 0 = t };
      span = span;
    }
