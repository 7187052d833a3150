-- The reports of the inference.
use Rattle.std.specs.Prelude.{ℕ, List, [], ◌∷◌, ◌++◌, Option, None, Some, slice_get, codes}
use Rattle.std.specs.Fmt.{decimal}
use Rattle.std.specs.Option.{option_map_or}
use Rattle.alias_base.specs.declared.ids.IdentifierId.{IdentifierId}
use Rattle.alias_hir.specs.declared.env.Environment.{Environment}
use Rattle.alias_hir.specs.declared.env.Identifier.{Identifier}
use Rattle.alias_hir.specs.declared.env.IdentifierName.{IdentifierName}
use Rattle.alias_hir.specs.declared.env.IdentifierName.TheVariants.{Named, Promoted}
use Rattle.alias_hir.specs.declared.place.Span.{Span}
use Rattle.alias_hir.specs.declared.report.ErrorCategory.TheVariants.{Invariant}
use Rattle.alias_hir.specs.declared.report.Label.{Label}
use Rattle.alias_hir.specs.declared.report.Report.{Report}
use Rattle.alias_hir.specs.Printed.{printed_type}
use Rattle.alias_hir.specs.Types.{type_of}

abbrev pub name_text : IdentifierName → List ℕ
name_text (Named text) = text
name_text (Promoted text) = text

-- the text of the name, or nothing where there is none
abbrev pub identifier_name : Option Identifier → List ℕ
identifier_name None = []
identifier_name (Some i) = option_map_or name_text i.name []

abbrev pub identifier_span : Option Identifier → Option Span
identifier_span None = None
identifier_span (Some i) = i.span

-- the identifier as it is printed: name, `$`, number and type
abbrev pub printed_identifier : Environment → IdentifierId → List ℕ
printed_identifier env id =
    identifier_name (slice_get env.identifiers id.0) ++ codes "$" ++ decimal id.0
    ++ option_map_or printed_type (type_of env id) []

-- the first span that is there
abbrev pub either_span : Option Span → Option Span → Option Span
either_span None other = other
either_span (Some s) other = Some s

abbrev pub uninitialized_labels : Option Span → List Label
uninitialized_labels None = []
uninitialized_labels (Some s) = record { span = s; text = Some (codes "this is uninitialized") } ∷ []

-- the report where an identifier is read that has no value
abbrev pub uninitialized_report : Environment → IdentifierId → Option Span → Report
uninitialized_report env id span = record {
  category = Invariant;
  message = codes "[InferMutationAliasingEffects] Expected value kind to be initialized";
  help = Some (codes "<unknown> " ++ printed_identifier env id);
  labels = uninitialized_labels (either_span span (identifier_span (slice_get env.identifiers id.0)));
}

-- the report where the states of a function's blocks were not settled after 100 rounds
abbrev pub not_settled_report : Report
not_settled_report = record {
  category = Invariant;
  message = codes
      "[InferMutationAliasingEffects] Potential infinite loop: A value, temporary place, or effect was not cached properly";
  help = None;
  labels = [];
}
