-- The reports of the validations, and where they are recorded.
use Rattle.std.specs.Prelude.{ℕ, List, [], ◌∷◌, ◌++◌, Option, None, Some, slice_get, option_and_then, codes}
use Rattle.alias_base.specs.declared.ids.IdentifierId.{IdentifierId}
use Rattle.alias_hir.specs.declared.env.Environment.{Environment}
use Rattle.alias_hir.specs.declared.env.Identifier.{Identifier}
use Rattle.alias_hir.specs.declared.env.IdentifierName.{IdentifierName}
use Rattle.alias_hir.specs.declared.env.IdentifierName.TheVariants.{Named, Promoted}
use Rattle.alias_hir.specs.declared.place.Place.{Place}
use Rattle.alias_hir.specs.declared.place.Span.{Span}
use Rattle.alias_hir.specs.declared.report.ErrorCategory.TheVariants.{Immutability}
use Rattle.alias_hir.specs.declared.report.Label.{Label}
use Rattle.alias_hir.specs.declared.report.Report.{Report}
use Rattle.alias_validate.specs.declared.mutation.ContextMutation.{ContextMutation}

-- a name of the source in backquotes, or else the word
abbrev pub quoted_or : Option IdentifierName → List ℕ → List ℕ
quoted_or None word = word
quoted_or (Some (Named text)) word = codes "`" ++ text ++ codes "`"
quoted_or (Some (Promoted text)) word = word

-- the identifier's name, or else the word
abbrev pub variable_or : Environment → IdentifierId → List ℕ → List ℕ
variable_or env id word = quoted_or (option_and_then (λ (i : Identifier). i.name) (slice_get env.identifiers id.0)) word

-- a label stands only where its span is there
abbrev pub label : Option Span → List ℕ → List Label
label None text = []
label (Some s) text = record { span = s; text = Some text } ∷ []

abbrev pub immutability : List ℕ → List ℕ → List Label → Report
immutability message help labels = record
    { category = Immutability; message = message; help = Some help; labels = labels }

-- the report where an async function reassigns a place
abbrev pub async_report : Environment → Place → Report
async_report env x =
    immutability (codes "Cannot reassign variable in async function")
    (codes
    "Reassigning a variable in an async function can cause inconsistent behavior on subsequent renders. Consider using state instead")
    (label x.span (codes "Cannot reassign " ++ variable_or env x.identifier (codes "variable")))

-- the report where a place is reassigned once rendering is over
abbrev pub reassigned_report : Environment → Place → Report
reassigned_report env x =
    let v = variable_or env x.identifier (codes "variable") in
    immutability (codes "Cannot reassign variable after render completes")
    (codes "Reassigning " ++ v ++ codes
    " after render has completed can cause inconsistent behavior on subsequent renders. Consider using state instead")
    (label x.span (codes "Cannot reassign " ++ v ++ codes " after render completes"))

-- the operand, then what it mutates
abbrev pub frozen_labels : Environment → Place → ContextMutation → List Label
frozen_labels env operand m =
    let v = variable_or env m.identifier (codes "a local variable") in
    label operand.span (codes "This function may (indirectly) reassign or modify " ++ v ++ codes " after render")
    ++ label m.span (codes "This modifies " ++ v)

-- the report where a function is frozen that mutates an identifier
abbrev pub frozen_report : Environment → Place → ContextMutation → Report
frozen_report env operand m =
    immutability (codes "Cannot modify local variables after render completes")
    (codes "This argument is a function which may reassign or mutate "
    ++ variable_or env m.identifier (codes "a local variable")
    ++ codes
    " after render, which can cause inconsistent behavior on subsequent renders. Consider using state instead")
    (frozen_labels env operand m)

-- the tables with reports recorded after those that are there
abbrev pub with_reports : Environment → List Report → Environment
with_reports env rs = record env { errors = env.errors ++ rs }

-- the tables with other recorded reports, and all else as it was
abbrev pub with_errors : Environment → List Report → Environment
with_errors env rs = record env { errors = rs }
