-- The reports of steps.
use Rattle.std.specs.Prelude.{ℕ, List, [], ◌∷◌, ◌++◌, Option, None, Some, slice_get, codes, if◌then◌else◌}
use Rattle.alias_base.specs.declared.ids.IdentifierId.{IdentifierId}
use Rattle.alias_hir.specs.ReportNumbers.{same_span}
use Rattle.alias_hir.specs.declared.effect.ValueReason.TheVariants as reason
use Rattle.alias_hir.specs.declared.env.IdentifierName.{IdentifierName}
use Rattle.alias_hir.specs.declared.env.IdentifierName.TheVariants.{Named, Promoted}
use Rattle.alias_hir.specs.declared.place.Place.{Place}
use Rattle.alias_hir.specs.declared.place.Span.{Span}
use Rattle.alias_hir.specs.declared.report.ErrorCategory.TheVariants.{Todo, Immutability, Purity, IncompatibleLibrary}
use Rattle.alias_hir.specs.declared.report.Label.{Label}
use Rattle.alias_hir.specs.declared.report.Report.{Report}
use Rattle.alias_lattice.specs.Reasons.{has_reason}
use Rattle.alias_hir.specs.declared.env.Environment.{Environment}
use Rattle.alias_hir.specs.declared.env.Identifier.{Identifier}

-- ---- parts

abbrev pub name_or : List ℕ → Option IdentifierName → List ℕ
name_or other None = other
name_or other (Some (Named name)) = codes "`" ++ name ++ codes "`"
name_or other (Some (Promoted name)) = other

abbrev pub name_in : Option Identifier → Option IdentifierName
name_in None = None
name_in (Some i) = i.name

-- the name in backquotes, or else the word
abbrev pub named : Environment → IdentifierId → List ℕ → List ℕ
named env id other = name_or other (name_in (slice_get env.identifiers id.0))

abbrev pub label : Span → Option (List ℕ) → Label
label s text = record { span = s; text = text }

-- a label stands only where its span is there
abbrev pub labels_at : Option Span → Option (List ℕ) → List Label
labels_at None text = []
labels_at (Some s) text = label s text ∷ []

-- ---- writes

-- why the value isn't to be written: by the first of these reasons that it has
abbrev pub late_write_reason : ℕ → List ℕ
late_write_reason reasons =
    if has_reason reasons reason.State then codes
    "Modifying a value returned from 'useState()', which should not be modified directly. Use the setter function to update instead"
    else (if has_reason reasons reason.ReducerState
    then codes
    "Modifying a value returned from 'useReducer()', which should not be modified directly. Use the dispatch function to update instead"
    else (if has_reason reasons reason.Effect
    then codes
    "Modifying a value used previously in an effect function or as an effect dependency is not allowed. Consider moving the modification before calling useEffect()"
    else (if has_reason reasons reason.HookCaptured
    then codes
    "Modifying a value previously passed as an argument to a hook is not allowed. Consider moving the modification before calling the hook"
    else (if has_reason reasons reason.HookReturn then codes "Modifying a value returned from a hook is not allowed. Consider moving the modification into the hook where the value is constructed"
    else codes "This modifies a variable that React considers immutable"))))

abbrev pub write_reason : ℕ → List ℕ
write_reason reasons =
    if has_reason reasons reason.Global then codes
    "Modifying a variable defined outside a component or hook is not allowed. Consider using an effect"
    else (if has_reason reasons reason.JsxCaptured
    then codes
    "Modifying a value used previously in JSX is not allowed. Consider moving the modification before the JSX"
    else (if has_reason reasons reason.Context
    then codes "Modifying a value returned from 'useContext()' is not allowed."
    else (if has_reason reasons reason.KnownReturnSignature
    then codes "Modifying a value returned from a function whose return value should not be mutated"
    else (if has_reason reasons reason.ReactiveFunctionArgument
    then codes "Modifying component props or hook arguments is not allowed. Consider using a local variable instead"
    else late_write_reason reasons))))

-- what is reported of a write of a value that isn't to be written
abbrev pub write_report : Environment → IdentifierId → Option Span → ℕ → Report
write_report env id span reasons = record {
  category = Immutability;
  message = codes "This value cannot be modified";
  help = Some (write_reason reasons);
  labels = labels_at span (Some (named env id (codes "value") ++ codes " cannot be modified"));
}

-- the access that stands before the declaration, unless the write is there
abbrev pub access_labels : Option Span → Option Span → List ℕ → List Label
access_labels None span text = []
access_labels (Some a) None text = label a (Some text) ∷ []
access_labels (Some a) (Some s) text = if same_span a s then [] else label a (Some text) ∷ []

abbrev pub access_span : Option Place → Option Span
access_span None = None
access_span (Some p) = p.span

abbrev pub hoisting_labels : Environment → IdentifierId → Option Span → Option Place → List Label
hoisting_labels env id span access =
    access_labels (access_span access) span (named env id (codes "variable") ++ codes " accessed before it is declared")
    ++ labels_at span (Some (named env id (codes "variable") ++ codes " is declared here"))

-- what is reported of a write of a variable that is read before it is declared
abbrev pub hoisting_report : Environment → IdentifierId → Option Span → Option Place → Report
hoisting_report env id span access = record {
  category = Immutability;
  message = codes "Cannot access variable before it is declared";
  help = Some (named env id (codes "This variable")
      ++ codes
      " is accessed before it is declared, which prevents the earlier access from updating when this value changes over time");
  labels = hoisting_labels env id span access;
}

-- ---- calls

abbrev pub impure_name : Option (List ℕ) → List ℕ
impure_name None = []
impure_name (Some name) = codes "`" ++ name ++ codes "` is an impure function. "

-- what is reported of a call of an impure function, whose signature may name it
abbrev pub impure_report : Option (List ℕ) → Option Span → Report
impure_report name span = record {
  category = Purity;
  message = codes "Cannot call impure function during render";
  help = Some
      (impure_name name ++ codes
      "Calling an impure function can produce unstable results that update unpredictably when the component happens to re-render. (https://react.dev/reference/rules/components-and-hooks-must-be-pure#components-and-hooks-must-be-idempotent)");
  labels = labels_at span (Some (codes "Cannot call impure function"));
}

-- and of one that an aliasing part calls so
abbrev pub impure_part_report : Report
impure_part_report = record { category = Purity; message = codes "Impure function call"; help = None; labels = [] }

-- what is reported of a call of a function that can't be memoized
abbrev pub incompatible_report : Option Span → List ℕ → Report
incompatible_report span text = record {
  category = IncompatibleLibrary;
  message = codes "Use of incompatible library";
  help = Some
      (codes
      "This API returns functions which cannot be memoized without leading to stale UI. To prevent this, by default React Compiler will skip memoizing this component/hook. However, you may see issues if values from this API are passed to other components/hooks that are memoized");
  labels = labels_at span (Some text);
}

-- what is reported of a spread argument that would be frozen
abbrev pub spread_report : Option Span → Report
spread_report span = record {
  category = Todo;
  message = codes "Support spread syntax for hook arguments";
  help = None;
  labels = labels_at span None;
}
