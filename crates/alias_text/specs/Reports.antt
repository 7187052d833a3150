-- The lines that are printed of reports.
use Rattle.std.specs.Prelude.{ℕ, List, ◌++◌, codes, Option, None, Some, length}
use Rattle.std.specs.List.{flat_map}
use Rattle.std.specs.Fmt.{decimal}
use Rattle.json.specs.Print.{quoted}
use Rattle.alias_hir.specs.declared.place.Span.{Span}
use Rattle.alias_hir.specs.declared.report.ErrorCategory.{ErrorCategory}
use Rattle.alias_hir.specs.declared.report.ErrorCategory.TheVariants.{Invariant, Todo, Immutability, Globals, Purity}
use Rattle.alias_hir.specs.declared.report.ErrorCategory.TheVariants.{IncompatibleLibrary}
use Rattle.alias_hir.specs.declared.report.Label.{Label}
use Rattle.alias_hir.specs.declared.report.Report.{Report}

abbrev pub category_word : ErrorCategory → List ℕ
category_word Invariant = codes "Invariant"
category_word Todo = codes "Todo"
category_word Immutability = codes "Immutability"
category_word Globals = codes "Globals"
category_word Purity = codes "Purity"
category_word IncompatibleLibrary = codes "IncompatibleLibrary"

-- a text as a JSON text, and `-` where there is none
abbrev pub optional_text : Option (List ℕ) → List ℕ
optional_text None = codes "-"
optional_text (Some text) = quoted text

abbrev pub span_text : Span → List ℕ
span_text span = decimal span.start ++ codes ".." ++ decimal span.end

-- what the label points at, and what it says
abbrev pub label_text : Label → List ℕ
label_text label = codes " " ++ span_text label.span ++ codes " " ++ optional_text label.text

-- the category, the message, the help and the labels
abbrev pub report_text : Report → List ℕ
report_text report = category_word report.category ++ codes " " ++ quoted report.message ++ codes " "
    ++ optional_text report.help ++ flat_map label_text report.labels

abbrev pub report_line : Report → List ℕ
report_line report = codes "report " ++ report_text report ++ codes "\n"

abbrev pub report_lines : List Report → List ℕ
report_lines reports = flat_map report_line reports

-- how many reports there are, and a line for each
abbrev pub reports_text : List Report → List ℕ
reports_text reports = codes "reports " ++ decimal (length reports) ++ codes "\n" ++ report_lines reports
