-- Interned reports, and recorded ones.
use Rattle.std.specs.Prelude.{ℕ, ◌&&◌, Bool, true, false, cond, if◌then◌else◌, ◌==◌, List, [], ◌∷◌, ◌++◌, Option, None}
use Rattle.std.specs.Prelude.{Some, Result, Ok, Err, nat_lt, slice_get, option_map, option_to_list, length}
use Rattle.std.specs.Option.{option_map_or}
use Rattle.std.specs.List.{list_any, flat_map}
use Rattle.alias_base.specs.Answer.{◌>>=◌}
use Rattle.alias_base.specs.declared.ids.IdentifierId.{IdentifierId}
use Rattle.alias_base.specs.declared.ids.FunctionId.{FunctionId}
use Rattle.alias_hir.specs.declared.effect.AliasingEffect.{AliasingEffect}
use Rattle.alias_hir.specs.declared.env.Environment.{Environment}
use Rattle.alias_hir.specs.declared.error.Counter.TheVariants.{Diagnostics}
use Rattle.alias_hir.specs.declared.error.HirError.{HirError}
use Rattle.alias_hir.specs.declared.error.HirError.TheVariants.{TooMany}
use Rattle.alias_hir.specs.declared.hir.HirFunction.{HirFunction}
use Rattle.alias_hir.specs.declared.report.ReportId.{ReportId}
use Rattle.alias_hir.specs.declared.report.ErrorCategory.{ErrorCategory}
use Rattle.alias_hir.specs.declared.report.ErrorCategory.TheVariants.{Invariant, Todo, Immutability, Globals, Purity}
use Rattle.alias_hir.specs.declared.report.ErrorCategory.TheVariants.{IncompatibleLibrary}
use Rattle.alias_hir.specs.declared.report.Interned.{Interned}
use Rattle.alias_hir.specs.declared.report.Report.{Report}
use Rattle.alias_hir.specs.Effects.{error_of}
pub use Rattle.alias_hir.specs.SameReports.{same_category, same_text, same_span, same_label, same_words, same_report}
pub use Rattle.alias_hir.specs.SameReports.{same_identity, same_instance, number_of}

-- ---- numbers of interned reports

-- a number for a new entry or an old one, of which there are 4,294,967,295
abbrev pub numbered : ℕ → Result ℕ HirError
numbered n = if nat_lt n 4294967295 then Ok n else Err (TooMany Diagnostics)

-- the first interned report that says the same, and the entry that is equal; a new one takes the next number
abbrev pub report_id_of : List Interned → IdentifierId → Report → Result ReportId HirError
report_id_of es id r = do
  identity ← numbered (number_of (same_identity id r) es)
  instance ← numbered (number_of (same_instance id r) es)
  Ok (record { identity = identity; instance = instance })

-- a new entry is needed: no report of the identifier is equal
abbrev pub needs_entry : List Interned → IdentifierId → Report → Bool
needs_entry es id r = number_of (same_instance id r) es == length es

-- as many reports are interned as there are numbers
abbrev pub is_full : List Interned → Bool
is_full es = length es == 4294967295

-- the answer, where no more reports are interned than there are numbers: all are taken exactly where a new entry is
-- needed and none is left
abbrev pub report_id_where_interned : List Interned → IdentifierId → Report → Result ReportId HirError
report_id_where_interned es id r =
    if needs_entry es id r && is_full es then Err (TooMany Diagnostics)
    else Ok (record { identity = number_of (same_identity id r) es; instance = number_of (same_instance id r) es })

abbrev pub interned : IdentifierId → Report → Interned
interned id r = record { identifier = id; report = r }

-- a new entry goes last
abbrev pub with_interned : List Interned → IdentifierId → Report → List Interned
with_interned es id r = cond (number_of (same_instance id r) es == length es) (es ++ interned id r ∷ []) es

-- the identity of a report that is interned
abbrev pub identity_of : List Interned → Interned → ℕ
identity_of es e = number_of (same_identity e.identifier e.report) es

-- a report is interned in this instance, and its identity is this one
abbrev pub is_interned : List Interned → ReportId → Bool
is_interned es id = option_map_or (λ e. identity_of es e == id.identity) (slice_get es id.instance) false

-- ---- reports of effects

abbrev pub report_at : List Interned → Option ReportId → List Report
report_at es None = []
report_at es (Some id) = option_to_list (option_map (λ (e : Interned). e.report) (slice_get es id.instance))

-- the reports of the effects that have one, in order
abbrev pub effect_reports : List Interned → List AliasingEffect → List Report
effect_reports es effects = flat_map (λ e. report_at es (error_of e)) effects

-- the effects of a function's summary
abbrev pub summary : Option HirFunction → List AliasingEffect
summary None = []
summary (Some f) = option_map_or (λ (es : List AliasingEffect). es) f.aliasing_effects []

-- the reports of the summary of a nested function
abbrev pub summary_reports : Environment → FunctionId → List Report
summary_reports env f = effect_reports env.interned (summary (slice_get env.functions f.0))

-- ---- recorded reports

abbrev pub is_invariant : ErrorCategory → Bool
is_invariant Invariant = true
is_invariant Todo = false
is_invariant Immutability = false
is_invariant Globals = false
is_invariant Purity = false
is_invariant IncompatibleLibrary = false

-- whether one of the reports says that an invariant was broken
abbrev pub reports_invariant : List Report → Bool
reports_invariant rs = list_any (λ r. is_invariant r.category) rs
