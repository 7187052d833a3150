-- Reads and writes of variables outside of the function, and what is reported of the writes.
use Rattle.std.specs.Prelude.{ℕ, List, [], ◌∷◌, ◌++◌, Option, None, Some, codes}
use Rattle.alias_base.specs.declared.ids.IdentifierId.{IdentifierId}
use Rattle.alias_hir.specs.declared.effect.AliasingEffect.{AliasingEffect}
use Rattle.alias_hir.specs.declared.effect.AliasingEffect.TheVariants.{Create, Assign, MutateGlobal}
use Rattle.alias_hir.specs.declared.effect.ValueKind.TheVariants as kind
use Rattle.alias_hir.specs.declared.effect.ValueReason.TheVariants as reason
use Rattle.alias_hir.specs.declared.place.Place.{Place}
use Rattle.alias_hir.specs.declared.place.Span.{Span}
use Rattle.alias_hir.specs.declared.report.ReportId.{ReportId}
use Rattle.alias_hir.specs.declared.report.ErrorCategory.TheVariants.{Globals}
use Rattle.alias_hir.specs.declared.report.Label.{Label}
use Rattle.alias_hir.specs.declared.report.Report.{Report}
use Rattle.alias_hir.specs.declared.value.InstructionValue.{InstructionValue}
use Rattle.alias_hir.specs.declared.value.InstructionValue.TheVariants.{StoreGlobal}

-- a value that is there, and is global
abbrev pub load_global_effects : Place → List AliasingEffect
load_global_effects l = Create l kind.Global reason.Global ∷ []

-- the write of a global variable, with its report
abbrev pub global_effects : Option ReportId → Place → List AliasingEffect
global_effects None v = []
global_effects (Some error) v = MutateGlobal v error ∷ []

-- a global variable is written, which is reported, and the result is the value
abbrev pub store_global_effects : Option ReportId → Place → Place → List AliasingEffect
store_global_effects error l v = global_effects error v ++ Assign v l ∷ []

-- ---- the report

abbrev pub globals_labels : List ℕ → Option Span → List Label
globals_labels name None = []
globals_labels name (Some s) = record { span = s; text = Some (codes "`" ++ name ++ codes "` cannot be reassigned") }
    ∷ []

-- what is reported of a write of a global variable of that name
abbrev pub globals_report : List ℕ → Option Span → Report
globals_report name span = record {
  category = Globals;
  message = codes "Cannot reassign variables declared outside of the component/hook";
  help = Some (codes "Variable `" ++ name
      ++ codes
      "` is declared outside of the component/hook. Reassigning this value during render is a form of side effect, which can cause unpredictable behavior depending on when the component happens to re-render. If this variable is used in rendering, use useState instead. Otherwise, consider updating it in an effect. (https://react.dev/reference/rules/components-and-hooks-must-be-pure#side-effects-must-run-outside-of-render)");
  labels = globals_labels name span;
}

-- what is reported of the instruction, and of which identifier: a write of a global variable is
abbrev pub instruction_report : InstructionValue → Option Span → Option (IdentifierId × Report)
instruction_report (StoreGlobal name v) span = Some (v.identifier, globals_report name span)
instruction_report v span = None
