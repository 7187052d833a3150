-- The step of an instruction: what is reported of it, what the summary of the function that it creates writes, the
-- effects of its
-- signature, and a value for its result.
use Rattle.std.specs.Prelude.{Bool, true, false, ◌&&◌, List, [], Option, Some, None, if◌then◌else◌}
use Rattle.std.specs.List.{list_any}
use Rattle.std.specs.Option.{is_some}
use Rattle.alias_base.specs.declared.ids.FunctionId.{FunctionId}
use Rattle.alias_base.specs.declared.ids.IdentifierId.{IdentifierId}
use Rattle.alias_hir.specs.declared.effect.AliasingEffect.{AliasingEffect}
use Rattle.alias_hir.specs.declared.effect.AliasingEffect.TheVariants as effect
use Rattle.alias_hir.specs.declared.env.Environment.{Environment}
use Rattle.alias_hir.specs.declared.hir.Instruction.{Instruction}
use Rattle.alias_hir.specs.declared.place.Place.{Place}
use Rattle.alias_hir.specs.declared.report.ReportId.{ReportId}
use Rattle.alias_hir.specs.declared.report.Report.{Report}
use Rattle.alias_hir.specs.Values.{created}
use Rattle.alias_facts.specs.declared.facts.FunctionFacts.{FunctionFacts}
use Rattle.alias_signature.specs.Globals.{instruction_report}
use Rattle.alias_signature.specs.Known.{known}
use Rattle.alias_signature.specs.Signatures.{signature_of}
use Rattle.alias_lattice.specs.declared.site.Site.TheVariants.{Default}
use Rattle.alias_lattice.specs.declared.value.AbstractValue.{AbstractValue}
use Rattle.alias_lattice.specs.States.{State, lookup, sites_of, given, mutable_other}
use Rattle.alias_apply.specs.freezing.Contexts.{context_of}
use Rattle.alias_tables.specs.Steps.{◌>>=◌, gives, each}
use Rattle.alias_tables.specs.Tables.{Step, intern_report}
use Rattle.alias_apply.specs.declared.progress.StepProgress.{StepProgress}
use Rattle.alias_apply.specs.Contexts.{StepContext, summary_of}
use Rattle.alias_apply.specs.Kinds.{is_frozen}
use Rattle.alias_apply.specs.Progress.{record_of, with_state}
use Rattle.alias_apply.specs.Reports.{write_report}
use Rattle.alias_step.specs.Calls.{apply_effects}
use Rattle.alias_step.specs.Operands.{same_place}

-- ---- the function that the instruction creates

-- the place that an effect writes for certain
abbrev pub written_by : AliasingEffect → Option Place
written_by (effect.Mutate v r) = Some v
written_by (effect.MutateTransitive v) = Some v
written_by e = None

-- it is a context place, and frozen here
abbrev pub is_frozen_context : List Place → State → Place → Bool
is_frozen_context context u v =
    list_any (λ (p : Place). same_place p v) context && is_some (sites_of u v.identifier)
    && is_frozen (lookup u v.identifier).kind

-- the report is interned, and the effect is recorded as it is
abbrev pub record_mutate_frozen : Report → Place → StepProgress → Step StepProgress
record_mutate_frozen r v s = do
  error ← intern_report v.identifier r
  gives (record_of (effect.MutateFrozen v error) s)

module _ (c : StepContext) where
  abbrev pub record_write : AbstractValue → Place → StepProgress → Step StepProgress
  record_write there v s = record_mutate_frozen (write_report c.env v.identifier v.span there.reason) v s

  abbrev pub record_write_if : Bool → AbstractValue → Place → StepProgress → Step StepProgress
  record_write_if b there v s = if b then record_write there v s else gives s

  abbrev pub check_write : List Place → Option Place → StepProgress → Step StepProgress
  check_write context None s = gives s
  check_write context (Some v) s = record_write_if (is_frozen_context context s.state v) (lookup s.state v.identifier) v
      s

  abbrev pub check_effect : List Place → AliasingEffect → StepProgress → Step StepProgress
  check_effect context e s = check_write context (written_by e) s

  abbrev pub check_effects : List Place → List AliasingEffect → StepProgress → Step StepProgress
  check_effects context = each (check_effect context)

  abbrev pub check_summary : List Place → Option (List AliasingEffect) → StepProgress → Step StepProgress
  check_summary context None s = gives s
  check_summary context (Some effects) s = check_effects context effects s

  -- each write of a frozen context place by the function's summary is an error
  abbrev pub check_created : Option FunctionId → StepProgress → Step StepProgress
  check_created None s = gives s
  check_created (Some f) s = check_summary (context_of c.env f) (summary_of c.env f) s

-- ---- the instruction

-- it begins with nothing made and nothing recorded
abbrev pub begun : StepProgress → StepProgress
begun s = record s { made = []; recorded = [] }

-- a result without sites gets Default of itself, with Mutable {Other} whatever value it had
abbrev pub with_result : Bool → IdentifierId → StepProgress → StepProgress
with_result true x s = s
with_result false x s = with_state (given x (Default x) mutable_other s.state) s

-- what creates this function, has these effects and this result
abbrev pub apply_instruction : StepContext → Option FunctionId → List AliasingEffect → IdentifierId → StepProgress
    → Step StepProgress
apply_instruction c f effects x s = do
  t ← check_created c f (begun s)
  u ← apply_effects c effects t
  gives (with_result (is_some (sites_of u.state x)) x u)

-- the report is interned
abbrev pub intern_reported : Option (IdentifierId × Report) → Step (Option ReportId)
intern_reported None = gives None
intern_reported (Some reported) = do
  error ← intern_report reported.0 reported.1
  gives (Some error)

abbrev pub context_with : Environment → FunctionFacts → StepContext
context_with env facts = record { env = env; hoisted = facts.hoisted }

-- the step with the report of what is reported, if something is
abbrev pub apply_signature_with : Environment → FunctionFacts → Instruction → Option ReportId → StepProgress
    → Step StepProgress
apply_signature_with env facts i error s =
    apply_instruction (context_with env facts) (created i.value) (signature_of (known env facts error) i)
    i.lvalue.identifier s

abbrev pub apply_signature : Environment → FunctionFacts → Instruction → StepProgress → Step StepProgress
apply_signature env facts i s = do
  error ← intern_reported (instruction_report i.value i.span)
  apply_signature_with env facts i error s
