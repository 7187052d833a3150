-- The step of an instruction is the same beside.
use Rattle.std.specs.Prelude.{◌≡◌, Bool, true, false, ◌&&◌, List, [], ◌∷◌, ◌++◌, Option, None, Some, slice_get}
use Rattle.std.specs.Prelude.{refl}
use Rattle.std.specs.List.{AllByRecursion, flat_map, list_any}
use Rattle.std.specs.Option.{is_some, option_map_or}
use Rattle.alias_base.specs.AnswerLaws.{both_true}
use Rattle.alias_base.specs.declared.ids.FunctionId.{FunctionId}
use Rattle.alias_base.specs.declared.ids.IdentifierId.{IdentifierId}
use Rattle.alias_hir.specs.ReportNumbers.{is_invariant, summary}
use Rattle.alias_hir.specs.Effects.{error_of}
use Rattle.alias_hir.specs.declared.effect.AliasingEffect.{AliasingEffect}
use Rattle.alias_hir.specs.declared.effect.AliasingEffect.TheVariants as effect
use Rattle.alias_hir.specs.declared.env.Environment.{Environment}
use Rattle.alias_hir.specs.declared.hir.HirFunction.{HirFunction}
use Rattle.alias_hir.specs.declared.place.Place.{Place}
use Rattle.alias_hir.specs.declared.place.Span.{Span}
use Rattle.alias_hir.specs.declared.report.Report.{Report}
use Rattle.alias_lattice.specs.States.{lookup, sites_of}
use Rattle.alias_lattice.specs.declared.value.AbstractValue.{AbstractValue}
use Rattle.alias_apply.specs.freezing.Contexts.{context_of}
use Rattle.alias_tables.specs.Steps.{gives}
use Rattle.alias_tables.specs.Tables.{TableLists, intern_report}
use Rattle.alias_apply.specs.Contexts.{StepContext, summary_in}
use Rattle.alias_apply.specs.Kinds.{is_frozen}
use Rattle.alias_apply.specs.Progress.{record_of}
use Rattle.alias_apply.specs.Reports.{write_report}
use Rattle.alias_apply.specs.declared.progress.StepProgress.{StepProgress}
use Rattle.alias_step.specs.Calls.{apply_effects}
use Rattle.alias_step.specs.Instructions.{written_by, is_frozen_context, record_mutate_frozen, record_write_if}
use Rattle.alias_step.specs.Instructions.{check_write, check_effect, check_effects, check_summary, check_created, begun}
use Rattle.alias_step.specs.Instructions.{with_result, apply_instruction}
use Rattle.alias_step.specs.Operands.{same_place}
use Rattle.alias_walks.specs.Applying.{To, to_gives}
use Rattle.alias_walks.specs.Knowing.{AllKnown, all_known_later}
use Rattle.alias_walks.specs.Knowing.{of_error, Reported, reporting}
use Rattle.alias_walks.specs.Law.{Law, Copied}
use Rattle.alias_walks.specs.Words.{Growing, lead_gives, lead_then, lead_each}
use Rattle.std.specs.Prelude.{if◌then◌else◌}
use Rattle.std.proofs.Common.{ap, ◌∙◌}
use Rattle.alias_facts.specs.declared.facts.FunctionFacts.{FunctionFacts}
use Rattle.alias_hir.specs.Values.{created}
use Rattle.alias_hir.specs.declared.hir.Instruction.{Instruction}
use Rattle.alias_hir.specs.declared.report.ReportId.{ReportId}
use Rattle.alias_hir.specs.declared.value.InstructionValue.{InstructionValue}
use Rattle.alias_hir.specs.declared.value.InstructionValue.TheVariants as value
use Rattle.alias_signature.specs.Functions.{captured, function_effects}
use Rattle.alias_signature.specs.Globals.{instruction_report}
use Rattle.alias_signature.specs.Known.{known}
use Rattle.alias_signature.specs.Signatures.{signature_of_value, signature_of}
use Rattle.alias_tables.specs.Steps.{◌>>=◌, and_then}
use Rattle.alias_tables.specs.Tables.{Step}
use Rattle.alias_apply.specs.Contexts.{summary_of}
use Rattle.alias_step.specs.Instructions.{intern_reported, context_with, apply_signature_with, apply_signature}
use Rattle.alias_walks.specs.Blocking.{InstructionKnown}
use Rattle.alias_walks.specs.Words.{Leads}
use Rattle.alias_seen_laws.specs.Beside.{Others, with_others}
use Rattle.alias_hir.specs.declared.effect.MutationReason.{MutationReason}
use Rattle.alias_visit.specs.Operands.{operands_of}
use Rattle.alias_signature.specs.Jsx.{jsx_effects}
use Rattle.alias_signature.specs.Stores.{property_store_effects}
use Rattle.alias_tables.specs.Steps.{each}
use Rattle.alias_seen_laws.proofs.same.Signing.{iterator_same, array_same, call_same, load_same, reason_same}
use Rattle.alias_seen_laws.proofs.same.Signing.{render_same, destructure_same, declared_same, stored_same}
use Rattle.alias_seen_laws.proofs.same.Writing.{beside, write_report_same}
use Rattle.alias_seen_laws.proofs.steps.Applying.{Sees, context_same, summary_same}
use Rattle.alias_seen_laws.proofs.steps.Both.{same_then}
use Rattle.alias_seen_laws.proofs.steps.Stepping.{effects_twice}

-- ---- the function that the instruction creates

module _ {env : Environment} (L : Law env) where
  -- what is known of an effect of its summary
  abbrev Summarized : FunctionId → TableLists → AliasingEffect → Type 0
  Summarized f t e = Copied env (L.Raised t) (L.Told t) f e

  summarized_later : (f : FunctionId) → Growing (Summarized f)
  summarized_later f t u x e g = (
    L.told_later t u x (error_of e) g.0,
    λ v is among. L.raised_later t u x v (g.1 v is among),
  )

  recorded_frozen : (r : Report) (v : Place) (s : StepProgress) (t : TableLists) → is_invariant r.category ≡ false
      → L.Kept t → L.Raised t v → L.Here t s → To L (record_mutate_frozen r v s) t
  recorded_frozen r v s t c k p h =
      lead_then L (Reported L) L.Here (intern_report v.identifier r) _ t (reporting L v.identifier r t c k)
      (λ d u x l i. to_gives L (record_of (effect.MutateFrozen v d) s) u l
      (L.records (effect.MutateFrozen v d) s u refl (of_error L u v d (L.raised_later t u x v p) i)
      (L.here_later t u x s h)))

module _ (c : StepContext) (L : Law c.env) where
  write_recorded : (b : Bool) (there : AbstractValue) (v : Place) (s : StepProgress) (t : TableLists) → L.Kept t
      → (b ≡ true → L.Raised t v) → L.Here t s → To L (record_write_if c b there v s) t
  write_recorded true there v s t k p h =
      recorded_frozen L (write_report c.env v.identifier v.span there.reason) v s t refl k (p refl) h
  write_recorded false there v s t k p h = to_gives L s t k h

  among : (context : List Place) (s : StepProgress) (v : Place) → is_frozen_context context s.state v ≡ true
      → list_any (λ (p : Place). same_place p v) context ≡ true
  among context s v e =
      let there = list_any (λ (p : Place). same_place p v) context in
      (both_true there (is_some (sites_of s.state v.identifier))
      (both_true (there && is_some (sites_of s.state v.identifier)) (is_frozen (lookup s.state v.identifier).kind)
      e).0).0

  write_checked : (context : List Place) (o : Option Place) (s : StepProgress) (t : TableLists) → L.Kept t
      → ((v : Place) → o ≡ Some v → list_any (λ (p : Place). same_place p v) context ≡ true → L.Raised t v) → L.Here t s
      → To L (check_write c context o s) t
  write_checked context None s t k p h = to_gives L s t k h
  write_checked context (Some v) s t k p h =
      write_recorded (is_frozen_context context s.state v) (lookup s.state v.identifier) v s t k
      (λ e. p v refl (among context s v e)) h

  effects_checked : (f : FunctionId) (es : List AliasingEffect) (s : StepProgress) (t : TableLists) → L.Kept t
      → AllByRecursion (Summarized L f t) es → L.Here t s → To L (check_effects c (context_of c.env f) es s) t
  effects_checked f es s t k g h =
      lead_each L (Summarized L f) L.Here (check_effect c (context_of c.env f)) (summarized_later L f)
      (λ e w u l r i. write_checked (context_of c.env f) (written_by e) w u l r.1 i) es s t k g h

  summary_checked : (f : FunctionId) (o : Option (List AliasingEffect)) (s : StepProgress) (t : TableLists)
      → L.Kept t → AllByRecursion (Summarized L f t) (option_map_or (λ (es : List AliasingEffect). es) o [])
      → L.Here t s → To L (check_summary c (context_of c.env f) o s) t
  summary_checked f None s t k g h = to_gives L s t k h
  summary_checked f (Some es) s t k g h = effects_checked f es s t k g h

  function_checked : (f : FunctionId) (o : Option HirFunction) (s : StepProgress) (t : TableLists)
      → L.Kept t → AllByRecursion (Summarized L f t) (summary o) → L.Here t s
      → To L (check_summary c (context_of c.env f) (summary_in o) s) t
  function_checked f None s t k g h = to_gives L s t k h
  function_checked f (Some function) s t k g h = summary_checked f function.aliasing_effects s t k g h

  pub created_checked : (o : Option FunctionId) (s : StepProgress) (t : TableLists) → L.Kept t → L.Made o → L.Here t s
      → To L (check_created c o s) t
  created_checked None s t k g h = to_gives L s t k h
  created_checked (Some f) s t k g h = function_checked f (slice_get c.env.functions f.0) s t k (L.summaries f t k g) h

module _ (c : StepContext) (L : Law c.env) (z : Others) (S : Sees L z) where
  abbrev d : StepContext
  d = beside c z

  -- a summary is checked as before
  write_same : (context : List Place) (o : Option Place) (s : StepProgress)
      → check_write d context o s ≡ check_write c context o s
  write_same context None s = refl
  write_same context (Some v) s =
      ap (λ (r : Report). let q : Step StepProgress = if is_frozen_context context s.state v
      then record_mutate_frozen r v s else gives s in q)
      (write_report_same c.env z S.declares v.identifier v.span (lookup s.state v.identifier).reason)

  checked_same : (context : List Place) (o : Option (List AliasingEffect)) (s : StepProgress)
      → check_summary d context o s ≡ check_summary c context o s
  checked_same context None s = refl
  checked_same context (Some es) s =
      ap (λ (f : AliasingEffect → StepProgress → Step StepProgress). each f es s)
      (λ i e w. write_same context (written_by e) w i)

  -- and so is that of the function that an instruction creates
  created_same : (o : Option FunctionId) (s : StepProgress) → L.Made o → check_created d o s ≡ check_created c o s
  created_same None s m = refl
  created_same (Some f) s m =
      ap (λ (ps : List Place). check_summary d ps (summary_of d.env f) s) (context_same c L z S f m)
      ∙ ap (λ (q : Option (List AliasingEffect)). check_summary d (context_of c.env f) q s) (summary_same c L z S f m)
      ∙ checked_same (context_of c.env f) (summary_of c.env f) s

  -- what creates this function, has these effects and this result
  pub instruction_same : (f : Option FunctionId) (es : List AliasingEffect) (x : IdentifierId) (s : StepProgress)
      (t : TableLists)
      → L.Kept t → L.Made f → AllKnown L t es → L.Here t (begun s)
      → apply_instruction d f es x s t ≡ apply_instruction c f es x s t
  instruction_same f es x s t k m o h =
      let ends : StepProgress → Step StepProgress = λ u. gives (with_result (is_some (sites_of u.state x)) x u) in
      ap (λ (q : Step StepProgress). (q >>= (λ u. apply_effects d es u >>= ends)) t) (created_same f (begun s) m)
      ∙ same_then L L.Here (check_created c f (begun s)) (λ u. apply_effects c es u >>= ends)
      (λ u. apply_effects d es u >>= ends) t (created_checked c L f (begun s) t k m h)
      (λ w u y l g. ap (λ r. and_then r ends)
      (effects_twice c L z S es w u l (all_known_later L t u y es o) g).same)

-- ---- an instruction with what is reported of it

-- what is reported of an instruction says nothing of invariants
abbrev ReportedFine : Option (IdentifierId × Report) → Type 0
ReportedFine None = Unit {0}
ReportedFine (Some reported) = is_invariant reported.1.category ≡ false

reported_fine : (v : InstructionValue) (span : Option Span) → ReportedFine (instruction_report v span)
reported_fine (value.StoreGlobal name v) span = refl
reported_fine v span = tt

module _ {env : Environment} (L : Law env) (z : Others) (S : Sees L z) where
  abbrev there : Environment
  there = with_others env z

  reported : (o : Option (IdentifierId × Report)) (t : TableLists) → L.Kept t → ReportedFine o
      → Leads L L.Told (intern_reported o) t
  reported None t k h = lead_gives L L.Told None t k (L.no_report t)
  reported (Some r) t k h = lead_then L (Reported L) L.Told (intern_report r.0 r.1) (λ error. gives (Some error)) t
      (reporting L r.0 r.1 t h k) (λ d u x l i. lead_gives L L.Told (Some d) u l i)

  function_same : (l : Place) (f : FunctionId) → L.Made (Some f) → function_effects there l f ≡ function_effects env l f
  function_same l f m =
      ap (λ (o : Option HirFunction).
      effect.CreateFunction l f (flat_map captured (option_map_or (λ (g : HirFunction). g.context) o [])) ∷ [])
      (S.functions f m)

  value_same : (facts : FunctionFacts) (error : Option ReportId) (l : Place) (span : Option Span) (v : InstructionValue)
      → L.Made (created v)
      → signature_of_value (known there facts error) l span v ≡ signature_of_value (known env facts error) l span v
  value_same facts error l span (value.FunctionExpression lowered) m = function_same l lowered.func m
  value_same facts error l span (value.ObjectMethod lowered) m = function_same l lowered.func m
  value_same facts error l span (value.ArrayExpression elements) m = array_same env z S.declares l elements
  value_same facts error l span (value.NewExpression callee args) m =
      call_same env z S.declares callee callee false args l span
  value_same facts error l span (value.CallExpression callee args) m =
      call_same env z S.declares callee callee true args l span
  value_same facts error l span (value.MethodCall receiver property args) m =
      call_same env z S.declares receiver property false args l span
  value_same facts error l span (value.PropertyLoad object) m = load_same env z S.declares l object
  value_same facts error l span (value.ComputedLoad object property) m = load_same env z S.declares l object
  value_same facts error l span (value.PropertyStore object property v) m =
      ap (λ (o : Option MutationReason). property_store_effects l object v o)
      (reason_same env z S.declares object property)
  value_same facts error l span (value.GetIterator collection) m = iterator_same env z S.declares l collection
  value_same facts error l span (value.JsxExpression tag props children) m =
      ap (λ (es : List AliasingEffect). jsx_effects l (operands_of env (value.JsxExpression tag props children)) ++ es)
      (render_same env z S.declares tag props children)
  value_same facts error l span (value.Destructure variables v) m =
      destructure_same env z S.declares facts.spreads l variables.pattern v
  value_same facts error l span (value.DeclareContext variable) m =
      declared_same env z S.declares facts.hoisted l variable
  value_same facts error l span (value.StoreContext variable v) m =
      stored_same env z S.declares facts.hoisted l variable v
  value_same facts error l span v m = refl

  pub signature_same : (facts : FunctionFacts) (i : Instruction) (s : StepProgress) (t : TableLists) → L.Kept t
      → InstructionKnown L facts i → L.Here t (begun s)
      → apply_signature there facts i s t ≡ apply_signature env facts i s t
  signature_same facts i s t k g h =
      same_then L L.Told (intern_reported (instruction_report i.value i.span))
      (λ error. apply_signature_with env facts i error s) (λ error. apply_signature_with there facts i error s) t
      (reported (instruction_report i.value i.span) t k (reported_fine i.value i.span))
      (λ error u x l e.
      let c : StepContext = context_with env facts in
      ap (λ (es : List AliasingEffect). apply_instruction (beside c z) (created i.value) es i.lvalue.identifier s u)
      (value_same facts error i.lvalue i.span i.value g.creation)
      ∙ instruction_same c L z S (created i.value) (signature_of (known env facts error) i) i.lvalue.identifier s u l
      g.creation (g.effects error u l e) (L.here_later t u x (begun s) h))
