-- A refusal of the inference has its cause in the unit, and what `plain` says of a unit holds of its inference.
use Rattle.std.proofs.Common.{◌≡◌, ◌≢◌, ◌∙◌, ℕ, ◌<◌, ◌≤◌, ⊎_elim, inl, inr, List, [], length, Option, Some, refl, sym}
use Rattle.std.proofs.Common.{ap, subst, arith}
use Rattle.std.specs.Prelude.{true, false, Result, Ok, Err}
use Rattle.alias_base.specs.Answer.{Gives}
use Rattle.alias_base.specs.declared.ids.FunctionId.{FunctionId}
use Rattle.alias_base.specs.declared.ids.IdentifierId.{IdentifierId}
use Rattle.alias_base.specs.failures.Failures.{HasFailed}
use Rattle.alias_hir.specs.declared.env.Unit.{Unit as HirUnit}
use Rattle.alias_hir.specs.declared.error.InferError.{InferError}
use Rattle.alias_hir.specs.declared.error.InferError.TheVariants as infer
use Rattle.alias_hir.specs.declared.report.Report.{Report}
use Rattle.alias_json.specs.declared.fault.ValueFault.{ValueFault}
use Rattle.alias_json.specs.declared.fault.ValueFault.TheVariants as value
use Rattle.alias_read.specs.Units.{unit_of, UnitReading}
use Rattle.alias_rules.specs.Functions.{rules_hold}
use Rattle.alias_nested.specs.Analysis.{IsFault}
use Rattle.alias_nested.specs.Units.{InfersUnit, UnitAnalysis, unit_analysed}
use Rattle.alias_plain.specs.laws.Answers.{answer_of, unit_end, is_fault_memory}
use Rattle.alias_plain.specs.laws.UnitLaws.{TellsOf}
use Rattle.alias_plain.specs.declared.laws.answer.PlainFault.{PlainFault}
use Rattle.alias_plain.specs.declared.laws.answer.PlainFault.TheVariants as fault
use Rattle.alias_plain.specs.declared.laws.answer.Plainness.{Plainness as PlainAnswer}
use Rattle.alias_plain.specs.declared.laws.answer.Plainness.TheVariants as plain
use Rattle.alias_plainness.specs.Plainness.{IsPlainUnit}
use Rattle.alias_unit_completeness.specs.Complete.{unit_caused}
use Rattle.alias_unit_completeness.specs.Refusals.{IsCaused, IsForwardUnit, IsTooMany, IsTooManyOrUnsettled}
use Rattle.alias_unit_completeness.specs.Refusals.{blames_no_plain}
use Rattle.alias_run.specs.declared.answer.Answer.{Answer}
use Rattle.alias_run.specs.declared.answer.Answer.TheVariants.{Nothing, Decided}
use Rattle.alias_run.specs.declared.command.Command.{Command}
use Rattle.alias_run.specs.declared.command.Command.TheVariants.{Infer, Certify, Made}
use Rattle.alias_run.specs.declared.outcome.Outcome.{Outcome}
use Rattle.alias_run.specs.declared.query.Query.TheVariants.{Inference}
use Rattle.alias_run.specs.declared.status.Status.{Status}
use Rattle.alias_run.specs.declared.status.Status.TheVariants.{Done, NotJson, NotUnit, Unfit, Refused, ReadFault}
use Rattle.alias_run.specs.declared.status.Status.TheVariants.{WriteFault, TooLong, Memory}
use Rattle.alias_run.specs.Findings.{greatest_input, IsInferred, EndsUnblamed, EndsInferred, Settles, EndsWherePlain}
use Rattle.alias_run.specs.Findings.{IsDecided, IsChecked, IsJudged, IsRead, IsFound}
use Rattle.alias_run.specs.Runs.{IsRun, IsComplete}
use Rattle.alias_run.specs.Statuses.{infer_status, plain_status}
use Rattle.alias_run.proofs.Running.{ended_as}

-- ---- refusals

no_less : 0 < 0 → ⊥
no_less h = omega arith

never_true : false ≡ true → ⊥
never_true h = cc

-- passes that keep all never fail
never_fails : HasFailed 0 0 false → ⊥
never_fails h = ⊎_elim no_less never_true h

-- why a call is refused that infers the unit
refused : (u : HirUnit) (e : InferError) → rules_hold u ≡ Ok tt → (IsFault e → HasFailed 0 0 false)
    → InfersUnit (unit_analysed u) (Err e) → IsInferred u (infer_status e) Nothing
refused u (infer.Memory x) rules failed h = refl
refused u (infer.PassFault f pass) rules failed h = absurd (never_fails (failed tt))
refused u e rules failed h = (h refl, unit_caused u rules e (h refl), refl)

-- the status of such a call, of a unit of which it is known that it is well formed
pub inference_refused : (u v : HirUnit) (e : InferError) (status : Status) → v ≡ u → rules_hold v ≡ Ok tt
    → (IsFault e → HasFailed 0 0 false) → InfersUnit (unit_analysed u) (Err e) → status ≡ infer_status e
    → IsInferred u status Nothing
inference_refused u v e status same rules failed h is =
    subst (λ s. IsInferred u s Nothing) (sym is) (refused u e (subst (λ z. rules_hold z ≡ Ok tt) same rules) failed h)

pub inferred_ended : (u : HirUnit) (status : Status) (o : Outcome) → o ≡ ended_as status → IsInferred u status Nothing
    → IsInferred u o.status o.answer
inferred_ended u status o is h = subst (λ (z : Outcome). IsInferred u z.status z.answer) (sym is) h

-- ---- plain units

-- a plain unit that settles is refused for want of numbers alone
too_many : (u : HirUnit) (e : InferError)
    → ((f : Option FunctionId) (visits : ℕ) (report : Report)
    → unit_analysed u ≢ Err (infer.NotSettled f visits report)) → unit_analysed u ≡ Err e → IsTooManyOrUnsettled e
    → IsTooMany e
too_many u (infer.NotSettled f visits report) settled q h = absurd (settled f visits report q)
too_many u e settled q h = h

unblamed_as : (u : HirUnit) → IsPlainUnit u → Settles u → (e : InferError) → unit_analysed u ≡ Err e → IsCaused u e
    → IsTooMany e
unblamed_as u is (inl forward) e q cause = (blames_no_plain u e cause is).1 forward
unblamed_as u is (inr settled) e q cause = too_many u e settled q (blames_no_plain u e cause is).0

-- the inference of such a unit
pub unblamed : (u : HirUnit) → IsPlainUnit u → Settles u → (status : Status) (a : Answer) → IsInferred u status a
    → EndsUnblamed status
unblamed u is settles Done a i = tt
unblamed u is settles (Refused e) a i = unblamed_as u is settles e i.0 i.1
unblamed u is settles Memory a i = tt
unblamed u is settles status a i = absurd i

-- an inference that has a result
pub inferred_ends : (u : HirUnit) → (x : UnitAnalysis) × (unit_analysed u ≡ Ok x) → (status : Status) (a : Answer)
    → IsInferred u status a → EndsInferred status
inferred_ends u is Done a i = tt
inferred_ends u is (Refused e) a i = let no : Ok is.0 ≡ Err e = sym is.1 ∙ i.0 in absurd (cc)
inferred_ends u is Memory a i = tt
inferred_ends u is status a i = absurd i

ends_where_plain : (u : HirUnit) (p : PlainAnswer) → TellsOf u (Ok p) → EndsWherePlain u p
ends_where_plain u plain.Plain h = unblamed u h
ends_where_plain u (plain.NotPlain f i rule) h = tt

pub decided_done : (u : HirUnit) (p : PlainAnswer) (o : Outcome) → o ≡ record { status = Done; answer = Decided p }
    → Gives is_fault_memory (answer_of (unit_end u)) (Ok p) → TellsOf u (Ok p) → IsDecided u o.status o.answer
decided_done u p o is h tells = subst (λ (z : Outcome). IsDecided u z.status z.answer) (sym is)
    (h, tells, ends_where_plain u p tells)

undecided : (u : HirUnit) (e : PlainFault) → Gives is_fault_memory (answer_of (unit_end u)) (Err e) → TellsOf u (Err e)
    → IsDecided u (plain_status e) Nothing
undecided u (fault.NotSettled f) h tells = (h refl, tells, refl)
undecided u (fault.TooMany which) h tells = (h refl, tells, refl)
undecided u (fault.Memory x) h tells = refl

pub decided_fault : (u : HirUnit) (e : PlainFault) (status : Status) (o : Outcome) → o ≡ ended_as status → status
    ≡ plain_status e → Gives is_fault_memory (answer_of (unit_end u)) (Err e) → TellsOf u (Err e)
    → IsDecided u o.status o.answer
decided_fault u e status o is stated h tells =
    subst (λ (z : Outcome). IsDecided u z.status z.answer) (sym (is ∙ ap ended_as stated)) (undecided u e h tells)

-- ---- the same bytes

pub one_some : {A : Type 0} (o : Option A) (x y : A) → o ≡ Some x → o ≡ Some y → x ≡ y
one_some o x y p q = cc

one_ok : (o : Result HirUnit ValueFault) (u v : HirUnit) → o ≡ Ok u → o ≡ Ok v → u ≡ v
one_ok o u v p q = cc

-- bytes are the JSON of one unit at most
pub one_unit : (bytes : List ℕ) (u v : HirUnit) → UnitReading bytes u → UnitReading bytes v → u ≡ v
one_unit bytes u v r s =
    let same : r.0 ≡ s.0 = one_some _ r.0 s.0 r.1.tree s.1.tree in
    one_ok (unit_of s.0) u v (subst (λ d. unit_of d ≡ Ok u) same r.2) s.2

module _ (bytes : List ℕ) (failed : Type 0) (no_read_fails : failed → ⊥) (short : length bytes ≤ greatest_input)
    (u : HirUnit) (is : UnitReading bytes u) (rules : rules_hold u ≡ Ok tt)
    (ends : (status : Status) (a : Answer) → IsInferred u status a → EndsUnblamed status) where
  checked_ends : (v : HirUnit) (status : Status) (a : Answer) → v ≡ u → IsChecked Inference [] v status a
      → EndsUnblamed status
  checked_ends v (Unfit broken) a same h = let no : Ok tt ≡ Err broken = sym rules ∙ sym (ap rules_hold same) ∙ h.0 in
      absurd (cc)
  checked_ends v Memory a same h = tt
  checked_ends v status a same h = ends status a (subst (λ z. IsInferred z status a) same h.1)

  judged_ends : (status : Status) (a : Answer) → IsJudged Inference (bytes, []) status a → EndsUnblamed status
  judged_ends NotJson a h = absurd (h.0 is.0 is.1)
  judged_ends (NotUnit pointer rule) a h = let r = h.0 in let no : Ok u ≡ Err (value.Refused pointer rule) = sym is.2
      ∙ ap unit_of (one_some _ is.0 r.0 is.1.tree r.1.tree) ∙ r.2 in absurd (cc)
  judged_ends Memory a h = tt
  judged_ends status a h = checked_ends h.0 status a (one_unit bytes h.0 u h.1 is) h.2

  too_long : greatest_input < length bytes → ⊥
  too_long h = omega (arith, short, h)

  read_ends : (status : Status) (a : Answer) → IsRead Inference (Some bytes) failed status a → EndsUnblamed status
  read_ends ReadFault a h = absurd (no_read_fails h.0)
  read_ends TooLong a h = absurd (too_long h.0)
  read_ends Memory a h = tt
  read_ends status a h = judged_ends status a (subst (λ bs. IsJudged Inference (bs, []) status a) (sym h.1) h.3)

-- ---- runs

-- where what the words and the source lead to ends so, a run does
pub run_ends : (Ends : Status → Type 0) → Ends Memory
    → (asked : Option Command) (known : Option (List ℕ)) (read_failed write_failed : Type 0)
    (held held' : Option (List ℕ)) → ((status : Status) (a : Answer) → IsFound asked known read_failed status a
    → Ends status)
    → (write_failed → ⊥) → (status : Status) (a : Answer)
    → IsRun asked known read_failed write_failed held held' status a → Ends status
run_ends Ends memory asked known read_failed write_failed held held' ends writes WriteFault a r = absurd (writes r.0)
run_ends Ends memory asked known read_failed write_failed held held' ends writes Memory a r = memory
run_ends Ends memory asked known read_failed write_failed held held' ends writes status a r = ends status a r.0

-- what is found of the JSON of a plain unit that settles
found_ends : (known : Option (List ℕ)) (failed : Type 0) (bytes : List ℕ) (u : HirUnit) → known ≡ Some bytes
    → length bytes ≤ greatest_input → UnitReading bytes u → rules_hold u ≡ Ok tt → IsPlainUnit u → Settles u
    → (failed → ⊥)
    → (status : Status) (a : Answer) → IsRead Inference known failed status a → EndsUnblamed status
found_ends known failed bytes u whole short is rules plain settles reads status a h =
    read_ends bytes failed reads short u is rules (unblamed u plain settles) status a
    (subst (λ k. IsRead Inference k failed status a) whole h)

-- each run is complete
pub run_is_complete : (asked : Option Command) (known : Option (List ℕ)) (read_failed write_failed : Type 0)
    (held held' : Option (List ℕ)) (status : Status) (a : Answer)
    → IsRun asked known read_failed write_failed held held' status a
    → IsComplete asked known read_failed write_failed status
unfolding IsComplete IsFound
run_is_complete (Some Infer) known read_failed write_failed held held' status a r =
    λ bytes u whole short is rules plain settles reads writes.
    run_ends EndsUnblamed tt (Some Infer) known read_failed write_failed held held'
    (found_ends known read_failed bytes u whole short is rules plain settles reads) writes status a r
run_is_complete (Some Certify) known read_failed write_failed held held' status a r =
    λ bytes u whole short is rules plain settles reads writes.
    run_ends EndsUnblamed tt (Some Certify) known read_failed write_failed held held'
    (found_ends known read_failed bytes u whole short is rules plain settles reads) writes status a r
run_is_complete (Some (Made seed size)) known read_failed write_failed held held' status a r = λ writes.
    run_ends EndsInferred tt (Some (Made seed size)) known read_failed write_failed held held' (λ s b found. found.2)
    writes status a r
run_is_complete asked known read_failed write_failed held held' status a r = tt
