-- From what a layer finds to what the run comes to.
use Rattle.std.proofs.Common.{◌≡◌, false, ℕ, ◌≤◌, ⊎_elim, inl, inr, List, [], length, take, Option, Some, None, refl}
use Rattle.std.proofs.Common.{sym, ◌∙◌, ap, subst}
use Rattle.std.specs.Prelude.{Result, Ok, Err, ⊤}
use Rattle.std.proofs.lemmas.List.{append-nil}
use Rattle.std.proofs.Math.Seq.{take-length}
use Rattle.alias_base.specs.Answer.{◌>>=◌}
use Rattle.alias_hir.specs.declared.env.Unit.{Unit as HirUnit}
use Rattle.alias_base.specs.declared.ids.FunctionId.{FunctionId}
use Rattle.alias_base.specs.declared.ids.IdentifierId.{IdentifierId}
use Rattle.alias_nested.specs.declared.infer.Inferred.{Inferred as UnitInference}
use Rattle.alias_cert_text.specs.Certificates.{certificate_of_text}
use Rattle.alias_certificate.specs.declared.certificate.Certificate.{Certificate}
use Rattle.alias_stream.specs.Streams.{Adds, IsAllOf}
use Rattle.alias_stream.specs.declared.sink.SinkStop.{SinkStop}
use Rattle.alias_stream.specs.declared.sink.SinkStop.TheVariants as sink
use Rattle.alias_made.specs.Units.{made_unit}
use Rattle.alias_read.specs.Units.{UnitReading, ReadsUnit}
use Rattle.alias_read.specs.declared.fault.TextFault.{TextFault}
use Rattle.alias_read.specs.declared.fault.TextFault.TheVariants as text
use Rattle.alias_run.specs.declared.command.Command.{Command}
use Rattle.alias_run.specs.declared.command.Command.TheVariants.{Infer, Certify, Check, Lint, Explain, ExplainFunction}
use Rattle.alias_run.specs.declared.command.Command.TheVariants.{Brief, Verify, Plain, Made, Help, Version}
use Rattle.alias_run.specs.declared.status.Status.{Status}
use Rattle.alias_run.specs.declared.status.Status.TheVariants.{Done, Words, NotJson, NotUnit, Unfit, BadLine, Rejected}
use Rattle.alias_run.specs.declared.status.Status.TheVariants.{Differs, PlainRefused, Refused, NotHere, ReadFault}
use Rattle.alias_run.specs.declared.status.Status.TheVariants.{WriteFault, TooLong, Memory}
use Rattle.alias_text.specs.declared.detail.Detail.{Detail}
use Rattle.alias_text.specs.declared.detail.Detail.TheVariants as detail
use Rattle.alias_run.specs.declared.answer.Answer.{Answer}
use Rattle.alias_run.specs.declared.answer.Answer.TheVariants.{Nothing, Inferred, Accepted, Briefed, Verified}
use Rattle.alias_run.specs.declared.answer.Answer.TheVariants.{Linted, Explained, FunctionExplained, Decided}
use Rattle.alias_run.specs.declared.query.Query.{Query}
use Rattle.alias_run.specs.declared.query.Query.TheVariants.{Inference, Acceptance, BriefText, Verification, Lints}
use Rattle.alias_run.specs.declared.query.Query.TheVariants.{Explanation, FunctionExplanation, Plainness}
use Rattle.alias_run.specs.declared.outcome.Outcome.{Outcome}
use Rattle.alias_rules.specs.Functions.{rules_hold, checks}
use Rattle.alias_rules.specs.function_rules.Fault.{is_memory}
use Rattle.alias_rules.specs.declared.function_rules.fault.UnitFault.{UnitFault}
use Rattle.alias_rules.specs.declared.function_rules.fault.UnitFault.TheVariants as unit
use Rattle.alias_run.specs.Findings.{parts_of, EndsInferred, IsAccepted, IsAcceptedOf, Infers, IsOfInference}
use Rattle.alias_run.specs.Findings.{IsInferred, IsChecked, IsAnswered, IsFit, IsJudged, IsRead, IsFound, Leaves}
use Rattle.alias_run.specs.Findings.{greatest_input}
use Rattle.alias_run.specs.Inferences.{solved_tell}
use Rattle.alias_cause_laws.proofs.handed.HandingOut.{handed_out}
use Rattle.alias_certified_laws.proofs.checked.InOrder.{answer_in_order}
use Rattle.alias_run.specs.Runs.{IsRun, IsInferredOf, IsAnsweredOf, IsUnitOf, ArePartsOf, IsDone, IsHeadline}
use Rattle.alias_run.specs.Runs.{IsSolvedAsSaid, IsAcceptedOfInput, IsVerifiedOfInput}
use Rattle.alias_run.proofs.Verifying.{inferred_where_forward}
use Rattle.alias_run.specs.Statuses.{text_status, unit_status, write_status}
use Rattle.alias_run.specs.Texts.{text_of, answer_text}

-- an outcome with nothing inferred
abbrev pub ended_as : Status → Outcome
ended_as status = record { status = status; answer = Nothing }

-- ---- units

-- a unit that is well formed is refused by none, and not by the inference where that has a result
pub checked_fit : (certificate : List ℕ) (u : HirUnit) (status : Status) (i : Answer) → rules_hold u ≡ Ok tt
    → ((s : Status) (a : Answer) → IsInferred u s a → EndsInferred s) → IsChecked Inference certificate u status i
    → IsFit u status i
checked_fit certificate u (Unfit fault) i k ends h = let no : Ok tt ≡ Err fault = sym k ∙ h.0 in absurd (cc)
checked_fit certificate u Memory i k ends h = (k, h, tt)
checked_fit certificate u status i k ends h = (h.0, h.1, ends status i h.1)

-- memory ran out before there was a unit
pub ran_out_fit : (u : HirUnit) (o : Outcome) → o ≡ ended_as Memory → rules_hold u ≡ Ok tt → IsFit u o.status o.answer
ran_out_fit u o is k = subst (λ (z : Outcome). IsFit u z.status z.answer) (sym is) (k, refl, tt)

-- what is so of what is inferred of a unit
pub of_inferred : (IsSo : UnitInference → Status → Answer → Type 0)
    → ((i : UnitInference) (a : Answer) → IsSo i Memory a → a ≡ Nothing)
    → (u : HirUnit) (i : UnitInference) (status : Status) (a : Answer) → Infers u i → IsSo i status a
    → IsOfInference IsSo u status a
of_inferred IsSo memory u i Memory a inf h = memory i a h
of_inferred IsSo memory u i status a inf h = inr (i, inf, h)

-- the inference is refused
of_refused : (IsSo : UnitInference → Status → Answer → Type 0) (u : HirUnit) (status : Status)
    → IsInferred u status Nothing → IsOfInference IsSo u status Nothing
of_refused IsSo u (Refused e) h = inl h
of_refused IsSo u Memory h = h
of_refused IsSo u status h = absurd h

pub of_ended : (IsSo : UnitInference → Status → Answer → Type 0) (u : HirUnit) (status : Status) (o : Outcome) → o
    ≡ ended_as status → IsInferred u status Nothing → IsOfInference IsSo u o.status o.answer
of_ended IsSo u status o is h = subst (λ (z : Outcome). IsOfInference IsSo u z.status z.answer) (sym is)
    (of_refused IsSo u status h)

-- the check of the certificate that a text is
pub accepted_of : (text : List ℕ) (u : HirUnit) (c : Certificate) (status : Status) (a : Answer)
    → certificate_of_text text ≡ Ok c → IsAcceptedOf c u status a → IsAccepted text u status a
accepted_of text u c (BadLine number) a is h = absurd h
accepted_of text u c Memory a is h = h
accepted_of text u c status a is h = (c, is, h)

-- what the query is answered of a unit that is well formed, the unit leads to
not_unfit : (q : Query) (certificate : List ℕ) (u : HirUnit) (fault : UnitFault) (a : Answer)
    → IsAnswered q certificate u (Unfit fault) a → ⊥
not_unfit Inference certificate u fault a h = h
not_unfit Acceptance certificate u fault a h = h.2
not_unfit BriefText certificate u fault a h = ⊎_elim (λ x. x) (λ y. y.2) h
not_unfit Verification certificate u fault a h = h
not_unfit Lints certificate u fault a h = ⊎_elim (λ x. x) (λ y. y.2) h
not_unfit (Explanation f id) certificate u fault a h = ⊎_elim (λ x. x) (λ y. y.2) h
not_unfit (FunctionExplanation f) certificate u fault a h = ⊎_elim (λ x. x) (λ y. y.2) h
not_unfit Plainness certificate u fault a h = h

memory_answered : (q : Query) (certificate : List ℕ) (u : HirUnit) (a : Answer) → IsAnswered q certificate u Memory a
    → a ≡ Nothing
memory_answered Inference certificate u a h = h
memory_answered Acceptance certificate u a h = h
memory_answered BriefText certificate u a h = h
memory_answered Verification certificate u a h = h
memory_answered Lints certificate u a h = h
memory_answered (Explanation f id) certificate u a h = h
memory_answered (FunctionExplanation f) certificate u a h = h
memory_answered Plainness certificate u a h = h

pub answered_checked : (q : Query) (certificate : List ℕ) (u : HirUnit) (status : Status) (a : Answer) → rules_hold u
    ≡ Ok tt → IsAnswered q certificate u status a → IsChecked q certificate u status a
answered_checked q certificate u (Unfit fault) a k h = absurd (not_unfit q certificate u fault a h)
answered_checked q certificate u Memory a k h = memory_answered q certificate u a h
answered_checked q certificate u status a k h = (k, h)

pub rules_passed : (r : Result ⊤ UnitFault) (u v : HirUnit) → (r >>= (λ _. Ok u)) ≡ Ok v → (r ≡ Ok tt) × (u ≡ v)
rules_passed (Ok tt) u v h = let same : u ≡ v = cc in (refl, same)
rules_passed (Err e) u v h = cc

pub judged_answered : (q : Query) (certificate : List ℕ) (u v : HirUnit) (status : Status) (a : Answer) → checks u
    ≡ Ok v → IsAnswered q certificate v status a → IsChecked q certificate u status a
judged_answered q certificate u v status a h k =
    let p = rules_passed (rules_hold u) u v h in
    answered_checked q certificate u status a p.0 (subst (λ z. IsAnswered q certificate z status a) (sym p.1) k)

pub rules_refused : (r : Result ⊤ UnitFault) (u : HirUnit) (e : UnitFault)
    → ◌≡◌ {A = Result HirUnit UnitFault} (r >>= (λ _. Ok u)) (Err e) → r ≡ Err e
rules_refused (Ok tt) u e h = cc
rules_refused (Err z) u e h = let same : z ≡ e = cc in ap (λ (x : UnitFault). Err x) same

-- the unit breaks a rule, or memory ran out
unfit_checked : (q : Query) (certificate : List ℕ) (u : HirUnit) (e : UnitFault)
    → (is_memory e ≡ false → checks u ≡ Err e) → IsChecked q certificate u (unit_status e) Nothing
unfit_checked q certificate u (unit.Memory m) h = refl
unfit_checked q certificate u e h = (rules_refused (rules_hold u) u e (h refl), refl)

pub judged_unfit : (q : Query) (certificate : List ℕ) (u : HirUnit) (e : UnitFault) (status : Status) (o : Outcome) → o
    ≡ ended_as status → status ≡ unit_status e → (is_memory e ≡ false → checks u ≡ Err e)
    → IsChecked q certificate u o.status o.answer
judged_unfit q certificate u e status o is s h =
    let both : o ≡ ended_as (unit_status e) = is ∙ ap ended_as s in
    subst (λ (z : Outcome). IsChecked q certificate u z.status z.answer) (sym both) (unfit_checked q certificate u e h)

-- ---- bytes

-- no unit is read
pub judged_none : (q : Query) (parts : List ℕ × List ℕ) (e : TextFault) → ReadsUnit parts.0 (Err e)
    → IsJudged q parts (text_status e) Nothing
judged_none q parts text.NotJson h = (h, refl)
judged_none q parts (text.NotUnit p r) h = (h, refl)
judged_none q parts (text.Memory e) h = refl

pub judged_fault : (q : Query) (parts : List ℕ × List ℕ) (e : TextFault) (status : Status) (o : Outcome) → o
    ≡ ended_as status → status ≡ text_status e → ReadsUnit parts.0 (Err e) → IsJudged q parts o.status o.answer
judged_fault q parts e status o is s h =
    let both : o ≡ ended_as (text_status e) = is ∙ ap ended_as s in
    subst (λ (z : Outcome). IsJudged q parts z.status z.answer) (sym both) (judged_none q parts e h)

-- ---- sources

-- what the bytes of the whole input lead to, the source leads to
not_read : (q : Query) (certificate : List ℕ) (u : HirUnit) (a : Answer) → IsAnswered q certificate u ReadFault a → ⊥
not_read Inference certificate u a h = h
not_read Acceptance certificate u a h = h.2
not_read BriefText certificate u a h = ⊎_elim (λ x. x) (λ y. y.2) h
not_read Verification certificate u a h = h
not_read Lints certificate u a h = ⊎_elim (λ x. x) (λ y. y.2) h
not_read (Explanation f id) certificate u a h = ⊎_elim (λ x. x) (λ y. y.2) h
not_read (FunctionExplanation f) certificate u a h = ⊎_elim (λ x. x) (λ y. y.2) h
not_read Plainness certificate u a h = h

not_long : (q : Query) (certificate : List ℕ) (u : HirUnit) (a : Answer) → IsAnswered q certificate u TooLong a → ⊥
not_long Inference certificate u a h = h
not_long Acceptance certificate u a h = h.2
not_long BriefText certificate u a h = ⊎_elim (λ x. x) (λ y. y.2) h
not_long Verification certificate u a h = h
not_long Lints certificate u a h = ⊎_elim (λ x. x) (λ y. y.2) h
not_long (Explanation f id) certificate u a h = ⊎_elim (λ x. x) (λ y. y.2) h
not_long (FunctionExplanation f) certificate u a h = ⊎_elim (λ x. x) (λ y. y.2) h
not_long Plainness certificate u a h = h

pub read_bytes : (q : Query) (known : Option (List ℕ)) (failed : Type 0) (bytes : List ℕ) (status : Status) (a : Answer)
    → IsAllOf known bytes → length bytes ≤ greatest_input → IsJudged q (parts_of q bytes) status a
    → IsRead q known failed status a
read_bytes q known failed bytes Done i a l h = (bytes, a, l, h)
read_bytes q known failed bytes Words i a l h = (bytes, a, l, h)
read_bytes q known failed bytes NotJson i a l h = (bytes, a, l, h)
read_bytes q known failed bytes (NotUnit pointer rule) i a l h = (bytes, a, l, h)
read_bytes q known failed bytes (Unfit fault) i a l h = (bytes, a, l, h)
read_bytes q known failed bytes (BadLine number) i a l h = (bytes, a, l, h)
read_bytes q known failed bytes (Rejected fault) i a l h = (bytes, a, l, h)
read_bytes q known failed bytes (Differs number line) i a l h = (bytes, a, l, h)
read_bytes q known failed bytes (PlainRefused e) i a l h = (bytes, a, l, h)
read_bytes q known failed bytes (Refused e) i a l h = (bytes, a, l, h)
read_bytes q known failed bytes NotHere i a l h = (bytes, a, l, h)
read_bytes q known failed bytes ReadFault i a l h = absurd (not_read q (parts_of q bytes).1 h.0 i h.2.1)
read_bytes q known failed bytes WriteFault i a l h = (bytes, a, l, h)
read_bytes q known failed bytes TooLong i a l h = absurd (not_long q (parts_of q bytes).1 h.0 i h.2.1)
read_bytes q known failed bytes Memory i a l h = h

unwritten : (stop : SinkStop) (left : Option (List ℕ)) → Leaves (write_status stop) left
unwritten sink.Failed left = tt
unwritten (sink.Memory e) left = tt

-- an outcome of a sink that stopped
pub leaves_unwritten : (stop : SinkStop) (left : Option (List ℕ)) (status : Status) (o : Outcome) → o ≡ ended_as status
    → status ≡ write_status stop → Leaves o.status left
leaves_unwritten stop left status o is s =
    subst (λ (z : Outcome). Leaves z.status left) (sym (is ∙ ap ended_as s)) (unwritten stop left)

-- a run that stopped before its end has no headline
module _ (asked : Option Command) (known held held' : Option (List ℕ)) where
  none_unwritten : (stop : SinkStop) → IsHeadline asked known held held' (write_status stop) Nothing
  unfolding IsHeadline
  none_unwritten sink.Failed = tt
  none_unwritten (sink.Memory e) = tt

  pub no_headline : (stop : SinkStop) (status : Status) (o : Outcome) → o ≡ ended_as status → status ≡ write_status stop
      → IsHeadline asked known held held' o.status o.answer
  no_headline stop status o is s = subst (λ (z : Outcome). IsHeadline asked known held held' z.status z.answer)
      (sym (is ∙ ap ended_as s)) (none_unwritten stop)

  out_of_memory : IsHeadline asked known held held' Memory Nothing
  unfolding IsHeadline
  out_of_memory = tt

  pub no_headline_of_memory : (o : Outcome) → o ≡ ended_as Memory → IsHeadline asked known held held' o.status o.answer
  no_headline_of_memory o is = subst (λ (z : Outcome). IsHeadline asked known held held' z.status z.answer) (sym is)
      out_of_memory

-- ---- runs

known_unit : (o : Option (List ℕ)) (bytes : List ℕ) (u : HirUnit) → IsAllOf o bytes → UnitReading bytes u → IsUnitOf o u
known_unit None bytes u a r = tt
known_unit (Some all) bytes u a r = subst (λ z. UnitReading z u) (sym a) r

known_parts : (q : Query) (o : Option (List ℕ)) (bytes : List ℕ) (u : HirUnit) → IsAllOf o bytes
    → UnitReading (parts_of q bytes).0 u → ArePartsOf q o u (parts_of q bytes).1
known_parts q None bytes u a r = tt
known_parts q (Some all) bytes u a r = subst
    (λ z. UnitReading (parts_of q z).0 u × ((parts_of q z).1 ≡ (parts_of q bytes).1)) (sym a) (r, refl)

-- where a certificate is accepted, the functions are solved as it says
solved_as_said : (text : List ℕ) (u : HirUnit) (a : Answer) → rules_hold u ≡ Ok tt → IsAccepted text u Done a
    → IsSolvedAsSaid text u a
solved_as_said text u (Accepted x) k h = (h.0, h.1, answer_in_order h.0.functions u (Ok x) k h.2)
solved_as_said text u Nothing k h = h.2
solved_as_said text u (Inferred x) k h = h.2
solved_as_said text u (Briefed t) k h = h.2
solved_as_said text u (Verified count) k h = h.2
solved_as_said text u (Linted ls) k h = h.2
solved_as_said text u (Explained e) k h = h.2
solved_as_said text u (FunctionExplained xs) k h = h.2
solved_as_said text u (Decided p) k h = h.2

pub adds_nothing : (held : Option (List ℕ)) → Adds held [] held
adds_nothing None = refl
adds_nothing (Some old) = ap Some (sym (append-nil old))

module _ (asked : Option Command) (known : Option (List ℕ)) (read_failed write_failed : Type 0)
    (held held' : Option (List ℕ)) where
  -- memory ran out before anything was written
  pub ran_out : (found : Outcome) (o : Outcome) → o ≡ ended_as Memory
      → IsFound asked known read_failed found.status found.answer
      → IsRun asked known read_failed write_failed held held o.status o.answer
  ran_out found o is f =
      subst (λ (z : Outcome). IsRun asked known read_failed write_failed held held z.status z.answer) (sym is)
      ((found.status, found.answer, f, 0, adds_nothing held), refl)

  stopped : (found : Outcome) (n : ℕ) (stop : SinkStop) → IsFound asked known read_failed found.status found.answer
      → Adds held (take n (text_of asked found.status found.answer)) held' → (stop ≡ sink.Failed → write_failed)
      → IsRun asked known read_failed write_failed held held' (write_status stop) Nothing
  stopped found n sink.Failed f a w = (w refl, (found.status, found.answer, f, n, a), refl)
  stopped found n (sink.Memory e) f a w = ((found.status, found.answer, f, n, a), refl)

  -- the sink stopped, and a front of the text was written
  pub broke_off : (found : Outcome) (n : ℕ) (stop : SinkStop) (status : Status) (o : Outcome) → o ≡ ended_as status
      → status ≡ write_status stop
      → IsFound asked known read_failed found.status found.answer
      → Adds held (take n (text_of asked found.status found.answer)) held' → (stop ≡ sink.Failed → write_failed)
      → IsRun asked known read_failed write_failed held held' o.status o.answer
  broke_off found n stop status o is s f a w =
      subst (λ (z : Outcome). IsRun asked known read_failed write_failed held held' z.status z.answer)
      (sym (is ∙ ap ended_as s)) (stopped found n stop f a w)

-- what is found, before anything is written
module _ (known : Option (List ℕ)) (read_failed : Type 0) where
  memory_alone : (asked : Option Command) (a : Answer) → IsFound asked known read_failed Memory a → a ≡ Nothing
  unfolding IsFound
  memory_alone None i f = f.1
  memory_alone (Some Infer) i f = f
  memory_alone (Some Certify) i f = f
  memory_alone (Some Check) i f = f
  memory_alone (Some Brief) i f = f
  memory_alone (Some Verify) i f = f
  memory_alone (Some Lint) i f = f
  memory_alone (Some (Explain g id)) i f = f
  memory_alone (Some (ExplainFunction g)) i f = f
  memory_alone (Some Plain) i f = f
  memory_alone (Some (Made seed size)) i f = f.1
  memory_alone (Some Help) i f = f.1
  memory_alone (Some Version) i f = f.1

  not_written : (q : Query) (certificate : List ℕ) (u : HirUnit) (a : Answer) → IsAnswered q certificate u WriteFault a
      → ⊥
  not_written Inference certificate u a h = h
  not_written Acceptance certificate u a h = h.2
  not_written BriefText certificate u a h = ⊎_elim (λ x. x) (λ y. y.2) h
  not_written Verification certificate u a h = h
  not_written Lints certificate u a h = ⊎_elim (λ x. x) (λ y. y.2) h
  not_written (Explanation f id) certificate u a h = ⊎_elim (λ x. x) (λ y. y.2) h
  not_written (FunctionExplanation f) certificate u a h = ⊎_elim (λ x. x) (λ y. y.2) h
  not_written Plainness certificate u a h = h

  pub no_write_fault : (asked : Option Command) (a : Answer) → IsFound asked known read_failed WriteFault a → ⊥
  unfolding IsFound
  no_write_fault None a f = let e : WriteFault ≡ Words = f.0 in cc
  no_write_fault (Some Infer) a f = not_written Inference (parts_of Inference f.0).1 f.3.0 a f.3.2.1
  no_write_fault (Some Certify) a f = not_written Inference (parts_of Inference f.0).1 f.3.0 a f.3.2.1
  no_write_fault (Some Check) a f = not_written Acceptance (parts_of Acceptance f.0).1 f.3.0 a f.3.2.1
  no_write_fault (Some Brief) a f = not_written BriefText (parts_of BriefText f.0).1 f.3.0 a f.3.2.1
  no_write_fault (Some Verify) a f = not_written Verification (parts_of Verification f.0).1 f.3.0 a f.3.2.1
  no_write_fault (Some Lint) a f = not_written Lints (parts_of Lints f.0).1 f.3.0 a f.3.2.1
  no_write_fault (Some (Explain g id)) a f =
      not_written (Explanation g id) (parts_of (Explanation g id) f.0).1 f.3.0 a f.3.2.1
  no_write_fault (Some (ExplainFunction g)) a f =
      not_written (FunctionExplanation g) (parts_of (FunctionExplanation g) f.0).1 f.3.0 a f.3.2.1
  no_write_fault (Some Plain) a f = not_written Plainness (parts_of Plainness f.0).1 f.3.0 a f.3.2.1
  no_write_fault (Some (Made seed size)) a f = f.1
  no_write_fault (Some Help) a f = let e : WriteFault ≡ Done = f.0 in cc
  no_write_fault (Some Version) a f = let e : WriteFault ≡ Done = f.0 in cc

-- the whole text was written
module _ (known : Option (List ℕ)) (read_failed write_failed : Type 0) (held held' : Option (List ℕ)) where
  pub ran : (asked : Option Command) (status : Status) (i : Answer) → IsFound asked known read_failed status i
      → Adds held (text_of asked status i) held' → IsRun asked known read_failed write_failed held held' status i
  ran asked WriteFault i f a = absurd (no_write_fault known read_failed asked i f)
  ran asked Memory i f a =
      let text = text_of asked Memory i in (
        (Memory, i, f, length text, subst (λ t. Adds held t held') (sym (take-length text)) a),
        memory_alone known read_failed asked i f,
      )
  ran asked status i f a = (f, a)

  done_read : (printed : Detail) (a : Answer) → IsRead Inference known read_failed Done a
      → Adds held (answer_text printed Done a) held' → IsInferredOf (IsUnitOf known) printed held held' a
  done_read printed Nothing f t = f.3.2.1
  done_read printed (Accepted x) f t = f.3.2.1
  done_read printed (Briefed text) f t = f.3.2.1
  done_read printed (Verified count) f t = f.3.2.1
  done_read printed (Linted ls) f t = f.3.2.1
  done_read printed (Explained e) f t = f.3.2.1
  done_read printed (FunctionExplained xs) f t = f.3.2.1
  done_read printed (Decided p) f t = f.3.2.1
  done_read printed (Inferred x) f t =
      let j = f.3 in
      let k = j.2.1 in (
        j.0,
        k.0,
        known_unit known f.0 j.0 f.1 j.1,
        j.2.0,
        k.1,
        k.2,
        solved_tell k.0 k.2,
        handed_out j.0 (record { functions = k.0; inferred = x }) j.2.0 k.1 k.2,
        t,
      )

  done_made : (made : HirUnit) (a : Answer) → IsFit made Done a → Adds held (answer_text detail.Counts Done a) held'
      → IsInferredOf (λ u. u ≡ made) detail.Counts held held' a
  done_made made Nothing f t = f.1
  done_made made (Accepted x) f t = f.1
  done_made made (Briefed text) f t = f.1
  done_made made (Verified count) f t = f.1
  done_made made (Linted ls) f t = f.1
  done_made made (Explained e) f t = f.1
  done_made made (FunctionExplained xs) f t = f.1
  done_made made (Decided p) f t = f.1
  done_made made (Inferred x) f t = let k = f.1 in (
    made,
    k.0,
    refl,
    f.0,
    k.1,
    k.2,
    solved_tell k.0 k.2,
    handed_out made (record { functions = k.0; inferred = x }) f.0 k.1 k.2,
    t,
  )

  done_asked : (q : Query) (a : Answer) → IsRead q known read_failed Done a
      → Adds held (answer_text detail.Infer Done a) held' → IsAnsweredOf q known held held' a
  done_asked q a f t = let j = f.3 in (j.0, (parts_of q f.0).1, known_parts q known f.0 j.0 f.1 j.1, j.2.0, j.2.1, t)

  done_checked : (a : Answer) → IsRead Acceptance known read_failed Done a
      → Adds held (answer_text detail.Infer Done a) held' → IsAcceptedOfInput known held held' a
  done_checked a f t =
      let j = f.3 in
      let text = (parts_of Acceptance f.0).1 in
      (j.0, text, known_parts Acceptance known f.0 j.0 f.1 j.1, j.2.0, j.2.1, solved_as_said text j.0 a j.2.0 j.2.1, t)

  done_verified : (a : Answer) → IsRead Verification known read_failed Done a
      → Adds held (answer_text detail.Infer Done a) held' → IsVerifiedOfInput known held held' a
  done_verified (Verified count) f t =
      let j = f.3 in
      let text = (parts_of Verification f.0).1 in
      let there = known_parts Verification known f.0 j.0 f.1 j.1 in
      (j.0, text, there, j.2.0, j.2.1, inferred_where_forward text j.0 count j.2.0 j.2.1, t)
  done_verified Nothing f t = f.3.2.1
  done_verified (Inferred x) f t = f.3.2.1
  done_verified (Accepted x) f t = f.3.2.1
  done_verified (Briefed text) f t = f.3.2.1
  done_verified (Linted ls) f t = f.3.2.1
  done_verified (Explained e) f t = f.3.2.1
  done_verified (FunctionExplained xs) f t = f.3.2.1
  done_verified (Decided p) f t = f.3.2.1

  done : (asked : Option Command) (i : Answer) → IsFound asked known read_failed Done i
      → Adds held (text_of asked Done i) held' → IsDone asked known held held' i
  unfolding IsFound
  done None i f a = let e : Done ≡ Words = f.0 in cc
  done (Some Infer) i f a = done_read detail.Infer i f a
  done (Some Certify) i f a = done_read detail.Certify i f a
  done (Some Check) i f a = done_checked i f a
  done (Some Brief) i f a = done_asked BriefText i f a
  done (Some Verify) i f a = done_verified i f a
  done (Some Lint) i f a = done_asked Lints i f a
  done (Some (Explain g id)) i f a = done_asked (Explanation g id) i f a
  done (Some (ExplainFunction g)) i f a = done_asked (FunctionExplanation g) i f a
  done (Some Plain) i f a = done_asked Plainness i f a
  done (Some (Made seed size)) i f a = done_made (made_unit seed size) i f a
  done (Some Help) i f a = (f.1, a)
  done (Some Version) i f a = (f.1, a)

  pub headline : (asked : Option Command) (status : Status) (i : Answer) → IsFound asked known read_failed status i
      → Adds held (text_of asked status i) held' → IsHeadline asked known held held' status i
  unfolding IsHeadline
  headline asked Done i f a = done asked i f a
  headline asked status i f a = tt

-- what the unit of a seed and a size leads to is found, where that is what is asked
pub found_made : (asked : Option Command) (seed size : ℕ) (known : Option (List ℕ)) (failed : Type 0) (status : Status)
    (a : Answer) → asked ≡ Some (Made seed size) → IsFit (made_unit seed size) status a
    → IsFound asked known failed status a
unfolding IsFound
found_made asked seed size known failed status a e h =
    subst (λ (o : Option Command). IsFound o known failed status a) (sym e) h
