-- A certificate of what is inferred of a unit is accepted, or no number is left for a report.
use Rattle.std.proofs.Common.{◌≡◌, ◌∙◌, ℕ, ◌<◌, ◌≤◌, List, length, Option, Some, refl, sym, ap, subst, arith}
use Rattle.std.specs.Prelude.{Result, Ok, Err}
use Rattle.alias_hir.specs.declared.env.Unit.{Unit as HirUnit}
use Rattle.alias_hir.specs.declared.error.Counter.TheVariants.{Diagnostics}
use Rattle.alias_hir.specs.declared.hir.HirFunction.{HirFunction}
use Rattle.alias_json.specs.declared.fault.ValueFault.TheVariants as value
use Rattle.alias_read.specs.Units.{unit_of, UnitReading}
use Rattle.alias_rules.specs.Functions.{rules_hold}
use Rattle.alias_nested.specs.declared.infer.Inferred.{Inferred as UnitInference}
use Rattle.alias_certificate.specs.declared.certificate.Certificate.{Certificate}
use Rattle.alias_certificate.specs.declared.fault.CheckFault.{CheckFault}
use Rattle.alias_certificate.specs.declared.fault.CheckFault.TheVariants as fault
use Rattle.alias_cert.specs.Functions.{Checking, checking}
use Rattle.alias_cert.specs.Units.{unit_checked, Accepts}
use Rattle.alias_cert_text.specs.Certificates.{certificate_of_text}
use Rattle.alias_cert_text.specs.declared.fault.CertFault.{CertFault}
use Rattle.alias_cert_text.specs.declared.fault.CertFault.TheVariants as text_fault
use Rattle.alias_certificate_laws.specs.text.Certifying.{certificate_of}
use Rattle.alias_accepted_laws.specs.Complete.{IsAcceptedOrFull, accepted, full}
use Rattle.alias_accepted_laws.proofs.Accepted.{certificates_are_accepted}
use Rattle.alias_certified_laws.proofs.checked.Stepping.{fault_blames}
use Rattle.alias_run.specs.declared.answer.Answer.{Answer}
use Rattle.alias_run.specs.declared.answer.Answer.TheVariants.{Nothing}
use Rattle.alias_run.specs.declared.command.Command.{Command}
use Rattle.alias_run.specs.declared.command.Command.TheVariants.{Check, Certify}
use Rattle.alias_run.specs.declared.outcome.Outcome.{Outcome}
use Rattle.alias_run.specs.declared.query.Query.TheVariants.{Acceptance}
use Rattle.alias_run.specs.declared.status.Status.{Status}
use Rattle.alias_run.specs.declared.status.Status.TheVariants.{Done, NotJson, NotUnit, Unfit, BadLine, Rejected}
use Rattle.alias_run.specs.declared.status.Status.TheVariants.{ReadFault, TooLong, Memory}
use Rattle.alias_run.specs.Findings.{greatest_input, parts_of, Infers, IsAccepted, IsChecked, IsJudged, IsRead, IsFound}
use Rattle.alias_run.specs.Findings.{IsAcceptedOf, EndsAccepted}
use Rattle.alias_run.specs.Runs.{IsRun, IsAccepting}
use Rattle.alias_run.specs.Statuses.{check_status}
use Rattle.alias_run.specs.Texts.{text_of, IsCertificateOf, IsCertifying}
use Rattle.alias_run.proofs.Refusing.{one_some, one_unit, run_ends}
use Rattle.alias_run.proofs.Running.{ended_as}

-- ---- the check

-- why a certificate of a unit that is well formed is rejected
rejected : (c : Certificate) (u : HirUnit) (e : CheckFault) → rules_hold u ≡ Ok tt → Accepts c.functions u (Err e)
    → IsAcceptedOf c u (check_status e) Nothing
rejected c u (fault.Memory x) rules h = refl
rejected c u e rules h = (h refl, refl, fault_blames c.functions u e rules (h refl))

-- so it is where it is known of the unit that it is well formed
pub check_rejected : (c : Certificate) (u v : HirUnit) (e : CheckFault) (status : Status) (o : Outcome) → o
    ≡ ended_as status → status ≡ check_status e → v ≡ u → rules_hold v ≡ Ok tt → Accepts c.functions u (Err e)
    → IsAcceptedOf c u o.status o.answer
check_rejected c u v e status o ended is same rules h =
    subst (λ (z : Outcome). IsAcceptedOf c u z.status z.answer) (sym (ended ∙ ap ended_as is))
    (rejected c u e (subst (λ z. rules_hold z ≡ Ok tt) same rules) h)

-- a check that is rejected, where it is accepted or no number is left
full_alone : (r : Result (HirFunction × Checking) CheckFault) (e : CheckFault) → IsAcceptedOrFull r → r ≡ Err e → e
    ≡ fault.TooMany Diagnostics
full_alone r e (accepted f env fs is) h = let no : Ok (f, checking env fs) ≡ Err e = sym is ∙ h in absurd (cc)
full_alone r e (full is) h = let same : Err e ≡ Err (fault.TooMany Diagnostics) = sym h ∙ is in cc

-- a text is read as one certificate at most
one_certificate : (r : Result Certificate CertFault) (c d : Certificate) → r ≡ Ok c → r ≡ Ok d → c ≡ d
one_certificate r c d p q = cc

-- a text that reads as the certificate of what is inferred of the unit
module _ (u : HirUnit) (i : UnitInference) (rules : rules_hold u ≡ Ok tt) (infers : Infers u i) (text : List ℕ)
    (reads_as : IsCertificateOf i text) where
  abbrev own : Certificate
  own = certificate_of i.unit i.solved i.summary

  rejected_full : (c : Certificate) (e : CheckFault) → certificate_of_text text ≡ Ok c → unit_checked c.functions u
      ≡ Err e → e ≡ fault.TooMany Diagnostics
  rejected_full c e is h =
      full_alone (unit_checked own.functions u) e
      (certificates_are_accepted u (record { functions = infers.0; inferred = i }) rules infers.1)
      (subst (λ (d : Certificate). unit_checked d.functions u ≡ Err e)
      (one_certificate (certificate_of_text text) c own is reads_as) h)

  pub accepted_ends : (status : Status) (a : Answer) → IsAccepted text u status a → EndsAccepted status
  accepted_ends (BadLine number) a h = let no : Ok own ≡ Err (text_fault.BadLine number) = sym reads_as ∙ h.0 in
      absurd (cc)
  accepted_ends Memory a h = tt
  accepted_ends Done a h = tt
  accepted_ends (Rejected e) a h = rejected_full h.0 e h.1 h.2.0
  accepted_ends status a h = absurd h.2

-- ---- bytes

module _ (bytes : List ℕ) (failed : Type 0) (no_read_fails : failed → ⊥) (short : length bytes ≤ greatest_input)
    (u : HirUnit)
    (is : UnitReading (parts_of Acceptance bytes).0 u) (rules : rules_hold u ≡ Ok tt)
    (ends : (status : Status) (a : Answer) → IsAccepted (parts_of Acceptance bytes).1 u status a
    → EndsAccepted status) where
  checked_accepted : (v : HirUnit) (status : Status) (a : Answer) → v ≡ u
      → IsChecked Acceptance (parts_of Acceptance bytes).1 v status a → EndsAccepted status
  checked_accepted v (Unfit broken) a same h = let no : Ok tt ≡ Err broken = sym rules ∙ sym (ap rules_hold same)
      ∙ h.0 in absurd (cc)
  checked_accepted v Memory a same h = tt
  checked_accepted v status a same h = ends status a
      (subst (λ z. IsAccepted (parts_of Acceptance bytes).1 z status a) same h.1)

  judged_accepted : (status : Status) (a : Answer) → IsJudged Acceptance (parts_of Acceptance bytes) status a
      → EndsAccepted status
  judged_accepted NotJson a h = absurd (h.0 is.0 is.1)
  judged_accepted (NotUnit pointer rule) a h =
      let r = h.0 in
      let no : Ok u ≡ Err (value.Refused pointer rule) = sym is.2 ∙ ap unit_of (one_some _ is.0 r.0 is.1.tree r.1.tree)
      ∙ r.2 in absurd (cc)
  judged_accepted Memory a h = tt
  judged_accepted status a h = checked_accepted h.0 status a (one_unit (parts_of Acceptance bytes).0 h.0 u h.1 is) h.2

  too_long : greatest_input < length bytes → ⊥
  too_long h = omega (arith, short, h)

  pub read_accepted : (status : Status) (a : Answer) → IsRead Acceptance (Some bytes) failed status a
      → EndsAccepted status
  read_accepted ReadFault a h = absurd (no_read_fails h.0)
  read_accepted TooLong a h = absurd (too_long h.0)
  read_accepted Memory a h = tt
  read_accepted status a h = judged_accepted status a
      (subst (λ bs. IsJudged Acceptance (parts_of Acceptance bs) status a) (sym h.1) h.3)

-- ---- runs

-- what is found of such a unit and such a text
certified_ends : (known : Option (List ℕ)) (failed : Type 0) (bytes : List ℕ) (u : HirUnit) (i : UnitInference) → known
    ≡ Some bytes → length bytes ≤ greatest_input
    → UnitReading (parts_of Acceptance bytes).0 u → rules_hold u ≡ Ok tt → Infers u i
    → IsCertificateOf i (parts_of Acceptance bytes).1 → (failed → ⊥) → (status : Status) (a : Answer)
    → IsRead Acceptance known failed status a → EndsAccepted status
certified_ends known failed bytes u i whole short is rules infers reads_as reads status a h =
    read_accepted bytes failed reads short u is rules
    (accepted_ends u i rules infers (parts_of Acceptance bytes).1 reads_as) status a
    (subst (λ k. IsRead Acceptance k failed status a) whole h)

-- each run accepts such a certificate
pub run_is_accepting : (asked : Option Command) (known : Option (List ℕ)) (read_failed write_failed : Type 0)
    (held held' : Option (List ℕ)) (status : Status) (a : Answer)
    → IsRun asked known read_failed write_failed held held' status a
    → IsAccepting asked known read_failed write_failed status
unfolding IsAccepting IsFound
run_is_accepting (Some Check) known read_failed write_failed held held' status a r =
    λ bytes u i whole short is rules infers reads_as reads writes.
    run_ends EndsAccepted tt (Some Check) known read_failed write_failed held held'
    (certified_ends known read_failed bytes u i whole short is rules infers reads_as reads) writes status a r
run_is_accepting asked known read_failed write_failed held held' status a r = tt

-- ---- what is written

nothing_certified : (asked : Option Command) (text : List ℕ) → IsCertifying asked Nothing text
nothing_certified (Some Certify) text = tt
nothing_certified asked text = tt

-- where nothing is answered, nothing is certified
pub unanswered_certifies : (asked : Option Command) (status : Status) (o : Outcome) → o
    ≡ record { status = status; answer = Nothing } → IsCertifying asked o.answer (text_of asked o.status o.answer)
unanswered_certifies asked status o is =
    subst (λ (z : Outcome). IsCertifying asked z.answer (text_of asked z.status z.answer)) (sym is)
    (nothing_certified asked (text_of asked status Nothing))
