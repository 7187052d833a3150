-- What a run comes to.
use Rattle.std.specs.Prelude.{◌≡◌, ℕ, ◌≤◌, List, length, take, Option, Some, None, Ok}
use Rattle.std.specs.List.{AllByRecursion}
use Rattle.alias_rules.specs.Functions.{rules_hold}
use Rattle.alias_hir.specs.declared.env.Unit.{Unit as HirUnit}
use Rattle.alias_made.specs.Units.{made_unit}
use Rattle.alias_stream.specs.Streams.{Adds, IfKnown}
use Rattle.alias_read.specs.Units.{UnitReading}
use Rattle.alias_text.specs.declared.detail.Detail.{Detail}
use Rattle.alias_text.specs.declared.detail.Detail.TheVariants as detail
use Rattle.alias_run.specs.declared.command.Command.{Command}
use Rattle.alias_run.specs.declared.command.Command.TheVariants.{Infer, Certify, Check, Lint, Explain, ExplainFunction}
use Rattle.alias_run.specs.declared.command.Command.TheVariants.{Brief, Verify, Plain, Made, Help, Version}
use Rattle.alias_run.specs.declared.status.Status.{Status}
use Rattle.alias_run.specs.declared.status.Status.TheVariants.{Done, WriteFault, Memory}
use Rattle.alias_run.specs.declared.answer.Answer.{Answer}
use Rattle.alias_run.specs.declared.answer.Answer.TheVariants.{Nothing, Inferred, Accepted, Verified}
use Rattle.alias_brief.specs.Verifying.{IsVerified}
use Rattle.alias_forward_laws.specs.Forward.{IsInferredText}
use Rattle.alias_unit_completeness.specs.Refusals.{IsForwardUnit}
use Rattle.alias_cert_text.specs.check_lines.CheckLines.{accepted_text as functions_accepted}
use Rattle.alias_nested.specs.Analysis.{Analysed, SolvesItsFlow}
use Rattle.alias_nested.specs.Units.{unit_analysed}
use Rattle.alias_nested.specs.declared.infer.Inferred.{Inferred as UnitInference}
use Rattle.alias_cause_laws.specs.handed.HandedOut.{IsHandedOut}
use Rattle.alias_cert_text.specs.Certificates.{certificate_of_text}
use Rattle.alias_certificate.specs.declared.certificate.Certificate.{Certificate}
use Rattle.alias_certified_laws.specs.checked.Handed.{IsAcceptedInOrder}
use Rattle.alias_run.specs.declared.query.Query.{Query}
use Rattle.alias_run.specs.declared.query.Query.TheVariants.{Acceptance, BriefText, Verification, Lints, Explanation}
use Rattle.alias_run.specs.declared.query.Query.TheVariants.{FunctionExplanation, Plainness}
use Rattle.alias_plainness.specs.Plainness.{IsPlainUnit}
use Rattle.alias_run.specs.Findings.{greatest_input, parts_of, EndsUnblamed, EndsAccepted, EndsInferred, Settles}
use Rattle.alias_run.specs.Findings.{IsFound, Infers, IsAnswered}
use Rattle.alias_run.specs.Inferences.{TellsItsWrites}
use Rattle.alias_run.specs.Texts.{text_of, answer_text, inferred_text, help_text, version_text, IsCertificateOf}

module _ (asked : Option Command) (known : Option (List ℕ)) (read_failed write_failed : Type 0)
    (held held' : Option (List ℕ)) where
  -- a front of the text of what the words and the source lead to was written
  abbrev pub WroteFront : Type 0
  WroteFront = (status : Status) × (a : Answer) × IsFound asked known read_failed status a × (n : ℕ)
      × Adds held (take n (text_of asked status a)) held'

  -- The cause of a status, and what was written: the whole text, or a front of it where the sink failed or memory ran
  -- out.
  abbrev pub IsRun : Status → Answer → Type 0
  IsRun WriteFault a = write_failed × WroteFront × (a ≡ Nothing)
  IsRun Memory a = WroteFront × (a ≡ Nothing)
  IsRun status a = IsFound asked known read_failed status a × Adds held (text_of asked status a) held'

-- Where a unit was inferred: the unit is such a one; it is well formed; what is handed out is its inference, and of
-- each of its functions, as its effects pass begins, the entry states solve the flow, and what is written for certain
-- and isn't to be written stands as an error effect; these are the functions of the unit in their order, each of which
-- carries the effects of its solution and no others, and each was solved over tables that are in what is handed out;
-- and the sink got the text of it, in this detail.
abbrev pub IsInferredOf : (HirUnit → Type 0) → Detail → Option (List ℕ) → Option (List ℕ) → Answer → Type 0
IsInferredOf IsInput printed held held' (Inferred i) =
    (u : HirUnit) × (fs : List Analysed) × IsInput u × (rules_hold u ≡ Ok tt)
    × (unit_analysed u ≡ Ok (record { functions = fs; inferred = i })) × AllByRecursion SolvesItsFlow fs
    × AllByRecursion TellsItsWrites fs
    × IsHandedOut u (record { functions = fs; inferred = i }) × Adds held (inferred_text printed i) held'
IsInferredOf IsInput printed held held' a = ⊥

-- the unit whose JSON the source had, where it is known what it had: the whole of it is the JSON of this unit
abbrev pub IsUnitOf : Option (List ℕ) → HirUnit → Type 0
IsUnitOf known u = IfKnown known (λ bytes. UnitReading bytes u)

-- the same of a unit and what is to be its certificate: these are the parts of what the source had
abbrev pub ArePartsOf : Query → Option (List ℕ) → HirUnit → List ℕ → Type 0
ArePartsOf q known u certificate = IfKnown known
    (λ bytes. UnitReading (parts_of q bytes).0 u × ((parts_of q bytes).1 ≡ certificate))

-- Where something else was asked about a unit: the unit is the one that was read, and so is what is to be its
-- certificate; it is well formed; the query is answered of
-- it; and the sink got the text of the answer.
abbrev pub IsAnsweredOf : Query → Option (List ℕ) → Option (List ℕ) → Option (List ℕ) → Answer → Type 0
IsAnsweredOf q known held held' a =
    (u : HirUnit) × (certificate : List ℕ) × ArePartsOf q known u certificate × (rules_hold u ≡ Ok tt)
    × IsAnswered q certificate u Done a × Adds held (answer_text detail.Infer Done a) held'

-- of a certificate that is accepted: the functions of the unit have solutions, in order, of the entry states that it says
abbrev pub IsSolvedAsSaid : List ℕ → HirUnit → Answer → Type 0
IsSolvedAsSaid text u (Accepted x) =
    (c : Certificate) × (certificate_of_text text ≡ Ok c) × IsAcceptedInOrder c.functions u x
IsSolvedAsSaid text u a = ⊥

-- Where a certificate was accepted: as of each query, and the functions are solved as it says.
abbrev pub IsAcceptedOfInput : Option (List ℕ) → Option (List ℕ) → Option (List ℕ) → Answer → Type 0
IsAcceptedOfInput known held held' a =
    (u : HirUnit) × (certificate : List ℕ) × ArePartsOf Acceptance known u certificate × (rules_hold u ≡ Ok tt)
    × IsAnswered Acceptance certificate u Done a × IsSolvedAsSaid certificate u a
    × Adds held (answer_text detail.Infer Done a) held'

-- Where a text was accepted as the one that follows: the unit and the text are those that were read; the unit is well
-- formed; the text is exactly the one that follows for the unit from the entry states that the text itself says, which
-- solve the flow of each of its functions, so many; where all edges of all functions go to later blocks, it is the text
-- that is printed of what is inferred of the unit, and no other is accepted; and the sink got their number.
abbrev pub IsVerifiedOfInput : Option (List ℕ) → Option (List ℕ) → Option (List ℕ) → Answer → Type 0
IsVerifiedOfInput known held held' (Verified count) =
    (u : HirUnit) × (text : List ℕ) × ArePartsOf Verification known u text × (rules_hold u ≡ Ok tt)
    × IsVerified text u count × (IsForwardUnit u → IsInferredText u text) × Adds held (functions_accepted count) held'
IsVerifiedOfInput known held held' a = ⊥

-- What status Done means, by the command: the unit that was read was inferred, or the one that was made; or the sink
-- got what the program tells of itself.
abbrev pub IsDone : Option Command → Option (List ℕ) → Option (List ℕ) → Option (List ℕ) → Answer → Type 0
IsDone None known held held' a = ⊥
IsDone (Some Infer) known held held' a = IsInferredOf (IsUnitOf known) detail.Infer held held' a
IsDone (Some Certify) known held held' a = IsInferredOf (IsUnitOf known) detail.Certify held held' a
IsDone (Some Check) known held held' a = IsAcceptedOfInput known held held' a
IsDone (Some Brief) known held held' a = IsAnsweredOf BriefText known held held' a
IsDone (Some Verify) known held held' a = IsVerifiedOfInput known held held' a
IsDone (Some Lint) known held held' a = IsAnsweredOf Lints known held held' a
IsDone (Some (Explain f id)) known held held' a = IsAnsweredOf (Explanation f id) known held held' a
IsDone (Some (ExplainFunction f)) known held held' a = IsAnsweredOf (FunctionExplanation f) known held held' a
IsDone (Some Plain) known held held' a = IsAnsweredOf Plainness known held held' a
IsDone (Some (Made seed size)) known held held' a =
    IsInferredOf (λ u. u ≡ made_unit seed size) detail.Counts held held' a
IsDone (Some Help) known held held' a = (a ≡ Nothing) × Adds held help_text held'
IsDone (Some Version) known held held' a = (a ≡ Nothing) × Adds held version_text held'

unfoldable pub IsHeadline : Option Command → Option (List ℕ) → Option (List ℕ) → Option (List ℕ) → Status → Answer
    → Type 0
IsHeadline asked known held held' Done a = IsDone asked known held held' a
IsHeadline asked known held held' status a = Unit {0}

-- Completeness. Where the source has bytes that aren't too many, and are the JSON of a unit that is well formed, is
-- plain and settles: it is inferred, and refused
-- only since a counter was at its last value, while the source and the sink don't fail.
abbrev pub EndsOfPlain : Option (List ℕ) → Type 0 → Type 0 → Status → Type 0
EndsOfPlain known read_failed write_failed status =
    (bytes : List ℕ) (u : HirUnit) → known ≡ Some bytes → length bytes ≤ greatest_input → UnitReading bytes u
    → rules_hold u ≡ Ok tt → IsPlainUnit u → Settles u → (read_failed → ⊥) → (write_failed → ⊥)
    → EndsUnblamed status

-- So it is of `infer` and `certify`; and a made unit is inferred, or memory runs out, while the sink doesn't fail.
unfoldable pub IsComplete : Option Command → Option (List ℕ) → Type 0 → Type 0 → Status → Type 0
IsComplete (Some Infer) known read_failed write_failed status = EndsOfPlain known read_failed write_failed status
IsComplete (Some Certify) known read_failed write_failed status = EndsOfPlain known read_failed write_failed status
IsComplete (Some (Made seed size)) known read_failed write_failed status = (write_failed → ⊥) → EndsInferred status
IsComplete asked known read_failed write_failed status = Unit {0}

-- Acceptance. Where the source has bytes that aren't too many; those before the first newline are the JSON of a unit
-- that is well formed and is inferred; and those
-- behind it read as the certificate of what is inferred of it: it is accepted, and rejected only since no number was
-- left for a report, while the source and the sink don't fail.
abbrev pub EndsOfCertified : Option (List ℕ) → Type 0 → Type 0 → Status → Type 0
EndsOfCertified known read_failed write_failed status =
    (bytes : List ℕ) (u : HirUnit) (i : UnitInference) → known ≡ Some bytes → length bytes ≤ greatest_input
    → UnitReading (parts_of Acceptance bytes).0 u
    → rules_hold u ≡ Ok tt → Infers u i → IsCertificateOf i (parts_of Acceptance bytes).1 → (read_failed → ⊥)
    → (write_failed → ⊥) → EndsAccepted status

-- so it is of `check`
unfoldable pub IsAccepting : Option Command → Option (List ℕ) → Type 0 → Type 0 → Status → Type 0
IsAccepting (Some Check) known read_failed write_failed status = EndsOfCertified known read_failed write_failed status
IsAccepting asked known read_failed write_failed status = Unit {0}
