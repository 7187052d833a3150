-- Why a run comes to a status.
use Rattle.std.specs.Prelude.{◌≡◌, ◌≢◌, ℕ, ◌<◌, ◌≤◌, ◌⊎◌, true, List, [], length, Option, Some, None, Result, Ok, Err}
use Rattle.std.specs.List.{AllByRecursion}
use Rattle.alias_rules.specs.Functions.{rules_hold}
use Rattle.alias_hir.specs.declared.env.Unit.{Unit as HirUnit}
use Rattle.alias_hir.specs.declared.error.Counter.TheVariants.{Diagnostics}
use Rattle.alias_hir.specs.declared.error.InferError.TheVariants as error
use Rattle.alias_hir.specs.declared.report.Report.{Report}
use Rattle.alias_made.specs.Units.{made_unit}
use Rattle.alias_read.specs.Units.{UnitReading, ReadsUnit}
use Rattle.alias_read.specs.declared.fault.TextFault.TheVariants as text
use Rattle.alias_stream.specs.Streams.{IsAllOf, IsAtEnd, IfKnown}
use Rattle.alias_run.specs.declared.command.Command.{Command}
use Rattle.alias_run.specs.declared.command.Command.TheVariants.{Infer, Certify, Check, Lint, Explain, ExplainFunction}
use Rattle.alias_run.specs.declared.command.Command.TheVariants.{Brief, Verify, Plain, Made, Help, Version}
use Rattle.alias_run.specs.declared.query.Query.{Query}
use Rattle.alias_run.specs.declared.query.Query.TheVariants.{Inference, Acceptance, BriefText, Verification, Lints}
use Rattle.alias_run.specs.declared.query.Query.TheVariants.{Explanation, FunctionExplanation, Plainness}
use Rattle.alias_run.specs.declared.status.Status.{Status}
use Rattle.alias_run.specs.declared.status.Status.TheVariants.{Done, Words, NotJson, NotUnit, Unfit, BadLine, Rejected}
use Rattle.alias_run.specs.declared.status.Status.TheVariants.{Differs, PlainRefused, Refused, NotHere, ReadFault}
use Rattle.alias_run.specs.declared.status.Status.TheVariants.{WriteFault, TooLong, Memory}
use Rattle.alias_run.specs.declared.answer.Answer.{Answer}
use Rattle.alias_run.specs.declared.answer.Answer.TheVariants.{Nothing, Inferred, Accepted, Briefed, Verified}
use Rattle.alias_run.specs.declared.answer.Answer.TheVariants.{Linted, Explained, FunctionExplained, Decided}
use Rattle.alias_brief.specs.Verifying.{brief_of, verified, IsVerified}
use Rattle.alias_brief_laws.specs.Accepted.{functions_in}
use Rattle.alias_brief.specs.declared.calls.VerifyFault.TheVariants as verify
use Rattle.alias_effects.specs.declared.solved.Solved.{Solved}
use Rattle.alias_cert.specs.Units.{unit_checked, Accepts}
use Rattle.alias_cert_text.specs.Certificates.{certificate_of_text}
use Rattle.alias_cert_text.specs.Input.{input_parts}
use Rattle.alias_cert_text.specs.declared.fault.CertFault.TheVariants as text_fault
use Rattle.alias_certificate.specs.declared.certificate.Certificate.{Certificate}
use Rattle.alias_certified_laws.specs.checked.Steps.{BlamesAStep}
use Rattle.alias_certificate.specs.declared.fault.CheckFault.TheVariants as check_fault
use Rattle.alias_base.specs.declared.ids.FunctionId.{FunctionId}
use Rattle.alias_base.specs.declared.ids.IdentifierId.{IdentifierId}
use Rattle.alias_lint.specs.Lints.{lints_of}
use Rattle.alias_lint.specs.Sites.{reports_of}
use Rattle.alias_explain.specs.Explanations.{explained}
use Rattle.alias_explain.specs.Functions.{function_explained}
use Rattle.alias_explain.specs.declared.cause.Cause.TheVariants.{NoCause}
use Rattle.alias_explain.specs.declared.explain.ExplainFault.TheVariants as explain
use Rattle.alias_explain.specs.declared.explain.Explanation.{Explanation as RangeExplanation}
use Rattle.alias_explain.specs.declared.function.IdentifierExplanation.{IdentifierExplanation}
use Rattle.alias_plain.specs.laws.Answers.{answer_of, unit_end}
use Rattle.alias_plain.specs.laws.UnitLaws.{TellsOf}
use Rattle.alias_plain.specs.declared.laws.answer.Plainness.{Plainness as PlainAnswer}
use Rattle.alias_plain.specs.declared.laws.answer.Plainness.TheVariants as plain
use Rattle.alias_rules.specs.Fitting.{function_fits}
use Rattle.alias_cause_laws.specs.causes.Causes.{EachHasCause}
use Rattle.alias_inferred_laws.specs.inferred.Explanations.{NeverTooMany}
use Rattle.alias_inferred_laws.specs.inferred.Reports.{LintsAreReports}
use Rattle.alias_nested.specs.declared.infer.Inferred.{Inferred as UnitInference}
use Rattle.alias_nested.specs.Analysis.{Analysed, SolvesItsFlow}
use Rattle.alias_nested.specs.Units.{unit_analysed}
use Rattle.alias_unit_completeness.specs.Refusals.{IsCaused, IsForwardUnit, IsTooMany}

-- the greatest input, in bytes
abbrev pub greatest_input : ℕ
greatest_input = 16777216

-- what a unit that is well formed leads to: what is handed out is what is inferred of it, and of each function, as its
-- effects pass begins, the entry
-- states solve the flow; or it is refused, with a cause in the unit
abbrev pub IsInferred : HirUnit → Status → Answer → Type 0
IsInferred u Done (Inferred i) = (fs : List Analysed) × (unit_analysed u ≡ Ok (record { functions = fs; inferred = i }))
    × AllByRecursion SolvesItsFlow fs
IsInferred u (Refused e) a = (unit_analysed u ≡ Err e) × IsCaused u e × (a ≡ Nothing)
IsInferred u Memory a = a ≡ Nothing
IsInferred u status a = ⊥

-- the inference refuses a unit that is well formed, with a cause in it
abbrev pub IsRefusedAs : HirUnit → Status → Answer → Type 0
IsRefusedAs u (Refused e) a = (unit_analysed u ≡ Err e) × IsCaused u e × (a ≡ Nothing)
IsRefusedAs u status a = ⊥

-- what is asked about an inference has its answer: the reports have places, and each explanation a cause
pub record IsAskable (i : UnitInference) : Type 0 where
  pub fits : function_fits i.unit.function i.unit.env ≡ true
  pub lints : LintsAreReports i
  pub numbered : NeverTooMany i
  pub caused : EachHasCause i

-- what the inference of a unit that is well formed answers
abbrev pub IsInference : HirUnit → Result UnitInference Status → Type 0
IsInference u (Ok i) = IsInferred u Done (Inferred i) × IsAskable i
IsInference u (Err status) = IsInferred u status Nothing

-- this is inferred of it
abbrev pub Infers : HirUnit → UnitInference → Type 0
Infers u i = (fs : List Analysed) × (unit_analysed u ≡ Ok (record { functions = fs; inferred = i }))

-- what the check of a certificate leads to: it is accepted, and of each function the entry states that it says solve
-- the flow; or it is rejected, with the first fault, and that of a step blames a step of a block
abbrev pub IsAcceptedOf : Certificate → HirUnit → Status → Answer → Type 0
IsAcceptedOf c u Done (Accepted x) = Accepts c.functions u (Ok x)
IsAcceptedOf c u (Rejected fault) a = (unit_checked c.functions u ≡ Err fault) × (a ≡ Nothing) × BlamesAStep fault
IsAcceptedOf c u Memory a = a ≡ Nothing
IsAcceptedOf c u status a = ⊥

-- whether a text is a certificate of a unit: the line of this number is the first that isn't in the grammar, or it is
-- the text of a certificate, which is checked
abbrev pub IsAccepted : List ℕ → HirUnit → Status → Answer → Type 0
IsAccepted text u (BadLine number) a = (certificate_of_text text ≡ Err (text_fault.BadLine number)) × (a ≡ Nothing)
IsAccepted text u Memory a = a ≡ Nothing
IsAccepted text u status a = (c : Certificate) × (certificate_of_text text ≡ Ok c) × IsAcceptedOf c u status a

-- the text that follows for a unit from what solutions of its functions say, which is accepted as the one that follows:
-- a number may be wanting for it. That nothing else is ever wrong, where the solutions are those of the inference, is
-- open
abbrev pub IsBriefedOf : List Solved → HirUnit → Status → Answer → Type 0
IsBriefedOf solved u Done (Briefed text) = (brief_of solved u ≡ Ok text) × (verified text u ≡ Ok (functions_in u))
IsBriefedOf solved u (Refused (error.TooMany which)) a =
    (brief_of solved u ≡ Err (check_fault.TooMany which)) × (a ≡ Nothing)
IsBriefedOf solved u (Rejected fault) a = (brief_of solved u ≡ Err fault) × (a ≡ Nothing)
IsBriefedOf solved u Memory a = a ≡ Nothing
IsBriefedOf solved u status a = ⊥

-- so it is of what is inferred of a unit, and of that unit
abbrev pub IsBriefedAs : HirUnit → UnitInference → Status → Answer → Type 0
IsBriefedAs u i status a = IsBriefedOf i.solved u status a

-- whether a text is exactly the one that follows for a unit from what the text itself says: it is, and of each function
-- the entry states solve the flow; or this is the first fault of it
abbrev pub IsVerifiedAs : List ℕ → HirUnit → Status → Answer → Type 0
IsVerifiedAs text u Done (Verified count) = IsVerified text u count
IsVerifiedAs text u (BadLine number) a = (verified text u ≡ Err (verify.BadLine number)) × (a ≡ Nothing)
IsVerifiedAs text u (Rejected fault) a = (verified text u ≡ Err (verify.Rejected fault)) × (a ≡ Nothing)
IsVerifiedAs text u (Differs number line) a = (verified text u ≡ Err (verify.Differs number line)) × (a ≡ Nothing)
IsVerifiedAs text u Memory a = a ≡ Nothing
IsVerifiedAs text u status a = ⊥

-- the reports of what was inferred, in order, each with its place
abbrev pub IsLintedOf : UnitInference → Status → Answer → Type 0
IsLintedOf i Done (Linted ls) = (lints_of i.unit ≡ Ok ls) × (reports_of ls ≡ i.reports)
IsLintedOf i Memory a = a ≡ Nothing
IsLintedOf i status a = ⊥

-- the inference refuses the unit, or this is so of what it hands out
abbrev pub IsOfInference : (UnitInference → Status → Answer → Type 0) → HirUnit → Status → Answer → Type 0
IsOfInference IsSo u Memory a = a ≡ Nothing
IsOfInference IsSo u status a = IsRefusedAs u status a ⊎ ((i : UnitInference) × Infers u i × IsSo i status a)

-- what it hands out has these reports
abbrev pub IsLinted : HirUnit → Status → Answer → Type 0
IsLinted u status a = IsOfInference IsLintedOf u status a

-- what follows from what it hands out is this text
abbrev pub IsBriefed : HirUnit → Status → Answer → Type 0
IsBriefed u status a = IsOfInference (IsBriefedAs u) u status a

-- a range that is explained has a cause, or no end at all
abbrev pub HasCause : RangeExplanation → Type 0
HasCause e = e.cause ≡ NoCause → ⊥

-- why the range of an identifier ends where it does in what was inferred
abbrev pub IsExplainedOf : Option FunctionId → IdentifierId → UnitInference → Status → Answer → Type 0
IsExplainedOf f id i Done (Explained e) = (explained i.unit f id ≡ Ok e) × HasCause e
IsExplainedOf f id i NotHere a = (explained i.unit f id ≡ Err explain.NotHere) × (a ≡ Nothing)
IsExplainedOf f id i Memory a = a ≡ Nothing
IsExplainedOf f id i status a = ⊥

-- so it is in what it hands out
abbrev pub IsExplained : Option FunctionId → IdentifierId → HirUnit → Status → Answer → Type 0
IsExplained f id u status a = IsOfInference (IsExplainedOf f id) u status a

-- each has a cause
abbrev pub AllHaveCause : List IdentifierExplanation → Type 0
AllHaveCause xs = AllByRecursion (λ (x : IdentifierExplanation). HasCause x.explanation) xs

-- why the ranges of all identifiers of a function end where they do in what was inferred
abbrev pub IsFunctionExplainedOf : Option FunctionId → UnitInference → Status → Answer → Type 0
IsFunctionExplainedOf f i Done (FunctionExplained xs) = (function_explained i.unit f ≡ Ok xs) × AllHaveCause xs
IsFunctionExplainedOf f i NotHere a = (function_explained i.unit f ≡ Err explain.NotHere) × (a ≡ Nothing)
IsFunctionExplainedOf f i Memory a = a ≡ Nothing
IsFunctionExplainedOf f i status a = ⊥

-- so it is in what it hands out
abbrev pub IsFunctionExplained : Option FunctionId → HirUnit → Status → Answer → Type 0
IsFunctionExplained f u status a = IsOfInference (IsFunctionExplainedOf f) u status a

-- the inference isn't refused, unless a counter is at its last value
abbrev pub EndsUnblamed : Status → Type 0
EndsUnblamed Done = Unit {0}
EndsUnblamed (Refused e) = IsTooMany e
EndsUnblamed Memory = Unit {0}
EndsUnblamed status = ⊥

-- the certificate isn't rejected, unless no number is left for a report
abbrev pub EndsAccepted : Status → Type 0
EndsAccepted Done = Unit {0}
EndsAccepted (Rejected fault) = fault ≡ check_fault.TooMany Diagnostics
EndsAccepted Memory = Unit {0}
EndsAccepted status = ⊥

-- the inference isn't refused at all
abbrev pub EndsInferred : Status → Type 0
EndsInferred Done = Unit {0}
EndsInferred Memory = Unit {0}
EndsInferred status = ⊥

-- its functions are settled within 100 rounds, as each is whose edges all go to later blocks
abbrev pub Settles : HirUnit → Type 0
Settles u = IsForwardUnit u ⊎ ((f : Option FunctionId) (visits : ℕ) (report : Report)
    → unit_analysed u ≢ Err (error.NotSettled f visits report))

-- where the unit is plain, and settles as well, so does its inference end
abbrev pub EndsWherePlain : HirUnit → PlainAnswer → Type 0
EndsWherePlain u plain.Plain = Settles u → (status : Status) (a : Answer) → IsInferred u status a → EndsUnblamed status
EndsWherePlain u (plain.NotPlain f i rule) = Unit {0}

-- whether a unit is plain, or what comes first where it isn't; or which function isn't settled
abbrev pub IsDecided : HirUnit → Status → Answer → Type 0
IsDecided u Done (Decided p) = (answer_of (unit_end u) ≡ Ok p) × TellsOf u (Ok p) × EndsWherePlain u p
IsDecided u (PlainRefused fault) a = (answer_of (unit_end u) ≡ Err fault) × TellsOf u (Err fault) × (a ≡ Nothing)
IsDecided u Memory a = a ≡ Nothing
IsDecided u status a = ⊥

-- where the text that follows is asked for, these bytes are those of the unit once more, which is read twice
abbrev pub IsReadAgain : Query → List ℕ → HirUnit → Type 0
IsReadAgain BriefText again u = UnitReading again u
IsReadAgain q text u = Unit {0}

-- what a unit that is well formed leads to, by what is asked about it, where this text is to be its certificate
abbrev pub IsAnswered : Query → List ℕ → HirUnit → Status → Answer → Type 0
IsAnswered Inference certificate u status a = IsInferred u status a
IsAnswered Acceptance certificate u status a = IsAccepted certificate u status a
IsAnswered BriefText again u status a = IsBriefed u status a
IsAnswered Verification text u status a = IsVerifiedAs text u status a
IsAnswered Lints certificate u status a = IsLinted u status a
IsAnswered (Explanation f id) certificate u status a = IsExplained f id u status a
IsAnswered (FunctionExplanation f) certificate u status a = IsFunctionExplained f u status a
IsAnswered Plainness certificate u status a = IsDecided u status a

-- what a unit leads to: it breaks this rule first, or it breaks none and the query is answered
abbrev pub IsChecked : Query → List ℕ → HirUnit → Status → Answer → Type 0
IsChecked q certificate u (Unfit fault) a = (rules_hold u ≡ Err fault) × (a ≡ Nothing)
IsChecked q certificate u Memory a = a ≡ Nothing
IsChecked q certificate u status a = (rules_hold u ≡ Ok tt) × IsAnswered q certificate u status a

-- what a unit leads to that is known to be fit, which is to say that it is well formed, and its inference has a result
abbrev pub IsFit : HirUnit → Status → Answer → Type 0
IsFit u status a = (rules_hold u ≡ Ok tt) × IsInferred u status a × EndsInferred status

-- the parts of the whole input: where a certificate is asked about, the unit before the first newline and the
-- certificate behind it; else the unit alone, or twice, where it is read twice
abbrev pub parts_of : Query → List ℕ → List ℕ × List ℕ
parts_of Acceptance bytes = input_parts bytes
parts_of BriefText bytes = (bytes, bytes)
parts_of Verification bytes = input_parts bytes
parts_of q bytes = (bytes, [])

-- what the unit's part of the input leads to: it is no JSON, or JSON of no unit, or that of one
abbrev pub IsJudged : Query → List ℕ × List ℕ → Status → Answer → Type 0
IsJudged q parts NotJson a = ReadsUnit parts.0 (Err text.NotJson) × (a ≡ Nothing)
IsJudged q parts (NotUnit pointer rule) a = ReadsUnit parts.0 (Err (text.NotUnit pointer rule)) × (a ≡ Nothing)
IsJudged q parts Memory a = a ≡ Nothing
IsJudged q parts status a = (u : HirUnit) × UnitReading parts.0 u × IsChecked q parts.1 u status a

-- What a source leads to. `known` is what it had at the call, where that is known, and `failed` says that its count of
-- faults
-- rose.
abbrev pub IsRead : Query → Option (List ℕ) → Type 0 → Status → Answer → Type 0
IsRead q known failed ReadFault a = failed × (a ≡ Nothing)
IsRead q known failed TooLong a = IfKnown known (λ all. greatest_input < length all) × (a ≡ Nothing)
IsRead q known failed Memory a = a ≡ Nothing
IsRead q known failed status a = (bytes : List ℕ) × IsAllOf known bytes × (length bytes ≤ greatest_input)
    × IsJudged q (parts_of q bytes) status a

-- What the words and a source lead to, before anything is written: `asked` is the command of the words, where they are
-- one. A made unit is well formed, so
-- none of them refuses it, and nor does the inference.
unfoldable pub IsFound : Option Command → Option (List ℕ) → Type 0 → Status → Answer → Type 0
IsFound None known failed status a = (status ≡ Words) × (a ≡ Nothing)
IsFound (Some Infer) known failed status a = IsRead Inference known failed status a
IsFound (Some Certify) known failed status a = IsRead Inference known failed status a
IsFound (Some Check) known failed status a = IsRead Acceptance known failed status a
IsFound (Some Brief) known failed status a = IsRead BriefText known failed status a
IsFound (Some Verify) known failed status a = IsRead Verification known failed status a
IsFound (Some Lint) known failed status a = IsRead Lints known failed status a
IsFound (Some (Explain f id)) known failed status a = IsRead (Explanation f id) known failed status a
IsFound (Some (ExplainFunction f)) known failed status a = IsRead (FunctionExplanation f) known failed status a
IsFound (Some Plain) known failed status a = IsRead Plainness known failed status a
IsFound (Some (Made seed size)) known failed status a = IsFit (made_unit seed size) status a
IsFound (Some Help) known failed status a = (status ≡ Done) × (a ≡ Nothing)
IsFound (Some Version) known failed status a = (status ≡ Done) × (a ≡ Nothing)

-- nothing is left, where that is known and the status is of the whole input
abbrev pub Leaves : Status → Option (List ℕ) → Type 0
Leaves Done left = IsAtEnd left
Leaves NotJson left = IsAtEnd left
Leaves (NotUnit pointer rule) left = IsAtEnd left
Leaves (Unfit fault) left = IsAtEnd left
Leaves (BadLine number) left = IsAtEnd left
Leaves (Rejected fault) left = IsAtEnd left
Leaves (Differs number line) left = IsAtEnd left
Leaves (PlainRefused fault) left = IsAtEnd left
Leaves (Refused error) left = IsAtEnd left
Leaves NotHere left = IsAtEnd left
Leaves Words left = Unit {0}
Leaves ReadFault left = Unit {0}
Leaves WriteFault left = Unit {0}
Leaves TooLong left = Unit {0}
Leaves Memory left = Unit {0}
