-- The status of each fault, the exit statuses, and the line that a refusal writes.
use Rattle.std.specs.Prelude.{ℕ, List, [], ◌∷◌, ◌++◌, codes}
use Rattle.alias_hir.specs.declared.error.InferError.{InferError}
use Rattle.alias_hir.specs.declared.error.InferError.TheVariants as infer
use Rattle.alias_brief.specs.declared.calls.VerifyFault.{VerifyFault}
use Rattle.alias_brief.specs.declared.calls.VerifyFault.TheVariants as verify
use Rattle.alias_cert_text.specs.declared.fault.CertFault.{CertFault}
use Rattle.alias_cert_text.specs.declared.fault.CertFault.TheVariants as text_fault
use Rattle.alias_certificate.specs.declared.fault.CheckFault.{CheckFault}
use Rattle.alias_certificate.specs.declared.fault.CheckFault.TheVariants as check
use Rattle.alias_cert_text.specs.check_lines.CheckLines.{rejected_text}
use Rattle.alias_explain.specs.declared.explain.ExplainFault.{ExplainFault}
use Rattle.alias_explain.specs.declared.explain.ExplainFault.TheVariants as explain
use Rattle.alias_plain.specs.declared.laws.answer.PlainFault.{PlainFault}
use Rattle.alias_plain.specs.declared.laws.answer.PlainFault.TheVariants as plain
use Rattle.alias_question_text.specs.plain.Lines.{plain_refusal_text}
use Rattle.alias_read.specs.declared.fault.TextFault.{TextFault}
use Rattle.alias_read.specs.declared.fault.TextFault.TheVariants as text
use Rattle.alias_rules.specs.declared.function_rules.fault.UnitFault.{UnitFault}
use Rattle.alias_rules.specs.declared.function_rules.fault.UnitFault.TheVariants as unit
use Rattle.alias_stream.specs.declared.sink.SinkStop.{SinkStop}
use Rattle.alias_stream.specs.declared.sink.SinkStop.TheVariants as sink
use Rattle.alias_stream.specs.declared.whole.ReadStop.{ReadStop}
use Rattle.alias_stream.specs.declared.whole.ReadStop.TheVariants as read
use Rattle.alias_text.specs.Lines.{spaced}
use Rattle.alias_text.specs.Refusals.{number_text, refused_text, unfit_text, not_unit_text}
use Rattle.alias_run.specs.declared.status.Status.{Status}
use Rattle.alias_run.specs.declared.status.Status.TheVariants.{Done, Words, NotJson, NotUnit, Unfit, BadLine, Rejected}
use Rattle.alias_run.specs.declared.status.Status.TheVariants.{Differs, PlainRefused, Refused, NotHere, ReadFault}
use Rattle.alias_run.specs.declared.status.Status.TheVariants.{WriteFault, TooLong, Memory}

-- ---- faults. Out of memory has one status, wherever it comes

abbrev pub read_status : ReadStop → Status
read_status read.Failed = ReadFault
read_status read.TooLong = TooLong
read_status (read.Memory e) = Memory

abbrev pub text_status : TextFault → Status
text_status text.NotJson = NotJson
text_status (text.NotUnit pointer rule) = NotUnit pointer rule
text_status (text.Memory e) = Memory

abbrev pub unit_status : UnitFault → Status
unit_status (unit.Memory e) = Memory
unit_status fault = Unfit fault

abbrev pub cert_status : CertFault → Status
cert_status (text_fault.BadLine number) = BadLine number
cert_status (text_fault.Memory e) = Memory

abbrev pub check_status : CheckFault → Status
check_status (check.Memory e) = Memory
check_status fault = Rejected fault

abbrev pub verify_status : VerifyFault → Status
verify_status (verify.BadLine number) = BadLine number
verify_status (verify.Rejected fault) = Rejected fault
verify_status (verify.Differs number line) = Differs number line
verify_status (verify.Memory e) = Memory

-- where no text follows: a number that is wanting is told as the inference tells it
abbrev pub brief_status : CheckFault → Status
brief_status (check.TooMany which) = Refused (infer.TooMany which)
brief_status (check.Memory e) = Memory
brief_status fault = Rejected fault

abbrev pub infer_status : InferError → Status
infer_status (infer.Memory e) = Memory
infer_status error = Refused error

abbrev pub explain_status : ExplainFault → Status
explain_status explain.NotHere = NotHere
explain_status (explain.TooMany which) = Refused (infer.TooMany which)
explain_status (explain.Memory e) = Memory

abbrev pub plain_status : PlainFault → Status
plain_status (plain.Memory e) = Memory
plain_status fault = PlainRefused fault

abbrev pub write_status : SinkStop → Status
write_status sink.Failed = WriteFault
write_status (sink.Memory e) = Memory

-- ---- what is written

abbrev pub status_code : Status → ℕ
status_code Done = 0
status_code Words = 2
status_code NotJson = 3
status_code (NotUnit pointer rule) = 4
status_code (Unfit fault) = 5
status_code (Refused error) = 6
status_code ReadFault = 7
status_code WriteFault = 8
status_code TooLong = 9
status_code Memory = 10
status_code (BadLine number) = 12
status_code (Rejected fault) = 13
status_code NotHere = 14
status_code (PlainRefused fault) = 15
status_code (Differs number line) = 16

-- the line that follows, where one does
abbrev pub spaced_line : List ℕ → List ℕ
spaced_line [] = []
spaced_line (c ∷ line) = codes " " ++ (c ∷ line)

-- the number of the line that differs, and what follows there
abbrev pub differs_text : ℕ → List ℕ → List ℕ
differs_text number line = codes "refused Differs" ++ spaced number ++ spaced_line line ++ codes "\n"

-- one line, or nothing where the status writes none
abbrev pub refusal_line : Status → List ℕ
refusal_line Done = []
refusal_line Words = codes "refused Words\n"
refusal_line NotJson = codes "refused NotJson\n"
refusal_line (NotUnit pointer rule) = not_unit_text pointer rule
refusal_line (Unfit fault) = unfit_text fault
refusal_line (BadLine number) = number_text (codes "BadLine") number
refusal_line (Rejected fault) = rejected_text fault
refusal_line (Differs number line) = differs_text number line
refusal_line (PlainRefused fault) = plain_refusal_text fault
refusal_line (Refused error) = refused_text error
refusal_line NotHere = codes "refused NotHere\n"
refusal_line ReadFault = codes "refused ReadFault\n"
refusal_line WriteFault = []
refusal_line TooLong = codes "refused TooLong\n"
refusal_line Memory = []
