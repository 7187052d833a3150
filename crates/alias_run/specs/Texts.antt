-- The text that a run writes.
use Rattle.std.specs.Prelude.{◌≡◌, ℕ, List, ◌++◌, length, Option, Some, None, Ok, codes}
use Rattle.alias_text.specs.declared.detail.Detail.{Detail}
use Rattle.alias_text.specs.declared.detail.Detail.TheVariants as detail
use Rattle.alias_text.specs.Results.{result_text}
use Rattle.alias_text.specs.Fitting.{IfCertify}
use Rattle.alias_nested.specs.declared.infer.Inferred.{Inferred as UnitInference}
use Rattle.alias_run.specs.declared.answer.Answer.{Answer}
use Rattle.alias_run.specs.declared.answer.Answer.TheVariants.{Nothing, Inferred, Accepted, Briefed, Verified}
use Rattle.alias_run.specs.declared.answer.Answer.TheVariants.{Linted, Explained, FunctionExplained, Decided}
use Rattle.alias_run.specs.declared.command.Command.{Command}
use Rattle.alias_run.specs.declared.command.Command.TheVariants.{Infer, Certify, Check, Lint, Explain, ExplainFunction}
use Rattle.alias_run.specs.declared.command.Command.TheVariants.{Brief, Verify, Plain, Made, Help, Version}
use Rattle.alias_run.specs.declared.status.Status.{Status}
use Rattle.alias_cert.specs.declared.check.Accepted.{Accepted as AcceptedUnit}
use Rattle.alias_cert_text.specs.check_lines.CheckLines.{accepted_text as functions_accepted}
use Rattle.alias_cert_text.specs.Certificates.{certificate_of_text}
use Rattle.alias_certificate_laws.specs.text.Certifying.{certificate_of}
use Rattle.alias_question_text.specs.lints.Lints.{lints_text}
use Rattle.alias_question_text.specs.lints.Explanations.{explanation_text, function_text}
use Rattle.alias_question_text.specs.plain.Lines.{plainness_text}
use Rattle.alias_run.specs.Statuses.{refusal_line}

-- what `--help` writes of the commands
abbrev pub commands_text : List ℕ
commands_text =
    codes "jirrambeo infers what code may alias, freeze and write.\n"
    ++ codes "\n"
    ++ codes "  jirrambeo infer < unit.json     writes what is inferred of a unit\n"
    ++ codes "  jirrambeo certify < unit.json   writes also what a checker of it needs\n"
    ++ codes "  jirrambeo check                 reads a unit, a newline and what certify writes of it,\n"
    ++ codes "                                  and writes whether that is a certificate of the unit\n"
    ++ codes "  jirrambeo brief < unit.json     writes what infer writes, and what loops need besides\n"
    ++ codes "  jirrambeo verify                reads a unit, a newline and what brief writes of it,\n"
    ++ codes "                                  and writes whether each line is the one that follows\n"
    ++ codes "  jirrambeo lint < unit.json      writes each report with the place that it comes from\n"
    ++ codes "  jirrambeo explain <function> <identifier> < unit.json\n"
    ++ codes "                                  writes why a range ends where it does\n"
    ++ codes "  jirrambeo explain <function> < unit.json\n"
    ++ codes "                                  writes that of each identifier of the function\n"
    ++ codes "  jirrambeo plain < unit.json     writes whether no rule of the inference can refuse it,\n"
    ++ codes "                                  where its functions settle\n"
    ++ codes "  jirrambeo made <seed> <size>    makes a unit of 1 to 1,000 blocks, and writes counts\n"
    ++ codes "  jirrambeo --help                writes this\n"
    ++ codes "  jirrambeo --version             writes name and version\n"
    ++ codes "\n"

-- what it writes of the statuses
abbrev pub statuses_text : List ℕ
statuses_text =
    codes "It ends with one of these statuses:\n"
    ++ codes "\n"
    ++ codes "  0   done\n"
    ++ codes "  1   the words can't be had, or the program can't be built\n"
    ++ codes "  2   the words are no command\n"
    ++ codes "  3   the input is no JSON\n"
    ++ codes "  4   the input is no unit\n"
    ++ codes "  5   the unit breaks a rule\n"
    ++ codes "  6   the inference refuses the unit\n"
    ++ codes "  7   the input can't be read\n"
    ++ codes "  8   the output can't be written\n"
    ++ codes "  9   the input is too long\n"
    ++ codes "  10  memory ran out\n"
    ++ codes "  12  a line of the certificate isn't in the grammar\n"
    ++ codes "  13  the certificate isn't one of the unit\n"
    ++ codes "  14  the identifier doesn't stand in that function\n"
    ++ codes "  15  it isn't known whether the unit is plain\n"
    ++ codes "  16  a line of the certificate isn't the one that follows\n"
    ++ codes "\n"
    ++ codes "docs/FORMAT.md describes units, what is written of them, and refusals.\n"

-- what `--help` writes
abbrev pub help_text : List ℕ
help_text = commands_text ++ statuses_text

-- what `--version` writes
abbrev pub version_text : List ℕ
version_text = codes "jirrambeo 0.1.0\n"

-- what is printed of an inference in this detail
abbrev pub inferred_text : Detail → UnitInference → List ℕ
inferred_text printed i = result_text printed i.unit i.solved i.summary i.reports

-- how many functions a certificate has that is accepted
abbrev pub accepted_text : AcceptedUnit → List ℕ
accepted_text a = functions_accepted (length a.solved)

-- the answer, where there is one, and else the line of the refusal
abbrev pub answer_text : Detail → Status → Answer → List ℕ
answer_text printed status Nothing = refusal_line status
answer_text printed status (Inferred i) = inferred_text printed i
answer_text printed status (Accepted a) = accepted_text a
answer_text printed status (Briefed text) = text
answer_text printed status (Verified count) = functions_accepted count
answer_text printed status (Linted ls) = lints_text ls
answer_text printed status (Explained e) = explanation_text e
answer_text printed status (FunctionExplained xs) = function_text xs
answer_text printed status (Decided p) = plainness_text p

-- the text of a run, by its command
abbrev pub text_of : Option Command → Status → Answer → List ℕ
text_of None status a = refusal_line status
text_of (Some Infer) status a = answer_text detail.Infer status a
text_of (Some Certify) status a = answer_text detail.Certify status a
text_of (Some Check) status a = answer_text detail.Infer status a
text_of (Some Brief) status a = answer_text detail.Infer status a
text_of (Some Verify) status a = answer_text detail.Infer status a
text_of (Some Lint) status a = answer_text detail.Infer status a
text_of (Some (Explain f id)) status a = answer_text detail.Infer status a
text_of (Some (ExplainFunction f)) status a = answer_text detail.Infer status a
text_of (Some Plain) status a = answer_text detail.Infer status a
text_of (Some (Made seed size)) status a = answer_text detail.Counts status a
text_of (Some Help) status a = help_text
text_of (Some Version) status a = version_text

-- the text reads as the certificate of what was inferred
abbrev pub IsCertificateOf : UnitInference → List ℕ → Type 0
IsCertificateOf i text = certificate_of_text text ≡ Ok (certificate_of i.unit i.solved i.summary)

-- so does a text that is printed as a certificate, where something was inferred
abbrev pub IsReadBack : Answer → Detail → List ℕ → Type 0
IsReadBack (Inferred i) printed text = IfCertify printed (IsCertificateOf i text)
IsReadBack a printed text = Unit {0}

-- what `certify` writes of a unit reads as the certificate of what was inferred of it
abbrev pub IsCertifying : Option Command → Answer → List ℕ → Type 0
IsCertifying (Some Certify) a text = IsReadBack a detail.Certify text
IsCertifying asked a text = Unit {0}
