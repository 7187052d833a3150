-- What a run in a host's process comes to.
use Rattle.std.specs.Prelude.{ℕ, ◌≡◌, ◌⊎◌, ◌==◌, ◌++◌, Bool, true, false, if◌then◌else◌, List, [], Option, None, Some}
use Rattle.std.specs.Prelude.{length, take, drop}
use Rattle.std.specs.List.{slice_split}
use Rattle.std.specs.Str.{IsUtf8}
use Rattle.alias_run.specs.Commands.{command_of}
use Rattle.alias_run.specs.Findings.{IsFound}
use Rattle.alias_run.specs.Runs.{IsHeadline, IsComplete, IsAccepting}
use Rattle.alias_run.specs.Statuses.{status_code}
use Rattle.alias_run.specs.Texts.{text_of, IsCertifying}
use Rattle.alias_run.specs.declared.command.Command.{Command}
use Rattle.alias_run.specs.declared.answer.Answer.{Answer}
use Rattle.alias_run.specs.declared.status.Status.{Status}
use Rattle.alias_run.specs.declared.status.Status.TheVariants.{Memory}

-- the words of a line, which single spaces part
abbrev pub words_of : List ℕ → List (List ℕ)
words_of line = slice_split (λ b. b == 32) line

-- what a line asks for: nothing, where it isn't UTF-8
abbrev pub IsAsked : List ℕ → Option Command → Type 0
IsAsked line asked = (IsUtf8 line × (asked ≡ command_of (words_of line))) ⊎ (¬ (IsUtf8 line) × (asked ≡ None))

-- The cause of a status, and the text: of all that the input leads to, or nothing where memory ran out. No read and no
-- write fails. What `certify` writes reads
-- as the certificate of what was inferred.
abbrev pub IsReply : Option Command → List ℕ → Status → List ℕ → Type 0
IsReply asked input Memory text = text ≡ []
IsReply asked input status text =
    (i : Answer) × IsFound asked (Some input) ⊥ status i × IsHeadline asked (Some input) (Some []) (Some text) status i
    × (text ≡ text_of asked status i) × IsCertifying asked i text

-- no plain unit that settles is refused, and no certificate of what is inferred is rejected, as a run keeps it whose
-- source and sink never fail
abbrev pub KeepsPromises : Option Command → List ℕ → Status → Type 0
KeepsPromises asked input status = IsComplete asked (Some input) ⊥ ⊥ status × IsAccepting asked (Some input) ⊥ ⊥ status

-- whether memory ran out
abbrev pub is_memory : Status → Bool
is_memory Memory = true
is_memory status = false

-- the text that is kept: none where memory ran out
abbrev pub text_kept : Status → List ℕ → List ℕ
text_kept status text = if is_memory status then [] else text

-- what room holds once a text was put at its front: as much of the text as there is room for, and then what was there
abbrev pub put_front : List ℕ → List ℕ → List ℕ
put_front text room = take (length room) text ++ drop (length text) room

-- the status of a line and an input, the length of their text, and what the room for it holds then
abbrev pub IsHostRun : List ℕ → List ℕ → List ℕ → List ℕ → ℕ → ℕ → Type 0
IsHostRun line input room room' text_length code =
    (asked : Option Command) × (status : Status) × (text : List ℕ) × IsAsked line asked
    × IsReply asked input status text × KeepsPromises asked input status
    × (code ≡ status_code status) × (text_length ≡ length text) × (room' ≡ put_front text room)
