-- Numbers below 2^32 by which interned reports are found. Reports that say the same of an identifier, and equal ones,
-- have the same.
use Rattle.std.specs.Prelude.{ℕ, ◌+◌, ◌*◌, ◌%◌, List, [], ◌∷◌, Option, None, Some}
use Rattle.alias_base.specs.declared.ids.IdentifierId.{IdentifierId}
use Rattle.alias_hir.specs.declared.report.Interned.{Interned}
use Rattle.alias_hir.specs.declared.report.Label.{Label}
use Rattle.alias_hir.specs.declared.report.Report.{Report}

-- a digest with one more number in it; 4,294,967,291 is the greatest prime below 2^32
abbrev pub mixed : ℕ → ℕ → ℕ
mixed digest number = (digest * 16777619 + number) % 4294967291

abbrev pub with_text : ℕ → List ℕ → ℕ
with_text digest [] = digest
with_text digest (c ∷ cs) = with_text (mixed digest c) cs

abbrev pub with_help : ℕ → Option (List ℕ) → ℕ
with_help digest None = digest
with_help digest (Some text) = with_text digest text

-- of a label the span
abbrev pub with_label : ℕ → Label → ℕ
with_label digest l = mixed (mixed digest l.span.start) l.span.end

abbrev pub with_labels : ℕ → List Label → ℕ
with_labels digest [] = digest
with_labels digest (l ∷ ls) = with_labels (with_label digest l) ls

-- the digest of what a report says of an identifier
abbrev pub words_digest : IdentifierId → Report → ℕ
words_digest id r = with_help (with_text id.0 r.message) r.help

-- the digest of the whole report
abbrev pub report_digest : IdentifierId → Report → ℕ
report_digest id r = with_labels (words_digest id r) r.labels

abbrev pub digest_of_words : Interned → ℕ
digest_of_words e = words_digest e.identifier e.report

abbrev pub digest_of_report : Interned → ℕ
digest_of_report e = report_digest e.identifier e.report
