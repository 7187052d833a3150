-- Reports that say the same of an identifier have one digest, and so have equal ones.
use Rattle.std.proofs.Common.{◌≡◌, ℕ, true, ◌==◌, ◌&&◌, List, [], ◌∷◌, refl, ap, ◌∙◌}
use Rattle.std.specs.Prelude.{Option, None, Some}
use Rattle.std.specs.Option.{option_eq}
use Rattle.std.specs.Cmp.Lexicographic.{pointwise, bytes_decides}
use Rattle.std.proofs.lemmas.Bool.{eq-eqb, eqb-true}
use Rattle.alias_base.specs.AnswerLaws.{both_true}
use Rattle.alias_base.specs.declared.ids.IdentifierId.{IdentifierId}
use Rattle.alias_hir.specs.Digests.{with_text, with_help, with_label, with_labels, words_digest, report_digest}
use Rattle.alias_hir.specs.Digests.{digest_of_words, digest_of_report}
use Rattle.alias_hir.specs.SameReports.{same_category, same_text, same_span, same_label, same_words, same_identity}
use Rattle.alias_hir.specs.SameReports.{same_instance}
use Rattle.alias_hir.specs.declared.report.Interned.{Interned}
use Rattle.alias_hir.specs.declared.report.Label.{Label}
use Rattle.alias_hir.specs.declared.report.Report.{Report}

text_is : (a b : List ℕ) → same_text a b ≡ true → a ≡ b
text_is a b h = (bytes_decides a b).0 h

help_is : (a b : Option (List ℕ)) → option_eq same_text a b ≡ true → a ≡ b
help_is None None h = refl
help_is (Some a) (Some b) h = ap Some (text_is a b h)
help_is None (Some b) h = cc
help_is (Some a) None h = cc

words_agree : (id : IdentifierId) (r : Report) (e : Interned) → (e.identifier.0 == id.0) ≡ true → same_words e.report r
    ≡ true → digest_of_words e ≡ words_digest id r
words_agree id r e i h =
    let t = both_true (same_category e.report.category r.category && same_text e.report.message r.message) _ h in
    let m = both_true (same_category e.report.category r.category) _ t.0 in
    let number : e.identifier.0 ≡ id.0 = eqb-true _ _ i in
    let message : e.report.message ≡ r.message = text_is _ _ m.1 in
    let help : e.report.help ≡ r.help = help_is _ _ t.1 in
    ap (λ z. with_help (with_text z e.report.message) e.report.help) number
    ∙ ap (λ z. with_help (with_text id.0 z) e.report.help) message
    ∙ ap (with_help (with_text id.0 r.message)) help

label_agrees : (digest : ℕ) (a b : Label) → same_label a b ≡ true → with_label digest a ≡ with_label digest b
label_agrees digest a b h =
    let s = both_true (same_span a.span b.span) _ h in
    let ends = both_true (a.span.start == b.span.start) _ s.0 in
    let start : a.span.start ≡ b.span.start = eqb-true _ _ ends.0 in
    let end : a.span.end ≡ b.span.end = eqb-true _ _ ends.1 in
    cc

labels_agree : (digest : ℕ) (xs ys : List Label) → pointwise same_label xs ys ≡ true → with_labels digest xs
    ≡ with_labels digest ys
labels_agree digest [] [] h = refl
labels_agree digest [] (b ∷ ys) h = cc
labels_agree digest (a ∷ xs) [] h = cc
labels_agree digest (a ∷ xs) (b ∷ ys) h =
    let t = both_true (same_label a b) _ h in
    ap (λ z. with_labels z xs) (label_agrees digest a b t.0) ∙ labels_agree (with_label digest b) xs ys t.1

-- what says the same of the identifier has the digest of its words
pub identity_has_digest : (id : IdentifierId) (r : Report) (e : Interned) → same_identity id r e ≡ true
    → (digest_of_words e == words_digest id r) ≡ true
identity_has_digest id r e h = let t = both_true (e.identifier.0 == id.0) _ h in eq-eqb _ _ (words_agree id r e t.0 t.1)

-- what is equal has the digest of the report
pub instance_has_digest : (id : IdentifierId) (r : Report) (e : Interned) → same_instance id r e ≡ true
    → (digest_of_report e == report_digest id r) ≡ true
instance_has_digest id r e h =
    let t = both_true (e.identifier.0 == id.0) _ h in
    let p = both_true (same_words e.report r) _ t.1 in
    eq-eqb _ _ (ap (λ z. with_labels z e.report.labels) (words_agree id r e t.0 p.0)
    ∙ labels_agree (words_digest id r) e.report.labels r.labels p.1)
