use Rattle.std.proofs.Common.{◌∙◌, ap}
use Rattle.alias_hir.proofs.DigestLemmas.{identity_has_digest, instance_has_digest}
use Rattle.alias_hir.proofs.NumberedLemmas.{first_numbered}
use Rattle.alias_hir.specs.Digests.{digest_of_words, digest_of_report, words_digest, report_digest, with_labels}
use Rattle.alias_hir.specs.Numbered.{numbers_of}
use Rattle.alias_hir.specs.SameReports.{same_identity, same_instance, number_of}
use Rattle.alias_hir.proofs.interned.InternedReports.numbers_of.Goals as goal

pub returns-clause-identity : goal.returns-clause-identity
returns-clause-identity c =
    c.first_saying.ensures
    ∙ first_numbered (same_identity c.args.identifier c.args.report.now) digest_of_words
    (words_digest c.args.identifier c.args.report.now)
    (identity_has_digest c.args.identifier c.args.report.now) c.self.inside.entries _
    (c.list_at-saying.ensures ∙ c.self.invariant.0 _
    ∙ ap (λ q. numbers_of digest_of_words q 0 c.self.inside.entries) c.words_digest-words.ensures)
    ∙ ap (number_of (same_identity c.args.identifier c.args.report.now)) c.self.view_is

pub returns-clause-instance : goal.returns-clause-instance
returns-clause-instance c =
    c.first_equal.ensures
    ∙ first_numbered (same_instance c.args.identifier c.args.report.now) digest_of_report
    (report_digest c.args.identifier c.args.report.now)
    (instance_has_digest c.args.identifier c.args.report.now) c.self.inside.entries _
    (
    c.list_at-equal.ensures ∙ c.self.invariant.1 _
    ∙ ap (λ q. numbers_of digest_of_report q 0 c.self.inside.entries)
    (c.report_digest.ensures ∙ ap (λ w. with_labels w c.args.report.now.labels) c.words_digest-words.ensures)
    )
    ∙ ap (number_of (same_instance c.args.identifier c.args.report.now)) c.self.view_is
