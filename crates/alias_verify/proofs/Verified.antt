-- What a text comes to, where it is read first, and where it isn't.
use Rattle.std.proofs.Common.{◌≡◌, ℕ, false, List, length, Option, Some, None, Result, Ok, Err, refl, ap, sym, subst, ◌∙◌}
use Rattle.std.specs.Prelude.{IsUtf8}
use Rattle.std.specs.List.{AllByRecursion}
use Rattle.alias_base.specs.Answer.{Gives}
use Rattle.alias_hir.specs.declared.env.Unit.{Unit as HirUnit}
use Rattle.alias_rules.specs.Functions.{rules_hold}
use Rattle.alias_cert.specs.function.Faults.{is_memory as is_want}
use Rattle.alias_cert_text.specs.Certificates.{certificate_of_text}
use Rattle.alias_cert_text.specs.Faults.{is_memory as is_free}
use Rattle.alias_cert_text.specs.declared.fault.CertFault.{CertFault}
use Rattle.alias_cert_text.specs.declared.fault.CertFault.TheVariants as text_fault
use Rattle.alias_certificate.specs.declared.certificate.Certificate.{Certificate}
use Rattle.alias_certificate.specs.declared.fault.CheckFault.{CheckFault}
use Rattle.alias_certificate.specs.declared.fault.CheckFault.TheVariants as fault
use Rattle.alias_follow.specs.declared.unit.Followed.{Followed}
use Rattle.alias_follow.specs.Functions.{FollowedFunction, SolvesItsFlow}
use Rattle.alias_follow.specs.Units.{unit_followed}
use Rattle.alias_unit_completeness.specs.Refusals.{IsForwardUnit}
use Rattle.alias_brief.specs.Briefs.{brief_text}
use Rattle.alias_brief.specs.Differences.{first_difference}
use Rattle.alias_brief.specs.Fitting.{IsFitting}
use Rattle.alias_brief.specs.Verifying.{text_fault_of, check_fault_of, is_memory, compared_by, followed_so, read_so}
use Rattle.alias_brief.specs.Verifying.{verified, FollowsAs, IsFollowed, IsVerified, Verifies}
use Rattle.alias_brief.specs.declared.calls.VerifyFault.{VerifyFault}
use Rattle.alias_brief_text_laws.specs.Reading.{BriefsReadBack}
use Rattle.alias_brief_text_laws.specs.Telling.{told}
use Rattle.alias_forward_laws.specs.Forward.{ForwardUnitsAreAlike}
use Rattle.alias_verify.specs.Printing.{IsPrinted, IsPrintedFor, PrintsIfOk, PrintsForIfOk}

-- ---- faults

no_want : (e : CheckFault) → is_memory (check_fault_of e) ≡ false → is_want e ≡ false
no_want (fault.Functions n) h = refl
no_want (fault.Blocks f) h = refl
no_want (fault.State f b) h = refl
no_want (fault.Temporaries f) h = refl
no_want (fault.Initial f) h = refl
no_want (fault.Step f b c) h = refl
no_want (fault.MissingTemporary f b) h = refl
no_want (fault.Effects f b) h = refl
no_want (fault.NotBelow f b s) h = refl
no_want (fault.NotJoin f b) h = refl
no_want (fault.Summary f) h = refl
no_want (fault.TooMany w) h = refl
no_want (fault.Memory e) h = cc

unfree : (e : CertFault) → is_memory (text_fault_of e) ≡ false → is_free e ≡ false
unfree (text_fault.BadLine n) h = refl
unfree (text_fault.Memory e) h = cc

-- ---- what follows from what is given

-- a text that is the same as the one that is printed
pub printed_same : (x : Followed) (text expected read : List ℕ) → expected ≡ brief_text x → read ≡ expected → read ≡ text
    → IsFitting x → IsUtf8 read → IsPrinted x text
printed_same x text expected read is reads same fits utf8 = record {
  same = sym is ∙ sym reads ∙ same;
  fits = fits;
  utf8 = subst IsUtf8 (reads ∙ is) utf8;
}

same_count : (count : ℕ) (o : Option (ℕ × List ℕ)) (n : ℕ) → compared_by count o ≡ Ok n → count ≡ n
same_count count None n h = cc
same_count count (Some d) n h = cc

module _ (c : Certificate) (text : List ℕ) (u : HirUnit) where
  -- what is given isn't followed
  pub unfollowed : (r : Result ℕ VerifyFault) (e : CheckFault) → r ≡ Err (check_fault_of e)
      → (is_want e ≡ false → unit_followed c.functions u ≡ Err e) → FollowsAs c text u r
  unfollowed r e is h = subst (λ z. FollowsAs c text u z) (sym is)
      (λ free. ap (followed_so text) (h (no_want e free)))

  module _ (fs : List FollowedFunction) (x : Followed)
      (so : unit_followed c.functions u ≡ Ok (record { functions = fs; followed = x })) where
    -- it is, and the texts are compared
    pub compared_with : (r : Result ℕ VerifyFault) → AllByRecursion SolvesItsFlow fs
        → Gives is_memory (compared_by (length x.inferred.solved) (first_difference (brief_text x) text)) r
        → PrintsIfOk x text r → FollowsAs c text u r
    compared_with (Ok n) solve g p =
        (fs, x, so, solve, p.same, same_count (length x.inferred.solved) (first_difference (brief_text x) text) n g)
    compared_with (Err e) solve g p = λ free. ap (followed_so text) so ∙ g free

    pub printed_for : (r : Result ℕ VerifyFault) → PrintsIfOk x text r → PrintsForIfOk c.functions u text r
    printed_for (Ok n) p = (record { functions = fs; followed = x }, so, p)
    printed_for (Err e) p = p

  -- the text is read, and what it gives is followed
  pub read_then : (r : Result ℕ VerifyFault) → certificate_of_text text ≡ Ok c → FollowsAs c text u r
      → Verifies text u r
  read_then (Ok n) h f = (c, h, f)
  read_then (Err e) h f = λ free. ap (read_so text u) h ∙ f free

-- the text isn't in the grammar
pub unread : (text : List ℕ) (u : HirUnit) (r : Result ℕ VerifyFault) (e : CertFault) → r ≡ Err (text_fault_of e)
    → (is_free e ≡ false → certificate_of_text text ≡ Err e) → Verifies text u r
unread text u r e is h = subst (λ z. Verifies text u z) (sym is) (λ free. ap (read_so text u) (h (unfree e free)))

-- ---- where no edge goes back

module _ (text : List ℕ) (u : HirUnit) (rules : rules_hold u ≡ Ok tt) (forward : IsForwardUnit u)
    (alike : ForwardUnitsAreAlike) (c : Certificate) where
  -- the text of what follows reads as a certificate, from which the same follows
  pub accepted_unread : BriefsReadBack → (n : ℕ) → IsFollowed c text u n → IsPrintedFor c.functions u text
      → IsVerified text u n
  accepted_unread back n f p =
      let said = told p.0.followed in (
        said,
        ap certificate_of_text (sym p.2.same) ∙ back c.functions u p.0 p.1 p.2.fits p.2.utf8,
        (f.0, f.1, alike said.functions c.functions u rules forward ∙ f.2, f.3, f.4, f.5),
      )

  -- from what a text says that is read afterwards the same fault follows
  pub refused_alike : (said : Certificate) (e : VerifyFault) → certificate_of_text text ≡ Ok said
      → (is_memory e ≡ false → followed_so text (unit_followed c.functions u) ≡ Err e)
      → is_memory e ≡ false → verified text u ≡ Err e
  refused_alike said e read h free =
      ap (read_so text u) read ∙ ap (followed_so text) (alike said.functions c.functions u rules forward) ∙ h free
