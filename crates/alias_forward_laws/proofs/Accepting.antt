-- What is accepted of a forward unit is what is printed of its inference, and whatever is given the same follows.
use Rattle.std.proofs.Common.{◌≡◌, ℕ, List, length, Option, Some, None, Result, Ok, Err, refl, ap, sym, ◌∙◌}
use Rattle.alias_hir.specs.declared.env.Unit.{Unit as HirUnit}
use Rattle.alias_hir.specs.declared.error.InferError.{InferError}
use Rattle.alias_rules.specs.Functions.{rules_hold}
use Rattle.alias_nested.specs.Units.{UnitAnalysis, unit_analysed}
use Rattle.alias_nested.specs.declared.infer.Inferred.{Inferred}
use Rattle.alias_certificate.specs.declared.certificate.CertFunction.{CertFunction}
use Rattle.alias_certificate.specs.declared.certificate.Certificate.{Certificate}
use Rattle.alias_certificate.specs.declared.fault.CheckFault.{CheckFault}
use Rattle.alias_cert_text.specs.Certificates.{certificate_of_text}
use Rattle.alias_cert_text.specs.declared.fault.CertFault.{CertFault}
use Rattle.alias_follow.specs.Units.{UnitFollowing, unit_followed}
use Rattle.alias_unit_completeness.specs.Refusals.{IsForwardUnit}
use Rattle.alias_brief.specs.Briefs.{brief_text}
use Rattle.alias_brief.specs.Differences.{whole_lines, first_difference}
use Rattle.alias_brief.specs.Verifying.{check_fault_of, compared_by, compared, followed_so, read_so, verified}
use Rattle.alias_brief.specs.declared.calls.VerifyFault.{VerifyFault}
use Rattle.alias_forward_laws.specs.Forward.{inferred_text, IsInferredText, ForwardTextsAreInferred, IsFollowedAs}
use Rattle.alias_forward_laws.specs.Forward.{ForwardUnitsFollow, ForwardUnitsAreAlike, InferredTextsAreAccepted}
use Rattle.alias_brief.proofs.Lines.{texts_same, no_difference}
use Rattle.alias_forward_laws.proofs.Texts.{brief_printed}
use Rattle.alias_forward_laws.proofs.Together.{Together, go, stop}
use Rattle.alias_forward_laws.proofs.Whole.{UnitInStep, unit_together}

same_where : (n : ℕ) (o : Option (ℕ × List ℕ)) (count : ℕ) → compared_by n o ≡ Ok count → o ≡ None
same_where n None count h = refl
same_where n (Some d) count h = cc

-- the text of what follows is that of what is inferred
same_text : (x : UnitAnalysis) (y : UnitFollowing) → UnitInStep x y → brief_text y.followed
    ≡ inferred_text x.inferred
same_text x y h =
    brief_printed y.followed h.long h.bare
    ∙ ap inferred_text (sym h.inferred)

module _ (u : HirUnit) (text : List ℕ) (count : ℕ) where
  accepted_so : (s t : Result UnitFollowing CheckFault) → Together UnitInStep (unit_analysed u) s t
      → followed_so text s ≡ Ok count → IsInferredText u text
  accepted_so s t (stop e d is so to) h =
      let no : ◌≡◌ {A = Result ℕ VerifyFault} (Err (check_fault_of d)) (Ok count) =
      sym (ap (followed_so text) so) ∙ h in cc
  accepted_so s t (go x y is so to a) h =
      let passes : compared text y ≡ Ok count = sym (ap (followed_so text) so) ∙ h in
      let same : first_difference (brief_text y.followed) text ≡ None =
      same_where (length y.followed.inferred.solved) (first_difference (brief_text y.followed) text) count passes in
      (x.functions, x.inferred, is, sym (texts_same 1 (brief_text y.followed) text same) ∙ same_text x y a)

  module _ (rules : rules_hold u ≡ Ok tt) (forward : IsForwardUnit u) where
    read : (r : Result Certificate CertFault) → read_so text u r ≡ Ok count → IsInferredText u text
    read (Ok c) h = accepted_so (unit_followed c.functions u) (unit_followed c.functions u)
        (unit_together c.functions c.functions u rules forward) h
    read (Err e) h = cc

pub forward_texts : ForwardTextsAreInferred
forward_texts u text count rules forward h = read u text count rules forward (certificate_of_text text) h

-- ---- back

module _ (given : List CertFunction) (u : HirUnit) (a : UnitAnalysis) (ends : unit_analysed u ≡ Ok a) where
  followed_so_far : Together UnitInStep (unit_analysed u) (unit_followed given u) (unit_followed given u)
      → IsFollowedAs given u a
  followed_so_far (stop e d is so to) =
      let no : ◌≡◌ {A = Result UnitAnalysis InferError} (Err e) (Ok a) = sym is ∙ ends in cc
  followed_so_far (go x y is so to h) =
      let same : x ≡ a = one_answer x a (sym is ∙ ends) in (
        y,
        so,
        sym h.inferred ∙ ap (λ (z : UnitAnalysis). z.inferred) same,
        same_text x y h ∙ ap (λ (z : UnitAnalysis). inferred_text z.inferred) same,
      )
    where
      one_answer : (x a : UnitAnalysis) → ◌≡◌ {A = Result UnitAnalysis InferError} (Ok x) (Ok a) → x ≡ a
      one_answer x a h = cc

pub forward_units : ForwardUnitsFollow
forward_units given u a rules forward ends =
    followed_so_far given u a ends (unit_together given given u rules forward)

module _ (u : HirUnit) (a : UnitAnalysis) (c : Certificate) where
  printed_accepted : IsFollowedAs c.functions u a → certificate_of_text (inferred_text a.inferred) ≡ Ok c
      → verified (inferred_text a.inferred) u ≡ Ok (length a.inferred.solved)
  printed_accepted h read =
      let text = inferred_text a.inferred in
      let same : first_difference (brief_text h.0.followed) text ≡ None =
      ap (λ t. first_difference t text) h.3 ∙ no_difference 1 (whole_lines text) in
      ap (read_so text u) read ∙ ap (followed_so text) h.1
      ∙ ap (compared_by (length h.0.followed.inferred.solved)) same
      ∙ ap (λ (i : Inferred). Ok (length i.solved)) h.2

pub inferred_texts : InferredTextsAreAccepted
inferred_texts u a c rules forward ends read =
    printed_accepted u a c (forward_units c.functions u a rules forward ends) read

-- ---- whatever is given

same_answer : (u : HirUnit) (s t : Result UnitFollowing CheckFault) → Together UnitInStep (unit_analysed u) s t → s ≡ t
same_answer u s t (go x y is so to h) = so ∙ sym to
same_answer u s t (stop e d is so to) = so ∙ sym to

pub forward_units_alike : ForwardUnitsAreAlike
forward_units_alike given other u rules forward =
    same_answer u (unit_followed given u) (unit_followed other u) (unit_together given other u rules forward)
