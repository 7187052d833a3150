-- What is printed of a unit, as its text fits, is accepted.
use Rattle.std.specs.Prelude.{IsUtf8, Result}
use Rattle.std.proofs.Common.{◌≡◌, ◌∙◌, ℕ, List, Ok, ap, sym, subst}
use Rattle.alias_base.specs.Answer.{◌>>=◌}
use Rattle.alias_hir.specs.declared.env.Unit.{Unit as HirUnit}
use Rattle.alias_rules.specs.Functions.{rules_hold}
use Rattle.alias_effects.specs.declared.solved.Solved.{Solved}
use Rattle.alias_certificate.specs.declared.fault.CheckFault.{CheckFault}
use Rattle.alias_cert_text.specs.Certificates.{certificate_of_text}
use Rattle.alias_follow.specs.Units.{UnitFollowing, unit_followed}
use Rattle.alias_brief.specs.Fitting.{IsFittingText}
use Rattle.alias_brief.specs.Saying.{said}
use Rattle.alias_brief.specs.Verifying.{text_followed, brief_of, verified}
use Rattle.alias_brief_text_laws.specs.Reading.{BriefsReadBack}
use Rattle.alias_brief_text_laws.specs.Telling.{told}
use Rattle.alias_brief_laws.specs.Accepted.{AreStatesProper, functions_in, ReadsAsTold}
use Rattle.alias_brief_laws.proofs.Accepted.{briefs_are_accepted}
use Rattle.alias_brief_laws.proofs.One.{ok_same}

module _ (solved : List Solved) (u : HirUnit) (text : List ℕ) (fits : IsFittingText solved u text) where
  is_brief : brief_of solved u ≡ Ok text
  is_brief = ap (λ (r : Result UnitFollowing CheckFault). r >>= text_followed) fits.1 ∙ ap Ok (sym fits.2)

  reads_as_told : BriefsReadBack → IsUtf8 text → ReadsAsTold solved u text
  reads_as_told back utf8 =
      let first : certificate_of_text text ≡ Ok (told fits.0.followed) =
      ap certificate_of_text fits.2 ∙ back (said solved) u fits.0 fits.1 fits.3 (subst IsUtf8 fits.2 utf8) in
      λ x is. subst (λ (y : UnitFollowing). certificate_of_text text ≡ Ok (told y.followed))
      (ok_same fits.0 x (sym fits.1 ∙ is)) first

  pub printed_accepted : rules_hold u ≡ Ok tt → AreStatesProper solved → BriefsReadBack → IsUtf8 text
      → verified text u ≡ Ok (functions_in u)
  printed_accepted rules states back utf8 =
      briefs_are_accepted solved u text rules states is_brief (reads_as_told back utf8)
