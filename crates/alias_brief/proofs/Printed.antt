-- What follows for a unit from what solutions say, as text.
use Rattle.std.proofs.Common.{◌≡◌, ℕ, false, List, Result, Ok, Err, ap, sym, subst, ◌∙◌}
use Rattle.alias_base.specs.Answer.{◌>>=◌, Gives}
use Rattle.alias_hir.specs.declared.env.Unit.{Unit as HirUnit}
use Rattle.alias_effects.specs.declared.solved.Solved.{Solved}
use Rattle.alias_cert.specs.function.Faults.{is_memory as is_want}
use Rattle.alias_certificate.specs.declared.certificate.CertFunction.{CertFunction}
use Rattle.alias_certificate.specs.declared.fault.CheckFault.{CheckFault}
use Rattle.alias_follow.specs.declared.unit.Followed.{Followed}
use Rattle.alias_follow.specs.Functions.{FollowedFunction}
use Rattle.alias_follow.specs.Units.{unit_followed}
use Rattle.alias_brief.specs.Briefs.{brief_text}
use Rattle.alias_brief.specs.Fitting.{IsFitting, IsFittingText}
use Rattle.alias_brief.specs.Saying.{said}
use Rattle.alias_brief.specs.Verifying.{text_followed, brief_of}

module _ (solved : List Solved) (u : HirUnit) (functions : List CertFunction) (same : functions ≡ said solved) where
  pub brief_refused : (r : Result (List ℕ) CheckFault) (e : CheckFault) → r ≡ Err e
      → (is_want e ≡ false → unit_followed functions u ≡ Err e) → Gives is_want (brief_of solved u) r
  brief_refused r e is h = subst (λ z. Gives is_want (brief_of solved u) z) (sym is)
      (λ free. ap (λ z. z >>= text_followed) (ap (λ cs. unit_followed cs u) (sym same) ∙ h free))

  pub brief_comes : (fs : List FollowedFunction) (x : Followed) (text : List ℕ)
      → unit_followed functions u ≡ Ok (record { functions = fs; followed = x }) → text ≡ brief_text x
      → brief_of solved u ≡ Ok text
  brief_comes fs x text h is = ap (λ z. z >>= text_followed) (ap (λ cs. unit_followed cs u) (sym same) ∙ h)
      ∙ ap Ok (sym is)

  pub brief_fits : (fs : List FollowedFunction) (x : Followed) (text : List ℕ)
      → unit_followed functions u ≡ Ok (record { functions = fs; followed = x }) → text ≡ brief_text x → IsFitting x
      → IsFittingText solved u text
  brief_fits fs x text h is fits = (
    record { functions = fs; followed = x },
    ap (λ cs. unit_followed cs u) (sym same) ∙ h,
    is,
    fits,
  )
