-- What is known of a text that is the one of what follows.
use Rattle.std.specs.Prelude.{◌≡◌, ℕ, List, Result, Ok, Err, IsUtf8}
use Rattle.alias_hir.specs.declared.env.Unit.{Unit as HirUnit}
use Rattle.alias_certificate.specs.declared.certificate.CertFunction.{CertFunction}
use Rattle.alias_follow.specs.Units.{UnitFollowing, unit_followed}
use Rattle.alias_follow.specs.declared.unit.Followed.{Followed}
use Rattle.alias_brief.specs.Briefs.{brief_text}
use Rattle.alias_brief.specs.Fitting.{IsFitting}
use Rattle.alias_brief.specs.declared.calls.VerifyFault.{VerifyFault}

-- the bytes are the text of what follows, and that fits
pub record IsPrinted (x : Followed) (text : List ℕ) : Type 0 where
  pub same : brief_text x ≡ text
  pub fits : IsFitting x
  pub utf8 : IsUtf8 (brief_text x)

-- so are they for what follows for the unit from what is given
abbrev pub IsPrintedFor : List CertFunction → HirUnit → List ℕ → Type 0
IsPrintedFor given u text = (x : UnitFollowing) × (unit_followed given u ≡ Ok x) × IsPrinted x.followed text

-- ---- where a text is accepted

abbrev pub PrintsIfOk : Followed → List ℕ → Result ℕ VerifyFault → Type 0
PrintsIfOk x text (Ok count) = IsPrinted x text
PrintsIfOk x text (Err e) = Unit {0}

abbrev pub PrintsForIfOk : List CertFunction → HirUnit → List ℕ → Result ℕ VerifyFault → Type 0
PrintsForIfOk given u text (Ok count) = IsPrintedFor given u text
PrintsForIfOk given u text (Err e) = Unit {0}
