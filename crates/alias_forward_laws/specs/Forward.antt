-- Of a unit whose functions are all forward one text alone is accepted: that of what is inferred of it.
use Rattle.std.specs.Prelude.{◌≡◌, ℕ, List, Ok, length}
use Rattle.alias_hir.specs.declared.env.Unit.{Unit as HirUnit}
use Rattle.alias_rules.specs.Functions.{rules_hold}
use Rattle.alias_nested.specs.Analysis.{Analysed}
use Rattle.alias_nested.specs.Units.{UnitAnalysis, unit_analysed}
use Rattle.alias_nested.specs.declared.infer.Inferred.{Inferred}
use Rattle.alias_text.specs.Results.{result_text}
use Rattle.alias_text.specs.declared.detail.Detail.TheVariants.{Infer}
use Rattle.alias_certificate.specs.declared.certificate.CertFunction.{CertFunction}
use Rattle.alias_certificate.specs.declared.certificate.Certificate.{Certificate}
use Rattle.alias_cert_text.specs.Certificates.{certificate_of_text}
use Rattle.alias_follow.specs.Units.{UnitFollowing, unit_followed}
use Rattle.alias_unit_completeness.specs.Refusals.{IsForwardUnit}
use Rattle.alias_brief.specs.Briefs.{brief_text}
use Rattle.alias_brief.specs.Verifying.{verified}

-- the text that is printed of what is inferred
abbrev pub inferred_text : Inferred → List ℕ
inferred_text i = result_text Infer i.unit i.solved i.summary i.reports

-- ---- what is accepted

-- the text is the one that is printed of what is inferred of the unit
abbrev pub IsInferredText : HirUnit → List ℕ → Type 0
IsInferredText u text =
    (fs : List Analysed) × (i : Inferred) × (unit_analysed u ≡ Ok (record { functions = fs; inferred = i }))
    × (text ≡ inferred_text i)

-- what is accepted of a forward unit is what is printed of it
abbrev pub ForwardTextsAreInferred : Type 0
ForwardTextsAreInferred = (u : HirUnit) (text : List ℕ) (count : ℕ) → rules_hold u ≡ Ok tt → IsForwardUnit u
    → verified text u ≡ Ok count → IsInferredText u text

-- ---- what is inferred

-- from what is given the same follows for the unit as is inferred of it, and is printed alike
abbrev pub IsFollowedAs : List CertFunction → HirUnit → UnitAnalysis → Type 0
IsFollowedAs given u a =
    (x : UnitFollowing) × (unit_followed given u ≡ Ok x) × (x.followed.inferred ≡ a.inferred)
    × (brief_text x.followed ≡ inferred_text a.inferred)

-- whatever is given, what is inferred of a forward unit follows for it
abbrev pub ForwardUnitsFollow : Type 0
ForwardUnitsFollow = (given : List CertFunction) (u : HirUnit) (a : UnitAnalysis) → rules_hold u ≡ Ok tt
    → IsForwardUnit u → unit_analysed u ≡ Ok a → IsFollowedAs given u a

-- what follows for a forward unit, or the first fault, is the same from whatever is given
abbrev pub ForwardUnitsAreAlike : Type 0
ForwardUnitsAreAlike = (given other : List CertFunction) (u : HirUnit) → rules_hold u ≡ Ok tt → IsForwardUnit u
    → unit_followed given u ≡ unit_followed other u

-- so the text that is printed of a forward unit is accepted, where it reads as a certificate, whatever that says
abbrev pub InferredTextsAreAccepted : Type 0
InferredTextsAreAccepted = (u : HirUnit) (a : UnitAnalysis) (c : Certificate) → rules_hold u ≡ Ok tt
    → IsForwardUnit u → unit_analysed u ≡ Ok a → certificate_of_text (inferred_text a.inferred) ≡ Ok c
    → verified (inferred_text a.inferred) u ≡ Ok (length a.inferred.solved)
