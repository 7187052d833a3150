-- What follows for a unit follows again from what is told of it, and its text is accepted by `verify`.
use Rattle.std.specs.Prelude.{◌≡◌, ℕ, ◌+◌, List, length, Ok}
use Rattle.std.specs.List.{AllByRecursion}
use Rattle.alias_hir.specs.declared.env.Unit.{Unit as HirUnit}
use Rattle.alias_rules.specs.Functions.{rules_hold}
use Rattle.alias_lattice.specs.ProperStates.{StateProper}
use Rattle.alias_effects.specs.declared.solved.BlockEntry.{BlockEntry}
use Rattle.alias_effects.specs.declared.solved.Solved.{Solved}
use Rattle.alias_answer_laws.specs.order.Order.{nested_innermost_first}
use Rattle.alias_cert_text.specs.Certificates.{certificate_of_text}
use Rattle.alias_certificate.specs.declared.certificate.CertFunction.{CertFunction}
use Rattle.alias_follow.specs.Units.{UnitFollowing, unit_followed}
use Rattle.alias_follow.specs.lines.Known.{AreLinesKnown}
use Rattle.alias_brief.specs.Saying.{said}
use Rattle.alias_brief.specs.Verifying.{brief_of, verified}
use Rattle.alias_brief_text_laws.specs.Telling.{told}

-- the values that are given of entry states are kinds with sets of reasons
abbrev pub AreGivenKnown : List CertFunction → Type 0
AreGivenKnown given = AllByRecursion (λ (c : CertFunction). AreLinesKnown c.blocks) given

abbrev pub AreEntriesProper : List BlockEntry → Type 0
AreEntriesProper es = AllByRecursion (λ (e : BlockEntry). StateProper e.state) es

-- each entry state that the solutions have is proper
abbrev pub AreStatesProper : List Solved → Type 0
AreStatesProper solved = AllByRecursion (λ (s : Solved). AreEntriesProper s.entries) solved

-- whatever was given of a unit's functions: what is told of what follows comes to just that again
abbrev pub BriefsAreFollowed : Type 0
BriefsAreFollowed =
    (given : List CertFunction) (u : HirUnit) (x : UnitFollowing) → rules_hold u ≡ Ok tt → AreGivenKnown given
    → unit_followed given u ≡ Ok x → unit_followed (told x.followed).functions u ≡ Ok x

-- how many functions a unit has: those below the root, and the root
abbrev pub functions_in : HirUnit → ℕ
functions_in u = length (nested_innermost_first u) + 1

-- the text reads as what is told of what follows for the unit from what solutions say of its functions
abbrev pub ReadsAsTold : List Solved → HirUnit → List ℕ → Type 0
ReadsAsTold solved u text = (x : UnitFollowing) → unit_followed (said solved) u ≡ Ok x
    → certificate_of_text text ≡ Ok (told x.followed)

-- what `brief` prints of a unit is accepted by `verify`, where it reads as what it tells
abbrev pub BriefsAreAccepted : Type 0
BriefsAreAccepted =
    (solved : List Solved) (u : HirUnit) (text : List ℕ) → rules_hold u ≡ Ok tt → AreStatesProper solved
    → brief_of solved u ≡ Ok text → ReadsAsTold solved u text → verified text u ≡ Ok (functions_in u)
