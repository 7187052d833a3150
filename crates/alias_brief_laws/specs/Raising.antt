-- What a state that lines raised has beyond what arrived raises that to it again.
use Rattle.std.specs.Prelude.{◌≡◌, ℕ, List, Some}
use Rattle.std.specs.List.{AllByRecursion}
use Rattle.alias_base.specs.declared.ids.FunctionId.{FunctionId}
use Rattle.alias_lattice.specs.AbstractValues.{AbstractProper}
use Rattle.alias_lattice.specs.ProperStates.{StateProper}
use Rattle.alias_lattice.specs.States.{State}
use Rattle.alias_certificate.specs.declared.beyond.Beyond.{Beyond}
use Rattle.alias_certificate.specs.declared.certificate.CertBlock.{CertBlock}
use Rattle.alias_certificate.specs.declared.certificate.CertValue.{CertValue}
use Rattle.alias_certificate.specs.states.Beyond.{beyond_of}
use Rattle.alias_certificate.specs.states.Raised.{raised_state}

-- the line says exactly what is beyond
pub record SaysBeyond (c : CertBlock) (b : Beyond) : Type 0 where
  pub values : c.values ≡ b.values
  pub variables : c.variables ≡ b.variables

-- each value of the line is a kind with a set of reasons
abbrev pub AreValuesProper : List CertValue → Type 0
AreValuesProper vs = AllByRecursion (λ (v : CertValue). AbstractProper v.value) vs

-- whatever line raised what arrives: one that says what came of it beyond what arrives raises it to the same
abbrev pub RaisesAgain : Type 0
RaisesAgain =
    (identifiers : ℕ) (created : List FunctionId) (line again : CertBlock) (arrives s : State)
    → AreValuesProper line.values → StateProper arrives → raised_state identifiers created line arrives ≡ Some s
    → SaysBeyond again (beyond_of s arrives) → raised_state identifiers created again arrives ≡ Some s
