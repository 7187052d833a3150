-- The state that a block is entered with: what arrives, raised by the block's lines.
use Rattle.std.specs.Prelude.{ℕ, Bool, true, false, ◌&&◌, if◌then◌else◌, List, [], ◌∷◌, Option, Some, None, option_map}
use Rattle.std.specs.Prelude.{slice_index_or}
use Rattle.alias_base.specs.declared.ids.FunctionId.{FunctionId}
use Rattle.alias_lattice.specs.States.{State}
use Rattle.alias_certificate.specs.declared.certificate.CertBlock.{CertBlock}
use Rattle.alias_certificate.specs.states.Raised.{raised_state}
use Rattle.alias_certificate.specs.declared.beyond.Beyond.{Beyond}
use Rattle.alias_certificate.specs.states.Beyond.{beyond_of, nothing_beyond}
use Rattle.alias_follow.specs.declared.lines.entering.BlockLines.{BlockLines}
use Rattle.alias_follow.specs.lines.First.{line_at}

abbrev pub none_of : {A : Type 0} → List A → Bool
none_of [] = true
none_of (x ∷ xs) = false

-- it has no lines for the state
abbrev pub is_bare : CertBlock → Bool
is_bare c = none_of c.values && none_of c.variables

-- what arrives, raised by what is said of the block, with what it has beyond what arrives; None where that names what
-- isn't there
abbrev pub entered_by : ℕ → List FunctionId → Option CertBlock → State → Option (State × Beyond)
entered_by identifiers created None x = Some (x, nothing_beyond)
entered_by identifiers created (Some c) x = if is_bare c then Some (x, nothing_beyond)
    else option_map (λ s. (s, beyond_of s x)) (raised_state identifiers created c x)

-- the state that the block at a position is entered with, whose line has this number
abbrev pub entering_by : ℕ → List FunctionId → List CertBlock → List (Option ℕ) → ℕ → State → Option (State × Beyond)
entering_by identifiers created lines numbers b x =
    entered_by identifiers created (line_at lines (slice_index_or numbers b None)) x

-- by what is said of the blocks: where nothing is, what arrives
abbrev pub entering_of : Option BlockLines → ℕ → State → Option (State × Beyond)
entering_of None = λ b x. Some (x, nothing_beyond)
entering_of (Some lines) = entering_by lines.identifiers lines.created lines.blocks.now lines.numbers.items
