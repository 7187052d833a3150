-- Entry states that are handed out.
use Rattle.std.specs.Prelude.{◌≡◌, ℕ, List, Some, slice_get}
use Rattle.alias_lattice.specs.ProperStates.{StateProper}
use Rattle.alias_effects.specs.declared.solved.BlockEntry.{BlockEntry}

-- all of them are proper
abbrev pub AreKnown : List BlockEntry → Type 0
AreKnown es = (i : ℕ) (e : BlockEntry) → slice_get es i ≡ Some e → StateProper e.state
