-- The entry states that a certificate says of a function, one for each block or none.
use Rattle.std.specs.Prelude.{ℕ, List, [], ◌∷◌, ◌++◌, Option, Some, None, Result, Ok, Err, slice_get}
use Rattle.alias_base.specs.Answer.{◌>>=◌}
use Rattle.alias_base.specs.declared.ids.BlockId.{BlockId}
use Rattle.alias_base.specs.declared.ids.FunctionId.{FunctionId}
use Rattle.alias_lattice.specs.States.{State}
use Rattle.alias_certificate.specs.declared.certificate.CertBlock.{CertBlock}
use Rattle.alias_certificate.specs.states.States.{stated_state}
use Rattle.alias_certificate.specs.declared.fault.CheckFault.{CheckFault}
use Rattle.alias_certificate.specs.declared.fault.CheckFault.TheVariants as fault

module _ (function : Option FunctionId) (identifiers : ℕ) (created : List FunctionId) (lines : List CertBlock) where
  abbrev pub state_or_fault : BlockId → Option State → Result (Option State) CheckFault
  state_or_fault b None = Err (fault.State function b)
  state_or_fault b (Some s) = Ok (Some s)

  -- the state that the line says, or the fault where it names what isn't there
  abbrev pub line_state : Option CertBlock → Result (Option State) CheckFault
  line_state None = Ok None
  line_state (Some c) = state_or_fault c.block (stated_state identifiers created c)

  abbrev pub entry_stated : Option ℕ → Result (Option State) CheckFault
  entry_stated None = Ok None
  entry_stated (Some n) = line_state (slice_get lines n)

  -- behind those that are done, the entry states of the blocks that have these lines
  abbrev pub entries_stated : List (Option State) → List (Option ℕ) → Result (List (Option State)) CheckFault
  entries_stated done [] = Ok done
  entries_stated done (n ∷ ns) = entry_stated n >>= (λ e. entries_stated (done ++ e ∷ []) ns)
