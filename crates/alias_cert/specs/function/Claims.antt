-- How the step of a block differs from what a certificate says of it.
use Rattle.std.specs.Prelude.{ℕ, nat_lt, Bool, true, false, if◌then◌else◌, List, length, Option, Some, None}
use Rattle.std.specs.Prelude.{option_and_then, slice_get, slice_index_or}
use Rattle.std.specs.Option.{option_map_or}
use Rattle.alias_step.specs.declared.block.recorded.BlockEffects.{BlockEffects}
use Rattle.alias_tables.specs.Tables.{TableLists}
use Rattle.alias_certificate.specs.declared.certificate.CertBlock.{CertBlock}
use Rattle.alias_cert.specs.effects.Telling.{is_claimed}
use Rattle.alias_cert.specs.declared.function.claims.Difference.{Difference}
use Rattle.alias_cert.specs.declared.function.claims.Difference.TheVariants.{MissingTemporary, Effects}

-- the line of the block, if it has one, tells the effects
abbrev pub is_claimed_at : List CertBlock → BlockEffects → Option ℕ → Bool
is_claimed_at lines r None = false
is_claimed_at lines r (Some n) = option_map_or (is_claimed r) (slice_get lines n) false

-- the step made more temporaries than are said, or recorded other effects than are claimed
abbrev pub differs : List CertBlock → List (Option ℕ) → ℕ → TableLists → ℕ → BlockEffects → Option Difference
differs lines numbers temporaries t b r =
    if nat_lt temporaries (length t.temporaries)
    then Some MissingTemporary
    else (if is_claimed_at lines r (slice_index_or numbers b None) then None else Some Effects)

-- the same of what is recorded of the block, if anything is
abbrev pub found_of : List CertBlock → List (Option ℕ) → ℕ → TableLists → ℕ → Option BlockEffects → Option Difference
found_of lines numbers temporaries t b o = option_and_then (differs lines numbers temporaries t b) o
