-- The temporaries that a certificate says of a function.
use Rattle.std.specs.Prelude.{ℕ, ◌+◌, nat_lt, Bool, ◌&&◌, ◌==◌, if◌then◌else◌, List, [], ◌∷◌, length, Option, None}
use Rattle.std.specs.Prelude.{Result, Ok, Err}
use Rattle.alias_base.specs.Answer.{◌>>=◌}
use Rattle.alias_base.specs.declared.ids.FunctionId.{FunctionId}
use Rattle.alias_hir.specs.declared.env.Environment.{Environment}
use Rattle.alias_hir.specs.declared.place.Place.{Place}
use Rattle.alias_tables.specs.declared.faults.Refusal.{Refusal}
use Rattle.alias_tables.specs.declared.faults.Refusal.TheVariants as refused
use Rattle.alias_tables.specs.declared.temp_key.TempKey.{TempKey}
use Rattle.alias_tables.specs.declared.temp_key.TempKey.TheVariants.{Named, Rest}
use Rattle.alias_tables.specs.Tables.{TableLists, temporary}
use Rattle.alias_certificate.specs.declared.certificate.CertTemporary.{CertTemporary}
use Rattle.alias_certificate.specs.declared.fault.CheckFault.{CheckFault}
use Rattle.alias_certificate.specs.declared.fault.CheckFault.TheVariants as fault

-- what the key names is in its table
abbrev pub is_key_there : ℕ → ℕ → TempKey → Bool
is_key_there identifiers functions (Named x name) = nat_lt x.0 identifiers
is_key_there identifiers functions (Rest f) = nat_lt f.0 functions

module _ (function : Option FunctionId) (env : Environment) where
  -- the number that the next temporary gets
  abbrev pub next_number : TableLists → ℕ
  next_number t = length env.identifiers + length t.temporaries

  -- a place that is another's is that of a key that was there
  abbrev pub given : ℕ → Result (Place × TableLists) Refusal → Result TableLists CheckFault
  given n (Ok r) = if r.0.identifier.0 == n then Ok r.1 else Err (fault.Temporaries function)
  given n (Err (refused.TooMany which)) = Err (fault.TooMany which)
  given n (Err e) = Err (fault.Temporaries function)

  -- the temporary has the next new number, and a key that names what is there and isn't another's
  abbrev pub temporary_stated : CertTemporary → TableLists → Result TableLists CheckFault
  temporary_stated c t =
      if is_key_there (next_number t) (length env.functions) c.key && c.identifier.0 == next_number t
      then given c.identifier.0 (temporary env c.key None t)
      else Err (fault.Temporaries function)

  -- the tables with all of them, or the fault
  abbrev pub temporaries_stated : List CertTemporary → TableLists → Result TableLists CheckFault
  temporaries_stated [] t = Ok t
  temporaries_stated (c ∷ cs) t = temporary_stated c t >>= temporaries_stated cs
