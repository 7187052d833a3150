-- Temporaries that a host keeps from call to call, beside the environment that has their identifiers.
use Rattle.std.specs.Prelude.{◌≡◌, false, List, [], ◌∷◌, ◌++◌, Option, Some, None, Result, Ok, Err}
use Rattle.alias_base.specs.declared.ids.IdentifierId.{IdentifierId}
use Rattle.alias_hir.specs.declared.env.Environment.{Environment}
use Rattle.alias_hir.specs.declared.error.HirError.{HirError}
use Rattle.alias_hir.specs.declared.place.Effect.TheVariants.{Unknown}
use Rattle.alias_hir.specs.declared.place.Place.{Place}
use Rattle.alias_hir.specs.declared.place.Span.{Span}
use Rattle.alias_hir.specs.Tables.{next_identifier, with_identifier}
use Rattle.alias_tables.specs.declared.temp_key.TempKey.{TempKey}
use Rattle.alias_tables.specs.declared.temporaries.Temporary.{Temporary}
use Rattle.alias_tables.specs.GrowingLaws.{Grows}
use Rattle.alias_tables.specs.Temporaries.{temp_like, temporary_of}
use Rattle.alias_call_effects.specs.declared.error.SignatureError.{SignatureError}
use Rattle.alias_call_effects.specs.Answers.{number_error}

-- the environment, and the temporaries that the host keeps
pub record Kept : Type 0 where
  pub env : Environment
  pub temporaries : List Temporary

abbrev pub kept : Environment → List Temporary → Kept
kept env temporaries = record { env = env; temporaries = temporaries }

-- what a step gives over them, and what it leaves, or why it is refused
abbrev pub HostStep : Type 0 → Type 0
HostStep A = Kept → Result (A × Kept) SignatureError

-- a new identifier of the environment, with this span
abbrev pub numbered : Option Span → Result IdentifierId HirError → Environment
    → Result (IdentifierId × Environment) SignatureError
numbered span (Ok x) env = Ok (x, with_identifier span env)
numbered span (Err e) env = Err (number_error e)

-- the place of an identifier, with this span
abbrev pub place_of : IdentifierId → Option Span → Place
place_of x span = record { identifier = x; effect = Unknown; reactive = false; span = span }

abbrev pub new_temporary : Result (IdentifierId × Environment) SignatureError → TempKey → Option Span → List Temporary
    → Result (Place × Kept) SignatureError
new_temporary (Ok p) key span ts = Ok (place_of p.0 span, kept p.1 (ts ++ temporary_of key (place_of p.0 span) ∷ []))
new_temporary (Err e) key span ts = Err e

abbrev pub temporary_or : Option Temporary → TempKey → Option Span → HostStep Place
temporary_or (Some t) key span k = Ok (t.place, k)
temporary_or None key span k = new_temporary (numbered span (next_identifier k.env) k.env) key span k.temporaries

-- the place of the key's temporary: that of a new identifier, both with this span, where there is none
abbrev pub temporary_at : TempKey → Option Span → HostStep Place
temporary_at key span k = temporary_or (temp_like key k.temporaries) key span k

-- identifiers, types, interned reports and temporaries have more behind their ends, and all else is the same
pub record HasGrown (k l : Kept) : Type 0 where
  pub identifiers : Grows k.env.identifiers l.env.identifiers
  pub types : Grows k.env.types l.env.types
  pub reports : Grows k.env.interned l.env.interned
  pub temporaries : Grows k.temporaries l.temporaries
  pub others : record k.env { identifiers = l.env.identifiers; types = l.env.types; interned = l.env.interned } ≡ l.env
