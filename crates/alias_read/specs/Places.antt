-- The places that JSON data spell, and what may stand where a place may.
use Rattle.std.specs.Prelude.{ℕ, false, [], ◌∷◌, Option, Some, None, Ok, codes, if◌then◌else◌}
use Rattle.alias_base.specs.Answer.{◌>>=◌}
use Rattle.alias_hir.specs.declared.place.Span.{Span}
use Rattle.alias_hir.specs.declared.place.Place.{Place}
use Rattle.alias_hir.specs.declared.place.Effect.TheVariants as effect
use Rattle.alias_hir.specs.declared.place.SpreadPattern.{SpreadPattern}
use Rattle.alias_hir.specs.declared.place.PlaceOrSpread.{PlaceOrSpread}
use Rattle.alias_hir.specs.declared.place.PlaceOrSpread.TheVariants as argument
use Rattle.alias_hir.specs.declared.hir.ParamPattern.{ParamPattern}
use Rattle.alias_hir.specs.declared.hir.ParamPattern.TheVariants as param
use Rattle.alias_json.specs.Reading.{Reads, number_at, object_at, known_keys, array_of, is_array, is_object}
use Rattle.alias_read.specs.Json.{required, element}

-- its start and its end
abbrev pub span_at : Reads Span
span_at p d = do
  _ ← array_of 2 p d
  start ← element number_at p 0 d
  end ← element number_at p 1 d
  Ok (record { start = start; end = end })

abbrev pub place_of : ℕ → Option Span → Place
place_of i span = record { identifier = record { 0 = i }; effect = effect.Unknown; reactive = false; span = span }

-- an identifier, and the start and the end of a span
abbrev pub spanned_at : Reads Place
spanned_at p d = do
  _ ← array_of 3 p d
  identifier ← element number_at p 0 d
  start ← element number_at p 1 d
  end ← element number_at p 2 d
  Ok (place_of identifier (Some (record { start = start; end = end })))

abbrev pub unspanned_at : Reads Place
unspanned_at p d = number_at p d >>= (λ identifier. Ok (place_of identifier None))

abbrev pub place_at : Reads Place
place_at p d = if is_array d then spanned_at p d else unspanned_at p d

abbrev pub spread_at : Reads SpreadPattern
spread_at p d = do
  _ ← object_at p d
  place ← required place_at p (codes "spread") d
  _ ← known_keys (codes "spread" ∷ []) p d
  Ok (record { place = place })

-- a place, or an object that has one as its spread
abbrev pub place_or_spread : {A : Type 0} → (Place → A) → (SpreadPattern → A) → Reads A
place_or_spread of_place of_spread p d =
    if is_object d then (spread_at p d >>= (λ spread. Ok (of_spread spread)))
    else (place_at p d >>= (λ place. Ok (of_place place)))

abbrev pub argument_at : Reads PlaceOrSpread
argument_at = place_or_spread argument.Place argument.Spread

abbrev pub param_at : Reads ParamPattern
param_at = place_or_spread param.Place param.Spread
