-- What the names of an aliasing part stand for beside its arguments.
use Rattle.std.specs.Prelude.{ℕ, List, [], ◌∷◌, ◌++◌, Option, Some, None, slice_get, codes}
use Rattle.alias_hir.specs.Reports.{name_text}
use Rattle.alias_hir.specs.declared.env.Environment.{Environment}
use Rattle.alias_hir.specs.declared.env.Identifier.{Identifier}
use Rattle.alias_hir.specs.declared.env.IdentifierName.{IdentifierName}
use Rattle.alias_hir.specs.declared.place.Place.{Place}
use Rattle.alias_hir.specs.declared.place.PlaceOrSpreadOrHole.{PlaceOrSpreadOrHole}
use Rattle.alias_hir.specs.declared.signature.AliasingSignatureConfig.{AliasingSignatureConfig}
use Rattle.alias_calls.specs.declared.call.CallSite.{CallSite}
use Rattle.alias_calls.specs.Calls.{ConfigCall}
use Rattle.alias_calls.specs.Configs.{config_call}
use Rattle.alias_call_effects.specs.declared.named.NamedPlaces.{NamedPlaces}

-- ---- names, each with its place

abbrev pub nothing_named : NamedPlaces
nothing_named = record { names = []; places = [] }

-- one name more
abbrev pub with_named : List ℕ → Place → NamedPlaces → NamedPlaces
with_named name p ns = record { names = ns.names ++ name ∷ []; places = ns.places ++ p ∷ [] }

-- the first, and behind them the second
abbrev pub both_named : NamedPlaces → NamedPlaces → NamedPlaces
both_named ns more = record { names = ns.names ++ more.names; places = ns.places ++ more.places }

-- ---- context places

abbrev pub context_name : Option IdentifierName → Place → NamedPlaces
context_name None p = nothing_named
context_name (Some n) p = with_named (codes "@" ++ name_text n) p nothing_named

abbrev pub known_name : Option Identifier → Option IdentifierName
known_name None = None
known_name (Some i) = i.name

-- a context place has the name of its identifier behind an @, if there is one
abbrev pub context_named : Environment → Place → NamedPlaces
context_named env p = context_name (known_name (slice_get env.identifiers p.identifier.0)) p

-- the context places that have a name, the last first: of two with one name the later one is meant
abbrev pub contexts_named : Environment → List Place → NamedPlaces
contexts_named env [] = nothing_named
contexts_named env (p ∷ ps) = both_named (contexts_named env ps) (context_named env p)

-- ---- calls

-- the call in which these names stand for these places, the first of a name before the others, and before the arguments
abbrev pub part_call : AliasingSignatureConfig → CallSite → List PlaceOrSpreadOrHole → NamedPlaces → ConfigCall
part_call config site args ns = config_call (record config { temporaries = ns.names }) site args ns.places
