-- What the names of a signature stand for in a call.
use Rattle.std.specs.Prelude.{ℕ, ◌+◌, slice_get, Bool, true, false, ◌&&◌, ◌==◌, not, List, [], ◌∷◌, ◌++◌, Option, Some}
use Rattle.std.specs.Prelude.{None, if◌then◌else◌}
use Rattle.std.specs.List.{list_any}
use Rattle.alias_base.specs.declared.ids.IdentifierId.{IdentifierId}
use Rattle.alias_hir.specs.declared.place.Place.{Place}
use Rattle.alias_hir.specs.declared.place.PlaceOrSpreadOrHole.{PlaceOrSpreadOrHole}
use Rattle.alias_hir.specs.declared.place.PlaceOrSpreadOrHole.TheVariants as arg
use Rattle.alias_hir.specs.declared.env.Environment.{Environment}
use Rattle.alias_hir.specs.Types.{is_builtin_collection_at}

module _ {K : Type 0} (same : K → K → Bool) where
  abbrev pub is_rest : K → Option K → Bool
  is_rest k None = false
  is_rest k (Some r) = same r k

  -- a further argument is appended to what the rest stands for
  abbrev pub with_further : K → Option K → Place → List Place → List Place
  with_further k rest p so_far = if is_rest k rest then so_far ++ p ∷ [] else so_far

  -- a plain argument stands for the parameter of its place, or else is a further one
  abbrev pub with_plain : K → Option K → Option K → Place → List Place → List Place
  with_plain k None rest p so_far = with_further k rest p so_far
  with_plain k (Some x) rest p so_far = if same x k then p ∷ [] else so_far

  -- what the name stands for after one argument more
  abbrev pub with_argument : K → Option K → Option K → PlaceOrSpreadOrHole → List Place → List Place
  with_argument k param rest (arg.Place p) so_far = with_plain k param rest p so_far
  with_argument k param rest (arg.Spread s) so_far = with_further k rest s.place so_far
  with_argument k param rest arg.Hole so_far = so_far

  -- what the name stands for after all arguments, of which the first is number i
  abbrev pub substituted_arguments : K → List K → Option K → List PlaceOrSpreadOrHole → ℕ → List Place → List Place
  substituted_arguments k params rest [] i so_far = so_far
  substituted_arguments k params rest (a ∷ others) i so_far =
      substituted_arguments k params rest others (i + 1) (with_argument k (slice_get params i) rest a so_far)

-- the argument needs a rest: it is spread, or there is no parameter for it
abbrev pub is_further : {K : Type 0} → Option K → PlaceOrSpreadOrHole → Bool
is_further param arg.Hole = false
is_further param (arg.Spread s) = true
is_further None (arg.Place p) = true
is_further (Some x) (arg.Place p) = false

-- some argument needs a rest, where the first is number i
abbrev pub has_further : {K : Type 0} → List K → List PlaceOrSpreadOrHole → ℕ → Bool
has_further params [] i = false
has_further params (a ∷ others) i = if is_further (slice_get params i) a then true
    else has_further params others (i + 1)

-- a spread of the identifier that isn't an array, a set or a map
abbrev pub is_bad_spread_of : Environment → IdentifierId → PlaceOrSpreadOrHole → Bool
is_bad_spread_of env x (arg.Spread s) = (s.place.identifier.0 == x.0) && not (is_builtin_collection_at env x)
is_bad_spread_of env x a = false

abbrev pub is_bad_spread : Environment → List PlaceOrSpreadOrHole → IdentifierId → Bool
is_bad_spread env args x = list_any (is_bad_spread_of env x) args

-- the first of the places whose identifier is spread so
abbrev pub first_bad : Environment → List PlaceOrSpreadOrHole → List Place → Option Place
first_bad env args [] = None
first_bad env args (p ∷ ps) = if is_bad_spread env args p.identifier then Some p else first_bad env args ps

-- the first place, if there is one
abbrev pub first_of : List Place → Option Place
first_of [] = None
first_of (p ∷ ps) = Some p
