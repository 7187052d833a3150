-- Steps in order, until one ends the walk.
use Rattle.std.specs.Prelude.{List, [], ◌∷◌, Option, None, Some, Result, Ok}
use Rattle.alias_base.specs.Answer.{◌>>=◌}
use Rattle.alias_hir.specs.declared.error.InferError.{InferError}
use Rattle.alias_hir.specs.declared.place.Place.{Place}
use Rattle.alias_validate.specs.declared.outcome.WalkOutcome.{WalkOutcome}
use Rattle.alias_validate.specs.declared.outcome.WalkOutcome.TheVariants.{Continue, End}

-- the next step, unless the walk has ended
abbrev pub and_then : {S : Type 0} → (S → Result (S × WalkOutcome) InferError) → S → WalkOutcome
    → Result (S × WalkOutcome) InferError
and_then f s Continue = f s
and_then f s (End p) = Ok (s, End p)

-- a step at each of xs, until one ends the walk
abbrev pub each : {S X : Type 0} → (S → X → Result (S × WalkOutcome) InferError) → S → List X
    → Result (S × WalkOutcome) InferError
each f s [] = Ok (s, Continue)
each f s (x ∷ xs) = f s x >>= (λ r. and_then (λ t. each f t xs) r.0 r.1)

-- an answer together with what the call leaves behind
abbrev pub answered : {X Y : Type 0} → (X → Y) → Result X InferError → Result Y InferError
answered view r = r >>= (λ x. Ok (view x))

-- a walk ends with a mark that is found
abbrev pub ended : Option Place → WalkOutcome
ended None = Continue
ended (Some x) = End (Some x)

-- the place that a walk ended with
abbrev pub place_of : WalkOutcome → Option Place
place_of Continue = None
place_of (End p) = p
