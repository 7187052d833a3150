-- The first place of a spread that is refused, place by place.
use Rattle.std.specs.Prelude.{ℕ, ◌+◌, false, List, Some, if◌then◌else◌}
use Rattle.std.proofs.Common.{◌≡◌, ◌<◌, length, drop, get_or, ap, sym, ◌∙◌}
use Rattle.std.proofs.lemmas.List.{at_drop_more}
use Rattle.alias_hir.specs.declared.env.Environment.{Environment}
use Rattle.alias_hir.specs.declared.place.Place.{Place}
use Rattle.alias_hir.specs.declared.place.PlaceOrSpreadOrHole.{PlaceOrSpreadOrHole}
use Rattle.alias_calls.specs.Arguments.{is_bad_spread, first_bad}

-- one place more isn't spread so
pub first_bad_more : (env : Environment) (args : List PlaceOrSpreadOrHole) (places : List Place) (i : ℕ) (d : Place) → i
    < length places → is_bad_spread env args (get_or places i d).identifier ≡ false
    → first_bad env args (drop (i + 1) places) ≡ first_bad env args (drop i places)
first_bad_more env args places i d h e =
    sym (at_drop_more (first_bad env args) places i d h
    ∙ ap (λ b. if b then Some (get_or places i d) else first_bad env args (drop (i + 1) places)) e)
