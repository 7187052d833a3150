-- The identifiers that an instruction has made.
use Rattle.std.specs.Prelude.{Bool, ◌==◌, List, [], ◌∷◌}
use Rattle.std.specs.List.{list_any}
use Rattle.alias_base.specs.declared.ids.IdentifierId.{IdentifierId}
use Rattle.alias_apply.specs.declared.made.Made.{Made}
use Rattle.alias_apply.specs.declared.made.Made.TheVariants.{Nothing, One, Many}

abbrev pub is_made : IdentifierId → List IdentifierId → Bool
is_made x made = list_any (λ (y : IdentifierId). y.0 == x.0) made

-- in the order in which they were made
abbrev pub made_in : Made → List IdentifierId
made_in Nothing = []
made_in (One x) = x ∷ []
made_in (Many set) = set.keys
