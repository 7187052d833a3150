-- What is said of the functions of a unit that was inferred.
use Rattle.std.specs.Prelude.{List, [], ◌∷◌}
use Rattle.std.specs.List.{AllByRecursion}
use Rattle.alias_nested.specs.Analysis.{Analysed, SolvesItsFlow}
use Rattle.alias_effects_laws.specs.writes.Solutions.{TellsWrites, solutions_tell}

-- the definite writes of a function of what isn't to be written stand as error effects
abbrev pub TellsItsWrites : Analysed → Type 0
TellsItsWrites x = TellsWrites x.env x.func x.is_function_expression x.solved

pub solved_tell : (fs : List Analysed) → AllByRecursion SolvesItsFlow fs → AllByRecursion TellsItsWrites fs
solved_tell [] h = tt
solved_tell (x ∷ xs) h = (solutions_tell x.env x.func x.is_function_expression x.solved h.0, solved_tell xs h.1)
