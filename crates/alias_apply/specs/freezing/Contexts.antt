-- The context places of nested functions.
use Rattle.std.specs.Prelude.{List, [], Option, None, Some, slice_get}
use Rattle.alias_base.specs.declared.ids.FunctionId.{FunctionId}
use Rattle.alias_hir.specs.declared.env.Environment.{Environment}
use Rattle.alias_hir.specs.declared.hir.HirFunction.{HirFunction}
use Rattle.alias_hir.specs.declared.place.Place.{Place}

abbrev pub context_in : Option HirFunction → List Place
context_in None = []
context_in (Some f) = f.context

-- the places that a nested function takes from around it; none where its number is past the end of the table
abbrev pub context_of : Environment → FunctionId → List Place
context_of env f = context_in (slice_get env.functions f.0)
