-- What stands in the slot of a function that is out of it.
use Rattle.std.specs.Prelude.{false, [], None}
use Rattle.alias_hir.specs.declared.hir.FunctionType.TheVariants.{Other}
use Rattle.alias_hir.specs.declared.hir.HirFunction.{HirFunction}
use Rattle.alias_hir.specs.declared.place.Place.{Place}

-- the function that stands in a slot whose own is out: it has no parameters, no context and no blocks
abbrev pub emptied : Place → HirFunction
emptied returns = record {
  fn_type = Other;
  params = [];
  context = [];
  context_values = [];
  returns = returns;
  body = record { entry = record { 0 = 0 }; blocks = [] };
  instructions = [];
  is_async = false;
  span = None;
  aliasing_effects = None;
}
