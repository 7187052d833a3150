-- The slots of nested functions.
use Rattle.std.specs.Prelude.{slice_set}
use Rattle.alias_base.specs.declared.ids.FunctionId.{FunctionId}
use Rattle.alias_hir.specs.declared.env.Environment.{Environment}
use Rattle.alias_hir.specs.declared.hir.HirFunction.{HirFunction}

-- the environment with another function in the slot of the number
abbrev pub with_function : FunctionId → HirFunction → Environment → Environment
with_function id g env = record env { functions = slice_set env.functions id.0 g }
