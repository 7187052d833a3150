-- What solves the flow of a function does so under any name.
use Rattle.std.specs.Prelude.{Bool, Option}
use Rattle.alias_base.specs.declared.ids.FunctionId.{FunctionId}
use Rattle.alias_effects.specs.Solutions.{IsSolvedUnder}
use Rattle.alias_effects.specs.declared.solved.Solved.{Solved}
use Rattle.alias_hir.specs.declared.env.Environment.{Environment}
use Rattle.alias_hir.specs.declared.hir.HirFunction.{HirFunction}
use Rattle.alias_tables.specs.Tables.{TableLists}

pub solves_as : (env : Environment) (f : HirFunction) (b : Bool) (t : TableLists) (id : Option FunctionId) (s : Solved)
    → IsSolvedUnder env f b t s → IsSolvedUnder env f b t (record s { function = id })
solves_as env f b t id s h = record {
  in_order = h.in_order;
  solution = h.solution;
  first = h.first;
  temporaries = h.temporaries;
  effects = h.effects;
  terminal_effects = h.terminal_effects;
  joins = h.joins;
}
