-- An instruction with the effects of its places, and what it does to ranges and to the function that it creates.
use Rattle.std.specs.Prelude.{◌==◌, List, Option, Some, None, if◌then◌else◌, fold, map, slice_get, slice_set, length}
use Rattle.std.specs.Option.{option_map_or}
use Rattle.alias_base.specs.declared.ids.EvaluationOrder.{EvaluationOrder}
use Rattle.alias_base.specs.declared.ids.FunctionId.{FunctionId}
use Rattle.alias_base.specs.declared.ids.InstructionId.{InstructionId}
use Rattle.alias_hir.specs.Values.{created}
use Rattle.alias_hir.specs.declared.effect.AliasingEffect.{AliasingEffect}
use Rattle.alias_hir.specs.declared.env.Environment.{Environment}
use Rattle.alias_hir.specs.declared.env.Identifier.{Identifier}
use Rattle.alias_hir.specs.declared.hir.HirFunction.{HirFunction}
use Rattle.alias_hir.specs.declared.hir.Instruction.{Instruction}
use Rattle.alias_hir.specs.declared.place.Effect.TheVariants.{Read, ConditionallyMutate}
use Rattle.alias_hir.specs.declared.value.InstructionValue.{InstructionValue}
use Rattle.alias_visit.specs.Operands.{operands_of}
use Rattle.alias_range_pass.specs.places.Mapped.{map_operands, map_lvalues}
use Rattle.alias_range_pass.specs.places.Ranges.{started, all_ranged, assigned, value_stored}
use Rattle.alias_range_pass.specs.places.Tables.{Table, table_of, with_table}

-- the places get the table's effects, and where it has none ConditionallyMutate for what is assigned and Read for what
-- is read
abbrev pub value_placed : Table → InstructionValue → InstructionValue
value_placed table v = map_operands (with_table table Read) (map_lvalues (with_table table ConditionallyMutate) v)

abbrev pub places_placed : Table → Instruction → Instruction
places_placed table i = record i {
  lvalue = with_table table ConditionallyMutate i.lvalue;
  value = value_placed table i.value;
}

-- the function with the effects of its context places
abbrev pub context_placed : Table → HirFunction → HirFunction
context_placed table f = record f { context = map (with_table table Read) f.context }

-- of the function that is created
abbrev pub created_placed : Table → Option FunctionId → List HirFunction → List HirFunction
created_placed table None fs = fs
created_placed table (Some g) fs = option_map_or (λ f. slice_set fs g.0 (context_placed table f)) (slice_get fs g.0) fs

abbrev pub with_identifiers : List Identifier → Environment → Environment
with_identifiers ids env = record env { identifiers = ids }

-- operands are started, a value that is stored into a context variable lasts, and context places of a created function
-- get effects
abbrev pub surroundings : Table → EvaluationOrder → InstructionValue → Environment → Environment
surroundings table t v env = record env {
  identifiers =
      value_stored t v (all_ranged (started t) (operands_of env v) env.identifiers);
  functions = created_placed table (created v) env.functions;
}

-- the same, where the instruction has effects
abbrev pub surrounded : Option (List AliasingEffect) → Table → EvaluationOrder → InstructionValue → Environment
    → Environment
surrounded None table t v env = env
surrounded (Some es) table t v env = if length es == 0 then env else surroundings table t v env

-- the environment with the places that an instruction assigns begun
abbrev pub env_assigned : Instruction → Environment → Environment
env_assigned i env = with_identifiers (assigned i env.identifiers) env

-- the instruction and the environment, with this table
abbrev pub placed_by : Table → Instruction → Environment → Instruction × Environment
placed_by table i env = (places_placed table i, surrounded i.effects table i.id i.value env)

-- the instruction, and the environment after it
abbrev pub instruction_placed : Instruction → Environment → Instruction × Environment
instruction_placed i env = placed_by (table_of (assigned i env.identifiers) i) i (env_assigned i env)

abbrev pub placed_in : List Instruction → Environment → InstructionId → Option Instruction → List Instruction
    × Environment
placed_in is env id None = (is, env)
placed_in is env id (Some i) = (slice_set is id.0 (instruction_placed i env).0, (instruction_placed i env).1)

-- the instructions of a function and the environment, after the instruction of this number
abbrev pub instruction_at : List Instruction × Environment → InstructionId → List Instruction × Environment
instruction_at s id = placed_in s.0 s.1 id (slice_get s.0 id.0)

abbrev pub instructions_placed : List InstructionId → List Instruction × Environment → List Instruction × Environment
instructions_placed ids s = fold instruction_at s ids
