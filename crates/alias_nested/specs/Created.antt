-- The functions that a function creates, in the order in which they are analysed.
use Rattle.std.specs.Prelude.{List, [], ◌∷◌, Option, Some, None, slice_get}
use Rattle.std.specs.List.{flat_map}
use Rattle.alias_base.specs.declared.ids.BlockId.{BlockId}
use Rattle.alias_base.specs.declared.ids.FunctionId.{FunctionId}
use Rattle.alias_base.specs.declared.ids.InstructionId.{InstructionId}
use Rattle.alias_hir.specs.Values.{created}
use Rattle.alias_hir.specs.declared.hir.BasicBlock.{BasicBlock}
use Rattle.alias_hir.specs.declared.hir.HirFunction.{HirFunction}
use Rattle.alias_hir.specs.declared.hir.Instruction.{Instruction}

abbrev pub one_of : Option FunctionId → List FunctionId
one_of None = []
one_of (Some f) = f ∷ []

abbrev pub created_by : Option Instruction → List FunctionId
created_by None = []
created_by (Some i) = one_of (created i.value)

-- those that these instructions create
abbrev pub created_by_all : HirFunction → List InstructionId → List FunctionId
created_by_all f ids = flat_map (λ (i : InstructionId). created_by (slice_get f.instructions i.0)) ids

-- the functions that a function creates: its blocks in stored order, the instructions of each in order
abbrev pub created_functions : HirFunction → List FunctionId
created_functions f = flat_map (λ (b : BlockId × BasicBlock). created_by_all f b.1.instructions) f.body.blocks
