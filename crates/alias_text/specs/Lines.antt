-- The lines that are printed of effects.
use Rattle.std.specs.Prelude.{ℕ, List, [], ◌++◌, codes, Option, None, Some, slice_get}
use Rattle.std.specs.List.{flat_map}
use Rattle.std.specs.Fmt.{decimal}
use Rattle.alias_base.specs.declared.ids.BlockId.{BlockId}
use Rattle.alias_base.specs.declared.ids.FunctionId.{FunctionId}
use Rattle.alias_base.specs.declared.ids.InstructionId.{InstructionId}
use Rattle.alias_hir.specs.Terminals.{terminal_effects}
use Rattle.alias_hir.specs.declared.effect.AliasingEffect.{AliasingEffect}
use Rattle.alias_hir.specs.declared.effect.AliasingEffect.TheVariants.{Apply, CreateFrom, ImmutableCapture, Assign}
use Rattle.alias_hir.specs.declared.effect.AliasingEffect.TheVariants.{Alias, Capture, MaybeAlias, Create, Freeze}
use Rattle.alias_hir.specs.declared.effect.AliasingEffect.TheVariants.{Impure, MutateFrozen, MutateGlobal, Render}
use Rattle.alias_hir.specs.declared.effect.AliasingEffect.TheVariants.{Mutate, MutateConditionally, MutateTransitive}
use Rattle.alias_hir.specs.declared.effect.AliasingEffect.TheVariants.{MutateTransitiveConditionally, CreateFunction}
use Rattle.alias_hir.specs.declared.report.ReportId.{ReportId}
use Rattle.alias_hir.specs.declared.effect.MutationReason.{MutationReason}
use Rattle.alias_hir.specs.declared.effect.MutationReason.TheVariants.{AssignCurrentProperty}
use Rattle.alias_hir.specs.declared.effect.ValueKind.{ValueKind}
use Rattle.alias_hir.specs.declared.effect.ValueKind.TheVariants as kind
use Rattle.alias_hir.specs.declared.effect.ValueReason.{ValueReason}
use Rattle.alias_hir.specs.declared.effect.ValueReason.TheVariants as reason
use Rattle.alias_hir.specs.declared.hir.BasicBlock.{BasicBlock}
use Rattle.alias_hir.specs.declared.hir.Instruction.{Instruction}
use Rattle.alias_hir.specs.declared.place.Place.{Place}
use Rattle.alias_hir.specs.declared.place.PlaceOrSpreadOrHole.{PlaceOrSpreadOrHole}
use Rattle.alias_hir.specs.declared.place.PlaceOrSpreadOrHole.TheVariants as arg
use Rattle.alias_hir.specs.declared.terminal.Terminal.{Terminal}

-- ---- an effect

abbrev pub kind_word : ValueKind → List ℕ
kind_word kind.Primitive = codes "Primitive"
kind_word kind.Global = codes "Global"
kind_word kind.Frozen = codes "Frozen"
kind_word kind.Mutable = codes "Mutable"
kind_word kind.Context = codes "Context"
kind_word kind.MaybeFrozen = codes "MaybeFrozen"

abbrev pub reason_word : ValueReason → List ℕ
reason_word reason.KnownReturnSignature = codes "KnownReturnSignature"
reason_word reason.State = codes "State"
reason_word reason.ReducerState = codes "ReducerState"
reason_word reason.Context = codes "Context"
reason_word reason.Effect = codes "Effect"
reason_word reason.HookCaptured = codes "HookCaptured"
reason_word reason.HookReturn = codes "HookReturn"
reason_word reason.Global = codes "Global"
reason_word reason.JsxCaptured = codes "JsxCaptured"
reason_word reason.StoreLocal = codes "StoreLocal"
reason_word reason.ReactiveFunctionArgument = codes "ReactiveFunctionArgument"
reason_word reason.Other = codes "Other"

abbrev pub mutation_text : Option MutationReason → List ℕ
mutation_text None = []
mutation_text (Some AssignCurrentProperty) = codes " AssignCurrentProperty"

abbrev pub spaced : ℕ → List ℕ
spaced n = codes " " ++ decimal n

-- a name and one identifier
abbrev pub one_text : List ℕ → Place → List ℕ
one_text name place = name ++ spaced place.identifier.0

-- a name and two identifiers
abbrev pub pair_text : List ℕ → Place → Place → List ℕ
pair_text name from into = one_text name from ++ spaced into.identifier.0

abbrev pub create_text : Place → ValueKind → ValueReason → List ℕ
create_text into value reason = one_text (codes "Create") into ++ codes " " ++ kind_word value ++ codes " "
    ++ reason_word reason

abbrev pub freeze_text : Place → ValueReason → List ℕ
freeze_text value reason = one_text (codes "Freeze") value ++ codes " " ++ reason_word reason

abbrev pub mutate_text : Place → Option MutationReason → List ℕ
mutate_text value reason = one_text (codes "Mutate") value ++ mutation_text reason

-- an error is printed as the number of its report
abbrev pub error_text : List ℕ → Place → ReportId → List ℕ
error_text name place error = one_text name place ++ spaced error.instance

-- an argument that is left out has no identifier
abbrev pub arg_text : PlaceOrSpreadOrHole → List ℕ
arg_text (arg.Place p) = spaced p.identifier.0
arg_text (arg.Spread s) = spaced s.place.identifier.0
arg_text arg.Hole = []

abbrev pub apply_text : Place → Place → List PlaceOrSpreadOrHole → Place → List ℕ
apply_text receiver function args into = pair_text (codes "Apply") receiver function ++ flat_map arg_text args
    ++ spaced into.identifier.0

abbrev pub create_function_text : Place → FunctionId → List Place → List ℕ
create_function_text into f captures = one_text (codes "CreateFunction") into ++ spaced f.0
    ++ flat_map (λ (p : Place). spaced p.identifier.0) captures

-- the name, the identifiers in the order of the fields, and then kind and reason
abbrev pub effect_text : AliasingEffect → List ℕ
effect_text (Apply receiver function mutates_function args into signature span) = apply_text receiver function args into
effect_text (CreateFrom from into) = pair_text (codes "CreateFrom") from into
effect_text (ImmutableCapture from into) = pair_text (codes "ImmutableCapture") from into
effect_text (Assign from into) = pair_text (codes "Assign") from into
effect_text (Alias from into) = pair_text (codes "Alias") from into
effect_text (Capture from into) = pair_text (codes "Capture") from into
effect_text (MaybeAlias from into) = pair_text (codes "MaybeAlias") from into
effect_text (Create into value reason) = create_text into value reason
effect_text (Freeze value reason) = freeze_text value reason
effect_text (Impure place error) = error_text (codes "Impure") place error
effect_text (MutateFrozen place error) = error_text (codes "MutateFrozen") place error
effect_text (MutateGlobal place error) = error_text (codes "MutateGlobal") place error
effect_text (Render place) = one_text (codes "Render") place
effect_text (Mutate value reason) = mutate_text value reason
effect_text (MutateConditionally value) = one_text (codes "MutateConditionally") value
effect_text (MutateTransitive value) = one_text (codes "MutateTransitive") value
effect_text (MutateTransitiveConditionally value) = one_text (codes "MutateTransitiveConditionally") value
effect_text (CreateFunction into function_id captures) = create_function_text into function_id captures

-- ---- lines

abbrev pub effect_line : ℕ → AliasingEffect → List ℕ
effect_line number effect = decimal number ++ codes " " ++ effect_text effect ++ codes "\n"

abbrev pub effect_lines : ℕ → List AliasingEffect → List ℕ
effect_lines number effects = flat_map (effect_line number) effects

abbrev pub end_line : AliasingEffect → List ℕ
end_line effect = codes "end " ++ effect_text effect ++ codes "\n"

abbrev pub end_lines : List AliasingEffect → List ℕ
end_lines effects = flat_map end_line effects

abbrev pub recorded : Option (List AliasingEffect) → List AliasingEffect
recorded None = []
recorded (Some effects) = effects

abbrev pub recorded_of : Option Instruction → List AliasingEffect
recorded_of None = []
recorded_of (Some i) = recorded i.effects

-- the effects that were recorded of one instruction: none where no instruction has that number
abbrev pub instruction_lines : List Instruction → InstructionId → List ℕ
instruction_lines instructions id = effect_lines id.0 (recorded_of (slice_get instructions id.0))

abbrev pub listed_lines : List Instruction → List InstructionId → List ℕ
listed_lines instructions ids = flat_map (instruction_lines instructions) ids

abbrev pub terminal_lines : Terminal → List ℕ
terminal_lines t = end_lines (recorded (terminal_effects t))

abbrev pub block_head : BlockId → List ℕ
block_head b = codes "block " ++ decimal b.0 ++ codes "\n"

-- the lines of the block's instructions in its order, and those of its terminal
abbrev pub block_lines : List Instruction → Option BasicBlock → List ℕ
block_lines instructions None = []
block_lines instructions (Some block) = listed_lines instructions block.instructions ++ terminal_lines block.terminal

-- ---- functions

abbrev pub function_name : Option FunctionId → List ℕ
function_name None = codes "root"
function_name (Some f) = decimal f.0

abbrev pub function_head : Option FunctionId → List ℕ
function_head f = codes "function " ++ function_name f ++ codes "\n"
