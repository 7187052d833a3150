-- The declarations that are hoisted, and the place that reads each first.
use Rattle.std.specs.Prelude.{ℕ, Bool, true, false, if◌then◌else◌, List, [], Option, None, Some, option_map, slice_get}
use Rattle.std.specs.List.{fold}
use Rattle.alias_base.specs.declared.ids.BlockId.{BlockId}
use Rattle.alias_base.specs.declared.ids.DeclarationId.{DeclarationId}
use Rattle.alias_base.specs.declared.ids.IdentifierId.{IdentifierId}
use Rattle.alias_base.specs.declared.ids.InstructionId.{InstructionId}
use Rattle.alias_hir.specs.Terminals.{terminal_places}
use Rattle.alias_hir.specs.declared.env.Environment.{Environment}
use Rattle.alias_hir.specs.declared.env.Identifier.{Identifier}
use Rattle.alias_hir.specs.declared.hir.BasicBlock.{BasicBlock}
use Rattle.alias_hir.specs.declared.hir.HirFunction.{HirFunction}
use Rattle.alias_hir.specs.declared.hir.Instruction.{Instruction}
use Rattle.alias_hir.specs.declared.place.Place.{Place}
use Rattle.alias_hir.specs.declared.value.InstructionKind.{InstructionKind}
use Rattle.alias_hir.specs.declared.value.InstructionKind.TheVariants.{HoistedConst, HoistedLet, HoistedFunction}
use Rattle.alias_hir.specs.declared.value.InstructionValue.{InstructionValue}
use Rattle.alias_hir.specs.declared.value.InstructionValue.TheVariants.{DeclareContext}
use Rattle.alias_hir.specs.declared.value.LValue.{LValue}
use Rattle.alias_visit.specs.Operands.{operands_of}
use Rattle.alias_facts.specs.Numbers.{value_of, with_value}

-- the hoisted declarations in ascending order, each with the place that reads it first, if one does
abbrev pub Accesses : Type 0
Accesses = List (ℕ × Option Place)

-- the declaration of an identifier that is in its table
abbrev pub declaration_of : Environment → IdentifierId → Option DeclarationId
declaration_of env id = option_map (λ (i : Identifier). i.declaration_id) (slice_get env.identifiers id.0)

-- the entry of a declaration, which has one where it is hoisted
abbrev pub access_at : Accesses → DeclarationId → Option (Option Place)
access_at h d = value_of h d.0

-- a place that reads a declaration of that entry: it is the first where none is known
abbrev pub with_access : Accesses → DeclarationId → Option (Option Place) → Place → Accesses
with_access h d (Some None) p = with_value h d.0 (Some p)
with_access h d (Some (Some before)) p = h
with_access h d None p = h

abbrev pub read_by : Accesses → Option DeclarationId → Place → Accesses
read_by h None p = h
read_by h (Some d) p = with_access h d (access_at h d) p

-- after a place is read
abbrev pub after_read : Environment → Accesses → Place → Accesses
after_read env h p = read_by h (declaration_of env p.identifier) p

abbrev pub is_hoisting : InstructionKind → Bool
is_hoisting HoistedConst = true
is_hoisting HoistedLet = true
is_hoisting HoistedFunction = true
is_hoisting k = false

-- the declaration is hoisted, and read by no place from here on
abbrev pub with_hoisted : Accesses → Option DeclarationId → Accesses
with_hoisted h None = h
with_hoisted h (Some d) = with_value h d.0 None

abbrev pub after_declaration : Environment → Accesses → LValue → Accesses
after_declaration env h lvalue = if is_hoisting lvalue.kind
    then with_hoisted h (declaration_of env lvalue.place.identifier) else h

-- after an instruction: a declaration reads nothing
abbrev pub after_value : Environment → Accesses → InstructionValue → Accesses
after_value env h (DeclareContext lvalue) = after_declaration env h lvalue
after_value env h v = fold (after_read env) h (operands_of env v)

abbrev pub after_instruction : Environment → Accesses → Option Instruction → Accesses
after_instruction env h None = h
after_instruction env h (Some i) = after_value env h i.value

-- after the instruction of a number
abbrev pub after_listed : HirFunction → Environment → Accesses → InstructionId → Accesses
after_listed func env h id = after_instruction env h (slice_get func.instructions id.0)

-- after a block: its instructions in order, then its terminal
abbrev pub after_block : HirFunction → Environment → Accesses → BasicBlock → Accesses
after_block func env h b = fold (after_read env) (fold (after_listed func env) h b.instructions)
    (terminal_places b.terminal)

abbrev pub after_entry : HirFunction → Environment → Accesses → BlockId × BasicBlock → Accesses
after_entry func env h e = after_block func env h e.1

-- the blocks in stored order
abbrev pub find_hoisted_context_declarations : HirFunction → Environment → Accesses
find_hoisted_context_declarations func env = fold (after_entry func env) [] func.body.blocks
