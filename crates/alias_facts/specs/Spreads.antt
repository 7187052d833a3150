-- The spreads of patterns that nothing writes.
use Rattle.std.specs.Prelude.{ℕ, Bool, true, false, ◌&&◌, not, if◌then◌else◌, List, [], Option, None, Some, is_some}
use Rattle.std.specs.Prelude.{map, slice_get}
use Rattle.std.specs.List.{fold}
use Rattle.std.specs.Option.{option_map_or}
use Rattle.alias_base.specs.declared.ids.BlockId.{BlockId}
use Rattle.alias_base.specs.declared.ids.IdentifierId.{IdentifierId}
use Rattle.alias_base.specs.declared.ids.InstructionId.{InstructionId}
use Rattle.alias_hir.specs.Tables.{hook_kind}
use Rattle.alias_hir.specs.Types.{type_of, is_ref_at}
use Rattle.alias_hir.specs.declared.env.Environment.{Environment}
use Rattle.alias_hir.specs.declared.hir.BasicBlock.{BasicBlock}
use Rattle.alias_hir.specs.declared.hir.HirFunction.{HirFunction}
use Rattle.alias_hir.specs.declared.hir.Instruction.{Instruction}
use Rattle.alias_hir.specs.declared.hir.Phi.{Phi}
use Rattle.alias_hir.specs.declared.place.Place.{Place}
use Rattle.alias_hir.specs.declared.types.Ty.{Ty}
use Rattle.alias_hir.specs.declared.value.InstructionKind.{InstructionKind}
use Rattle.alias_hir.specs.declared.value.InstructionKind.TheVariants.{Const, Let}
use Rattle.alias_hir.specs.declared.value.InstructionValue.{InstructionValue}
use Rattle.alias_hir.specs.declared.value.InstructionValue.TheVariants.{CallExpression, MethodCall, PropertyLoad}
use Rattle.alias_hir.specs.declared.value.InstructionValue.TheVariants.{JsxExpression, JsxFragment, Destructure}
use Rattle.alias_hir.specs.declared.value.InstructionValue.TheVariants.{LoadLocal, StoreLocal}
use Rattle.alias_hir.specs.declared.value.LValuePattern.{LValuePattern}
use Rattle.alias_hir.specs.declared.value.Pattern.{Pattern}
use Rattle.alias_hir.specs.declared.value.Pattern.TheVariants as pattern
use Rattle.alias_visit.specs.Operands.{operands_of}
use Rattle.alias_facts.specs.declared.candidates.Candidates.{Candidates}
use Rattle.alias_facts.specs.Numbers.{has}
use Rattle.alias_facts.specs.Candidates.{first_candidates, with_frozen, with_spread, is_frozen, spread_of, after_use}
use Rattle.alias_facts.specs.Candidates.{after_property, selves}

-- the set has the identifier of the place
abbrev pub is_spread : List ℕ → Place → Bool
is_spread spreads p = has spreads p.identifier.0

-- ---- patterns and variables

abbrev pub is_declaring : InstructionKind → Bool
is_declaring Const = true
is_declaring Let = true
is_declaring k = false

abbrev pub after_pattern : Candidates → Pattern → Candidates
after_pattern c (pattern.Object p) = fold after_property c p.properties
after_pattern c (pattern.Array p) = c

-- the spreads of an object pattern, where a frozen value is taken apart by it and declares them
abbrev pub after_destructure : Candidates → LValuePattern → Place → Candidates
after_destructure c lvalue v = if is_frozen c v.identifier && is_declaring lvalue.kind
    then after_pattern c lvalue.pattern else c

-- the result stands for the spread that its operand stands for
abbrev pub after_load : Candidates → IdentifierId → Option ℕ → Candidates
after_load c l None = c
after_load c l (Some s) = with_spread c l s

-- so do the result and the variable
abbrev pub after_store : Candidates → IdentifierId → IdentifierId → Option ℕ → Candidates
after_store c l variable None = c
after_store c l variable (Some s) = with_spread (with_spread c l s) variable s

-- ---- calls

-- the identifier is a hook
abbrev pub is_hook_at : Environment → IdentifierId → Bool
is_hook_at env id = option_map_or (λ (t : Ty). is_some (hook_kind env t)) (type_of env id) false

-- what a hook returns is frozen, but for a ref
abbrev pub after_hook : Environment → Candidates → IdentifierId → Candidates
after_hook env c l = if is_ref_at env l then c else with_frozen c l

-- a hook takes nothing out, and any other call does
abbrev pub after_call : Environment → Candidates → IdentifierId → Place → List Place → Candidates
after_call env c l callee operands = if is_hook_at env callee.identifier then after_hook env c l
    else fold after_use c operands

-- ---- instructions

-- after the instruction whose result is l
abbrev pub after_value : Environment → Candidates → IdentifierId → InstructionValue → Candidates
after_value env c l (Destructure lvalue v) = after_destructure c lvalue v
after_value env c l (LoadLocal place) = after_load c l (spread_of c place.identifier)
after_value env c l (StoreLocal lvalue v) = after_store c l lvalue.place.identifier (spread_of c v.identifier)
after_value env c l (JsxExpression tag props children) = c
after_value env c l (JsxFragment children) = c
after_value env c l (PropertyLoad object) = c
after_value env c l (CallExpression callee args) =
    after_call env c l callee (operands_of env (CallExpression callee args))
after_value env c l (MethodCall receiver property args) =
    after_call env c l property (operands_of env (MethodCall receiver property args))
after_value env c l v = fold after_use c (operands_of env v)

abbrev pub after_instruction : Environment → Candidates → Option Instruction → Candidates
after_instruction env c None = c
after_instruction env c (Some i) = after_value env c i.lvalue.identifier i.value

-- after the instruction of a number
abbrev pub after_listed : HirFunction → Environment → Candidates → InstructionId → Candidates
after_listed func env c id = after_instruction env c (slice_get func.instructions id.0)

-- ---- blocks

abbrev pub after_operand : Candidates → BlockId × Place → Candidates
after_operand c e = after_use c e.1

abbrev pub after_phi : Candidates → Phi → Candidates
after_phi c p = fold after_operand c p.operands

-- after a block: its phis, then its instructions
abbrev pub after_block : HirFunction → Environment → Candidates → BasicBlock → Candidates
after_block func env c b = fold (after_listed func env) (fold after_phi c b.phis) b.instructions

abbrev pub after_entry : HirFunction → Environment → Candidates → BlockId × BasicBlock → Candidates
after_entry func env c e = after_block func env c e.1

-- the blocks in stored order
abbrev pub find_non_mutated_destructure_spreads : HirFunction → Environment → List ℕ
find_non_mutated_destructure_spreads func env =
    selves (fold (after_entry func env) (first_candidates func) func.body.blocks)
