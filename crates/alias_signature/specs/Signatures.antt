-- The signature of an instruction: the effects that it has before the state is looked at, in order.
use Rattle.std.specs.Prelude.{true, false, List, ◌++◌, Option, None, Some, Result, Ok}
use Rattle.alias_base.specs.Answer.{◌>>=◌}
use Rattle.alias_base.specs.declared.ids.IdentifierId.{IdentifierId}
use Rattle.alias_facts.specs.declared.facts.FunctionFacts.{FunctionFacts}
use Rattle.alias_hir.specs.ReportNumbers.{report_id_of, with_interned}
use Rattle.alias_hir.specs.declared.effect.AliasingEffect.{AliasingEffect}
use Rattle.alias_hir.specs.declared.env.Environment.{Environment}
use Rattle.alias_hir.specs.declared.error.HirError.{HirError}
use Rattle.alias_hir.specs.declared.hir.Instruction.{Instruction}
use Rattle.alias_hir.specs.declared.place.Place.{Place}
use Rattle.alias_hir.specs.declared.place.Span.{Span}
use Rattle.alias_hir.specs.declared.report.ReportId.{ReportId}
use Rattle.alias_hir.specs.declared.report.Interned.{Interned}
use Rattle.alias_hir.specs.declared.report.Report.{Report}
use Rattle.alias_hir.specs.declared.value.InstructionValue.{InstructionValue}
use Rattle.alias_hir.specs.declared.value.InstructionValue.TheVariants.{ArrayExpression, ObjectExpression, Await}
use Rattle.alias_hir.specs.declared.value.InstructionValue.TheVariants.{NewExpression, CallExpression, MethodCall}
use Rattle.alias_hir.specs.declared.value.InstructionValue.TheVariants.{PropertyDelete, ComputedDelete, PropertyLoad}
use Rattle.alias_hir.specs.declared.value.InstructionValue.TheVariants.{ComputedLoad, PropertyStore, ComputedStore}
use Rattle.alias_hir.specs.declared.value.InstructionValue.TheVariants.{FunctionExpression, ObjectMethod, GetIterator}
use Rattle.alias_hir.specs.declared.value.InstructionValue.TheVariants.{IteratorNext, NextPropertyOf, JsxExpression}
use Rattle.alias_hir.specs.declared.value.InstructionValue.TheVariants.{JsxFragment, DeclareLocal, Destructure}
use Rattle.alias_hir.specs.declared.value.InstructionValue.TheVariants.{LoadContext, DeclareContext, StoreContext}
use Rattle.alias_hir.specs.declared.value.InstructionValue.TheVariants.{LoadLocal, StoreLocal, PostfixUpdate}
use Rattle.alias_hir.specs.declared.value.InstructionValue.TheVariants.{PrefixUpdate, StoreGlobal, TypeCastExpression}
use Rattle.alias_hir.specs.declared.value.InstructionValue.TheVariants.{LoadGlobal, StartMemoize, FinishMemoize}
use Rattle.alias_hir.specs.declared.value.InstructionValue.TheVariants.{TaggedTemplateExpression, BinaryExpression}
use Rattle.alias_hir.specs.declared.value.InstructionValue.TheVariants.{TemplateLiteral, UnaryExpression, Debugger}
use Rattle.alias_hir.specs.declared.value.InstructionValue.TheVariants.{JSXText, MetaProperty, Primitive, RegExpLiteral}
use Rattle.alias_visit.specs.Operands.{operands_of}
use Rattle.alias_signature.specs.Known.{Known, known}
use Rattle.alias_signature.specs.Literals.{primitive_effects}
use Rattle.alias_signature.specs.Objects.{object_expression_effects}
use Rattle.alias_signature.specs.Arrays.{array_expression_effects}
use Rattle.alias_signature.specs.Calls.{call_effects, await_effects}
use Rattle.alias_signature.specs.Loads.{load_local_effects, property_load_effects}
use Rattle.alias_signature.specs.Stores.{store_local_effects, declare_local_effects, update_effects, store_reason}
use Rattle.alias_signature.specs.Stores.{property_store_effects, delete_effects}
use Rattle.alias_signature.specs.Functions.{function_effects}
use Rattle.alias_signature.specs.Iterators.{get_iterator_effects, iterator_next_effects}
use Rattle.alias_signature.specs.Jsx.{jsx_effects, render_effects}
use Rattle.alias_signature.specs.Patterns.{destructure_effects}
use Rattle.alias_signature.specs.Contexts.{load_context_effects, declare_context_effects, store_context_effects}
use Rattle.alias_signature.specs.Memoization.{memoize_effects}
use Rattle.alias_signature.specs.Globals.{load_global_effects, store_global_effects, instruction_report}

-- by the kind of the instruction whose result is l
abbrev pub signature_of_value : Known → Place → Option Span → InstructionValue → List AliasingEffect
signature_of_value k l span (ArrayExpression elements) = array_expression_effects k.env l elements
signature_of_value k l span (ObjectExpression properties) = object_expression_effects l properties
signature_of_value k l span (Await v) = await_effects l v
signature_of_value k l span (NewExpression callee args) = call_effects k.env callee callee false args l span
signature_of_value k l span (CallExpression callee args) = call_effects k.env callee callee true args l span
signature_of_value k l span (MethodCall receiver property args) = call_effects k.env receiver property false args l span
signature_of_value k l span (PropertyDelete object) = delete_effects l object
signature_of_value k l span (ComputedDelete object property) = delete_effects l object
signature_of_value k l span (PropertyLoad object) = property_load_effects k.env l object
signature_of_value k l span (ComputedLoad object property) = property_load_effects k.env l object
signature_of_value k l span (PropertyStore object property v) =
    property_store_effects l object v (store_reason k.env object property)
signature_of_value k l span (ComputedStore object property v) = property_store_effects l object v None
signature_of_value k l span (FunctionExpression lowered) = function_effects k.env l lowered.func
signature_of_value k l span (ObjectMethod lowered) = function_effects k.env l lowered.func
signature_of_value k l span (GetIterator collection) = get_iterator_effects k.env l collection
signature_of_value k l span (IteratorNext iterator collection) = iterator_next_effects l iterator collection
signature_of_value k l span (NextPropertyOf v) = primitive_effects l
signature_of_value k l span (JsxExpression tag props children) =
    jsx_effects l (operands_of k.env (JsxExpression tag props children)) ++ render_effects k.env tag props children
signature_of_value k l span (JsxFragment children) = jsx_effects l (operands_of k.env (JsxFragment children))
signature_of_value k l span (DeclareLocal variable) = declare_local_effects l variable
signature_of_value k l span (Destructure variables v) = destructure_effects k.env k.facts.spreads l variables.pattern v
signature_of_value k l span (LoadContext place) = load_context_effects l place
signature_of_value k l span (DeclareContext variable) = declare_context_effects k.env k.facts.hoisted l variable
signature_of_value k l span (StoreContext variable v) = store_context_effects k.env k.facts.hoisted l variable v
signature_of_value k l span (LoadLocal place) = load_local_effects l place
signature_of_value k l span (StoreLocal variable v) = store_local_effects l variable v
signature_of_value k l span (PostfixUpdate variable v) = update_effects l variable
signature_of_value k l span (PrefixUpdate variable v) = update_effects l variable
signature_of_value k l span (StoreGlobal name v) = store_global_effects k.error l v
signature_of_value k l span (TypeCastExpression v) = load_local_effects l v
signature_of_value k l span LoadGlobal = load_global_effects l
signature_of_value k l span (StartMemoize deps) = memoize_effects k.env l (operands_of k.env (StartMemoize deps))
signature_of_value k l span (FinishMemoize decl) = memoize_effects k.env l (operands_of k.env (FinishMemoize decl))
signature_of_value k l span (TaggedTemplateExpression tag) = primitive_effects l
signature_of_value k l span (BinaryExpression left right) = primitive_effects l
signature_of_value k l span (TemplateLiteral subexprs) = primitive_effects l
signature_of_value k l span (UnaryExpression v) = primitive_effects l
signature_of_value k l span Debugger = primitive_effects l
signature_of_value k l span JSXText = primitive_effects l
signature_of_value k l span MetaProperty = primitive_effects l
signature_of_value k l span Primitive = primitive_effects l
signature_of_value k l span RegExpLiteral = primitive_effects l

abbrev pub signature_of : Known → Instruction → List AliasingEffect
signature_of k i = signature_of_value k i.lvalue i.span i.value

-- ---- with the report of the instruction

-- what is reported is interned
abbrev pub error_of_report : List Interned → Option (IdentifierId × Report) → Result (Option ReportId) HirError
error_of_report es None = Ok None
error_of_report es (Some reported) = report_id_of es reported.0 reported.1 >>= (λ (d : ReportId). Ok (Some d))

-- the environment with it
abbrev pub with_report : Environment → Option (IdentifierId × Report) → Environment
with_report env None = env
with_report env (Some reported) = record env { interned = with_interned env.interned reported.0 reported.1 }

-- the environment after the instruction's signature
abbrev pub env_after_signature : Environment → Instruction → Environment
env_after_signature env i = with_report env (instruction_report i.value i.span)

-- the report first, and then the effects, one of which has it
abbrev pub compute_signature_for_instruction : Environment → FunctionFacts → Instruction
    → Result (List AliasingEffect) HirError
compute_signature_for_instruction env facts i =
    error_of_report env.interned (instruction_report i.value i.span)
    >>= (λ (error : Option ReportId). Ok (signature_of (known (env_after_signature env i) facts error) i))
