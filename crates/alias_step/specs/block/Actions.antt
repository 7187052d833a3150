-- What a block's terminal does after the instructions. An effect of it is interned and recorded, but not stepped.
use Rattle.std.specs.Prelude.{Bool, true, false, List, Option, Some, None, Result, Ok, Err, slice_get, if◌then◌else◌}
use Rattle.std.specs.Option.{is_some}
use Rattle.alias_base.specs.declared.ids.BlockId.{BlockId}
use Rattle.alias_base.specs.declared.ids.InstructionId.{InstructionId}
use Rattle.alias_facts.specs.Handlers.{Bindings, binding_at}
use Rattle.alias_hir.specs.declared.effect.AliasingEffect.{AliasingEffect}
use Rattle.alias_hir.specs.declared.effect.AliasingEffect.TheVariants as effect
use Rattle.alias_hir.specs.declared.effect.ValueReason.TheVariants.{JsxCaptured}
use Rattle.alias_hir.specs.declared.hir.Instruction.{Instruction}
use Rattle.alias_hir.specs.declared.place.Place.{Place}
use Rattle.alias_hir.specs.declared.terminal.Terminal.{Terminal}
use Rattle.alias_hir.specs.declared.terminal.Terminal.TheVariants as terminal
use Rattle.alias_hir.specs.declared.value.InstructionValue.{InstructionValue}
use Rattle.alias_hir.specs.declared.value.InstructionValue.TheVariants as value
use Rattle.alias_lattice.specs.States.{sites_of, appended}
use Rattle.alias_tables.specs.declared.faults.Refusal.{Refusal}
use Rattle.alias_tables.specs.Steps.{◌>>=◌, gives, each}
use Rattle.alias_tables.specs.Tables.{TableLists, intern}
use Rattle.alias_apply.specs.declared.progress.StepProgress.{StepProgress}
use Rattle.alias_apply.specs.Kinds.{is_writable}
use Rattle.alias_apply.specs.Progress.{record_of, with_state, kind_at}
use Rattle.alias_step.specs.block.Contexts.{BlockContext}
use Rattle.alias_step.specs.block.Faults.{BlockStep}

-- what interning gives; it is never refused, so the second case doesn't come
abbrev pub interned_or : AliasingEffect × TableLists → Result (AliasingEffect × TableLists) Refusal → AliasingEffect
    × TableLists
interned_or as_it_is (Ok interned) = interned
interned_or as_it_is (Err c) = as_it_is

-- the effect is interned, and recorded
abbrev pub record_interned : AliasingEffect → StepProgress → BlockStep StepProgress
record_interned e s t = let first = interned_or (e, t) (intern e t) in Ok (record_of first.0 s, first.1)

-- ---- MaybeThrow

-- What a call gives may be what it throws: the binding takes in its sites, and where it may be written, it is an alias
-- of it.
abbrev pub catch_call : Place → Place → StepProgress → BlockStep StepProgress
catch_call binding x s =
    let u = with_state (appended binding.identifier x.identifier s.state) s in
    if is_writable (kind_at x u) then record_interned (effect.Alias x binding) u else gives u

-- a call of a function or a method; a construction isn't one
abbrev pub is_call : InstructionValue → Bool
is_call (value.CallExpression callee args) = true
is_call (value.MethodCall receiver property args) = true
is_call (value.ArrayExpression elements) = false
is_call (value.ObjectExpression properties) = false
is_call (value.Await value) = false
is_call (value.NewExpression callee args) = false
is_call (value.PropertyDelete object) = false
is_call (value.ComputedDelete object property) = false
is_call (value.PropertyLoad object) = false
is_call (value.ComputedLoad object property) = false
is_call (value.PropertyStore object property value) = false
is_call (value.ComputedStore object property value) = false
is_call (value.FunctionExpression lowered) = false
is_call (value.ObjectMethod lowered) = false
is_call (value.GetIterator collection) = false
is_call (value.IteratorNext iterator collection) = false
is_call (value.NextPropertyOf value) = false
is_call (value.JsxExpression tag props children) = false
is_call (value.JsxFragment children) = false
is_call (value.DeclareLocal lvalue) = false
is_call (value.Destructure lvalue value) = false
is_call (value.LoadContext place) = false
is_call (value.DeclareContext lvalue) = false
is_call (value.StoreContext lvalue value) = false
is_call (value.LoadLocal place) = false
is_call (value.StoreLocal lvalue value) = false
is_call (value.PostfixUpdate lvalue value) = false
is_call (value.PrefixUpdate lvalue value) = false
is_call (value.StoreGlobal name value) = false
is_call (value.TypeCastExpression value) = false
is_call value.LoadGlobal = false
is_call (value.StartMemoize deps) = false
is_call (value.FinishMemoize decl) = false
is_call (value.TaggedTemplateExpression tag) = false
is_call (value.BinaryExpression left right) = false
is_call (value.TemplateLiteral subexprs) = false
is_call (value.UnaryExpression value) = false
is_call value.Debugger = false
is_call value.JSXText = false
is_call value.MetaProperty = false
is_call value.Primitive = false
is_call value.RegExpLiteral = false

abbrev pub catch_instruction : Place → Option Instruction → StepProgress → BlockStep StepProgress
catch_instruction binding None s = gives s
catch_instruction binding (Some x) s = if is_call x.value then catch_call binding x.lvalue s else gives s

-- the binding catches what the calls of the block throw, in order
abbrev pub catch_calls : List Instruction → Place → List InstructionId → StepProgress → BlockStep StepProgress
catch_calls instructions binding = each (λ i. catch_instruction binding (slice_get instructions i.0))

-- the place that the handler binds, where there is a handler and it binds one
abbrev pub handler_binding : Bindings → Option BlockId → Option Place
handler_binding bindings None = None
handler_binding bindings (Some handler) = binding_at bindings handler

-- a binding that isn't defined catches nothing
abbrev pub catch_into : List Instruction → Option Place → List InstructionId → StepProgress → BlockStep StepProgress
catch_into instructions None is s = gives s
catch_into instructions (Some binding) is s =
    if is_some (sites_of s.state binding.identifier) then catch_calls instructions binding is s else gives s

-- ---- Return

-- what is returned from a component or hook is frozen; the state stays as it is
abbrev pub return_value : Bool → Place → StepProgress → BlockStep StepProgress
return_value is_function_expression value s =
    if is_function_expression then gives s else record_interned (effect.Freeze value JsxCaptured) s

-- ---- all terminals

-- of a block with these instructions
abbrev pub terminal_action : BlockContext → List InstructionId → Terminal → StepProgress → BlockStep StepProgress
terminal_action c is (terminal.MaybeThrow id continuation handler effects) s =
    catch_into c.func.instructions (handler_binding c.facts.handlers handler) is s
terminal_action c is (terminal.Return id value effects) s = return_value c.is_function_expression value s
-- these do nothing; each is named, so that a new terminal doesn't go without an action
terminal_action c is (terminal.Goto id block) s = gives s
terminal_action c is (terminal.If id test consequent alternate) s = gives s
terminal_action c is (terminal.Branch id test consequent alternate) s = gives s
terminal_action c is (terminal.Switch id test cases) s = gives s
terminal_action c is (terminal.For id init) s = gives s
terminal_action c is (terminal.ForOf id init) s = gives s
terminal_action c is (terminal.ForIn id init) s = gives s
terminal_action c is (terminal.DoWhile id loop_block) s = gives s
terminal_action c is (terminal.While id test) s = gives s
terminal_action c is (terminal.Logical id test) s = gives s
terminal_action c is (terminal.Ternary id test) s = gives s
terminal_action c is (terminal.Optional id test) s = gives s
terminal_action c is (terminal.Throw id value) s = gives s
terminal_action c is (terminal.Unreachable id) s = gives s
terminal_action c is (terminal.Try id block handler handler_binding) s = gives s
terminal_action c is (terminal.Label id block) s = gives s
terminal_action c is (terminal.Sequence id block) s = gives s
terminal_action c is (terminal.Scope id block) s = gives s
terminal_action c is (terminal.PrunedScope id block) s = gives s
