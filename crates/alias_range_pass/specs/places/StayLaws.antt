-- Of a function only the effects of places change.
use Rattle.std.specs.Prelude.{◌≡◌, ℕ, Bool, List, [], ◌∷◌, Some, map, option_map, slice_get, slice_set, refl, zero, suc}
use Rattle.std.proofs.Common.{ap, ◌∙◌}
use Rattle.indexmap.specs.IndexMap.{set_value_at}
use Rattle.alias_base.specs.declared.ids.BlockId.{BlockId}
use Rattle.alias_base.specs.declared.ids.EvaluationOrder.{EvaluationOrder}
use Rattle.alias_hir.specs.declared.env.Identifier.{Identifier}
use Rattle.alias_hir.specs.declared.hir.BasicBlock.{BasicBlock}
use Rattle.alias_hir.specs.declared.hir.HirFunction.{HirFunction}
use Rattle.alias_hir.specs.declared.hir.Instruction.{Instruction}
use Rattle.alias_hir.specs.declared.hir.Phi.{Phi}
use Rattle.alias_hir.specs.declared.place.Effect.TheVariants.{Read, ConditionallyMutate}
use Rattle.alias_hir.specs.declared.terminal.Terminal.{Terminal}
use Rattle.alias_hir.specs.declared.value.InstructionValue.{InstructionValue}
use Rattle.alias_hir.specs.declared.value.InstructionValue.TheVariants as value
use Rattle.alias_range_pass.specs.places.Blocks.{with_effect, operand_with, phi_placed, terminal_effect}
use Rattle.alias_range_pass.specs.places.Blocks.{terminal_placed, ends_placed}
use Rattle.alias_range_pass.specs.places.Instructions.{value_placed, places_placed}
use Rattle.alias_range_pass.specs.places.Keeping.{but_effect, but_value, but_instruction, but_terminal, but_operand}
use Rattle.alias_range_pass.specs.places.Keeping.{but_phi, but_block, but_entry, but_effects}
use Rattle.alias_range_pass.specs.places.MappedLaws.{places_twice, args_twice, elements_twice, properties_twice}
use Rattle.alias_range_pass.specs.places.MappedLaws.{pattern_twice, jsx_twice, terminal_twice}
use Rattle.alias_range_pass.specs.places.Tables.{Table, with_table, source_effect}

pub value_stays : (table : Table) (v : InstructionValue) → but_value (value_placed table v) ≡ but_value v
value_stays table (value.ArrayExpression elements) =
    ap value.ArrayExpression (elements_twice (with_table table Read) but_effect elements)
value_stays table (value.ObjectExpression properties) =
    ap value.ObjectExpression (properties_twice (with_table table Read) but_effect properties)
value_stays table (value.NewExpression callee args) =
    ap (value.NewExpression (but_effect callee)) (args_twice (with_table table Read) but_effect args)
value_stays table (value.CallExpression callee args) =
    ap (value.CallExpression (but_effect callee)) (args_twice (with_table table Read) but_effect args)
value_stays table (value.MethodCall receiver property args) =
    ap (value.MethodCall (but_effect receiver) (but_effect property))
    (args_twice (with_table table Read) but_effect args)
value_stays table (value.JsxExpression tag props children) =
    jsx_twice (with_table table Read) but_effect tag props children
value_stays table (value.JsxFragment children) =
    ap value.JsxFragment (places_twice (with_table table Read) but_effect children)
value_stays table (value.Destructure lvalue x) =
    ap (λ z. value.Destructure (record { pattern = z; kind = lvalue.kind }) (but_effect x))
    (pattern_twice (with_table table ConditionallyMutate) but_effect lvalue.pattern)
value_stays table (value.StartMemoize deps) =
    ap value.StartMemoize (places_twice (with_table table Read) but_effect deps)
value_stays table (value.TemplateLiteral subexprs) =
    ap value.TemplateLiteral (places_twice (with_table table Read) but_effect subexprs)
value_stays table v = refl

pub instruction_stays : (table : Table) (i : Instruction) → but_instruction (places_placed table i) ≡ but_instruction i
instruction_stays table i = ap (λ z. record i { lvalue = but_effect i.lvalue; value = z }) (value_stays table i.value)

map_stays : {A B : Type 0} (f : A → B) (h : A → A) → ((x : A) → f (h x) ≡ f x) → (xs : List A) → map f (map h xs)
    ≡ map f xs
map_stays f h e [] = refl
map_stays f h e (x ∷ xs) = ap (λ z. z ∷ map f (map h xs)) (e x) ∙ ap (λ z. f x ∷ z) (map_stays f h e xs)

phi_stays : (ids : List Identifier) (t : EvaluationOrder) (phi : Phi) → but_phi (phi_placed ids t phi) ≡ but_phi phi
phi_stays ids t phi =
    ap (λ z. record phi { place = but_effect phi.place; operands = z })
    (map_stays but_operand (operand_with (source_effect ids t phi.place.identifier)) (λ e. refl) phi.operands)

terminal_stays : (b : Bool) (t : Terminal) → but_terminal (terminal_placed b t) ≡ but_terminal t
terminal_stays b t = terminal_twice (with_effect (terminal_effect b t)) but_effect t

pub block_stays : (b : Bool) (ids : List Identifier) (t : EvaluationOrder) (x : BasicBlock)
    → but_block (ends_placed b ids t x) ≡ but_block x
block_stays b ids t x =
    ap (λ z. record x { phis = z; terminal = but_terminal (terminal_placed b x.terminal) })
    (map_stays but_phi (phi_placed ids t) (phi_stays ids t) x.phis)
    ∙ ap (λ z. record x { phis = map but_phi x.phis; terminal = z }) (terminal_stays b x.terminal)

-- one item of a list changed
pub set_stays : {A B : Type 0} (f : A → B) (xs : List A) (k : ℕ) (x y : A) → Some x ≡ slice_get xs k → f y ≡ f x
    → map f (slice_set xs k y) ≡ map f xs
set_stays f [] k x y h e = refl
set_stays f (z ∷ xs) zero x y h e = let is : x ≡ z = cc in ap (λ w. w ∷ map f xs) (e ∙ ap f is)
set_stays f (z ∷ xs) (suc k) x y h e = ap (λ w. f z ∷ w) (set_stays f xs k x y h e)

entry_stays : (bs : List (BlockId × BasicBlock)) (k : ℕ) (x y : BasicBlock) → Some x
    ≡ option_map (λ (e : BlockId × BasicBlock). e.1) (slice_get bs k) → but_block y ≡ but_block x
    → map but_entry (set_value_at bs k y) ≡ map but_entry bs
entry_stays [] k x y h e = refl
entry_stays (z ∷ bs) zero x y h e = let is : x ≡ z.1 = cc in ap (λ w. (z.0, w) ∷ map but_entry bs) (e ∙ ap but_block is)
entry_stays (z ∷ bs) (suc k) x y h e = ap (λ w. but_entry z ∷ w) (entry_stays bs k x y h e)

pub block_effects : (f : HirFunction) (k : ℕ) (x y : BasicBlock) (is : List Instruction) → Some x
    ≡ option_map (λ (e : BlockId × BasicBlock). e.1) (slice_get f.body.blocks k) → but_block y ≡ but_block x
    → map but_instruction is ≡ map but_instruction f.instructions
    → but_effects (record f { body = record f.body { blocks = set_value_at f.body.blocks k y }; instructions = is })
    ≡ but_effects f
block_effects f k x y is here same instructions =
    ap (λ z. record f { body = record f.body { blocks = z }; instructions = map but_instruction is })
    (entry_stays f.body.blocks k x y here same)
    ∙ ap (λ z. record f { body = record f.body { blocks = map but_entry f.body.blocks }; instructions = z })
    instructions
