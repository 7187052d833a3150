-- After the range pass has set the effects of an instruction's places, none of its operands has Unknown.
use Rattle.std.specs.Prelude.{◌≡◌, Bool, true, false, cond, if◌then◌else◌, List, [], ◌∷◌, ◌++◌, Option, Some, None, map}
use Rattle.std.specs.Prelude.{refl}
use Rattle.std.specs.List.{AllByRecursion, flat_map}
use Rattle.std.specs.Map.{lookup}
use Rattle.std.specs.Option.{option_map_or}
use Rattle.std.proofs.Common.{◌∙◌}
use Rattle.indexmap.specs.IndexMap.{insert_entry}
use Rattle.alias_base.specs.declared.ids.EvaluationOrder.{EvaluationOrder}
use Rattle.alias_base.specs.declared.ids.IdentifierId.{IdentifierId}
use Rattle.alias_hir.specs.Parts.{arg_places, element_places, property_places, attribute_places}
use Rattle.alias_hir.specs.Values.{created}
use Rattle.alias_hir.specs.declared.effect.AliasingEffect.{AliasingEffect}
use Rattle.alias_hir.specs.declared.effect.AliasingEffect.TheVariants as effect
use Rattle.alias_hir.specs.declared.env.Identifier.{Identifier}
use Rattle.alias_hir.specs.declared.hir.Instruction.{Instruction}
use Rattle.alias_hir.specs.declared.place.Effect.{Effect}
use Rattle.alias_hir.specs.declared.place.Effect.TheVariants.{Freeze, Read, Capture, ConditionallyMutate, Store}
use Rattle.alias_hir.specs.declared.place.Place.{Place}
use Rattle.alias_hir.specs.declared.place.PlaceOrSpread.{PlaceOrSpread}
use Rattle.alias_hir.specs.declared.place.PlaceOrSpread.TheVariants as arg
use Rattle.alias_hir.specs.declared.value.ArrayElement.{ArrayElement}
use Rattle.alias_hir.specs.declared.value.ArrayElement.TheVariants as element
use Rattle.alias_hir.specs.declared.value.InstructionValue.{InstructionValue}
use Rattle.alias_hir.specs.declared.value.InstructionValue.TheVariants.{ArrayExpression, ObjectExpression, Await}
use Rattle.alias_hir.specs.declared.value.InstructionValue.TheVariants.{NewExpression, CallExpression, MethodCall}
use Rattle.alias_hir.specs.declared.value.InstructionValue.TheVariants.{PropertyDelete, ComputedDelete, PropertyLoad}
use Rattle.alias_hir.specs.declared.value.InstructionValue.TheVariants.{ComputedLoad, PropertyStore, ComputedStore}
use Rattle.alias_hir.specs.declared.value.InstructionValue.TheVariants.{FunctionExpression, GetIterator, IteratorNext}
use Rattle.alias_hir.specs.declared.value.InstructionValue.TheVariants.{NextPropertyOf, JsxExpression, JsxFragment}
use Rattle.alias_hir.specs.declared.value.InstructionValue.TheVariants.{Destructure, LoadContext, StoreContext}
use Rattle.alias_hir.specs.declared.value.InstructionValue.TheVariants.{LoadLocal, StoreLocal, PostfixUpdate}
use Rattle.alias_hir.specs.declared.value.InstructionValue.TheVariants.{PrefixUpdate, StoreGlobal, TypeCastExpression}
use Rattle.alias_hir.specs.declared.value.InstructionValue.TheVariants.{StartMemoize, FinishMemoize}
use Rattle.alias_hir.specs.declared.value.InstructionValue.TheVariants.{TaggedTemplateExpression, BinaryExpression}
use Rattle.alias_hir.specs.declared.value.InstructionValue.TheVariants.{TemplateLiteral, UnaryExpression}
use Rattle.alias_hir.specs.declared.value.JsxAttribute.{JsxAttribute}
use Rattle.alias_hir.specs.declared.value.JsxAttribute.TheVariants as attribute
use Rattle.alias_hir.specs.declared.value.JsxTag.{JsxTag}
use Rattle.alias_hir.specs.declared.value.JsxTag.TheVariants as tag
use Rattle.alias_hir.specs.declared.value.ObjectPropertyOrSpread.{ObjectPropertyOrSpread}
use Rattle.alias_hir.specs.declared.value.ObjectPropertyOrSpread.TheVariants as property
use Rattle.alias_graph.specs.Nodes.{same_id}
use Rattle.alias_range_pass.specs.places.Instructions.{value_placed}
use Rattle.alias_range_pass.specs.places.Mapped.{map_operands, map_lvalues}
use Rattle.alias_range_pass.specs.places.Tables.{Table, effect_of, ends_past, source_effect, flow_tabled, effect_tabled}
use Rattle.alias_range_pass.specs.places.Tables.{effects_tabled, recorded, table_of, with_table}
use Rattle.alias_validate.specs.Marking.{is_unknown}
use Rattle.alias_visit.specs.Operands.{owned_operands}
use Rattle.alias_visit.specs.Rebuilt.{with_places, with_args, with_elements, with_properties, with_attributes}
use Rattle.alias_visit.specs.Rebuilt.{after_attributes}

-- the place has an effect
abbrev pub IsKnown : Place → Type 0
IsKnown p = is_unknown p.effect ≡ false

-- each operand that stands in the instruction has
abbrev pub OperandsKnown : InstructionValue → Type 0
OperandsKnown v = AllByRecursion IsKnown (owned_operands v)

module _ (f : Place → Place) (known : (p : Place) → IsKnown (f p)) where
  places_known : (xs : List Place) → AllByRecursion IsKnown (with_places xs (map f xs))
  places_known [] = tt
  places_known (x ∷ xs) = (known x, places_known xs)

  args_known : (xs : List PlaceOrSpread) → AllByRecursion IsKnown
      (flat_map arg_places (with_args xs (map f (flat_map arg_places xs))))
  args_known [] = tt
  args_known (arg.Place p ∷ xs) = (known p, args_known xs)
  args_known (arg.Spread s ∷ xs) = (known s.place, args_known xs)

  elements_known : (xs : List ArrayElement)
      → AllByRecursion IsKnown (flat_map element_places (with_elements xs (map f (flat_map element_places xs))))
  elements_known [] = tt
  elements_known (element.Place p ∷ xs) = (known p, elements_known xs)
  elements_known (element.Spread s ∷ xs) = (known s.place, elements_known xs)
  elements_known (element.Hole ∷ xs) = elements_known xs

  abbrev PropertiesKnown : List ObjectPropertyOrSpread → Type 0
  PropertiesKnown xs = AllByRecursion IsKnown
      (flat_map property_places (with_properties xs (map f (flat_map property_places xs))))

  key_known : (c : Option Place) (q : Place) (xs : List ObjectPropertyOrSpread) → PropertiesKnown xs
      → PropertiesKnown (property.Property (record { computed = c; place = q }) ∷ xs)
  key_known None q xs h = (known q, h)
  key_known (Some k) q xs h = (known k, (known q, h))

  properties_known : (xs : List ObjectPropertyOrSpread) → PropertiesKnown xs
  properties_known [] = tt
  properties_known (property.Property p ∷ xs) = key_known p.computed p.place xs (properties_known xs)
  properties_known (property.Spread s ∷ xs) = (known s.place, properties_known xs)

  abbrev AttributesKnown : List JsxAttribute → List Place → List Place → Type 0
  AttributesKnown xs cs qs = AllByRecursion IsKnown
      (flat_map attribute_places (with_attributes xs qs) ++ with_places cs (after_attributes xs qs))

  attributes_known : (xs : List JsxAttribute) (cs : List Place)
      → AttributesKnown xs cs (map f (flat_map attribute_places xs ++ cs))
  attributes_known [] cs = places_known cs
  attributes_known (attribute.Attribute p ∷ xs) cs = (known p, attributes_known xs cs)
  attributes_known (attribute.Spread p ∷ xs) cs = (known p, attributes_known xs cs)

  jsx_known : (t : JsxTag) (xs : List JsxAttribute) (cs : List Place)
      → OperandsKnown (map_operands f (JsxExpression t xs cs))
  jsx_known (tag.Place p) xs cs = (known p, attributes_known xs cs)
  jsx_known tag.Builtin xs cs = attributes_known xs cs

  -- the operands of a value whose operands were all changed so that they have effects
  operands_known : (v : InstructionValue) → OperandsKnown (map_operands f v)
  operands_known (ArrayExpression elements) = elements_known elements
  operands_known (ObjectExpression properties) = properties_known properties
  operands_known (Await value) = (known value, tt)
  operands_known (NewExpression callee args) = (known callee, args_known args)
  operands_known (CallExpression callee args) = (known callee, args_known args)
  operands_known (MethodCall receiver property args) = (known receiver, (known property, args_known args))
  operands_known (PropertyDelete object) = (known object, tt)
  operands_known (ComputedDelete object property) = (known object, (known property, tt))
  operands_known (PropertyLoad object) = (known object, tt)
  operands_known (ComputedLoad object property) = (known object, (known property, tt))
  operands_known (PropertyStore object property value) = (known object, (known value, tt))
  operands_known (ComputedStore object property value) = (known object, (known property, (known value, tt)))
  operands_known (GetIterator collection) = (known collection, tt)
  operands_known (IteratorNext iterator collection) = (known iterator, (known collection, tt))
  operands_known (NextPropertyOf value) = (known value, tt)
  operands_known (JsxExpression tag props children) = jsx_known tag props children
  operands_known (JsxFragment children) = places_known children
  operands_known (Destructure lvalue value) = (known value, tt)
  operands_known (LoadContext place) = (known place, tt)
  operands_known (StoreContext lvalue value) = (known lvalue.place, (known value, tt))
  operands_known (LoadLocal place) = (known place, tt)
  operands_known (StoreLocal lvalue value) = (known value, tt)
  operands_known (PostfixUpdate lvalue value) = (known value, tt)
  operands_known (PrefixUpdate lvalue value) = (known value, tt)
  operands_known (StoreGlobal name value) = (known value, tt)
  operands_known (TypeCastExpression value) = (known value, tt)
  operands_known (StartMemoize deps) = places_known deps
  operands_known (FinishMemoize decl) = (known decl, tt)
  operands_known (TaggedTemplateExpression tag) = (known tag, tt)
  operands_known (BinaryExpression left right) = (known left, (known right, tt))
  operands_known (TemplateLiteral subexprs) = places_known subexprs
  operands_known (UnaryExpression value) = (known value, tt)
  operands_known v = tt

-- ---- the effects of a table

abbrev EntryKnown : IdentifierId × Effect → Type 0
EntryKnown e = is_unknown e.1 ≡ false

abbrev TableKnown : Table → Type 0
TableKnown table = AllByRecursion EntryKnown table

known_if : (b : Bool) (x y : Table) → TableKnown x → TableKnown y → TableKnown (if b then x else y)
known_if true x y h k = h
known_if false x y h k = k

known_set : (table : Table) (id : IdentifierId) (e : Effect) → is_unknown e ≡ false → TableKnown table
    → TableKnown (insert_entry same_id table id e)
known_set [] id e k h = (k, tt)
known_set (x ∷ xs) id e k h = known_if (same_id id x.0) ((x.0, e) ∷ xs) (x ∷ insert_entry same_id xs id e) (k, h.1)
    (h.0, known_set xs id e k h.1)

source_known : (b : Bool) → is_unknown (if b then Capture else Read) ≡ false
source_known true = refl
source_known false = refl

flow_known : (ids : List Identifier) (t : EvaluationOrder) (a x : Place) (table : Table) → TableKnown table
    → TableKnown (flow_tabled ids t a x table)
flow_known ids t a x table h =
    known_set (insert_entry same_id table a.identifier (source_effect ids t x.identifier)) x.identifier Store refl
    (known_set table a.identifier (source_effect ids t x.identifier) (source_known (ends_past ids t x.identifier)) h)

effect_known : (ids : List Identifier) (t : EvaluationOrder) (e : AliasingEffect) (table : Table) → TableKnown table
    → TableKnown (effect_tabled ids t e table)
effect_known ids t (effect.CreateFrom a x) table h = flow_known ids t a x table h
effect_known ids t (effect.Assign a x) table h = flow_known ids t a x table h
effect_known ids t (effect.Alias a x) table h = flow_known ids t a x table h
effect_known ids t (effect.Capture a x) table h = flow_known ids t a x table h
effect_known ids t (effect.MaybeAlias a x) table h = flow_known ids t a x table h
effect_known ids t (effect.Freeze x reason) table h = known_set table x.identifier Freeze refl h
effect_known ids t (effect.Mutate x reason) table h = known_set table x.identifier Store refl h
effect_known ids t (effect.MutateConditionally x) table h = known_set table x.identifier ConditionallyMutate refl h
effect_known ids t (effect.MutateTransitive x) table h = known_set table x.identifier ConditionallyMutate refl h
effect_known ids t (effect.MutateTransitiveConditionally x) table h =
    known_set table x.identifier ConditionallyMutate refl h
effect_known ids t e table h = h

effects_known : (ids : List Identifier) (t : EvaluationOrder) (es : List AliasingEffect) (table : Table)
    → TableKnown table → TableKnown (effects_tabled ids t es table)
effects_known ids t [] table h = h
effects_known ids t (e ∷ es) table h = effects_known ids t es (effect_tabled ids t e table)
    (effect_known ids t e table h)

-- what the effects of an instruction set
pub table_known : (ids : List Identifier) (i : Instruction) → TableKnown (table_of ids i)
table_known ids i = effects_known ids i.id (recorded i.effects) [] tt

found_known : (b : Bool) (e : Effect) (o : Option Effect) → is_unknown e ≡ false
    → is_unknown (option_map_or (λ x. x) o Read) ≡ false → is_unknown (option_map_or (λ x. x) (cond b (Some e) o) Read)
    ≡ false
found_known true e o h k = h
found_known false e o h k = k

looked_up_known : (table : Table) (id : IdentifierId) → TableKnown table → is_unknown (effect_of table Read id) ≡ false
looked_up_known [] id h = refl
looked_up_known (x ∷ xs) id h = found_known (same_id id x.0) x.1 (lookup (same_id id) xs) h.0
    (looked_up_known xs id h.1)

-- an instruction's value with the effects of the table, and Read for other operands
pub value_known : (table : Table) → TableKnown table → (v : InstructionValue) → OperandsKnown (value_placed table v)
value_known table h v = operands_known (with_table table Read) (λ p. looked_up_known table p.identifier h)
    (map_lvalues (with_table table ConditionallyMutate) v)

-- ---- what a value creates

-- other places, the same function that is created
created_stays : (f : Place → Place) (v : InstructionValue) → created (map_operands f v) ≡ created v
created_stays f (FunctionExpression lowered) = refl
created_stays f v = refl

created_still : (f : Place → Place) (v : InstructionValue) → created (map_lvalues f v) ≡ created v
created_still f (FunctionExpression lowered) = refl
created_still f v = refl

pub creates_same : (table : Table) (v : InstructionValue) → created (value_placed table v) ≡ created v
creates_same table v = created_stays (with_table table Read) (map_lvalues (with_table table ConditionallyMutate) v)
    ∙ created_still (with_table table ConditionallyMutate) v
