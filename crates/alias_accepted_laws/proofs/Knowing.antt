-- Over other spans of identifiers the same is known of a function, and instructions have the same signatures.
use Rattle.std.specs.Prelude.{◌≡◌, ℕ, ◌&&◌, ◌||◌, not, Bool, true, false, if◌then◌else◌, fold, length, List, [], ◌∷◌}
use Rattle.std.specs.Prelude.{◌++◌, map, option_map, option_and_then, Option, Some, None, slice_get, refl}
use Rattle.std.proofs.Common.{ap, sym}
use Rattle.std.specs.List.{flat_map}
use Rattle.std.specs.Option.{option_map_or, is_some}
use Rattle.alias_base.specs.declared.ids.DeclarationId.{DeclarationId}
use Rattle.alias_base.specs.declared.ids.IdentifierId.{IdentifierId}
use Rattle.alias_hir.specs.Parts.{tag_places}
use Rattle.alias_hir.specs.Terminals.{terminal_places}
use Rattle.alias_hir.specs.Types.{type_at, type_of, is_primitive_type, is_untyped, is_ref_or_ref_value}
use Rattle.alias_hir.specs.Types.{is_builtin_collection_type, returns_jsx, is_primitive_at, is_untyped_at, is_ref_at}
use Rattle.alias_hir.specs.Types.{is_builtin_collection_at, returns_jsx_at}
use Rattle.alias_hir.specs.Tables.{function_signature, hook_kind}
use Rattle.alias_hir.specs.declared.effect.AliasingEffect.TheVariants.{Apply, CreateFrom, Assign, Alias, Capture}
use Rattle.alias_hir.specs.declared.effect.AliasingEffect.TheVariants.{MutateTransitiveConditionally, Render}
use Rattle.alias_hir.specs.declared.effect.MutationReason.TheVariants.{AssignCurrentProperty}
use Rattle.alias_hir.specs.declared.effect.ValueKind.TheVariants.{Primitive, Mutable}
use Rattle.alias_hir.specs.declared.env.Environment.{Environment}
use Rattle.alias_hir.specs.declared.env.Identifier.{Identifier}
use Rattle.alias_hir.specs.declared.hir.HirFunction.{HirFunction}
use Rattle.alias_hir.specs.declared.hir.Instruction.{Instruction}
use Rattle.alias_hir.specs.declared.hir.ParamPattern.{ParamPattern}
use Rattle.alias_hir.specs.declared.place.Place.{Place}
use Rattle.alias_hir.specs.declared.place.PlaceOrSpread.{PlaceOrSpread}
use Rattle.alias_hir.specs.declared.place.Span.{Span}
use Rattle.alias_hir.specs.declared.report.ReportId.{ReportId}
use Rattle.alias_hir.specs.declared.types.Ty.{Ty}
use Rattle.alias_hir.specs.declared.value.ArrayElement.{ArrayElement}
use Rattle.alias_hir.specs.declared.value.ArrayElement.TheVariants as element
use Rattle.alias_hir.specs.declared.value.ArrayPatternElement.{ArrayPatternElement}
use Rattle.alias_hir.specs.declared.value.ArrayPatternElement.TheVariants as item
use Rattle.alias_hir.specs.declared.value.InstructionValue.{InstructionValue}
use Rattle.alias_hir.specs.declared.value.InstructionValue.TheVariants as value
use Rattle.alias_hir.specs.declared.value.JsxAttribute.{JsxAttribute}
use Rattle.alias_hir.specs.declared.value.JsxAttribute.TheVariants as attribute
use Rattle.alias_hir.specs.declared.value.ObjectPropertyOrSpread.{ObjectPropertyOrSpread}
use Rattle.alias_hir.specs.declared.value.ObjectPropertyOrSpread.TheVariants as property
use Rattle.alias_hir.specs.declared.value.Pattern.{Pattern}
use Rattle.alias_hir.specs.declared.value.Pattern.TheVariants as pattern
use Rattle.alias_visit.specs.Operands.{operands_of}
use Rattle.alias_facts.specs.Candidates.{after_use, selves, first_candidates, with_frozen}
use Rattle.alias_facts.specs.Facts.{function_facts}
use Rattle.alias_facts.specs.Handlers.{handler_bindings}
use Rattle.alias_facts.specs.Hoisted as hoisted
use Rattle.alias_facts.specs.Hoisted.{Accesses, access_at, read_by, is_hoisting, with_hoisted, declaration_of}
use Rattle.alias_facts.specs.Spreads as spreads
use Rattle.alias_facts.specs.declared.candidates.Candidates.{Candidates}
use Rattle.alias_facts.specs.declared.facts.FunctionFacts.{FunctionFacts}
use Rattle.alias_calls.specs.Immutable.{is_long_in, param_place, is_long_param, signature_at}
use Rattle.alias_apply.specs.Reports.{name_or, name_in, named}
use Rattle.alias_signature.specs.Arrays.{element_effects}
use Rattle.alias_signature.specs.Calls.{type_id_of, argument, call_effects}
use Rattle.alias_signature.specs.Contexts.{is_hoisted_at, is_reassigning, binding_effect}
use Rattle.alias_signature.specs.Created.{created}
use Rattle.alias_signature.specs.Jsx.{jsx_effects, attribute_effects}
use Rattle.alias_signature.specs.Known.{known}
use Rattle.alias_signature.specs.Loads.{property_load_effects}
use Rattle.alias_signature.specs.Patterns.{target_effects, item_effects, target_property_effects, pattern_effects}
use Rattle.alias_signature.specs.Signatures.{signature_of_value}
use Rattle.alias_signature.specs.Stores.{is_current, property_store_effects}
use Rattle.alias_certificate_laws.specs.accepting.Alike.{Paired, Maybe, nothing, just}
use Rattle.alias_certificate_laws.proofs.accepting.Calling.{same_length}
use Rattle.alias_certificate_laws.proofs.accepting.Likeness.{paired_get}
use Rattle.alias_range_alike_laws.specs.Spans.{Respanned, respanned}
use Rattle.alias_accepted_laws.specs.Spans.{with_ids}

by_maybe : {A : Type 0} (f : Option Identifier → A)
    → ((x : Identifier) (s : Option Span) → f (Some (record x { span = s })) ≡ f (Some x)) → (o p : Option Identifier)
    → Maybe Respanned o p → f p ≡ f o
by_maybe f h o p nothing = refl
by_maybe f h o p (just (respanned x s)) = h x s

module _ (env : Environment) (ids : List Identifier) (spans : Paired Respanned env.identifiers ids) where
  abbrev there : Environment
  there = with_ids env ids

  -- ---- what is read of an identifier

  read_same : {A : Type 0} (f : Option Identifier → A)
      → ((x : Identifier) (s : Option Span) → f (Some (record x { span = s })) ≡ f (Some x)) → (n : ℕ)
      → f (slice_get ids n) ≡ f (slice_get env.identifiers n)
  read_same f h n = by_maybe f h (slice_get env.identifiers n) (slice_get ids n)
      (paired_get n env.identifiers ids spans)

  pub long_same : length ids ≡ length env.identifiers
  long_same = sym (same_length env.identifiers ids spans)

  pub type_same : (id : IdentifierId) → type_of there id ≡ type_of env id
  type_same id = read_same (type_at env) (λ x s. refl) id.0

  type_id_same : (id : IdentifierId) → type_id_of there id ≡ type_id_of env id
  type_id_same id = read_same (option_map (λ (i : Identifier). i.type_)) (λ x s. refl) id.0

  pub name_same : (id : IdentifierId) (word : List ℕ) → named there id word ≡ named env id word
  name_same id word = read_same (λ o. name_or word (name_in o)) (λ x s. refl) id.0

  pub declaration_same : (id : IdentifierId) → declaration_of there id ≡ declaration_of env id
  declaration_same id = read_same (option_map (λ (i : Identifier). i.declaration_id)) (λ x s. refl) id.0

  pub param_same : (p : ParamPattern) → is_long_param there p ≡ is_long_param env p
  param_same p = read_same is_long_in (λ x s. refl) (param_place p).identifier.0

  pub ref_same : (id : IdentifierId) → is_ref_at there id ≡ is_ref_at env id
  ref_same id = ap (λ t. option_map_or is_ref_or_ref_value t false) (type_same id)

  pub collection_same : (id : IdentifierId) → is_builtin_collection_at there id ≡ is_builtin_collection_at env id
  collection_same id = ap (λ t. option_map_or is_builtin_collection_type t false) (type_same id)

  primitive_same : (id : IdentifierId) → is_primitive_at there id ≡ is_primitive_at env id
  primitive_same id = ap (λ t. option_map_or is_primitive_type t false) (type_same id)

  untyped_same : (id : IdentifierId) → is_untyped_at there id ≡ is_untyped_at env id
  untyped_same id = ap (λ t. option_map_or is_untyped t false) (type_same id)

  jsx_same : (id : IdentifierId) → returns_jsx_at there id ≡ returns_jsx_at env id
  jsx_same id = ap (λ t. option_map_or returns_jsx t false) (type_same id)

  hook_same : (id : IdentifierId) → spreads.is_hook_at there id ≡ spreads.is_hook_at env id
  hook_same id = ap (λ o. option_map_or (λ (t : Ty). is_some (hook_kind env t)) o false) (type_same id)

  pub signature_at_same : (id : IdentifierId) → signature_at there id ≡ signature_at env id
  signature_at_same id = ap (option_and_then (function_signature env)) (type_same id)

  -- ---- hoisted declarations

  reads_same : hoisted.after_read there ≡ hoisted.after_read env
  reads_same = λ i h p. read_by h (declaration_same p.identifier i) p

  hoisted_value : (h : Accesses) (v : InstructionValue) → hoisted.after_value there h v ≡ hoisted.after_value env h v
  hoisted_value h (value.DeclareContext variable) =
      ap (λ d. if is_hoisting variable.kind then with_hoisted h d else h) (declaration_same variable.place.identifier)
  hoisted_value h v = ap (λ f. fold f h (operands_of env v)) reads_same

  hoisted_instruction : (h : Accesses) (o : Option Instruction) → hoisted.after_instruction there h o
      ≡ hoisted.after_instruction env h o
  hoisted_instruction h None = refl
  hoisted_instruction h (Some i) = hoisted_value h i.value

  hoisted_listed : (func : HirFunction) → hoisted.after_listed func there ≡ hoisted.after_listed func env
  hoisted_listed func = λ i h id. hoisted_instruction h (slice_get func.instructions id.0) i

  hoisted_entry : (func : HirFunction) → hoisted.after_entry func there ≡ hoisted.after_entry func env
  hoisted_entry func = λ i h e. fold (reads_same i) (fold (hoisted_listed func i) h e.1.instructions)
      (terminal_places e.1.terminal)

  -- ---- spreads

  called_same : (c : Candidates) (l : IdentifierId) (callee : Place) (operands : List Place)
      → spreads.after_call there c l callee operands ≡ spreads.after_call env c l callee operands
  called_same c l callee operands = λ i. if hook_same callee.identifier i
      then (if ref_same l i then c else with_frozen c l) else fold after_use c operands

  spread_value : (c : Candidates) (l : IdentifierId) (v : InstructionValue) → spreads.after_value there c l v
      ≡ spreads.after_value env c l v
  spread_value c l (value.CallExpression callee args) =
      called_same c l callee (operands_of env (value.CallExpression callee args))
  spread_value c l (value.MethodCall receiver property args) =
      called_same c l property (operands_of env (value.MethodCall receiver property args))
  spread_value c l v = refl

  spread_instruction : (c : Candidates) (o : Option Instruction) → spreads.after_instruction there c o
      ≡ spreads.after_instruction env c o
  spread_instruction c None = refl
  spread_instruction c (Some i) = spread_value c i.lvalue.identifier i.value

  spread_listed : (func : HirFunction) → spreads.after_listed func there ≡ spreads.after_listed func env
  spread_listed func = λ i c id. spread_instruction c (slice_get func.instructions id.0) i

  spread_entry : (func : HirFunction) → spreads.after_entry func there ≡ spreads.after_entry func env
  spread_entry func = λ i c e. fold (spread_listed func i) (fold spreads.after_phi c e.1.phis) e.1.instructions

  pub facts_same : (func : HirFunction) → function_facts func there ≡ function_facts func env
  facts_same func = λ i. record {
    hoisted = fold (hoisted_entry func i) [] func.body.blocks;
    spreads = selves (fold (spread_entry func i) (first_candidates func) func.body.blocks);
    handlers = handler_bindings func;
  }

  -- ---- signatures

  element_same : (l : Place) (e : ArrayElement) → element_effects there l e ≡ element_effects env l e
  element_same l (element.Place p) = refl
  element_same l (element.Spread s) = λ i.
      (if collection_same s.place.identifier i then [] else MutateTransitiveConditionally s.place ∷ [])
      ++ Capture s.place l ∷ []
  element_same l element.Hole = refl

  attribute_same : (a : JsxAttribute) → attribute_effects there a ≡ attribute_effects env a
  attribute_same (attribute.Attribute p) = λ i. if jsx_same p.identifier i then Render p ∷ [] else []
  attribute_same (attribute.Spread p) = refl

  target_same : (v p : Place) → target_effects there v p ≡ target_effects env v p
  target_same v p = λ i. (if primitive_same p.identifier i then created p Primitive else CreateFrom v p) ∷ []

  item_same : (rests : List ℕ) (v : Place) (e : ArrayPatternElement) → item_effects there rests v e
      ≡ item_effects env rests v e
  item_same rests v (item.Place p) = target_same v p
  item_same rests v (item.Spread s) = refl
  item_same rests v item.Hole = refl

  property_same : (rests : List ℕ) (v : Place) (e : ObjectPropertyOrSpread) → target_property_effects there rests v e
      ≡ target_property_effects env rests v e
  property_same rests v (property.Property p) = target_same v p.place
  property_same rests v (property.Spread s) = refl

  pattern_same : (rests : List ℕ) (v : Place) (p : Pattern) → pattern_effects there rests v p
      ≡ pattern_effects env rests v p
  pattern_same rests v (pattern.Array p) = λ i. flat_map (λ e. item_same rests v e i) p.items
  pattern_same rests v (pattern.Object p) = λ i. flat_map (λ e. property_same rests v e i) p.properties

  hoisted_same : (h : Accesses) (id : IdentifierId) → is_hoisted_at there h id ≡ is_hoisted_at env h id
  hoisted_same h id = ap (λ o. option_map_or (λ (d : DeclarationId). is_some (access_at h d)) o false)
      (declaration_same id)

  call_same : (receiver function : Place) (mutates : Bool) (args : List PlaceOrSpread) (l : Place) (span : Option Span)
      → call_effects there receiver function mutates args l span
      ≡ call_effects env receiver function mutates args l span
  call_same receiver function mutates args l span =
      λ i. Apply receiver function mutates (map argument args) l (type_id_same function.identifier i) span ∷ []

  load_same : (l object : Place) → property_load_effects there l object ≡ property_load_effects env l object
  load_same l object = λ i. if primitive_same l.identifier i then created l Primitive ∷ [] else CreateFrom object l ∷ []

  pub signature_same : (facts : FunctionFacts) (d : Option ReportId) (l : Place) (span : Option Span)
      (v : InstructionValue) → signature_of_value (known there facts d) l span v
      ≡ signature_of_value (known env facts d) l span v
  signature_same facts d l span (value.ArrayExpression elements) = λ i. created l Mutable
      ∷ flat_map (λ e. element_same l e i) elements
  signature_same facts d l span (value.NewExpression callee args) = call_same callee callee false args l span
  signature_same facts d l span (value.CallExpression callee args) = call_same callee callee true args l span
  signature_same facts d l span (value.MethodCall receiver property args) =
      call_same receiver property false args l span
  signature_same facts d l span (value.PropertyLoad object) = load_same l object
  signature_same facts d l span (value.ComputedLoad object property) = load_same l object
  signature_same facts d l span (value.PropertyStore object property v) =
      λ i. property_store_effects l object v
      (if is_current property && untyped_same object.identifier i then Some AssignCurrentProperty else None)
  signature_same facts d l span (value.GetIterator collection) =
      λ i. created l Mutable ∷ (if collection_same collection.identifier i then Capture collection l ∷ []
      else Alias collection l ∷ MutateTransitiveConditionally collection ∷ [])
  signature_same facts d l span (value.JsxExpression tag props children) =
      λ i. jsx_effects l (operands_of env (value.JsxExpression tag props children))
      ++ (map Render (tag_places tag) ++ map Render children ++ flat_map (λ a. attribute_same a i) props)
  signature_same facts d l span (value.Destructure variables v) = λ i. pattern_same facts.spreads v variables.pattern i
      ++ Assign v l ∷ []
  signature_same facts d l span (value.DeclareContext variable) =
      λ i. binding_effect (not (is_hoisting variable.kind) && hoisted_same facts.hoisted variable.place.identifier i)
      variable.place ∷ created l Primitive ∷ []
  signature_same facts d l span (value.StoreContext variable v) =
      λ i. binding_effect (is_reassigning variable.kind || hoisted_same facts.hoisted variable.place.identifier i)
      variable.place ∷ Capture v variable.place ∷ Assign v l ∷ []
  signature_same facts d l span v = refl
