-- The effects that an instruction has whatever the state is are the same over an environment that agrees on what it
-- names, but for what a new function captures.
use Rattle.std.specs.Prelude.{◌≡◌, ℕ, Bool, true, false, not, ◌&&◌, ◌||◌, if◌then◌else◌, is_some, List, [], ◌∷◌, ◌++◌}
use Rattle.std.specs.Prelude.{Option, Some, None, map, refl}
use Rattle.std.proofs.Common.{ap, ◌∙◌}
use Rattle.std.specs.List.{AllByRecursion, flat_map}
use Rattle.std.specs.Option.{option_map_or}
use Rattle.alias_base.specs.declared.ids.DeclarationId.{DeclarationId}
use Rattle.alias_base.specs.declared.ids.FunctionId.{FunctionId}
use Rattle.alias_base.specs.declared.ids.TypeId.{TypeId}
use Rattle.alias_facts.specs.Hoisted.{Accesses, declaration_of, access_at, is_hoisting}
use Rattle.alias_facts.specs.declared.facts.FunctionFacts.{FunctionFacts}
use Rattle.alias_hir.specs.Parts.{optional_place, element_places, property_places, item_places, places_in_pattern}
use Rattle.alias_hir.specs.Parts.{tag_places, attribute_places}
use Rattle.alias_hir.specs.Types.{is_primitive_type, is_untyped, is_builtin_collection_type, returns_jsx, type_of}
use Rattle.alias_hir.specs.Values.{places_of, created as created_function}
use Rattle.alias_hir.specs.declared.effect.AliasingEffect.{AliasingEffect}
use Rattle.alias_hir.specs.declared.effect.AliasingEffect.TheVariants.{Apply, CreateFrom, Capture, Alias, Render}
use Rattle.alias_hir.specs.declared.effect.AliasingEffect.TheVariants.{Assign, MutateTransitiveConditionally}
use Rattle.alias_hir.specs.declared.effect.MutationReason.TheVariants.{AssignCurrentProperty}
use Rattle.alias_hir.specs.declared.effect.ValueKind.TheVariants.{Primitive, Mutable}
use Rattle.alias_hir.specs.declared.env.Config.{Config}
use Rattle.alias_hir.specs.declared.env.Environment.{Environment}
use Rattle.alias_hir.specs.declared.place.Place.{Place}
use Rattle.alias_hir.specs.declared.place.PlaceOrSpread.{PlaceOrSpread}
use Rattle.alias_hir.specs.declared.place.Span.{Span}
use Rattle.alias_hir.specs.declared.report.ReportId.{ReportId}
use Rattle.alias_hir.specs.declared.types.Ty.{Ty}
use Rattle.alias_hir.specs.declared.value.ArrayElement.{ArrayElement}
use Rattle.alias_hir.specs.declared.value.ArrayElement.TheVariants as element
use Rattle.alias_hir.specs.declared.value.ArrayPatternElement.{ArrayPatternElement}
use Rattle.alias_hir.specs.declared.value.ArrayPatternElement.TheVariants as item
use Rattle.alias_hir.specs.declared.value.InstructionValue.{InstructionValue}
use Rattle.alias_hir.specs.declared.value.InstructionValue.TheVariants as value
use Rattle.alias_hir.specs.declared.value.JsxAttribute.{JsxAttribute}
use Rattle.alias_hir.specs.declared.value.JsxAttribute.TheVariants as attribute
use Rattle.alias_hir.specs.declared.value.JsxTag.{JsxTag}
use Rattle.alias_hir.specs.declared.value.LValue.{LValue}
use Rattle.alias_hir.specs.declared.value.ObjectPropertyOrSpread.{ObjectPropertyOrSpread}
use Rattle.alias_hir.specs.declared.value.ObjectPropertyOrSpread.TheVariants as property
use Rattle.alias_hir.specs.declared.value.Pattern.{Pattern}
use Rattle.alias_hir.specs.declared.value.Pattern.TheVariants as pattern
use Rattle.alias_hir.specs.declared.value.PropertyLiteral.{PropertyLiteral}
use Rattle.alias_signature.specs.Arrays.{element_effects, array_expression_effects}
use Rattle.alias_signature.specs.Calls.{argument, call_effects}
use Rattle.alias_signature.specs.Contexts.{is_hoisted_at, is_reassigning, binding_effect, declare_context_effects}
use Rattle.alias_signature.specs.Contexts.{store_context_effects}
use Rattle.alias_signature.specs.Created.{created}
use Rattle.alias_signature.specs.Functions.{function_effects}
use Rattle.alias_signature.specs.Iterators.{iteration_effects, get_iterator_effects}
use Rattle.alias_signature.specs.Jsx.{jsx_effects, attribute_effects, render_effects}
use Rattle.alias_signature.specs.Known.{Known, known}
use Rattle.alias_signature.specs.Loads.{property_load_effects}
use Rattle.alias_signature.specs.Memoization.{frozen, memoize_effects}
use Rattle.alias_signature.specs.Patterns.{target_effects, item_effects, target_property_effects, pattern_effects}
use Rattle.alias_signature.specs.Patterns.{destructure_effects}
use Rattle.alias_signature.specs.Signatures.{signature_of_value}
use Rattle.alias_signature.specs.Stores.{is_current, store_reason, property_store_effects}
use Rattle.alias_visit.specs.Operands.{owned_operands}
use Rattle.alias_completeness.specs.Agreeing.{Agrees}
use Rattle.alias_completeness.specs.Fitting.{front_of}
use Rattle.alias_completeness.specs.AgreeingFacts.{InTable, marks, hoisted_by_marks}

-- lists that are made part by part
parts_same : {A X : Type 0} (P : Place → Type 0) (places : A → List Place) (f g : A → List X)
    → ((a : A) → AllByRecursion P (places a) → f a ≡ g a) → (xs : List A) → AllByRecursion P (flat_map places xs)
    → flat_map f xs ≡ flat_map g xs
parts_same P places f g k [] h = refl
parts_same {A} {X} P places f g k (a ∷ xs) h =
    let b = front_of P (places a) (flat_map places xs) h in
    ap (λ (ys : List X). ys ++ flat_map f xs) (k a b.0)
    ∙ ap (λ (ys : List X). g a ++ ys) (parts_same P places f g k xs b.1)

-- ---- what the kinds ask of the environment

module _ (env more : Environment) (agrees : Agrees env more) where
  abbrev In : Place → Type 0
  In = InTable env

  -- what is asked of the type of an identifier
  typed : (test : Ty → Bool) (p : Place) → In p → option_map_or test (type_of more p.identifier) false
      ≡ option_map_or test (type_of env p.identifier) false
  typed test p there = ap (λ (o : Option Ty). option_map_or test o false) (agrees.types p.identifier there)

  iteration_same : (p : Place) → In p → iteration_effects more p ≡ iteration_effects env p
  iteration_same p there = ap (λ (b : Bool). let es : List AliasingEffect = if b then []
      else MutateTransitiveConditionally p ∷ [] in es) (typed is_builtin_collection_type p there)

  element_same : (l : Place) (x : ArrayElement) → AllByRecursion In (element_places x) → element_effects more l x
      ≡ element_effects env l x
  element_same l (element.Place p) h = refl
  element_same l (element.Spread s) h = ap (λ (es : List AliasingEffect). es ++ Capture s.place l ∷ [])
      (iteration_same s.place h.0)
  element_same l element.Hole h = refl

  array_same : (l : Place) (xs : List ArrayElement) → AllByRecursion In (flat_map element_places xs)
      → array_expression_effects more l xs ≡ array_expression_effects env l xs
  array_same l xs h = ap (λ (es : List AliasingEffect). created l Mutable ∷ es)
      (parts_same In element_places (element_effects more l) (element_effects env l) (element_same l) xs h)

  call_same : (r f : Place) (m : Bool) (args : List PlaceOrSpread) (into : Place) (span : Option Span) → In f
      → call_effects more r f m args into span ≡ call_effects env r f m args into span
  call_same r f m args into span there = ap
      (λ (t : Option TypeId). let es : List AliasingEffect = Apply r f m (map argument args) into t span ∷ [] in es)
      (agrees.type_ids f.identifier there)

  load_same : (l object : Place) → In l → property_load_effects more l object ≡ property_load_effects env l object
  load_same l object there = ap (λ (b : Bool). let es : List AliasingEffect = if b then created l Primitive ∷ []
      else CreateFrom object l ∷ [] in es) (typed is_primitive_type l there)

  store_same : (l object : Place) (name : PropertyLiteral) (v : Place) → In object
      → property_store_effects l object v (store_reason more object name)
      ≡ property_store_effects l object v (store_reason env object name)
  store_same l object name v there = ap (λ (b : Bool).
      property_store_effects l object v (if is_current name && b then Some AssignCurrentProperty else None))
      (typed is_untyped object there)

  iterator_same : (l c : Place) → In c → get_iterator_effects more l c ≡ get_iterator_effects env l c
  iterator_same l c there =
      ap (λ (b : Bool). let es : List AliasingEffect = created l Mutable
      ∷ (if b then Capture c l ∷ [] else Alias c l ∷ MutateTransitiveConditionally c ∷ []) in es)
      (typed is_builtin_collection_type c there)

  attribute_same : (x : JsxAttribute) → AllByRecursion In (attribute_places x) → attribute_effects more x
      ≡ attribute_effects env x
  attribute_same (attribute.Attribute p) h =
      ap (λ (b : Bool). let es : List AliasingEffect = if b then Render p ∷ [] else [] in es) (typed returns_jsx p h.0)
  attribute_same (attribute.Spread p) h = refl

  render_same : (tag : JsxTag) (props : List JsxAttribute) (children : List Place)
      → AllByRecursion In (flat_map attribute_places props) → render_effects more tag props children
      ≡ render_effects env tag props children
  render_same tag props children h =
      ap (λ (es : List AliasingEffect). map Render (tag_places tag) ++ map Render children ++ es)
      (parts_same In attribute_places (attribute_effects more) (attribute_effects env) attribute_same props h)

  target_same : (v p : Place) → In p → target_effects more v p ≡ target_effects env v p
  target_same v p there = ap (λ (b : Bool). let es : List AliasingEffect =
      (if b then created p Primitive else CreateFrom v p) ∷ [] in es) (typed is_primitive_type p there)

  item_same : (spreads : List ℕ) (v : Place) (x : ArrayPatternElement) → AllByRecursion In (item_places x)
      → item_effects more spreads v x ≡ item_effects env spreads v x
  item_same spreads v (item.Place p) h = target_same v p h.0
  item_same spreads v (item.Spread s) h = refl
  item_same spreads v item.Hole h = refl

  target_property_same : (spreads : List ℕ) (v : Place) (x : ObjectPropertyOrSpread)
      → AllByRecursion In (property_places x) → target_property_effects more spreads v x
      ≡ target_property_effects env spreads v x
  target_property_same spreads v (property.Property p) h =
      target_same v p.place (front_of In (optional_place p.computed) (p.place ∷ []) h).1.0
  target_property_same spreads v (property.Spread s) h = refl

  pattern_same : (spreads : List ℕ) (v : Place) (p : Pattern) → AllByRecursion In (places_in_pattern p)
      → pattern_effects more spreads v p ≡ pattern_effects env spreads v p
  pattern_same spreads v (pattern.Array p) h =
      parts_same In item_places (item_effects more spreads v) (item_effects env spreads v) (item_same spreads v) p.items
      h
  pattern_same spreads v (pattern.Object p) h =
      parts_same In property_places (target_property_effects more spreads v) (target_property_effects env spreads v)
      (target_property_same spreads v) p.properties h

  hoisted_same : (h g : Accesses) → marks g ≡ marks h → (p : Place) → In p → is_hoisted_at more g p.identifier
      ≡ is_hoisted_at env h p.identifier
  hoisted_same h g e p there = ap (λ (o : Option DeclarationId).
      option_map_or (λ (d : DeclarationId). is_some (access_at g d)) o false) (agrees.declarations p.identifier there)
      ∙ by_declaration (declaration_of env p.identifier)
    where
      by_declaration : (o : Option DeclarationId)
          → option_map_or (λ (d : DeclarationId). is_some (access_at g d)) o false
          ≡ option_map_or (λ (d : DeclarationId). is_some (access_at h d)) o false
      by_declaration None = refl
      by_declaration (Some d) = hoisted_by_marks h g e d

  declare_same : (h g : Accesses) → marks g ≡ marks h → (l : Place) (variable : LValue) → In variable.place
      → declare_context_effects more g l variable ≡ declare_context_effects env h l variable
  declare_same h g e l variable there =
      ap (λ (b : Bool). let es : List AliasingEffect =
      binding_effect (not (is_hoisting variable.kind) && b) variable.place ∷ created l Primitive ∷ [] in es)
      (hoisted_same h g e variable.place there)

  context_store_same : (h g : Accesses) → marks g ≡ marks h → (l : Place) (variable : LValue) (v : Place)
      → In variable.place → store_context_effects more g l variable v ≡ store_context_effects env h l variable v
  context_store_same h g e l variable v there =
      ap (λ (b : Bool). let es : List AliasingEffect = binding_effect (is_reassigning variable.kind || b) variable.place
      ∷ Capture v variable.place ∷ Assign v l ∷ [] in es) (hoisted_same h g e variable.place there)

  memoize_same : (l : Place) (operands : List Place) → memoize_effects more l operands ≡ memoize_effects env l operands
  memoize_same l operands = ap (λ (c : Config). let es : List AliasingEffect =
      (if c.enable_preserve_existing_memoization_guarantees then map frozen operands else []) ++ created l Primitive
      ∷ [] in es) agrees.config

  -- ---- all kinds

  -- facts that say the same of hoisted declarations and spreads
  module _ (facts other : FunctionFacts) (hoisted : marks other.hoisted ≡ marks facts.hoisted)
      (spreads : other.spreads ≡ facts.spreads) (error : Option ReportId) where
    abbrev SameEffects : Place → Option Span → InstructionValue → Type 0
    SameEffects l span v = signature_of_value (known more other error) l span v
        ≡ signature_of_value (known env facts error) l span v

    destructure_same : (l : Place) (p : Pattern) (v : Place) → AllByRecursion In (places_in_pattern p)
        → destructure_effects more other.spreads l p v ≡ destructure_effects env facts.spreads l p v
    destructure_same l p v h =
        ap (λ (ss : List ℕ). destructure_effects more ss l p v) spreads
        ∙ ap (λ (es : List AliasingEffect). es ++ Assign v l ∷ []) (pattern_same facts.spreads v p h)

    -- an instruction that creates no function
    pub same_effects : (l : Place) (span : Option Span) (v : InstructionValue) → In l → AllByRecursion In (places_of v)
        → created_function v ≡ None → SameEffects l span v
    same_effects l span (value.ArrayExpression elements) i h n = array_same l elements h
    same_effects l span (value.NewExpression callee args) i h n = call_same callee callee false args l span h.0
    same_effects l span (value.CallExpression callee args) i h n = call_same callee callee true args l span h.0
    same_effects l span (value.MethodCall receiver name args) i h n = call_same receiver name false args l span h.1.0
    same_effects l span (value.PropertyLoad object) i h n = load_same l object i
    same_effects l span (value.ComputedLoad object name) i h n = load_same l object i
    same_effects l span (value.PropertyStore object name v) i h n = store_same l object name v h.0
    same_effects l span (value.FunctionExpression lowered) i h n = cc
    same_effects l span (value.ObjectMethod lowered) i h n = cc
    same_effects l span (value.GetIterator collection) i h n = iterator_same l collection h.0
    same_effects l span (value.JsxExpression tag props children) i h n =
        ap (λ (es : List AliasingEffect). jsx_effects l (owned_operands (value.JsxExpression tag props children)) ++ es)
        (render_same tag props children (front_of In (tag_places tag) (flat_map attribute_places props)
        (front_of In (tag_places tag ++ flat_map attribute_places props) children h).0).1)
    same_effects l span (value.Destructure variables v) i h n =
        destructure_same l variables.pattern v (front_of In (places_in_pattern variables.pattern) (v ∷ []) h).0
    same_effects l span (value.DeclareContext variable) i h n =
        declare_same facts.hoisted other.hoisted hoisted l variable h.0
    same_effects l span (value.StoreContext variable v) i h n =
        context_store_same facts.hoisted other.hoisted hoisted l variable v h.0
    same_effects l span (value.StartMemoize deps) i h n = memoize_same l deps
    same_effects l span (value.FinishMemoize decl) i h n = memoize_same l (decl ∷ [])
    same_effects l span v i h n = refl

-- an instruction that creates a function
pub creates_by_function : (k : Known) (l : Place) (span : Option Span) (v : InstructionValue) (f : FunctionId)
    → created_function v ≡ Some f → signature_of_value k l span v ≡ function_effects k.env l f
creates_by_function k l span (value.FunctionExpression lowered) f h = let is : lowered.func ≡ f = cc in
    ap (function_effects k.env l) is
creates_by_function k l span (value.ObjectMethod lowered) f h = let is : lowered.func ≡ f = cc in
    ap (function_effects k.env l) is
creates_by_function k l span v f h = cc
