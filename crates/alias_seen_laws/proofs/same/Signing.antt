-- The effects that the signatures of instructions have are the same beside, where these create no function.
use Rattle.std.specs.Prelude.{◌≡◌, ◌&&◌, ◌||◌, not, Bool, false, ℕ, List, [], ◌∷◌, ◌++◌, Option, Some, None, is_some}
use Rattle.std.specs.Prelude.{map, refl, if◌then◌else◌}
use Rattle.std.specs.List.{flat_map}
use Rattle.std.specs.Option.{option_map_or}
use Rattle.std.proofs.Common.{ap}
use Rattle.alias_base.specs.declared.ids.DeclarationId.{DeclarationId}
use Rattle.alias_base.specs.declared.ids.TypeId.{TypeId}
use Rattle.alias_facts.specs.Hoisted.{Accesses, access_at, is_hoisting}
use Rattle.alias_hir.specs.Parts.{tag_places}
use Rattle.alias_hir.specs.declared.effect.AliasingEffect.{AliasingEffect}
use Rattle.alias_hir.specs.declared.effect.AliasingEffect.TheVariants.{Apply, CreateFrom, Assign, Capture, Alias}
use Rattle.alias_hir.specs.declared.effect.AliasingEffect.TheVariants.{Render, MutateTransitiveConditionally}
use Rattle.alias_hir.specs.declared.effect.MutationReason.{MutationReason}
use Rattle.alias_hir.specs.declared.effect.MutationReason.TheVariants.{AssignCurrentProperty}
use Rattle.alias_hir.specs.declared.effect.ValueKind.TheVariants.{Primitive, Mutable}
use Rattle.alias_hir.specs.declared.env.Environment.{Environment}
use Rattle.alias_hir.specs.declared.place.Place.{Place}
use Rattle.alias_hir.specs.declared.place.PlaceOrSpread.{PlaceOrSpread}
use Rattle.alias_hir.specs.declared.place.Span.{Span}
use Rattle.alias_hir.specs.declared.value.ArrayElement.{ArrayElement}
use Rattle.alias_hir.specs.declared.value.ArrayElement.TheVariants as element
use Rattle.alias_hir.specs.declared.value.ArrayPatternElement.{ArrayPatternElement}
use Rattle.alias_hir.specs.declared.value.ArrayPatternElement.TheVariants as item
use Rattle.alias_hir.specs.declared.value.JsxAttribute.{JsxAttribute}
use Rattle.alias_hir.specs.declared.value.JsxAttribute.TheVariants as attribute
use Rattle.alias_hir.specs.declared.value.JsxTag.{JsxTag}
use Rattle.alias_hir.specs.declared.value.LValue.{LValue}
use Rattle.alias_hir.specs.declared.value.ObjectPropertyOrSpread.{ObjectPropertyOrSpread}
use Rattle.alias_hir.specs.declared.value.ObjectPropertyOrSpread.TheVariants as property
use Rattle.alias_hir.specs.declared.value.Pattern.{Pattern}
use Rattle.alias_hir.specs.declared.value.Pattern.TheVariants as pattern
use Rattle.alias_hir.specs.declared.value.PropertyLiteral.{PropertyLiteral}
use Rattle.alias_signature.specs.Arrays.{element_effects, array_expression_effects}
use Rattle.alias_signature.specs.Calls.{argument, call_effects}
use Rattle.alias_signature.specs.Contexts.{is_hoisted_at, is_reassigning, binding_effect, declare_context_effects}
use Rattle.alias_signature.specs.Contexts.{store_context_effects}
use Rattle.alias_signature.specs.Created.{created}
use Rattle.alias_signature.specs.Iterators.{iteration_effects, get_iterator_effects}
use Rattle.alias_signature.specs.Jsx.{attribute_effects, render_effects}
use Rattle.alias_signature.specs.Loads.{property_load_effects}
use Rattle.alias_signature.specs.Patterns.{target_effects, item_effects, target_property_effects, pattern_effects}
use Rattle.alias_signature.specs.Patterns.{destructure_effects}
use Rattle.alias_signature.specs.Stores.{is_current, store_reason}
use Rattle.alias_seen_laws.specs.Beside.{Others, with_others, DeclareSame}
use Rattle.alias_seen_laws.proofs.same.Identifiers.{type_id_same, declaration_same, collection_same, primitive_same}
use Rattle.alias_seen_laws.proofs.same.Identifiers.{untyped_same, jsx_same}

module _ (env : Environment) (z : Others) (same : DeclareSame env z) where
  abbrev there : Environment
  there = with_others env z

  -- ---- iteration and calls

  iteration_same : (p : Place) → iteration_effects there p ≡ iteration_effects env p
  iteration_same p = ap (λ b. if b then [] else MutateTransitiveConditionally p ∷ [])
      (collection_same env z same p.identifier)

  pub iterator_same : (l collection : Place)
      → get_iterator_effects there l collection ≡ get_iterator_effects env l collection
  iterator_same l collection =
      ap (λ b. created l Mutable ∷ (if b then Capture collection l ∷ []
      else Alias collection l ∷ MutateTransitiveConditionally collection ∷ []))
      (collection_same env z same collection.identifier)

  element_same : (l : Place) (x : ArrayElement) → element_effects there l x ≡ element_effects env l x
  element_same l (element.Place p) = refl
  element_same l (element.Spread s) = ap (λ (es : List AliasingEffect). es ++ Capture s.place l ∷ [])
      (iteration_same s.place)
  element_same l element.Hole = refl

  pub array_same : (l : Place) (xs : List ArrayElement)
      → array_expression_effects there l xs ≡ array_expression_effects env l xs
  array_same l xs =
      ap (λ (f : ArrayElement → List AliasingEffect). created l Mutable ∷ flat_map f xs) (λ i x. element_same l x i)

  pub call_same : (receiver function : Place) (mutates : Bool) (args : List PlaceOrSpread) (l : Place)
      (span : Option Span)
      → call_effects there receiver function mutates args l span
      ≡ call_effects env receiver function mutates args l span
  call_same receiver function mutates args l span =
      ap (λ (o : Option TypeId). Apply receiver function mutates (map argument args) l o span ∷ [])
      (type_id_same env z same function.identifier)

  -- ---- properties

  pub load_same : (l object : Place) → property_load_effects there l object ≡ property_load_effects env l object
  load_same l object = ap (λ b. if b then created l Primitive ∷ [] else CreateFrom object l ∷ [])
      (primitive_same env z same l.identifier)

  pub reason_same : (object : Place) (p : PropertyLiteral) → store_reason there object p ≡ store_reason env object p
  reason_same object p =
      ap (λ b. let o : Option MutationReason = if is_current p && b then Some AssignCurrentProperty else None in o)
      (untyped_same env z same object.identifier)

  -- ---- elements

  attribute_same : (x : JsxAttribute) → attribute_effects there x ≡ attribute_effects env x
  attribute_same (attribute.Attribute p) = ap (λ b. if b then Render p ∷ [] else []) (jsx_same env z same p.identifier)
  attribute_same (attribute.Spread p) = refl

  pub render_same : (tag : JsxTag) (props : List JsxAttribute) (children : List Place)
      → render_effects there tag props children ≡ render_effects env tag props children
  render_same tag props children =
      ap (λ (f : JsxAttribute → List AliasingEffect).
      map Render (tag_places tag) ++ map Render children ++ flat_map f props) (λ i x. attribute_same x i)

  -- ---- patterns

  target_same : (v p : Place) → target_effects there v p ≡ target_effects env v p
  target_same v p = ap (λ b. (if b then created p Primitive else CreateFrom v p) ∷ [])
      (primitive_same env z same p.identifier)

  item_same : (spreads : List ℕ) (v : Place) (x : ArrayPatternElement)
      → item_effects there spreads v x ≡ item_effects env spreads v x
  item_same spreads v (item.Place p) = target_same v p
  item_same spreads v (item.Spread s) = refl
  item_same spreads v item.Hole = refl

  property_same : (spreads : List ℕ) (v : Place) (x : ObjectPropertyOrSpread)
      → target_property_effects there spreads v x ≡ target_property_effects env spreads v x
  property_same spreads v (property.Property p) = target_same v p.place
  property_same spreads v (property.Spread s) = refl

  pattern_same : (spreads : List ℕ) (v : Place) (p : Pattern)
      → pattern_effects there spreads v p ≡ pattern_effects env spreads v p
  pattern_same spreads v (pattern.Array p) =
      ap (λ (f : ArrayPatternElement → List AliasingEffect). flat_map f p.items) (λ i x. item_same spreads v x i)
  pattern_same spreads v (pattern.Object p) =
      ap (λ (f : ObjectPropertyOrSpread → List AliasingEffect). flat_map f p.properties)
      (λ i x. property_same spreads v x i)

  pub destructure_same : (spreads : List ℕ) (l : Place) (p : Pattern) (v : Place)
      → destructure_effects there spreads l p v ≡ destructure_effects env spreads l p v
  destructure_same spreads l p v = ap (λ (es : List AliasingEffect). es ++ Assign v l ∷ []) (pattern_same spreads v p)

  -- ---- variables that nested functions use too

  hoisted_same : (hoisted : Accesses) (variable : LValue)
      → is_hoisted_at there hoisted variable.place.identifier ≡ is_hoisted_at env hoisted variable.place.identifier
  hoisted_same hoisted variable =
      ap (λ (o : Option DeclarationId). option_map_or (λ (d : DeclarationId). is_some (access_at hoisted d)) o false)
      (declaration_same env z same variable.place.identifier)

  pub declared_same : (hoisted : Accesses) (l : Place) (variable : LValue)
      → declare_context_effects there hoisted l variable ≡ declare_context_effects env hoisted l variable
  declared_same hoisted l variable =
      ap (λ b. binding_effect (not (is_hoisting variable.kind) && b) variable.place ∷ created l Primitive ∷ [])
      (hoisted_same hoisted variable)

  pub stored_same : (hoisted : Accesses) (l : Place) (variable : LValue) (v : Place)
      → store_context_effects there hoisted l variable v ≡ store_context_effects env hoisted l variable v
  stored_same hoisted l variable v =
      ap (λ b. binding_effect (is_reassigning variable.kind || b) variable.place ∷ Capture v variable.place
      ∷ Assign v l ∷ []) (hoisted_same hoisted variable)
