-- Changing each place in one way and then in another is changing it in both.
use Rattle.std.specs.Prelude.{◌≡◌, List, [], ◌∷◌, ◌++◌, Option, None, Some, map, refl}
use Rattle.std.proofs.Common.{ap, sym, ◌∙◌}
use Rattle.std.specs.List.{flat_map}
use Rattle.alias_hir.specs.Parts.{optional_place, arg_places, element_places, property_places, item_places}
use Rattle.alias_hir.specs.Parts.{target_places, pattern_places, attribute_places}
use Rattle.alias_hir.specs.Terminals.{case_places}
use Rattle.alias_hir.specs.declared.place.Place.{Place}
use Rattle.alias_hir.specs.declared.place.PlaceOrSpread.{PlaceOrSpread}
use Rattle.alias_hir.specs.declared.place.PlaceOrSpread.TheVariants as arg
use Rattle.alias_hir.specs.declared.terminal.SwitchCase.{SwitchCase}
use Rattle.alias_hir.specs.declared.terminal.Terminal.{Terminal}
use Rattle.alias_hir.specs.declared.terminal.Terminal.TheVariants as terminal
use Rattle.alias_hir.specs.declared.value.ArrayElement.{ArrayElement}
use Rattle.alias_hir.specs.declared.value.ArrayElement.TheVariants as element
use Rattle.alias_hir.specs.declared.value.ArrayPatternElement.{ArrayPatternElement}
use Rattle.alias_hir.specs.declared.value.ArrayPatternElement.TheVariants as item
use Rattle.alias_hir.specs.declared.value.InstructionValue.TheVariants as value
use Rattle.alias_hir.specs.declared.value.JsxAttribute.{JsxAttribute}
use Rattle.alias_hir.specs.declared.value.JsxAttribute.TheVariants as attribute
use Rattle.alias_hir.specs.declared.value.JsxTag.{JsxTag}
use Rattle.alias_hir.specs.declared.value.JsxTag.TheVariants as tag
use Rattle.alias_hir.specs.declared.value.ObjectPropertyOrSpread.{ObjectPropertyOrSpread}
use Rattle.alias_hir.specs.declared.value.ObjectPropertyOrSpread.TheVariants as property
use Rattle.alias_hir.specs.declared.value.Pattern.{Pattern}
use Rattle.alias_hir.specs.declared.value.Pattern.TheVariants as pattern
use Rattle.alias_visit.specs.Rebuilt.{with_places, with_args, with_elements, with_key, after_key, with_properties}
use Rattle.alias_visit.specs.Rebuilt.{with_attributes, after_attributes, with_items, with_targets, with_pattern}
use Rattle.alias_visit.specs.Rebuilt.{with_cases}
use Rattle.alias_range_pass.specs.places.Mapped.{map_operands, map_terminal}

-- ---- parts with each place changed

abbrev pub map_key : (Place → Place) → Option Place → Option Place
map_key f None = None
map_key f (Some p) = Some (f p)

abbrev pub map_places : (Place → Place) → List Place → List Place
map_places f xs = with_places xs (map f xs)

abbrev pub map_args : (Place → Place) → List PlaceOrSpread → List PlaceOrSpread
map_args f xs = with_args xs (map f (flat_map arg_places xs))

abbrev pub map_elements : (Place → Place) → List ArrayElement → List ArrayElement
map_elements f xs = with_elements xs (map f (flat_map element_places xs))

abbrev pub map_properties : (Place → Place) → List ObjectPropertyOrSpread → List ObjectPropertyOrSpread
map_properties f xs = with_properties xs (map f (flat_map property_places xs))

abbrev pub map_items : (Place → Place) → List ArrayPatternElement → List ArrayPatternElement
map_items f xs = with_items xs (map f (flat_map item_places xs))

abbrev pub map_targets : (Place → Place) → List ObjectPropertyOrSpread → List ObjectPropertyOrSpread
map_targets f xs = with_targets xs (map f (flat_map target_places xs))

abbrev pub map_pattern : (Place → Place) → Pattern → Pattern
map_pattern f p = with_pattern p (map f (pattern_places p))

abbrev pub map_cases : (Place → Place) → List SwitchCase → List SwitchCase
map_cases f cs = with_cases cs (map f (flat_map case_places cs))

abbrev pub map_tag : (Place → Place) → JsxTag → JsxTag
map_tag f (tag.Place p) = tag.Place (f p)
map_tag f tag.Builtin = tag.Builtin

abbrev pub map_attribute : (Place → Place) → JsxAttribute → JsxAttribute
map_attribute f (attribute.Attribute p) = attribute.Attribute (f p)
map_attribute f (attribute.Spread p) = attribute.Spread (f p)

-- ---- the next of several parts

one_property : (f : Place → Place) (c : Option Place) (q : Place) (xs : List ObjectPropertyOrSpread)
    → with_properties (property.Property (record { computed = c; place = q }) ∷ xs)
    (map f ((optional_place c ++ q ∷ []) ++ flat_map property_places xs))
    ≡ property.Property (record { computed = map_key f c; place = f q }) ∷ map_properties f xs
one_property f None q xs = refl
one_property f (Some k) q xs = refl

one_case : (f : Place → Place) (o : Option Place) (c : SwitchCase) (cs : List SwitchCase)
    → (record c { test = with_key o (map f (optional_place o ++ flat_map case_places cs)) }
    ∷ with_cases cs (after_key o (map f (optional_place o ++ flat_map case_places cs))))
    ≡ (record c { test = map_key f o } ∷ map_cases f cs)
one_case f None c cs = refl
one_case f (Some p) c cs = refl

next_case : (f : Place → Place) (c : SwitchCase) (cs : List SwitchCase) → map_cases f (c ∷ cs)
    ≡ record c { test = map_key f c.test } ∷ map_cases f cs
next_case f c cs = one_case f c.test c cs

attributes_by : (f : Place → Place) (xs : List JsxAttribute) (ys : List Place)
    → with_attributes xs (map f (flat_map attribute_places xs ++ ys)) ≡ map (map_attribute f) xs
attributes_by f [] ys = refl
attributes_by f (attribute.Attribute p ∷ xs) ys = ap (λ z. attribute.Attribute (f p) ∷ z) (attributes_by f xs ys)
attributes_by f (attribute.Spread p ∷ xs) ys = ap (λ z. attribute.Spread (f p) ∷ z) (attributes_by f xs ys)

after_by : (f : Place → Place) (xs : List JsxAttribute) (ys : List Place)
    → after_attributes xs (map f (flat_map attribute_places xs ++ ys)) ≡ map f ys
after_by f [] ys = refl
after_by f (attribute.Attribute p ∷ xs) ys = after_by f xs ys
after_by f (attribute.Spread p ∷ xs) ys = after_by f xs ys

jsx_by : (f : Place → Place) (t : JsxTag) (xs : List JsxAttribute) (cs : List Place)
    → map_operands f (value.JsxExpression t xs cs)
    ≡ value.JsxExpression (map_tag f t) (map (map_attribute f) xs) (map_places f cs)
jsx_by f (tag.Place p) xs cs =
    ap (λ z. value.JsxExpression (tag.Place (f p)) z
    (with_places cs (after_attributes xs (map f (flat_map attribute_places xs ++ cs))))) (attributes_by f xs cs)
    ∙ ap (λ z. value.JsxExpression (tag.Place (f p)) (map (map_attribute f) xs) (with_places cs z)) (after_by f xs cs)
jsx_by f tag.Builtin xs cs =
    ap (λ z. value.JsxExpression tag.Builtin z
    (with_places cs (after_attributes xs (map f (flat_map attribute_places xs ++ cs))))) (attributes_by f xs cs)
    ∙ ap (λ z. value.JsxExpression tag.Builtin (map (map_attribute f) xs) (with_places cs z)) (after_by f xs cs)

-- ---- twice

module _ (h e : Place → Place) where
  abbrev both : Place → Place
  both p = e (h p)

  key_twice : (o : Option Place) → map_key e (map_key h o) ≡ map_key both o
  key_twice None = refl
  key_twice (Some p) = refl

  pub places_twice : (xs : List Place) → map_places e (map_places h xs) ≡ map_places both xs
  places_twice [] = refl
  places_twice (x ∷ xs) = ap (λ z. e (h x) ∷ z) (places_twice xs)

  pub args_twice : (xs : List PlaceOrSpread) → map_args e (map_args h xs) ≡ map_args both xs
  args_twice [] = refl
  args_twice (arg.Place p ∷ xs) = ap (λ z. arg.Place (e (h p)) ∷ z) (args_twice xs)
  args_twice (arg.Spread s ∷ xs) = ap (λ z. arg.Spread (record { place = e (h s.place) }) ∷ z) (args_twice xs)

  pub elements_twice : (xs : List ArrayElement) → map_elements e (map_elements h xs) ≡ map_elements both xs
  elements_twice [] = refl
  elements_twice (element.Place p ∷ xs) = ap (λ z. element.Place (e (h p)) ∷ z) (elements_twice xs)
  elements_twice (element.Spread s ∷ xs) =
      ap (λ z. element.Spread (record { place = e (h s.place) }) ∷ z) (elements_twice xs)
  elements_twice (element.Hole ∷ xs) = ap (λ z. element.Hole ∷ z) (elements_twice xs)

  property_twice : (c : Option Place) (q : Place) (xs : List ObjectPropertyOrSpread)
      → map_properties e (map_properties h xs) ≡ map_properties both xs
      → map_properties e (map_properties h (property.Property (record { computed = c; place = q }) ∷ xs))
      ≡ map_properties both (property.Property (record { computed = c; place = q }) ∷ xs)
  property_twice c q xs same =
      ap (map_properties e) (one_property h c q xs)
      ∙ one_property e (map_key h c) (h q) (map_properties h xs)
      ∙ ap (λ z. property.Property (record { computed = z; place = e (h q) }) ∷ map_properties e (map_properties h xs))
      (key_twice c)
      ∙ ap (λ z. property.Property (record { computed = map_key both c; place = e (h q) }) ∷ z) same
      ∙ sym (one_property both c q xs)

  pub properties_twice : (xs : List ObjectPropertyOrSpread) → map_properties e (map_properties h xs)
      ≡ map_properties both xs
  properties_twice [] = refl
  properties_twice (property.Property p ∷ xs) = property_twice p.computed p.place xs (properties_twice xs)
  properties_twice (property.Spread s ∷ xs) =
      ap (λ z. property.Spread (record { place = e (h s.place) }) ∷ z) (properties_twice xs)

  items_twice : (xs : List ArrayPatternElement) → map_items e (map_items h xs) ≡ map_items both xs
  items_twice [] = refl
  items_twice (item.Place p ∷ xs) = ap (λ z. item.Place (e (h p)) ∷ z) (items_twice xs)
  items_twice (item.Spread s ∷ xs) = ap (λ z. item.Spread (record { place = e (h s.place) }) ∷ z) (items_twice xs)
  items_twice (item.Hole ∷ xs) = ap (λ z. item.Hole ∷ z) (items_twice xs)

  targets_twice : (xs : List ObjectPropertyOrSpread) → map_targets e (map_targets h xs) ≡ map_targets both xs
  targets_twice [] = refl
  targets_twice (property.Property p ∷ xs) =
      ap (λ z. property.Property (record { computed = p.computed; place = e (h p.place) }) ∷ z) (targets_twice xs)
  targets_twice (property.Spread s ∷ xs) =
      ap (λ z. property.Spread (record { place = e (h s.place) }) ∷ z) (targets_twice xs)

  pub pattern_twice : (p : Pattern) → map_pattern e (map_pattern h p) ≡ map_pattern both p
  pattern_twice (pattern.Array p) = ap (λ z. pattern.Array (record { items = z })) (items_twice p.items)
  pattern_twice (pattern.Object p) = ap (λ z. pattern.Object (record { properties = z })) (targets_twice p.properties)

  tag_twice : (t : JsxTag) → map_tag e (map_tag h t) ≡ map_tag both t
  tag_twice (tag.Place p) = refl
  tag_twice tag.Builtin = refl

  attributes_twice : (xs : List JsxAttribute) → map (map_attribute e) (map (map_attribute h) xs)
      ≡ map (map_attribute both) xs
  attributes_twice [] = refl
  attributes_twice (attribute.Attribute p ∷ xs) = ap (λ z. attribute.Attribute (e (h p)) ∷ z) (attributes_twice xs)
  attributes_twice (attribute.Spread p ∷ xs) = ap (λ z. attribute.Spread (e (h p)) ∷ z) (attributes_twice xs)

  pub jsx_twice : (t : JsxTag) (xs : List JsxAttribute) (cs : List Place)
      → map_operands e (map_operands h (value.JsxExpression t xs cs)) ≡ map_operands both (value.JsxExpression t xs cs)
  jsx_twice t xs cs =
      ap (map_operands e) (jsx_by h t xs cs)
      ∙ jsx_by e (map_tag h t) (map (map_attribute h) xs) (map_places h cs)
      ∙ ap (λ z. value.JsxExpression z (map (map_attribute e) (map (map_attribute h) xs))
      (map_places e (map_places h cs))) (tag_twice t)
      ∙ ap (λ z. value.JsxExpression (map_tag both t) z (map_places e (map_places h cs))) (attributes_twice xs)
      ∙ ap (λ z. value.JsxExpression (map_tag both t) (map (map_attribute both) xs) z) (places_twice cs)
      ∙ sym (jsx_by both t xs cs)

  binding_twice : (o : Option Place) → with_key (with_key o (map h (optional_place o)))
      (map e (optional_place (with_key o (map h (optional_place o))))) ≡ with_key o (map both (optional_place o))
  binding_twice None = refl
  binding_twice (Some p) = refl

  cases_twice : (cs : List SwitchCase) → map_cases e (map_cases h cs) ≡ map_cases both cs
  cases_twice [] = refl
  cases_twice (c ∷ cs) =
      ap (map_cases e) (next_case h c cs)
      ∙ next_case e (record c { test = map_key h c.test }) (map_cases h cs)
      ∙ ap (λ z. record c { test = z } ∷ map_cases e (map_cases h cs)) (key_twice c.test)
      ∙ ap (λ z. record c { test = map_key both c.test } ∷ z) (cases_twice cs)
      ∙ sym (next_case both c cs)

  pub terminal_twice : (t : Terminal) → map_terminal e (map_terminal h t) ≡ map_terminal both t
  terminal_twice (terminal.Switch id test cases) = ap (terminal.Switch id (e (h test))) (cases_twice cases)
  terminal_twice (terminal.Try id block handler binding) = ap (terminal.Try id block handler) (binding_twice binding)
  terminal_twice t = refl

-- ---- what is assigned

items_back : (f : Place → Place) (xs : List ArrayPatternElement) → flat_map item_places (map_items f xs)
    ≡ map f (flat_map item_places xs)
items_back f [] = refl
items_back f (item.Place p ∷ xs) = ap (λ z. f p ∷ z) (items_back f xs)
items_back f (item.Spread s ∷ xs) = ap (λ z. f s.place ∷ z) (items_back f xs)
items_back f (item.Hole ∷ xs) = items_back f xs

targets_back : (f : Place → Place) (xs : List ObjectPropertyOrSpread) → flat_map target_places (map_targets f xs)
    ≡ map f (flat_map target_places xs)
targets_back f [] = refl
targets_back f (property.Property p ∷ xs) = ap (λ z. f p.place ∷ z) (targets_back f xs)
targets_back f (property.Spread s ∷ xs) = ap (λ z. f s.place ∷ z) (targets_back f xs)

-- a changed pattern assigns the changed places
pub pattern_back : (f : Place → Place) (p : Pattern) → pattern_places (map_pattern f p) ≡ map f (pattern_places p)
pattern_back f (pattern.Array p) = items_back f p.items
pattern_back f (pattern.Object p) = targets_back f p.properties
