-- Without the effects of places, instructions and terminals have the identifiers, the functions and the blocks that
-- they had.
use Rattle.std.specs.Prelude.{◌≡◌, List, [], ◌∷◌, ◌++◌, Option, None, Some, length, map, refl, suc}
use Rattle.std.specs.List.{flat_map}
use Rattle.std.proofs.Common.{ap, sym, ◌∙◌}
use Rattle.std.proofs.lemmas.List.{map-append}
use Rattle.alias_base.specs.declared.ids.BlockId.{BlockId}
use Rattle.alias_rules.specs.function_rules.Rules.{handler_of, argument_count}
use Rattle.alias_hir.specs.Parts.{optional_place, arg_places, element_places, property_places, item_places}
use Rattle.alias_hir.specs.Parts.{target_places, pattern_places, places_in_pattern, attribute_places}
use Rattle.alias_hir.specs.Terminals.{evaluation_order, case_places, terminal_places, successors, terminal_effects}
use Rattle.alias_hir.specs.Terminals.{with_terminal_effects}
use Rattle.alias_hir.specs.Values.{places_of, created}
use Rattle.alias_hir.specs.declared.place.Place.{Place}
use Rattle.alias_hir.specs.declared.place.PlaceOrSpread.{PlaceOrSpread}
use Rattle.alias_hir.specs.declared.place.PlaceOrSpread.TheVariants as arg
use Rattle.alias_hir.specs.declared.terminal.SwitchCase.{SwitchCase}
use Rattle.alias_hir.specs.declared.terminal.Terminal.{Terminal}
use Rattle.alias_hir.specs.declared.terminal.Terminal.TheVariants as terminal
use Rattle.alias_hir.specs.declared.value.ArrayElement.{ArrayElement}
use Rattle.alias_hir.specs.declared.value.ArrayElement.TheVariants as element
use Rattle.alias_hir.specs.declared.value.ArrayPatternElement.{ArrayPatternElement}
use Rattle.alias_hir.specs.declared.value.ArrayPatternElement.TheVariants as item
use Rattle.alias_hir.specs.declared.value.InstructionValue.{InstructionValue}
use Rattle.alias_hir.specs.declared.value.InstructionValue.TheVariants as value
use Rattle.alias_hir.specs.declared.value.JsxAttribute.{JsxAttribute}
use Rattle.alias_hir.specs.declared.value.JsxAttribute.TheVariants as attribute
use Rattle.alias_hir.specs.declared.value.JsxTag.{JsxTag}
use Rattle.alias_hir.specs.declared.value.JsxTag.TheVariants as tag
use Rattle.alias_hir.specs.declared.value.ObjectPropertyOrSpread.{ObjectPropertyOrSpread}
use Rattle.alias_hir.specs.declared.value.ObjectPropertyOrSpread.TheVariants as property
use Rattle.alias_hir.specs.declared.value.Pattern.{Pattern}
use Rattle.alias_hir.specs.declared.value.Pattern.TheVariants as pattern
use Rattle.alias_visit.specs.Rebuilt.{rest, with_places, with_args, with_elements, with_key, after_key, with_properties}
use Rattle.alias_visit.specs.Rebuilt.{with_attributes, after_attributes, with_items, with_targets, with_pattern}
use Rattle.alias_visit.specs.Rebuilt.{with_cases}
use Rattle.alias_range_pass.specs.places.Keeping.{but_effect, but_value, but_terminal}
use Rattle.alias_fitting_laws.specs.bare.Bare.{ids}

-- ---- the parts of values

-- the identifiers of places, and then of others
pub ids_append : (ps qs : List Place) → ids (ps ++ qs) ≡ ids ps ++ ids qs
ids_append ps qs = map-append (λ (p : Place). p.identifier.0) ps qs

-- places without their effects have the identifiers that they had
pub effects_ids : (ps : List Place) → ids (map but_effect ps) ≡ ids ps
effects_ids [] = refl
effects_ids (p ∷ ps) = ap (λ z. p.identifier.0 ∷ z) (effects_ids ps)

places_ids : (ps : List Place) → ids (with_places ps (map but_effect ps)) ≡ ids ps
places_ids [] = refl
places_ids (p ∷ ps) = ap (λ z. p.identifier.0 ∷ z) (places_ids ps)

args_ids : (xs : List PlaceOrSpread) → ids
    (flat_map arg_places (with_args xs (map but_effect (flat_map arg_places xs)))) ≡ ids (flat_map arg_places xs)
args_ids [] = refl
args_ids (arg.Place p ∷ xs) = ap (λ z. p.identifier.0 ∷ z) (args_ids xs)
args_ids (arg.Spread s ∷ xs) = ap (λ z. s.place.identifier.0 ∷ z) (args_ids xs)

args_count : (xs : List PlaceOrSpread) (ps : List Place) → length (with_args xs ps) ≡ length xs
args_count [] ps = refl
args_count (arg.Place p ∷ xs) ps = ap suc (args_count xs (rest ps))
args_count (arg.Spread s ∷ xs) ps = ap suc (args_count xs (rest ps))

elements_ids : (xs : List ArrayElement) → ids
    (flat_map element_places (with_elements xs (map but_effect (flat_map element_places xs))))
    ≡ ids (flat_map element_places xs)
elements_ids [] = refl
elements_ids (element.Place p ∷ xs) = ap (λ z. p.identifier.0 ∷ z) (elements_ids xs)
elements_ids (element.Spread s ∷ xs) = ap (λ z. s.place.identifier.0 ∷ z) (elements_ids xs)
elements_ids (element.Hole ∷ xs) = elements_ids xs

-- the properties have the identifiers that they had
abbrev PropertiesSame : List ObjectPropertyOrSpread → Type 0
PropertiesSame xs = ids (flat_map property_places (with_properties xs (map but_effect (flat_map property_places xs))))
    ≡ ids (flat_map property_places xs)

property_ids : (key : Option Place) (q : Place) (xs : List ObjectPropertyOrSpread) → PropertiesSame xs
    → PropertiesSame (property.Property (record { computed = key; place = q }) ∷ xs)
property_ids None q xs h = ap (λ z. q.identifier.0 ∷ z) h
property_ids (Some k) q xs h = ap (λ z. k.identifier.0 ∷ q.identifier.0 ∷ z) h

properties_ids : (xs : List ObjectPropertyOrSpread) → PropertiesSame xs
properties_ids [] = refl
properties_ids (property.Property p ∷ xs) = property_ids p.computed p.place xs (properties_ids xs)
properties_ids (property.Spread s ∷ xs) = ap (λ z. s.place.identifier.0 ∷ z) (properties_ids xs)

items_ids : (xs : List ArrayPatternElement)
    → ids (flat_map item_places (with_items xs (map but_effect (flat_map item_places xs))))
    ≡ ids (flat_map item_places xs)
items_ids [] = refl
items_ids (item.Place p ∷ xs) = ap (λ z. p.identifier.0 ∷ z) (items_ids xs)
items_ids (item.Spread s ∷ xs) = ap (λ z. s.place.identifier.0 ∷ z) (items_ids xs)
items_ids (item.Hole ∷ xs) = items_ids xs

-- what the properties of a pattern assign to has the identifiers that it had, and a computed key stays as it is
abbrev TargetsSame : List ObjectPropertyOrSpread → Type 0
TargetsSame xs = ids (flat_map property_places (with_targets xs (map but_effect (flat_map target_places xs))))
    ≡ ids (flat_map property_places xs)

target_ids : (key : Option Place) (q : Place) (xs : List ObjectPropertyOrSpread) → TargetsSame xs
    → TargetsSame (property.Property (record { computed = key; place = q }) ∷ xs)
target_ids None q xs h = ap (λ z. q.identifier.0 ∷ z) h
target_ids (Some k) q xs h = ap (λ z. k.identifier.0 ∷ q.identifier.0 ∷ z) h

targets_ids : (xs : List ObjectPropertyOrSpread) → TargetsSame xs
targets_ids [] = refl
targets_ids (property.Property p ∷ xs) = target_ids p.computed p.place xs (targets_ids xs)
targets_ids (property.Spread s ∷ xs) = ap (λ z. s.place.identifier.0 ∷ z) (targets_ids xs)

pattern_ids : (p : Pattern) → ids (places_in_pattern (with_pattern p (map but_effect (pattern_places p))))
    ≡ ids (places_in_pattern p)
pattern_ids (pattern.Array p) = items_ids p.items
pattern_ids (pattern.Object p) = targets_ids p.properties

destructured_ids : (p : Pattern) (x : Place)
    → ids (places_in_pattern (with_pattern p (map but_effect (pattern_places p))) ++ but_effect x ∷ [])
    ≡ ids (places_in_pattern p ++ x ∷ [])
destructured_ids p x =
    ids_append (places_in_pattern (with_pattern p (map but_effect (pattern_places p)))) (but_effect x ∷ [])
    ∙ ap (λ z. z ++ x.identifier.0 ∷ []) (pattern_ids p)
    ∙ sym (ids_append (places_in_pattern p) (x ∷ []))

-- attributes, and the children behind them
attributes_ids : (xs : List JsxAttribute) (ps : List Place)
    → ids (flat_map attribute_places (with_attributes xs (map but_effect (flat_map attribute_places xs ++ ps)))
    ++ with_places ps (after_attributes xs (map but_effect (flat_map attribute_places xs ++ ps))))
    ≡ ids (flat_map attribute_places xs ++ ps)
attributes_ids [] ps = places_ids ps
attributes_ids (attribute.Attribute p ∷ xs) ps = ap (λ z. p.identifier.0 ∷ z) (attributes_ids xs ps)
attributes_ids (attribute.Spread p ∷ xs) ps = ap (λ z. p.identifier.0 ∷ z) (attributes_ids xs ps)

element_ids : (t : JsxTag) (xs : List JsxAttribute) (ps : List Place)
    → ids (places_of (but_value (value.JsxExpression t xs ps))) ≡ ids (places_of (value.JsxExpression t xs ps))
element_ids (tag.Place p) xs ps = ap (λ z. p.identifier.0 ∷ z) (attributes_ids xs ps)
element_ids tag.Builtin xs ps = attributes_ids xs ps

-- ---- values

-- the places have the identifiers that they had
pub value_ids : (v : InstructionValue) → ids (places_of (but_value v)) ≡ ids (places_of v)
value_ids (value.ArrayExpression elements) = elements_ids elements
value_ids (value.ObjectExpression properties) = properties_ids properties
value_ids (value.NewExpression callee args) = ap (λ z. callee.identifier.0 ∷ z) (args_ids args)
value_ids (value.CallExpression callee args) = ap (λ z. callee.identifier.0 ∷ z) (args_ids args)
value_ids (value.MethodCall receiver property args) =
    ap (λ z. receiver.identifier.0 ∷ property.identifier.0 ∷ z) (args_ids args)
value_ids (value.JsxExpression t props children) = element_ids t props children
value_ids (value.JsxFragment children) = places_ids children
value_ids (value.Destructure lvalue x) = destructured_ids lvalue.pattern x
value_ids (value.StartMemoize deps) = places_ids deps
value_ids (value.TemplateLiteral subexprs) = places_ids subexprs
value_ids v = refl

-- the value creates the function that it created
pub value_creates : (v : InstructionValue) → created (but_value v) ≡ created v
value_creates (value.FunctionExpression lowered) = refl
value_creates v = refl

-- a call has as many arguments as it had
pub value_arguments : (v : InstructionValue) → argument_count (but_value v) ≡ argument_count v
value_arguments (value.NewExpression callee args) = args_count args (map but_effect (flat_map arg_places args))
value_arguments (value.CallExpression callee args) = args_count args (map but_effect (flat_map arg_places args))
value_arguments (value.MethodCall receiver property args) = args_count args (map but_effect (flat_map arg_places args))
value_arguments v = refl

-- ---- terminals

-- the tests of the cases have the identifiers that they had
abbrev CasesSame : List SwitchCase → Type 0
CasesSame cs = ids (flat_map case_places (with_cases cs (map but_effect (flat_map case_places cs))))
    ≡ ids (flat_map case_places cs)

case_ids : (test : Option Place) (b : BlockId) (cs : List SwitchCase) → CasesSame cs
    → CasesSame (record { test = test; block = b } ∷ cs)
case_ids None b cs h = h
case_ids (Some p) b cs h = ap (λ z. p.identifier.0 ∷ z) h

cases_ids : (cs : List SwitchCase) → CasesSame cs
cases_ids [] = refl
cases_ids (c ∷ cs) = case_ids c.test c.block cs (cases_ids cs)

cases_blocks : (cs : List SwitchCase) (ps : List Place) → map (λ (c : SwitchCase). c.block) (with_cases cs ps)
    ≡ map (λ (c : SwitchCase). c.block) cs
cases_blocks [] ps = refl
cases_blocks (c ∷ cs) ps = ap (λ z. c.block ∷ z) (cases_blocks cs (after_key c.test ps))

binding_ids : (o : Option Place) → ids (optional_place (with_key o (map but_effect (optional_place o))))
    ≡ ids (optional_place o)
binding_ids None = refl
binding_ids (Some p) = refl

-- the places have the identifiers that they had
pub terminal_ids : (t : Terminal) → ids (terminal_places (but_terminal t)) ≡ ids (terminal_places t)
terminal_ids (terminal.Switch id test cases) = ap (λ z. test.identifier.0 ∷ z) (cases_ids cases)
terminal_ids (terminal.Try id block handler binding) = binding_ids binding
terminal_ids t = refl

-- control goes on to the blocks that it went on to
pub terminal_successors : (t : Terminal) → successors (but_terminal t) ≡ successors t
terminal_successors (terminal.Switch id test cases) = cases_blocks cases (map but_effect (flat_map case_places cases))
terminal_successors t = refl

-- exceptions go to the block that they went to
pub terminal_handler : (t : Terminal) → handler_of (but_terminal t) ≡ handler_of t
terminal_handler (terminal.Try id block handler binding) = refl
terminal_handler t = refl

-- its position is what it was
pub terminal_order : (t : Terminal) → evaluation_order (but_terminal t) ≡ evaluation_order t
terminal_order (terminal.Goto id block) = refl
terminal_order t = refl

-- what is recorded of it stays
pub terminal_records : (t : Terminal) → terminal_effects (but_terminal t) ≡ terminal_effects t
terminal_records (terminal.Return id x effects) = refl
terminal_records t = refl

-- effects of places and effects of the terminal are taken away in any order
pub terminal_without : (t : Terminal) → but_terminal (with_terminal_effects t [])
    ≡ with_terminal_effects (but_terminal t) []
terminal_without (terminal.Return id x effects) = refl
terminal_without t = refl
