-- The effects of a signature speak of the places of its instruction and of the function that it creates alone, and name
-- what its kind names.
use Rattle.std.specs.Prelude.{◌≡◌, refl, ◌⊎◌, ℕ, Bool, true, false, not, ◌&&◌, ◌||◌, List, [], ◌∷◌, ◌++◌, Option, None}
use Rattle.std.specs.Prelude.{Some, map, if◌then◌else◌}
use Rattle.std.proofs.Common.{inl, inr}
use Rattle.std.specs.List.{AllByRecursion, flat_map}
use Rattle.alias_base.specs.declared.ids.FunctionId.{FunctionId}
use Rattle.alias_base.specs.declared.ids.TypeId.{TypeId}
use Rattle.alias_facts.specs.Hoisted.{is_hoisting}
use Rattle.alias_hir.specs.Effects.{effect_places, error_of, function_of, signature_of as type_of_call}
use Rattle.alias_hir.specs.Parts.{optional_place, arg_places, apply_arg_places, element_places, property_places}
use Rattle.alias_hir.specs.Parts.{item_places, places_in_pattern, tag_places, attribute_places}
use Rattle.alias_hir.specs.Types.{is_primitive_at, is_builtin_collection_at, returns_jsx_at}
use Rattle.alias_hir.specs.Values.{places_of, created as created_function}
use Rattle.alias_hir.specs.declared.effect.AliasingEffect.{AliasingEffect}
use Rattle.alias_hir.specs.declared.effect.AliasingEffect.TheVariants.{CreateFrom, Capture, Alias, Render}
use Rattle.alias_hir.specs.declared.effect.AliasingEffect.TheVariants.{MutateTransitiveConditionally, Assign}
use Rattle.alias_hir.specs.declared.effect.ValueKind.TheVariants as kind
use Rattle.alias_hir.specs.declared.env.Environment.{Environment}
use Rattle.alias_hir.specs.declared.hir.Instruction.{Instruction}
use Rattle.alias_hir.specs.declared.place.Effect.{Effect}
use Rattle.alias_hir.specs.declared.place.Effect.TheVariants as operand
use Rattle.alias_hir.specs.declared.place.Place.{Place}
use Rattle.alias_hir.specs.declared.place.PlaceOrSpread.{PlaceOrSpread}
use Rattle.alias_hir.specs.declared.place.PlaceOrSpread.TheVariants as arg
use Rattle.alias_hir.specs.declared.place.Span.{Span}
use Rattle.alias_hir.specs.declared.report.ReportId.{ReportId}
use Rattle.alias_hir.specs.declared.value.ArrayElement.{ArrayElement}
use Rattle.alias_hir.specs.declared.value.ArrayElement.TheVariants as element
use Rattle.alias_hir.specs.declared.value.ArrayPatternElement.{ArrayPatternElement}
use Rattle.alias_hir.specs.declared.value.ArrayPatternElement.TheVariants as item
use Rattle.alias_hir.specs.declared.value.InstructionValue.{InstructionValue}
use Rattle.alias_hir.specs.declared.value.InstructionValue.TheVariants as value
use Rattle.alias_hir.specs.declared.value.JsxAttribute.{JsxAttribute}
use Rattle.alias_hir.specs.declared.value.JsxAttribute.TheVariants as attribute
use Rattle.alias_hir.specs.declared.value.JsxTag.{JsxTag}
use Rattle.alias_hir.specs.declared.value.ObjectPropertyOrSpread.{ObjectPropertyOrSpread}
use Rattle.alias_hir.specs.declared.value.ObjectPropertyOrSpread.TheVariants as property
use Rattle.alias_hir.specs.declared.value.Pattern.{Pattern}
use Rattle.alias_hir.specs.declared.value.Pattern.TheVariants as pattern
use Rattle.alias_visit.specs.Operands.{context_at}
use Rattle.alias_visit.specs.Places.{created_places}
use Rattle.alias_signature.specs.Created.{created}
use Rattle.alias_signature.specs.Objects.{property_effects, object_expression_effects}
use Rattle.alias_signature.specs.Iterators.{iteration_effects}
use Rattle.alias_signature.specs.Arrays.{element_effects}
use Rattle.alias_signature.specs.Calls.{type_id_of, argument, call_effects}
use Rattle.alias_signature.specs.Functions.{captured_by, captured, function_effects}
use Rattle.alias_signature.specs.Jsx.{jsx_operand_effects, jsx_effects, attribute_effects, render_effects}
use Rattle.alias_signature.specs.Patterns.{rest_effects, item_effects, target_property_effects, pattern_effects}
use Rattle.alias_signature.specs.Contexts.{is_hoisted_at, is_reassigning, binding_effect}
use Rattle.alias_signature.specs.Memoization.{frozen}
use Rattle.alias_signature.specs.Globals.{global_effects}
use Rattle.alias_signature.specs.Known.{Known}
use Rattle.alias_signature.specs.Signatures.{signature_of_value, signature_of}

-- the function that the effect creates, and the type that has the signature of a call
abbrev pub Named : Type 0
Named = Option FunctionId × Option TypeId

abbrev pub names_of : AliasingEffect → Named
names_of e = (function_of e, type_of_call e)

-- what an instruction names by its kind
abbrev pub names_by_kind : Environment → InstructionValue → Named
names_by_kind env (value.NewExpression callee args) = (None, type_id_of env callee.identifier)
names_by_kind env (value.CallExpression callee args) = (None, type_id_of env callee.identifier)
names_by_kind env (value.MethodCall receiver property args) = (None, type_id_of env property.identifier)
names_by_kind env (value.FunctionExpression lowered) = (Some lowered.func, None)
names_by_kind env (value.ObjectMethod lowered) = (Some lowered.func, None)
names_by_kind env v = (None, None)

-- the effect speaks of places with P alone, its report has Q, and what else it names has N
abbrev pub Speaks : (Place → Type 0) → (Option ReportId → Type 0) → (Named → Type 0) → AliasingEffect → Type 0
Speaks P Q N e = AllByRecursion P (effect_places e) × (Q (error_of e) × N (names_of e))

-- ---- lists

pub both : {X : Type 0} (P : X → Type 0) (xs ys : List X) → AllByRecursion P xs → AllByRecursion P ys
    → AllByRecursion P (xs ++ ys)
both P [] ys h k = k
both P (x ∷ xs) ys h k = (h.0, both P xs ys h.1 k)

pub front : {X : Type 0} (P : X → Type 0) (xs ys : List X) → AllByRecursion P (xs ++ ys) → AllByRecursion P xs
front P [] ys h = tt
front P (x ∷ xs) ys h = (h.0, front P xs ys h.1)

rest : {X : Type 0} (P : X → Type 0) (xs ys : List X) → AllByRecursion P (xs ++ ys) → AllByRecursion P ys
rest P [] ys h = h
rest P (x ∷ xs) ys h = rest P xs ys h.1

each_one : {X Y : Type 0} (P : X → Type 0) (S : Y → Type 0) (g : X → Y) → ((x : X) → P x → S (g x)) → (xs : List X)
    → AllByRecursion P xs → AllByRecursion S (map g xs)
each_one P S g h [] k = tt
each_one P S g h (x ∷ xs) k = (h x k.0, each_one P S g h xs k.1)

each_part : {A X Y : Type 0} (P : X → Type 0) (S : Y → Type 0) (f : A → List X) (g : A → List Y)
    → ((a : A) → AllByRecursion P (f a) → AllByRecursion S (g a)) → (xs : List A) → AllByRecursion P (flat_map f xs)
    → AllByRecursion S (flat_map g xs)
each_part P S f g h [] k = tt
each_part P S f g h (a ∷ xs) k = both S (g a) (flat_map g xs) (h a (front P (f a) (flat_map f xs) k))
    (each_part P S f g h xs (rest P (f a) (flat_map f xs) k))

module _ (P : Place → Type 0) (Q : Option ReportId → Type 0) (none : Q None) (N : Named → Type 0)
    (nothing : N (None, None)) where
  abbrev S : AliasingEffect → Type 0
  S = Speaks P Q N

  -- ---- families

  property_load_speaks : (b : Bool) (l object : Place) → P l → P object
      → AllByRecursion S (if b then created l kind.Primitive ∷ [] else CreateFrom object l ∷ [])
  property_load_speaks true l object p o = (((p, tt), (none, nothing)), tt)
  property_load_speaks false l object p o = (((o, (p, tt)), (none, nothing)), tt)

  property_speaks : (l : Place) → P l → (x : ObjectPropertyOrSpread) → AllByRecursion P (property_places x)
      → AllByRecursion S (property_effects l x)
  property_speaks l p (property.Property x) h =
      ((((rest P (optional_place x.computed) (x.place ∷ []) h).0, (p, tt)), (none, nothing)), tt)
  property_speaks l p (property.Spread s) h = (((h.0, (p, tt)), (none, nothing)), tt)

  object_speaks : (l : Place) → P l → (xs : List ObjectPropertyOrSpread)
      → AllByRecursion P (flat_map property_places xs) → AllByRecursion S (object_expression_effects l xs)
  object_speaks l p xs h = (
    ((p, tt), (none, nothing)),
    each_part P S property_places (property_effects l) (property_speaks l p) xs h,
  )

  iteration_speaks : (b : Bool) (p : Place) → P p
      → AllByRecursion S (if b then [] else MutateTransitiveConditionally p ∷ [])
  iteration_speaks true p h = tt
  iteration_speaks false p h = (((h, tt), (none, nothing)), tt)

  element_speaks : (env : Environment) (l : Place) → P l → (x : ArrayElement) → AllByRecursion P (element_places x)
      → AllByRecursion S (element_effects env l x)
  element_speaks env l p (element.Place x) h = (((h.0, (p, tt)), (none, nothing)), tt)
  element_speaks env l p (element.Spread s) h =
      both S (iteration_effects env s.place) (Capture s.place l ∷ [])
      (iteration_speaks (is_builtin_collection_at env s.place.identifier) s.place h.0)
      (((h.0, (p, tt)), (none, nothing)), tt)
  element_speaks env l p element.Hole h = tt

  iterator_speaks : (b : Bool) (l c : Place) → P l → P c
      → AllByRecursion S (if b then Capture c l ∷ [] else Alias c l ∷ MutateTransitiveConditionally c ∷ [])
  iterator_speaks true l c p h = (((h, (p, tt)), (none, nothing)), tt)
  iterator_speaks false l c p h = (((h, (p, tt)), (none, nothing)), (((h, tt), (none, nothing)), tt))

  args_speak : (xs : List PlaceOrSpread) → AllByRecursion P (flat_map arg_places xs)
      → AllByRecursion P (flat_map apply_arg_places (map argument xs))
  args_speak [] h = tt
  args_speak (arg.Place x ∷ xs) h = (h.0, args_speak xs h.1)
  args_speak (arg.Spread s ∷ xs) h = (h.0, args_speak xs h.1)

  call_speaks : (env : Environment) (receiver function : Place) (b : Bool) (args : List PlaceOrSpread) (l : Place)
      (span : Option Span) → P receiver → P function → AllByRecursion P (flat_map arg_places args) → P l
      → N (None, type_id_of env function.identifier)
      → AllByRecursion S (call_effects env receiver function b args l span)
  call_speaks env receiver function b args l span r f h p n = (
    (
      (r, (f, both P (flat_map apply_arg_places (map argument args)) (l ∷ []) (args_speak args h) (p, tt))),
      (none, n),
    ),
    tt,
  )

  captured_speaks : (e : Effect) (x : Place) → P x → AllByRecursion P (captured_by e x)
  captured_speaks operand.Capture x h = (h, tt)
  captured_speaks operand.Unknown x h = tt
  captured_speaks operand.Freeze x h = tt
  captured_speaks operand.Read x h = tt
  captured_speaks operand.ConditionallyMutateIterator x h = tt
  captured_speaks operand.ConditionallyMutate x h = tt
  captured_speaks operand.Mutate x h = tt
  captured_speaks operand.Store x h = tt

  captures_speak : (xs : List Place) → AllByRecursion P xs → AllByRecursion P (flat_map captured xs)
  captures_speak [] h = tt
  captures_speak (x ∷ xs) h = both P (captured x) (flat_map captured xs) (captured_speaks x.effect x h.0)
      (captures_speak xs h.1)

  function_speaks : (env : Environment) (l : Place) (f : FunctionId) → P l → AllByRecursion P (context_at env f)
      → N (Some f, None) → AllByRecursion S (function_effects env l f)
  function_speaks env l f p h n = (((p, captures_speak (context_at env f) h), (none, n)), tt)

  operands_speak : (l : Place) → P l → (xs : List Place) → AllByRecursion P xs
      → AllByRecursion S (flat_map (jsx_operand_effects l) xs)
  operands_speak l p [] h = tt
  operands_speak l p (x ∷ xs) h = (
    ((h.0, tt), (none, nothing)),
    (((h.0, (p, tt)), (none, nothing)), operands_speak l p xs h.1),
  )

  jsx_speaks : (l : Place) → P l → (xs : List Place) → AllByRecursion P xs → AllByRecursion S (jsx_effects l xs)
  jsx_speaks l p xs h = (((p, tt), (none, nothing)), operands_speak l p xs h)

  render_speaks : (b : Bool) (p : Place) → P p → AllByRecursion S (if b then Render p ∷ [] else [])
  render_speaks true p h = (((h, tt), (none, nothing)), tt)
  render_speaks false p h = tt

  attribute_speaks : (env : Environment) (x : JsxAttribute) → AllByRecursion P (attribute_places x)
      → AllByRecursion S (attribute_effects env x)
  attribute_speaks env (attribute.Attribute p) h = render_speaks (returns_jsx_at env p.identifier) p h.0
  attribute_speaks env (attribute.Spread p) h = tt

  renders_speak : (env : Environment) (tag : JsxTag) (props : List JsxAttribute) (children : List Place)
      → AllByRecursion P (tag_places tag) → AllByRecursion P (flat_map attribute_places props)
      → AllByRecursion P children → AllByRecursion S (render_effects env tag props children)
  renders_speak env tag props children t a c =
      let each : (x : Place) → P x → S (Render x) = λ x h. ((h, tt), (none, nothing)) in
      both S (map Render (tag_places tag) ++ map Render children) (flat_map (attribute_effects env) props)
      (both S (map Render (tag_places tag)) (map Render children) (each_one P S (λ x. Render x) each (tag_places tag) t)
      (each_one P S (λ x. Render x) each children c))
      (each_part P S attribute_places (attribute_effects env) (attribute_speaks env) props a)

  target_speaks : (b : Bool) (v p : Place) → P v → P p → S (if b then created p kind.Primitive else CreateFrom v p)
  target_speaks true v p h k = ((k, tt), (none, nothing))
  target_speaks false v p h k = ((h, (k, tt)), (none, nothing))

  rest_speaks : (spreads : List ℕ) (v p : Place) → P v → P p → AllByRecursion S (rest_effects spreads v p)
  rest_speaks spreads v p h k = (((k, tt), (none, nothing)), (((h, (k, tt)), (none, nothing)), tt))

  item_speaks : (env : Environment) (spreads : List ℕ) (v : Place) → P v → (x : ArrayPatternElement)
      → AllByRecursion P (item_places x) → AllByRecursion S (item_effects env spreads v x)
  item_speaks env spreads v h (item.Place p) k = (target_speaks (is_primitive_at env p.identifier) v p h k.0, tt)
  item_speaks env spreads v h (item.Spread s) k = rest_speaks spreads v s.place h k.0
  item_speaks env spreads v h item.Hole k = tt

  target_property_speaks : (env : Environment) (spreads : List ℕ) (v : Place) → P v → (x : ObjectPropertyOrSpread)
      → AllByRecursion P (property_places x) → AllByRecursion S (target_property_effects env spreads v x)
  target_property_speaks env spreads v h (property.Property x) k = (
    target_speaks (is_primitive_at env x.place.identifier) v x.place h
        (rest P (optional_place x.computed) (x.place ∷ []) k).0,
    tt,
  )
  target_property_speaks env spreads v h (property.Spread s) k = rest_speaks spreads v s.place h k.0

  pattern_speaks : (env : Environment) (spreads : List ℕ) (v : Place) → P v → (x : Pattern)
      → AllByRecursion P (places_in_pattern x) → AllByRecursion S (pattern_effects env spreads v x)
  pattern_speaks env spreads v h (pattern.Array p) k =
      each_part P S item_places (item_effects env spreads v) (item_speaks env spreads v h) p.items k
  pattern_speaks env spreads v h (pattern.Object p) k =
      each_part P S property_places (target_property_effects env spreads v) (target_property_speaks env spreads v h)
      p.properties k

  binding_speaks : (b : Bool) (p : Place) → P p → S (binding_effect b p)
  binding_speaks true p h = ((h, tt), (none, nothing))
  binding_speaks false p h = ((h, tt), (none, nothing))

  frozen_speak : (b : Bool) (xs : List Place) → AllByRecursion P xs → AllByRecursion S (if b then map frozen xs else [])
  frozen_speak true xs h = each_one P S frozen (λ x k. ((k, tt), (none, nothing))) xs h
  frozen_speak false xs h = tt

  memoize_speaks : (b : Bool) (l : Place) (xs : List Place) → P l → AllByRecursion P xs
      → AllByRecursion S ((if b then map frozen xs else []) ++ created l kind.Primitive ∷ [])
  memoize_speaks b l xs p h = both S (if b then map frozen xs else []) (created l kind.Primitive ∷ [])
      (frozen_speak b xs h) (((p, tt), (none, nothing)), tt)

  global_speaks : (error : Option ReportId) (v : Place) → P v → Q error → AllByRecursion S (global_effects error v)
  global_speaks None v h q = tt
  global_speaks (Some error) v h q = (((h, tt), (q, nothing)), tt)

  -- ---- kinds

  pub signature_speaks : (k : Known) (l : Place) (span : Option Span) (v : InstructionValue) → P l
      → AllByRecursion P (places_of v) → AllByRecursion P (created_places k.env (created_function v)) → Q k.error
      → N (names_by_kind k.env v) → AllByRecursion S (signature_of_value k l span v)
  signature_speaks k l span (value.ArrayExpression elements) p ps cs q n = (
    ((p, tt), (none, nothing)),
    each_part P S element_places (element_effects k.env l) (element_speaks k.env l p)
        elements ps,
  )
  signature_speaks k l span (value.ObjectExpression properties) p ps cs q n = object_speaks l p properties ps
  signature_speaks k l span (value.Await v) p ps cs q n =
      (((p, tt), (none, nothing)), (((ps.0, tt), (none, nothing)), (((ps.0, (p, tt)), (none, nothing)), tt)))
  signature_speaks k l span (value.NewExpression callee args) p ps cs q n =
      call_speaks k.env callee callee false args l span ps.0 ps.0 ps.1 p n
  signature_speaks k l span (value.CallExpression callee args) p ps cs q n =
      call_speaks k.env callee callee true args l span ps.0 ps.0 ps.1 p n
  signature_speaks k l span (value.MethodCall receiver property args) p ps cs q n =
      call_speaks k.env receiver property false args l span ps.0 ps.1.0 ps.1.1 p n
  signature_speaks k l span (value.PropertyDelete object) p ps cs q n =
      (((p, tt), (none, nothing)), (((ps.0, tt), (none, nothing)), tt))
  signature_speaks k l span (value.ComputedDelete object property) p ps cs q n =
      (((p, tt), (none, nothing)), (((ps.0, tt), (none, nothing)), tt))
  signature_speaks k l span (value.PropertyLoad object) p ps cs q n =
      property_load_speaks (is_primitive_at k.env l.identifier) l object p ps.0
  signature_speaks k l span (value.ComputedLoad object property) p ps cs q n =
      property_load_speaks (is_primitive_at k.env l.identifier) l object p ps.0
  signature_speaks k l span (value.PropertyStore object property v) p ps cs q n =
      (((ps.0, tt), (none, nothing)), (((ps.1.0, (ps.0, tt)), (none, nothing)), (((p, tt), (none, nothing)), tt)))
  signature_speaks k l span (value.ComputedStore object property v) p ps cs q n =
      (((ps.0, tt), (none, nothing)), (((ps.1.1.0, (ps.0, tt)), (none, nothing)), (((p, tt), (none, nothing)), tt)))
  signature_speaks k l span (value.FunctionExpression lowered) p ps cs q n = function_speaks k.env l lowered.func p cs n
  signature_speaks k l span (value.ObjectMethod lowered) p ps cs q n = function_speaks k.env l lowered.func p cs n
  signature_speaks k l span (value.GetIterator collection) p ps cs q n = (
    ((p, tt), (none, nothing)),
    iterator_speaks (is_builtin_collection_at k.env collection.identifier) l collection p
        ps.0,
  )
  signature_speaks k l span (value.IteratorNext iterator collection) p ps cs q n =
      (((ps.0, tt), (none, nothing)), (((ps.1.0, (p, tt)), (none, nothing)), tt))
  signature_speaks k l span (value.NextPropertyOf v) p ps cs q n = (((p, tt), (none, nothing)), tt)
  signature_speaks k l span (value.JsxExpression tag props children) p ps cs q n =
      let operands = tag_places tag ++ flat_map attribute_places props in
      let h = front P operands children ps in
      both S (jsx_effects l (operands ++ children)) (render_effects k.env tag props children)
      (jsx_speaks l p (operands ++ children) ps)
      (renders_speak k.env tag props children (front P (tag_places tag) (flat_map attribute_places props) h)
      (rest P (tag_places tag) (flat_map attribute_places props) h) (rest P operands children ps))
  signature_speaks k l span (value.JsxFragment children) p ps cs q n = jsx_speaks l p children ps
  signature_speaks k l span (value.DeclareLocal variable) p ps cs q n =
      (((ps.0, tt), (none, nothing)), (((p, tt), (none, nothing)), tt))
  signature_speaks k l span (value.Destructure variables v) p ps cs q n =
      let h = (rest P (places_in_pattern variables.pattern) (v ∷ []) ps).0 in
      both S (pattern_effects k.env k.facts.spreads v variables.pattern) (Assign v l ∷ [])
      (pattern_speaks k.env k.facts.spreads v h variables.pattern
      (front P (places_in_pattern variables.pattern) (v ∷ []) ps)) (((h, (p, tt)), (none, nothing)), tt)
  signature_speaks k l span (value.LoadContext place) p ps cs q n = (((ps.0, (p, tt)), (none, nothing)), tt)
  signature_speaks k l span (value.DeclareContext variable) p ps cs q n = (
    binding_speaks (not (is_hoisting variable.kind) && is_hoisted_at k.env k.facts.hoisted variable.place.identifier)
        variable.place ps.0,
    (((p, tt), (none, nothing)), tt),
  )
  signature_speaks k l span (value.StoreContext variable v) p ps cs q n = (
    binding_speaks (is_reassigning variable.kind || is_hoisted_at k.env k.facts.hoisted variable.place.identifier)
        variable.place ps.0,
    (((ps.1.0, (ps.0, tt)), (none, nothing)), (((ps.1.0, (p, tt)), (none, nothing)), tt)),
  )
  signature_speaks k l span (value.LoadLocal place) p ps cs q n = (((ps.0, (p, tt)), (none, nothing)), tt)
  signature_speaks k l span (value.StoreLocal variable v) p ps cs q n =
      (((ps.1.0, (ps.0, tt)), (none, nothing)), (((ps.1.0, (p, tt)), (none, nothing)), tt))
  signature_speaks k l span (value.PostfixUpdate variable v) p ps cs q n =
      (((p, tt), (none, nothing)), (((ps.0, tt), (none, nothing)), tt))
  signature_speaks k l span (value.PrefixUpdate variable v) p ps cs q n =
      (((p, tt), (none, nothing)), (((ps.0, tt), (none, nothing)), tt))
  signature_speaks k l span (value.StoreGlobal name v) p ps cs q n =
      both S (global_effects k.error v) (Assign v l ∷ []) (global_speaks k.error v ps.0 q)
      (((ps.0, (p, tt)), (none, nothing)), tt)
  signature_speaks k l span (value.TypeCastExpression v) p ps cs q n = (((ps.0, (p, tt)), (none, nothing)), tt)
  signature_speaks k l span value.LoadGlobal p ps cs q n = (((p, tt), (none, nothing)), tt)
  signature_speaks k l span (value.StartMemoize deps) p ps cs q n =
      memoize_speaks k.env.config.enable_preserve_existing_memoization_guarantees l deps p ps
  signature_speaks k l span (value.FinishMemoize decl) p ps cs q n =
      memoize_speaks k.env.config.enable_preserve_existing_memoization_guarantees l (decl ∷ []) p ps
  signature_speaks k l span (value.TaggedTemplateExpression tag) p ps cs q n = (((p, tt), (none, nothing)), tt)
  signature_speaks k l span (value.BinaryExpression left right) p ps cs q n = (((p, tt), (none, nothing)), tt)
  signature_speaks k l span (value.TemplateLiteral subexprs) p ps cs q n = (((p, tt), (none, nothing)), tt)
  signature_speaks k l span (value.UnaryExpression v) p ps cs q n = (((p, tt), (none, nothing)), tt)
  signature_speaks k l span value.Debugger p ps cs q n = (((p, tt), (none, nothing)), tt)
  signature_speaks k l span value.JSXText p ps cs q n = (((p, tt), (none, nothing)), tt)
  signature_speaks k l span value.MetaProperty p ps cs q n = (((p, tt), (none, nothing)), tt)
  signature_speaks k l span value.Primitive p ps cs q n = (((p, tt), (none, nothing)), tt)
  signature_speaks k l span value.RegExpLiteral p ps cs q n = (((p, tt), (none, nothing)), tt)

-- ---- what the clause of `signature_of` says

-- x is one of the list
abbrev pub IsOneOf : {X : Type 0} → List X → X → Type 0
IsOneOf [] x = ⊥
IsOneOf (y ∷ ys) x = (x ≡ y) ⊎ IsOneOf ys x

-- the places that the signature may speak of: the result, those of the value, and the context places of the function
-- that it creates
abbrev pub places_spoken_of : Environment → Instruction → List Place
places_spoken_of env i = i.lvalue ∷ (places_of i.value ++ created_places env (created_function i.value))

-- the effect speaks of these places alone; it has the report of the instruction or none; and it names what the
-- instruction's kind names, or nothing
abbrev pub SpeaksOf : Known → Instruction → AliasingEffect → Type 0
SpeaksOf k i =
    Speaks (IsOneOf (places_spoken_of k.env i)) (λ (error : Option ReportId). (error ≡ None) ⊎ (error ≡ k.error))
    (λ (n : Named). (n ≡ (None, None)) ⊎ (n ≡ names_by_kind k.env i.value))

in_front : {X : Type 0} (xs ys : List X) (x : X) → IsOneOf xs x → IsOneOf (xs ++ ys) x
in_front [] ys x h = absurd h
in_front (y ∷ xs) ys x (inl e) = inl e
in_front (y ∷ xs) ys x (inr h) = inr (in_front xs ys x h)

in_rest : {X : Type 0} (xs ys : List X) (x : X) → IsOneOf ys x → IsOneOf (xs ++ ys) x
in_rest [] ys x h = h
in_rest (y ∷ xs) ys x h = inr (in_rest xs ys x h)

each_is : {X : Type 0} (xs zs : List X) → ((x : X) → IsOneOf xs x → IsOneOf zs x) → AllByRecursion (IsOneOf zs) xs
each_is [] zs h = tt
each_is (x ∷ xs) zs h = (h x (inl refl), each_is xs zs (λ y k. h y (inr k)))

pub signature_speaks_of : (k : Known) (i : Instruction) → AllByRecursion (SpeaksOf k i) (signature_of k i)
signature_speaks_of k i =
    let ps = places_of i.value in
    let cs = created_places k.env (created_function i.value) in
    signature_speaks (IsOneOf (places_spoken_of k.env i))
    (λ (error : Option ReportId). (error ≡ None) ⊎ (error ≡ k.error)) (inl refl)
    (λ (n : Named). (n ≡ (None, None)) ⊎ (n ≡ names_by_kind k.env i.value)) (inl refl)
    k i.lvalue i.span i.value (inl refl)
    (each_is ps (places_spoken_of k.env i) (λ x h. inr (in_front ps cs x h)))
    (each_is cs (places_spoken_of k.env i) (λ x h. inr (in_rest ps cs x h)))
    (inr refl) (inr refl)
