-- What a destructuring assigns to, as it is taken off the tokens.
use Rattle.std.specs.Prelude.{Result, Ok, Err, ⊤, Bool, codes, ◌||◌, not, is_some, if◌then◌else◌}
use Rattle.std.proofs.Common.{◌≡◌, ℕ, ◌-◌, ◌<◌, true, false, List, [], ◌∷◌, Option, Some, None, refl, ap, sym, subst}
use Rattle.std.proofs.Common.{◌∙◌}
use Rattle.alias_base.specs.Answer.{◌>>=◌}
use Rattle.json.specs.Token.{Token}
use Rattle.serde_json.specs.Data.{Data, null, boolean, number, string, array, object}
use Rattle.alias_hir.specs.declared.place.Place.{Place}
use Rattle.alias_hir.specs.declared.place.SpreadPattern.{SpreadPattern}
use Rattle.alias_hir.specs.declared.value.ArrayElement.TheVariants as whole_element
use Rattle.alias_hir.specs.declared.value.ArrayPatternElement.{ArrayPatternElement}
use Rattle.alias_hir.specs.declared.value.ArrayPatternElement.TheVariants as element
use Rattle.alias_hir.specs.declared.value.InstructionKind.{InstructionKind}
use Rattle.alias_hir.specs.declared.value.InstructionValue.TheVariants as value
use Rattle.alias_hir.specs.declared.value.LValuePattern.{LValuePattern}
use Rattle.alias_hir.specs.declared.value.ObjectPropertyOrSpread.{ObjectPropertyOrSpread}
use Rattle.alias_hir.specs.declared.value.Pattern.{Pattern}
use Rattle.alias_hir.specs.declared.value.Pattern.TheVariants as pattern
use Rattle.alias_json.specs.Names.{named_at}
use Rattle.alias_json.specs.Reading.{known_keys, has_key}
use Rattle.alias_json.specs.declared.fault.ValueFault.{ValueFault}
use Rattle.alias_read.specs.Json.{required, list_at}
use Rattle.alias_read.specs.Names.{instruction_kind_names}
use Rattle.alias_read.specs.Places.{place_at, spread_at}
use Rattle.alias_read.specs.Elements.{array_element_at, pattern_element_at, property_at}
use Rattle.alias_read.specs.Patterns.{array_pattern_at, object_pattern_at, pattern_at, lvalue_pattern_at}
use Rattle.alias_read.specs.Stores.{destructure_at}
use Rattle.alias_read.specs.declared.value_kinds.InstructionValueKind.TheVariants as of
use Rattle.alias_straight.specs.Kinds.{TakesKind}
use Rattle.alias_straight.specs.Takes.{Takes}
use Rattle.alias_straight.specs.Members.{TakesMember, Fields, members_of, field, IsRead}
use Rattle.alias_straight.proofs.Elementing.{place_there, spread_there}
use Rattle.alias_straight.proofs.Fielding.{opened, goes, closed}
use Rattle.alias_straight.proofs.Finding.{required_is, known_is}
use Rattle.alias_straight.proofs.Kinding.{kind_taken}
use Rattle.alias_straight.proofs.Placing.{text_read}
use Rattle.alias_straight.proofs.Properties.{has_key-members_of}

abbrev IsErr : {A : Type 0} → Result A ValueFault → Type 0
IsErr (Ok x) = ⊥
IsErr (Err e) = ⊤

-- ---- elements

pub hole_taken : (depth : ℕ) (ts rest : List Token) (s : List ℕ) → ts ≡ Token.string s ∷ rest → s ≡ codes "hole"
    → Takes array_element_at depth ts whole_element.Hole rest
hole_taken depth ts rest s first e = record {
  tree = string (codes "hole");
  read =
      text_read depth ts rest (codes "hole") (first ∙ ap (λ (l : List ℕ). Token.string l ∷ rest) e);
  is = λ p. refl;
}

pub pattern_hole_taken : (depth : ℕ) (ts rest : List Token) (s : List ℕ) → ts ≡ Token.string s ∷ rest → s ≡ codes "hole"
    → Takes pattern_element_at depth ts element.Hole rest
pattern_hole_taken depth ts rest s first e =
    record {
      tree = string (codes "hole");
      read = text_read depth ts rest (codes "hole") (first ∙ ap (λ (l : List ℕ). Token.string l ∷ rest) e);
      is = λ p. refl;
    }

pub pattern_place_there : (x : Place) (d : Data) → ((p : List ℕ) → place_at p d ≡ Ok x) → (p : List ℕ)
    → pattern_element_at p d ≡ Ok (element.Place x)
pattern_place_there x null is p = place_there element.Place element.Spread x null is p
pattern_place_there x (boolean b) is p = place_there element.Place element.Spread x (boolean b) is p
pattern_place_there x (number n) is p = place_there element.Place element.Spread x (number n) is p
pattern_place_there x (string s) is p = absurd (subst IsErr (is []) tt)
pattern_place_there x (array ds) is p = place_there element.Place element.Spread x (array ds) is p
pattern_place_there x (object ms) is p = place_there element.Place element.Spread x (object ms) is p

pub pattern_spread_there : (x : SpreadPattern) (d : Data) → ((p : List ℕ) → spread_at p d ≡ Ok x) → (p : List ℕ)
    → pattern_element_at p d ≡ Ok (element.Spread x)
pattern_spread_there x null is p = spread_there element.Place element.Spread x null is p
pattern_spread_there x (boolean b) is p = spread_there element.Place element.Spread x (boolean b) is p
pattern_spread_there x (number n) is p = spread_there element.Place element.Spread x (number n) is p
pattern_spread_there x (string s) is p = absurd (subst IsErr (is []) tt)
pattern_spread_there x (array ds) is p = spread_there element.Place element.Spread x (array ds) is p
pattern_spread_there x (object ms) is p = spread_there element.Place element.Spread x (object ms) is p

-- ---- patterns

abbrev chosen : Bool → Bool → List ℕ → Data → Result Pattern ValueFault
chosen a o p d = if a || not o then array_pattern_at p d else object_pattern_at p d

pattern_found : (fs : Fields) (a o : Bool) (p : List ℕ) (x : Pattern) → is_some (field (codes "array") fs) ≡ a
    → is_some (field (codes "object") fs) ≡ o → chosen a o p (object (members_of fs)) ≡ Ok x
    → pattern_at p (object (members_of fs)) ≡ Ok x
pattern_found fs a o p x ea eo so =
    ap (λ (b : Bool). chosen b (has_key (codes "object") (object (members_of fs))) p (object (members_of fs)))
    (has_key-members_of (codes "array") fs ∙ ea)
    ∙ ap (λ (b : Bool). chosen a b p (object (members_of fs))) (has_key-members_of (codes "object") fs ∙ eo)
    ∙ so

array_pattern_is : (d0 : Option Data) (items : List ArrayPatternElement)
    → IsRead (list_at pattern_element_at) (Some items) d0 → (p : List ℕ)
    → pattern_at p (object (members_of ((codes "array", d0) ∷ []))) ≡ Ok (pattern.Array (record { items = items }))
array_pattern_is None items x p = absurd x
array_pattern_is (Some d) items x p =
    let fs : Fields = (codes "array", Some d) ∷ [] in
    let e0 : required (list_at pattern_element_at) p (codes "array") (object (members_of fs)) ≡ Ok items =
    required_is (list_at pattern_element_at) (codes "array") fs items (Some d) refl x p in
    let whole : array_pattern_at p (object (members_of fs)) ≡ Ok (pattern.Array (record { items = items })) =
    rw e0 refl in
    pattern_found fs true false p (pattern.Array (record { items = items })) refl refl whole

pub array_pattern_taken : (depth : ℕ) (start t0 t1 rest : List Token) (items : List ArrayPatternElement) → 0 < depth
    → start ≡ Token.begin_object ∷ t0 → TakesMember (list_at pattern_element_at) (depth - 1) t0 (codes "array") items t1
    → t1 ≡ Token.end_object ∷ rest
    → Takes pattern_at depth start (pattern.Array (record { items = items })) rest
array_pattern_taken depth start t0 t1 rest items h begins m ends =
    let f = goes (list_at pattern_element_at) depth start t0 t1 [] (codes "array") items
    (opened depth start t0 h begins) m in
    record {
      tree = object (members_of ((codes "array", f.tree) ∷ []));
      read = closed depth start t1 rest ((codes "array", f.tree) ∷ []) f.opens ends;
      is = array_pattern_is f.tree items f.is;
    }

object_pattern_is : (d0 : Option Data) (properties : List ObjectPropertyOrSpread)
    → IsRead (list_at property_at) (Some properties) d0 → (p : List ℕ)
    → pattern_at p (object (members_of ((codes "object", d0) ∷ [])))
    ≡ Ok (pattern.Object (record { properties = properties }))
object_pattern_is None properties x p = absurd x
object_pattern_is (Some d) properties x p =
    let fs : Fields = (codes "object", Some d) ∷ [] in
    let e0 : required (list_at property_at) p (codes "object") (object (members_of fs)) ≡ Ok properties =
    required_is (list_at property_at) (codes "object") fs properties (Some d) refl x p in
    let whole : object_pattern_at p (object (members_of fs))
    ≡ Ok (pattern.Object (record { properties = properties })) = rw e0 refl in
    pattern_found fs false true p (pattern.Object (record { properties = properties })) refl refl whole

pub object_pattern_taken : (depth : ℕ) (start t0 t1 rest : List Token) (properties : List ObjectPropertyOrSpread) → 0
    < depth → start ≡ Token.begin_object ∷ t0
    → TakesMember (list_at property_at) (depth - 1) t0 (codes "object") properties t1 → t1 ≡ Token.end_object ∷ rest
    → Takes pattern_at depth start (pattern.Object (record { properties = properties })) rest
object_pattern_taken depth start t0 t1 rest properties h begins m ends =
    let f = goes (list_at property_at) depth start t0 t1 [] (codes "object") properties (opened depth start t0 h begins)
    m in
    record {
      tree = object (members_of ((codes "object", f.tree) ∷ []));
      read = closed depth start t1 rest ((codes "object", f.tree) ∷ []) f.opens ends;
      is = object_pattern_is f.tree properties f.is;
    }

lvalue_pattern_is : (d0 d1 : Option Data) (declared : InstructionKind) (assigned : Pattern)
    → IsRead (named_at instruction_kind_names) (Some declared) d0 → IsRead pattern_at (Some assigned) d1 → (p : List ℕ)
    → lvalue_pattern_at p (object (members_of ((codes "pattern", d1) ∷ (codes "kind", d0) ∷ [])))
    ≡ Ok (record { pattern = assigned; kind = declared })
lvalue_pattern_is d0 d1 declared assigned x_declared x_assigned p =
    let fs : Fields = (codes "pattern", d1) ∷ (codes "kind", d0) ∷ [] in
    let e0 : required (named_at instruction_kind_names) p (codes "kind") (object (members_of fs)) ≡ Ok declared =
    required_is (named_at instruction_kind_names) (codes "kind") fs declared d0 refl x_declared p in
    let e1 : required pattern_at p (codes "pattern") (object (members_of fs)) ≡ Ok assigned =
    required_is pattern_at (codes "pattern") fs assigned d1 refl x_assigned p in
    let e2 : known_keys (codes "kind" ∷ codes "pattern" ∷ []) p (object (members_of fs)) ≡ Ok tt =
    known_is (codes "kind" ∷ codes "pattern" ∷ []) fs refl p in
    rw (e0, e1, e2) refl

pub lvalue_pattern_taken : (depth : ℕ) (start t0 t1 t2 rest : List Token) (declared : InstructionKind)
    (assigned : Pattern) → 0 < depth → start ≡ Token.begin_object ∷ t0
    → TakesMember (named_at instruction_kind_names) (depth - 1) t0 (codes "kind") declared t1
    → TakesMember pattern_at (depth - 1) t1 (codes "pattern") assigned t2 → t2 ≡ Token.end_object ∷ rest
    → Takes lvalue_pattern_at depth start (record { pattern = assigned; kind = declared }) rest
lvalue_pattern_taken depth start t0 t1 t2 rest declared assigned h begins m0 m1 ends =
    let f0 = goes (named_at instruction_kind_names) depth start t0 t1 [] (codes "kind") declared
    (opened depth start t0 h begins) m0 in
    let f1 = goes pattern_at depth start t1 t2 _ (codes "pattern") assigned f0.opens m1 in
    record {
      tree = object (members_of ((codes "pattern", f1.tree) ∷ (codes "kind", f0.tree) ∷ []));
      read = closed depth start t2 rest ((codes "pattern", f1.tree) ∷ (codes "kind", f0.tree) ∷ []) f1.opens ends;
      is = lvalue_pattern_is f0.tree f1.tree declared assigned f0.is f1.is;
    }

destructure_is : (a : Option Data) (d0 d1 : Option Data) (lvalue : LValuePattern) (taken : Place)
    → IsRead lvalue_pattern_at (Some lvalue) d0 → IsRead place_at (Some taken) d1 → (p : List ℕ)
    → destructure_at p (object (members_of ((codes "value", d1) ∷ (codes "lvalue", d0) ∷ (codes "kind", a) ∷ [])))
    ≡ Ok (value.Destructure lvalue taken)
destructure_is a d0 d1 lvalue taken x_lvalue x_taken p =
    let fs : Fields = (codes "value", d1) ∷ (codes "lvalue", d0) ∷ (codes "kind", a) ∷ [] in
    let e0 : required lvalue_pattern_at p (codes "lvalue") (object (members_of fs)) ≡ Ok lvalue =
    required_is lvalue_pattern_at (codes "lvalue") fs lvalue d0 refl x_lvalue p in
    let e1 : required place_at p (codes "value") (object (members_of fs)) ≡ Ok taken =
    required_is place_at (codes "value") fs taken d1 refl x_taken p in
    let e2 : known_keys (codes "kind" ∷ codes "lvalue" ∷ codes "value" ∷ []) p (object (members_of fs)) ≡ Ok tt =
    known_is (codes "kind" ∷ codes "lvalue" ∷ codes "value" ∷ []) fs refl p in
    rw (e0, e1, e2) refl

pub destructure_taken : (depth : ℕ) (ts t1 t2 rest : List Token) (lvalue : LValuePattern) (taken : Place)
    → TakesMember lvalue_pattern_at (depth - 1) ts (codes "lvalue") lvalue t1
    → TakesMember place_at (depth - 1) t1 (codes "value") taken t2 → t2 ≡ Token.end_object ∷ rest
    → TakesKind of.Destructure depth ts (value.Destructure lvalue taken) rest
destructure_taken depth ts t1 t2 rest lvalue taken m0 m1 ends = record {
  takes = λ start tree is so_far.
      let f0 = goes lvalue_pattern_at depth start ts t1 _ (codes "lvalue") lvalue so_far m0 in
      let f1 = goes place_at depth start t1 t2 _ (codes "value") taken f0.opens m1 in
      kind_taken of.Destructure depth start t2 rest
      ((codes "value", f1.tree) ∷ (codes "lvalue", f0.tree) ∷ (codes "kind", tree) ∷ []) tree
      (value.Destructure lvalue taken) refl is f1.opens ends
      (destructure_is tree f0.tree f1.tree lvalue taken f0.is f1.is);
}
