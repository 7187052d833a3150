-- Array expressions, JSX, and stores by a name, as they are taken off the tokens.
use Rattle.std.specs.Prelude.{Ok, codes, unwrap_or}
use Rattle.std.proofs.Common.{◌≡◌, ℕ, ◌-◌, List, [], ◌∷◌, Option, Some, refl}
use Rattle.json.specs.Token.{Token}
use Rattle.serde_json.specs.Data.{Data, object}
use Rattle.alias_hir.specs.declared.place.Place.{Place}
use Rattle.alias_hir.specs.declared.value.InstructionValue.TheVariants as value
use Rattle.alias_json.specs.Reading.{known_keys}
use Rattle.alias_read.specs.Json.{required, list_at, list_of}
use Rattle.alias_read.specs.Places.{place_at}
use Rattle.alias_read.specs.declared.value_kinds.InstructionValueKind.TheVariants as of
use Rattle.alias_straight.specs.Kinds.{TakesKind}
use Rattle.alias_straight.specs.Members.{TakesMember, TakesList, Fields, members_of, IsRead}
use Rattle.alias_straight.proofs.Fielding.{goes, may_go}
use Rattle.alias_straight.proofs.Finding.{required_is, known_is}
use Rattle.alias_straight.proofs.Kinding.{kind_taken, list_of_is}
use Rattle.alias_hir.specs.declared.value.ArrayElement.{ArrayElement}
use Rattle.alias_hir.specs.declared.value.ObjectPropertyOrSpread.{ObjectPropertyOrSpread}
use Rattle.alias_hir.specs.declared.value.JsxTag.{JsxTag}
use Rattle.alias_hir.specs.declared.value.JsxAttribute.{JsxAttribute}
use Rattle.alias_hir.specs.declared.value.PropertyLiteral.{PropertyLiteral}
use Rattle.alias_json.specs.Reading.{text_at}
use Rattle.alias_read.specs.Elements.{array_element_at, property_at, tag_at, attribute_at, literal_at}
use Rattle.alias_read.specs.Objects.{array_expression_at, object_expression_at, jsx_expression_at}
use Rattle.alias_read.specs.Stores.{store_global_at, property_store_at}

-- ---- array

array_is : (a d0 : Option Data) (g_elements : Option (List ArrayElement)) (elements : List ArrayElement)
    → IsRead (list_at array_element_at) g_elements d0 → elements ≡ unwrap_or g_elements [] → (p : List ℕ)
    → array_expression_at p (object (members_of ((codes "elements", d0) ∷ (codes "kind", a) ∷ [])))
    ≡ Ok (value.ArrayExpression elements)
array_is a d0 g_elements elements x_elements s_elements p =
    let fs : Fields = (codes "elements", d0) ∷ (codes "kind", a) ∷ [] in
    let e0 : list_of array_element_at p (codes "elements") (object (members_of fs)) ≡ Ok elements =
    list_of_is array_element_at (codes "elements") fs g_elements elements d0 refl x_elements s_elements p in
    let e1 : known_keys (codes "kind" ∷ codes "elements" ∷ []) p (object (members_of fs)) ≡ Ok tt =
    known_is (codes "kind" ∷ codes "elements" ∷ []) fs refl p in
    rw (e0, e1) refl

pub array_taken : (depth : ℕ) (ts t1 rest : List Token) (elements : List ArrayElement)
    → TakesList array_element_at (depth - 1) ts (codes "elements") elements t1 → t1 ≡ Token.end_object ∷ rest
    → TakesKind of.ArrayExpression depth ts (value.ArrayExpression elements) rest
array_taken depth ts t1 rest elements m0 ends = record {
  takes = λ start tree is so_far.
      let f0 = may_go (list_at array_element_at) depth start ts t1 _ (codes "elements") m0.list so_far m0.may in
      kind_taken of.ArrayExpression depth start t1 rest ((codes "elements", f0.tree) ∷ (codes "kind", tree) ∷ []) tree
      (value.ArrayExpression elements) refl is f0.opens ends (array_is tree f0.tree m0.list elements f0.is m0.is);
}

-- ---- jsx

jsx_is : (a d0 d1 d2 : Option Data) (g_props : Option (List JsxAttribute)) (g_children : Option (List Place))
    (tag : JsxTag) (props : List JsxAttribute) (children : List Place) → IsRead tag_at (Some tag) d0
    → IsRead (list_at attribute_at) g_props d1 → props ≡ unwrap_or g_props [] → IsRead (list_at place_at) g_children d2
    → children ≡ unwrap_or g_children [] → (p : List ℕ)
    → jsx_expression_at p (object (members_of
    ((codes "children", d2) ∷ (codes "props", d1) ∷ (codes "tag", d0) ∷ (codes "kind", a) ∷ [])))
    ≡ Ok (value.JsxExpression tag props children)
jsx_is a d0 d1 d2 g_props g_children tag props children x_tag x_props s_props x_children s_children p =
    let fs : Fields = (codes "children", d2) ∷ (codes "props", d1) ∷ (codes "tag", d0) ∷ (codes "kind", a) ∷ [] in
    let e0 : required tag_at p (codes "tag") (object (members_of fs)) ≡ Ok tag =
    required_is tag_at (codes "tag") fs tag d0 refl x_tag p in
    let e1 : list_of attribute_at p (codes "props") (object (members_of fs)) ≡ Ok props =
    list_of_is attribute_at (codes "props") fs g_props props d1 refl x_props s_props p in
    let e2 : list_of place_at p (codes "children") (object (members_of fs)) ≡ Ok children =
    list_of_is place_at (codes "children") fs g_children children d2 refl x_children s_children p in
    let e3 : known_keys (codes "kind" ∷ codes "tag" ∷ codes "props" ∷ codes "children" ∷ []) p (object (members_of fs))
    ≡ Ok tt = known_is (codes "kind" ∷ codes "tag" ∷ codes "props" ∷ codes "children" ∷ []) fs refl p in
    rw (e0, e1, e2, e3) refl

pub jsx_taken : (depth : ℕ) (ts t1 t2 t3 rest : List Token) (tag : JsxTag) (props : List JsxAttribute)
    (children : List Place) → TakesMember tag_at (depth - 1) ts (codes "tag") tag t1
    → TakesList attribute_at (depth - 1) t1 (codes "props") props t2
    → TakesList place_at (depth - 1) t2 (codes "children") children t3 → t3 ≡ Token.end_object ∷ rest
    → TakesKind of.JsxExpression depth ts (value.JsxExpression tag props children) rest
jsx_taken depth ts t1 t2 t3 rest tag props children m0 m1 m2 ends = record {
  takes = λ start tree is so_far.
      let f0 = goes tag_at depth start ts t1 _ (codes "tag") tag so_far m0 in
      let f1 = may_go (list_at attribute_at) depth start t1 t2 _ (codes "props") m1.list f0.opens m1.may in
      let f2 = may_go (list_at place_at) depth start t2 t3 _ (codes "children") m2.list f1.opens m2.may in
      kind_taken of.JsxExpression depth start t3 rest
      ((codes "children", f2.tree) ∷ (codes "props", f1.tree) ∷ (codes "tag", f0.tree) ∷ (codes "kind", tree) ∷ [])
      tree (value.JsxExpression tag props children) refl is f2.opens ends
      (jsx_is tree f0.tree f1.tree f2.tree m1.list m2.list tag props children f0.is f1.is m1.is f2.is m2.is);
}

-- ---- property_store

property_store_is : (a d0 d1 d2 : Option Data) (held : Place) (property : PropertyLiteral) (stored : Place)
    → IsRead place_at (Some held) d0 → IsRead literal_at (Some property) d1 → IsRead place_at (Some stored) d2
    → (p : List ℕ) → property_store_at p (object
    (members_of ((codes "value", d2) ∷ (codes "property", d1) ∷ (codes "object", d0) ∷ (codes "kind", a) ∷ [])))
    ≡ Ok (value.PropertyStore held property stored)
property_store_is a d0 d1 d2 held property stored x_held x_property x_stored p =
    let fs : Fields = (codes "value", d2) ∷ (codes "property", d1) ∷ (codes "object", d0) ∷ (codes "kind", a) ∷ [] in
    let e0 : required place_at p (codes "object") (object (members_of fs)) ≡ Ok held =
    required_is place_at (codes "object") fs held d0 refl x_held p in
    let e1 : required literal_at p (codes "property") (object (members_of fs)) ≡ Ok property =
    required_is literal_at (codes "property") fs property d1 refl x_property p in
    let e2 : required place_at p (codes "value") (object (members_of fs)) ≡ Ok stored =
    required_is place_at (codes "value") fs stored d2 refl x_stored p in
    let e3 : known_keys (codes "kind" ∷ codes "object" ∷ codes "property" ∷ codes "value" ∷ []) p
    (object (members_of fs)) ≡ Ok tt = known_is
    (codes "kind" ∷ codes "object" ∷ codes "property" ∷ codes "value" ∷ []) fs refl p in
    rw (e0, e1, e2, e3) refl

pub property_store_taken : (depth : ℕ) (ts t1 t2 t3 rest : List Token) (held : Place) (property : PropertyLiteral)
    (stored : Place) → TakesMember place_at (depth - 1) ts (codes "object") held t1
    → TakesMember literal_at (depth - 1) t1 (codes "property") property t2
    → TakesMember place_at (depth - 1) t2 (codes "value") stored t3 → t3 ≡ Token.end_object ∷ rest
    → TakesKind of.PropertyStore depth ts (value.PropertyStore held property stored) rest
property_store_taken depth ts t1 t2 t3 rest held property stored m0 m1 m2 ends = record {
  takes = λ start tree is so_far.
      let f0 = goes place_at depth start ts t1 _ (codes "object") held so_far m0 in
      let f1 = goes literal_at depth start t1 t2 _ (codes "property") property f0.opens m1 in
      let f2 = goes place_at depth start t2 t3 _ (codes "value") stored f1.opens m2 in
      kind_taken of.PropertyStore depth start t3 rest
      ((codes "value", f2.tree) ∷ (codes "property", f1.tree) ∷ (codes "object", f0.tree) ∷ (codes "kind", tree)
      ∷ []) tree (value.PropertyStore held property stored) refl is f2.opens ends
      (property_store_is tree f0.tree f1.tree f2.tree held property stored f0.is f1.is f2.is);
}

-- ---- store_global

store_global_is : (a d0 d1 : Option Data) (name : List ℕ) (stored : Place) → IsRead text_at (Some name) d0
    → IsRead place_at (Some stored) d1 → (p : List ℕ)
    → store_global_at p (object (members_of ((codes "value", d1) ∷ (codes "name", d0) ∷ (codes "kind", a) ∷ [])))
    ≡ Ok (value.StoreGlobal name stored)
store_global_is a d0 d1 name stored x_name x_stored p =
    let fs : Fields = (codes "value", d1) ∷ (codes "name", d0) ∷ (codes "kind", a) ∷ [] in
    let e0 : required text_at p (codes "name") (object (members_of fs)) ≡ Ok name =
    required_is text_at (codes "name") fs name d0 refl x_name p in
    let e1 : required place_at p (codes "value") (object (members_of fs)) ≡ Ok stored =
    required_is place_at (codes "value") fs stored d1 refl x_stored p in
    let e2 : known_keys (codes "kind" ∷ codes "name" ∷ codes "value" ∷ []) p (object (members_of fs)) ≡ Ok tt =
    known_is (codes "kind" ∷ codes "name" ∷ codes "value" ∷ []) fs refl p in
    rw (e0, e1, e2) refl

pub store_global_taken : (depth : ℕ) (ts t1 t2 rest : List Token) (name : List ℕ) (stored : Place)
    → TakesMember text_at (depth - 1) ts (codes "name") name t1
    → TakesMember place_at (depth - 1) t1 (codes "value") stored t2 → t2 ≡ Token.end_object ∷ rest
    → TakesKind of.StoreGlobal depth ts (value.StoreGlobal name stored) rest
store_global_taken depth ts t1 t2 rest name stored m0 m1 ends = record {
  takes = λ start tree is so_far.
      let f0 = goes text_at depth start ts t1 _ (codes "name") name so_far m0 in
      let f1 = goes place_at depth start t1 t2 _ (codes "value") stored f0.opens m1 in
      kind_taken of.StoreGlobal depth start t2 rest
      ((codes "value", f1.tree) ∷ (codes "name", f0.tree) ∷ (codes "kind", tree) ∷ []) tree
      (value.StoreGlobal name stored) refl is f1.opens ends
      (store_global_is tree f0.tree f1.tree name stored f0.is f1.is);
}

-- ---- object_expression

object_expression_is : (a d0 : Option Data) (g_properties : Option (List ObjectPropertyOrSpread))
    (properties : List ObjectPropertyOrSpread) → IsRead (list_at property_at) g_properties d0 → properties
    ≡ unwrap_or g_properties [] → (p : List ℕ)
    → object_expression_at p (object (members_of ((codes "properties", d0) ∷ (codes "kind", a) ∷ [])))
    ≡ Ok (value.ObjectExpression properties)
object_expression_is a d0 g_properties properties x_properties s_properties p =
    let fs : Fields = (codes "properties", d0) ∷ (codes "kind", a) ∷ [] in
    let e0 : list_of property_at p (codes "properties") (object (members_of fs)) ≡ Ok properties =
    list_of_is property_at (codes "properties") fs g_properties properties d0 refl x_properties s_properties p in
    let e1 : known_keys (codes "kind" ∷ codes "properties" ∷ []) p (object (members_of fs)) ≡ Ok tt =
    known_is (codes "kind" ∷ codes "properties" ∷ []) fs refl p in
    rw (e0, e1) refl

pub object_expression_taken : (depth : ℕ) (ts t1 rest : List Token) (properties : List ObjectPropertyOrSpread)
    → TakesList property_at (depth - 1) ts (codes "properties") properties t1 → t1 ≡ Token.end_object ∷ rest
    → TakesKind of.ObjectExpression depth ts (value.ObjectExpression properties) rest
object_expression_taken depth ts t1 rest properties m0 ends = record {
  takes = λ start tree is so_far.
      let f0 = may_go (list_at property_at) depth start ts t1 _ (codes "properties") m0.list so_far m0.may in
      kind_taken of.ObjectExpression depth start t1 rest ((codes "properties", f0.tree) ∷ (codes "kind", tree) ∷ [])
      tree (value.ObjectExpression properties) refl is f0.opens ends
      (object_expression_is tree f0.tree m0.list properties f0.is m0.is);
}
