-- Declarations and stores, as they are taken off the tokens.
use Rattle.std.specs.Prelude.{Ok, codes}
use Rattle.std.proofs.Common.{◌≡◌, ℕ, ◌-◌, List, [], ◌∷◌, Option, Some, refl}
use Rattle.json.specs.Token.{Token}
use Rattle.serde_json.specs.Data.{Data, object}
use Rattle.alias_hir.specs.declared.place.Place.{Place}
use Rattle.alias_hir.specs.declared.value.InstructionValue.TheVariants as value
use Rattle.alias_hir.specs.declared.value.LValue.{LValue}
use Rattle.alias_json.specs.Reading.{known_keys}
use Rattle.alias_read.specs.Json.{required}
use Rattle.alias_read.specs.Places.{place_at}
use Rattle.alias_read.specs.declared.value_kinds.InstructionValueKind.TheVariants as of
use Rattle.alias_straight.specs.Kinds.{TakesKind}
use Rattle.alias_straight.specs.Members.{TakesMember, Fields, members_of, IsRead}
use Rattle.alias_straight.proofs.Fielding.{goes}
use Rattle.alias_straight.proofs.Finding.{required_is, known_is}
use Rattle.alias_straight.proofs.Kinding.{kind_taken}
use Rattle.alias_read.specs.declared.value_kinds.DeclareKind.{DeclareKind}
use Rattle.alias_read.specs.declared.value_kinds.StoreKind.{StoreKind}
use Rattle.alias_read.specs.Patterns.{lvalue_at}
use Rattle.alias_read.specs.Stores.{declare_with, declare_at, store_with, store_at, computed_store_at}

-- ---- declare

declare_is : (k : DeclareKind) (a d0 : Option Data) (lvalue : LValue) → IsRead lvalue_at (Some lvalue) d0 → (p : List ℕ)
    → declare_at k p (object (members_of ((codes "lvalue", d0) ∷ (codes "kind", a) ∷ []))) ≡ Ok (declare_with k lvalue)
declare_is k a d0 lvalue x_lvalue p =
    let fs : Fields = (codes "lvalue", d0) ∷ (codes "kind", a) ∷ [] in
    let e0 : required lvalue_at p (codes "lvalue") (object (members_of fs)) ≡ Ok lvalue =
    required_is lvalue_at (codes "lvalue") fs lvalue d0 refl x_lvalue p in
    let e1 : known_keys (codes "kind" ∷ codes "lvalue" ∷ []) p (object (members_of fs)) ≡ Ok tt =
    known_is (codes "kind" ∷ codes "lvalue" ∷ []) fs refl p in
    rw (e0, e1) refl

pub declare_taken : (k : DeclareKind) (depth : ℕ) (ts t1 rest : List Token) (lvalue : LValue)
    → TakesMember lvalue_at (depth - 1) ts (codes "lvalue") lvalue t1 → t1 ≡ Token.end_object ∷ rest
    → TakesKind (of.Declare k) depth ts (declare_with k lvalue) rest
declare_taken k depth ts t1 rest lvalue m0 ends = record {
  takes = λ start tree is so_far.
      let f0 = goes lvalue_at depth start ts t1 _ (codes "lvalue") lvalue so_far m0 in
      kind_taken (of.Declare k) depth start t1 rest ((codes "lvalue", f0.tree) ∷ (codes "kind", tree) ∷ []) tree
      (declare_with k lvalue) refl is f0.opens ends (declare_is k tree f0.tree lvalue f0.is);
}

-- ---- store

store_is : (k : StoreKind) (a d0 d1 : Option Data) (lvalue : LValue) (stored : Place)
    → IsRead lvalue_at (Some lvalue) d0 → IsRead place_at (Some stored) d1 → (p : List ℕ)
    → store_at k p (object (members_of ((codes "value", d1) ∷ (codes "lvalue", d0) ∷ (codes "kind", a) ∷ [])))
    ≡ Ok (store_with k lvalue stored)
store_is k a d0 d1 lvalue stored x_lvalue x_stored p =
    let fs : Fields = (codes "value", d1) ∷ (codes "lvalue", d0) ∷ (codes "kind", a) ∷ [] in
    let e0 : required lvalue_at p (codes "lvalue") (object (members_of fs)) ≡ Ok lvalue =
    required_is lvalue_at (codes "lvalue") fs lvalue d0 refl x_lvalue p in
    let e1 : required place_at p (codes "value") (object (members_of fs)) ≡ Ok stored =
    required_is place_at (codes "value") fs stored d1 refl x_stored p in
    let e2 : known_keys (codes "kind" ∷ codes "lvalue" ∷ codes "value" ∷ []) p (object (members_of fs)) ≡ Ok tt =
    known_is (codes "kind" ∷ codes "lvalue" ∷ codes "value" ∷ []) fs refl p in
    rw (e0, e1, e2) refl

pub store_taken : (k : StoreKind) (depth : ℕ) (ts t1 t2 rest : List Token) (lvalue : LValue) (stored : Place)
    → TakesMember lvalue_at (depth - 1) ts (codes "lvalue") lvalue t1
    → TakesMember place_at (depth - 1) t1 (codes "value") stored t2 → t2 ≡ Token.end_object ∷ rest
    → TakesKind (of.Store k) depth ts (store_with k lvalue stored) rest
store_taken k depth ts t1 t2 rest lvalue stored m0 m1 ends = record {
  takes = λ start tree is so_far.
      let f0 = goes lvalue_at depth start ts t1 _ (codes "lvalue") lvalue so_far m0 in
      let f1 = goes place_at depth start t1 t2 _ (codes "value") stored f0.opens m1 in
      kind_taken (of.Store k) depth start t2 rest
      ((codes "value", f1.tree) ∷ (codes "lvalue", f0.tree) ∷ (codes "kind", tree) ∷ []) tree
      (store_with k lvalue stored) refl is f1.opens ends
      (store_is k tree f0.tree f1.tree lvalue stored f0.is f1.is);
}

-- ---- computed_store

computed_store_is : (a d0 d1 d2 : Option Data) (held : Place) (property : Place) (stored : Place)
    → IsRead place_at (Some held) d0 → IsRead place_at (Some property) d1 → IsRead place_at (Some stored) d2
    → (p : List ℕ) → computed_store_at p (object
    (members_of ((codes "value", d2) ∷ (codes "property", d1) ∷ (codes "object", d0) ∷ (codes "kind", a) ∷ [])))
    ≡ Ok (value.ComputedStore held property stored)
computed_store_is a d0 d1 d2 held property stored x_held x_property x_stored p =
    let fs : Fields = (codes "value", d2) ∷ (codes "property", d1) ∷ (codes "object", d0) ∷ (codes "kind", a) ∷ [] in
    let e0 : required place_at p (codes "object") (object (members_of fs)) ≡ Ok held =
    required_is place_at (codes "object") fs held d0 refl x_held p in
    let e1 : required place_at p (codes "property") (object (members_of fs)) ≡ Ok property =
    required_is place_at (codes "property") fs property d1 refl x_property p in
    let e2 : required place_at p (codes "value") (object (members_of fs)) ≡ Ok stored =
    required_is place_at (codes "value") fs stored d2 refl x_stored p in
    let e3 : known_keys (codes "kind" ∷ codes "object" ∷ codes "property" ∷ codes "value" ∷ []) p
    (object (members_of fs)) ≡ Ok tt = known_is
    (codes "kind" ∷ codes "object" ∷ codes "property" ∷ codes "value" ∷ []) fs refl p in
    rw (e0, e1, e2, e3) refl

pub computed_store_taken : (depth : ℕ) (ts t1 t2 t3 rest : List Token) (held : Place) (property : Place)
    (stored : Place) → TakesMember place_at (depth - 1) ts (codes "object") held t1
    → TakesMember place_at (depth - 1) t1 (codes "property") property t2
    → TakesMember place_at (depth - 1) t2 (codes "value") stored t3 → t3 ≡ Token.end_object ∷ rest
    → TakesKind of.ComputedStore depth ts (value.ComputedStore held property stored) rest
computed_store_taken depth ts t1 t2 t3 rest held property stored m0 m1 m2 ends = record {
  takes = λ start tree is so_far.
      let f0 = goes place_at depth start ts t1 _ (codes "object") held so_far m0 in
      let f1 = goes place_at depth start t1 t2 _ (codes "property") property f0.opens m1 in
      let f2 = goes place_at depth start t2 t3 _ (codes "value") stored f1.opens m2 in
      kind_taken of.ComputedStore depth start t3 rest
      ((codes "value", f2.tree) ∷ (codes "property", f1.tree) ∷ (codes "object", f0.tree) ∷ (codes "kind", tree)
      ∷ []) tree (value.ComputedStore held property stored) refl is f2.opens ends
      (computed_store_is tree f0.tree f1.tree f2.tree held property stored f0.is f1.is f2.is);
}
