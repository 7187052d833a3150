-- The types that JSON data spell.
use Rattle.std.specs.Prelude.{ℕ, List, [], ◌∷◌, Option, Result, Ok, codes}
use Rattle.std.specs.Ordering.{nat_cmp, match_ordering}
use Rattle.std.specs.Cmp.Lexicographic.{slice_cmp}
use Rattle.alias_base.specs.Answer.{◌>>=◌}
use Rattle.serde_json.specs.Data.{Data, null, boolean, number, string, array, object, Members, no_members, member}
use Rattle.alias_hir.specs.declared.types.Ty.{Ty}
use Rattle.alias_hir.specs.declared.types.Ty.TheVariants as ty
use Rattle.alias_json.specs.Pointer.{at_key}
use Rattle.alias_json.specs.Fault.{refusal}
use Rattle.alias_json.specs.Reading.{Reads, text_at, known_keys}
use Rattle.alias_read.specs.Json.{required, optional, flag}
use Rattle.alias_json.specs.Names.{named_at}
use Rattle.alias_json.specs.declared.fault.ValueFault.{ValueFault}
use Rattle.alias_json.specs.declared.fault.TextRule.TheVariants.{Missing, Kind}
use Rattle.alias_read.specs.declared.type_kinds.PlainType.{PlainType}
use Rattle.alias_read.specs.declared.type_kinds.PlainType.TheVariants as plain
use Rattle.alias_read.specs.declared.type_kinds.LeafKind.{LeafKind}
use Rattle.alias_read.specs.declared.type_kinds.LeafKind.TheVariants as leaf
use Rattle.alias_read.specs.declared.type_kinds.TypeKind.{TypeKind}
use Rattle.alias_read.specs.declared.type_kinds.TypeKind.TheVariants.{Function, Leaf}

unfoldable pub type_names : List (List ℕ × TypeKind)
type_names =
    (codes "Primitive", Leaf (leaf.Plain plain.Primitive)) ∷
    (codes "Function", Function) ∷
    (codes "Object", Leaf leaf.Object) ∷
    (codes "Poly", Leaf (leaf.Plain plain.Poly)) ∷
    (codes "Phi", Leaf leaf.Phi) ∷
    (codes "Property", Leaf (leaf.Plain plain.Property)) ∷
    (codes "Var", Leaf (leaf.Plain plain.Var)) ∷
    (codes "ObjectMethod", Leaf (leaf.Plain plain.ObjectMethod)) ∷
    []

abbrev pub plain_type : PlainType → Ty
plain_type plain.Primitive = ty.Primitive
plain_type plain.Poly = ty.Poly
plain_type plain.Property = ty.Property
plain_type plain.Var = ty.Var
plain_type plain.ObjectMethod = ty.ObjectMethod

abbrev pub plain_type_at : PlainType → Reads Ty
plain_type_at kind p d = do
  _ ← known_keys (codes "kind" ∷ []) p d
  Ok (plain_type kind)

abbrev pub object_type_at : Reads Ty
object_type_at p d = do
  shape_id ← optional text_at p (codes "shape_id") d
  _ ← known_keys (codes "kind" ∷ codes "shape_id" ∷ []) p d
  Ok (ty.Object shape_id)

abbrev pub phi_type_at : Reads Ty
phi_type_at p d = do
  jsx_operand ← flag p (codes "jsx_operand") d
  _ ← known_keys (codes "kind" ∷ codes "jsx_operand" ∷ []) p d
  Ok (ty.Phi jsx_operand)

-- a type that has no other type in it
abbrev pub leaf_type_at : LeafKind → Reads Ty
leaf_type_at (leaf.Plain kind) p d = plain_type_at kind p d
leaf_type_at leaf.Object p d = object_type_at p d
leaf_type_at leaf.Phi p d = phi_type_at p d

abbrev pub function_type_of : Option (List ℕ) → Ty → Reads Ty
function_type_of shape_id return_type p d = do
  _ ← known_keys (codes "kind" ∷ codes "shape_id" ∷ codes "return_type" ∷ []) p d
  Ok (ty.Function shape_id return_type)

-- where its return type reads as `returned`
abbrev pub function_type_with : Result Ty ValueFault → Reads Ty
function_type_with returned p d = do
  shape_id ← optional text_at p (codes "shape_id") d
  return_type ← returned
  function_type_of shape_id return_type p d

abbrev pub type_of_kind : TypeKind → Result Ty ValueFault → Reads Ty
type_of_kind Function returned p d = function_type_with returned p d
type_of_kind (Leaf kind) returned p d = leaf_type_at kind p d

-- where the key `return_type` reads as `returned`
abbrev pub type_with : Result Ty ValueFault → Reads Ty
type_with returned p d = do
  kind ← required (named_at type_names) p (codes "kind") d
  type_of_kind kind returned p d

-- `return_type_in` is the type that `get` finds at the key `return_type`, written out so that it goes down the data
abbrev mutual
  pub type_at : List ℕ → Data → Result Ty ValueFault
  type_at p null = refusal p Kind
  type_at p (boolean b) = refusal p Kind
  type_at p (number n) = refusal p Kind
  type_at p (string s) = refusal p Kind
  type_at p (array ds) = refusal p Kind
  type_at p (object ms) = type_with (return_type_in (at_key p (codes "return_type")) ms) p (object ms)

  pub return_type_in : List ℕ → Members → Result Ty ValueFault
  return_type_in p no_members = refusal p Missing
  return_type_in p (member k d ms) = match_ordering (slice_cmp nat_cmp (codes "return_type") k) (return_type_in p ms)
      (type_at p d) (return_type_in p ms)
