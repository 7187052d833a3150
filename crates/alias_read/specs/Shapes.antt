-- The shapes that JSON data spell, no two of one name.
use Rattle.std.specs.Prelude.{ℕ, ◌+◌, ◌++◌, List, [], ◌∷◌, Result, Ok, ⊤, codes, if◌then◌else◌}
use Rattle.std.specs.Option.{is_some}
use Rattle.alias_base.specs.Answer.{◌>>=◌}
use Rattle.serde_json.specs.Data.{null, boolean, number, string, array, object, Items, no_items, item}
use Rattle.alias_hir.specs.declared.signature.Shape.{Shape}
use Rattle.alias_hir.specs.ShapeNames.{shape_named as named}
use Rattle.alias_json.specs.Pointer.{at_key, at_index}
use Rattle.alias_json.specs.Fault.{refusal}
use Rattle.alias_json.specs.Reading.{Reads, text_at, object_at, known_keys}
use Rattle.alias_read.specs.Json.{required, optional, flag}
use Rattle.alias_json.specs.declared.fault.ValueFault.{ValueFault}
use Rattle.alias_json.specs.declared.fault.TextRule.TheVariants.{Kind, Twice}
use Rattle.alias_read.specs.Signatures.{signature_at}

-- no shape that was found has the name
abbrev pub new_name : List Shape → List ℕ → List ℕ → Result ⊤ ValueFault
new_name found p name = if is_some (named found name) then refusal p Twice else Ok tt

-- the shape of a name
abbrev pub shape_named : List ℕ → Reads Shape
shape_named id p d = do
  hook ← flag p (codes "hook") d
  signature ← optional signature_at p (codes "signature") d
  _ ← known_keys (codes "id" ∷ codes "hook" ∷ codes "signature" ∷ []) p d
  Ok (record { id = id; hook = hook; signature = signature })

-- a shape that has the name of none that was found
abbrev pub shape_at : List Shape → Reads Shape
shape_at found p d = do
  _ ← object_at p d
  id ← required text_at p (codes "id") d
  _ ← new_name found (at_key p (codes "id")) id
  shape_named id p d

-- the found shapes and then the items, the first of which has the index i
abbrev pub shape_items_at : List ℕ → ℕ → List Shape → Items → Result (List Shape) ValueFault
shape_items_at p i found no_items = Ok found
shape_items_at p i found (item d ds) = do
  shape ← shape_at found (at_index p i) d
  shape_items_at p (i + 1) (found ++ shape ∷ []) ds

abbrev pub shapes_at : Reads (List Shape)
shapes_at p null = refusal p Kind
shapes_at p (boolean b) = refusal p Kind
shapes_at p (number n) = refusal p Kind
shapes_at p (string s) = refusal p Kind
shapes_at p (array ds) = shape_items_at p 0 [] ds
shapes_at p (object ms) = refusal p Kind
