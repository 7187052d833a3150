-- The unit that JSON data spell, and the one that a text spells.
use Rattle.std.specs.Prelude.{◌≡◌, ℕ, ◌==◌, List, [], ◌∷◌, length, Some, Result, Ok, Err, ⊤, codes, if◌then◌else◌}
use Rattle.std.specs.Prelude.{IsUtf8}
use Rattle.alias_base.specs.Answer.{◌>>=◌}
use Rattle.serde_json.specs.Data.{Data}
use Rattle.serde_json.specs.Read.{read}
use Rattle.alias_hir.specs.declared.hir.ContextValue.{ContextValue}
use Rattle.alias_hir.specs.declared.hir.HirFunction.{HirFunction}
use Rattle.alias_hir.specs.declared.env.Environment.{Environment}
use Rattle.alias_hir.specs.declared.env.Unit.{Unit as HirUnit}
use Rattle.alias_json.specs.Fault.{refusal}
use Rattle.alias_json.specs.Reading.{Reads, number_at, object_at, known_keys, array_of}
use Rattle.alias_read.specs.Json.{list_at, required, given_or, list_of}
use Rattle.alias_json.specs.Names.{named_at}
use Rattle.alias_json.specs.declared.fault.ValueFault.{ValueFault}
use Rattle.alias_json.specs.declared.fault.ValueFault.TheVariants as value
use Rattle.alias_json.specs.declared.fault.TextRule.TheVariants.{Range}
use Rattle.alias_read.specs.Names.{value_kind_names, value_reason_names}
use Rattle.alias_read.specs.Types.{type_at}
use Rattle.alias_read.specs.Shapes.{shapes_at}
use Rattle.alias_read.specs.Tables.{identifier_at, unset, config_at}
use Rattle.alias_read.specs.Functions.{function_at}
use Rattle.alias_read.specs.declared.unit.Format.{Format}
use Rattle.alias_read.specs.declared.unit.Format.TheVariants.{First, Second}
use Rattle.alias_read.specs.declared.fault.TextFault.{TextFault}
use Rattle.alias_read.specs.declared.fault.TextFault.TheVariants as fault

-- the formats are 1 and 2
abbrev pub format_numbered : List ℕ → ℕ → Result Format ValueFault
format_numbered p n = if n == 1 then Ok First else (if n == 2 then Ok Second else refusal p Range)

abbrev pub format_at : Reads Format
format_at p d = number_at p d >>= format_numbered p

abbrev pub context_value_at : Reads ContextValue
context_value_at p d = do
  _ ← object_at p d
  kind ← required (named_at value_kind_names) p (codes "kind") d
  reasons ← list_of (named_at value_reason_names) p (codes "reasons") d
  _ ← known_keys (codes "kind" ∷ codes "reasons" ∷ []) p d
  Ok (record { kind = kind; reasons = reasons })

-- one for each of so many context places
abbrev pub context_values_at : ℕ → Reads (List ContextValue)
context_values_at count p d = do
  _ ← array_of count p d
  list_at context_value_at p d

-- what the context places of the root are: the first format has no such key
abbrev pub root_values_at : Format → HirFunction → Reads (List ContextValue)
root_values_at First root p d = Ok []
root_values_at Second root p d = given_or (context_values_at (length root.context)) [] p (codes "context_values") d

abbrev pub first_keys : List (List ℕ)
first_keys = codes "format" ∷ codes "config" ∷ codes "types" ∷ codes "shapes" ∷ codes "identifiers" ∷ codes "functions"
    ∷ codes "root" ∷ []

abbrev pub second_keys : List (List ℕ)
second_keys = codes "format" ∷ codes "config" ∷ codes "types" ∷ codes "shapes" ∷ codes "identifiers" ∷ codes "functions"
    ∷ codes "root" ∷ codes "context_values" ∷ []

abbrev pub unit_keys : Format → Reads ⊤
unit_keys First p d = known_keys first_keys p d
unit_keys Second p d = known_keys second_keys p d

-- the tables of a unit, with no reports yet
abbrev pub environment_at : Reads Environment
environment_at p d = do
  config ← given_or config_at unset p (codes "config") d
  types ← list_of type_at p (codes "types") d
  shapes ← given_or shapes_at [] p (codes "shapes") d
  identifiers ← list_of identifier_at p (codes "identifiers") d
  functions ← list_of function_at p (codes "functions") d
  Ok (record {
    identifiers = identifiers;
    types = types;
    functions = functions;
    shapes = shapes;
    errors = [];
    interned = [];
    config = config;
  })

abbrev pub with_context_values : HirFunction → List ContextValue → HirFunction
with_context_values root values = record root { context_values = values }

-- the root, with the tables that were read
abbrev pub rooted_at : Format → Environment → Reads HirUnit
rooted_at format env p d = do
  root ← required function_at p (codes "root") d
  values ← root_values_at format root p d
  _ ← unit_keys format p d
  Ok (record { function = with_context_values root values; env = env })

abbrev pub unit_at : Reads HirUnit
unit_at p d = do
  _ ← object_at p d
  format ← required format_at p (codes "format") d
  env ← environment_at p d
  rooted_at format env p d

-- the unit that data spell, or the first fault
abbrev pub unit_of : Data → Result HirUnit ValueFault
unit_of = unit_at []

-- the tree that the whole of the bytes reads as, with at most 127 levels
pub record IsReading (bytes : List ℕ) (d : Data) : Type 0 where
  pub text : IsUtf8 bytes
  pub tree : read bytes ≡ Some d

-- the bytes are the JSON of this unit
abbrev pub UnitReading : List ℕ → HirUnit → Type 0
UnitReading bytes u = (d : Data) × IsReading bytes d × (unit_of d ≡ Ok u)

-- the bytes are the JSON of no unit
abbrev pub NoUnit : List ℕ → Type 0
NoUnit bytes = (u : HirUnit) → UnitReading bytes u → ⊥

-- what a reader of units answers
abbrev pub ReadsUnit : List ℕ → Result HirUnit TextFault → Type 0
ReadsUnit bytes (Ok u) = UnitReading bytes u
ReadsUnit bytes (Err (fault.NotUnit p r)) = (d : Data) × IsReading bytes d × (unit_of d ≡ Err (value.Refused p r))
ReadsUnit bytes (Err fault.NotJson) = (d : Data) → IsReading bytes d → ⊥
ReadsUnit bytes (Err (fault.Memory e)) = ⊤
