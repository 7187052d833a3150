-- The identifiers, and what is asked of the inference, that JSON data spell.
use Rattle.std.specs.Prelude.{ℕ, false, List, [], ◌∷◌, None, Ok, codes, if◌then◌else◌}
use Rattle.alias_base.specs.Answer.{◌>>=◌}
use Rattle.alias_hir.specs.declared.env.IdentifierName.{IdentifierName}
use Rattle.alias_hir.specs.declared.env.IdentifierName.TheVariants.{Named, Promoted}
use Rattle.alias_hir.specs.declared.env.Identifier.{Identifier}
use Rattle.alias_hir.specs.declared.env.Config.{Config}
use Rattle.alias_json.specs.Reading.{Reads, number_at, text_at, object_at, known_keys, is_text}
use Rattle.alias_read.specs.Json.{required, optional, flag}
use Rattle.alias_read.specs.Places.{span_at}

abbrev pub promoted_at : Reads IdentifierName
promoted_at p d = do
  _ ← object_at p d
  name ← required text_at p (codes "promoted") d
  _ ← known_keys (codes "promoted" ∷ []) p d
  Ok (Promoted name)

abbrev pub name_at : Reads IdentifierName
name_at p d = if is_text d then (text_at p d >>= (λ name. Ok (Named name))) else promoted_at p d

abbrev pub identifier_at : Reads Identifier
identifier_at p d = do
  _ ← object_at p d
  declaration ← required number_at p (codes "declaration") d
  t ← required number_at p (codes "type") d
  name ← optional name_at p (codes "name") d
  span ← optional span_at p (codes "span") d
  _ ← known_keys (codes "declaration" ∷ codes "type" ∷ codes "name" ∷ codes "span" ∷ []) p d
  Ok (record {
    declaration_id = record { 0 = declaration };
    name = name;
    mutable_range = record { start = record { 0 = 0 }; end = record { 0 = 0 } };
    scope = None;
    type_ = record { 0 = t };
    span = span;
  })

abbrev pub unset : Config
unset = record {
  enable_validations = false;
  enable_preserve_existing_memoization_guarantees = false;
  enable_transitively_freeze_function_expressions = false;
  validate_no_impure_functions_in_render = false;
}

abbrev pub config_keys : List (List ℕ)
config_keys = codes "enable_validations" ∷ codes "enable_preserve_existing_memoization_guarantees"
    ∷ codes "enable_transitively_freeze_function_expressions" ∷ codes "validate_no_impure_functions_in_render" ∷ []

abbrev pub config_at : Reads Config
config_at p d = do
  _ ← object_at p d
  validations ← flag p (codes "enable_validations") d
  preserve ← flag p (codes "enable_preserve_existing_memoization_guarantees") d
  freeze ← flag p (codes "enable_transitively_freeze_function_expressions") d
  no_impure ← flag p (codes "validate_no_impure_functions_in_render") d
  _ ← known_keys config_keys p d
  Ok (record {
    enable_validations = validations;
    enable_preserve_existing_memoization_guarantees = preserve;
    enable_transitively_freeze_function_expressions = freeze;
    validate_no_impure_functions_in_render = no_impure;
  })
