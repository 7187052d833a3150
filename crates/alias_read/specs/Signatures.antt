-- The signatures and shapes that JSON data spell.
use Rattle.std.specs.Prelude.{ℕ, List, [], ◌∷◌, Option, None, Some, Ok, codes}
use Rattle.alias_base.specs.Answer.{◌>>=◌}
use Rattle.alias_hir.specs.declared.signature.ApplyArgConfig.{ApplyArgConfig}
use Rattle.alias_hir.specs.declared.signature.ApplyArgConfig.TheVariants as arg
use Rattle.alias_hir.specs.declared.signature.AliasingEffectConfig.{AliasingEffectConfig}
use Rattle.alias_hir.specs.declared.signature.AliasingEffectConfig.TheVariants as config
use Rattle.alias_hir.specs.declared.signature.AliasingSignatureConfig.{AliasingSignatureConfig}
use Rattle.alias_hir.specs.declared.signature.FunctionSignature.{FunctionSignature}
use Rattle.alias_json.specs.Reading.{Reads, text_at, object_at, known_keys}
use Rattle.alias_read.specs.Json.{option_at, required, optional, list_of, flag}
use Rattle.alias_json.specs.Names.{named_at}
use Rattle.alias_read.specs.Names.{effect_names, value_kind_names, value_reason_names}
use Rattle.alias_read.specs.declared.config_kinds.FlowKind.{FlowKind}
use Rattle.alias_read.specs.declared.config_kinds.FlowKind.TheVariants as flow
use Rattle.alias_read.specs.declared.config_kinds.ConfigEffectKind.{ConfigEffectKind}
use Rattle.alias_read.specs.declared.config_kinds.ConfigEffectKind.TheVariants.{Flow, Freeze, Create, Impure, Mutate}
use Rattle.alias_read.specs.declared.config_kinds.ConfigEffectKind.TheVariants.{MutateTransitiveConditionally, Apply}

unfoldable pub config_effect_names : List (List ℕ × ConfigEffectKind)
config_effect_names =
    (codes "Freeze", Freeze) ∷
    (codes "Create", Create) ∷
    (codes "CreateFrom", Flow flow.CreateFrom) ∷
    (codes "Assign", Flow flow.Assign) ∷
    (codes "Alias", Flow flow.Alias) ∷
    (codes "Capture", Flow flow.Capture) ∷
    (codes "ImmutableCapture", Flow flow.ImmutableCapture) ∷
    (codes "Impure", Impure) ∷
    (codes "Mutate", Mutate) ∷
    (codes "MutateTransitiveConditionally", MutateTransitiveConditionally) ∷
    (codes "Apply", Apply) ∷
    []

-- none is a hole
abbrev pub apply_arg_of : Option (List ℕ) → ApplyArgConfig
apply_arg_of None = arg.Hole
apply_arg_of (Some name) = arg.Place name

abbrev pub apply_arg_at : Reads ApplyArgConfig
apply_arg_at p d = option_at text_at p d >>= (λ name. Ok (apply_arg_of name))

abbrev pub flow_with : FlowKind → List ℕ → List ℕ → AliasingEffectConfig
flow_with flow.CreateFrom source into = config.CreateFrom source into
flow_with flow.Assign source into = config.Assign source into
flow_with flow.Alias source into = config.Alias source into
flow_with flow.Capture source into = config.Capture source into
flow_with flow.ImmutableCapture source into = config.ImmutableCapture source into

-- an effect from one value to another
abbrev pub flow_at : FlowKind → Reads AliasingEffectConfig
flow_at kind p d = do
  source ← required text_at p (codes "from") d
  into ← required text_at p (codes "into") d
  _ ← known_keys (codes "kind" ∷ codes "from" ∷ codes "into" ∷ []) p d
  Ok (flow_with kind source into)

abbrev pub freeze_at : Reads AliasingEffectConfig
freeze_at p d = do
  frozen ← required text_at p (codes "value") d
  reason ← required (named_at value_reason_names) p (codes "reason") d
  _ ← known_keys (codes "kind" ∷ codes "value" ∷ codes "reason" ∷ []) p d
  Ok (config.Freeze frozen reason)

abbrev pub create_at : Reads AliasingEffectConfig
create_at p d = do
  into ← required text_at p (codes "into") d
  created ← required (named_at value_kind_names) p (codes "value") d
  reason ← required (named_at value_reason_names) p (codes "reason") d
  _ ← known_keys (codes "kind" ∷ codes "into" ∷ codes "value" ∷ codes "reason" ∷ []) p d
  Ok (config.Create into created reason)

abbrev pub impure_at : Reads AliasingEffectConfig
impure_at p d = do
  place ← required text_at p (codes "place") d
  _ ← known_keys (codes "kind" ∷ codes "place" ∷ []) p d
  Ok (config.Impure place)

abbrev pub mutate_at : Reads AliasingEffectConfig
mutate_at p d = do
  mutated ← required text_at p (codes "value") d
  _ ← known_keys (codes "kind" ∷ codes "value" ∷ []) p d
  Ok (config.Mutate mutated)

abbrev pub mutate_transitive_at : Reads AliasingEffectConfig
mutate_transitive_at p d = do
  mutated ← required text_at p (codes "value") d
  _ ← known_keys (codes "kind" ∷ codes "value" ∷ []) p d
  Ok (config.MutateTransitiveConditionally mutated)

abbrev pub apply_at : Reads AliasingEffectConfig
apply_at p d = do
  receiver ← required text_at p (codes "receiver") d
  function ← required text_at p (codes "function") d
  mutates_function ← flag p (codes "mutates_function") d
  args ← list_of apply_arg_at p (codes "args") d
  into ← required text_at p (codes "into") d
  _ ← known_keys (codes "kind" ∷ codes "receiver" ∷ codes "function" ∷ codes "mutates_function" ∷ codes "args"
      ∷ codes "into" ∷ []) p d
  Ok (config.Apply receiver function mutates_function args into)

abbrev pub config_effect_of_kind : ConfigEffectKind → Reads AliasingEffectConfig
config_effect_of_kind (Flow kind) p d = flow_at kind p d
config_effect_of_kind Freeze p d = freeze_at p d
config_effect_of_kind Create p d = create_at p d
config_effect_of_kind Impure p d = impure_at p d
config_effect_of_kind Mutate p d = mutate_at p d
config_effect_of_kind MutateTransitiveConditionally p d = mutate_transitive_at p d
config_effect_of_kind Apply p d = apply_at p d

abbrev pub config_effect_at : Reads AliasingEffectConfig
config_effect_at p d = do
  _ ← object_at p d
  kind ← required (named_at config_effect_names) p (codes "kind") d
  config_effect_of_kind kind p d

abbrev pub aliasing_at : Reads AliasingSignatureConfig
aliasing_at p d = do
  _ ← object_at p d
  receiver ← required text_at p (codes "receiver") d
  params ← list_of text_at p (codes "params") d
  rest ← optional text_at p (codes "rest") d
  returns ← required text_at p (codes "returns") d
  temporaries ← list_of text_at p (codes "temporaries") d
  effects ← list_of config_effect_at p (codes "effects") d
  _ ← known_keys (codes "receiver" ∷ codes "params" ∷ codes "rest" ∷ codes "returns" ∷ codes "temporaries"
      ∷ codes "effects" ∷ []) p d
  Ok (record {
    receiver = receiver;
    params = params;
    rest = rest;
    returns = returns;
    temporaries = temporaries;
    effects = effects;
  })

abbrev pub signature_keys : List (List ℕ)
signature_keys = codes "positional_params" ∷ codes "rest_param" ∷ codes "return_value_kind"
    ∷ codes "return_value_reason" ∷ codes "callee_effect" ∷ codes "no_alias"
    ∷ codes "mutable_only_if_operands_are_mutable" ∷ codes "impure" ∷ codes "known_incompatible"
    ∷ codes "canonical_name" ∷ codes "aliasing" ∷ []

abbrev pub signature_at : Reads FunctionSignature
signature_at p d = do
  _ ← object_at p d
  positional_params ← list_of (named_at effect_names) p (codes "positional_params") d
  rest_param ← optional (named_at effect_names) p (codes "rest_param") d
  return_value_kind ← required (named_at value_kind_names) p (codes "return_value_kind") d
  return_value_reason ← optional (named_at value_reason_names) p (codes "return_value_reason") d
  callee_effect ← required (named_at effect_names) p (codes "callee_effect") d
  no_alias ← flag p (codes "no_alias") d
  mutable_only_if_operands_are_mutable ← flag p (codes "mutable_only_if_operands_are_mutable") d
  impure ← flag p (codes "impure") d
  known_incompatible ← optional text_at p (codes "known_incompatible") d
  canonical_name ← optional text_at p (codes "canonical_name") d
  aliasing ← optional aliasing_at p (codes "aliasing") d
  _ ← known_keys signature_keys p d
  Ok (record {
    positional_params = positional_params;
    rest_param = rest_param;
    return_value_kind = return_value_kind;
    return_value_reason = return_value_reason;
    callee_effect = callee_effect;
    no_alias = no_alias;
    mutable_only_if_operands_are_mutable = mutable_only_if_operands_are_mutable;
    impure = impure;
    known_incompatible = known_incompatible;
    canonical_name = canonical_name;
    aliasing = aliasing;
  })
