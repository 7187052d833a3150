-- What is asked of identifiers is the same beside, but for ranges.
use Rattle.std.specs.Prelude.{◌≡◌, ℕ, Bool, false, List, Option, Some, None, length, option_map, slice_get, refl}
use Rattle.std.specs.Option.{option_map_or}
use Rattle.std.proofs.Common.{ap, sym, ◌∙◌}
use Rattle.std.proofs.lemmas.List.{length-map}
use Rattle.std.proofs.lemmas.Option.{slice_get-map}
use Rattle.alias_base.specs.declared.ids.IdentifierId.{IdentifierId}
use Rattle.alias_facts.specs.Hoisted.{declaration_of}
use Rattle.alias_hir.specs.Types.{type_at, type_of, is_primitive_type, is_primitive_at, is_untyped, is_untyped_at}
use Rattle.alias_hir.specs.Types.{is_ref_or_ref_value, is_ref_at, is_builtin_collection_type, is_builtin_collection_at}
use Rattle.alias_hir.specs.Types.{returns_jsx, returns_jsx_at}
use Rattle.alias_hir.specs.declared.env.Environment.{Environment}
use Rattle.alias_hir.specs.declared.env.Identifier.{Identifier}
use Rattle.alias_hir.specs.declared.types.Ty.{Ty}
use Rattle.alias_signature.specs.Calls.{type_id_of}
use Rattle.alias_apply.specs.Reports.{name_or, name_in, named}
use Rattle.alias_seen_laws.specs.Beside.{Others, with_others, but_range, DeclareSame}

module _ (env : Environment) (z : Others) (same : DeclareSame env z) where
  abbrev there : Environment
  there = with_others env z

  -- what doesn't look at ranges
  at_same : {A : Type 0} (g : Option Identifier → A) → ((o : Option Identifier) → g (option_map but_range o) ≡ g o)
      → (n : ℕ) → g (slice_get z.identifiers n) ≡ g (slice_get env.identifiers n)
  at_same g stays n =
      sym (stays (slice_get z.identifiers n))
      ∙ ap g (sym (slice_get-map but_range z.identifiers n) ∙ ap (λ (is : List Identifier). slice_get is n) same
      ∙ slice_get-map but_range env.identifiers n)
      ∙ stays (slice_get env.identifiers n)

  type_stays : (o : Option Identifier) → type_at env (option_map but_range o) ≡ type_at env o
  type_stays None = refl
  type_stays (Some i) = refl

  pub type_same : (id : IdentifierId) → type_of there id ≡ type_of env id
  type_same id = at_same (type_at env) type_stays id.0

  type_id_stays : (o : Option Identifier)
      → option_map (λ (i : Identifier). i.type_) (option_map but_range o) ≡ option_map (λ (i : Identifier). i.type_) o
  type_id_stays None = refl
  type_id_stays (Some i) = refl

  pub type_id_same : (id : IdentifierId) → type_id_of there id ≡ type_id_of env id
  type_id_same id = at_same (option_map (λ (i : Identifier). i.type_)) type_id_stays id.0

  declaration_stays : (o : Option Identifier)
      → option_map (λ (i : Identifier). i.declaration_id) (option_map but_range o)
      ≡ option_map (λ (i : Identifier). i.declaration_id) o
  declaration_stays None = refl
  declaration_stays (Some i) = refl

  pub declaration_same : (id : IdentifierId) → declaration_of there id ≡ declaration_of env id
  declaration_same id = at_same (option_map (λ (i : Identifier). i.declaration_id)) declaration_stays id.0

  name_stays : (o : Option Identifier) → name_in (option_map but_range o) ≡ name_in o
  name_stays None = refl
  name_stays (Some i) = refl

  pub named_same : (id : IdentifierId) (other : List ℕ) → named there id other ≡ named env id other
  named_same id other = ap (name_or other) (at_same name_in name_stays id.0)

  pub count_same : length z.identifiers ≡ length env.identifiers
  count_same = sym (length-map z.identifiers but_range) ∙ ap (λ (is : List Identifier). length is) same
      ∙ length-map env.identifiers but_range

  -- ---- questions of types

  asked_same : (q : Ty → Bool) (id : IdentifierId)
      → option_map_or q (type_of there id) false ≡ option_map_or q (type_of env id) false
  asked_same q id = ap (λ (o : Option Ty). option_map_or q o false) (type_same id)

  pub ref_same : (id : IdentifierId) → is_ref_at there id ≡ is_ref_at env id
  ref_same id = asked_same is_ref_or_ref_value id

  pub collection_same : (id : IdentifierId) → is_builtin_collection_at there id ≡ is_builtin_collection_at env id
  collection_same id = asked_same is_builtin_collection_type id

  pub primitive_same : (id : IdentifierId) → is_primitive_at there id ≡ is_primitive_at env id
  primitive_same id = asked_same is_primitive_type id

  pub untyped_same : (id : IdentifierId) → is_untyped_at there id ≡ is_untyped_at env id
  untyped_same id = asked_same is_untyped id

  pub jsx_same : (id : IdentifierId) → returns_jsx_at there id ≡ returns_jsx_at env id
  jsx_same id = asked_same returns_jsx id
