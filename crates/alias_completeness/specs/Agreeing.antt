-- An environment that has the identifiers of another one, of the same declarations and types, and further ones.
use Rattle.std.specs.Prelude.{◌≡◌, ◌<◌, ◌≤◌, length, refl}
use Rattle.std.proofs.Common.{arith}
use Rattle.alias_base.specs.declared.ids.IdentifierId.{IdentifierId}
use Rattle.alias_facts.specs.Hoisted.{declaration_of}
use Rattle.alias_hir.specs.Types.{type_of}
use Rattle.alias_hir.specs.declared.env.Environment.{Environment}
use Rattle.alias_signature.specs.Calls.{type_id_of}

-- what is asked of identifiers of env is answered by more as by env, and so is what is asked of shapes and flags
pub record Agrees (env more : Environment) : Type 0 where
  pub longer : length env.identifiers ≤ length more.identifiers
  pub declarations : (x : IdentifierId) → x.0 < length env.identifiers → declaration_of more x ≡ declaration_of env x
  pub type_ids : (x : IdentifierId) → x.0 < length env.identifiers → type_id_of more x ≡ type_id_of env x
  pub types : (x : IdentifierId) → x.0 < length env.identifiers → type_of more x ≡ type_of env x
  pub shapes : more.shapes ≡ env.shapes
  pub config : more.config ≡ env.config

pub agrees_self : (env : Environment) → Agrees env env
agrees_self env = record {
  longer = omega arith;
  declarations = λ x h. refl;
  type_ids = λ x h. refl;
  types = λ x h. refl;
  shapes = refl;
  config = refl;
}
