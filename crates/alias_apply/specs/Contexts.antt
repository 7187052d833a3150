-- What the steps of effects know.
use Rattle.std.specs.Prelude.{List, Option, None, Some, slice_get}
use Rattle.alias_base.specs.declared.ids.DeclarationId.{DeclarationId}
use Rattle.alias_base.specs.declared.ids.FunctionId.{FunctionId}
use Rattle.alias_base.specs.declared.ids.IdentifierId.{IdentifierId}
use Rattle.alias_hir.specs.declared.effect.AliasingEffect.{AliasingEffect}
use Rattle.alias_hir.specs.declared.env.Environment.{Environment}
use Rattle.alias_hir.specs.declared.hir.HirFunction.{HirFunction}
use Rattle.alias_hir.specs.declared.place.Place.{Place}
use Rattle.alias_facts.specs.Hoisted.{Accesses, declaration_of, access_at}
use Rattle.alias_apply.specs.declared.context.StepContext.{StepContext as HeldContext}

-- the tables of the unit, and for each hoisted declaration the first access to it
pub record StepContext : Type 0 where
  pub env : Environment
  pub hoisted : Accesses

-- what a context that holds references speaks of
abbrev pub held : HeldContext → StepContext
held c = record { env = c.env.now; hoisted = c.hoisted.now }

abbrev pub access_to : Accesses → Option DeclarationId → Option (Option Place)
access_to h None = None
access_to h (Some d) = access_at h d

-- the first access to the identifier's declaration, if that is hoisted. A temporary, which the tables don't have, has
-- no declaration
abbrev pub hoisted_access : StepContext → IdentifierId → Option (Option Place)
hoisted_access c id = access_to c.hoisted (declaration_of c.env id)

abbrev pub summary_in : Option HirFunction → Option (List AliasingEffect)
summary_in None = None
summary_in (Some f) = f.aliasing_effects

-- the summary of a nested function, if it has one
abbrev pub summary_of : Environment → FunctionId → Option (List AliasingEffect)
summary_of env f = summary_in (slice_get env.functions f.0)
