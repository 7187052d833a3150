-- Effects, tables and steps that name owned identifiers alone: those of which P holds. The context of a function that
-- an effect creates is owned too.
use Rattle.std.specs.Prelude.{◌≡◌, ℕ, List, Option, Some, None, Result, Ok}
use Rattle.std.specs.List.{AllByRecursion}
use Rattle.alias_base.specs.declared.ids.FunctionId.{FunctionId}
use Rattle.alias_hir.specs.Effects.{effect_places, function_of}
use Rattle.alias_hir.specs.declared.effect.AliasingEffect.{AliasingEffect}
use Rattle.alias_hir.specs.declared.env.Environment.{Environment}
use Rattle.alias_hir.specs.declared.place.Place.{Place}
use Rattle.alias_apply.specs.freezing.Contexts.{context_of}
use Rattle.alias_tables.specs.Tables.{TableLists}
use Rattle.alias_tables.specs.declared.temporaries.Temporary.{Temporary}
use Rattle.alias_apply.specs.declared.progress.StepProgress.{StepProgress}
use Rattle.alias_step_laws.specs.steps.FunctionSites.{StateHas}

module _ (env : Environment) (P : ℕ → Type 0) where
  abbrev pub Owns : Place → Type 0
  Owns p = P p.identifier.0

  abbrev pub OwnsAll : List Place → Type 0
  OwnsAll ps = AllByRecursion Owns ps

  -- the context places of the function
  abbrev pub OwnsContext : FunctionId → Type 0
  OwnsContext f = OwnsAll (context_of env f)

  abbrev pub OwnsCreated : Option FunctionId → Type 0
  OwnsCreated None = Unit {0}
  OwnsCreated (Some f) = OwnsContext f

  abbrev pub EffectOwns : AliasingEffect → Type 0
  EffectOwns e = OwnsAll (effect_places e) × OwnsCreated (function_of e)

  abbrev pub EffectsOwn : List AliasingEffect → Type 0
  EffectsOwn es = AllByRecursion EffectOwns es

  -- interned effects and temporaries
  pub record TablesOwn (t : TableLists) : Type 0 where
    pub first : EffectsOwn t.first
    pub temporaries : AllByRecursion (λ (x : Temporary). Owns x.place) t.temporaries

  -- what was recorded, and the functions that the state knows
  abbrev pub ProgressOwns : StepProgress → Type 0
  ProgressOwns s = EffectsOwn s.recorded × StateHas OwnsContext s.state

-- from tables that own, the step leads to such, and to a value with Q
pub record Leads {A C : Type 0} (env : Environment) (P : ℕ → Type 0) (Q : A → Type 0)
    (f : TableLists → Result (A × TableLists) C) : Type 0 where
  pub leads : (t u : TableLists) (x : A) → TablesOwn env P t → f t ≡ Ok (x, u) → TablesOwn env P u × Q x
