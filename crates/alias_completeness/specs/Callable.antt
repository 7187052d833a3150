-- Functions that are fit to be called.
use Rattle.std.specs.Prelude.{◌≡◌, ◌≢◌, ℕ, ◌<◌, Bool, false, List, ◌∷◌, ◌++◌, Option, Some, None, length, slice_get}
use Rattle.std.specs.List.{AllByRecursion}
use Rattle.alias_base.specs.declared.ids.FunctionId.{FunctionId}
use Rattle.alias_base.specs.declared.ids.InstructionId.{InstructionId}
use Rattle.alias_hir.specs.Values.{created}
use Rattle.alias_hir.specs.declared.effect.AliasingEffect.{AliasingEffect}
use Rattle.alias_hir.specs.declared.effect.AliasingEffect.TheVariants as effect
use Rattle.alias_hir.specs.declared.env.Environment.{Environment}
use Rattle.alias_hir.specs.declared.hir.HirFunction.{HirFunction}
use Rattle.alias_hir.specs.declared.hir.Instruction.{Instruction}
use Rattle.alias_hir.specs.declared.place.Place.{Place}
use Rattle.alias_calls.specs.Summaries.{same_id, plain_params, last_spread}

-- ---- the parts of a summary

-- an error or a Render, which looks at nothing
abbrev pub IsReport : AliasingEffect → Type 0
IsReport (effect.Impure p error) = Unit {0}
IsReport (effect.MutateFrozen p error) = Unit {0}
IsReport (effect.MutateGlobal p error) = Unit {0}
IsReport (effect.Render p) = Unit {0}
IsReport e = ⊥

-- a write of a place that isn't what is returned
abbrev pub IsMark : ℕ → AliasingEffect → Type 0
IsMark returns (effect.Mutate v r) = v.identifier.0 ≢ returns
IsMark returns (effect.MutateTransitive v) = v.identifier.0 ≢ returns
IsMark returns (effect.MutateConditionally v) = v.identifier.0 ≢ returns
IsMark returns (effect.MutateTransitiveConditionally v) = v.identifier.0 ≢ returns
IsMark returns e = ⊥

-- a flow: an alias of what is returned, or a capture
abbrev pub IsFlow : ℕ → AliasingEffect → Type 0
IsFlow returns (effect.Alias from into) = into.identifier.0 ≡ returns
IsFlow returns (effect.Capture from into) = Unit {0}
IsFlow returns e = ⊥

-- what is returned, as a new value
abbrev pub IsReturn : ℕ → AliasingEffect → Type 0
IsReturn returns (effect.Create x k r) = x.identifier.0 ≡ returns
IsReturn returns e = ⊥

-- reports, then writes, then one value for what is returned, and then the flows
pub record IsSummary (returns : ℕ) (es : List AliasingEffect) : Type 0 where
  pub reports : List AliasingEffect
  pub marks : List AliasingEffect
  pub created : AliasingEffect
  pub flows : List AliasingEffect
  pub parts : es ≡ reports ++ (marks ++ created ∷ flows)
  pub are_reports : AllByRecursion IsReport reports
  pub are_marks : AllByRecursion (IsMark returns) marks
  pub is_return : IsReturn returns created
  pub are_flows : AllByRecursion (IsFlow returns) flows

-- ---- names

module _ {K : Type 0} (same : K → K → Bool) where
  -- no parameter has the name
  abbrev pub IsNoParam : K → List K → Type 0
  IsNoParam k params = AllByRecursion (λ x. same x k ≡ false) params

  abbrev pub IsNotRest : K → Option K → Type 0
  IsNotRest k None = Unit {0}
  IsNotRest k (Some r) = same r k ≡ false

-- ---- functions that are fit to be called

-- what the function returns has an identifier of its own, and its summary is one
pub record IsCallable (env : Environment) (f : HirFunction) : Type 0 where
  pub within : f.returns.identifier.0 < length env.identifiers
  pub params : IsNoParam same_id f.returns.identifier (plain_params f.params)
  pub rest : IsNotRest same_id f.returns.identifier (last_spread f.params None)
  pub context : AllByRecursion (λ (p : Place). p.identifier.0 ≢ f.returns.identifier.0) f.context
  pub summary : (es : List AliasingEffect) → f.aliasing_effects ≡ Some es → IsSummary f.returns.identifier.0 es

-- so are all functions of the table
abbrev pub AreCallable : Environment → Type 0
AreCallable env = (n : ℕ) (f : HirFunction) → slice_get env.functions n ≡ Some f → IsCallable env f

-- so is the one in the slot of a number, if there is one
abbrev pub SlotIsCallable : Environment → FunctionId → Type 0
SlotIsCallable env f = (g : HirFunction) → slice_get env.functions f.0 ≡ Some g → IsCallable env g

-- so are those that the function's own instructions create
abbrev pub CreatesCallable : Environment → HirFunction → Type 0
CreatesCallable env func = (i : InstructionId) (x : Instruction) (f : FunctionId)
    → slice_get func.instructions i.0 ≡ Some x → created x.value ≡ Some f → SlotIsCallable env f
