-- What steps see of functions elsewhere.
use Rattle.std.specs.Prelude.{◌≡◌, ◌||◌, List, [], Option, slice_get, refl}
use Rattle.std.proofs.Common.{ap, ◌∙◌}
use Rattle.std.specs.List.{list_any}
use Rattle.std.specs.Option.{option_map_or}
use Rattle.alias_base.specs.declared.ids.FunctionId.{FunctionId}
use Rattle.alias_hir.specs.declared.effect.AliasingEffect.{AliasingEffect}
use Rattle.alias_hir.specs.declared.env.Environment.{Environment}
use Rattle.alias_hir.specs.declared.hir.HirFunction.{HirFunction}
use Rattle.alias_apply.specs.freezing.Contexts.{context_of, context_in}
use Rattle.alias_visit.specs.Operands.{context_at}
use Rattle.alias_apply.specs.Apply.{is_error, has_error}
use Rattle.alias_apply.specs.Contexts.{StepContext, summary_of, summary_in}
use Rattle.alias_certificate_laws.specs.accepting.Alike.{none, more, Maybe, nothing, just, Alike, impure, mutate_frozen}
use Rattle.alias_certificate_laws.specs.accepting.Alike.{mutate_global, AlikeEffects, AlikeFunction, seen, Elsewhere}
use Rattle.alias_certificate_laws.specs.accepting.Alike.{elsewhere}
use Rattle.alias_certificate_laws.proofs.accepting.Likeness.{paired_get}

-- the same context over the environment elsewhere
abbrev pub other : (c : StepContext) → Elsewhere c.env → StepContext
other c o = record c { env = elsewhere c.env o }

summary_alike : (f g : Option HirFunction) → Maybe AlikeFunction f g → Maybe AlikeEffects (summary_in f) (summary_in g)
summary_alike f g nothing = nothing
summary_alike f g (just (seen h k a)) = a

context_same : (f g : Option HirFunction) → Maybe AlikeFunction f g → context_in g ≡ context_in f
context_same f g nothing = refl
context_same f g (just (seen h k a)) = refl

same_error : (e f : AliasingEffect) → Alike e f → is_error e ≡ is_error f
same_error e f (impure p q d g) = refl
same_error e f (mutate_frozen p q d g) = refl
same_error e f (mutate_global p q d g) = refl
same_error e f a = refl

same_errors : (es fs : List AliasingEffect) → AlikeEffects es fs → list_any is_error es ≡ list_any is_error fs
same_errors es fs none = refl
same_errors es fs (more {a = e} {b = f} {xs = xs} {ys = ys} q rest) =
    ap (λ b. b || list_any is_error xs) (same_error e f q) ∙ ap (λ b. is_error f || b) (same_errors xs ys rest)

pub same_has_error : (o p : Option (List AliasingEffect)) → Maybe AlikeEffects o p → has_error o ≡ has_error p
same_has_error o p nothing = refl
same_has_error o p (just a) = same_errors _ _ a

context_at_same : (f g : Option HirFunction) → Maybe AlikeFunction f g
    → option_map_or (λ (h : HirFunction). h.context) f [] ≡ option_map_or (λ (h : HirFunction). h.context) g []
context_at_same f g nothing = refl
context_at_same f g (just (seen h k a)) = refl

module _ (env : Environment) (o : Elsewhere env) where
  pub function_elsewhere : (f : FunctionId)
      → Maybe AlikeFunction (slice_get env.functions f.0) (slice_get o.functions f.0)
  function_elsewhere f = paired_get f.0 env.functions o.functions o.alike

  pub summary_elsewhere : (f : FunctionId) → Maybe AlikeEffects (summary_of env f) (summary_of (elsewhere env o) f)
  summary_elsewhere f = summary_alike (slice_get env.functions f.0) (slice_get o.functions f.0) (function_elsewhere f)

  pub context_elsewhere : (f : FunctionId) → context_of (elsewhere env o) f ≡ context_of env f
  context_elsewhere f = context_same (slice_get env.functions f.0) (slice_get o.functions f.0) (function_elsewhere f)

  pub contexts_elsewhere : context_of (elsewhere env o) ≡ context_of env
  contexts_elsewhere = λ i f. context_elsewhere f i

  pub context_at_elsewhere : (f : FunctionId) → context_at env f ≡ context_at (elsewhere env o) f
  context_at_elsewhere f = context_at_same (slice_get env.functions f.0) (slice_get o.functions f.0)
      (function_elsewhere f)
