-- From the parts of finishing a function to the whole.
use Rattle.std.specs.Prelude.{⊤}
use Rattle.std.proofs.Common.{◌≡◌, true, false, List, Result, Ok, Err, ap, sym, subst, ◌∙◌}
use Rattle.alias_base.specs.Answer.{◌>>=◌}
use Rattle.alias_fitting_laws.specs.bare.EvolvedLaws.{evolves_through}
use Rattle.alias_hir.specs.Errors.{is_memory}
use Rattle.alias_hir.specs.declared.effect.AliasingEffect.{AliasingEffect}
use Rattle.alias_hir.specs.declared.env.Environment.{Environment}
use Rattle.alias_hir.specs.declared.error.InferError.{InferError}
use Rattle.alias_hir.specs.declared.hir.HirFunction.{HirFunction}
use Rattle.alias_range_pass.specs.Passes.{Ranged, range_pass}
use Rattle.alias_nested.specs.Finishing.{finished, FinishesInto}
use Rattle.alias_nested.specs.Fitting.{FunctionKept, SummaryFits}
use Rattle.alias_nested.specs.Annotating.{annotated}
use Rattle.alias_nested.proofs.Keeping.{annotated_keeps}

pub finishes : (f f₁ f₂ : HirFunction) (env e₁ e₂ : Environment) (summary : List AliasingEffect) → range_pass true f env
    ≡ Ok (record { summary = summary; after = (f₁, e₁) })
    → (f₂, e₂) ≡ annotated summary (f₁, e₁) → finished f env ≡ Ok (f₂, e₂)
finishes f f₁ f₂ env e₁ e₂ summary h set =
    ap (λ (r : Result Ranged InferError). r >>= (λ (x : Ranged). Ok (annotated x.summary x.after))) h
    ∙ ap (λ (p : HirFunction × Environment). Ok p) (sym set)

pub finish_refused : (f g : HirFunction) (env more : Environment) (r : Result ⊤ InferError) (e : InferError) → r ≡ Err e
    → (is_memory e ≡ false → (range_pass true f env ≡ Err e) × (g ≡ f) × (more ≡ env))
    → FinishesInto (finished f env) f env r g more
finish_refused f g env more r e same h =
    subst (λ (z : Result ⊤ InferError). FinishesInto (finished f env) f env z g more) (sym same)
    (λ free. let k = h free in (
      ap (λ (r : Result Ranged InferError). r
          >>= (λ (x : Ranged). Ok (annotated x.summary x.after))) k.0,
      k.1,
      k.2,
    ))

pub finish_keeps : (f f₁ f₂ : HirFunction) (env e₁ e₂ : Environment) (summary : List AliasingEffect)
    → FunctionKept f env f₁ e₁ → SummaryFits e₁ summary → (f₂, e₂) ≡ annotated summary (f₁, e₁)
    → FunctionKept f env f₂ e₂
finish_keeps f f₁ f₂ env e₁ e₂ summary ranged summarized set =
    let last = annotated_keeps summary f₁ e₁ ranged.fits summarized in
    let after : HirFunction × Environment = annotated summary (f₁, e₁) in
    let whole : FunctionKept f env after.0 after.1 =
    record {
      evolves = evolves_through env e₁ after.1 ranged.evolves last.evolves;
      still = last.still ∙ ranged.still;
      fits = last.fits;
    } in
    subst (λ (p : HirFunction × Environment). FunctionKept f env p.0 p.1) (sym set) whole
