-- A summary by its parts, and whether its function has captured.
use Rattle.std.proofs.Common.{◌≡◌, ℕ, ◌++◌, inl, inr, List, [], ◌∷◌, ap, ◌∙◌}
use Rattle.alias_hir.specs.declared.effect.AliasingEffect.{AliasingEffect}
use Rattle.alias_hir.specs.declared.env.Environment.{Environment}
use Rattle.alias_hir.specs.declared.hir.HirFunction.{HirFunction}
use Rattle.alias_hir.specs.declared.place.Place.{Place}
use Rattle.alias_graph.specs.Nodes.{Nodes}
use Rattle.alias_range_pass.specs.summary.Flows.{flows_listed}
use Rattle.alias_range_pass.specs.summary.MarkedPlaces.{marks_of_all, function_captured, IsSameOrCaptured}
use Rattle.alias_range_pass.specs.summary.Summaries.{context_and_params, returns_created, tracked, summarized}

pub not_captured : (g : Nodes) (f h : HirFunction) → h ≡ f → IsSameOrCaptured g f h
not_captured g f h is = inl is

pub all_captured : (g : Nodes) (f h : HirFunction) → h ≡ function_captured g f → IsSameOrCaptured g f h
all_captured g f h is = inr is

module _ (g : Nodes) (next : ℕ) (f : HirFunction) (env : Environment) (begin : List AliasingEffect) where
  pub summarized_is : (marked places : List Place) (created : AliasingEffect) (summary : List AliasingEffect) → marked
      ≡ context_and_params f → created ≡ returns_created env f → places ≡ tracked f
      → summary ≡ ((begin ++ marks_of_all g marked) ++ created ∷ []) ++ flows_listed g next f.returns places places
      → summary ≡ summarized g next f env begin
  summarized_is marked places created summary is_marked is_created is_places is =
      is
      ∙ ap (λ z. ((begin ++ marks_of_all g z) ++ created ∷ []) ++ flows_listed g next f.returns places places) is_marked
      ∙ ap (λ z. ((begin ++ marks_of_all g (context_and_params f)) ++ z ∷ [])
      ++ flows_listed g next f.returns places places) is_created
      ∙ ap (λ z. ((begin ++ marks_of_all g (context_and_params f)) ++ returns_created env f ∷ [])
      ++ flows_listed g next f.returns z z) is_places
