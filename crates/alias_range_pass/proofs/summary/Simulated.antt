-- A simulated walk changes nothing but marks.
use Rattle.std.proofs.Common.{◌≡◌, ℕ, ◌++◌, false, List, [], ◌∷◌, None, refl, ap, ◌∙◌, append-nil}
use Rattle.alias_hir.specs.declared.env.Environment.{Environment}
use Rattle.alias_hir.specs.declared.env.Identifier.{Identifier}
use Rattle.alias_hir.specs.declared.place.Place.{Place}
use Rattle.alias_graph.specs.declared.types.Entry.{Entry}
use Rattle.alias_graph.specs.NodeMarks.{ranges_after}
use Rattle.alias_graph.specs.Nodes.{Nodes}
use Rattle.alias_range_pass.specs.summary.Flows.{flow_start}
use Rattle.alias_range_pass.specs.summary.Walking.{expanded, env_after}

no_ranges : (rs : List Identifier) (done : List Entry) → ranges_after None rs done ≡ rs
no_ranges rs [] = refl
no_ranges rs (e ∷ done) = no_ranges rs done

pub simulated : (index : ℕ) (into : Place) (g : Nodes) (env : Environment)
    → env_after false (flow_start index into) g env ≡ env
simulated index into g env =
    ap (λ z. record env { identifiers = z; errors = env.errors ++ [] })
    (no_ranges env.identifiers (expanded g (flow_start index into)))
    ∙ ap (λ z. record env { errors = z }) (append-nil env.errors)
