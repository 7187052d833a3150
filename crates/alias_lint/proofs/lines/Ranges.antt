-- A walk without an end changes no range.
use Rattle.std.proofs.Common.{◌≡◌, ℕ, ◌<◌, true, List, [], ◌∷◌, ◌++◌, Option, None, length, refl, ap, sym, ◌∙◌, subst}
use Rattle.alias_hir.specs.declared.env.Environment.{Environment}
use Rattle.alias_hir.specs.declared.env.Identifier.{Identifier}
use Rattle.alias_graph.specs.declared.types.Entry.{Entry}
use Rattle.alias_graph.specs.declared.types.Origin.{Origin}
use Rattle.alias_graph.specs.NodeMarks.{ranges_after}
use Rattle.alias_graph.specs.Nodes.{Nodes, Within, SameIds}
use Rattle.alias_graph.specs.Reports.{reports_after, walked, with_reports}
use Rattle.std.specs.Prelude.{IsTrue}

no_ranges : (xs : List Identifier) (done : List Entry) → ranges_after None xs done ≡ xs
no_ranges xs [] = refl
no_ranges xs (e ∷ done) = no_ranges xs done

pub only_reports : (index : ℕ) (origin : Origin) (g : Nodes) (done : List Entry) (env new : Environment) → new
    ≡ walked true index origin None g done env → new ≡ with_reports (reports_after env index origin g done) env
only_reports index origin g done env new is =
    is ∙ ap (λ xs. let e : Environment = record env
    { identifiers = xs; errors = env.errors ++ reports_after env index origin g done } in e)
    (no_ranges env.identifiers done)

pub still_within : (index : ℕ) (origin : Origin) (g h : Nodes) (done : List Entry) (env new : Environment) → new
    ≡ walked true index origin None g done env → SameIds g h → Within (length env.identifiers) g
    → Within (length new.identifiers) h
still_within index origin g h done env new is same within id there =
    let e : length new.identifiers ≡ length env.identifiers =
    ap (λ (z : Environment). length z.identifiers) (only_reports index origin g done env new is) in
    let P : ℕ → Type 0 = λ n. id.0 < n in
    subst P (sym e) (within id (subst IsTrue (same id) there))
