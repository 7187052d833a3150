-- The reports that the range pass records: none where errors are not recorded, and else interned ones.
use Rattle.std.proofs.Common.{◌≡◌, ℕ, Bool, true, false, cond, not, ◌||◌, List, [], ◌∷◌, ◌++◌, Option, Some, None, map}
use Rattle.std.proofs.Common.{is_some, option_map, option_to_list, slice_get, refl, ap, sym, ◌∙◌, subst, append-nil}
use Rattle.std.proofs.Common.{zero, suc}
use Rattle.std.specs.Prelude.{Ok}
use Rattle.alias_base.specs.AnswerLaws.{both_true}
use Rattle.alias_base.specs.declared.ids.IdentifierId.{IdentifierId}
use Rattle.alias_hir.specs.ReportNumbers.{report_at, effect_reports, summary, is_invariant, reports_invariant}
use Rattle.alias_hir.specs.Effects.{error_of}
use Rattle.alias_hir.specs.declared.effect.AliasingEffect.{AliasingEffect}
use Rattle.alias_hir.specs.declared.env.Environment.{Environment}
use Rattle.alias_hir.specs.declared.hir.HirFunction.{HirFunction}
use Rattle.alias_hir.specs.declared.report.ReportId.{ReportId}
use Rattle.alias_hir.specs.declared.report.Interned.{Interned}
use Rattle.alias_hir.specs.declared.report.Report.{Report}
use Rattle.alias_rules.specs.Fitting.{reports_no_invariant, function_fits}
use Rattle.alias_rules.specs.RuleLaws.{fitting_tree}
use Rattle.alias_graph.specs.declared.types.Entry.{Entry}
use Rattle.alias_graph.specs.declared.types.NodeValue.{NodeValue}
use Rattle.alias_graph.specs.declared.types.NodeValue.TheVariants.{Object, Phi, Function}
use Rattle.alias_graph.specs.declared.types.Origin.{Origin}
use Rattle.alias_graph.specs.NodeMarks.{marked}
use Rattle.alias_graph.specs.Nodes.{Node, Nodes, node_at}
use Rattle.alias_graph.specs.Renders.{rendered, render_reports}
use Rattle.alias_graph.specs.Reports.{value_reports, reported_at, reports_after, recorded_after, with_reports}
use Rattle.alias_graph.specs.declared.recorded.listing.Listing.{Listing}
use Rattle.alias_graph.specs.declared.recorded.listing.RecordedMutation.{RecordedMutation}
use Rattle.alias_graph.specs.declared.recorded.listing.RecordedRender.{RecordedRender}
use Rattle.alias_graph.specs.recorded.Recording.{graph_listed}
use Rattle.alias_range_pass.specs.places.Blocks.{Placed}
use Rattle.alias_range_pass.specs.places.Keeping.{EnvKept}
use Rattle.alias_range_pass.specs.summary.MarkedPlaces.{function_captured}
use Rattle.alias_range_pass.specs.summary.Walking.{start_origin, expanded, mutation_start, Walked, after_mutation}
use Rattle.alias_range_pass.specs.summary.Walking.{after_mutations, after_render, after_renders, env_reported}
use Rattle.alias_range_pass.specs.summary.Walking.{mutations_done, renders_done}
use Rattle.alias_range_pass.specs.Passes.{records, Ranged, ranged, range_pass}
use Rattle.alias_ranges.specs.laws.AnswerLaws.{pass_is}
use Rattle.alias_ranges.specs.laws.PlacedLaws.{function_keeps}

abbrev errors_of : Environment → List Report
errors_of e = e.errors

abbrev interned_of : Environment → List Interned
interned_of e = e.interned

-- the environment after all walks and renders
abbrev walks_done : Bool → Listing → Environment → Environment
walks_done record_errors l env = renders_done record_errors l (mutations_done record_errors l env)

-- ---- where no errors are recorded

walks_silent : (ms : List RecordedMutation) (w : Walked) → (after_mutations false ms w).1.errors ≡ w.1.errors
walks_silent [] w = refl
walks_silent (m ∷ ms) w = walks_silent ms (after_mutation false w m) ∙ append-nil w.1.errors

silent : (record_errors : Bool) (l : Listing) (env : Environment) → record_errors ≡ false
    → (walks_done record_errors l env).errors ≡ env.errors
silent true l env h = cc
silent false l env h = walks_silent l.mutations (graph_listed l, env_reported false l env) ∙ append-nil env.errors

-- where errors are not recorded, reports stay
pub unrecorded_reports : (is_function_expression : Bool) (f : HirFunction) (env : Environment) (r : Ranged)
    → range_pass is_function_expression f env ≡ Ok r → records is_function_expression env ≡ false → r.after.1.errors
    ≡ env.errors
unrecorded_reports b f env r h off =
    let p = pass_is b f env r h in
    let c : Bool = records b env in
    let walked : Environment = walks_done c p.0 env in
    let k = function_keeps b (function_captured (mutations_done c p.0 env).0 f, walked) in
    ap (λ (z : Ranged). z.after.1.errors) (sym p.2) ∙ ap errors_of k.rest ∙ silent c p.0 env off

-- the pass over a function expression records no report
pub expression_reports : (f : HirFunction) (env : Environment) (r : Ranged) → range_pass true f env ≡ Ok r
    → r.after.1.errors ≡ env.errors
expression_reports f env r h = unrecorded_reports true f env r h refl

-- ---- interned reports

both_false : (a b : Bool) → a ≡ false → b ≡ false → (a || b) ≡ false
both_false true b p q = cc
both_false false b p q = q

neither : (a b : Bool) → (a || b) ≡ false → (a ≡ false) × (b ≡ false)
neither true b h = cc
neither false b h = (refl, h)

-- none of the reports says that an invariant was broken
abbrev AreSound : List Report → Type 0
AreSound rs = reports_invariant rs ≡ false

abbrev reports_of : List Interned → List Report
reports_of es = map (λ (e : Interned). e.report) es

sound_append : (rs qs : List Report) → AreSound rs → AreSound qs → AreSound (rs ++ qs)
sound_append [] qs p q = q
sound_append (r ∷ rs) qs p q = let b = neither (is_invariant r.category) (reports_invariant rs) p in
    both_false (is_invariant r.category) (reports_invariant (rs ++ qs)) b.0 (sound_append rs qs b.1 q)

sound_entry : (es : List Interned) (k : ℕ) → AreSound (reports_of es)
    → AreSound (option_to_list (option_map (λ (e : Interned). e.report) (slice_get es k)))
sound_entry [] k h = refl
sound_entry (e ∷ es) zero h = both_false (is_invariant e.report.category) false
    (neither (is_invariant e.report.category) (reports_invariant (reports_of es)) h).0 refl
sound_entry (e ∷ es) (suc k) h = sound_entry es k
    (neither (is_invariant e.report.category) (reports_invariant (reports_of es)) h).1

sound_at : (es : List Interned) (o : Option ReportId) → AreSound (reports_of es) → AreSound (report_at es o)
sound_at es None h = refl
sound_at es (Some id) h = sound_entry es id.instance h

sound_effects : (es : List Interned) (effects : List AliasingEffect) → AreSound (reports_of es)
    → AreSound (effect_reports es effects)
sound_effects es [] h = refl
sound_effects es (e ∷ effects) h = sound_append (report_at es (error_of e)) (effect_reports es effects)
    (sound_at es (error_of e) h) (sound_effects es effects h)

sound_when : (b : Bool) (rs : List Report) → AreSound rs → AreSound (cond b rs [])
sound_when true rs h = h
sound_when false rs h = refl

sound_unless : (b : Bool) (rs : List Report) → AreSound rs → AreSound (cond b [] rs)
sound_unless true rs h = refl
sound_unless false rs h = h

-- ---- reports of walks and renders

module _ (env : Environment) (interned : AreSound (reports_of env.interned)) where
  sound_value : (v : NodeValue) → AreSound (value_reports env v)
  sound_value Object = refl
  sound_value Phi = refl
  sound_value (Function f) = sound_effects env.interned (summary (slice_get env.functions f.0)) interned

  sound_node : (o : Option Node) → AreSound (reported_at env o)
  sound_node None = refl
  sound_node (Some n) = sound_unless (is_some n.local || is_some n.transitive) (value_reports env n.value)
      (sound_value n.value)

  sound_walk : (index : ℕ) (origin : Origin) (g : Nodes) (done : List Entry)
      → AreSound (reports_after env index origin g done)
  sound_walk index origin g [] = refl
  sound_walk index origin g (e ∷ es) =
      let o : Option Node = node_at (marked index origin g es) e.id in
      sound_append (reports_after env index origin g es) (reported_at env o) (sound_walk index origin g es)
      (sound_node o)

  sound_render : (g : Nodes) (ids : List IdentifierId) → AreSound (render_reports env g ids)
  sound_render g [] = refl
  sound_render g (id ∷ ids) = sound_append (render_reports env g ids) (reported_at env (node_at g id))
      (sound_render g ids) (sound_node (node_at g id))

-- ---- environments

-- no report that is recorded or interned says that an invariant was broken
record IsSound (env : Environment) : Type 0 where
  errors : AreSound env.errors
  interned : AreSound (reports_of env.interned)

sound_with : (rs : List Report) (env : Environment) → AreSound rs → IsSound env → IsSound (with_reports rs env)
sound_with rs env q p = record { errors = sound_append env.errors rs p.errors q; interned = p.interned }

sound_mutation : (c : Bool) (m : RecordedMutation) (w : Walked) → IsSound w.1 → IsSound (after_mutation c w m).1
sound_mutation c m w p =
    let s = mutation_start m in
    let done : List Entry = expanded w.0 s in
    let rs : List Report = recorded_after c w.1 s.index (start_origin s) w.0 done in
    record {
      errors = sound_append w.1.errors rs p.errors
          (sound_when c (reports_after w.1 s.index (start_origin s) w.0 done)
          (sound_walk w.1 p.interned s.index (start_origin s) w.0 done));
      interned = p.interned;
    }

sound_mutations : (c : Bool) (ms : List RecordedMutation) (w : Walked) → IsSound w.1
    → IsSound (after_mutations c ms w).1
sound_mutations c [] w p = p
sound_mutations c (m ∷ ms) w p = sound_mutations c ms (after_mutation c w m) (sound_mutation c m w p)

sound_renders : (g : Nodes) (rs : List RecordedRender) (env : Environment) → IsSound env
    → IsSound (after_renders g rs env)
sound_renders g [] env p = p
sound_renders g (r ∷ rs) env p =
    let ids = (rendered g r.index r.place.identifier).done in
    sound_renders g rs (after_render g env r)
    (sound_with (render_reports env g ids) env (sound_render env p.interned g ids) p)

sound_if : (c : Bool) (a b : Environment) → IsSound a → IsSound b → IsSound (cond c a b)
sound_if true a b p q = p
sound_if false a b p q = q

sound_done : (c : Bool) (l : Listing) (env : Environment) → IsSound env → IsSound (walks_done c l env)
sound_done c l env p =
    let first : IsSound (env_reported c l env) =
    sound_with (cond c (effect_reports env.interned l.summary) []) env
    (sound_when c (effect_reports env.interned l.summary) (sound_effects env.interned l.summary p.interned)) p in
    let w : Walked = mutations_done c l env in
    let second : IsSound w.1 = sound_mutations c l.mutations (graph_listed l, env_reported c l env) first in
    sound_if c (after_renders w.0 l.renders w.1) w.1 (sound_renders w.0 l.renders w.1 second) second

-- ---- the pass

is_false : (b : Bool) → not b ≡ true → b ≡ false
is_false true h = cc
is_false false h = refl

sound_of : (env : Environment) → reports_no_invariant env ≡ true → IsSound env
sound_of env h =
    let b = both_true (not (reports_invariant env.errors)) (not (reports_invariant (reports_of env.interned))) h in
    record {
      errors = is_false (reports_invariant env.errors) b.0;
      interned = is_false (reports_invariant (reports_of env.interned)) b.1;
    }

sound_placed : (old new : Environment) → EnvKept old new → IsSound old → IsSound new
sound_placed old new k p = record {
  errors = ap reports_invariant (ap errors_of k.rest) ∙ p.errors;
  interned = ap (λ es. reports_invariant (reports_of es)) (ap interned_of k.rest) ∙ p.interned;
}

sound_gives : (env : Environment) → IsSound env → reports_no_invariant env ≡ true
sound_gives env p = rw (p.errors, p.interned) refl

-- the reports that the pass records say of no broken invariant
pub reports_stay_sound : (is_function_expression : Bool) (f : HirFunction) (env : Environment) (r : Ranged)
    → range_pass is_function_expression f env ≡ Ok r → reports_no_invariant env ≡ true → reports_no_invariant r.after.1
    ≡ true
reports_stay_sound b f env r h sound =
    let p = pass_is b f env r h in
    let c : Bool = records b env in
    let walked : Environment = walks_done c p.0 env in
    let s : Placed = (function_captured (mutations_done c p.0 env).0 f, walked) in
    let k = function_keeps b s in
    let after : IsSound (ranged b f env p.0).after.1 =
    sound_placed walked (ranged b f env p.0).after.1 k (sound_done c p.0 env (sound_of env sound)) in
    sound_gives r.after.1 (subst (λ (z : Ranged). IsSound z.after.1) p.2 after)

-- the same of a function that fits
pub root_reports : (is_function_expression : Bool) (f : HirFunction) (env : Environment) (r : Ranged)
    → range_pass is_function_expression f env ≡ Ok r → function_fits f env ≡ true → reports_no_invariant r.after.1
    ≡ true
root_reports b f env r h fits = let t = fitting_tree f env fits in
    reports_stay_sound b f env r h (both_true _ (reports_no_invariant env) t.2).1
