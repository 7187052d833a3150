-- What walks and renders keep, one after the other.
use Rattle.std.proofs.Common.{◌≡◌, ℕ, Bool, IsTrue, List, [], ◌∷◌, ◌++◌, Option, Some, None, option_map, map, length}
use Rattle.std.proofs.Common.{slice_get, slice_set, refl, ap, sym, ◌∙◌, subst, arith, zero, suc, append_assoc}
use Rattle.std.proofs.Common.{append-nil}
use Rattle.std.specs.Option.{option_map_or}
use Rattle.alias_base.specs.declared.ids.EvaluationOrder.{EvaluationOrder}
use Rattle.alias_base.specs.declared.ids.IdentifierId.{IdentifierId}
use Rattle.alias_hir.specs.declared.env.Environment.{Environment}
use Rattle.alias_hir.specs.declared.env.Identifier.{Identifier}
use Rattle.alias_hir.specs.declared.report.Report.{Report}
use Rattle.alias_graph.specs.declared.types.Entry.{Entry}
use Rattle.alias_graph.specs.declared.types.Origin.{Origin}
use Rattle.alias_graph.specs.Links.{step_to}
use Rattle.alias_graph.specs.NodeMarks.{raised, raised_at, range_visited, ranges_after}
use Rattle.alias_graph.specs.Nodes.{Nodes, Within, SameIds}
use Rattle.alias_graph.specs.Raising.{EndsRise}
use Rattle.alias_graph.specs.Reach.{but_end}
use Rattle.alias_graph.specs.Renders.{Grown}
use Rattle.alias_graph.specs.Reports.{walked, with_reports, recorded_after, Stopped, Front}
use Rattle.alias_graph.proofs.Effects.{ranges_length, ranges_up}
use Rattle.alias_range_pass.specs.summary.Keeping.{but_walks, WalksKeep}

pub keeps_same : (env : Environment) → WalksKeep env env
keeps_same env = record { rest = refl; ends = λ i. omega arith; errors = ([], sym (append-nil env.errors)) }

grown_trans : (a b c : List Report) → Grown a b → Grown b c → Grown a c
grown_trans a b c g h = (g.0 ++ h.0, h.1 ∙ ap (λ z. z ++ h.0) g.1 ∙ append_assoc a g.0 h.0)

pub keeps_trans : (a b c : Environment) → WalksKeep a b → WalksKeep b c → WalksKeep a c
keeps_trans a b c g h = record {
  rest = h.rest ∙ g.rest;
  ends = λ i. let p = g.ends i in let q = h.ends i in omega arith;
  errors = grown_trans a.errors b.errors c.errors g.errors h.errors;
}

-- ---- a walk

pub within_kept : (n : ℕ) (g h : Nodes) → SameIds g h → Within n g → Within n h
within_kept n g h same within id there = within id (subst IsTrue (same id) there)

push_in : (o : Option Identifier) (r : Identifier) (rs : List Identifier) (i : ℕ) (v : EvaluationOrder)
    → option_map_or (λ x. r ∷ slice_set rs i (raised v x)) o (r ∷ rs) ≡ r
    ∷ option_map_or (λ x. slice_set rs i (raised v x)) o rs
push_in None r rs i v = refl
push_in (Some x) r rs i v = refl

raised_kept : (rs : List Identifier) (i : ℕ) (v : EvaluationOrder) → map but_end (raised_at rs i v) ≡ map but_end rs
raised_kept [] i v = refl
raised_kept (r ∷ rs) zero v = refl
raised_kept (r ∷ rs) (suc i) v = ap (map but_end) (push_in (slice_get rs i) r rs i v)
    ∙ ap (λ z. but_end r ∷ z) (raised_kept rs i v)

visited_kept : (end : Option EvaluationOrder) (id : IdentifierId) (rs : List Identifier)
    → map but_end (range_visited end id rs) ≡ map but_end rs
visited_kept None id rs = refl
visited_kept (Some v) id rs = raised_kept rs id.0 v

ranges_kept : (end : Option EvaluationOrder) (rs : List Identifier) (done : List Entry)
    → map but_end (ranges_after end rs done) ≡ map but_end rs
ranges_kept end rs [] = refl
ranges_kept end rs (e ∷ done) = visited_kept end e.id (ranges_after end rs done) ∙ ranges_kept end rs done

ranges_keep : (end : Option EvaluationOrder) (env : Environment) (done : List Entry) (errors : List Report)
    → Grown env.errors errors
    → WalksKeep env (record env { identifiers = ranges_after end env.identifiers done; errors = errors })
ranges_keep end env done errors grown = record {
  rest = ap (λ z. record (but_walks env) { identifiers = z }) (ranges_kept end env.identifiers done);
  ends = λ i. ranges_up end env.identifiers done i;
  errors = grown;
}

pub walk_keeps : (record_errors : Bool) (index : ℕ) (origin : Origin) (end : Option EvaluationOrder) (g : Nodes)
    (done : List Entry) (env new : Environment) → new ≡ walked record_errors index origin end g done env
    → WalksKeep env new
walk_keeps record_errors index origin end g done env new is =
    subst (λ z. WalksKeep env z) (sym is) (ranges_keep end env done
    (env.errors ++ recorded_after record_errors env index origin g done)
    (recorded_after record_errors env index origin g done, refl))

pub stopped_keeps : (record_errors : Bool) (index : ℕ) (origin : Origin) (end : Option EvaluationOrder) (g : Nodes)
    (start : Entry) (env : Environment) (steps : ℕ) (h : Nodes) (new : Environment) (counted : ℕ)
    → Stopped record_errors index origin end g start env steps h new counted → WalksKeep env new
stopped_keeps record_errors index origin end g start env steps h new counted s =
    let reports = recorded_after record_errors env index origin g (step_to g index start s.popped).done in
    subst (λ z. WalksKeep env z) (sym s.identifiers)
    (ranges_keep end env (step_to g index start s.popped).done new.errors
    (reports ++ s.reports.some, s.reports.grown ∙ append_assoc env.errors reports s.reports.some))

pub walk_within : (record_errors : Bool) (index : ℕ) (origin : Origin) (end : Option EvaluationOrder) (g : Nodes)
    (done : List Entry) (env new : Environment) (h : Nodes)
    → new ≡ walked record_errors index origin end g done env → SameIds g h → Within (length env.identifiers) g
    → Within (length new.identifiers) h
walk_within record_errors index origin end g done env new h is same within =
    let e : length new.identifiers ≡ length env.identifiers = ap (λ (z : Environment). length z.identifiers) is
    ∙ ranges_length end env.identifiers done in
    subst (λ n. Within n h) (sym e) (within_kept (length env.identifiers) g h same within)

-- ---- reports alone

pub grown_keeps : (env new : Environment) → new ≡ record env { errors = new.errors } → Grown env.errors new.errors
    → WalksKeep env new
grown_keeps env new is grown = subst (λ z. WalksKeep env z) (sym is)
    (record { rest = refl; ends = λ i. omega arith; errors = grown })

pub reports_keep : (env new : Environment) (rs : List Report) → new ≡ with_reports rs env → WalksKeep env new
reports_keep env new rs is = subst (λ z. WalksKeep env z) (sym is)
    (record { rest = refl; ends = λ i. omega arith; errors = (rs, refl) })

pub front_keeps : (env new : Environment) (all : List Report) → new ≡ record env { errors = new.errors }
    → Front env.errors new.errors all → WalksKeep env new
front_keeps env new all is f = grown_keeps env new is (f.some, f.grown)

-- ---- a sweep

same_but_ends : (a b : List Identifier) → length b ≡ length a
    → ((i : ℕ) → option_map but_end (slice_get b i) ≡ option_map but_end (slice_get a i)) → map but_end b
    ≡ map but_end a
same_but_ends [] [] size rest = refl
same_but_ends [] (y ∷ b) size rest = absurd (omega arith)
same_but_ends (x ∷ a) [] size rest = absurd (omega arith)
same_but_ends (x ∷ a) (y ∷ b) size rest =
    let first : Some (but_end y) ≡ Some (but_end x) = rest 0 in
    let here : but_end y ≡ but_end x = cc in
    ap (λ z. z ∷ map but_end b) here ∙ ap (λ z. but_end x ∷ z) (same_but_ends a b (omega arith) (λ i. rest (suc i)))

pub rise_keeps : (env new : Environment) → new ≡ record env { identifiers = new.identifiers }
    → EndsRise env.identifiers new.identifiers → WalksKeep env new
rise_keeps env new is rise = subst (λ z. WalksKeep env z) (sym is) (record {
  rest = ap (λ z. record (but_walks env) { identifiers = z })
      (same_but_ends env.identifiers new.identifiers rise.size rise.rest);
  ends = rise.kept;
  errors = ([], sym (append-nil env.errors));
})
