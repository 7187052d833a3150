-- What a walk has recorded.
use Rattle.std.proofs.Common.{◌≡◌, ℕ, ◌+◌, ◌*◌, ◌-◌, ◌≤◌, ◌||◌, Bool, true, false, cond, List, [], ◌∷◌, ◌++◌, Option}
use Rattle.std.proofs.Common.{Some, None, is_some, slice_get, option_map, refl, ap, sym, ◌∙◌, subst, arith, suc, zero}
use Rattle.std.proofs.Common.{append_assoc, append-nil, Result, Ok, Err, OnErr, OnOk}
use Rattle.alias_base.specs.declared.ids.EvaluationOrder.{EvaluationOrder}
use Rattle.alias_base.specs.declared.ids.IdentifierId.{IdentifierId}
use Rattle.alias_hir.specs.declared.env.Environment.{Environment}
use Rattle.alias_hir.specs.declared.env.Identifier.{Identifier}
use Rattle.alias_hir.specs.declared.hir.HirFunction.{HirFunction}
use Rattle.alias_hir.specs.declared.report.Interned.{Interned}
use Rattle.alias_hir.specs.declared.report.Report.{Report}
use Rattle.alias_hir.specs.ReportNumbers.{effect_reports, summary}
use Rattle.alias_graph.specs.declared.types.Entry.{Entry}
use Rattle.alias_graph.specs.declared.types.Node.{Node as StoredNode}
use Rattle.alias_graph.specs.declared.types.NodeValue.{NodeValue}
use Rattle.alias_graph.specs.declared.types.NodeValue.TheVariants.{Object, Phi, Function}
use Rattle.alias_graph.specs.declared.types.Origin.{Origin}
use Rattle.alias_graph.specs.declared.types.StoredLink.{StoredLink}
use Rattle.alias_graph.specs.Flat.{node_of, nodes_of}
use Rattle.alias_graph.specs.Links.{covers, next, node_exists, step_to, walk, all_links}
use Rattle.alias_graph.specs.NodeMarks.{marked, range_visited, ranges_after}
use Rattle.alias_graph.specs.Nodes.{Node, Nodes, Entries, node_at}
use Rattle.alias_graph.specs.Walks.{is_new, pop, step_at, step}
use Rattle.alias_graph.specs.Reports.{value_reports, reported_at, stored_reported_at, reports_after, recorded_after}
use Rattle.alias_graph.specs.Reports.{with_reports, walked, Front, recorded_by, Stopped}
use Rattle.alias_graph.proofs.Flats.{node_at_of}

-- ---- what is reported depends on the functions and the interned reports alone

value_same : (e f : Environment) → e.functions ≡ f.functions → e.interned ≡ f.interned → (v : NodeValue)
    → value_reports e v ≡ value_reports f v
value_same e f a b Object = refl
value_same e f a b Phi = refl
value_same e f a b (Function id) =
    ap (λ (fs : List HirFunction). effect_reports e.interned (summary (slice_get fs id.0))) a
    ∙ ap (λ (es : List Interned). effect_reports es (summary (slice_get f.functions id.0))) b

pub reported_same : (e f : Environment) → e.functions ≡ f.functions → e.interned ≡ f.interned → (o : Option Node)
    → reported_at e o ≡ reported_at f o
reported_same e f a b None = refl
reported_same e f a b (Some n) = ap (λ rs. cond (is_some n.local || is_some n.transitive) [] rs)
    (value_same e f a b n.value)

stored_same : (env : Environment) (links : List StoredLink) (o : Option StoredNode) → stored_reported_at env o
    ≡ reported_at env (option_map (node_of links) o)
stored_same env links None = refl
stored_same env links (Some n) = refl

-- what is reported at stored nodes, by another environment with the same tables
pub reported_slot : (env env₀ : Environment) → env.functions ≡ env₀.functions → env.interned ≡ env₀.interned
    → (links : List StoredLink) (k : Entries StoredNode) (g : Nodes) (id : IdentifierId) → nodes_of links k ≡ g
    → stored_reported_at env (node_at k id) ≡ reported_at env₀ (node_at g id)
reported_slot env env₀ a b links k g id is =
    stored_same env links (node_at k id)
    ∙ ap (reported_at env) (sym (node_at_of links k id) ∙ ap (λ z. node_at z id) is)
    ∙ reported_same env env₀ a b (node_at g id)

-- ---- one entry more

more_reported : (r : Bool) (a old new : List Report) → (a ++ cond r old []) ++ cond r new [] ≡ a
    ++ cond r (old ++ new) []
more_reported true a old new = append_assoc a old new
more_reported false a old new = append-nil (a ++ [])

pub recorded_more : (r : Bool) (old new : List Report) → cond r old [] ++ cond r new [] ≡ cond r (old ++ new) []
recorded_more true old new = refl
recorded_more false old new = refl

abbrev pub with_identifiers : List Identifier → Environment → Environment
with_identifiers xs env = record env { identifiers = xs }

abbrev with_errors : List Report → Environment → Environment
with_errors rs env = record env { errors = rs }

abbrev both_set : Environment → List Identifier → List Report → Environment
both_set env xs rs = record env { identifiers = xs; errors = rs }

module _ (r : Bool) (m : ℕ) (origin : Origin) (end : Option EvaluationOrder) (g₀ : Nodes) (env₀ : Environment)
    (done : List Entry) (env : Environment) (tells : env ≡ walked r m origin end g₀ done env₀) where
  same_functions : env.functions ≡ env₀.functions
  same_functions = ap (λ (z : Environment). z.functions) tells

  same_interned : env.interned ≡ env₀.interned
  same_interned = ap (λ (z : Environment). z.interned) tells

  module _ (e : Entry) (links : List StoredLink) (k : Entries StoredNode)
      (nodes : nodes_of links k ≡ marked m origin g₀ done) where
    abbrev new : List Report
    new = reported_at env₀ (node_at (marked m origin g₀ done) e.id)

    pub reported_now : stored_reported_at env (node_at k e.id) ≡ new
    reported_now = reported_slot env env₀ same_functions same_interned links k (marked m origin g₀ done) e.id nodes

    pub tells_more : (env₁ : Environment) → env₁
        ≡ with_reports (cond r (stored_reported_at env (node_at k e.id)) []) env
        → record env₁ { identifiers = range_visited end e.id env₁.identifiers }
        ≡ walked r m origin end g₀ (e ∷ done) env₀
    tells_more env₁ is =
        ap (λ (z : Environment). with_identifiers (range_visited end e.id z.identifiers) z)
        (is ∙ ap (λ rs. with_reports (cond r rs []) env) reported_now ∙ ap (with_reports (cond r new [])) tells)
        ∙ ap (both_set env₀ (range_visited end e.id (ranges_after end env₀.identifiers done)))
        (more_reported r env₀.errors (reports_after env₀ m origin g₀ done) new)

-- ---- a walk pops no less later

pop_more : (g : Nodes) (m : ℕ) (b : Bool) (e : Entry) (es done : List Entry) (p : ℕ) → p
    ≤ (pop covers (node_exists g) (next g m) b e es done p).popped
pop_more g m true e es done p = omega arith
pop_more g m false e es done p = omega arith

step_more : (g : Nodes) (m : ℕ) (es done : List Entry) (p : ℕ) → p
    ≤ (step_at covers (node_exists g) (next g m) es done p).popped
step_more g m [] done p = omega arith
step_more g m (e ∷ es) done p = pop_more g m (is_new covers (node_exists g) (next g m) done e) e es done p

steps_more : (g : Nodes) (m : ℕ) (s : Entry) (n j : ℕ) → (step_to g m s n).popped ≤ (step_to g m s (n + j)).popped
steps_more g m s n zero =
    let none : n + zero ≡ n = omega arith in
    let same : (step_to g m s (n + zero)).popped ≡ (step_to g m s n).popped = ap (λ k. (step_to g m s k).popped) none in
    omega arith
steps_more g m s n (suc j) =
    let before = steps_more g m s n j in
    let w = step_to g m s (n + j) in
    let one = step_more g m w.stack w.done w.popped in
    let more : n + suc j ≡ suc (n + j) = omega arith in
    let same : (step_to g m s (n + suc j)).popped ≡ (step covers (node_exists g) (next g m) w).popped =
    ap (λ k. (step_to g m s k).popped) more in
    omega arith

pub pops_within : (g : Nodes) (m : ℕ) (s : Entry) (n : ℕ) → n ≤ 1 + 8 * all_links g → (step_to g m s n).popped ≡ n → n
    ≤ (walk g m s).popped
pops_within g m s n few is =
    let more = steps_more g m s n (1 + 8 * all_links g - n) in
    let all : n + (1 + 8 * all_links g - n) ≡ 1 + 8 * all_links g = omega arith in
    let same : (step_to g m s (n + (1 + 8 * all_links g - n))).popped ≡ (walk g m s).popped =
    ap (λ k. (step_to g m s k).popped) all in
    omega arith

-- ---- where a walk is refused

pub answered : {A E : Type 0} {P : Type 0} (r : Result A E) → P → OnOk r P
answered (Ok x) p = p
answered (Err e) p = tt

pub refused : {A E : Type 0} {P : Type 0} (r : Result A E) → P → OnErr r P
refused (Ok x) p = tt
refused (Err e) p = p

nothing_yet : (r : Bool) (rs : List Report) → cond r [] [] ++ rs ≡ rs
nothing_yet true rs = refl
nothing_yet false rs = refl

still_nothing : (r : Bool) (rs : List Report) → rs ≡ (rs ++ cond r [] []) ++ []
still_nothing true rs = sym (append-nil (rs ++ []) ∙ append-nil rs)
still_nothing false rs = sym (append-nil (rs ++ []) ∙ append-nil rs)

pub tells_nothing : (r : Bool) (m : ℕ) (origin : Origin) (end : Option EvaluationOrder) (g₀ : Nodes) (env : Environment)
    → env ≡ walked r m origin end g₀ [] env
tells_nothing true m origin end g₀ env = ap (λ rs. with_errors rs env) (sym (append-nil env.errors))
tells_nothing false m origin end g₀ env = ap (λ rs. with_errors rs env) (sym (append-nil env.errors))

-- before the first entry
pub stopped_first : (r : Bool) (m : ℕ) (origin : Origin) (end : Option EvaluationOrder) (g₀ : Nodes) (s : Entry)
    (env : Environment) (steps : ℕ) → Stopped r m origin end g₀ s env steps g₀ env steps
stopped_first r m origin end g₀ s env steps = record {
  popped = 0;
  within = omega arith;
  nodes = refl;
  counted = omega arith;
  identifiers = refl;
  next = recorded_by r m origin end g₀ s env 1;
  whole = nothing_yet r (recorded_by r m origin end g₀ s env 1);
  reports = record {
    some = [];
    rest = recorded_by r m origin end g₀ s env 1;
    grown = still_nothing r env.errors;
    whole = refl;
  };
}

front_when : (r : Bool) (old new all : List Report) → r ≡ true → Front old new all → Front old new (cond r all [])
front_when true old new all h f = f
front_when false old new all h f = cc

-- at an entry whose reports there was no memory for
pub stopped_later : (r : Bool) (m : ℕ) (origin : Origin) (end : Option EvaluationOrder) (g₀ : Nodes) (s : Entry)
    (env₀ : Environment) (steps n steps' : ℕ) (env env' : Environment) (e : Entry) (links : List StoredLink)
    (k : Entries StoredNode)
    → env ≡ walked r m origin end g₀ (step_to g₀ m s n).done env₀
    → nodes_of links k ≡ marked m origin g₀ (step_to g₀ m s n).done
    → (step_to g₀ m s (n + 1)).done ≡ e ∷ (step_to g₀ m s n).done
    → n ≤ (walk g₀ m s).popped
    → steps' ≡ steps + n
    → r ≡ true
    → env' ≡ record env { errors = env'.errors }
    → Front env.errors env'.errors (stored_reported_at env (node_at k e.id))
    → Stopped r m origin end g₀ s env₀ steps (nodes_of links k) env' steps'
stopped_later r m origin end g₀ s env₀ steps n steps' env env' e links k tells nodes more within counted recording kept
    front =
    let done = (step_to g₀ m s n).done in
    let new = reported_at env₀ (node_at (marked m origin g₀ done) e.id) in
    let reported_is : stored_reported_at env (node_at k e.id) ≡ new =
    reported_now r m origin end g₀ env₀ done env tells e links k nodes in
    let errors_are : env.errors ≡ env₀.errors ++ recorded_by r m origin end g₀ s env₀ n =
    ap (λ (z : Environment). z.errors) tells in
    record {
      popped = n;
      within = within;
      nodes = nodes;
      counted = counted;
      identifiers = kept ∙ ap (with_errors env'.errors) tells;
      next = cond r new [];
      whole = recorded_more r (reports_after env₀ m origin g₀ done) new
          ∙ ap (recorded_after r env₀ m origin g₀) (sym more);
      reports = subst (λ old. Front old env'.errors (cond r new [])) errors_are
          (front_when r env.errors env'.errors new recording (subst (Front env.errors env'.errors) reported_is front));
    }
