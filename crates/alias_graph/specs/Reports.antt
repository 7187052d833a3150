-- The reports of the functions that a walk comes to.
use Rattle.std.specs.Prelude.{◌≡◌, ℕ, ◌+◌, ◌≤◌, ◌||◌, Bool, cond, List, [], ◌∷◌, ◌++◌, Option, Some, None, is_some}
use Rattle.alias_base.specs.declared.ids.EvaluationOrder.{EvaluationOrder}
use Rattle.alias_hir.specs.declared.env.Environment.{Environment}
use Rattle.alias_hir.specs.declared.report.Report.{Report}
use Rattle.alias_hir.specs.ReportNumbers.{summary_reports}
use Rattle.alias_graph.specs.declared.types.Entry.{Entry}
use Rattle.alias_graph.specs.declared.types.Node.{Node as StoredNode}
use Rattle.alias_graph.specs.declared.types.MutationInfo.{MutationInfo}
use Rattle.alias_graph.specs.declared.types.NodeValue.{NodeValue}
use Rattle.alias_graph.specs.declared.types.NodeValue.TheVariants.{Object, Phi, Function}
use Rattle.alias_graph.specs.declared.types.Origin.{Origin}
use Rattle.alias_graph.specs.Links.{step_to, walk}
use Rattle.alias_graph.specs.NodeMarks.{marked, ranges_after, with_ranges}
use Rattle.alias_graph.specs.Nodes.{Node, Nodes, node_at}

-- the reports of a function's summary
abbrev pub value_reports : Environment → NodeValue → List Report
value_reports env Object = []
value_reports env Phi = []
value_reports env (Function f) = summary_reports env f

-- a value with a mark adds none
abbrev pub reported : Environment → NodeValue → Option MutationInfo → Option MutationInfo → List Report
reported env value local transitive = cond (is_some local || is_some transitive) [] (value_reports env value)

-- the reports that a walk adds at a node
abbrev pub reported_at : Environment → Option Node → List Report
reported_at env None = []
reported_at env (Some n) = reported env n.value n.local n.transitive

abbrev pub stored_reported_at : Environment → Option StoredNode → List Report
stored_reported_at env None = []
stored_reported_at env (Some n) = reported env n.value n.local n.transitive

-- the reports of a walk that expanded these entries, the latest first, with the marks as they were at each
abbrev pub reports_after : Environment → ℕ → Origin → Nodes → List Entry → List Report
reports_after env index origin g [] = []
reports_after env index origin g (e ∷ es) = reports_after env index origin g es
    ++ reported_at env (node_at (marked index origin g es) e.id)

-- they are added where errors are recorded
abbrev pub recorded_after : Bool → Environment → ℕ → Origin → Nodes → List Entry → List Report
recorded_after record_errors env index origin g done = cond record_errors (reports_after env index origin g done) []

-- the environment with these reports behind those of before
abbrev pub with_reports : List Report → Environment → Environment
with_reports rs env = record env { errors = env.errors ++ rs }

-- the environment after a walk that expanded these entries
abbrev pub walked : Bool → ℕ → Origin → Option EvaluationOrder → Nodes → List Entry → Environment → Environment
walked record_errors index origin end g done env =
    with_reports (recorded_after record_errors env index origin g done) (with_ranges end done env)

-- some of these reports, from the first on, are behind those of before
pub record Front (old new all : List Report) : Type 0 where
  pub some : List Report
  pub rest : List Report
  pub grown : new ≡ old ++ some
  pub whole : some ++ rest ≡ all

module _ (record_errors : Bool) (index : ℕ) (origin : Origin) (end : Option EvaluationOrder) (g : Nodes) (start : Entry)
    (env : Environment) where
  -- the reports of the first n popped entries
  abbrev pub recorded_by : ℕ → List Report
  recorded_by n = recorded_after record_errors env index origin g (step_to g index start n).done

  -- A walk that was refused: what its first popped entries have set stays, and of the next one at most some of its
  -- reports.
  pub record Stopped (steps : ℕ) (new_nodes : Nodes) (new_env : Environment) (new_steps : ℕ) : Type 0 where
    pub popped : ℕ
    pub within : popped ≤ (walk g index start).popped
    pub nodes : new_nodes ≡ marked index origin g (step_to g index start popped).done
    pub counted : new_steps ≡ steps + popped
    pub identifiers : new_env ≡ record env
        { identifiers = ranges_after end env.identifiers (step_to g index start popped).done; errors = new_env.errors }
    pub next : List Report
    pub whole : recorded_by popped ++ next ≡ recorded_by (popped + 1)
    pub reports : Front (env.errors ++ recorded_by popped) new_env.errors next
