-- What the last round leaves meets each clause of `solve`.
use Rattle.std.proofs.Common.{◌≡◌, Bool, List, length, Option, Result, refl, ◌∙◌}
use Rattle.std.specs.Prelude.{IfOk}
use Rattle.alias_lattice.specs.Laws.{LatticeLaws}
use Rattle.alias_lattice.specs.Flows.{IsSolution, AreJoins}
use Rattle.alias_flow.specs.declared.flow.SolveFault.{SolveFault}
use Rattle.alias_flow.specs.declared.flow.Solution.{Solution}
use Rattle.alias_flow.specs.Machine.{Rules, SolverState, solution, FlowLaws}
use Rattle.alias_flow.specs.WorkLists.{WorkList, work_list_rounds, work_list_solution}
use Rattle.alias_flow.specs.Runs.{settled, EndGives, IsSettled}
use Rattle.alias_flow.specs.Solutions.{entry_at, RecordsSteps, KeepsOthers, IsForward}
use Rattle.alias_flow.proofs.Solving.{solution_found, recorded_found, others_found, length_found}
use Rattle.alias_flow.proofs.OneRound.{forward_joins, forward_settles}
use Rattle.alias_flow.proofs.Rounds.{rounds_settled, rounds_over}
use Rattle.alias_flow.proofs.Ending.{settled_case, settled_ends}

module _ {P T K C E : Type 0} {proper : P → Type 0} {join : P → P → P} {below : P → P → Bool} {extends : T → T → Type 0}
    {rules : Rules P T K C} {recorded₀ : List (Option K)}
    (l : LatticeLaws proper join below) (f : FlowLaws proper extends rules recorded₀) (tables : T) (cause : E → C) where
  -- what is claimed of the answer, with the state of the visits that it ends with
  pub record Claims (now : Rules P T K C) (v : SolverState (WorkList P) T K) (r : Result (Solution P) (SolveFault E)) :
      Type 0 where
    pub ends : EndGives cause (solution join below rules tables recorded₀) r v.tables v.recorded
    pub solves : IfOk r (λ s. IsSolution below now.flow v.tables (entry_at s.entries))
    pub keeps : IfOk r (λ s. RecordsSteps now.flow v.tables (entry_at s.entries) v.recorded)
    pub others : IfOk r (λ s. KeepsOthers (entry_at s.entries) recorded₀ v.recorded)
    pub count : IfOk r (λ s. length s.entries ≡ rules.blocks)
    pub joins : IsForward rules → IfOk r (λ s. AreJoins below rules.flow proper v.tables (entry_at s.entries))
    pub settles : IsForward rules → IsSettled r

  module _ (now : Rules P T K C) (same : now ≡ rules) (v : SolverState (WorkList P) T K)
      (whole : work_list_solution join below rules tables recorded₀ ≡ work_list_rounds join below rules 0 v)
      (r : Result (Solution P) (SolveFault E)) (is : r ≡ settled v.progress) where
    pub all_claims : Claims now v r
    all_claims = record {
      ends = settled_ends l f tables cause v whole r is;
      solves = settled_case v.progress r is (λ x. IfOk x (λ s. IsSolution below now.flow v.tables (entry_at s.entries)))
          (λ clean. solution_found l f tables now same v (whole ∙ rounds_settled join below rules 0 v clean) _ refl)
          (λ dirty. tt);
      keeps = settled_case v.progress r is (λ x.
          IfOk x (λ s. RecordsSteps now.flow v.tables (entry_at s.entries) v.recorded))
          (λ clean. recorded_found l f tables now same v (whole ∙ rounds_settled join below rules 0 v clean) _ refl)
          (λ dirty. tt);
      others = settled_case v.progress r is (λ x. IfOk x (λ s. KeepsOthers (entry_at s.entries) recorded₀ v.recorded))
          (λ clean. others_found l f tables v (whole ∙ rounds_settled join below rules 0 v clean) _ refl) (λ dirty. tt);
      count = settled_case v.progress r is (λ x. IfOk x (λ s. length s.entries ≡ rules.blocks))
          (λ clean. length_found l f tables v (whole ∙ rounds_settled join below rules 0 v clean) _ refl) (λ dirty. tt);
      joins = λ forward. settled_case v.progress r is
          (λ x. IfOk x (λ s. AreJoins below rules.flow proper v.tables (entry_at s.entries)))
          (λ clean. forward_joins l f forward tables v (whole ∙ rounds_settled join below rules 0 v clean) _ refl)
          (λ dirty. tt);
      settles = λ forward. settled_case v.progress r is IsSettled (λ clean n h. cc)
          (λ dirty n h. forward_settles l f forward tables _ (whole ∙ rounds_over join below rules v dirty));
    }
