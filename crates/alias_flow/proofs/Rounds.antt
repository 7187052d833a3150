use Rattle.std.proofs.Common.{◌≡◌, ℕ, ◌+◌, ◌-◌, ◌<◌, ◌∷◌, Bool, true, false, if◌then◌else◌, List, Option, length, suc}
use Rattle.std.proofs.Common.{zero, refl, ap, ◌∙◌, arith}
use Rattle.std.specs.List.{list_any}
use Rattle.alias_flow.specs.Machine.{up, ending, Rules, SolverState, Solved, NotSettled}
use Rattle.alias_flow.specs.WorkLists.{WorkList, work_list_rounds, work_list_round, work_list_solution, work_list_start}

up_suc : (i n : ℕ) → up i (suc n) ≡ i ∷ up (i + 1) n
up_suc i n = refl

-- the rest of the numbers, one by one
pub up_more : (i n : ℕ) → i < n → up i (n - i) ≡ i ∷ up (i + 1) (n - (i + 1))
up_more i n h = let e : n - i ≡ suc (n - (i + 1)) = omega arith in ap (up i) e ∙ up_suc i (n - (i + 1))

module _ {P T K C : Type 0} (join : P → P → P) (below : P → P → Bool) (rules : Rules P T K C) where
  pub rounds_suc : (n : ℕ) (w : SolverState (WorkList P) T K) → work_list_rounds join below rules (suc n) w
      ≡ (if list_any (λ x. x) w.progress.dirty
      then ending (work_list_round join below rules w (up 0 rules.blocks)) (work_list_rounds join below rules n)
      else Solved w)
  unfolding work_list_rounds
  rounds_suc n w = refl

  -- one of the rounds that are left
  pub rounds_more : (i : ℕ) (w : SolverState (WorkList P) T K) → i < 100 → list_any (λ x. x) w.progress.dirty ≡ true
      → work_list_rounds join below rules (100 - i) w
      ≡ ending (work_list_round join below rules w (up 0 rules.blocks))
      (work_list_rounds join below rules (100 - (i + 1)))
  rounds_more i w h t =
      let e : 100 - i ≡ suc (100 - (i + 1)) = omega arith in
      ap (λ n. work_list_rounds join below rules n w) e ∙ rounds_suc (100 - (i + 1)) w
      ∙ ap (λ b. if b then ending (work_list_round join below rules w (up 0 rules.blocks))
      (work_list_rounds join below rules (100 - (i + 1))) else Solved w) t

  -- nothing is dirty
  pub rounds_settled : (n : ℕ) (w : SolverState (WorkList P) T K) → list_any (λ x. x) w.progress.dirty ≡ false
      → work_list_rounds join below rules n w ≡ Solved w
  unfolding work_list_rounds
  rounds_settled zero w t = ap (λ b. if b then NotSettled (length w.progress.visits) else Solved w) t
  rounds_settled (suc n) w t = ap (λ b. if b
      then ending (work_list_round join below rules w (up 0 rules.blocks)) (work_list_rounds join below rules n)
      else Solved w) t

  -- no round is left
  pub rounds_over : (w : SolverState (WorkList P) T K) → list_any (λ x. x) w.progress.dirty ≡ true
      → work_list_rounds join below rules 0 w ≡ NotSettled (length w.progress.visits)
  unfolding work_list_rounds
  rounds_over w t = ap (λ b. if b then NotSettled (length w.progress.visits) else Solved w) t

  pub solution_is : (tables : T) (recorded : List (Option K)) → work_list_solution join below rules tables recorded
      ≡ work_list_rounds join below rules 100 (work_list_start join below rules tables recorded)
  unfolding work_list_solution
  solution_is tables recorded = refl

pub ruleset round_laws = (rounds_more, rounds_settled, rounds_over, solution_is)
