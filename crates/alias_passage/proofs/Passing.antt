-- From the parts of a pass to the whole.
use Rattle.std.proofs.Common.{◌≡◌, ℕ, ◌<◌, ◌-◌, ◌+◌, Bool, List, Option, Some, None}
use Rattle.std.proofs.Common.{Ok, Err, ap, sym, ◌∙◌}
use Rattle.std.specs.Prelude.{slice_set}
use Rattle.alias_base.specs.Answer.{◌>>=◌}
use Rattle.alias_lattice.specs.Flows.{Outcome, Stepped}
use Rattle.alias_flow.specs.Machine.{Rules, up, send_all}
use Rattle.alias_flow.specs.Runs.{solver_state}
use Rattle.alias_flow.specs.Solutions.{entry_at}
use Rattle.alias_flow.specs.Steps.{StepGives}
use Rattle.alias_flow.specs.check.Checks.{ChecksInto, refused_at, first_not_above}
use Rattle.alias_flow.specs.declared.check.fault.Unsolved.{Unsolved}
use Rattle.alias_flow.specs.declared.check.fault.Unsolved.TheVariants as fault
use Rattle.alias_flow.specs.declared.flow.StepFault.{StepFault}
use Rattle.alias_flow.specs.declared.flow.StepFault.TheVariants as step
use Rattle.alias_flow.proofs.check.Checking.{checks_along, fault_first}
use Rattle.alias_flow.proofs.check.Rounds.{up_next}
use Rattle.alias_passage.specs.declared.passage.Passage.{Passage}
use Rattle.alias_passage.specs.Passes.{back_edges, forward_edges, or_empty, Passing, passed, outcome_passed, entered}
use Rattle.alias_passage.specs.Passes.{state_passed, block_passed, turn_passed, blocks_passed}

module _ {P B T K D C : Type 0} (join : P → P → P) (below : P → P → Bool) (empty : P) (rules : Rules P T K C)
    (enter : ℕ → P → Option (P × B)) (unentered : D) (lacks : T → Option D) where
  -- the first of the blocks that edges go back to, whose entry state the state isn't below
  abbrev back_of : ℕ → Passing P B T K → P → Option ℕ
  back_of b w y = first_not_above below w.progress.entries y (back_edges b (rules.flow.edges b))

  pub lacks_is : (b : ℕ) (w : Passing P B T K) (y : P) (t : T) (k : K) (d : D) → Some d ≡ lacks t
      → outcome_passed join below empty rules enter unentered lacks b w (Stepped y t k) ≡ Err (fault.Differs b d)
  lacks_is b w y t k d said =
      ap (λ z. passed join below empty rules enter unentered lacks b y t k w z (back_of b w y)) (sym said)

  pub not_below_is : (b : ℕ) (w : Passing P B T K) (y : P) (t : T) (k : K) (e : ℕ) → None ≡ lacks t
      → Some e ≡ first_not_above below w.progress.entries y (back_edges b (rules.flow.edges b))
      → outcome_passed join below empty rules enter unentered lacks b w (Stepped y t k) ≡ Err (fault.NotBelow b e)
  not_below_is b w y t k e said above =
      ap (λ z. passed join below empty rules enter unentered lacks b y t k w z (back_of b w y)) (sym said)
      ∙ ap (λ z. passed join below empty rules enter unentered lacks b y t k w None z) (sym above)

  -- a step that lacks nothing, whose out state is below each entry state that an edge goes back to
  pub out_passes : (b : ℕ) (p : Passage P B) (arriving : List (Option P)) (before recorded : List (Option K)) (y : P)
      (t : T) (k : K) → None ≡ lacks t → None ≡ first_not_above below p.entries y (back_edges b (rules.flow.edges b))
      → arriving ≡ send_all join y p.arriving (forward_edges b (rules.flow.edges b))
      → recorded ≡ slice_set before b (Some k)
      → outcome_passed join below empty rules enter unentered lacks b (solver_state p t before) (Stepped y t k)
      ≡ Ok (solver_state (record { arriving = arriving; entries = p.entries; beyond = p.beyond }) t recorded)
  out_passes b p arriving before recorded y t k said above sent kept =
      ap (λ z. passed join below empty rules enter unentered lacks b y t k (solver_state p t before) z
      (back_of b (solver_state p t before) y)) (sym said)
      ∙ ap (λ z. passed join below empty rules enter unentered lacks b y t k (solver_state p t before) None z) (sym above)
      ∙ ap (λ z. Ok (solver_state (record { arriving = z; entries = p.entries; beyond = p.beyond }) t
      (slice_set before b (Some k)))) (sym sent)
      ∙ ap (λ z. Ok (solver_state (record { arriving = arriving; entries = p.entries; beyond = p.beyond }) t z)) (sym kept)

  -- a block that is entered with a state is followed by its step
  pub block_enters : (b : ℕ) (w : Passing P B T K) (x : P) (e : P × B) (o : Outcome P T K C) → x
      ≡ or_empty empty (entry_at w.progress.arriving b) → Some e ≡ enter b x → rules.flow.step w.tables b e.0 ≡ o
      → block_passed join below empty rules enter unentered lacks b w
      ≡ outcome_passed join below empty rules enter unentered lacks b
      (entered join below empty rules enter unentered lacks b e w) o
  block_enters b w x e o arrived is steps =
      ap (λ z. state_passed join below empty rules enter unentered lacks b w (enter b z)) (sym arrived)
      ∙ ap (state_passed join below empty rules enter unentered lacks b w) (sym is)
      ∙ ap (outcome_passed join below empty rules enter unentered lacks b
      (entered join below empty rules enter unentered lacks b e w)) steps

  pub block_unentered : (b : ℕ) (w : Passing P B T K) (x : P) → x ≡ or_empty empty (entry_at w.progress.arriving b)
      → None ≡ enter b x → block_passed join below empty rules enter unentered lacks b w
      ≡ Err (fault.Differs b unentered)
  block_unentered b w x arrived is =
      ap (λ z. state_passed join below empty rules enter unentered lacks b w (enter b z)) (sym arrived)
      ∙ ap (state_passed join below empty rules enter unentered lacks b w) (sym is)

  -- a step that is refused
  pub refused_passes : {E : Type 0} (F : Type 0) (cause : E → C) (b : ℕ) (w v : Passing P B T K) (o : Outcome P T K C)
      (fault : StepFault E) (state : P) (tables : T) (old new : List (Option K))
      → StepGives cause o (Err fault) state tables b old new
      → ChecksInto {B = F} cause (outcome_passed join below empty rules enter unentered lacks b w o)
      (Err (refused_at b fault)) v
  refused_passes F cause b w v o (step.Refused e) state tables old new h =
      ap (outcome_passed join below empty rules enter unentered lacks b w) h
  refused_passes F cause b w v o (step.Memory e) state tables old new h = tt

  module _ (marks : List Bool) where
    -- a turn that passes, and those that are left
    pub turns_next : (i n : ℕ) (w v : Passing P B T K) → i < n → turn_passed join below empty rules enter unentered lacks marks i w ≡ Ok v
        → blocks_passed join below empty rules enter unentered lacks marks (up (i + 1) (n - (i + 1))) v
        ≡ blocks_passed join below empty rules enter unentered lacks marks (up i (n - i)) w
    turns_next i n w v h passes =
        sym (ap (λ bs. blocks_passed join below empty rules enter unentered lacks marks bs w) (up_next i n h)
        ∙ ap (λ z. z >>= blocks_passed join below empty rules enter unentered lacks marks (up (i + 1) (n - (i + 1))))
        passes)

    -- a fault of the next turn is one of those that are left
    pub turns_fault : {E : Type 0} (X F : Type 0) (cause : E → C) (i n : ℕ) (w v z : Passing P B T K) (e : Unsolved E D)
        → i < n → ChecksInto {B = X} cause (turn_passed join below empty rules enter unentered lacks marks i w) (Err e) v
        → ChecksInto {B = F} cause (blocks_passed join below empty rules enter unentered lacks marks (up i (n - i)) w)
        (Err e) z
    turns_fault X F cause i n w v z e h at =
        checks_along {B = F} cause
        (blocks_passed join below empty rules enter unentered lacks marks (up i (n - i)) w)
        (turn_passed join below empty rules enter unentered lacks marks i w
        >>= blocks_passed join below empty rules enter unentered lacks marks (up (i + 1) (n - (i + 1)))) (Err e) z
        (ap (λ bs. blocks_passed join below empty rules enter unentered lacks marks bs w) (up_next i n h))
        (fault_first X F cause (turn_passed join below empty rules enter unentered lacks marks i w)
        (blocks_passed join below empty rules enter unentered lacks marks (up (i + 1) (n - (i + 1)))) e v z at)
