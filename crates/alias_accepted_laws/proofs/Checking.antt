-- What steps keep of the tables of a check.
use Rattle.std.specs.Prelude.{slice_set}
use Rattle.std.proofs.Common.{◌≡◌, ℕ, Bool, List, [], ◌∷◌, Option, Some, None, Ok, refl, subst}
use Rattle.alias_base.specs.Answer.{◌>>=◌}
use Rattle.alias_lattice.specs.Flows.{Outcome, Stepped, Refused}
use Rattle.alias_flow.specs.Machine.{Rules, up, send_all}
use Rattle.alias_flow.specs.Solutions.{entry_at}
use Rattle.alias_flow.specs.check.Checks.{first_not_above, not_joined, Arriving, passed, outcome_checked, state_checked}
use Rattle.alias_flow.specs.check.Checks.{block_checked, blocks_checked, joined_unless, joins_checked, begins}
use Rattle.alias_flow.specs.check.Checks.{begun_with, solution_checked}
use Rattle.alias_answer_laws.proofs.order.Ordering.{went}

module _ {P T K C D : Type 0} (join : P → P → P) (below : P → P → Bool) (rules : Rules P T K C)
    (differs : T → ℕ → K → Option D) (entries : List (Option P)) (inv : T → Type 0)
    (step : (t : T) (b : ℕ) (x y : P) (u : T) (k : K) → entry_at entries b ≡ Some x → inv t → rules.flow.step t b x
    ≡ Stepped y u k → inv u) where
  abbrev W : Type 0
  W = Arriving P T K

  passed_keeps : (b : ℕ) (y : P) (t : T) (k : K) (w v : W) (d : Option D) (e : Option ℕ) → inv t
      → passed {C = C} join below rules differs entries b y t k w d e ≡ Ok v → inv v.tables
  passed_keeps b y t k w v (Some d) e i h = cc
  passed_keeps b y t k w v None (Some e) i h = cc
  passed_keeps b y t k w v None None i h =
      let made : W = record {
        progress = send_all join y w.progress (rules.flow.edges b);
        tables = t;
        recorded = slice_set w.recorded b (Some k);
      } in
      let same : made ≡ v = cc in
      subst (λ (z : W). inv z.tables) same i

  outcome_keeps : (b : ℕ) (x : P) (w v : W) (o : Outcome P T K C) → entry_at entries b ≡ Some x
      → rules.flow.step w.tables b x ≡ o → inv w.tables → outcome_checked join below rules differs entries b w o ≡ Ok v
      → inv v.tables
  outcome_keeps b x w v (Refused c) is s i h = cc
  outcome_keeps b x w v (Stepped y t k) is s i h =
      passed_keeps b y t k w v (differs t b k) (first_not_above below entries y (rules.flow.edges b))
      (step w.tables b x y t k is i s) h

  state_keeps : (b : ℕ) (w v : W) (o : Option P) → entry_at entries b ≡ o → inv w.tables
      → state_checked join below rules differs entries b w o ≡ Ok v → inv v.tables
  state_keeps b w v None is i h = let same : w ≡ v = cc in subst (λ (z : W). inv z.tables) same i
  state_keeps b w v (Some x) is i h = outcome_keeps b x w v (rules.flow.step w.tables b x) is refl i h

  blocks_keep : (bs : List ℕ) (w v : W) → inv w.tables → blocks_checked join below rules differs entries bs w ≡ Ok v
      → inv v.tables
  blocks_keep [] w v i h = let same : w ≡ v = cc in subst (λ (z : W). inv z.tables) same i
  blocks_keep (b ∷ bs) w v i h =
      let p = went (block_checked join below rules differs entries b w)
      (blocks_checked join below rules differs entries bs) v h in
      blocks_keep bs p.0 v (state_keeps b w p.0 (entry_at entries b) refl i p.1) p.2

  joins_keep : (w v : W) (o : Option ℕ) → inv w.tables → joined_unless join below rules differs entries w o ≡ Ok v
      → inv v.tables
  joins_keep w v None i h = let same : w ≡ v = cc in subst (λ (z : W). inv z.tables) same i
  joins_keep w v (Some b) i h = cc

  begun_keeps : (tables : T) (recorded : List (Option K)) (w : W) (o : Option (List (Option P))) → inv tables
      → begun_with {C = C} join below rules differs entries tables recorded o ≡ Ok w → inv w.tables
  begun_keeps tables recorded w None i h = cc
  begun_keeps tables recorded w (Some xs) i h =
      let made : W = record { progress = xs; tables = tables; recorded = recorded } in
      let same : made ≡ w = cc in
      subst (λ (z : W). inv z.tables) same i

  -- what is kept of the tables that the check begins with is kept of those that it ends with
  pub check_keeps_tables : (tables : T) (recorded : List (Option K)) (v : W) → inv tables
      → solution_checked join below rules differs entries tables recorded ≡ Ok v → inv v.tables
  check_keeps_tables tables recorded v i h =
      let p = went (begun_with join below rules differs entries tables recorded (begins join below rules entries))
      (λ w. blocks_checked join below rules differs entries (up 0 rules.blocks) w
      >>= joins_checked join below rules differs entries) v h in
      let q = went (blocks_checked join below rules differs entries (up 0 rules.blocks) p.0)
      (joins_checked join below rules differs entries) v p.2 in
      joins_keep q.0 v (not_joined below rules entries q.0.progress)
      (blocks_keep (up 0 rules.blocks) p.0 q.0
      (begun_keeps tables recorded p.0 (begins join below rules entries) i p.1) q.1) q.2
