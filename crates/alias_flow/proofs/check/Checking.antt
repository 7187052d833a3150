-- From the parts of a check to the whole.
use Rattle.std.proofs.Common.{◌≡◌, ℕ, ◌<◌, ◌-◌, ◌+◌, Bool, true, false, if◌then◌else◌, List, Option, Some, None, Result}
use Rattle.std.proofs.Common.{Ok, Err, length, replicate, ap, sym, ◌∙◌, subst}
use Rattle.std.proofs.lemmas.List.{length-set, length-replicate}
use Rattle.std.specs.Prelude.{slice_set}
use Rattle.std.specs.declared.alloc.AllocError.{AllocError}
use Rattle.alias_base.specs.Answer.{◌>>=◌}
use Rattle.alias_lattice.specs.Flows.{Outcome, Stepped}
use Rattle.alias_flow.specs.Machine.{Rules, up, send_all}
use Rattle.alias_flow.specs.Solutions.{entry_at}
use Rattle.alias_flow.specs.declared.flow.StepFault.{StepFault}
use Rattle.alias_flow.specs.declared.flow.StepFault.TheVariants as step
use Rattle.alias_flow.specs.Steps.{StepGives}
use Rattle.alias_flow.specs.declared.check.fault.Unsolved.{Unsolved}
use Rattle.alias_flow.specs.declared.check.fault.Unsolved.TheVariants as fault
use Rattle.alias_flow.specs.check.Checks.{Arriving, ChecksInto, refused_at, first_arriving, first_not_above}
use Rattle.alias_flow.specs.check.Checks.{is_below_entry, passed, outcome_checked, state_checked, block_checked}
use Rattle.alias_flow.specs.check.Checks.{blocks_checked, begins, begun_with, joins_checked, joined_unless, not_joined}
use Rattle.alias_flow.specs.check.Checks.{solution_checked}
use Rattle.alias_flow.proofs.check.Rounds.{up_next}

-- a check that is equal comes to the same
pub checks_along : {A B C E D : Type 0} (cause : E → C) (r s : Result A (Unsolved C D)) (x : Result B (Unsolved E D))
    (w : A) → r ≡ s → ChecksInto cause s x w → ChecksInto cause r x w
checks_along cause r s x w e h = subst (λ z. ChecksInto cause z x w) (sym e) h

-- a result that is out of memory says nothing
pub memory_result : {A B C E D : Type 0} (cause : E → C) (r : Result A (Unsolved C D)) (x : Result B (Unsolved E D))
    (e : AllocError) (w : A) → x ≡ Err (fault.Memory e) → ChecksInto cause r x w
memory_result cause r x e w h = subst (λ z. ChecksInto cause r z w) (sym h) tt

-- a result that is a fault comes to what the fault does
pub fault_result : {A B C E D : Type 0} (cause : E → C) (r : Result A (Unsolved C D)) (x : Result B (Unsolved E D))
    (u : Unsolved E D) (w : A) → x ≡ Err u → ChecksInto {B = B} cause r (Err u) w → ChecksInto cause r x w
fault_result cause r x u w h k = subst (λ z. ChecksInto cause r z w) (sym h) k

-- a fault of the first check is one of both
pub fault_first : {A A2 C E D : Type 0} (B F : Type 0) (cause : E → C) (r : Result A (Unsolved C D))
    (f : A → Result A2 (Unsolved C D)) (e : Unsolved E D) (w : A) (v : A2)
    → ChecksInto {B = B} cause r (Err e) w → ChecksInto {B = F} cause (r >>= f) (Err e) v
fault_first B F cause r f fault.Initial w v h = ap (λ z. z >>= f) h
fault_first B F cause r f (fault.Step b c) w v h = ap (λ z. z >>= f) h
fault_first B F cause r f (fault.Differs b d) w v h = ap (λ z. z >>= f) h
fault_first B F cause r f (fault.NotBelow b e) w v h = ap (λ z. z >>= f) h
fault_first B F cause r f (fault.NotJoin b) w v h = ap (λ z. z >>= f) h
fault_first B F cause r f (fault.Memory e) w v h = tt

module _ {P T K C : Type 0} (join : P → P → P) (below : P → P → Bool) (rules : Rules P T K C)
    (entries : List (Option P)) where
  begun_if : (b : Bool) (xs : List (Option P))
      → ◌≡◌ {A = Option (List (Option P))} (if b then Some (first_arriving join below rules entries) else None)
      (Some xs) → length xs ≡ rules.blocks
  begun_if true xs h = let same : first_arriving join below rules entries ≡ xs = cc in ap length (sym same)
      ∙ length-set (replicate rules.blocks None) rules.flow.entry _ ∙ length-replicate rules.blocks None
  begun_if false xs h = cc

  -- as many may arrive as there are blocks
  pub begun_long : (xs : List (Option P)) → begins join below rules entries ≡ Some xs → length xs ≡ rules.blocks
  begun_long xs h = begun_if (is_below_entry below entries rules.flow.initial rules.flow.entry) xs h

module _ {P T K D C : Type 0} (join : P → P → P) (below : P → P → Bool) (rules : Rules P T K C)
    (differs : T → ℕ → K → Option D) (entries : List (Option P)) where
  -- behind a step, what is said of it and the successors decide
  pub passed_is : (b : ℕ) (w : Arriving P T K) (y : P) (t : T) (k : K) (d : Option D) (e : Option ℕ) → d ≡ differs t b k
      → e ≡ first_not_above below entries y (rules.flow.edges b)
      → outcome_checked join below rules differs entries b w (Stepped y t k)
      ≡ passed join below rules differs entries b y t k w d e
  passed_is b w y t k d e said above =
      ap (λ z. passed join below rules differs entries b y t k w z
      (first_not_above below entries y (rules.flow.edges b))) (sym said)
      ∙ ap (λ z. passed join below rules differs entries b y t k w d z) (sym above)

  pub differs_is : (b : ℕ) (w : Arriving P T K) (y : P) (t : T) (k : K) (d : D) → Some d ≡ differs t b k
      → outcome_checked join below rules differs entries b w (Stepped y t k) ≡ Err (fault.Differs b d)
  differs_is b w y t k d said = ap (λ z. passed join below rules differs entries b y t k w z
      (first_not_above below entries y (rules.flow.edges b))) (sym said)

  -- a step that differs in nothing, and whose out state is below each successor's
  pub out_passes : (b : ℕ) (arriving after : List (Option P)) (before recorded : List (Option K)) (y : P) (t : T)
      (k : K) → None ≡ differs t b k → None ≡ first_not_above below entries y (rules.flow.edges b)
      → after ≡ send_all join y arriving (rules.flow.edges b) → recorded ≡ slice_set before b (Some k)
      → outcome_checked join below rules differs entries b
      (record { progress = arriving; tables = t; recorded = before }) (Stepped y t k)
      ≡ Ok (record { progress = after; tables = t; recorded = recorded })
  out_passes b arriving after before recorded y t k said above sent kept =
      passed_is b (record { progress = arriving; tables = t; recorded = before }) y t k None None said above
      ∙ ap (λ z. Ok (record { progress = z; tables = t; recorded = slice_set before b (Some k) })) (sym sent)
      ∙ ap (λ z. Ok (record { progress = after; tables = t; recorded = z })) (sym kept)

  -- the check of a block with an entry state is that of its step
  pub block_steps : (b : ℕ) (w : Arriving P T K) (s : P) (o : Outcome P T K C) → entry_at entries b ≡ Some s
      → rules.flow.step w.tables b s ≡ o → block_checked join below rules differs entries b w
      ≡ outcome_checked join below rules differs entries b w o
  block_steps b w s o is step = ap (state_checked join below rules differs entries b w) is
      ∙ ap (outcome_checked join below rules differs entries b w) step

  pub block_skipped : (b : ℕ) (w : Arriving P T K) → entry_at entries b ≡ None
      → block_checked join below rules differs entries b w ≡ Ok w
  block_skipped b w is = ap (state_checked join below rules differs entries b w) is

  -- a step that is refused
  pub refused_checks : {E : Type 0} (F : Type 0) (cause : E → C) (b : ℕ) (w v : Arriving P T K) (o : Outcome P T K C)
      (fault : StepFault E) (state : P) (tables : T) (old new : List (Option K))
      → StepGives cause o (Err fault) state tables b old new
      → ChecksInto {B = F} cause (outcome_checked join below rules differs entries b w o) (Err (refused_at b fault)) v
  refused_checks F cause b w v o (step.Refused e) state tables old new h =
      ap (outcome_checked join below rules differs entries b w) h
  refused_checks F cause b w v o (step.Memory e) state tables old new h = tt

  -- a block that passes, and those that are left
  pub blocks_next : (i n : ℕ) (w v : Arriving P T K) → i < n → block_checked join below rules differs entries i w ≡ Ok v
      → blocks_checked join below rules differs entries (up (i + 1) (n - (i + 1))) v
      ≡ blocks_checked join below rules differs entries (up i (n - i)) w
  blocks_next i n w v h passes =
      sym (ap (λ bs. blocks_checked join below rules differs entries bs w) (up_next i n h)
      ∙ ap (λ z. z >>= blocks_checked join below rules differs entries (up (i + 1) (n - (i + 1)))) passes)

  -- a fault of the next block is one of those that are left
  pub blocks_fault : {E : Type 0} (B F : Type 0) (cause : E → C) (i n : ℕ) (w v z : Arriving P T K) (e : Unsolved E D)
      → i < n → ChecksInto {B = B} cause (block_checked join below rules differs entries i w) (Err e) v
      → ChecksInto {B = F} cause (blocks_checked join below rules differs entries (up i (n - i)) w) (Err e) z
  blocks_fault B F cause i n w v z e h at =
      checks_along {B = F} cause (blocks_checked join below rules differs entries (up i (n - i)) w)
      (block_checked join below rules differs entries i w
      >>= blocks_checked join below rules differs entries (up (i + 1) (n - (i + 1)))) (Err e) z
      (ap (λ bs. blocks_checked join below rules differs entries bs w) (up_next i n h))
      (fault_first B F cause (block_checked join below rules differs entries i w)
      (blocks_checked join below rules differs entries (up (i + 1) (n - (i + 1)))) e v z at)

  -- what has arrived at first, and what is recorded so far
  abbrev pub begun : T → List (Option K) → List (Option P) → Arriving P T K
  begun tables recorded xs = record { progress = xs; tables = tables; recorded = recorded }

  pub not_begun : (tables : T) (recorded : List (Option K)) → begins join below rules entries ≡ None
      → solution_checked join below rules differs entries tables recorded ≡ Err fault.Initial
  not_begun tables recorded h = ap (λ o. begun_with join below rules differs entries tables recorded o
      >>= (λ w. blocks_checked join below rules differs entries (up 0 rules.blocks) w
      >>= joins_checked join below rules differs entries)) h

  pub has_begun : (tables : T) (recorded : List (Option K)) (xs : List (Option P)) → begins join below rules entries
      ≡ Some xs
      → solution_checked join below rules differs entries tables recorded
      ≡ (blocks_checked join below rules differs entries (up 0 rules.blocks) (begun tables recorded xs)
      >>= joins_checked join below rules differs entries)
  has_begun tables recorded xs h = ap (λ o. begun_with join below rules differs entries tables recorded o
      >>= (λ w. blocks_checked join below rules differs entries (up 0 rules.blocks) w
      >>= joins_checked join below rules differs entries)) h

  -- behind all blocks, joins decide
  pub joins_decide : (bs : List ℕ) (w v : Arriving P T K) (o : Option ℕ)
      → blocks_checked join below rules differs entries bs w ≡ Ok v → o ≡ not_joined below rules entries v.progress
      → (blocks_checked join below rules differs entries bs w >>= joins_checked join below rules differs entries)
      ≡ joined_unless join below rules differs entries v o
  joins_decide bs w v o all joined = ap (λ z. z >>= joins_checked join below rules differs entries) all
      ∙ ap (joined_unless join below rules differs entries v) (sym joined)
