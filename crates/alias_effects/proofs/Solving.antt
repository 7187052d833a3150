-- What solves the flow over positions solves the flow over blocks.
use Rattle.std.specs.Prelude.{◌≡◌, ℕ, zero, suc, ◌<◌, Bool, true, IsTrue, List, [], ◌∷◌, length, Option, Some, None}
use Rattle.std.specs.Prelude.{option_map, is_some, slice_get, slice_index_or, replicate, refl}
use Rattle.std.proofs.Common.{sym, ◌∙◌, ap, subst, inl, inr, arith}
use Rattle.std.specs.Map.{keys_of}
use Rattle.std.specs.List.{list_all, AllByRecursion, IsDistinct}
use Rattle.std.specs.Option.{option_map_or}
use Rattle.std.proofs.lemmas.Option.{slice_get_within}
use Rattle.std.proofs.lemmas.List.{get_or-replicate}
use Rattle.alias_base.specs.Find.{same_block, value_at}
use Rattle.alias_base.specs.AnswerLaws.{both_true}
use Rattle.alias_base.specs.declared.ids.BlockId.{BlockId}
use Rattle.alias_hir.specs.declared.env.Environment.{Environment}
use Rattle.alias_hir.specs.declared.hir.BasicBlock.{BasicBlock}
use Rattle.alias_hir.specs.declared.hir.HirFunction.{HirFunction}
use Rattle.alias_hir.specs.Terminals.{successors}
use Rattle.alias_lattice.specs.States.{State, state_below}
use Rattle.alias_lattice.specs.ProperStates.{StateProper}
use Rattle.alias_step.specs.declared.block.recorded.BlockEffects.{BlockEffects}
use Rattle.alias_tables.specs.Tables.{TableLists}
use Rattle.alias_step.specs.declared.block.faults.BlockRefusal.{BlockRefusal}
use Rattle.alias_lattice.specs.Flows.{Flow, IsOneOf, IsReached, at_entry, by_edge, IsAbove, IsSolution, AreJoins}
use Rattle.alias_flow.specs.Machine.{SolverState, VisitLog}
use Rattle.alias_flow.specs.Solutions.{entry_at, RecordsSteps, KeepsOthers, IsForward}
use Rattle.alias_effects.specs.FunctionFlow.{flow_of, successors_at, outcome_at}
use Rattle.alias_step.specs.block.Contexts.{context_of}
use Rattle.alias_effects.specs.Numbered.{numbered, step_at}
use Rattle.alias_effects.specs.Inference.{entries_of, solved_of, instructions_recorded, terminal_recorded}
use Rattle.alias_effects.specs.Solutions.{entry_state, IsSolvedUnder, effects_recorded, recorded_under, IsForwardFrom}
use Rattle.alias_hir.specs.PositionLaws.{found_has_position, some_is, position_is_at, at_position, at_value}
use Rattle.alias_hir.specs.Positions.{Blocks, position_in, with_position, positions_of, edges_at, entry_position, IsAt}
use Rattle.alias_effects.proofs.Entering.{entered, has_entered, entries_in_order, KeepsRecorded, recorded_over}

-- what the pass asks of a function: no two blocks have one name, and the entry and all successors are blocks
pub record Numbers (func : HirFunction) : Type 0 where
  pub distinct : IsDistinct same_block (keys_of func.body.blocks)
  pub entry : is_some (value_at func.body.blocks func.body.entry) ≡ true
  pub successors : (n : ℕ) (b : BlockId) (x : BasicBlock) → slice_get func.body.blocks n ≡ Some (b, x)
      → list_all (λ c. is_some (value_at func.body.blocks c)) (successors x.terminal) ≡ true

-- ---- positions of a list

-- one of the positions is that of one of the list
pub record Among (es : Blocks) (m : ℕ) (cs : List BlockId) : Type 0 where
  pub block : BlockId
  pub one : IsOneOf block cs
  pub at : position_in es block ≡ Some m

more_among : (es : Blocks) (m : ℕ) (c : BlockId) (cs : List BlockId) → Among es m cs → Among es m (c ∷ cs)
more_among es m c cs a = record { block = a.block; one = inr a.one; at = a.at }

among_case : (es : Blocks) (m : ℕ) (c : BlockId) (cs : List BlockId) (o : Option ℕ) → position_in es c ≡ o
    → IsOneOf m (with_position o (positions_of es cs)) → (IsOneOf m (positions_of es cs) → Among es m cs)
    → Among es m (c ∷ cs)
among_case es m c cs None q h f = more_among es m c cs (f h)
among_case es m c cs (Some n) q (inl e) f = record { block = c; one = inl refl; at = q ∙ ap Some (sym e) }
among_case es m c cs (Some n) q (inr h) f = more_among es m c cs (f h)

pub position_among : (es : Blocks) (m : ℕ) (cs : List BlockId) → IsOneOf m (positions_of es cs) → Among es m cs
position_among es m [] h = absurd h
position_among es m (c ∷ cs) h = among_case es m c cs (position_in es c) refl h (position_among es m cs)

recorded_with : (m : ℕ) (o : Option ℕ) (ns : List ℕ) → IsOneOf m ns → IsOneOf m (with_position o ns)
recorded_with m None ns h = h
recorded_with m (Some n) ns h = inr h

pub among_positions : (es : Blocks) (m : ℕ) (c : BlockId) (cs : List BlockId) → IsOneOf c cs → position_in es c ≡ Some m
    → IsOneOf m (positions_of es cs)
among_positions es m c [] h e = absurd h
among_positions es m c (d ∷ ds) (inl s) e =
    subst (λ o. IsOneOf m (with_position o (positions_of es ds))) (sym (ap (position_in es) (sym s) ∙ e)) (inl refl)
among_positions es m c (d ∷ ds) (inr h) e =
    recorded_with m (position_in es d) (positions_of es ds) (among_positions es m c ds h e)

first_of : (A : ℕ → Type 0) (m : ℕ) (o : Option ℕ) (ns : List ℕ) → o ≡ Some m → AllByRecursion A (with_position o ns)
    → A m × AllByRecursion A ns
first_of A m None ns e a = cc
first_of A m (Some n) ns e a = let same : n ≡ m = cc in (subst A same a.0, a.1)

-- what holds of the positions holds of the blocks there
pub all_at_positions : (A : ℕ → Type 0) (B : BlockId → Type 0) (es : Blocks) (cs : List BlockId)
    → ((c : BlockId) (m : ℕ) → position_in es c ≡ Some m → A m → B c)
    → list_all (λ c. is_some (value_at es c)) cs ≡ true → AllByRecursion A (positions_of es cs) → AllByRecursion B cs
all_at_positions A B es [] f h a = tt
all_at_positions A B es (c ∷ cs) f h a =
    let both : (is_some (value_at es c) ≡ true) × (list_all (λ c. is_some (value_at es c)) cs ≡ true) =
    both_true _ _ h in
    let p = some_is (position_in es c) (found_has_position es c both.0) in
    let r = first_of A p.0 (position_in es c) (positions_of es cs) p.1 a in
    (f c p.0 p.1 r.0, all_at_positions A B es cs f both.1 r.1)

with_first : (A : ℕ → Type 0) (o : Option ℕ) (ns : List ℕ) → ((m : ℕ) → o ≡ Some m → A m) → AllByRecursion A ns
    → AllByRecursion A (with_position o ns)
with_first A None ns f a = a
with_first A (Some n) ns f a = (f n refl, a)

-- what holds of blocks holds of their positions
pub all_of_blocks : (A : ℕ → Type 0) (B : BlockId → Type 0) (es : Blocks) (cs : List BlockId)
    → ((c : BlockId) (m : ℕ) → position_in es c ≡ Some m → B c → A m)
    → AllByRecursion B cs → AllByRecursion A (positions_of es cs)
all_of_blocks A B es [] f b = tt
all_of_blocks A B es (c ∷ cs) f b = with_first A (position_in es c) (positions_of es cs) (λ m e. f c m e b.0)
    (all_of_blocks A B es cs f b.1)

-- one of a list that are all blocks is a block
one_is_block : (es : Blocks) (c : BlockId) (cs : List BlockId) → list_all (λ c. is_some (value_at es c)) cs ≡ true
    → IsOneOf c cs → is_some (value_at es c) ≡ true
one_is_block es c [] h o = absurd o
one_is_block es c (d ∷ ds) h (inl s) =
    let both : (is_some (value_at es d) ≡ true) × (list_all (λ c. is_some (value_at es c)) ds ≡ true) =
    both_true _ _ h in
    ap (λ k. is_some (value_at es k)) s ∙ both.0
one_is_block es c (d ∷ ds) h (inr o) =
    let both : (is_some (value_at es d) ≡ true) × (list_all (λ c. is_some (value_at es c)) ds ≡ true) =
    both_true _ _ h in
    one_is_block es c ds both.1 o

same_first : (p q : BlockId × BasicBlock) → Some p ≡ Some q → p.0 ≡ q.0
same_first p q h = let same : p ≡ q = cc in ap (λ (e : BlockId × BasicBlock). e.0) same

same_number : (m n : ℕ) → Some m ≡ Some n → m ≡ n
same_number m n h = cc

-- ---- forward edges

all_along : {X : Type 0} (A B : X → Type 0) (xs : List X) → ((x : X) → A x → B x) → AllByRecursion A xs
    → AllByRecursion B xs
all_along A B [] f a = tt
all_along A B (x ∷ xs) f a = (f x a.0, all_along A B xs f a.1)

-- the block is past the position
abbrev Later : Blocks → ℕ → BlockId → Type 0
Later es n c = (m : ℕ) × (n < m) × IsAt es m c

one_is_at : (es : Blocks) (c : BlockId) → IsOneOf c (keys_of es) → (m : ℕ) × IsAt es m c
one_is_at [] c h = absurd h
one_is_at (e ∷ es) c (inl s) = (0, (e.1, ap (λ k. Some (k, e.1)) (sym s)))
one_is_at (e ∷ es) c (inr h) = let r = one_is_at es c h in (suc r.0, (r.1.0, r.1.1))

later_more : (e : BlockId × BasicBlock) (es : Blocks) (n : ℕ) (c : BlockId) → Later es n c → Later (e ∷ es) (suc n) c
later_more e es n c r = let h : n < r.0 = r.1 in (suc r.0, omega arith, r.2)

later_first : (e : BlockId × BasicBlock) (es : Blocks) (c : BlockId) → IsOneOf c (keys_of es) → Later (e ∷ es) 0 c
later_first e es c h = let r = one_is_at es c h in (suc r.0, omega arith, r.1)

later_at : (edges : BlockId → List BlockId) (es : Blocks) (n : ℕ) (b : BlockId) (x : BasicBlock)
    → IsForwardFrom edges (keys_of es) → slice_get es n ≡ Some (b, x) → AllByRecursion (Later es n) (edges b)
later_at edges [] n b x f h = cc
later_at edges (e ∷ es) zero b x f h =
    let same : e.0 ≡ b = same_first e (b, x) h in
    subst (λ k. AllByRecursion (Later (e ∷ es) 0) (edges k)) same
    (all_along (λ c. IsOneOf c (keys_of es)) (Later (e ∷ es) 0) (edges e.0) (later_first e es) f.0)
later_at edges (e ∷ es) (suc n) b x f h =
    all_along (Later es n) (Later (e ∷ es) (suc n)) (edges b) (later_more e es n) (later_at edges es n b x f.1 h)

within : (es : Blocks) (n : ℕ) → n < length es → (e : BlockId × BasicBlock) × (slice_get es n ≡ Some e)
within [] n h = let no : ⊥ = omega arith in absurd no
within (e ∷ es) zero h = (e, refl)
within (e ∷ es) (suc n) h = within es n (omega arith)

entry_within : (xs : List (Option State)) (n : ℕ) (s : State) → entry_at xs n ≡ Some s → n < length xs
entry_within [] n s h = cc
entry_within (x ∷ xs) zero s h = omega arith
entry_within (x ∷ xs) (suc n) s h = let r : n < length xs = entry_within xs n s h in omega arith

-- ---- the two flows

-- under any tables
module _ (env : Environment) (func : HirFunction) (is_function_expression : Bool) (left : TableLists)
    (fits : Numbers func) where
  abbrev es : Blocks
  es = func.body.blocks

  -- over blocks
  abbrev over : Flow BlockId State TableLists BlockEffects BlockRefusal
  over = flow_of (context_of env func is_function_expression)

  -- over positions
  abbrev under : Flow ℕ State TableLists BlockEffects BlockRefusal
  under = (numbered (context_of env func is_function_expression)).flow

  edges_over : (n : ℕ) (b : BlockId) (x : BasicBlock) → slice_get es n ≡ Some (b, x) → over.edges b
      ≡ successors x.terminal
  edges_over n b x h = ap successors_at (at_value es n b x fits.distinct h)

  edges_under : (n : ℕ) (b : BlockId) (x : BasicBlock) → slice_get es n ≡ Some (b, x) → under.edges n
      ≡ positions_of es (successors x.terminal)
  edges_under n b x h = ap (edges_at es) h

  steps_same : (n : ℕ) (b : BlockId) (x : BasicBlock) (s : State) → slice_get es n ≡ Some (b, x) → over.step left b s
      ≡ under.step left n s
  steps_same n b x s h =
      ap (λ o. outcome_at (context_of env func is_function_expression) b o left s) (at_value es n b x fits.distinct h)
      ∙ sym (ap (λ o. step_at (context_of env func is_function_expression) o left s) h)

  entry_is : (o : Option ℕ) → is_some o ≡ true → o ≡ Some (option_map_or (λ n. n) o 0)
  entry_is None h = cc
  entry_is (Some n) h = refl

  entry_at_position : position_in es func.body.entry ≡ Some (entry_position func)
  entry_at_position = entry_is (position_in es func.body.entry) (found_has_position es func.body.entry fits.entry)

  entry_block : IsAt es (entry_position func) func.body.entry
  entry_block = position_is_at es func.body.entry (entry_position func) entry_at_position

  -- a block at a position, which is reached
  record ReachedAt (b : BlockId) : Type 0 where
    at : ℕ
    block : BasicBlock
    at_index : slice_get es at ≡ Some (b, block)
    reached : IsReached under at

  reached_at : (b : BlockId) → IsReached over b → ReachedAt b
  reached_at b at_entry = record {
    at = entry_position func;
    block = entry_block.0;
    at_index = entry_block.1;
    reached = at_entry;
  }
  reached_at b (by_edge a c r o) =
      let u = reached_at a r in
      let one : IsOneOf c (successors u.block.terminal) = subst (IsOneOf c) (edges_over u.at a u.block u.at_index) o in
      let p = some_is (position_in es c) (found_has_position es c
      (one_is_block es c (successors u.block.terminal) (fits.successors u.at a u.block u.at_index) one)) in
      let q = position_is_at es c p.0 p.1 in
      record {
        at = p.0;
        block = q.0;
        at_index = q.1;
        reached = by_edge u.at p.0 u.reached (subst (IsOneOf p.0) (sym (edges_under u.at a u.block u.at_index))
            (among_positions es p.0 c (successors u.block.terminal) one p.1));
      }

  -- the block at a position, and is reached
  record ReachedOver (n : ℕ) : Type 0 where
    name : BlockId
    block : BasicBlock
    at_index : slice_get es n ≡ Some (name, block)
    reached : IsReached over name

  reached_over : (n : ℕ) → IsReached under n → ReachedOver n
  reached_over n at_entry = record {
    name = func.body.entry;
    block = entry_block.0;
    at_index = entry_block.1;
    reached = at_entry;
  }
  reached_over n (by_edge m k r o) =
      let u = reached_over m r in
      let w = position_among es k (successors u.block.terminal)
      (subst (IsOneOf k) (edges_under m u.name u.block u.at_index) o) in
      let q = position_is_at es w.block k w.at in
      record {
        name = w.block;
        block = q.0;
        at_index = q.1;
        reached = by_edge u.name w.block u.reached
            (subst (IsOneOf w.block) (sym (edges_over m u.name u.block u.at_index)) w.one);
      }

  same_name : (n : ℕ) (b c : BlockId) (x y : BasicBlock) → slice_get es n ≡ Some (b, x) → slice_get es n ≡ Some (c, y)
      → b ≡ c
  same_name n b c x y h i = same_first (b, x) (c, y) (sym h ∙ i)

  module _ (xs : List (Option State)) where
    abbrev state_over : BlockId → Option State
    state_over = entry_state (entries_of es xs)

    above_over : (y : State) (c : BlockId) (m : ℕ) → position_in es c ≡ Some m
        → IsAbove state_below under (entry_at xs) y m → IsAbove state_below over state_over y c
    above_over y c m p a =
        let q = position_is_at es c m p in
        (a.0, entered es xs m c q.0 fits.distinct q.1 ∙ a.1, a.2)

    pub solution_over : IsSolution state_below under left (entry_at xs) → IsSolution state_below over left state_over
    solution_over sol = record {
      reached = λ b r.
          let u = reached_at b r in
          subst (λ o. IsTrue (is_some o)) (sym (entered es xs u.at b u.block fits.distinct u.at_index))
          (sol.reached u.at u.reached);
      only_reached = λ b s h.
          let a = has_entered es xs b s h in
          let u = reached_over a.at (sol.only_reached a.at s a.state) in
          subst (IsReached over) (same_name a.at u.name b u.block a.block u.at_index a.at_index) u.reached;
      initial = above_over under.initial func.body.entry (entry_position func) entry_at_position sol.initial;
      steps = λ b s h.
          let a = has_entered es xs b s h in
          let t = sol.steps a.at s a.state in (
            t.0,
            t.1,
            steps_same a.at b a.block s a.at_index ∙ t.2,
            subst (AllByRecursion (IsAbove state_below over state_over t.0))
                (sym (edges_over a.at b a.block a.at_index))
                (all_at_positions (IsAbove state_below under (entry_at xs) t.0)
                (IsAbove state_below over state_over t.0) es (successors a.block.terminal) (above_over t.0)
                (fits.successors a.at b a.block a.at_index)
                (subst (AllByRecursion (IsAbove state_below under (entry_at xs) t.0))
                (edges_under a.at b a.block a.at_index) t.3)),
          );
    }

    -- forward edges of blocks go forward by positions
    forward_under : IsForwardFrom over.edges (keys_of es) → (n : ℕ) → n < length es
        → AllByRecursion (λ m. n < m) (under.edges n)
    forward_under f n h =
        let e = within es n h in
        let b = e.0.0 in
        let x = e.0.1 in
        let later : AllByRecursion (Later es n) (successors x.terminal) =
        subst (AllByRecursion (Later es n)) (edges_over n b x e.1) (later_at over.edges es n b x f e.1) in
        subst (AllByRecursion (λ m. n < m)) (sym (edges_under n b x e.1))
        (all_of_blocks (λ m. n < m) (Later es n) es (successors x.terminal)
        (λ c m p l. subst (λ k. n < k) (same_number l.0 m (sym (at_position es l.0 c l.2.0 fits.distinct l.2.1) ∙ p))
        l.1) later)

    pub joins_over : length xs ≡ length es → AreJoins state_below under StateProper left (entry_at xs)
        → AreJoins state_below over StateProper left state_over
    joins_over long js b s h =
        let a = has_entered es xs b s h in
        let at : position_in es b ≡ Some a.at = at_position es a.at b a.block fits.distinct a.at_index in
        let j = js a.at s a.state in
        record {
          above = record {
            initial = λ e. j.above.initial (same_number a.at (entry_position func)
                (sym at ∙ ap (position_in es) e ∙ entry_at_position));
            stepped = λ c x y r i t o.
                let w = has_entered es xs c x i in
                j.above.stepped w.at x y r w.state (sym (steps_same w.at c w.block x w.at_index) ∙ t)
                (subst (IsOneOf a.at) (sym (edges_under w.at c w.block w.at_index))
                (among_positions es a.at b (successors w.block.terminal)
                (subst (IsOneOf b) (edges_over w.at c w.block w.at_index) o) at));
          };
          least = λ u p v. j.least u p (record {
            initial = λ e. v.initial (same_name a.at b func.body.entry a.block entry_block.0 a.at_index
                (ap (slice_get es) e ∙ entry_block.1));
            stepped = λ m x y r i t o.
                let e = within es m (subst (λ k. m < k) long (entry_within xs m x i)) in
                let c = e.0.0 in
                let z = e.0.1 in
                let w = position_among es a.at (successors z.terminal)
                (subst (IsOneOf a.at) (edges_under m c z e.1) o) in
                let q = position_is_at es w.block a.at w.at in
                v.stepped c x y r (entered es xs m c z fits.distinct e.1 ∙ i) (steps_same m c z x e.1 ∙ t)
                (subst (IsOneOf b) (sym (edges_over m c z e.1))
                (subst (λ k. IsOneOf k (successors z.terminal))
                (same_name a.at w.block b q.0 a.block q.1 a.at_index) w.one));
          });
        }

    recorded_case : (recorded : List (Option BlockEffects)) (n : ℕ) (b : BlockId) (x : BasicBlock) (o : Option State)
        → slice_get es n ≡ Some (b, x) → entry_at xs n ≡ o
        → RecordsSteps under left (entry_at xs) recorded
        → (entry_at xs n ≡ None → slice_index_or recorded n None ≡ None)
        → slice_index_or recorded n None ≡ option_map
        (λ s. recorded_under env func is_function_expression left (record { block = b; state = s })) o
    recorded_case recorded n b x None h i k z = z i
    recorded_case recorded n b x (Some s) h i k z =
        let r = k n s i in
        r.3 ∙ ap (λ o. Some (effects_recorded o)) (sym (steps_same n b x s h ∙ r.2))

    keeps_recorded : (recorded : List (Option BlockEffects)) → RecordsSteps under left (entry_at xs) recorded
        → KeepsOthers (entry_at xs) (replicate (length es) None) recorded
        → KeepsRecorded (recorded_under env func is_function_expression left) es xs recorded
    keeps_recorded recorded k z n e h =
        let h' : slice_get es n ≡ Some (e.0, e.1) = h in
        recorded_case recorded n e.0 e.1 (entry_at xs n) h' refl k
        (λ i. z n i ∙ get_or-replicate (length es) n None None (slice_get_within es n e h))

  -- what the solver leaves of the flow over positions solves the function's flow over blocks
  pub solved_over : (w : SolverState (VisitLog State) TableLists BlockEffects) → w.tables ≡ left
      → length w.progress.joined_input ≡ length es → length w.recorded ≡ length es
      → IsSolution state_below under left (entry_at w.progress.joined_input)
      → RecordsSteps under left (entry_at w.progress.joined_input) w.recorded
      → KeepsOthers (entry_at w.progress.joined_input) (replicate (length es) None) w.recorded
      → (IsForward (numbered (context_of env func is_function_expression))
      → AreJoins state_below under StateProper left (entry_at w.progress.joined_input))
      → IsSolvedUnder env func is_function_expression left (solved_of func w)
  solved_over w tables_are long recorded_long sol k z joins =
      let r = recorded_under env func is_function_expression left in
      let keeps = keeps_recorded w.progress.joined_input w.recorded k z in
      record {
        in_order = entries_in_order es w.progress.joined_input;
        solution = solution_over w.progress.joined_input sol;
        first = ap (λ (t : TableLists). t.first) tables_are;
        temporaries = ap (λ (t : TableLists). t.temporaries) tables_are;
        effects = recorded_over (λ (e : BlockEffects). e.instructions) instructions_recorded refl (λ e. refl) r es
            w.progress.joined_input w.recorded long recorded_long keeps;
        terminal_effects = recorded_over (λ (e : BlockEffects). e.terminal) terminal_recorded refl (λ e. refl) r es
            w.progress.joined_input w.recorded long recorded_long keeps;
        joins = λ f. joins_over w.progress.joined_input long (joins (forward_under w.progress.joined_input f));
      }
