-- A check passes on no refusal but those of the steps of blocks: what they record holds no Apply, so the range pass
-- finds none left.
use Rattle.std.specs.Prelude.{is_none, IfErr, nat_le, nat_lt, replicate, slice_get, slice_set, ◌==◌, ◌&&◌, ⊤}
use Rattle.std.specs.List.{AllByRecursion, flat_map, list_all}
use Rattle.std.proofs.Common.{◌≡◌, ℕ, ◌+◌, zero, suc, Bool, true, false, if◌then◌else◌, List, [], ◌∷◌, ◌++◌, length}
use Rattle.std.proofs.Common.{Option, Some, None, Result, Ok, Err, refl, subst}
use Rattle.alias_base.specs.Answer.{◌>>=◌}
use Rattle.alias_base.specs.AnswerLaws.{both_true}
use Rattle.alias_base.specs.declared.ids.BlockId.{BlockId}
use Rattle.alias_base.specs.declared.ids.FunctionId.{FunctionId}
use Rattle.alias_hir.specs.Errors.{infer_error}
use Rattle.alias_hir.specs.declared.effect.AliasingEffect.{AliasingEffect}
use Rattle.alias_hir.specs.declared.env.Environment.{Environment}
use Rattle.alias_hir.specs.declared.env.Unit.{Unit as HirUnit}
use Rattle.alias_hir.specs.declared.error.Counter.TheVariants.{GraphPositions}
use Rattle.alias_hir.specs.declared.error.HirError.{HirError}
use Rattle.alias_hir.specs.declared.error.HirError.TheVariants as hir
use Rattle.alias_hir.specs.declared.error.InferError.{InferError}
use Rattle.alias_hir.specs.declared.error.InferError.TheVariants as error
use Rattle.alias_hir.specs.declared.hir.BasicBlock.{BasicBlock}
use Rattle.alias_hir.specs.declared.hir.HirFunction.{HirFunction}
use Rattle.alias_hir.specs.declared.hir.Instruction.{Instruction}
use Rattle.alias_hir.specs.declared.place.Place.{Place}
use Rattle.alias_rules.specs.function_rules.Rules.{instruction_is_uninferred, function_is_uninferred}
use Rattle.alias_rules.specs.Functions.{rules_hold}
use Rattle.alias_rules.specs.RuleLaws.{parts_of_rules}
use Rattle.alias_lattice.specs.Flows.{Outcome, Stepped, Refused}
use Rattle.alias_lattice.specs.States.{State, state_join, state_below}
use Rattle.alias_flow.specs.Machine.{Rules, up}
use Rattle.alias_flow.specs.RecordingLaws.{AllHold}
use Rattle.alias_flow.specs.Solutions.{entry_at}
use Rattle.alias_flow.specs.check.Checks.{Arriving, first_not_above, passed, outcome_checked, state_checked}
use Rattle.alias_flow.specs.check.Checks.{block_checked, blocks_checked, joined_unless, joins_checked, begun_with}
use Rattle.alias_flow.specs.check.Checks.{begins, not_joined, solution_checked}
use Rattle.alias_flow.specs.declared.check.fault.Unsolved.{Unsolved}
use Rattle.alias_flow.specs.declared.check.fault.Unsolved.TheVariants as unsolved
use Rattle.alias_tables.specs.Tables.{TableLists, temporary}
use Rattle.alias_tables.specs.write_back.WriteBack.{tables_of}
use Rattle.alias_tables.specs.declared.faults.Refusal.{Refusal}
use Rattle.alias_tables.specs.declared.faults.Refusal.TheVariants as refused
use Rattle.alias_step.specs.block.Blocks.{infer_block}
use Rattle.alias_step.specs.block.Contexts.{BlockContext, context_of}
use Rattle.alias_step.specs.block.Recorded.{no_effects}
use Rattle.alias_step.specs.declared.block.faults.BlockRefusal.{BlockRefusal}
use Rattle.alias_step.specs.declared.block.faults.BlockRefusal.TheVariants as block
use Rattle.alias_step.specs.declared.block.recorded.BlockEffects.{BlockEffects}
use Rattle.alias_step.specs.declared.block.recorded.InstructionEffects.{InstructionEffects}
use Rattle.alias_step.specs.declared.block.recorded.TerminalEffects.{TerminalEffects}
use Rattle.alias_step_laws.specs.blocks.SolutionLaws.{set_holds}
use Rattle.alias_walks.specs.Words.{all_appended}
use Rattle.alias_effects.specs.Inference.{block_at, instructions_recorded, terminal_recorded, env_after}
use Rattle.alias_effects.specs.Numbered.{step_at, numbered}
use Rattle.alias_effects.specs.PassLaws.{outcome_is}
use Rattle.alias_effects.specs.declared.output.PassEnd.{PassEnd}
use Rattle.alias_range_pass.specs.Passes.{Ranged, range_pass}
use Rattle.alias_range_pass.specs.Refusals.{has_apply, unreplaced, none_unreplaced, listing_or, positions_left}
use Rattle.alias_range_pass.specs.Refusals.{recorded}
use Rattle.alias_range_pass.specs.summary.Summaries.{tracked}
use Rattle.alias_graph.specs.recorded.BlockListings.{listed}
use Rattle.alias_graph.specs.declared.recorded.listing.Listing.{Listing}
use Rattle.alias_nesting_laws.specs.Slots.{with_function}
use Rattle.alias_nested.proofs.Evolving.{passed_contexts}
use Rattle.alias_nested.specs.Analysis.{most_levels}
use Rattle.alias_nested.specs.Created.{created_functions}
use Rattle.alias_nested.specs.Finishing.{finished}
use Rattle.alias_nested.specs.Slots.{emptied}
use Rattle.alias_answer_laws.proofs.applies.Calling.{uninferred_without}
use Rattle.alias_answer_laws.specs.answers.Applies.{NoneIsApply, NoInstructionRecordsApply, NoTerminalRecordsApply}
use Rattle.alias_answer_laws.specs.answers.Applies.{RecordsNoApply, InstructionsLackApply, NestedLackApply, Leads}
use Rattle.alias_answer_laws.specs.answers.Avoiding.{is_unreplaced, avoids_then}
use Rattle.alias_answer_laws.specs.answers.BlockLaws.{BlockPlain, block_plain}
use Rattle.alias_answer_laws.specs.answers.FunctionLaws.{set_all, got_all, instructions_without_apply, RangesPlain}
use Rattle.alias_answer_laws.specs.answers.FunctionLaws.{ranges_plain}
use Rattle.alias_answer_laws.specs.answers.UnitLaws.{lacks_alike}
use Rattle.alias_certificate.specs.declared.certificate.CertBlock.{CertBlock}
use Rattle.alias_certificate.specs.declared.certificate.CertFunction.{CertFunction}
use Rattle.alias_certificate.specs.declared.certificate.CertTemporary.{CertTemporary}
use Rattle.alias_certificate.specs.declared.fault.CheckFault.{CheckFault}
use Rattle.alias_certificate.specs.declared.fault.CheckFault.TheVariants as fault
use Rattle.alias_certificate.specs.states.States.{stated_state}
use Rattle.alias_cert.specs.declared.check.Accepted.{Accepted}
use Rattle.alias_cert.specs.declared.function.claims.Difference.{Difference}
use Rattle.alias_cert.specs.declared.function.claims.Difference.TheVariants as difference
use Rattle.alias_cert.specs.effects.Telling.{is_summary_claimed}
use Rattle.alias_cert.specs.function.Blocks.{are_lines}
use Rattle.alias_cert.specs.function.Claims.{differs}
use Rattle.alias_cert.specs.function.Entries.{state_or_fault, line_state, entry_stated, entries_stated}
use Rattle.alias_cert.specs.function.Faults.{step_fault, unsolved_fault, faulted}
use Rattle.alias_cert.specs.function.Functions.{flow_rules, marks, numbers, lines_checked, entries_checked}
use Rattle.alias_cert.specs.function.Functions.{steps_checked, checked_end, function_solved}
use Rattle.alias_cert.specs.function.Temporaries.{next_number, given, is_key_there, temporary_stated}
use Rattle.alias_cert.specs.function.Temporaries.{temporaries_stated}
use Rattle.alias_cert.specs.Functions.{CheckedFunction, Checking, checking, same_name, said_as, said, effects_checked}
use Rattle.alias_cert.specs.Functions.{ranging, summary_checked, stored_summary, summed, nested_finished}
use Rattle.alias_cert.specs.Functions.{nested_as_said, nested_checked, root_finished, root_as_said, root_checked}
use Rattle.alias_certified_laws.specs.checked.Steps.{BlamesAStep}
use Rattle.alias_cert.specs.Units.{each, put_back, taken_checked, found_checked, slot_checked, below_checked, none_left}
use Rattle.alias_cert.specs.Units.{unit_checked, Accepts}

-- what is answered has the property, and a fault of a step is that of a step
abbrev Blames : {A : Type 0} → (A → Type 0) → Result A CheckFault → Type 0
Blames P (Ok x) = P x
Blames P (Err e) = BlamesAStep e

abbrev Any : {A : Type 0} → A → Type 0
Any x = ⊤

blames_then : {A B : Type 0} (P : A → Type 0) (Q : B → Type 0) (r : Result A CheckFault) (g : A → Result B CheckFault)
    → Blames P r → ((x : A) → P x → Blames Q (g x)) → Blames Q (r >>= g)
blames_then P Q (Ok x) g h k = k x h
blames_then P Q (Err e) g h k = h

-- ---- the steps of a flow

module _ {P T K C D : Type 0} (join : P → P → P) (below : P → P → Bool) (rules : Rules P T K C)
    (differ : T → ℕ → K → Option D) (entries : List (Option P)) (q : K → Type 0)
    (said_so : (t u : T) (b : ℕ) (x y : P) (k : K) → rules.flow.step t b x ≡ Stepped y u k → q k) where
  abbrev W : Type 0
  W = Arriving P T K

  -- a step is refused
  record IsRefusal (b : ℕ) (c : C) : Type 0 where
    tables : T
    state : P
    step : rules.flow.step tables b state ≡ Refused c

  -- what is recorded has q, and a refusal is that of a step
  abbrev Refuses : Result W (Unsolved C D) → Type 0
  Refuses (Ok w) = AllHold q w.recorded
  Refuses (Err (unsolved.Step b c)) = IsRefusal b c
  Refuses (Err e) = ⊤

  refuses_then : (r : Result W (Unsolved C D)) (g : W → Result W (Unsolved C D)) → Refuses r
      → ((w : W) → AllHold q w.recorded → Refuses (g w)) → Refuses (r >>= g)
  refuses_then (Ok w) g h k = k w h
  refuses_then (Err e) g h k = h

  passed_refuses : (b : ℕ) (y : P) (t : T) (k : K) (w : W) (d : Option D) (e : Option ℕ)
      → AllHold q (slice_set w.recorded b (Some k))
      → Refuses (passed {C = C} join below rules differ entries b y t k w d e)
  passed_refuses b y t k w (Some d) e h = tt
  passed_refuses b y t k w None (Some e) h = tt
  passed_refuses b y t k w None None h = h

  outcome_refuses : (b : ℕ) (w : W) (s : P) (o : Outcome P T K C) → rules.flow.step w.tables b s ≡ o
      → AllHold q w.recorded → Refuses (outcome_checked join below rules differ entries b w o)
  outcome_refuses b w s (Refused c) is h = record { tables = w.tables; state = s; step = is }
  outcome_refuses b w s (Stepped y t k) is h =
      passed_refuses b y t k w (differ t b k) (first_not_above below entries y (rules.flow.edges b))
      (set_holds q w.recorded b k (said_so w.tables t b s y k is) h)

  state_refuses : (b : ℕ) (w : W) (o : Option P) → AllHold q w.recorded
      → Refuses (state_checked join below rules differ entries b w o)
  state_refuses b w None h = h
  state_refuses b w (Some s) h = outcome_refuses b w s (rules.flow.step w.tables b s) refl h

  blocks_refuse : (bs : List ℕ) (w : W) → AllHold q w.recorded
      → Refuses (blocks_checked {C = C} join below rules differ entries bs w)
  blocks_refuse [] w h = h
  blocks_refuse (b ∷ bs) w h =
      refuses_then (block_checked join below rules differ entries b w)
      (blocks_checked join below rules differ entries bs) (state_refuses b w (entry_at entries b) h)
      (blocks_refuse bs)

  joined_refuses : (w : W) (o : Option ℕ) → AllHold q w.recorded
      → Refuses (joined_unless {C = C} join below rules differ entries w o)
  joined_refuses w None h = h
  joined_refuses w (Some b) h = tt

  begun_refuses : (tables : T) (recorded : List (Option K)) (o : Option (List (Option P))) → AllHold q recorded
      → Refuses (begun_with {C = C} join below rules differ entries tables recorded o)
  begun_refuses tables recorded None h = tt
  begun_refuses tables recorded (Some xs) h = h

  check_refuses : (tables : T) (recorded : List (Option K)) → AllHold q recorded
      → Refuses (solution_checked {C = C} join below rules differ entries tables recorded)
  check_refuses tables recorded h =
      refuses_then (begun_with {C = C} join below rules differ entries tables recorded
      (begins join below rules entries))
      (λ w. blocks_checked join below rules differ entries (up 0 rules.blocks) w
      >>= joins_checked join below rules differ entries)
      (begun_refuses tables recorded (begins join below rules entries) h) (λ w a.
      refuses_then (blocks_checked {C = C} join below rules differ entries (up 0 rules.blocks) w)
      (joins_checked join below rules differ entries) (blocks_refuse (up 0 rules.blocks) w a)
      (λ v g. joined_refuses v (not_joined below rules entries v.progress) g))

-- ---- the steps of a function

step_plain : (c : BlockContext) (o : Option (BlockId × BasicBlock)) (t u : TableLists) (x y : State) (k : BlockEffects)
    → step_at c o t x ≡ Stepped y u k → BlockPlain k
step_plain c None t u x y k e = let same : no_effects ≡ k = cc in subst BlockPlain same (tt, tt)
step_plain c (Some b) t u x y k e = block_plain c b.0 b.1 x t u (y, k) (outcome_is (infer_block c b.0 b.1 x t) y u k e)

none_yet : (n : ℕ) → AllHold BlockPlain (replicate n None)
none_yet zero = tt
none_yet (suc n) = (tt, none_yet n)

instructions_of_all : (rs : List (Option BlockEffects)) → AllHold BlockPlain rs
    → NoInstructionRecordsApply (flat_map instructions_recorded rs)
instructions_of_all [] h = tt
instructions_of_all (None ∷ rs) h = instructions_of_all rs h.1
instructions_of_all (Some r ∷ rs) h = all_appended (λ (i : InstructionEffects). NoneIsApply i.effects) r.instructions
    (flat_map instructions_recorded rs) h.0.0 (instructions_of_all rs h.1)

terminals_of_all : (rs : List (Option BlockEffects)) → AllHold BlockPlain rs
    → NoTerminalRecordsApply (flat_map terminal_recorded rs)
terminals_of_all [] h = tt
terminals_of_all (None ∷ rs) h = terminals_of_all rs h.1
terminals_of_all (Some r ∷ rs) h = all_appended (λ (t : TerminalEffects). NoneIsApply t.effects) r.terminal
    (flat_map terminal_recorded rs) h.0.1 (terminals_of_all rs h.1)

abbrev Plain : Arriving State TableLists BlockEffects → Type 0
Plain w = AllHold BlockPlain w.recorded

module _ (function : Option FunctionId) (env : Environment) (f : HirFunction) (is_function_expression : Bool) where
  abbrev flow : Rules State TableLists BlockEffects BlockRefusal
  flow = numbered (context_of env f is_function_expression)

  step_blames : (n : ℕ) (t : TableLists) (s : State) (c : BlockRefusal) → flow.flow.step t n s ≡ Refused c
      → BlamesAStep (step_fault function env (block_at f.body.blocks n) c)
  step_blames n t s (block.Instruction i (refused.TooMany which)) h = tt
  step_blames n t s c h = record {
    env = env;
    func = f;
    is_function_expression = is_function_expression;
    position = n;
    tables = t;
    state = s;
    refused = c;
    step = h;
    block = refl;
    cause_is = refl;
  }

  said_plain : (t u : TableLists) (n : ℕ) (x y : State) (k : BlockEffects) → flow.flow.step t n x ≡ Stepped y u k
      → BlockPlain k
  said_plain t u n x y k e = step_plain (context_of env f is_function_expression) (slice_get f.body.blocks n) t u x y k
      e

  module _ (differ : TableLists → ℕ → BlockEffects → Option Difference) (entries : List (Option State)) where
    faulted_blames : (r : Result (Arriving State TableLists BlockEffects) (Unsolved BlockRefusal Difference))
        → Refuses state_join state_below flow differ entries BlockPlain said_plain r
        → Blames Plain (faulted function env f.body.blocks r)
    faulted_blames (Ok w) h = h
    faulted_blames (Err unsolved.Initial) h = tt
    faulted_blames (Err (unsolved.Step b c)) h = step_blames b h.tables h.state c h.step
    faulted_blames (Err (unsolved.Differs b difference.MissingTemporary)) h = tt
    faulted_blames (Err (unsolved.Differs b difference.Effects)) h = tt
    faulted_blames (Err (unsolved.NotBelow b e)) h = tt
    faulted_blames (Err (unsolved.NotJoin b)) h = tt
    faulted_blames (Err (unsolved.Memory e)) h = tt

    steps_blame : (tables : TableLists) → Blames Plain
        (faulted function env f.body.blocks (solution_checked state_join state_below flow differ entries tables
        (replicate (length f.body.blocks) None)))
    steps_blame tables =
        faulted_blames (solution_checked state_join state_below flow differ entries tables
        (replicate (length f.body.blocks) None))
        (check_refuses state_join state_below flow differ entries BlockPlain said_plain tables
        (replicate (length f.body.blocks) None) (none_yet (length f.body.blocks)))

-- ---- what else is checked of a function

lines_blame : (b : Bool) (id : Option FunctionId)
    → (let r : Result ⊤ CheckFault = if b then Ok tt else Err (fault.Blocks id) in Blames Any r)
lines_blame true id = tt
lines_blame false id = tt

module _ (function : Option FunctionId) (identifiers : ℕ) (created : List FunctionId) (lines : List CertBlock) where
  state_blames : (b : BlockId) (o : Option State) → Blames Any (state_or_fault function identifiers created lines b o)
  state_blames b None = tt
  state_blames b (Some s) = tt

  line_blames : (o : Option CertBlock) → Blames Any (line_state function identifiers created lines o)
  line_blames None = tt
  line_blames (Some c) = state_blames c.block (stated_state identifiers created c)

  entry_blames : (n : Option ℕ) → Blames Any (entry_stated function identifiers created lines n)
  entry_blames None = tt
  entry_blames (Some n) = line_blames (slice_get lines n)

  entries_blame : (done : List (Option State)) (ns : List (Option ℕ))
      → Blames Any (entries_stated function identifiers created lines done ns)
  entries_blame done [] = tt
  entries_blame done (n ∷ ns) = blames_then Any Any (entry_stated function identifiers created lines n) _
      (entry_blames n) (λ e h. entries_blame (done ++ e ∷ []) ns)

module _ (function : Option FunctionId) (env : Environment) where
  number_blames : (b : Bool) (t : TableLists)
      → (let r : Result TableLists CheckFault = if b then Ok t else Err (fault.Temporaries function) in Blames Any r)
  number_blames true t = tt
  number_blames false t = tt

  given_blames : (n : ℕ) (r : Result (Place × TableLists) Refusal) → Blames Any (given function env n r)
  given_blames n (Ok r) = number_blames (r.0.identifier.0 == n) r.1
  given_blames n (Err (refused.TooMany which)) = tt
  given_blames n (Err e) = tt

  temporary_blames : (b : Bool) (n : ℕ) (r : Result (Place × TableLists) Refusal)
      → (let s : Result TableLists CheckFault = if b then given function env n r
      else Err (fault.Temporaries function) in Blames Any s)
  temporary_blames true n r = given_blames n r
  temporary_blames false n r = tt

  temporaries_blame : (cs : List CertTemporary) (t : TableLists) → Blames Any (temporaries_stated function env cs t)
  temporaries_blame [] t = tt
  temporaries_blame (c ∷ cs) t =
      blames_then Any Any (temporary_stated function env c t) (temporaries_stated function env cs)
      (temporary_blames (is_key_there (next_number function env t) (length env.functions) c.key
      && c.identifier.0 == next_number function env t) c.identifier.0 (temporary env c.key None t))
      (λ u h. temporaries_blame cs u)

abbrev EndsPlain : PassEnd → Type 0
EndsPlain e = RecordsNoApply e.solved

solved_blames : (c : CertFunction) (env : Environment) (f : HirFunction) (b : Bool)
    → Blames EndsPlain (function_solved c env f b)
solved_blames c env f b =
    blames_then Any EndsPlain (lines_checked c env f b) _
    (lines_blame (are_lines c.blocks f.body.blocks (marks c env f b)) c.function) (λ u i.
    blames_then Any EndsPlain (entries_checked c env f b) _
    (entries_blame c.function (length env.identifiers + length c.temporaries) (created_functions f) c.blocks []
    (numbers c env f b)) (λ entries j.
    blames_then Any EndsPlain (temporaries_stated c.function env c.temporaries (tables_of env)) _
    (temporaries_blame c.function env c.temporaries (tables_of env)) (λ tables k.
    blames_then Plain EndsPlain (steps_checked c env f b entries tables) _
    (steps_blame c.function env f b (differs c.blocks (numbers c env f b) (length c.temporaries)) entries tables)
    (λ w h. (instructions_of_all w.recorded h, terminals_of_all w.recorded h)))))

-- ---- the range pass

-- refused it is for want of numbers or memory, or for an Apply that is left
abbrev Wants : {A : Type 0} → Result A InferError → Type 0
Wants (Ok x) = ⊤
Wants (Err (error.TooMany which)) = ⊤
Wants (Err (error.Memory e)) = ⊤
Wants (Err (error.UnreplacedApply i report)) = ⊤
Wants (Err e) = ⊥

wants_then : {A B : Type 0} (r : Result A InferError) (g : A → Result B InferError) → Wants r → ((x : A) → Wants (g x))
    → Wants (r >>= g)
wants_then (Ok x) g h k = k x
wants_then (Err e) g h k = h

listing_wants : (r : Result Listing HirError) → Wants (listing_or r)
listing_wants (Ok l) = tt
listing_wants (Err (hir.TooMany which)) = tt
listing_wants (Err (hir.Memory e)) = tt

room_wants : (b : Bool) → (let r : Result ⊤ InferError = if b then Ok tt else Err (error.TooMany GraphPositions) in
    Wants r)
room_wants true = tt
room_wants false = tt

left_wants : (o : Option _) → Wants (none_unreplaced o)
left_wants None = tt
left_wants (Some i) = tt

recorded_wants : (f : HirFunction) → Wants (recorded f)
recorded_wants f =
    wants_then (none_unreplaced (unreplaced f)) _ (left_wants (unreplaced f)) (λ u.
    wants_then (listing_or (listed f)) _ (listing_wants (listed f)) (λ l.
    wants_then (positions_left l.next (length (tracked f))) _
    (room_wants (nat_le (l.next + length (tracked f)) 4294967295)) (λ s. tt)))

ranges_want : (b : Bool) (f : HirFunction) (env : Environment) → Wants (range_pass b f env)
ranges_want b f env = wants_then (recorded f) _ (recorded_wants f) (λ l. tt)

ranging_blames : {A : Type 0} (P : A → Type 0) (id : Option FunctionId) (r : Result A InferError) → Leads P r → Wants r
    → Blames P (ranging id r)
ranging_blames P id (Ok x) h w = h
ranging_blames P id (Err (error.TooMany which)) h w = tt
ranging_blames P id (Err (error.Memory e)) h w = tt
ranging_blames P id (Err (error.UnreplacedApply i report)) h w = cc
ranging_blames P id (Err e) h w = absurd w

-- ---- functions

-- no instruction below carries Apply
abbrev Nested : Checking → Type 0
Nested a = NestedLackApply a.env

-- nor one of the function that is out of its slot
abbrev Taken : HirFunction × Checking → Type 0
Taken s = InstructionsLackApply s.0 × Nested s.1

abbrev TakenAlone : HirFunction × Environment → Type 0
TakenAlone s = InstructionsLackApply s.0 × NestedLackApply s.1

after_lacks : (env : Environment) (e : PassEnd) → NestedLackApply env → NestedLackApply (env_after env e)
after_lacks env e h = lacks_alike env.functions (env_after env e).functions (passed_contexts env e) h

effects_blame : (id : Option FunctionId) (b : Bool) (f : HirFunction) (a : Checking) (c : CertFunction)
    → InstructionsLackApply f → Nested a → Blames Taken (effects_checked id b f a c)
effects_blame id b f a c h n = blames_then EndsPlain Taken (function_solved c a.env f b) _ (solved_blames c a.env f b)
    (λ e p. (instructions_without_apply e.solved f p h, after_lacks a.env e n))

summary_if : (b : Bool) (id : Option FunctionId)
    → (let r : Result ⊤ CheckFault = if b then Ok tt else Err (fault.Summary id) in Blames Any r)
summary_if true id = tt
summary_if false id = tt

summed_blames : (c : CertFunction) (summary : List AliasingEffect) (f : HirFunction) (a : Checking)
    → InstructionsLackApply f → Nested a → Blames Taken (summed c summary f a)
summed_blames c summary f a h n = blames_then Any Taken (summary_checked c summary) _
    (summary_if (is_summary_claimed summary c.summary) c.function) (λ u k. (h, n))

finished_leads : (f : HirFunction) (env : Environment) → InstructionsLackApply f → NestedLackApply env
    → Leads TakenAlone (finished f env)
finished_leads f env h n = avoids_then is_unreplaced RangesPlain TakenAlone (range_pass true f env) _
    (ranges_plain true f env h n) (λ r p. p)

finished_wants : (f : HirFunction) (env : Environment) → Wants (finished f env)
finished_wants f env = wants_then (range_pass true f env) _ (ranges_want true f env) (λ r. tt)

nested_end_blames : (c : CertFunction) (id : FunctionId) (s : HirFunction × Checking) → Taken s
    → Blames Taken (nested_finished c id s)
nested_end_blames c id s h =
    blames_then TakenAlone Taken (ranging (Some id) (finished s.0 s.1.env)) _
    (ranging_blames TakenAlone (Some id) (finished s.0 s.1.env) (finished_leads s.0 s.1.env h.0 h.1)
    (finished_wants s.0 s.1.env))
    (λ r p. summed_blames c (stored_summary r.0) r.0 (checking r.1 s.1.functions) p.0 p.1)

root_end_blames : (c : CertFunction) (s : HirFunction × Checking) → Taken s → Blames Taken (root_finished c s)
root_end_blames c s h =
    blames_then RangesPlain Taken (ranging None (range_pass false s.0 s.1.env)) _
    (ranging_blames RangesPlain None (range_pass false s.0 s.1.env) (ranges_plain false s.0 s.1.env h.0 h.1)
    (ranges_want false s.0 s.1.env))
    (λ r p. summed_blames c r.summary r.after.0 (checking r.after.1 s.1.functions) p.0 p.1)

said_if : (b : Bool) (n : ℕ) (c : CertFunction)
    → (let r : Result CertFunction CheckFault = if b then Ok c else Err (fault.Functions n) in Blames Any r)
said_if true n c = tt
said_if false n c = tt

said_blames : (n : ℕ) (id : Option FunctionId) (o : Option CertFunction) → Blames Any (said_as n id o)
said_blames n id None = tt
said_blames n id (Some c) = said_if (same_name c.function id) n c

module _ (functions : List CertFunction) where
  nested_blames : (id : FunctionId) (f : HirFunction) (a : Checking) → InstructionsLackApply f → Nested a
      → Blames Taken (nested_checked functions id f a)
  nested_blames id f a h n =
      blames_then Any Taken (said functions (length a.functions) (Some id)) (nested_as_said id f a)
      (said_blames (length a.functions) (Some id) (slice_get functions (length a.functions))) (λ c k.
      blames_then Taken Taken (effects_checked (Some id) true f a c) (nested_finished c id)
      (effects_blame (Some id) true f a c h n) (nested_end_blames c id))

  root_blames : (f : HirFunction) (a : Checking) → InstructionsLackApply f → Nested a
      → Blames Taken (root_checked functions f a)
  root_blames f a h n =
      blames_then Any Taken (said functions (length a.functions) None) (root_as_said f a)
      (said_blames (length a.functions) None (slice_get functions (length a.functions))) (λ c k.
      blames_then Taken Taken (effects_checked None false f a c) (root_finished c) (effects_blame None false f a c h n)
      (root_end_blames c))

  each_blames : {X : Type 0} (step : X → Checking → Result Checking CheckFault)
      → ((x : X) (a : Checking) → Nested a → Blames Nested (step x a)) → (xs : List X) (a : Checking) → Nested a
      → Blames Nested (each step xs a)
  each_blames step h [] a n = n
  each_blames step h (x ∷ xs) a n = blames_then Nested Nested (step x a) (each step xs) (h x a n)
      (each_blames step h xs)

  module _ (below : HirFunction → Checking → Result Checking CheckFault)
      (blame : (f : HirFunction) (a : Checking) → Nested a → Blames Nested (below f a)) where
    taken_blames : (id : FunctionId) (f : HirFunction) (a : Checking) → InstructionsLackApply f → Nested a
        → Blames Taken (taken_checked functions below id f a)
    taken_blames id f a h n = blames_then Nested Taken (below f a) (nested_checked functions id f) (blame f a n)
        (λ b m. nested_blames id f b h m)

    found_blames : (id : FunctionId) (a : Checking) (o : Option HirFunction) → slice_get a.env.functions id.0 ≡ o
        → Nested a → Blames Nested (found_checked functions below id a o)
    found_blames id a None e n = n
    found_blames id a (Some f) e n =
        let out : Checking = record a { env = with_function id (emptied f.returns) a.env } in
        blames_then Taken Nested (taken_checked functions below id f out) _
        (taken_blames id f out (got_all InstructionsLackApply a.env.functions id.0 f e n)
        (set_all InstructionsLackApply a.env.functions id.0 (emptied f.returns) tt n))
        (λ s p. set_all InstructionsLackApply s.1.env.functions id.0 s.0 p.0 p.1)

    slot_blames : (id : FunctionId) (a : Checking) → Nested a → Blames Nested (slot_checked functions below id a)
    slot_blames id a n = found_blames id a (slice_get a.env.functions id.0) refl n

  below_blames : (n : ℕ) (f : HirFunction) (a : Checking) → Nested a → Blames Nested (below_checked functions n f a)
  unfolding below_checked
  below_blames zero f a h = h
  below_blames (suc n) f a h = each_blames (slot_checked functions (below_checked functions n))
      (slot_blames (below_checked functions n) (below_blames n)) (created_functions f) a h

  -- ---- the unit

  more_if : (b : Bool) (s : HirFunction × Checking)
      → (let r : Result (HirFunction × Checking) CheckFault = if b then Err (fault.Functions (length s.1.functions))
      else Ok s in Blames Any r)
  more_if true s = tt
  more_if false s = tt

  unit_blames : (u : HirUnit) → InstructionsLackApply u.function → NestedLackApply u.env
      → Blames Any (unit_checked functions u)
  unit_blames u h n =
      blames_then Taken Any (below_checked functions most_levels u.function (checking u.env [])
      >>= root_checked functions u.function) (none_left functions)
      (blames_then Nested Taken (below_checked functions most_levels u.function (checking u.env []))
      (root_checked functions u.function) (below_blames most_levels u.function (checking u.env []) n)
      (λ a m. root_blames u.function a h m))
      (λ s p. more_if (nat_lt (length s.1.functions) (length functions)) s)

-- ---- a unit that is well formed

nothing_carried : (o : Option (List AliasingEffect)) → is_none o ≡ true → has_apply o ≡ false
nothing_carried None h = refl
nothing_carried (Some es) h = cc

uninferred_lack : (is : List Instruction) → list_all instruction_is_uninferred is ≡ true
    → AllByRecursion (λ (i : Instruction). has_apply i.effects ≡ false) is
uninferred_lack [] h = tt
uninferred_lack (i ∷ is) h =
    let b = both_true (instruction_is_uninferred i) _ h in
    (nothing_carried i.effects (both_true (is_none i.effects) _ (both_true _ _ b.0).0).0, uninferred_lack is b.1)

function_lacks : (f : HirFunction) → function_is_uninferred f ≡ true → InstructionsLackApply f
function_lacks f h = uninferred_lack f.instructions
    (both_true _ (list_all instruction_is_uninferred f.instructions) (both_true _ _ h).0).1

blamed : {A : Type 0} (r : Result A CheckFault) (e : CheckFault) → Blames Any r → r ≡ Err e → BlamesAStep e
blamed r e h is = subst (Blames Any) is h

-- where the check of a unit that is well formed finds the fault of a step, a step was refused
pub fault_blames : (functions : List CertFunction) (u : HirUnit) (e : CheckFault) → rules_hold u ≡ Ok tt
    → unit_checked functions u ≡ Err e → BlamesAStep e
fault_blames functions u e rules is =
    blamed (unit_checked functions u) e (unit_blames functions u
    (function_lacks u.function (parts_of_rules u rules).function) (uninferred_without u rules)) is

-- so it is of each answer of the check
pub answer_blames : (functions : List CertFunction) (u : HirUnit) (r : Result Accepted CheckFault) → rules_hold u
    ≡ Ok tt → Accepts functions u r → IfErr r BlamesAStep
answer_blames functions u (Ok a) rules h = tt
answer_blames functions u (Err (fault.Memory e)) rules h = tt
answer_blames functions u (Err e) rules h = fault_blames functions u e rules (h refl)
