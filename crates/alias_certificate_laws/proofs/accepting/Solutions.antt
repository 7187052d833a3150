-- Entry states that solve the flow of a function are accepted under the same tables.
use Rattle.std.proofs.Common.{◌≡◌, ℕ, ◌+◌, ◌<◌, ◌≤◌, ⊎_elim, Bool, true, false, nat_lt, ◌&&◌, IsTrue, List, [], ◌∷◌}
use Rattle.std.proofs.Common.{length, replicate, Option, Some, None, Ok, zero, suc, refl, ap, sym, ◌∙◌, subst, arith}
use Rattle.std.specs.Prelude.{⊤, Result, Err, slice_get}
use Rattle.std.proofs.lemmas.List.{length-replicate}
use Rattle.std.proofs.lemmas.Bool.{cases_eq, ltb-true}
use Rattle.std.specs.List.{AllByRecursion, list_all}
use Rattle.std.specs.Option.{is_some}
use Rattle.alias_base.specs.Find.{value_at}
use Rattle.alias_hir.specs.declared.env.Environment.{Environment}
use Rattle.alias_base.specs.declared.ids.BlockId.{BlockId}
use Rattle.alias_hir.specs.declared.hir.BasicBlock.{BasicBlock}
use Rattle.alias_hir.specs.declared.hir.HirFunction.{HirFunction}
use Rattle.alias_lattice.specs.Flows.{Stepped, IsReached, at_entry, by_edge}
use Rattle.alias_lattice.specs.JoinLaws.{state_laws}
use Rattle.alias_lattice.specs.ProperStates.{StateProper}
use Rattle.alias_lattice.specs.States.{State, state_join, state_below}
use Rattle.alias_flow.specs.Machine.{Rules, up, FlowLaws}
use Rattle.alias_flow.specs.Solutions.{entry_at, goes_forward, IsForward}
use Rattle.alias_flow.specs.check.Checks.{Arriving, solution_checked}
use Rattle.alias_tables.specs.GrowingLaws.{Extends, grows_self}
use Rattle.alias_tables.specs.Tables.{TableLists}
use Rattle.alias_step.specs.block.Blocks.{infer_block}
use Rattle.alias_step.specs.block.Recorded.{no_effects}
use Rattle.alias_step.specs.block.Contexts.{BlockContext, context_of}
use Rattle.alias_step.specs.declared.block.faults.BlockRefusal.{BlockRefusal}
use Rattle.alias_step.specs.declared.block.faults.BlockRefusal.TheVariants.{Instruction, Uninitialized}
use Rattle.alias_flow.specs.declared.check.fault.Unsolved.{Unsolved}
use Rattle.alias_flow.specs.declared.check.fault.Unsolved.TheVariants as fault
use Rattle.alias_effects.specs.FunctionFlow.{outcome_of}
use Rattle.alias_step.specs.declared.block.recorded.BlockEffects.{BlockEffects}
use Rattle.alias_effects.specs.Numbered.{numbered, step_at}
use Rattle.alias_effects.specs.PassLaws.{pass_laws}
use Rattle.alias_certificate_laws.specs.accepting.Alike.{none, AlikeTemporaries, Gives, given, excused, Elsewhere}
use Rattle.alias_certificate_laws.specs.accepting.Alike.{elsewhere}
use Rattle.alias_certificate_laws.specs.accepting.AlikeBlocks.{AlikeRecorded, AlikeOut, out, IsBlockFull}
use Rattle.alias_certificate_laws.proofs.accepting.Blocking.{away, same_infer_block}
use Rattle.alias_certificate_laws.proofs.accepting.Knowing.{facts_elsewhere}
use Rattle.alias_certificate_laws.specs.accepting.Passing.{AreSolved, Passes, goes, excused as excused_step, Accepts}
use Rattle.alias_certificate_laws.specs.accepting.Passing.{accepted, refused}
use Rattle.alias_certificate_laws.specs.accepting.Accepting.{rules, rules_of, SolvesUnder, AreClaimed, IsAccepted}
use Rattle.alias_certificate_laws.specs.accepting.Accepting.{AreClaimedAlike, IsAcceptedOrFull}
use Rattle.alias_certificate_laws.specs.accepting.Accepting.{accepted as accepted_with, full}
use Rattle.alias_certificate_laws.proofs.accepting.Accepting.{check_accepts}

-- ---- edges that pass the test go forward

both : (a b : Bool) → (a && b) ≡ true → (a ≡ true) × (b ≡ true)
both true b h = (refl, h)
both false b h = cc

all_later : (b : ℕ) (es : List ℕ) → list_all (λ e. nat_lt b e) es ≡ true → AllByRecursion (λ e. b < e) es
all_later b [] h = tt
all_later b (e ∷ es) h = let p = both (nat_lt b e) (list_all (λ e. nat_lt b e) es) h in
    (ltb-true b e p.0, all_later b es p.1)

all_up : (test : ℕ → Bool) (i n : ℕ) → list_all test (up i n) ≡ true → (b : ℕ) → i ≤ b → b < i + n → test b ≡ true
all_up test i zero h b le lt = let no : ⊥ = omega arith in absurd no
all_up test i (suc n) h b le lt =
    let p = both (test i) (list_all test (up (i + 1) n)) h in
    ⊎_elim (λ same. ap test same ∙ p.0) (λ other. all_up test (i + 1) n p.1 b (omega (arith, other)) (omega arith))
    (cases_eq b i)

pub forward_is : {P T K C : Type 0} (r : Rules P T K C) → goes_forward r ≡ true → IsForward r
forward_is r h b lt = all_later b (r.flow.edges b)
    (all_up (λ b. list_all (λ e. nat_lt b e) (r.flow.edges b)) 0 r.blocks h b (omega arith) (omega arith))

some_state : (o : Option State) → IsTrue (is_some o) → (s : State) × (o ≡ Some s)
some_state None h = cc
some_state (Some s) h = (s, refl)

parts_are : (r : (State × BlockEffects) × TableLists) (y : State) (k : BlockEffects) (u : TableLists) → r.0.0 ≡ y
    → r.0.1 ≡ k → r.1 ≡ u → r ≡ ((y, k), u)
parts_are r y k u a b c = λ i. ((a i, b i), c i)

pub stepped_is : (r : Result ((State × BlockEffects) × TableLists) BlockRefusal) (y : State) (k : BlockEffects)
    (u : TableLists) → outcome_of r ≡ Stepped y u k → r ≡ Ok ((y, k), u)
stepped_is (Ok r) y k u h =
    let state : r.0.0 ≡ y = cc in
    let recorded : r.0.1 ≡ k = cc in
    let tables : r.1 ≡ u = cc in
    ap Ok (parts_are r y k u state recorded tables)
stepped_is (Err c) y k u h = cc

-- ---- the same blocks are reached elsewhere

module _ (env : Environment) (o : Elsewhere env) (func : HirFunction) (e : Bool) where
  pub reached_there : (b : ℕ) → IsReached (rules env func e).flow b
      → IsReached (rules_of (elsewhere env o) func e).flow b
  reached_there b at_entry = at_entry
  reached_there b (by_edge a c r one) = by_edge a c (reached_there a r) one

  pub reached_here : (b : ℕ) → IsReached (rules_of (elsewhere env o) func e).flow b
      → IsReached (rules env func e).flow b
  reached_here b at_entry = at_entry
  reached_here b (by_edge a c r one) = by_edge a c (reached_here a r) one

-- ---- the flow of a function

module _ (env : Environment) (func : HirFunction) (is_function_expression : Bool)
    (entered : is_some (value_at func.body.blocks func.body.entry) ≡ true) (tables : TableLists)
    (entries : List (Option State)) (s : SolvesUnder env func is_function_expression tables entries) where
  abbrev flow_rules : Rules State TableLists BlockEffects BlockRefusal
  flow_rules = rules env func is_function_expression

  laws : FlowLaws StateProper Extends (numbered (context_of env func is_function_expression))
      (replicate (length func.body.blocks) None)
  laws = pass_laws (context_of env func is_function_expression) entered (replicate (length func.body.blocks) None)
      (length-replicate (length func.body.blocks) None)

  -- the block steps so under the tables
  abbrev StepsTo : ℕ → State → State → Type 0
  StepsTo b x y = (k : BlockEffects) × (flow_rules.flow.step tables b x ≡ Stepped y tables k)

  single : (b : ℕ) (x y z : State) → StepsTo b x y → StepsTo b x z → y ≡ z
  single b x y z g h = let two : Stepped y tables g.0 ≡ Stepped z tables h.0 = sym g.1 ∙ h.1 in cc

  solved : AreSolved StateProper state_below flow_rules entries StepsTo
  solved = record {
    reached = λ b r. some_state (entry_at entries b) (s.solves.reached b r);
    only_reached = s.solves.only_reached;
    initial = s.solves.initial;
    steps = λ b x is. let z = s.solves.steps b x is in (z.0, (z.1, z.2), z.3);
    joins = λ forward b x u is p first later.
        (s.joins (forward_is flow_rules forward) b x is).least u p
        (record { initial = first; stepped = λ c x y k c_is step one. later c x y c_is (k, step) one });
  }

  module _ (differs : TableLists → ℕ → BlockEffects → Option ⊤)
      (claimed : AreClaimed env func is_function_expression tables entries differs) where
    passes : (t : TableLists) (b : ℕ) (x y : State) → t ≡ tables → entry_at entries b ≡ Some x → StepsTo b x y
        → Passes flow_rules differs (λ u. u ≡ tables) (λ c. ⊥) t b x y
    passes t b x y same is g = goes tables g.0 (ap (λ u. flow_rules.flow.step u b x) same ∙ g.1) refl
        (claimed b x y g.0 is g.1)

    none_refused : (r : _) → Accepts {P = State} {T = TableLists} {K = BlockEffects} {C = BlockRefusal} {D = ⊤} (λ c. ⊥)
        (λ w. w.tables ≡ tables) r → (w : Arriving State TableLists BlockEffects) × (r ≡ Ok w) × (w.tables ≡ tables)
    none_refused r (accepted w is h) = (w, is, h)
    none_refused r (refused b c is never) = absurd never

    accepts : (w : Arriving State TableLists BlockEffects)
        × (solution_checked state_join state_below flow_rules differs entries tables
        (replicate (length func.body.blocks) None) ≡ Ok w) × (w.tables ≡ tables)
    accepts = none_refused _ (check_accepts state_laws laws differs entries StepsTo (λ u. u ≡ tables) (λ c. ⊥) solved
        s.proper s.count passes single tables refl)

  pub accepted_under : IsAccepted env func is_function_expression tables entries
  accepted_under differs claimed = accepts differs claimed

  -- ---- elsewhere, and under other tables

  module _ {D : Type 0} (o : Elsewhere env) (differs : TableLists → ℕ → BlockEffects → Option D)
      (claimed : AreClaimedAlike env func is_function_expression tables entries differs) where
    abbrev Likes : TableLists → Type 0
    Likes t = AlikeTemporaries tables.temporaries t.temporaries

    abbrev context : BlockContext
    context = context_of env func is_function_expression

    abbrev there_rules : Rules State TableLists BlockEffects BlockRefusal
    there_rules = rules_of (elsewhere env o) func is_function_expression

    there_laws : FlowLaws StateProper Extends (numbered (context_of (elsewhere env o) func is_function_expression))
        (replicate (length func.body.blocks) None)
    there_laws = pass_laws (context_of (elsewhere env o) func is_function_expression) entered
        (replicate (length func.body.blocks) None) (length-replicate (length func.body.blocks) None)

    solved_there : AreSolved StateProper state_below there_rules entries StepsTo
    solved_there = record {
      reached = λ b r. solved.reached b (reached_here env o func is_function_expression b r);
      only_reached = λ b x is. reached_there env o func is_function_expression b (solved.only_reached b x is);
      initial = solved.initial;
      steps = solved.steps;
      joins = solved.joins;
    }

    context_there : context_of (elsewhere env o) func is_function_expression ≡ away context o
    context_there = ap (λ k. let c : BlockContext =
        record { env = elsewhere env o; func = func; facts = k; is_function_expression = is_function_expression } in c)
        (facts_elsewhere env o func)

    step_there : (t : TableLists) (x : State) (block : BlockId × BasicBlock) (i : ℕ) → slice_get func.body.blocks i
        ≡ Some block → there_rules.flow.step t i x ≡ outcome_of (infer_block (away context o) block.0 block.1 x t)
    step_there t x block i at_index =
        ap (λ z. step_at (context_of (elsewhere env o) func is_function_expression) z t x) at_index
        ∙ ap (λ c. outcome_of (infer_block c block.0 block.1 x t)) context_there

    given_passes : (t : TableLists) (b : ℕ) (x y : State) (k : BlockEffects) (block : BlockId × BasicBlock)
        → entry_at entries b ≡ Some x → slice_get func.body.blocks b ≡ Some block → flow_rules.flow.step tables b x
        ≡ Stepped y tables k
        → Gives IsBlockFull tables.temporaries AlikeOut (y, k) (infer_block (away context o) block.0 block.1 x t)
        → Passes there_rules differs Likes IsBlockFull t b x y
    given_passes t b x y k block is at_index step (given p v now (out _ _ q r) likes) =
        goes v q (step_there t x block b at_index ∙ ap outcome_of now) likes (claimed b x y k is step v q likes r)
    given_passes t b x y k block is at_index step (excused c now why) =
        excused_step c (step_there t x block b at_index ∙ ap outcome_of now) why

    passes_at : (t : TableLists) (b : ℕ) (x y : State) (k : BlockEffects) (z : Option (BlockId × BasicBlock)) → Likes t
        → entry_at entries b ≡ Some x → slice_get func.body.blocks b ≡ z → flow_rules.flow.step tables b x
        ≡ Stepped y tables k
        → Passes there_rules differs Likes IsBlockFull t b x y
    passes_at t b x y k None likes is at_index step =
        let here : Stepped x tables no_effects ≡ Stepped y tables k =
        sym (ap (λ z. step_at context z tables x) at_index) ∙ step in
        let state : x ≡ y = cc in
        let nothing : no_effects ≡ k = cc in
        goes t no_effects (ap (λ z. step_at (context_of (elsewhere env o) func is_function_expression) z t x) at_index
        ∙ ap (λ z. Stepped z t no_effects) state) likes
        (claimed b x y k is step t no_effects likes
        (subst (λ r. AlikeRecorded r no_effects) nothing (record { instructions = none; terminal = none })))
    passes_at t b x y k (Some block) likes is at_index step =
        let run : infer_block context block.0 block.1 x tables ≡ Ok ((y, k), tables) =
        stepped_is (infer_block context block.0 block.1 x tables) y k tables
        (sym (ap (λ z. step_at context z tables x) at_index) ∙ step) in
        given_passes t b x y k block is at_index step
        ((same_infer_block context o block.0 block.1 x).again tables tables t (y, k) run
        (grows_self tables.temporaries) likes)

    passes_anyway : (t : TableLists) (b : ℕ) (x y : State) → Likes t → entry_at entries b ≡ Some x → StepsTo b x y
        → Passes there_rules differs Likes IsBlockFull t b x y
    passes_anyway t b x y likes is g = passes_at t b x y g.0 (slice_get func.body.blocks b) likes is refl g.1

    full_is : (b : ℕ) (c : BlockRefusal) (r : Result (Arriving State TableLists BlockEffects) (Unsolved BlockRefusal D))
        → r ≡ Err (fault.Step b c) → IsBlockFull c → IsAcceptedOrFull env func is_function_expression tables r
    full_is b (Instruction i c) r is why = full b i (is ∙ ap (λ z. Err (fault.Step b (Instruction i z))) why)
    full_is b (Uninitialized lookup) r is why = absurd why

    accepted_is : (r : Result (Arriving State TableLists BlockEffects) (Unsolved BlockRefusal D))
        → Accepts IsBlockFull (λ w. Likes w.tables) r → IsAcceptedOrFull env func is_function_expression tables r
    accepted_is r (accepted w is likes) = accepted_with w is likes
    accepted_is r (refused b c is why) = full_is b c r is why

    pub accepts_anyway : (begun : TableLists) → Likes begun
        → IsAcceptedOrFull env func is_function_expression tables
        (solution_checked state_join state_below there_rules differs entries begun
        (replicate (length func.body.blocks) None))
    accepts_anyway begun likes =
        accepted_is _ (check_accepts state_laws there_laws differs entries StepsTo Likes IsBlockFull solved_there
        s.proper s.count passes_anyway single begun likes)
