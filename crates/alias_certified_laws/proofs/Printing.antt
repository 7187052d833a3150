-- The lines that are printed of a function that carries its effects are those that are said of its solution.
use Rattle.std.specs.Prelude.{◌≡◌, ℕ, Bool, true, List, [], ◌∷◌, ◌++◌, map, length, Option, Some, None, Ok, is_none}
use Rattle.std.specs.Prelude.{replicate, slice_get, slice_index_or, refl}
use Rattle.std.specs.List.{flat_map, list_all}
use Rattle.std.specs.Option.{is_some}
use Rattle.std.proofs.Common.{zero, suc, subst, ap, sym, ◌∙◌, arith}
use Rattle.alias_base.specs.AnswerLaws.{both_true}
use Rattle.alias_base.specs.Find.{value_at}
use Rattle.alias_base.specs.declared.ids.BlockId.{BlockId}
use Rattle.alias_base.specs.declared.ids.InstructionId.{InstructionId}
use Rattle.alias_rules.specs.function_rules.Rules.{instruction_is_uninferred, terminal_is_uninferred}
use Rattle.alias_rules.specs.function_rules.Rules.{place_is_uninferred, listed_instructions, first_again, twice}
use Rattle.alias_hir.specs.Terminals.{terminal_effects, terminal_places}
use Rattle.alias_hir.specs.declared.effect.AliasingEffect.{AliasingEffect}
use Rattle.alias_hir.specs.declared.env.Environment.{Environment}
use Rattle.alias_hir.specs.declared.hir.BasicBlock.{BasicBlock}
use Rattle.alias_hir.specs.declared.hir.HirFunction.{HirFunction}
use Rattle.alias_hir.specs.declared.hir.Instruction.{Instruction}
use Rattle.alias_hir.specs.Positions.{Blocks, position_in}
use Rattle.alias_lattice.specs.Flows.{Stepped}
use Rattle.alias_lattice.specs.JoinLaws.{state_laws}
use Rattle.alias_lattice.specs.States.{State, state_below}
use Rattle.alias_flow.specs.Machine.{SolverState, VisitLog, Solved}
use Rattle.alias_flow.specs.Solutions.{entry_at}
use Rattle.alias_flow.proofs.DirtyFlags.{as_work_list_state}
use Rattle.alias_flow.proofs.Solving.{Solves}
use Rattle.alias_rules.specs.Fitting.{function_fits}
use Rattle.alias_rules.specs.RuleLaws.{fitting_entry}
use Rattle.alias_rules.specs.declared.rules.Rule.TheVariants.{ListedOnce}
use Rattle.alias_nesting_laws.specs.FittingLaws.{fitted}
use Rattle.alias_tables.specs.Tables.{TableLists}
use Rattle.alias_step.specs.block.Blocks.{infer_block}
use Rattle.alias_step.specs.block.Contexts.{context_of}
use Rattle.alias_step.specs.block.Recorded.{no_effects}
use Rattle.alias_step.specs.declared.block.recorded.BlockEffects.{BlockEffects}
use Rattle.alias_step.specs.declared.block.recorded.InstructionEffects.{InstructionEffects}
use Rattle.alias_tables.specs.write_back.WriteBack.{tables_of}
use Rattle.alias_effects.specs.Inference.{entries_of, instructions_recorded, terminal_recorded, solved_of}
use Rattle.alias_effects.specs.Numbered.{step_at, visits_end}
use Rattle.alias_effects.specs.PassLaws.{outcome_is}
use Rattle.alias_effects.specs.Recording.{recorded_instructions, recorded_terminals, with_effects_of}
use Rattle.alias_text.specs.Lines.{recorded_of}
use Rattle.alias_certificate_laws.specs.text.Certifying.{cert_effect, effects_of, effects_in, ends_in, cert_block}
use Rattle.alias_certificate.specs.declared.certificate.CertBlock.{CertBlock}
use Rattle.alias_certificate.specs.declared.certificate.CertEffect.{CertEffect}
use Rattle.alias_certificate_laws.specs.accepting.Alike.{Paired, none as no_pair, more}
use Rattle.alias_certificate_laws.specs.accepting.Saying.{said_value, said_variable, said_effects, said_block, said_of}
use Rattle.alias_certificate_laws.specs.accepting.Saying.{said_each, those_there}
use Rattle.alias_certificate_laws.proofs.accepting.Passing.{laws as pass_laws_of, solves as pass_ends, kept}
use Rattle.alias_certified_laws.proofs.Aligning.{Aligned, none, skip, BlockSays, block_says}
use Rattle.alias_certified_laws.proofs.Carrying.{effects_for, carried, not_carried, ends_for, named_end}
use Rattle.alias_certified_laws.proofs.Ending.{NoneOf, none_of_other, ends_at, ends_instructions, terminal_lines}
use Rattle.alias_certified_laws.proofs.Looking.{Lookups, no_more, nothing, something, BlockAligned, BlockLookups}
use Rattle.alias_certified_laws.proofs.Looking.{all_lookup}
use Rattle.alias_certified_laws.proofs.Placing.{at_its_place, reached_place}

-- ---- lists

holds_at : {X : Type 0} (p : X → Bool) (xs : List X) (n : ℕ) (x : X) → list_all p xs ≡ true → slice_get xs n ≡ Some x
    → p x ≡ true
holds_at p [] n x h e = cc
holds_at p (y ∷ ys) zero x h e = let same : y ≡ x = cc in
    subst (λ z. p z ≡ true) same (both_true (p y) (list_all p ys) h).0
holds_at p (y ∷ ys) (suc n) x h e = holds_at p ys n x (both_true (p y) (list_all p ys) h).1 e

none_replicated : {X : Type 0} (m n : ℕ) → ◌≡◌ {A = Option X} (slice_index_or (replicate m None) n None) None
none_replicated zero n = refl
none_replicated (suc m) zero = refl
none_replicated (suc m) (suc n) = none_replicated m n

module _ {A B : Type 0} (Q : A → Option B → Type 0) where
  paired_from : (as_ : List A) (rs : List (Option B)) → length rs ≡ length as_
      → ((n : ℕ) (a : A) → slice_get as_ n ≡ Some a → Q a (slice_index_or rs n None)) → Paired Q as_ rs
  paired_from [] [] l f = no_pair
  paired_from [] (r ∷ rs) l f = absurd (let k : suc (length rs) ≡ 0 = l in omega arith)
  paired_from (a ∷ as_) [] l f = absurd (let k : 0 ≡ suc (length as_) = l in omega arith)
  paired_from (a ∷ as_) (r ∷ rs) l f = more (f zero a refl)
      (paired_from as_ rs (let k : suc (length rs) ≡ suc (length as_) = l in omega arith) (λ n. f (suc n)))

  paired_at : {as_ : List A} {rs : List (Option B)} → Paired Q as_ rs → (n : ℕ) (a : A) → slice_get as_ n ≡ Some a
      → Q a (slice_index_or rs n None)
  paired_at no_pair n a e = cc
  paired_at (more {a = x} {b = r} h p) zero a e = let same : x ≡ a = cc in subst (λ z. Q z r) same h
  paired_at (more h p) (suc n) a e = paired_at p n a e

-- ---- instructions

all_skipped : (xs : List Instruction) (is : List InstructionId) → Aligned xs is []
all_skipped xs [] = none
all_skipped xs (i ∷ is) = skip i (all_skipped xs is)

module _ (xs : List Instruction) (uninferred : (i : ℕ) (x : Instruction) → slice_get xs i ≡ Some x
    → instruction_is_uninferred x ≡ true) (whole : List InstructionEffects) where
  carries_at : (i : ℕ) (o : Option Instruction) → slice_get xs i ≡ o → effects_for i whole ≡ []
      → recorded_of (slice_get (recorded_instructions whole xs) i) ≡ []
  carries_at i None at h = ap recorded_of (not_carried whole xs i at)
  carries_at i (Some x) at h = let c = carried whole xs i x at (uninferred i x at) in ap recorded_of c.1 ∙ c.2 ∙ h

  carries_these : (i : ℕ) (x : Instruction) (es : List AliasingEffect) → slice_get xs i ≡ Some x → effects_for i whole
      ≡ es → recorded_of (slice_get (recorded_instructions whole xs) i) ≡ es
  carries_these i x es at h = let c = carried whole xs i x at (uninferred i x at) in ap recorded_of c.1 ∙ c.2 ∙ h

  -- the lines of a block's instructions
  instruction_lines : {is : List InstructionId} {es : List InstructionEffects} → Lookups xs whole is es
      → flat_map (effects_of (recorded_instructions whole xs)) is ≡ flat_map said_effects es
  instruction_lines no_more = refl
  instruction_lines (nothing i {is} h l) =
      ap (λ es. map (cert_effect i.0) es ++ flat_map (effects_of (recorded_instructions whole xs)) is)
      (carries_at i.0 (slice_get xs i.0) refl h) ∙ instruction_lines l
  instruction_lines (something i x es {is} {rest} at h l) =
      ap (λ fs. map (cert_effect i.0) fs ++ flat_map (effects_of (recorded_instructions whole xs)) is)
      (carries_these i.0 x es at h) ∙ ap (λ ls. map (cert_effect i.0) es ++ ls) (instruction_lines l)

-- ---- the lines of blocks, side by side

module _ (g : HirFunction) where
  -- where the block has an entry state, something is recorded of it, and the line that is printed is the one that says
  -- this
  abbrev LineIs : BlockId × BasicBlock → Option State → Option BlockEffects → Type 0
  LineIs b None r = Unit {0}
  LineIs b (Some s) None = ⊥
  LineIs b (Some s) (Some r) = cert_block g (record { block = b.0; state = s }) ≡ said_block b.0 s r

  one_line : (b : BlockId × BasicBlock) (x : Option State) (r : Option BlockEffects) (bs : Blocks)
      (xs : List (Option State)) (rs : List (Option BlockEffects)) → LineIs b x r
      → map (cert_block g) (entries_of bs xs) ≡ those_there (said_each bs xs rs)
      → map (cert_block g) (entries_of (b ∷ bs) (x ∷ xs)) ≡ those_there (said_of b x r ∷ said_each bs xs rs)
  one_line b None r bs xs rs h e = e
  one_line b (Some s) None bs xs rs h e = absurd h
  one_line b (Some s) (Some r) bs xs rs h e = ap (λ l. l ∷ map (cert_block g) (entries_of bs xs)) h
      ∙ ap (λ ls. said_block b.0 s r ∷ ls) e

  all_lines : (bs : Blocks) (xs : List (Option State)) (rs : List (Option BlockEffects)) → length rs ≡ length bs
      → ((n : ℕ) (b : BlockId × BasicBlock) → slice_get bs n ≡ Some b
      → LineIs b (entry_at xs n) (slice_index_or rs n None))
      → map (cert_block g) (entries_of bs xs) ≡ those_there (said_each bs xs rs)
  all_lines [] xs rs l f = refl
  all_lines (b ∷ bs) [] rs l f = refl
  all_lines (b ∷ bs) (x ∷ xs) [] l f = absurd (let k : 0 ≡ suc (length bs) = l in omega arith)
  all_lines (b ∷ bs) (x ∷ xs) (r ∷ rs) l f =
      one_line b x r bs xs rs (f zero b refl)
      (all_lines bs xs rs (let k : suc (length rs) ≡ suc (length bs) = l in omega arith) (λ n. f (suc n)))

-- ---- a function

not_again : (o : Option ℕ) → twice None o ≡ Ok tt → o ≡ None
not_again None h = refl
not_again (Some k) h = cc

module _ (env : Environment) (func : HirFunction) (e : Bool) (w : SolverState (VisitLog State) TableLists BlockEffects)
    (fits : function_fits func env ≡ true)
    (ends : visits_end (context_of env func e) ≡ Solved w) where
  -- ---- what the pass ends with

  entered : is_some (value_at func.body.blocks func.body.entry) ≡ true
  entered = fitting_entry func env fits

  listed_once : first_again [] (listed_instructions func) ≡ None
  listed_once = not_again (first_again [] (listed_instructions func)) ((fitted func env fits).rule ListedOnce refl)

  solves : Solves state_laws (pass_laws_of env func e entered w ends) (tables_of env) (as_work_list_state state_below w)
  solves = pass_ends env func e entered w ends

  recorded_long : length w.recorded ≡ length func.body.blocks
  recorded_long = (kept env func e entered w ends).2

  -- ---- what is recorded of a block

  -- nothing of one without an entry state
  not_recorded : (n : ℕ) → entry_at w.progress.joined_input n ≡ None → slice_index_or w.recorded n None ≡ None
  not_recorded n h = solves.others n h ∙ none_replicated (length func.body.blocks) n

  -- of one with an entry state what it says, and it stands at the position of its name
  record Recorded (n : ℕ) (b : BlockId × BasicBlock) : Type 0 where
    effects : BlockEffects
    is : slice_index_or w.recorded n None ≡ Some effects
    says : BlockSays (context_of env func e) b.0 b.1 effects
    at : position_in func.body.blocks b.0 ≡ Some n

  recorded_there : (n : ℕ) (b : BlockId × BasicBlock) (s : State) → slice_get func.body.blocks n ≡ Some b
      → entry_at w.progress.joined_input n ≡ Some s → Recorded n b
  recorded_there n b s there h =
      let r = solves.keeps n s h in
      let step : step_at (context_of env func e) (Some b) w.tables s ≡ Stepped r.0 w.tables r.1 =
      subst (λ o. step_at (context_of env func e) o w.tables s ≡ Stepped r.0 w.tables r.1) there r.2 in
      record {
        effects = r.1;
        is = r.3;
        says = block_says (context_of env func e) b.0 b.1 s r.0 r.1 w.tables w.tables
            (outcome_is (infer_block (context_of env func e) b.0 b.1 s w.tables) r.0 w.tables r.1 step);
        at = at_its_place func.body.blocks n b there
            (reached_place (context_of env func e) entered n (solves.solves.only_reached n s h));
      }

  -- nothing where there is no block
  nothing_past : (n : ℕ) (s : State) → slice_get func.body.blocks n ≡ None → entry_at w.progress.joined_input n ≡ Some s
      → slice_index_or w.recorded n None ≡ Some no_effects
  nothing_past n s past h =
      let r = solves.keeps n s h in
      let step : Stepped s w.tables no_effects ≡ Stepped r.0 w.tables r.1 =
      subst (λ o. step_at (context_of env func e) o w.tables s ≡ Stepped r.0 w.tables r.1) past r.2 in
      let same : r.1 ≡ no_effects = cc in
      r.3 ∙ ap (λ (k : BlockEffects). Some k) same

  -- ---- instructions

  aligned_at : (n : ℕ) (b : BlockId × BasicBlock) (o : Option State) → slice_get func.body.blocks n ≡ Some b
      → entry_at w.progress.joined_input n ≡ o
      → BlockAligned func.instructions b (slice_index_or w.recorded n None)
  aligned_at n b None there h = subst (BlockAligned func.instructions b) (sym (not_recorded n h))
      (all_skipped func.instructions b.1.instructions)
  aligned_at n b (Some s) there h = let r = recorded_there n b s there h in
      subst (BlockAligned func.instructions b) (sym r.is) r.says.instructions

  lookups : Paired (BlockLookups func.instructions (flat_map instructions_recorded w.recorded)) func.body.blocks
      w.recorded
  lookups =
      all_lookup func.instructions func.body.blocks w.recorded
      (paired_from (BlockAligned func.instructions) func.body.blocks w.recorded recorded_long
      (λ n b there. aligned_at n b (entry_at w.progress.joined_input n) there refl))
      listed_once

  -- ---- terminals

  none_past : (n m : ℕ) (s : State) (o : Option (BlockId × BasicBlock)) → (m ≡ n → ⊥) → slice_get func.body.blocks m ≡ o
      → entry_at w.progress.joined_input m ≡ Some s
      → NoneOf func.body.blocks n (terminal_recorded (slice_index_or w.recorded m None))
  none_past n m s None f at h = subst (λ r. NoneOf func.body.blocks n (terminal_recorded r))
      (sym (nothing_past m s at h)) tt
  none_past n m s (Some b) f at h =
      let r = recorded_there m b s at h in
      subst (λ o. NoneOf func.body.blocks n (terminal_recorded o)) (sym r.is)
      (subst (NoneOf func.body.blocks n) (sym r.says.end.is)
      (none_of_other func.body.blocks n m b.0 r.says.end.effects r.at f))

  others_end : (n m : ℕ) (o : Option State) → (m ≡ n → ⊥) → entry_at w.progress.joined_input m ≡ o
      → NoneOf func.body.blocks n (terminal_recorded (slice_index_or w.recorded m None))
  others_end n m None f h = subst (λ r. NoneOf func.body.blocks n (terminal_recorded r)) (sym (not_recorded m h)) tt
  others_end n m (Some s) f h = none_past n m s (slice_get func.body.blocks m) f refl h

  -- the block of the name carries what its own step recorded
  carries_own : (n : ℕ) (b : BlockId × BasicBlock) (r : Recorded n b) → slice_get func.body.blocks n ≡ Some b
      → value_at (recorded_terminals (flat_map terminal_recorded w.recorded) func.body.blocks) b.0
      ≡ Some (ends_for func.body.blocks n r.effects.terminal b.1)
  carries_own n b r there =
      named_end (flat_map terminal_recorded w.recorded) func.body.blocks n b there r.at
      ∙ ap (λ (z : BasicBlock). Some z) (ends_at func.body.blocks n w.recorded n b.1
      (λ m f. others_end n m (entry_at w.progress.joined_input m) f refl))
      ∙ ap (λ (o : Option BlockEffects). Some (ends_for func.body.blocks n (terminal_recorded o) b.1)) r.is

  -- ---- lines

  module _ (instructions : list_all instruction_is_uninferred func.instructions ≡ true)
      (terminals : list_all (λ (b : BlockId × BasicBlock). terminal_is_uninferred b.1.terminal) func.body.blocks
      ≡ true) where
    no_effects_yet : (n : ℕ) (b : BlockId × BasicBlock) → slice_get func.body.blocks n ≡ Some b
        → is_none (terminal_effects b.1.terminal) ≡ true
    no_effects_yet n b there =
        (both_true (is_none (terminal_effects b.1.terminal))
        (list_all place_is_uninferred (terminal_places b.1.terminal))
        (holds_at (λ (b : BlockId × BasicBlock). terminal_is_uninferred b.1.terminal) func.body.blocks n b terminals
        there)).0

    line_there : (n : ℕ) (b : BlockId × BasicBlock) (s : State) (r : Recorded n b) → slice_get func.body.blocks n
        ≡ Some b
        → cert_block (with_effects_of (solved_of func w) func) (record { block = b.0; state = s })
        ≡ said_block b.0 s r.effects
    line_there n b s r there =
        let gi = recorded_instructions (flat_map instructions_recorded w.recorded) func.instructions in
        let z = ends_for func.body.blocks n r.effects.terminal b.1 in
        let line = λ (es : List CertEffect) (ls : List (List ℕ)).
        let l : CertBlock = record {
          block = b.0;
          values = map said_value s.values;
          variables = map said_variable s.variables;
          effects = es;
          end = ls;
        } in l in
        let lookup = subst (BlockLookups func.instructions (flat_map instructions_recorded w.recorded) b) r.is
        (paired_at (BlockLookups func.instructions (flat_map instructions_recorded w.recorded)) lookups n b there) in
        ap (λ (o : Option BasicBlock). line (effects_in gi o) (ends_in o)) (carries_own n b r there)
        ∙ ap (λ (is : List InstructionId). line (flat_map (effects_of gi) is) (ends_in (Some z)))
        (ends_instructions func.body.blocks n r.effects.terminal b.1)
        ∙ ap (λ (es : List CertEffect). line es (ends_in (Some z)))
        (instruction_lines func.instructions (λ i x at.
        holds_at instruction_is_uninferred func.instructions i x instructions at)
        (flat_map instructions_recorded w.recorded) lookup)
        ∙ ap (λ (ls : List (List ℕ)). line (flat_map said_effects r.effects.instructions) ls)
        (terminal_lines func.body.blocks n b.0 b.1 r.at r.effects.terminal (no_effects_yet n b there) r.says.end)

    line_is : (n : ℕ) (b : BlockId × BasicBlock) (o : Option State) → slice_get func.body.blocks n ≡ Some b
        → entry_at w.progress.joined_input n ≡ o
        → LineIs (with_effects_of (solved_of func w) func) b o (slice_index_or w.recorded n None)
    line_is n b None there h = tt
    line_is n b (Some s) there h =
        let r = recorded_there n b s there h in
        subst (LineIs (with_effects_of (solved_of func w) func) b (Some s)) (sym r.is) (line_there n b s r there)

    pub prints : map (cert_block (with_effects_of (solved_of func w) func)) (solved_of func w).entries
        ≡ those_there (said_each func.body.blocks w.progress.joined_input w.recorded)
    prints =
        all_lines (with_effects_of (solved_of func w) func) func.body.blocks w.progress.joined_input w.recorded
        recorded_long
        (λ n b there. line_is n b (entry_at w.progress.joined_input n) there refl)
