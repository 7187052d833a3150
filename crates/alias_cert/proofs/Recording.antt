-- The inference takes a checked function again, with what its steps record, in the environment that took over what they
-- added.
use Rattle.std.specs.Prelude.{slice_get, replicate}
use Rattle.std.proofs.Common.{◌≡◌, ℕ, ◌+◌, ◌<◌, zero, suc, Bool, true, false, ◌&&◌, ◌==◌, if◌then◌else◌, List, [], ◌∷◌}
use Rattle.std.proofs.Common.{◌++◌, length, Option, Some, None, Result, Ok, Err, refl, sym, subst, arith}
use Rattle.alias_base.specs.declared.ids.BlockId.{BlockId}
use Rattle.alias_base.specs.declared.ids.FunctionId.{FunctionId}
use Rattle.alias_hir.specs.declared.env.Environment.{Environment}
use Rattle.alias_hir.specs.declared.hir.HirFunction.{HirFunction}
use Rattle.alias_hir.specs.declared.place.Place.{Place}
use Rattle.alias_hir.specs.Positions.{Blocks}
use Rattle.alias_rules.specs.Fitting.{function_fits}
use Rattle.alias_fitting_laws.specs.bare.BareLaws.{bare_of_effects}
use Rattle.alias_fitting_laws.specs.bare.RangedLaws.{evolves_with_contexts}
use Rattle.alias_lattice.specs.ProperStates.{StateProper}
use Rattle.alias_lattice.specs.States.{State, state_join, state_below}
use Rattle.alias_flow.specs.RecordingLaws.{HoldsOf, AllHold}
use Rattle.alias_flow.specs.Solutions.{entry_at}
use Rattle.alias_flow.specs.check.Checks.{Arriving, solution_checked}
use Rattle.alias_tables.specs.Tables.{TableLists, temporary}
use Rattle.alias_tables.specs.declared.faults.Refusal.{Refusal}
use Rattle.alias_tables.specs.declared.faults.Refusal.TheVariants as refused
use Rattle.alias_step_laws.specs.steps.FunctionSites.{StateHas}
use Rattle.alias_step_laws.specs.steps.TableLaws.{within_temporary}
use Rattle.alias_step_laws.specs.steps.Within.{FunctionWithin, TablesWithin}
use Rattle.alias_step.specs.declared.block.recorded.BlockEffects.{BlockEffects}
use Rattle.alias_step_laws.specs.blocks.BlockLaws.{BlockEffectsWithin, StateWithin}
use Rattle.alias_step_laws.specs.blocks.WrittenLaws.{tables_extended}
use Rattle.alias_tables.specs.write_back.WriteBack.{tables_of}
use Rattle.alias_effects.specs.Inference.{entries_of, end_tables, env_after}
use Rattle.alias_effects.specs.Recording.{with_effects_of}
use Rattle.alias_effects.specs.declared.output.PassEnd.{PassEnd}
use Rattle.alias_effects.specs.declared.solved.BlockEntry.{BlockEntry}
use Rattle.alias_effects.proofs.RecordedDiffers.{recorded_differs}
use Rattle.alias_effects.proofs.StillFits.{begun_within, none_hold, position_within, recorded_fits}
use Rattle.alias_nested.specs.Created.{created_functions}
use Rattle.alias_nested.specs.Fitting.{FunctionKept}
use Rattle.alias_nested.proofs.Evolving.{passed_contexts}
use Rattle.alias_certificate.specs.declared.certificate.CertBlock.{CertBlock}
use Rattle.alias_certificate.specs.declared.certificate.CertFunction.{CertFunction}
use Rattle.alias_certificate.specs.declared.certificate.CertTemporary.{CertTemporary}
use Rattle.alias_certificate.specs.declared.fault.CheckFault.{CheckFault}
use Rattle.alias_certificate.specs.declared.fault.CheckFault.TheVariants as fault
use Rattle.alias_certificate.specs.states.States.{stated_state}
use Rattle.alias_cert.specs.function.Claims.{differs}
use Rattle.alias_cert.specs.function.Entries.{state_or_fault, line_state, entry_stated, entries_stated}
use Rattle.alias_cert.specs.function.Functions.{marked_positions, flow_rules, marks, numbers, lines_checked}
use Rattle.alias_cert.specs.function.Functions.{entries_checked, steps_checked, checked_end, function_solved}
use Rattle.alias_cert.specs.function.Temporaries.{is_key_there, next_number, given, temporary_stated}
use Rattle.alias_cert.specs.function.Temporaries.{temporaries_stated}
use Rattle.alias_cert.proofs.function.Answering.{unfaulted}
use Rattle.alias_cert.specs.Known.{AreKnown}
use Rattle.alias_cert.proofs.Running.{after, check_stands}
use Rattle.alias_cert.proofs.Stated.{stated_has, created_within}

-- ---- temporaries that are said

module _ (function : Option FunctionId) (env : Environment) where
  given_one : (c : CertTemporary) (t u v : TableLists) (p : Place) (b : Bool) → temporary env c.key None t ≡ Ok (p, v)
      → TablesWithin env t → ◌≡◌ {A = Result TableLists CheckFault}
      (if b then Ok v else Err (fault.Temporaries function)) (Ok u) → TablesWithin env u
  given_one c t u v p true is h e = let same : v ≡ u = cc in
      subst (TablesWithin env) same ((within_temporary env c.key None t h).leads v p is).tables
  given_one c t u v p false is h e = cc

  given_within : (c : CertTemporary) (t u : TableLists) (r : Result (Place × TableLists) Refusal)
      → temporary env c.key None t ≡ r → TablesWithin env t → given function env c.identifier.0 r ≡ Ok u
      → TablesWithin env u
  given_within c t u (Ok r) is h e = given_one c t u r.1 r.0 (r.0.identifier.0 == c.identifier.0) is h e
  given_within c t u (Err (refused.TooMany which)) is h e = cc
  given_within c t u (Err x) is h e = cc

  stated_at : (c : CertTemporary) (t u : TableLists) (b : Bool) → TablesWithin env t
      → ◌≡◌ {A = Result TableLists CheckFault}
      (if b then given function env c.identifier.0 (temporary env c.key None t)
      else Err (fault.Temporaries function)) (Ok u) → TablesWithin env u
  stated_at c t u true h e = given_within c t u (temporary env c.key None t) refl h e
  stated_at c t u false h e = cc

  pub temporaries_within : (cs : List CertTemporary) (t u : TableLists) → TablesWithin env t
      → temporaries_stated function env cs t ≡ Ok u → TablesWithin env u
  temporaries_within [] t u h e = let same : t ≡ u = cc in subst (TablesWithin env) same h
  temporaries_within (c ∷ cs) t u h e =
      let a = after (temporary_stated function env c t) (temporaries_stated function env cs) u e in
      temporaries_within cs a.was u (stated_at c t a.was
      (is_key_there (next_number function env t) (length env.functions) c.key
      && c.identifier.0 == next_number function env t) h a.first) a.then_is

-- ---- entry states that are said

module _ (P : State → Type 0) (function : Option FunctionId) (identifiers : ℕ) (ids : List FunctionId)
    (lines : List CertBlock) (each : (c : CertBlock) (s : State) → stated_state identifiers ids c ≡ Some s → P s) where
  state_holds : (b : BlockId) (c : CertBlock) (o e : Option State) → stated_state identifiers ids c ≡ o
      → state_or_fault function identifiers ids lines b o ≡ Ok e → HoldsOf P e
  state_holds b c None e is h = cc
  state_holds b c (Some s) e is h = let same : Some s ≡ e = cc in subst (HoldsOf P) same (each c s is)

  line_holds : (o : Option CertBlock) (e : Option State) → line_state function identifiers ids lines o ≡ Ok e
      → HoldsOf P e
  line_holds None e h = let same : None ≡ e = cc in subst (HoldsOf P) same tt
  line_holds (Some c) e h = state_holds c.block c (stated_state identifiers ids c) e refl h

  entry_holds : (n : Option ℕ) (e : Option State) → entry_stated function identifiers ids lines n ≡ Ok e → HoldsOf P e
  entry_holds None e h = let same : None ≡ e = cc in subst (HoldsOf P) same tt
  entry_holds (Some n) e h = line_holds (slice_get lines n) e h

  all_append : (xs : List (Option State)) (x : Option State) → AllHold P xs → HoldsOf P x → AllHold P (xs ++ x ∷ [])
  all_append [] x a h = (h, tt)
  all_append (y ∷ ys) x a h = (a.0, all_append ys x a.1 h)

  entries_hold : (done : List (Option State)) (ns : List (Option ℕ)) (entries : List (Option State)) → AllHold P done
      → entries_stated function identifiers ids lines done ns ≡ Ok entries → AllHold P entries
  entries_hold done [] entries a h = let same : done ≡ entries = cc in subst (AllHold P) same a
  entries_hold done (n ∷ ns) entries a h =
      let e = after (entry_stated function identifiers ids lines n)
      (λ x. entries_stated function identifiers ids lines (done ++ x ∷ []) ns) entries h in
      entries_hold (done ++ e.was ∷ []) ns entries (all_append done e.was a (entry_holds n e.was e.first)) e.then_is

holds_at : {X : Type 0} (P : X → Type 0) (xs : List (Option X)) (n : ℕ) (x : X) → AllHold P xs → entry_at xs n ≡ Some x
    → P x
holds_at P [] n x a e = cc
holds_at P (None ∷ ys) zero x a e = cc
holds_at P (Some y ∷ ys) zero x a e = let same : y ≡ x = cc in subst P same a.0
holds_at P (y ∷ ys) (suc n) x a e = holds_at P ys n x a.1 e

-- those that are handed out are those of the blocks
handed_out : (bs : Blocks) (xs : List (Option State)) → AreKnown (entries_of bs xs) → (n : ℕ) (s : State) → n
    < length bs → entry_at xs n ≡ Some s → StateProper s
handed_out [] xs k n s lt e = absurd (omega arith)
handed_out (b ∷ bs) [] k n s lt e = cc
handed_out (b ∷ bs) (None ∷ xs) k zero s lt e = cc
handed_out (b ∷ bs) (None ∷ xs) k (suc n) s lt e = handed_out bs xs k n s (omega arith) e
handed_out (b ∷ bs) (Some x ∷ xs) k zero s lt e = let same : x ≡ s = cc in
    subst StateProper same (k 0 (record { block = b.0; state = x }) refl)
handed_out (b ∷ bs) (Some x ∷ xs) k (suc n) s lt e = handed_out bs xs (λ i y at. k (suc i) y at) n s (omega arith) e

-- ---- a checked function

module _ (c : CertFunction) (env : Environment) (f : HirFunction) (b : Bool) (fits : function_fits f env ≡ true) where
  module _ (entries : List (Option State)) (w : Arriving State TableLists BlockEffects) (e : PassEnd)
      (ended : checked_end c env f b entries w ≡ e) (tables : TableLists)
      (said : entries_checked c env f b ≡ Ok entries)
      (stated_tables : temporaries_stated c.function env c.temporaries (tables_of env) ≡ Ok tables)
      (stepped : steps_checked c env f b entries tables ≡ Ok w) (known : AreKnown e.solved.entries) where
    known_there : AreKnown (entries_of f.body.blocks entries)
    known_there = subst (λ (z : PassEnd). AreKnown z.solved.entries) (sym ended) known

    functions_there : AllHold (StateHas (FunctionWithin env)) entries
    functions_there =
        entries_hold (StateHas (FunctionWithin env)) c.function (length env.identifiers + length c.temporaries)
        (created_functions f) c.blocks
        (stated_has (FunctionWithin env) (length env.identifiers + length c.temporaries) (created_functions f)
        (created_within f env b fits)) [] (numbers c env f b) entries tt said

    entered : (n : ℕ) (s : State) → n < length f.body.blocks → entry_at entries n ≡ Some s → StateWithin env s
    entered n s lt is = (
      handed_out f.body.blocks entries known_there n s lt is,
      holds_at (StateHas (FunctionWithin env)) entries n s functions_there is,
    )

    begun : TablesWithin env tables
    begun = temporaries_within c.function env c.temporaries (tables_of env) tables (begun_within f env b fits)
        stated_tables

    ran : TablesWithin env w.tables × AllHold (BlockEffectsWithin env w.tables) w.recorded
    ran =
        let r = check_stands state_join state_below (flow_rules c env f b)
        (differs c.blocks (numbers c env f b) (length c.temporaries)) entries (TablesWithin env) (StateWithin env)
        (BlockEffectsWithin env) entered
        (λ t n x y u k i g s. position_within f env b fits n t x y u k i g s) tables
        (replicate (length f.body.blocks) None) w begun
        (none_hold (BlockEffectsWithin env tables) (length f.body.blocks))
        (unfaulted c.function env f.body.blocks
        (solution_checked state_join state_below (flow_rules c env f b)
        (differs c.blocks (numbers c env f b) (length c.temporaries)) entries tables
        (replicate (length f.body.blocks) None)) w stepped) in
        (r.tables, r.recorded)

    tables_there : TablesWithin env (end_tables e)
    tables_there = subst (λ (z : PassEnd). TablesWithin env (end_tables z)) ended ran.0

    kept : FunctionKept f env (with_effects_of e.solved f) (env_after env e)
    kept = record {
      evolves = evolves_with_contexts env (env_after env e) (tables_extended env (end_tables e) tables_there).wider
          (passed_contexts env e);
      still = sym (bare_of_effects f (with_effects_of e.solved f) (recorded_differs e.solved f));
      fits = subst (λ (z : PassEnd). function_fits (with_effects_of z.solved f) (env_after env z) ≡ true) ended
          (recorded_fits f env b fits (record {
            progress =
                record { visits = marked_positions 0 (marks c env f b); joined_input = entries; last_input = [] };
            tables = w.tables;
            recorded = w.recorded;
          }) ran);
    }

  -- what is handed out of a function, where its entry states are proper
  checked_keeps : (e : PassEnd) → function_solved c env f b ≡ Ok e → AreKnown e.solved.entries
      → FunctionKept f env (with_effects_of e.solved f) (env_after env e)
  checked_keeps e h known =
      let lines = after (lines_checked c env f b) _ e h in
      let said = after (entries_checked c env f b) _ e lines.then_is in
      let named = after (temporaries_stated c.function env c.temporaries (tables_of env)) _ e said.then_is in
      let steps = after (steps_checked c env f b said.was named.was) _ e named.then_is in
      let ended : checked_end c env f b said.was steps.was ≡ e = cc in
      kept said.was steps.was e ended named.was said.first named.first steps.first known

  -- the same of a function and an environment that got it
  pub left_kept : (e : PassEnd) (es : List BlockEntry) (g : HirFunction) (after : Environment)
      → function_solved c env f b ≡ Ok e → es ≡ e.solved.entries → AreKnown es → g ≡ with_effects_of e.solved f → after
      ≡ env_after env e → FunctionKept f env g after
  left_kept e es g after h same known made left =
      subst (λ v. FunctionKept f env g v) (sym left)
      (subst (λ z. FunctionKept f env z (env_after env e)) (sym made)
      (checked_keeps e h (subst AreKnown same known)))
