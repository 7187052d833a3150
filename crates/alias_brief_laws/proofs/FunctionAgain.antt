-- A function is followed again by what is told of it.
use Rattle.std.specs.Prelude.{replicate, nat_lt, map, slice_get, slice_index_or, if◌then◌else◌, is_some}
use Rattle.std.proofs.Common.{◌≡◌, ℕ, zero, suc, ◌+◌, Bool, true, false, List, [], ◌∷◌, length, Option, Some}
use Rattle.std.proofs.Common.{None}
use Rattle.std.proofs.Common.{Result, Ok, refl, ap, sym, ◌∙◌, subst, arith}
use Rattle.std.proofs.lemmas.Bool.{le-ltb}
use Rattle.std.proofs.lemmas.List.{length-map, length-replicate}
use Rattle.alias_base.specs.Answer.{◌>>=◌}
use Rattle.alias_base.specs.Find.{value_at}
use Rattle.alias_base.specs.declared.ids.FunctionId.{FunctionId}
use Rattle.alias_hir.specs.declared.env.Environment.{Environment}
use Rattle.alias_hir.specs.declared.hir.HirFunction.{HirFunction}
use Rattle.alias_lattice.specs.JoinLaws.{state_laws}
use Rattle.alias_lattice.specs.ProperLaws.{proper-empty_state}
use Rattle.alias_lattice.specs.ProperStates.{StateProper}
use Rattle.alias_lattice.specs.States.{State, empty_state, state_join, state_below}
use Rattle.alias_flow.specs.Machine.{Rules, FlowLaws}
use Rattle.alias_flow.specs.Runs.{solver_state}
use Rattle.alias_flow.proofs.check.Marks.{marked_is_reached}
use Rattle.alias_tables.specs.GrowingLaws.{Extends}
use Rattle.alias_tables.specs.Tables.{TableLists}
use Rattle.alias_tables.specs.write_back.WriteBack.{tables_of}
use Rattle.alias_step.specs.block.Contexts.{context_of}
use Rattle.alias_step.specs.declared.block.faults.BlockRefusal.{BlockRefusal}
use Rattle.alias_step.specs.declared.block.recorded.BlockEffects.{BlockEffects}
use Rattle.alias_effects.specs.PassLaws.{pass_laws}
use Rattle.alias_effects.specs.declared.solved.Solved.{Solved}
use Rattle.alias_nested.specs.Created.{created_functions}
use Rattle.alias_certificate.specs.declared.beyond.Beyond.{Beyond}
use Rattle.alias_certificate.specs.declared.certificate.CertBlock.{CertBlock}
use Rattle.alias_certificate.specs.declared.certificate.CertFunction.{CertFunction}
use Rattle.alias_certificate.specs.declared.fault.CheckFault.{CheckFault}
use Rattle.alias_cert.specs.function.Temporaries.{temporaries_stated}
use Rattle.alias_cert.proofs.Running.{after}
use Rattle.alias_passage.specs.Passes.{Passing, passage_begun, flow_passed}
use Rattle.alias_follow.specs.declared.function.follow.FunctionBeyond.{FunctionBeyond}
use Rattle.alias_follow.specs.declared.function.follow.FunctionEnd.{FunctionEnd}
use Rattle.alias_follow.specs.declared.lines.entering.Unfollowed.{Unfollowed}
use Rattle.alias_follow.specs.declared.lines.entering.Unfollowed.TheVariants as unfollowed
use Rattle.alias_follow.specs.function.Faults.{faulted}
use Rattle.alias_follow.specs.function.Functions.{flow_rules, is_forward, marks, steps_followed, followed_end}
use Rattle.alias_follow.specs.function.Functions.{function_followed}
use Rattle.alias_follow.specs.function.Givens.{kept, limit, lacking, blocks_given, temporaries_given, tables_begun}
use Rattle.alias_follow.specs.function.Givens.{entering}
use Rattle.alias_follow.specs.lines.Entering.{entered_by}
use Rattle.alias_follow.specs.lines.First.{first_lines, line_at}
use Rattle.alias_follow.specs.lines.Known.{AreKnown, AreLinesKnown}
use Rattle.alias_follow.proofs.function.Answering.{unfaulted}
use Rattle.alias_brief_laws.proofs.Entered.{Enters, enters}
use Rattle.alias_brief_laws.proofs.Lines.{AreTold, TellsAt, position_told}
use Rattle.alias_brief_laws.proofs.Marking.{beyond_at}
use Rattle.alias_brief_laws.proofs.PassedAgain.{Ends, pass_ends}
use Rattle.alias_brief_laws.proofs.Reached.{reached_first}
use Rattle.alias_brief_laws.proofs.Temporaries.{told_temporary, AllMore, all_more, no_longer}

-- what is told of a function of which this was handed out
pub record IsTold (o : Option CertFunction) (s : Solved) (m : FunctionBeyond) : Type 0 where
  pub said : CertFunction
  pub is : o ≡ Some said
  pub blocks : AreTold said.blocks m.blocks s.entries
  pub temporaries : m.is_forward ≡ false → said.temporaries ≡ map told_temporary s.temporaries

-- ---- lines that are known

line_known : (cs : List CertBlock) (n : ℕ) (d : CertBlock) → AreLinesKnown cs → slice_get cs n ≡ Some d
    → AreKnown d.values
line_known [] n d a e = cc
line_known (c ∷ cs) zero d a e = let same : c ≡ d = cc in subst (λ (z : CertBlock). AreKnown z.values) same a.0
line_known (c ∷ cs) (suc n) d a e = line_known cs n d a.1 e

numbered_known : (cs : List CertBlock) (o : Option ℕ) (d : CertBlock) → AreLinesKnown cs → line_at cs o ≡ Some d
    → AreKnown d.values
numbered_known cs None d a e = cc
numbered_known cs (Some n) d a e = line_known cs n d a e

nothing_lacks : (n : ℕ) (t : TableLists) (b : Bool) → nat_lt n (length t.temporaries) ≡ b
    → ◌≡◌ {A = Option Unfollowed} (if b then Some unfollowed.MissingTemporary else None) None
    → nat_lt n (length t.temporaries) ≡ false
nothing_lacks n t false is h = is
nothing_lacks n t true is h = cc

-- ---- the function

module _ (id : Option FunctionId) (env : Environment) (f : HirFunction) (b : Bool) where
  abbrev rules : Rules State TableLists BlockEffects BlockRefusal
  rules = flow_rules None id env f b

  abbrev nothing : List (Option BlockEffects)
  nothing = replicate (length f.body.blocks) None

  abbrev passed_by : Option CertFunction → Option ℕ → TableLists
      → Result (Passing State Beyond TableLists BlockEffects) CheckFault
  passed_by given most tables =
      faulted id env f.body.blocks (flow_passed state_join state_below empty_state rules (entering given id env f)
      unfollowed.State (lacking most) (marks None id env f b) tables nothing)

  ended : Passing State Beyond TableLists BlockEffects → Result FunctionEnd CheckFault
  ended w = Ok (followed_end None id env f b w)

  -- what follows, where this is kept
  followed_by : Option CertFunction → Option ℕ → Result FunctionEnd CheckFault
  followed_by given most = tables_begun given id env f >>= (λ tables. passed_by given most tables >>= ended)

  as_kept : (given : Option CertFunction) (t : Bool) → is_forward given id env f b ≡ t
      → function_followed given id env f b ≡ followed_by (kept t given) (limit t given)
  unfolding followed_by ended
  as_kept given t is = ap (λ z. followed_by (kept z given) (limit z given)) is

  module _ (there : is_some (value_at f.body.blocks f.body.entry) ≡ true) (given : Option CertFunction)
      (said : CertFunction)
      (known : AreLinesKnown (blocks_given given)) (e : FunctionEnd) (tables : TableLists)
      (w : Passing State Beyond TableLists BlockEffects)
      (begun : tables_begun given id env f ≡ Ok tables)
      (passed : flow_passed state_join state_below empty_state rules (entering given id env f) unfollowed.State
      (lacking (Some (length (temporaries_given given)))) (marks None id env f b) tables nothing ≡ Ok w)
      (ends : followed_end None id env f b w ≡ e)
      (blocks : AreTold said.blocks e.beyond.blocks e.end.solved.entries)
      (temporaries : said.temporaries ≡ map told_temporary e.end.solved.temporaries) where
    abbrev own_laws : FlowLaws StateProper Extends rules nothing
    own_laws = pass_laws (context_of env f b) there nothing (length-replicate (length f.body.blocks) None)

    abbrev count : ℕ
    count = length (temporaries_given given)

    made : AllMore id env (temporaries_given given) (tables_of env) tables
    made = all_more id env (temporaries_given given) (tables_of env) tables tt begun

    many : length tables.temporaries ≡ count
    many = ap length made.is ∙ sym (length-map made.new told_temporary) ∙ ap length made.told

    enters_at : (q : ℕ) (x s : State) (m : Beyond) → StateProper x → entering given id env f q x ≡ Some (s, m)
        → Enters (length env.identifiers + count) (created_functions f) x s m
    enters_at q x s m h is =
        let numbers = first_lines (blocks_given given) f.body.blocks in
        enters (length env.identifiers + count) (created_functions f)
        (line_at (blocks_given given) (slice_index_or numbers q None)) x s m
        (λ c at. numbered_known (blocks_given given) (slice_index_or numbers q None) c known at) h is

    lacks_none : lacking (Some count) tables ≡ None
    lacks_none =
        let few : nat_lt count (length tables.temporaries) ≡ false =
        le-ltb count (length tables.temporaries) (let m = many in omega arith) in
        ap (λ z. if z then Some unfollowed.MissingTemporary else None) few

    run : Ends state_join state_below empty_state rules unfollowed.State (lacking (Some count)) (marks None id env f b)
        state_laws own_laws proper-empty_state (entering given id env f)
        (λ q x s m h is. (enters_at q x s m h is).is_proper) tables 0 rules.blocks
        (solver_state (passage_begun state_join rules) tables nothing) w
    run = pass_ends state_join state_below empty_state rules unfollowed.State (lacking (Some count))
        (marks None id env f b) state_laws own_laws proper-empty_state (entering given id env f)
        (λ q x s m h is. (enters_at q x s m h is).is_proper) tables w lacks_none passed

    same_temporaries : w.tables.temporaries ≡ tables.temporaries
    same_temporaries =
        no_longer tables.temporaries run.tables.temporaries.more w.tables.temporaries run.tables.temporaries.is
        (ap (λ n. nat_lt n (length w.tables.temporaries)) many
        ∙ nothing_lacks count w.tables (nat_lt count (length w.tables.temporaries)) refl run.lacks_none)

    said_temporaries : said.temporaries ≡ temporaries_given given
    said_temporaries =
        temporaries
        ∙ ap (λ (z : FunctionEnd). map told_temporary z.end.solved.temporaries) (sym ends)
        ∙ ap (map told_temporary) (same_temporaries ∙ made.is) ∙ made.told

    told_at : (q : ℕ) (m : Beyond) → slice_index_or (marks None id env f b) q false ≡ true
        → beyond_at w.progress.entries w.progress.beyond q ≡ Some m
        → TellsAt said.blocks (first_lines said.blocks f.body.blocks) q m
    told_at q m marked at = position_told f.body.blocks w.progress.entries w.progress.beyond said.blocks
        (subst (λ (z : FunctionEnd). AreTold said.blocks z.beyond.blocks z.end.solved.entries) (sym ends) blocks)
        run.long q m (reached_first f env b there q (marked_is_reached own_laws q marked)) at

    enters_too : (q : ℕ) (x s : State) (m : Beyond) → slice_index_or (marks None id env f b) q false ≡ true
        → StateProper x → entering given id env f q x ≡ Some (s, m)
        → beyond_at w.progress.entries w.progress.beyond q ≡ Some m
        → entering (Some said) id env f q x ≡ Some (s, m)
    enters_too q x s m marked h is at =
        let told = told_at q m marked at in
        ap (λ o. entered_by (length env.identifiers + length said.temporaries) (created_functions f) o x) told.is
        ∙ ap (λ cs. entered_by (length env.identifiers + length cs) (created_functions f) (Some told.line) x)
        said_temporaries
        ∙ (enters_at q x s m h is).again told.line told.says

    passed_too : passed_by (Some said) (Some (length said.temporaries)) tables ≡ Ok w
    passed_too =
        ap (λ cs. passed_by (Some said) (Some (length cs)) tables) said_temporaries
        ∙ ap (faulted id env f.body.blocks) (run.again (entering (Some said) id env f) enters_too)

    followed_too : followed_by (Some said) (Some (length said.temporaries)) ≡ Ok e
    unfolding followed_by ended
    followed_too =
        ap (λ r. r >>= (λ t. passed_by (Some said) (Some (length said.temporaries)) t >>= ended))
        (ap (λ cs. temporaries_stated id env cs (tables_of env)) said_temporaries ∙ begun)
        ∙ ap (λ r. r >>= ended) passed_too ∙ ap Ok ends

  module _ (there : is_some (value_at f.body.blocks f.body.entry) ≡ true) (given also : Option CertFunction)
      (e : FunctionEnd) (told : IsTold also e.end.solved e.beyond) where
    ended_forward : function_followed given id env f b ≡ Ok e → e.beyond.is_forward ≡ is_forward None id env f b
    ended_forward h =
        let a = after (tables_begun (kept (is_forward given id env f b) given) id env f) _ e h in
        let s = after (steps_followed given id env f b a.was) _ e a.then_is in
        let same : followed_end given id env f b s.was ≡ e = cc in
        ap (λ (z : FunctionEnd). z.beyond.is_forward) (sym same)

    with_loops : AreLinesKnown (blocks_given given) → e.beyond.is_forward ≡ false
        → followed_by given (Some (length (temporaries_given given))) ≡ Ok e
        → followed_by also (Some (length (temporaries_given also))) ≡ Ok e
    unfolding followed_by ended
    with_loops known loops h =
        let most = Some (length (temporaries_given given)) in
        let a = after (tables_begun given id env f) (λ t. passed_by given most t >>= ended) e h in
        let s = after (passed_by given most a.was) ended e a.then_is in
        let same : followed_end None id env f b s.was ≡ e = cc in
        let passed = unfaulted id env f.body.blocks (flow_passed state_join state_below empty_state rules
        (entering given id env f) unfollowed.State (lacking most) (marks None id env f b) a.was nothing) s.was s.first
        in
        subst (λ z. followed_by z (Some (length (temporaries_given z))) ≡ Ok e) (sym told.is)
        (followed_too there given told.said known e a.was s.was a.first passed same told.blocks
        (told.temporaries loops))

    by_forward : (t : Bool) → is_forward None id env f b ≡ t → AreLinesKnown (blocks_given (kept t given))
        → function_followed given id env f b ≡ Ok e → function_followed also id env f b ≡ Ok e
    by_forward true is known h = as_kept also true is ∙ sym (as_kept given true is) ∙ h
    by_forward false is known h =
        as_kept also false is
        ∙ with_loops known (ended_forward h ∙ is) (sym (as_kept given false is) ∙ h)

    kept_known : AreLinesKnown (blocks_given given) → (t : Bool) → AreLinesKnown (blocks_given (kept t given))
    kept_known known true = tt
    kept_known known false = known

    pub function_again : AreLinesKnown (blocks_given given) → function_followed given id env f b ≡ Ok e
        → function_followed also id env f b ≡ Ok e
    function_again known h =
        by_forward (is_forward None id env f b) refl (kept_known known (is_forward None id env f b)) h
