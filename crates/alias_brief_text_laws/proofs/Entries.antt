-- What a function's entry states have beyond what arrived is noted of these states.
use Rattle.std.proofs.Common.{◌≡◌, ℕ, zero, suc, ◌+◌, ◌<◌, ◌⊎◌, inl, inr, Bool, true, false, List, [], ◌∷◌, length}
use Rattle.std.proofs.Common.{Option}
use Rattle.std.proofs.Common.{Some, None, Result, Ok, Err, refl, ap, sym, ◌∙◌, subst, arith, replicate, option_map}
use Rattle.std.proofs.Common.{if◌then◌else◌}
use Rattle.std.specs.Prelude.{slice_get, slice_index_or}
use Rattle.std.specs.List.{AllByRecursion}
use Rattle.alias_base.specs.Answer.{◌>>=◌}
use Rattle.alias_base.specs.declared.ids.FunctionId.{FunctionId}
use Rattle.alias_hir.specs.Positions.{Blocks}
use Rattle.alias_hir.specs.declared.env.Environment.{Environment}
use Rattle.alias_hir.specs.declared.hir.HirFunction.{HirFunction}
use Rattle.alias_lattice.specs.States.{State, empty_state, state_join, state_below}
use Rattle.alias_flow.specs.Solutions.{entry_at}
use Rattle.alias_flow.specs.declared.check.fault.Unsolved.{Unsolved}
use Rattle.alias_step.specs.declared.block.faults.BlockRefusal.{BlockRefusal}
use Rattle.alias_step.specs.declared.block.recorded.BlockEffects.{BlockEffects}
use Rattle.alias_tables.specs.Tables.{TableLists}
use Rattle.alias_effects.specs.Inference.{entries_of}
use Rattle.alias_effects.specs.declared.solved.BlockEntry.{BlockEntry}
use Rattle.alias_certificate.specs.declared.beyond.Beyond.{Beyond}
use Rattle.alias_certificate.specs.declared.certificate.CertBlock.{CertBlock}
use Rattle.alias_certificate.specs.declared.certificate.CertFunction.{CertFunction}
use Rattle.alias_certificate.specs.declared.fault.CheckFault.{CheckFault}
use Rattle.alias_certificate.specs.states.Beyond.{beyond_of, nothing_beyond}
use Rattle.alias_certificate.specs.states.Raised.{raised_state}
use Rattle.alias_follow.specs.declared.function.follow.FunctionEnd.{FunctionEnd}
use Rattle.alias_follow.specs.declared.lines.entering.Unfollowed.{Unfollowed}
use Rattle.alias_follow.specs.declared.lines.entering.Unfollowed.TheVariants as unfollowed
use Rattle.alias_follow.specs.function.Faults.{faulted}
use Rattle.alias_follow.specs.function.Functions.{flow_rules, is_forward, marks, steps_followed, followed_end}
use Rattle.alias_follow.specs.function.Functions.{function_followed}
use Rattle.alias_follow.specs.function.Givens.{kept, limit, lacking, blocks_given, temporaries_given, tables_begun}
use Rattle.alias_follow.specs.function.Givens.{entering}
use Rattle.alias_follow.specs.lines.Entering.{is_bare, entered_by}
use Rattle.alias_follow.specs.lines.First.{first_lines, line_at}
use Rattle.alias_nested.specs.Created.{created_functions}
use Rattle.alias_passage.specs.Passes.{Passing, flow_passed}
use Rattle.alias_brief_text_laws.proofs.Noting.{not_error, ok_same, after, all_map, Noted, pass_notes}

-- nothing, or what the state has beyond another
abbrev Comes : State → Beyond → Type 0
Comes s m = (m ≡ nothing_beyond) ⊎ ((old : State) × (m ≡ beyond_of s old))

-- a state, and what it has beyond what arrived
abbrev with_more : State → Beyond → State × Beyond
with_more s m = (s, m)

both_same : (s t : State) (m n : Beyond) → Some (with_more s m) ≡ Some (with_more t n) → (s ≡ t) × (m ≡ n)
both_same s t m n h =
    let same : with_more s m ≡ with_more t n = cc in
    (ap (λ (z : State × Beyond). z.0) same, ap (λ (z : State × Beyond). z.1) same)

raised_comes : (bare : Bool) (raised : Option State) (x s : State) (m : Beyond)
    → (if bare then Some (with_more x nothing_beyond) else option_map (λ (r : State). with_more r (beyond_of r x)) raised)
    ≡ Some (with_more s m) → Comes s m
raised_comes true raised x s m h = let both = both_same x s nothing_beyond m h in inl (sym both.1)
raised_comes false None x s m h = cc
raised_comes false (Some r) x s m h = let both = both_same r s (beyond_of r x) m h in
    inr (x, sym both.1 ∙ ap (λ z. beyond_of z x) both.0)

entered_comes : (identifiers : ℕ) (created : List FunctionId) (o : Option CertBlock) (x s : State) (m : Beyond)
    → entered_by identifiers created o x ≡ Some (with_more s m) → Comes s m
entered_comes identifiers created None x s m h = let both = both_same x s nothing_beyond m h in inl (sym both.1)
entered_comes identifiers created (Some c) x s m h =
    raised_comes (is_bare c) (raised_state identifiers created c x) x s m h

-- nothing, or what the state of one of these entries has beyond another
abbrev pub OfEntry : List BlockEntry → Beyond → Type 0
OfEntry es m = (m ≡ nothing_beyond)
    ⊎ ((i : ℕ) × (e : BlockEntry) × (old : State) × (slice_get es i ≡ Some e) × (m ≡ beyond_of e.state old))

-- the entry with a state
record WithState (es : List BlockEntry) (s : State) : Type 0 where
  position : ℕ
  entry : BlockEntry
  is : slice_get es position ≡ Some entry
  state : entry.state ≡ s

in_entries : (bs : Blocks) (xs : List (Option State)) (b : ℕ) (s : State) → b < length bs → entry_at xs b ≡ Some s
    → WithState (entries_of bs xs) s
in_entries [] xs b s lt is = let no : ⊥ = omega (arith, lt) in absurd no
in_entries (c ∷ bs) [] b s lt is = cc
in_entries (c ∷ bs) (None ∷ xs) zero s lt is = cc
in_entries (c ∷ bs) (None ∷ xs) (suc b) s lt is = in_entries bs xs b s (omega (arith, lt)) is
in_entries (c ∷ bs) (Some x ∷ xs) zero s lt is = let same : x ≡ s = cc in
    record { position = 0; entry = record { block = c.0; state = x }; is = refl; state = same }
in_entries (c ∷ bs) (Some x ∷ xs) (suc b) s lt is =
    let r = in_entries bs xs b s (omega (arith, lt)) is in
    record { position = suc r.position; entry = r.entry; is = r.is; state = r.state }

of_state : (es : List BlockEntry) (s : State) (m : Beyond) → WithState es s → Comes s m → OfEntry es m
of_state es s m w (inl nothing) = inl nothing
of_state es s m w (inr some) =
    inr (w.position, w.entry, some.0, w.is, some.1 ∙ ap (λ z. beyond_of z some.0) (sym w.state))

unfaulted : {A : Type 0} (id : Option FunctionId) (env : Environment) (bs : Blocks)
    (r : Result A (Unsolved BlockRefusal Unfollowed)) (x : A) → faulted id env bs r ≡ Ok x → r ≡ Ok x
unfaulted id env bs (Ok y) x h = let same : y ≡ x = cc in ap Ok same
unfaulted id env bs (Err e) x h = not_error _ x h

module _ (given : Option CertFunction) (id : Option FunctionId) (env : Environment) (f : HirFunction)
    (is_function_expression : Bool) where
  abbrev forward : Bool
  forward = is_forward given id env f is_function_expression

  abbrev enter : ℕ → State → Option (State × Beyond)
  enter = entering (kept forward given) id env f

  enters : (b : ℕ) (x s : State) (m : Beyond) → enter b x ≡ Some (s, m) → Comes s m
  enters b x s m h =
      let lines = blocks_given (kept forward given) in
      entered_comes (length env.identifiers + length (temporaries_given (kept forward given))) (created_functions f)
      (line_at lines (slice_index_or (first_lines lines f.body.blocks) b None)) x s m h

  abbrev lacks : TableLists → Option Unfollowed
  lacks = lacking (limit forward given)

  notes : (tables : TableLists) (w : Passing State Beyond TableLists BlockEffects)
      → steps_followed given id env f is_function_expression tables ≡ Ok w
      → AllByRecursion (OfEntry (entries_of f.body.blocks w.progress.entries)) w.progress.beyond
  notes tables w h =
      let rules = flow_rules given id env f is_function_expression in
      let es = entries_of f.body.blocks w.progress.entries in
      let nothing : List (Option BlockEffects) = replicate (length f.body.blocks) None in
      let passes = unfaulted id env f.body.blocks
      (flow_passed state_join state_below empty_state rules enter unfollowed.State lacks
      (marks given id env f is_function_expression) tables nothing) w h in
      all_map
      (Noted state_join state_below empty_state rules enter unfollowed.State lacks Comes enters (length f.body.blocks)
      w.progress.entries) (OfEntry es)
      (λ m n. of_state es n.state m (in_entries f.body.blocks w.progress.entries n.block n.state n.earlier n.is) n.comes)
      w.progress.beyond
      (pass_notes state_join state_below empty_state rules enter unfollowed.State lacks Comes enters
      (marks given id env f is_function_expression) tables nothing w passes)

  -- what is handed out of a function notes what its entries have
  pub function_notes : (end : FunctionEnd) → function_followed given id env f is_function_expression ≡ Ok end
      → AllByRecursion (OfEntry end.end.solved.entries) end.beyond.blocks
  function_notes end h =
      let steps = steps_followed given id env f is_function_expression in
      let ended : Passing State Beyond TableLists BlockEffects → Result FunctionEnd CheckFault =
      λ w. Ok (followed_end given id env f is_function_expression w) in
      let a = after (tables_begun (kept forward given) id env f) (λ tables. steps tables >>= ended) end h in
      let b = after (steps a.was) ended end a.then_is in
      let same : followed_end given id env f is_function_expression b.was ≡ end =
      ok_same (followed_end given id env f is_function_expression b.was) end b.then_is in
      subst (λ (z : FunctionEnd). AllByRecursion (OfEntry z.end.solved.entries) z.beyond.blocks) same
      (notes a.was b.was b.first)
