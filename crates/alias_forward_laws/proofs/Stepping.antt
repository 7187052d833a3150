-- What follows for a forward function is what its effects pass ends with.
use Rattle.std.proofs.Common.{◌≡◌, ℕ, ◌+◌, Bool, true, false, if◌then◌else◌, List, [], ◌∷◌, ◌++◌}
use Rattle.std.proofs.Common.{length, get_or, set, replicate}
use Rattle.std.proofs.Common.{Option, Some, None, Result, Ok, Err, is_some, refl, ap, sym, ◌∙◌, arith}
use Rattle.std.proofs.lemmas.List.{length-set, length-replicate}
use Rattle.std.specs.List.{AllByRecursion}
use Rattle.alias_base.specs.Answer.{◌>>=◌}
use Rattle.alias_base.specs.Find.{value_at}
use Rattle.alias_base.specs.declared.ids.FunctionId.{FunctionId}
use Rattle.alias_hir.specs.declared.env.Environment.{Environment}
use Rattle.alias_hir.specs.declared.error.InferError.{InferError}
use Rattle.alias_hir.specs.declared.hir.HirFunction.{HirFunction}
use Rattle.alias_lattice.specs.JoinLaws.{state_laws}
use Rattle.alias_lattice.specs.ProperStates.{StateProper}
use Rattle.alias_lattice.specs.States.{State, empty_state, state_join, state_below}
use Rattle.alias_flow.specs.Machine.{Rules, SolverState, VisitLog, End, FlowLaws, up}
use Rattle.alias_flow.specs.Solutions.{IsForward}
use Rattle.alias_flow.specs.check.Reached.{reached_marks}
use Rattle.alias_flow.specs.declared.check.fault.Unsolved.{Unsolved}
use Rattle.alias_flow.specs.declared.check.fault.Unsolved.TheVariants as unsolved
use Rattle.alias_flow.proofs.EachEdge.{forward_is}
use Rattle.alias_flow.proofs.check.Marks.{rounds_length}
use Rattle.alias_tables.specs.GrowingLaws.{Extends}
use Rattle.alias_tables.specs.Tables.{TableLists}
use Rattle.alias_tables.specs.write_back.WriteBack.{tables_of}
use Rattle.alias_step.specs.block.Contexts.{context_of}
use Rattle.alias_step.specs.declared.block.faults.BlockRefusal.{BlockRefusal}
use Rattle.alias_step.specs.declared.block.recorded.BlockEffects.{BlockEffects}
use Rattle.alias_effects.specs.Inference.{answer_of, pass_end, end_of, refusal, block_at}
use Rattle.alias_effects.specs.Numbered.{numbered, visits_end}
use Rattle.alias_effects.specs.PassLaws.{pass_laws}
use Rattle.alias_effects.specs.declared.output.PassEnd.{PassEnd}
use Rattle.alias_certificate.specs.declared.beyond.Beyond.{Beyond}
use Rattle.alias_certificate.specs.declared.certificate.CertFunction.{CertFunction}
use Rattle.alias_certificate.specs.declared.fault.CheckFault.{CheckFault}
use Rattle.alias_certificate.specs.states.Beyond.{nothing_beyond}
use Rattle.alias_cert.specs.function.Functions.{marked_positions}
use Rattle.alias_passage.specs.Passes.{Passing, flow_passed}
use Rattle.alias_follow.specs.declared.function.follow.FunctionBeyond.{FunctionBeyond}
use Rattle.alias_follow.specs.declared.function.follow.FunctionEnd.{FunctionEnd}
use Rattle.alias_follow.specs.declared.lines.entering.Unfollowed.{Unfollowed}
use Rattle.alias_follow.specs.declared.lines.entering.Unfollowed.TheVariants as unfollowed
use Rattle.alias_follow.specs.function.Faults.{pass_fault, faulted}
use Rattle.alias_follow.specs.function.Functions.{is_forward, followed_end, function_followed}
use Rattle.alias_follow.specs.function.Givens.{kept, limit, lacking, tables_begun, entering}
use Rattle.alias_follow.proofs.lines.Raising.{nothing_entered}
use Rattle.alias_forward_laws.proofs.Passage.{marked_of, EndsBeside, solves, refuses, passes_as_rounds}

-- ---- what is entered where nothing is given

-- a block is entered with what arrives
enters_bare : (env : Environment) (f : HirFunction) (id : Option FunctionId) (b : ℕ) (x : State)
    → entering None id env f b x ≡ Some (x, nothing_beyond)
enters_bare env f id b x = sym (ap (λ enter. enter b x) (nothing_entered id env f))

-- ---- marks

at_end : (before : List Bool) (t : Bool) (marks : List Bool) → get_or (before ++ t ∷ marks) (length before) false ≡ t
at_end [] t marks = refl
at_end (b ∷ bs) t marks = at_end bs t marks

longer : (before : List Bool) (t : Bool) → length (before ++ t ∷ []) ≡ length before + 1
longer [] t = refl
longer (b ∷ bs) t = let r : length (bs ++ t ∷ []) ≡ length bs + 1 = longer bs t in omega arith

moved : (before : List Bool) (t : Bool) (marks : List Bool) → (before ++ t ∷ []) ++ marks ≡ before ++ t ∷ marks
moved [] t marks = refl
moved (b ∷ bs) t marks = ap (λ z. b ∷ z) (moved bs t marks)

of_mark : (n : ℕ) (marks : List Bool) (rest : List ℕ) → rest ≡ marked_positions (n + 1) marks → (t u : Bool) → u ≡ t
    → (if u then n ∷ rest else rest) ≡ marked_positions n (t ∷ marks)
of_mark n marks rest same true u is = ap (λ z. if z then n ∷ rest else rest) is ∙ ap (λ z. n ∷ z) same
of_mark n marks rest same false u is = ap (λ z. if z then n ∷ rest else rest) is ∙ same

-- the marked ones of these blocks, behind so many others
marked_behind : (marks before all : List Bool) (n : ℕ) → length before ≡ n → before ++ marks ≡ all
    → marked_of all (up n (length marks)) ≡ marked_positions n marks
marked_behind [] before all n long whole = refl
marked_behind (t ∷ marks) before all n long whole =
    let here : get_or all n false ≡ t = ap (λ z. get_or z n false) (sym whole)
    ∙ ap (λ k. get_or (before ++ t ∷ marks) k false) (sym long) ∙ at_end before t marks in
    let rest : marked_of all (up (n + 1) (length marks)) ≡ marked_positions (n + 1) marks =
    marked_behind marks (before ++ t ∷ []) all (n + 1) (longer before t ∙ ap (λ k. k + 1) long)
    (moved before t marks ∙ whole) in
    of_mark n marks (marked_of all (up (n + 1) (length marks))) rest t (get_or all n false) here

all_marked : (marks : List Bool) (n : ℕ) → length marks ≡ n → marked_of marks (up 0 n) ≡ marked_positions 0 marks
all_marked marks n long = ap (λ k. marked_of marks (up 0 k)) (sym long) ∙ marked_behind marks [] marks 0 refl refl

-- ---- one function

-- nothing is beyond what arrives
pub record IsBare (x : FunctionBeyond) : Type 0 where
  pub forward : x.is_forward ≡ true
  pub nothing : AllByRecursion (λ m. m ≡ nothing_beyond) x.blocks

abbrev pub Ends : Type 0
Ends = SolverState (VisitLog State) TableLists BlockEffects

module _ (f : HirFunction) where
  -- what is handed out of visits, entry states, tables and what is recorded
  abbrev handed : List ℕ → List (Option State) → TableLists → List (Option BlockEffects) → PassEnd
  handed visits entries tables recorded = end_of f (record {
    progress = record { visits = visits; joined_input = entries; last_input = [] };
    tables = tables;
    recorded = recorded;
  })

  same_handed : (vs ws : List ℕ) (xs ys : List (Option State)) (t u : TableLists) (ks js : List (Option BlockEffects))
      → vs ≡ ws → xs ≡ ys → t ≡ u → ks ≡ js → handed vs xs t ks ≡ handed ws ys u js
  same_handed vs ws xs ys t u ks js a b c d =
      ap (λ z. handed z xs t ks) a ∙ ap (λ z. handed ws z t ks) b ∙ ap (λ z. handed ws ys z ks) c
      ∙ ap (λ z. handed ws ys u z) d

-- the function is followed as its effects pass ends, with nothing beyond what arrives; or both are refused
pub data FollowsPass (given : Option CertFunction) (id : Option FunctionId) (env : Environment) (f : HirFunction)
    (b : Bool) : Type 0 where
  follows : (w : Ends) (e : FunctionEnd) → function_followed given id env f b ≡ Ok e → pass_end env f b ≡ Ok e.end
      → e.end ≡ end_of f w → IsBare e.beyond → FollowsPass given id env f b
  fails : (x : CheckFault) (y : InferError) → function_followed given id env f b ≡ Err x → pass_end env f b ≡ Err y
      → FollowsPass given id env f b

module _ (given : Option CertFunction) (id : Option FunctionId) (env : Environment) (f : HirFunction) (b : Bool)
    (entry : is_some (value_at f.body.blocks f.body.entry) ≡ true) (ahead : is_forward given id env f b ≡ true) where
  abbrev rules : Rules State TableLists BlockEffects BlockRefusal
  rules = numbered (context_of env f b)

  abbrev none : List (Option BlockEffects)
  none = replicate (length f.body.blocks) None

  laws : FlowLaws StateProper Extends rules none
  laws = pass_laws (context_of env f b) entry none (length-replicate (length f.body.blocks) None)

  forward : IsForward rules
  forward = forward_is rules ahead

  abbrev enter : ℕ → State → Option (State × Beyond)
  enter = entering None id env f

  abbrev missing : TableLists → Option Unfollowed
  missing = lacking None

  missing_none : (t : TableLists) → missing t ≡ None
  missing_none t = refl

  abbrev passing : Result (Passing State Beyond TableLists BlockEffects) (Unsolved BlockRefusal Unfollowed)
  passing = flow_passed state_join state_below empty_state rules enter unfollowed.State missing (reached_marks rules)
      (tables_of env) none

  abbrev then_ends : Result (Passing State Beyond TableLists BlockEffects) (Unsolved BlockRefusal Unfollowed)
      → Result FunctionEnd CheckFault
  then_ends r = faulted id env f.body.blocks r >>= (λ w. Ok (followed_end given id env f b w))

  function_is : function_followed given id env f b ≡ then_ends passing
  function_is = ap (λ t. tables_begun (kept t given) id env f >>= (λ tables.
      faulted id env f.body.blocks (flow_passed state_join state_below empty_state rules
      (entering (kept t given) id env f)
      unfollowed.State (lacking (limit t given)) (reached_marks rules) tables none)
      >>= (λ w. Ok (followed_end given id env f b w)))) ahead

  marks_long : length (reached_marks rules) ≡ length f.body.blocks
  marks_long =
      rounds_length rules.flow.edges rules.blocks rules.blocks
      (set (replicate rules.blocks false) rules.flow.entry true)
      ∙ length-set (replicate rules.blocks false) rules.flow.entry true ∙ length-replicate rules.blocks false

  both_end : (r : Result (Passing State Beyond TableLists BlockEffects) (Unsolved BlockRefusal Unfollowed))
      (o : End (VisitLog State) TableLists BlockEffects BlockRefusal) → passing ≡ r
      → visits_end (context_of env f b) ≡ o
      → EndsBeside state_laws laws forward empty_state enter unfollowed.State missing nothing_beyond
      (enters_bare env f id) missing_none (tables_of env) r o → FollowsPass given id env f b
  both_end r o is so (solves u v passed solved same) =
      follows v (followed_end given id env f b u) (function_is ∙ ap then_ends (is ∙ passed))
      (ap (answer_of env f) (so ∙ solved) ∙ ap Ok (sym ends)) ends (record { forward = ahead; nothing = same.beyond })
    where
      ends : (followed_end given id env f b u).end ≡ end_of f v
      ends = same_handed f (marked_positions 0 (reached_marks rules)) v.progress.visits u.progress.entries
          v.progress.joined_input u.tables v.tables u.recorded v.recorded
          (sym (same.visits ∙ all_marked (reached_marks rules) (length f.body.blocks) marks_long))
          same.entries same.tables same.recorded
  both_end r o is so (refuses n c passed solved) =
      fails (pass_fault id env f.body.blocks (unsolved.Step n c)) (refusal env (block_at f.body.blocks n) c)
      (function_is ∙ ap then_ends (is ∙ passed)) (ap (answer_of env f) (so ∙ solved))

  -- where the entry is a block, and all edges go forward
  pub follows_pass : FollowsPass given id env f b
  follows_pass = both_end passing (visits_end (context_of env f b)) refl refl
      (passes_as_rounds state_laws laws forward empty_state enter unfollowed.State missing nothing_beyond
      (enters_bare env f id) missing_none (tables_of env))

-- so the same follows for it, whatever is given
pub followed_alike : (given other : Option CertFunction) (id : Option FunctionId) (env : Environment)
    (f : HirFunction) (b : Bool) → is_some (value_at f.body.blocks f.body.entry) ≡ true
    → is_forward given id env f b ≡ true → function_followed given id env f b ≡ function_followed other id env f b
followed_alike given other id env f b entry ahead =
    function_is given id env f b entry ahead ∙ sym (function_is other id env f b entry ahead)
