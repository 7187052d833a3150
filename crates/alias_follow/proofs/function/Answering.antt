-- What follows for a function from its parts, in order.
use Rattle.std.specs.Prelude.{⊤}
use Rattle.std.proofs.Common.{◌≡◌, ℕ, Bool, false, List, length, replicate, Option, None, Result, Ok, Err}
use Rattle.std.proofs.Common.{refl, ap, sym, ◌∙◌, subst}
use Rattle.std.proofs.lemmas.List.{length-set, length-replicate}
use Rattle.std.specs.declared.alloc.AllocError.{AllocError}
use Rattle.alias_base.specs.Answer.{◌>>=◌, Gives}
use Rattle.alias_base.specs.declared.ids.FunctionId.{FunctionId}
use Rattle.alias_hir.specs.declared.env.Environment.{Environment}
use Rattle.alias_hir.specs.declared.hir.HirFunction.{HirFunction}
use Rattle.alias_hir.specs.Positions.{Blocks}
use Rattle.alias_lattice.specs.States.{State, empty_state, state_join, state_below}
use Rattle.alias_flow.specs.Machine.{Rules, up}
use Rattle.alias_flow.specs.Runs.{solver_state}
use Rattle.alias_flow.specs.check.Checks.{ChecksInto}
use Rattle.alias_flow.specs.declared.check.fault.Unsolved.{Unsolved}
use Rattle.alias_flow.specs.declared.check.fault.Unsolved.TheVariants as unsolved
use Rattle.alias_step.specs.declared.block.faults.BlockRefusal.{BlockRefusal}
use Rattle.alias_step.specs.declared.block.recorded.BlockEffects.{BlockEffects}
use Rattle.alias_tables.specs.Tables.{TableLists}
use Rattle.alias_tables.specs.write_back.WriteBack.{tables_of}
use Rattle.alias_certificate.specs.declared.beyond.Beyond.{Beyond}
use Rattle.alias_certificate.specs.declared.certificate.CertFunction.{CertFunction}
use Rattle.alias_certificate.specs.declared.certificate.CertTemporary.{CertTemporary}
use Rattle.alias_certificate.specs.declared.fault.CheckFault.{CheckFault}
use Rattle.alias_certificate.specs.declared.fault.CheckFault.TheVariants as fault
use Rattle.alias_cert.specs.function.Faults.{is_memory}
use Rattle.alias_cert.specs.function.Temporaries.{temporaries_stated}
use Rattle.alias_follow.specs.declared.function.follow.FunctionEnd.{FunctionEnd}
use Rattle.alias_follow.specs.declared.lines.entering.Unfollowed.{Unfollowed}
use Rattle.alias_follow.specs.declared.lines.entering.Unfollowed.TheVariants as unfollowed
use Rattle.alias_follow.specs.function.Faults.{pass_fault, faulted}
use Rattle.alias_follow.specs.function.Functions.{flow_rules, is_forward, marks, steps_followed, followed_end}
use Rattle.alias_follow.specs.function.Functions.{passed_with, given_passed, function_followed}
use Rattle.alias_follow.specs.function.Givens.{kept, limit, lacking, temporaries_given, tables_begun, entering}
use Rattle.alias_passage.specs.declared.passage.Passage.{Passage}
use Rattle.alias_passage.specs.Passes.{Passing, passage_begun, blocks_passed, flow_passed}

-- ---- what a pass finds

-- what a pass finds is what is stated, unless memory was wanting
found_is : {A : Type 0} (B : Type 0) (function : Option FunctionId) (env : Environment) (blocks : Blocks)
    (stated : Result A (Unsolved BlockRefusal Unfollowed)) (e : Unsolved BlockRefusal Unfollowed) (w : A)
    → ChecksInto {B = B} (λ c. c) stated (Err e) w → is_memory (pass_fault function env blocks e) ≡ false → stated
    ≡ Err e
found_is B function env blocks stated unsolved.Initial w h m = h
found_is B function env blocks stated (unsolved.Step b c) w h m = h
found_is B function env blocks stated (unsolved.Differs b d) w h m = h
found_is B function env blocks stated (unsolved.NotBelow b e) w h m = h
found_is B function env blocks stated (unsolved.NotJoin b) w h m = h
found_is B function env blocks stated (unsolved.Memory e) w h m = cc

-- the same of the fault that it is
fault_is : {A : Type 0} (B : Type 0) (function : Option FunctionId) (env : Environment) (blocks : Blocks)
    (stated : Result A (Unsolved BlockRefusal Unfollowed)) (u : Unsolved BlockRefusal Unfollowed) (e : CheckFault)
    (w : A)
    → ChecksInto {B = B} (λ c. c) stated (Err u) w → (is_memory e ≡ false → e ≡ pass_fault function env blocks u)
    → is_memory e ≡ false → faulted function env blocks stated ≡ Err e
fault_is B function env blocks stated u e w h is m =
    ap (faulted function env blocks) (found_is B function env blocks stated u w h
    (subst (λ z. is_memory z ≡ false) (is m) m)) ∙ ap Err (sym (is m))

-- what passes as a function's pass passes
pub unfaulted : {A : Type 0} (function : Option FunctionId) (env : Environment) (blocks : Blocks)
    (r : Result A (Unsolved BlockRefusal Unfollowed)) (x : A) → faulted function env blocks r ≡ Ok x → r ≡ Ok x
unfaulted function env blocks (Ok y) x h = let same : y ≡ x = cc in ap Ok same
unfaulted function env blocks (Err e) x h = cc

-- a result that is a fault gives it
pub gives_fault : {A : Type 0} (stated : Result A CheckFault) (x : Result A CheckFault) (e : CheckFault) → x ≡ Err e
    → (is_memory e ≡ false → stated ≡ Err e) → Gives is_memory stated x
gives_fault stated x e h k = subst (λ z. Gives is_memory stated z) (sym h) k

-- the same of a pass
pub passes_fault : (tables : TableLists) (recorded : List (Option BlockEffects))
    (stated : Result (Passing State Beyond TableLists BlockEffects) CheckFault)
    (x : Result (Passage State Beyond) CheckFault) (e : CheckFault) → x ≡ Err e
    → (is_memory e ≡ false → stated ≡ Err e) → Gives is_memory stated (passed_with tables recorded x)
passes_fault tables recorded stated x e h k =
    subst (λ z. Gives is_memory stated (passed_with tables recorded z)) (sym h) k

-- out of memory is free
pub passes_memory : (tables : TableLists) (recorded : List (Option BlockEffects))
    (stated : Result (Passing State Beyond TableLists BlockEffects) CheckFault)
    (x : Result (Passage State Beyond) CheckFault) (e : AllocError) → x ≡ Err (fault.Memory e)
    → Gives is_memory stated (passed_with tables recorded x)
passes_memory tables recorded stated x e h = passes_fault tables recorded stated x (fault.Memory e) h (λ m. cc)

-- ---- one pass

-- where a pass begins
module _ (r : Rules State TableLists BlockEffects BlockRefusal) (p : Passage State Beyond)
    (begun : p ≡ passage_begun state_join r) where
  pub begun_arriving : length p.arriving ≡ r.blocks
  begun_arriving = ap (λ (q : Passage State Beyond). length q.arriving) begun
      ∙ length-set (replicate r.blocks None) r.flow.entry _ ∙ length-replicate r.blocks None

  pub begun_entries : length p.entries ≡ r.blocks
  begun_entries = ap (λ (q : Passage State Beyond). length q.entries) begun ∙ length-replicate r.blocks None

  module _ (enter : ℕ → State → Option (State × Beyond)) (most : Option ℕ) (ms : List Bool) (t : TableLists)
      (k : List (Option BlockEffects)) (empty : State) (none : empty ≡ empty_state) (id : Option FunctionId)
      (env : Environment) (blocks : Blocks) where
    abbrev turns : Result (Passing State Beyond TableLists BlockEffects) (Unsolved BlockRefusal Unfollowed)
    turns = blocks_passed state_join state_below empty r enter unfollowed.State (lacking most) ms (up 0 r.blocks)
        (solver_state p t k)

    abbrev pass : Result (Passing State Beyond TableLists BlockEffects) (Unsolved BlockRefusal Unfollowed)
    pass = flow_passed state_join state_below empty_state r enter unfollowed.State (lacking most) ms t k

    pass_is : pass ≡ turns
    pass_is = λ i. blocks_passed state_join state_below (sym none i) r enter unfollowed.State (lacking most) ms
        (up 0 r.blocks) (solver_state (sym begun i) t k)

    pub pass_comes : (w : Passing State Beyond TableLists BlockEffects) → turns ≡ Ok w → faulted id env blocks pass
        ≡ Ok w
    pass_comes w h = ap (faulted id env blocks) (pass_is ∙ h)

    pub pass_finds : (u : Unsolved BlockRefusal Unfollowed) (e : CheckFault)
        (w : Passing State Beyond TableLists BlockEffects) → ChecksInto {B = ⊤} (λ c. c) turns (Err u) w
        → (is_memory e ≡ false → e ≡ pass_fault id env blocks u) → is_memory e ≡ false
        → faulted id env blocks pass ≡ Err e
    pass_finds u e w h is m = ap (faulted id env blocks) pass_is ∙ fault_is ⊤ id env blocks turns u e w h is m

-- ---- from the temporaries that are given

module _ (given : Option CertFunction) (most : Option ℕ) (id : Option FunctionId) (env : Environment) (f : HirFunction)
    (r : Rules State TableLists BlockEffects BlockRefusal) (ms : List Bool) (t : TableLists)
    (k : List (Option BlockEffects)) where
  after_temporaries : TableLists → Result (Passing State Beyond TableLists BlockEffects) CheckFault
  after_temporaries begun = faulted id env f.body.blocks (flow_passed state_join state_below empty_state r
      (entering given id env f) unfollowed.State (lacking most) ms begun k)

  pub temporaries_refused : (ts : List CertTemporary) (e : CheckFault) → ts ≡ temporaries_given given
      → temporaries_stated id env ts t ≡ Err e → given_passed given most id env f r ms t k ≡ Err e
  unfolding after_temporaries
  temporaries_refused ts e same h =
      ap (λ z. z >>= after_temporaries) (ap (λ z. temporaries_stated id env z t) (sym same) ∙ h)

  -- once these are given, what is given of the blocks decides
  pub given_at : (ts : List CertTemporary) (tables : TableLists) → ts ≡ temporaries_given given
      → temporaries_stated id env ts t ≡ Ok tables → (enter : ℕ → State → Option (State × Beyond)) (limit : Option ℕ)
      (rules : Rules State TableLists BlockEffects BlockRefusal) (recorded : List (Option BlockEffects))
      → enter ≡ entering given id env f → limit ≡ most → rules ≡ r → recorded ≡ k
      → faulted id env f.body.blocks
      (flow_passed state_join state_below empty_state rules enter unfollowed.State (lacking limit) ms tables recorded)
      ≡ given_passed given most id env f r ms t k
  unfolding after_temporaries
  given_at ts tables same h enter limit rules recorded enter_is limit_is rules_are recorded_are =
      (λ i. faulted id env f.body.blocks (flow_passed state_join state_below empty_state (rules_are i) (enter_is i)
      unfollowed.State (lacking (limit_is i)) ms tables (recorded_are i)))
      ∙ sym (ap (λ z. z >>= after_temporaries) (ap (λ z. temporaries_stated id env z t) (sym same) ∙ h))

-- ---- the whole

-- one after the other is the same, whichever two are taken together
bound : {A B C E : Type 0} (r : Result A E) (g : A → Result B E) (h : B → Result C E)
    → (r >>= (λ x. g x >>= h)) ≡ ((r >>= g) >>= h)
bound (Ok x) g h = refl
bound (Err e) g h = refl

module _ (given : Option CertFunction) (id : Option FunctionId) (env : Environment) (f : HirFunction)
    (is_function_expression : Bool) where
  -- what is stated of the function's pass
  abbrev pub its_pass : Result (Passing State Beyond TableLists BlockEffects) CheckFault
  its_pass = given_passed (kept (is_forward given id env f is_function_expression) given)
      (limit (is_forward given id env f is_function_expression) given) id env f
      (flow_rules given id env f is_function_expression) (marks given id env f is_function_expression) (tables_of env)
      (replicate (length f.body.blocks) None)

  from_steps : Passing State Beyond TableLists BlockEffects → Result FunctionEnd CheckFault
  from_steps w = Ok (followed_end given id env f is_function_expression w)

  whole : function_followed given id env f is_function_expression ≡ (its_pass >>= from_steps)
  unfolding from_steps
  whole = bound (tables_begun (kept (is_forward given id env f is_function_expression) given) id env f)
      (steps_followed given id env f is_function_expression) from_steps

  -- the pass is the function's, where it is by what is given of it
  pub pass_as : (said : Option CertFunction) (most : Option ℕ) (r : Rules State TableLists BlockEffects BlockRefusal)
      (ms : List Bool) (t : TableLists) (k : List (Option BlockEffects))
      → said ≡ kept (is_forward given id env f is_function_expression) given
      → most ≡ limit (is_forward given id env f is_function_expression) given
      → r ≡ flow_rules given id env f is_function_expression → ms ≡ marks given id env f is_function_expression
      → t ≡ tables_of env → k ≡ replicate (length f.body.blocks) None
      → its_pass ≡ given_passed said most id env f r ms t k
  pass_as said most r ms t k said_is most_is rules_are marks_are tables_are recorded_are =
      sym (λ i. given_passed (said_is i) (most_is i) id env f (rules_are i) (marks_are i) (tables_are i)
      (recorded_are i))

  pub function_refused : (e : CheckFault) → its_pass ≡ Err e → function_followed given id env f is_function_expression
      ≡ Err e
  function_refused e h = whole ∙ ap (λ z. z >>= from_steps) h

  pub function_comes : (w : Passing State Beyond TableLists BlockEffects) (e : FunctionEnd) → its_pass ≡ Ok w
      → e ≡ followed_end given id env f is_function_expression w
      → function_followed given id env f is_function_expression ≡ Ok e
  unfolding from_steps
  function_comes w e h is = whole ∙ ap (λ z. z >>= from_steps) h ∙ ap Ok (sym is)
