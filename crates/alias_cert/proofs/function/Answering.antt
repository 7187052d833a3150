-- The check of a function from its parts, in order.
use Rattle.std.proofs.Common.{◌≡◌, ℕ, Bool, true, false, if◌then◌else◌, List, length, replicate, Option, None, Result}
use Rattle.std.proofs.Common.{Ok, Err, ap, sym, ◌∙◌, subst}
use Rattle.std.specs.Prelude.{⊤}
use Rattle.alias_base.specs.Answer.{◌>>=◌, Gives}
use Rattle.alias_base.specs.declared.ids.FunctionId.{FunctionId}
use Rattle.alias_hir.specs.declared.env.Environment.{Environment}
use Rattle.alias_hir.specs.declared.hir.HirFunction.{HirFunction}
use Rattle.alias_hir.specs.Positions.{Blocks}
use Rattle.alias_lattice.specs.States.{State, state_join, state_below}
use Rattle.alias_flow.specs.Machine.{Rules}
use Rattle.alias_flow.specs.declared.check.fault.Unsolved.{Unsolved}
use Rattle.alias_flow.specs.declared.check.fault.Unsolved.TheVariants as unsolved
use Rattle.alias_flow.specs.check.Checks.{Arriving, ChecksInto, solution_checked}
use Rattle.alias_step.specs.declared.block.faults.BlockRefusal.{BlockRefusal}
use Rattle.alias_step.specs.declared.block.recorded.BlockEffects.{BlockEffects}
use Rattle.alias_tables.specs.Tables.{TableLists}
use Rattle.alias_tables.specs.write_back.WriteBack.{tables_of}
use Rattle.alias_effects.specs.declared.output.PassEnd.{PassEnd}
use Rattle.alias_certificate.specs.declared.certificate.CertFunction.{CertFunction}
use Rattle.alias_certificate.specs.declared.fault.CheckFault.{CheckFault}
use Rattle.alias_certificate.specs.declared.fault.CheckFault.TheVariants as fault
use Rattle.alias_cert.specs.declared.function.claims.Difference.{Difference}
use Rattle.alias_cert.specs.function.Blocks.{are_lines}
use Rattle.alias_cert.specs.function.Claims.{differs}
use Rattle.alias_cert.specs.function.Faults.{is_memory, unsolved_fault, faulted}
use Rattle.alias_cert.specs.function.Functions.{flow_rules, marks, numbers, entries_checked, steps_checked, checked_end}
use Rattle.alias_cert.specs.function.Functions.{function_solved}
use Rattle.alias_cert.specs.function.Temporaries.{temporaries_stated}

-- what a check of entry states finds is what is stated, unless memory was wanting
pub found_is : {A : Type 0} (B : Type 0) (function : Option FunctionId) (env : Environment) (blocks : Blocks)
    (stated : Result A (Unsolved BlockRefusal Difference)) (e : Unsolved BlockRefusal Difference) (w : A)
    → ChecksInto {B = B} (λ c. c) stated (Err e) w → is_memory (unsolved_fault function env blocks e) ≡ false → stated
    ≡ Err e
found_is B function env blocks stated unsolved.Initial w h m = h
found_is B function env blocks stated (unsolved.Step b c) w h m = h
found_is B function env blocks stated (unsolved.Differs b d) w h m = h
found_is B function env blocks stated (unsolved.NotBelow b e) w h m = h
found_is B function env blocks stated (unsolved.NotJoin b) w h m = h
found_is B function env blocks stated (unsolved.Memory e) w h m = cc

-- the same of the fault that it is
pub fault_is : {A : Type 0} (B : Type 0) (function : Option FunctionId) (env : Environment) (blocks : Blocks)
    (stated : Result A (Unsolved BlockRefusal Difference)) (u : Unsolved BlockRefusal Difference) (e : CheckFault)
    (w : A)
    → ChecksInto {B = B} (λ c. c) stated (Err u) w → (is_memory e ≡ false → e ≡ unsolved_fault function env blocks u)
    → is_memory e ≡ false → faulted function env blocks stated ≡ Err e
fault_is B function env blocks stated u e w h is m =
    ap (faulted function env blocks) (found_is B function env blocks stated u w h
    (subst (λ z. is_memory z ≡ false) (is m) m)) ∙ ap Err (sym (is m))

-- a result that is a fault gives it
pub gives_fault : {A : Type 0} (stated : Result A CheckFault) (x : Result A CheckFault) (e : CheckFault) → x ≡ Err e
    → (is_memory e ≡ false → stated ≡ Err e) → Gives is_memory stated x
gives_fault stated x e h k = subst (λ z. Gives is_memory stated z) (sym h) k

-- what passes as a function's check passes
pub unfaulted : {A : Type 0} (function : Option FunctionId) (env : Environment) (blocks : Blocks)
    (r : Result A (Unsolved BlockRefusal Difference)) (x : A) → faulted function env blocks r ≡ Ok x → r ≡ Ok x
unfaulted function env blocks (Ok y) x h = let same : y ≡ x = cc in ap Ok same
unfaulted function env blocks (Err e) x h = cc

module _ (c : CertFunction) (env : Environment) (f : HirFunction) (is_function_expression : Bool) where
  from_tables : List (Option State) → TableLists → Result PassEnd CheckFault
  from_tables entries tables = steps_checked c env f is_function_expression entries tables
      >>= (λ w. Ok (checked_end c env f is_function_expression entries w))

  from_entries : List (Option State) → Result PassEnd CheckFault
  from_entries entries = temporaries_stated c.function env c.temporaries (tables_of env) >>= from_tables entries

  from_lines : Result PassEnd CheckFault
  from_lines = entries_checked c env f is_function_expression >>= from_entries

  abbrev lines_if : Bool → Result ⊤ CheckFault
  lines_if b = if b then Ok tt else Err (fault.Blocks c.function)

  -- the check of the entry states that are said
  abbrev pub solution_said : List (Option State) → TableLists
      → Result (Arriving State TableLists BlockEffects) (Unsolved BlockRefusal Difference)
  solution_said entries tables =
      solution_checked state_join state_below (flow_rules c env f is_function_expression)
      (differs c.blocks (numbers c env f is_function_expression) (length c.temporaries)) entries tables
      (replicate (length f.body.blocks) None)

  pub lines_fail : are_lines c.blocks f.body.blocks (marks c env f is_function_expression) ≡ false
      → function_solved c env f is_function_expression ≡ Err (fault.Blocks c.function)
  unfolding from_lines from_entries from_tables
  lines_fail h = ap (λ b. lines_if b >>= (λ u. from_lines)) h

  lines_pass : are_lines c.blocks f.body.blocks (marks c env f is_function_expression) ≡ true
      → function_solved c env f is_function_expression ≡ from_lines
  unfolding from_lines from_entries from_tables
  lines_pass h = ap (λ b. lines_if b >>= (λ u. from_lines)) h

  module _ (lines : are_lines c.blocks f.body.blocks (marks c env f is_function_expression) ≡ true) where
    pub entries_fail : (e : CheckFault) → (is_memory e ≡ false → entries_checked c env f is_function_expression ≡ Err e)
        → is_memory e ≡ false → function_solved c env f is_function_expression ≡ Err e
    unfolding from_lines
    entries_fail e h m = lines_pass lines ∙ ap (λ z. z >>= from_entries) (h m)

    module _ (entries : List (Option State))
        (stated : entries_checked c env f is_function_expression ≡ Ok entries) where
      entries_pass : function_solved c env f is_function_expression ≡ from_entries entries
      unfolding from_lines
      entries_pass = lines_pass lines ∙ ap (λ z. z >>= from_entries) stated

      pub temporaries_fail : (e : CheckFault)
          → (is_memory e ≡ false → temporaries_stated c.function env c.temporaries (tables_of env) ≡ Err e)
          → is_memory e ≡ false → function_solved c env f is_function_expression ≡ Err e
      unfolding from_entries
      temporaries_fail e h m = entries_pass ∙ ap (λ z. z >>= from_tables entries) (h m)

      module _ (tables : TableLists) (given : temporaries_stated c.function env c.temporaries (tables_of env)
          ≡ Ok tables) where
        temporaries_pass : function_solved c env f is_function_expression ≡ from_tables entries tables
        unfolding from_entries
        temporaries_pass = entries_pass ∙ ap (λ z. z >>= from_tables entries) given

        pub steps_fail : (e : CheckFault) → (is_memory e ≡ false
            → steps_checked c env f is_function_expression entries tables ≡ Err e) → is_memory e ≡ false
            → function_solved c env f is_function_expression ≡ Err e
        unfolding from_tables
        steps_fail e h m = temporaries_pass ∙ ap
            (λ z. z >>= (λ w. Ok (checked_end c env f is_function_expression entries w))) (h m)

        pub steps_pass : (w : Arriving State TableLists BlockEffects)
            → steps_checked c env f is_function_expression entries tables ≡ Ok w
            → function_solved c env f is_function_expression ≡ Ok (checked_end c env f is_function_expression entries w)
        unfolding from_tables
        steps_pass w h = temporaries_pass ∙ ap
            (λ z. z >>= (λ w. Ok (checked_end c env f is_function_expression entries w))) h

  -- what a flow's steps come to is what the function's do, where it is the function's flow from the tables that are
  -- stated
  pub steps_at : (entries : List (Option State)) (tables t : TableLists)
      (r : Rules State TableLists BlockEffects BlockRefusal) (ns : List (Option ℕ)) (k : List (Option BlockEffects))
      → r ≡ flow_rules c env f is_function_expression → ns ≡ numbers c env f is_function_expression → t ≡ tables → k
      ≡ replicate (length f.body.blocks) None
      → faulted c.function env f.body.blocks
      (solution_checked state_join state_below r (differs c.blocks ns (length c.temporaries)) entries t k)
      ≡ steps_checked c env f is_function_expression entries tables
  steps_at entries tables t r ns k rules_are numbers_are tables_are recorded_are =
      ap (λ z. faulted c.function env f.body.blocks
      (solution_checked state_join state_below z (differs c.blocks ns (length c.temporaries)) entries t k))
      rules_are
      ∙ ap (λ z. faulted c.function env f.body.blocks
      (solution_checked state_join state_below (flow_rules c env f is_function_expression)
      (differs c.blocks z (length c.temporaries)) entries t k)) numbers_are
      ∙ ap (λ z. faulted c.function env f.body.blocks
      (solution_checked state_join state_below (flow_rules c env f is_function_expression)
      (differs c.blocks (numbers c env f is_function_expression) (length c.temporaries)) entries z k)) tables_are
      ∙ ap (λ z. faulted c.function env f.body.blocks
      (solution_checked state_join state_below (flow_rules c env f is_function_expression)
      (differs c.blocks (numbers c env f is_function_expression) (length c.temporaries)) entries tables z))
      recorded_are
