-- A made unit is plain: along each path what an instruction uses is sure before it.
use Rattle.std.specs.Prelude.{◌≡◌, ◌⊎◌, ℕ, ◌+◌, ◌*◌, ◌<◌, ◌≤◌, Bool, true, false, ◌||◌, List, [], ◌∷◌, ◌++◌, Option}
use Rattle.std.specs.Prelude.{Some, None, codes, nat_eq, slice_get, refl}
use Rattle.std.specs.Option.{option_map_or}
use Rattle.std.proofs.Common.{ap, sym, ◌∙◌, subst, arith, ⊎_elim}
use Rattle.std.proofs.lemmas.Bool.Decides.{nat_tests}
use Rattle.alias_base.specs.Find.{value_at}
use Rattle.alias_base.specs.declared.ids.BlockId.{BlockId}
use Rattle.alias_base.specs.declared.ids.InstructionId.{InstructionId}
use Rattle.alias_hir.specs.declared.env.Environment.{Environment}
use Rattle.alias_hir.specs.declared.hir.BasicBlock.{BasicBlock}
use Rattle.alias_hir.specs.declared.hir.HirFunction.{HirFunction}
use Rattle.alias_hir.specs.declared.hir.Instruction.{Instruction}
use Rattle.alias_hir.specs.declared.value.InstructionValue.TheVariants.{ObjectExpression}
use Rattle.alias_hir.specs.declared.value.PropertyLiteral.TheVariants.{String}
use Rattle.alias_lattice.specs.Flows.{IsOneOf}
use Rattle.alias_plainness.specs.Conditions.{first_failing}
use Rattle.alias_plainness.specs.Paths.{edges_of, phis_of, instructions_of, Path, begins, goes_on, sure_on}
use Rattle.alias_plainness.specs.Plainness.{IsPlain, IsPlainUnit}
use Rattle.alias_plainness.specs.Making.{all_made}
use Rattle.alias_plainness.specs.Sureness.{Sure, with_sure, with_phis, list_of, adds, adds_at, after_instruction}
use Rattle.alias_plainness.specs.Sureness.{after_instructions}
use Rattle.alias_made.specs.Blocks.{block_of, made_blocks}
use Rattle.alias_made.specs.Draws.{state_before, block_drawn}
use Rattle.alias_made.specs.Instructions.{use_of, instruction, object_of, value_of}
use Rattle.alias_made.specs.Units.{drawn_instructions, made_instructions, made_environment, made_function, made_unit}
use Rattle.alias_made.specs.laws.InstructionLaws.{source_earlier}
use Rattle.alias_made_result_laws.specs.plain.ConditionLaws.{object_passes, value_passes, store_passes}
use Rattle.alias_made_result_laws.specs.plain.LookupLaws.{LookedUp, is_block, is_last, is_none, looked_up}
use Rattle.alias_made_result_laws.specs.plain.LookupLaws.{instruction_at}

-- ---- what becomes sure

or_right : (a b : Bool) → b ≡ true → (a || b) ≡ true
or_right true b h = refl
or_right false b h = h

or_left : (a b : Bool) → a ≡ true → (a || b) ≡ true
or_left true b h = refl
or_left false b h = cc

itself : (n : ℕ) → nat_eq n n ≡ true
itself n = grind (arith, nat_tests)

-- what is sure stays so
still_sure : (xs : List ℕ) (s : Sure) (x : ℕ) → s x ≡ true → with_sure xs s x ≡ true
still_sure xs s x h = or_right _ (s x) h

-- the result of an instruction
result_sure : (x : ℕ) (xs : List ℕ) (s : Sure) → with_sure (x ∷ xs) s x ≡ true
result_sure x xs s = or_left _ (s x) (or_left (nat_eq x x) _ (itself x))

module _ (seed size : ℕ) where
  abbrev func : HirFunction
  func = made_function seed size

  abbrev env : Environment
  env = made_environment size

  abbrev id_of : ℕ → InstructionId
  id_of n = record { 0 = n }

  -- the instruction of a block
  abbrev part : ℕ → ℕ → Option Instruction
  part k r = slice_get (drawn_instructions seed k) r

  module _ (k : ℕ) (below : k < size) where
    first_is : slice_get (made_instructions seed size) (3 * k) ≡ part k 0
    first_is = let e : 3 * k ≡ 3 * k + 0 = omega arith in ap (slice_get (made_instructions seed size)) e
        ∙ instruction_at seed size k 0 below (omega arith)

    second_is : slice_get (made_instructions seed size) (3 * k + 1) ≡ part k 1
    second_is = instruction_at seed size k 1 below (omega arith)

    third_is : slice_get (made_instructions seed size) (3 * k + 2) ≡ part k 2
    third_is = instruction_at seed size k 2 below (omega arith)

    abbrev source : ℕ
    source = (block_drawn (state_before seed k) k).source

    abbrev of_object : Instruction
    of_object = instruction (4 * k + 1) (object_of k) (ObjectExpression [])

    abbrev of_value : Instruction
    of_value = instruction (4 * k + 2) (object_of k + 1)
        (value_of (block_drawn (state_before seed k) k).kind (use_of (object_of source)))

    -- the object of the block is sure behind its first instruction, and the value behind the second
    object_sure : (s : Sure) → after_instruction func env s (id_of (3 * k)) (object_of k) ≡ true
    object_sure s = subst (λ (o : Option Instruction). with_sure (option_map_or (adds func env) o []) s (object_of k)
        ≡ true) (sym first_is) (result_sure (object_of k) (all_made (list_of func env of_object)) s)

    value_sure : (s : Sure) → after_instruction func env s (id_of (3 * k + 1)) (object_of k + 1) ≡ true
    value_sure s = subst (λ (o : Option Instruction). with_sure (option_map_or (adds func env) o []) s (object_of k + 1)
        ≡ true) (sym second_is) (result_sure (object_of k + 1) (all_made (list_of func env of_value)) s)

    -- ---- the three instructions

    -- the objects of the blocks before are sure
    abbrev Before : Sure → Type 0
    Before s = (j : ℕ) → j < k → s (object_of j) ≡ true

    no_later : source ≤ k
    no_later = source_earlier (state_before seed k) k

    source_sure : (s : Sure) → Before s → after_instruction func env s (id_of (3 * k)) (object_of source) ≡ true
    source_sure s before = ⊎_elim earlier here (split source k no_later)
      where
        split : (a b : ℕ) → a ≤ b → (a < b) ⊎ (a ≡ b)
        split a b h = grind (arith, nat_tests)

        earlier : source < k → after_instruction func env s (id_of (3 * k)) (object_of source) ≡ true
        earlier h = still_sure (adds_at func env (id_of (3 * k))) s (object_of source) (before source h)

        here : source ≡ k → after_instruction func env s (id_of (3 * k)) (object_of source) ≡ true
        here h = subst (λ n. after_instruction func env s (id_of (3 * k)) (object_of n) ≡ true) (sym h) (object_sure s)

    abbrev Passes : Sure → Option Instruction → Type 0
    Passes s o = (x : Instruction) → o ≡ Some x → first_failing func env s x ≡ None

    passes_some : (s : Sure) (y : Instruction) → first_failing func env s y ≡ None → Passes s (Some y)
    passes_some s y h x e = let same : y ≡ x = cc in subst (λ z. first_failing func env s z ≡ None) same h

    first_passes : (s : Sure) → Passes s (slice_get (made_instructions seed size) (3 * k))
    first_passes s = subst (Passes s) (sym first_is)
        (passes_some s _ (object_passes func env s (4 * k + 1) (object_of k)))

    second_passes : (s : Sure) → Before s → Passes (after_instruction func env s (id_of (3 * k)))
        (slice_get (made_instructions seed size) (3 * k + 1))
    second_passes s before =
        let t : Sure = after_instruction func env s (id_of (3 * k)) in
        subst (Passes t) (sym second_is) (passes_some t _
        (value_passes func env t (object_of source) (source_sure s before) (4 * k + 2) (object_of k + 1)
        (block_drawn (state_before seed k) k).kind))

    third_passes : (s : Sure) → Before s → Passes
        (after_instruction func env (after_instruction func env s (id_of (3 * k))) (id_of (3 * k + 1)))
        (slice_get (made_instructions seed size) (3 * k + 2))
    third_passes s before =
        let t : Sure = after_instruction func env s (id_of (3 * k)) in
        let v : Sure = after_instruction func env t (id_of (3 * k + 1)) in
        subst (Passes v) (sym third_is)
        (passes_some v _ (store_passes func env v (object_of source)
        (still_sure (adds_at func env (id_of (3 * k + 1))) t (object_of source) (source_sure s before)) (4 * k + 3)
        (object_of k + 2) (object_of k + 1) (String (codes "a")) (value_sure t)))

    -- behind all three the objects of the blocks up to this one are sure
    abbrev behind : Sure → Sure
    behind s = after_instructions func env (id_of (3 * k) ∷ id_of (3 * k + 1) ∷ id_of (3 * k + 2) ∷ []) s

    still_behind : (s : Sure) (x : ℕ) → after_instruction func env s (id_of (3 * k)) x ≡ true → behind s x ≡ true
    still_behind s x sure =
        let t : Sure = after_instruction func env s (id_of (3 * k)) in
        still_sure (adds_at func env (id_of (3 * k + 2))) (after_instruction func env t (id_of (3 * k + 1))) x
        (still_sure (adds_at func env (id_of (3 * k + 1))) t x sure)

    behind_sure : (s : Sure) → Before s → (j : ℕ) → j < k + 1 → behind s (object_of j) ≡ true
    behind_sure s before j h = ⊎_elim earlier here (split j k h)
      where
        split : (a b : ℕ) → a < b + 1 → (a < b) ⊎ (a ≡ b)
        split a b h = grind (arith, nat_tests)

        earlier : j < k → behind s (object_of j) ≡ true
        earlier l = still_behind s (object_of j)
            (still_sure (adds_at func env (id_of (3 * k))) s (object_of j) (before j l))

        here : j ≡ k → behind s (object_of j) ≡ true
        here e = subst (λ n. behind s (object_of n) ≡ true) (sym e) (still_behind s (object_of k) (object_sure s))

  -- ---- paths

  -- no block has phis
  without_phis : (k : ℕ) (o : Option BasicBlock) → LookedUp size k o → phis_of o ≡ []
  without_phis k o (is_block h e) = ap phis_of e
  without_phis k o (is_last e) = ap phis_of e
  without_phis k o (is_none e) = ap phis_of e

  abbrev blocks : ℕ → Option BasicBlock
  blocks k = value_at (made_blocks size) (record { 0 = k })

  -- where a path enters a block, the objects of the blocks with lower numbers are sure
  abbrev AllBefore : ℕ → Sure → Type 0
  AllBefore b s = (j : ℕ) → j < b → s (object_of j) ≡ true

  next_before : (b : ℕ) (c : BlockId) (s : Sure) → AllBefore b s → (o : Option BasicBlock) → LookedUp size b o
      → IsOneOf c (edges_of o) → AllBefore c.0 (after_instructions func env (instructions_of o) s)
  next_before b c s before o (is_block below e) edge =
      subst (λ (p : Option BasicBlock). IsOneOf c (edges_of p)
      → AllBefore c.0 (after_instructions func env (instructions_of p) s)) (sym e) on edge
    where
      on : IsOneOf c (edges_of (Some (block_of b).1))
          → AllBefore c.0 (after_instructions func env (instructions_of (Some (block_of b).1)) s)
      on g = ⊎_elim (λ same j h. let number : c.0 ≡ b + 1 = ap (λ (x : BlockId). x.0) same in
          behind_sure b below s before j (omega (arith, number, h))) (λ no. absurd no) g
  next_before b c s before o (is_last e) edge =
      absurd (subst (λ (p : Option BasicBlock). IsOneOf c (edges_of p)) e edge)
  next_before b c s before o (is_none e) edge =
      absurd (subst (λ (p : Option BasicBlock). IsOneOf c (edges_of p)) e edge)

  none_below : (j : ℕ) → j < 0 → ⊥
  none_below j h = omega arith

  on_path : {b : BlockId} (p : Path func b) → AllBefore b.0 (sure_on func env p)
  on_path begins = λ j h. absurd (none_below j h)
  on_path (goes_on b c p edge) =
      let s : Sure = after_instructions func env (instructions_of (blocks b.0)) (sure_on func env p) in
      subst (λ phis. AllBefore c.0 (with_phis (Some b) phis s))
      (sym (without_phis c.0 (blocks c.0) (looked_up size c.0)))
      (next_before b.0 c (sure_on func env p) (on_path p) (blocks b.0) (looked_up size b.0) edge)

  -- ---- all instructions of all blocks

  nothing_listed : (done : List InstructionId) (i : InstructionId) (rest : List InstructionId) → [] ≡ done ++ i ∷ rest
      → ⊥
  nothing_listed [] i rest e = cc
  nothing_listed (d ∷ done) i rest e = cc

  abbrev PassesBehind : Sure → List InstructionId → InstructionId → Type 0
  PassesBehind s done i = (x : Instruction) → slice_get (made_instructions seed size) i.0 ≡ Some x
      → first_failing func env (after_instructions func env done s) x ≡ None

  one_of_three : (P : List InstructionId → InstructionId → Type 0) (x y z : InstructionId) → P [] x → P (x ∷ []) y
      → P (x ∷ y ∷ []) z → (done : List InstructionId) (i : InstructionId) (rest : List InstructionId) → x ∷ y ∷ z ∷ []
      ≡ done ++ i ∷ rest → P done i
  one_of_three P x y z p q r [] i rest e = let a : x ≡ i = cc in subst (λ w. P [] w) a p
  one_of_three P x y z p q r (d ∷ []) i rest e =
      let a : x ≡ d = cc in
      let b : y ≡ i = cc in
      subst (λ w. P (w ∷ []) i) a (subst (λ w. P (x ∷ []) w) b q)
  one_of_three P x y z p q r (d ∷ f ∷ []) i rest e =
      let a : x ≡ d = cc in
      let b : y ≡ f = cc in
      let c : z ≡ i = cc in
      subst (λ w. P (w ∷ f ∷ []) i) a (subst (λ w. P (x ∷ w ∷ []) i) b (subst (λ w. P (x ∷ y ∷ []) w) c r))
  one_of_three P x y z p q r (d ∷ f ∷ g ∷ done) i rest e = let no : [] ≡ done ++ i ∷ rest = cc in
      absurd (nothing_listed done i rest no)

  block_passes : (b : ℕ) (s : Sure) → AllBefore b s → (o : Option BasicBlock) → LookedUp size b o
      → (done : List InstructionId) (i : InstructionId) (rest : List InstructionId) → instructions_of o ≡ done ++ i
      ∷ rest → PassesBehind s done i
  block_passes b s before o (is_block below e) done i rest q =
      one_of_three (PassesBehind s) (id_of (3 * b)) (id_of (3 * b + 1)) (id_of (3 * b + 2)) (first_passes b below s)
      (second_passes b below s before) (third_passes b below s before) done i rest (sym (ap instructions_of e) ∙ q)
  block_passes b s before o (is_last e) done i rest q =
      absurd (nothing_listed done i rest (sym (ap instructions_of e) ∙ q))
  block_passes b s before o (is_none e) done i rest q =
      absurd (nothing_listed done i rest (sym (ap instructions_of e) ∙ q))

  function_is_plain : IsPlain func env
  function_is_plain = λ b done i rest q path.
      block_passes b.0 (sure_on func env path) (on_path path) (blocks b.0) (looked_up size b.0) done i rest q

  no_nested : (k : ℕ) (f : HirFunction) → slice_get env.functions k ≡ Some f → IsPlain f env
  no_nested k f e = cc

  pub made_is_plain : IsPlainUnit (made_unit seed size)
  made_is_plain = record { root = function_is_plain; nested = no_nested }
