-- What a function creates by its blocks is what its instructions create, each as often.
use Rattle.std.specs.Prelude.{◌≡◌, ℕ, ◌==◌, Bool, true, false, cond, not, List, [], ◌∷◌, ◌++◌, Option, Some, None, Ok}
use Rattle.std.specs.Prelude.{length, map, slice_get, if◌then◌else◌}
use Rattle.std.specs.List.{flat_map, find, range_with_len}
use Rattle.std.proofs.Common.{zero, suc, refl, ap, sym, ◌∙◌, subst, arith, ◌+◌, ◌<◌, ◌≤◌}
use Rattle.std.proofs.lemmas.Bool.{eqb-true}
use Rattle.std.proofs.lemmas.Grind.{flat_map-append}
use Rattle.std.proofs.lemmas.List.{map-append}
use Rattle.alias_base.specs.declared.ids.BlockId.{BlockId}
use Rattle.alias_base.specs.declared.ids.FunctionId.{FunctionId}
use Rattle.alias_base.specs.declared.ids.InstructionId.{InstructionId}
use Rattle.alias_hir.specs.Values.{created}
use Rattle.alias_hir.specs.declared.hir.BasicBlock.{BasicBlock}
use Rattle.alias_hir.specs.declared.hir.HirFunction.{HirFunction}
use Rattle.alias_hir.specs.declared.hir.Instruction.{Instruction}
use Rattle.alias_rules.specs.function_rules.Rules.{is_among, first_missing, missing, listed_instructions}
use Rattle.alias_rules.specs.function_rules.Rules.{instructions_listed, first_again, twice, none_listed_twice}
use Rattle.alias_hir.specs.declared.env.Environment.{Environment}
use Rattle.alias_rules.specs.Fitting.{function_fits}
use Rattle.alias_rules.specs.Functions.{of_function}
use Rattle.alias_rules.specs.Nesting.{number_of, created_in, created_of, times}
use Rattle.alias_rules.specs.declared.rules.Rule.TheVariants.{ListedOnce}
use Rattle.alias_rules.specs.RuleLaws.{range_at}
use Rattle.alias_rules.specs.TreeLaws.{times_cons, times_both, counted}
use Rattle.alias_nesting_laws.specs.FittingLaws.{fitted, first_among, later_among}
use Rattle.alias_nested.specs.Created.{one_of, created_by, created_by_all, created_functions}
use Rattle.alias_nested.specs.Order.{numbers, created_by_slot}
use Rattle.alias_nested.proofs.Counting.{total, flat_times, lowered, taken_times, taken_once, total_lowered}
use Rattle.alias_nested.proofs.Counting.{lowered_times, zero_total, there_among}

-- ---- what is listed

-- what an instruction creates
abbrev made : Option Instruction → List ℕ
made None = []
made (Some i) = number_of (created i.value)

one_number : (o : Option FunctionId) → numbers (one_of o) ≡ number_of o
one_number None = refl
one_number (Some f) = refl

made_by : (o : Option Instruction) → numbers (created_by o) ≡ made o
made_by None = refl
made_by (Some i) = one_number (created i.value)

module _ (f : HirFunction) where
  abbrev made_at : ℕ → List ℕ
  made_at k = made (slice_get f.instructions k)

  made_by_all : (ids : List InstructionId) → numbers (created_by_all f ids)
      ≡ flat_map made_at (map (λ (i : InstructionId). i.0) ids)
  made_by_all [] = refl
  made_by_all (i ∷ ids) =
      map-append (λ (id : FunctionId). id.0) (created_by (slice_get f.instructions i.0)) (created_by_all f ids)
      ∙ ap (λ zs. zs ++ numbers (created_by_all f ids)) (made_by (slice_get f.instructions i.0))
      ∙ ap (λ zs. made_at i.0 ++ zs) (made_by_all ids)

  made_by_blocks : (bs : List (BlockId × BasicBlock))
      → numbers (flat_map (λ (b : BlockId × BasicBlock). created_by_all f b.1.instructions) bs)
      ≡ flat_map made_at (flat_map (λ (b : BlockId × BasicBlock). map (λ (i : InstructionId). i.0) b.1.instructions) bs)
  made_by_blocks [] = refl
  made_by_blocks (b ∷ bs) =
      map-append (λ (id : FunctionId). id.0) (created_by_all f b.1.instructions)
      (flat_map (λ (b : BlockId × BasicBlock). created_by_all f b.1.instructions) bs)
      ∙ ap (λ zs. zs ++ numbers (flat_map (λ (b : BlockId × BasicBlock). created_by_all f b.1.instructions) bs))
      (made_by_all b.1.instructions)
      ∙ ap (λ zs. flat_map made_at (map (λ (i : InstructionId). i.0) b.1.instructions) ++ zs) (made_by_blocks bs)
      ∙ sym (flat_map-append made_at (map (λ (i : InstructionId). i.0) b.1.instructions)
      (flat_map (λ (b : BlockId × BasicBlock). map (λ (i : InstructionId). i.0) b.1.instructions) bs))

  created_by_listed : (j : ℕ) → times (numbers (created_functions f)) j
      ≡ total (λ k. times (made_at k) j) (listed_instructions f)
  created_by_listed j = ap (λ zs. times zs j) (made_by_blocks f.body.blocks)
      ∙ flat_times made_at (listed_instructions f) j

-- ---- instructions that are listed once each

listed_total : (is : List Instruction) (ls : List ℕ) (j : ℕ) → ((k : ℕ) → k < length is → times ls k ≡ 1)
    → total (λ k. times (made (slice_get is k)) j) ls
    ≡ times (flat_map (λ (i : Instruction). number_of (created i.value)) is) j
listed_total [] ls j h = zero_total ls
listed_total (x ∷ xs) ls j h =
    let g : ℕ → ℕ = λ k. times (made (slice_get (x ∷ xs) k)) j in
    let a : total g ls ≡ taken_times (times ls 0) (times (number_of (created x.value)) j)
    + total (λ k. times (made (slice_get xs k)) j) (lowered ls) = total_lowered g ls in
    let once : times ls 0 ≡ suc zero = h 0 (omega arith) in
    let b : taken_times (times ls 0) (times (number_of (created x.value)) j) ≡ times (number_of (created x.value)) j
    + 0 = ap (λ n. taken_times n (times (number_of (created x.value)) j)) once in
    let c : total (λ k. times (made (slice_get xs k)) j) (lowered ls)
    ≡ times (flat_map (λ (i : Instruction). number_of (created i.value)) xs) j
    = listed_total xs (lowered ls) j (λ k below. lowered_times ls k ∙ h (suc k) (omega arith)) in
    let d : times (number_of (created x.value) ++ flat_map (λ (i : Instruction). number_of (created i.value)) xs) j
    ≡ times (number_of (created x.value)) j
    + times (flat_map (λ (i : Instruction). number_of (created i.value)) xs) j
    = times_both (number_of (created x.value)) (flat_map (λ (i : Instruction). number_of (created i.value)) xs) j in
    omega arith

listed_at_most : (is : List Instruction) (ls : List ℕ) (j : ℕ) → ((k : ℕ) → times ls k ≤ 1)
    → total (λ k. times (made (slice_get is k)) j) ls
    ≤ times (flat_map (λ (i : Instruction). number_of (created i.value)) is) j
listed_at_most [] ls j h = let z : total (λ k. 0) ls ≡ 0 = zero_total ls in omega arith
listed_at_most (x ∷ xs) ls j h =
    let g : ℕ → ℕ = λ k. times (made (slice_get (x ∷ xs) k)) j in
    let a : total g ls ≡ taken_times (times ls 0) (times (number_of (created x.value)) j)
    + total (λ k. times (made (slice_get xs k)) j) (lowered ls) = total_lowered g ls in
    let b : taken_times (times ls 0) (times (number_of (created x.value)) j) ≤ times (number_of (created x.value)) j =
    taken_once (times ls 0) (times (number_of (created x.value)) j) (h 0) in
    let c : total (λ k. times (made (slice_get xs k)) j) (lowered ls)
    ≤ times (flat_map (λ (i : Instruction). number_of (created i.value)) xs) j
    = listed_at_most xs (lowered ls) j (λ k. let p = lowered_times ls k in let q = h (suc k) in omega arith) in
    let d : times (number_of (created x.value) ++ flat_map (λ (i : Instruction). number_of (created i.value)) xs) j
    ≡ times (number_of (created x.value)) j
    + times (flat_map (λ (i : Instruction). number_of (created i.value)) xs) j
    = times_both (number_of (created x.value)) (flat_map (λ (i : Instruction). number_of (created i.value)) xs) j in
    omega arith

-- ---- the rules on what is listed

seen_none : (seen xs : List ℕ) (k : ℕ) → first_again seen xs ≡ None → is_among seen k ≡ true → times xs k ≡ 0
seen_none seen [] k h i = refl
seen_none seen (x ∷ xs) k h i =
    let c : times (x ∷ xs) k ≡ cond (x == k) 1 0 + times xs k = times_cons x xs k in
    elim (is_among seen x) as (λ b. is_among seen x ≡ b → (if b then Some x else first_again (x ∷ seen) xs) ≡ None
    → times (x ∷ xs) k ≡ 0) [
      | true ↦ λ e g. cc
      | false ↦ λ e g.
          let rest : times xs k ≡ 0 = seen_none (x ∷ seen) xs k g (later_among x seen k i) in
          elim (x == k) as (λ b. (x == k) ≡ b → times (x ∷ xs) k ≡ cond b 1 0 + times xs k → times (x ∷ xs) k ≡ 0) [
            | true ↦ λ s t.
                let same : is_among seen x ≡ true = subst (λ z. is_among seen z ≡ true) (sym (eqb-true x k s)) i in
                let both : false ≡ true = sym e ∙ same in cc
            | false ↦ λ s t. omega arith
          ] refl c
    ] refl h

pub once_again : (seen xs : List ℕ) (k : ℕ) → first_again seen xs ≡ None → times xs k ≤ 1
once_again seen [] k h = omega arith
once_again seen (x ∷ xs) k h =
    let c : times (x ∷ xs) k ≡ cond (x == k) 1 0 + times xs k = times_cons x xs k in
    elim (is_among seen x) as (λ b. (if b then Some x else first_again (x ∷ seen) xs) ≡ None → times (x ∷ xs) k ≤ 1) [
      | true ↦ λ g. cc
      | false ↦ λ g.
          elim (x == k) as (λ b. (x == k) ≡ b → times (x ∷ xs) k ≡ cond b 1 0 + times xs k → times (x ∷ xs) k ≤ 1) [
            | true ↦ λ s t.
                let rest : times xs k ≡ 0 = seen_none (x ∷ seen) xs k g
                (subst (λ z. is_among (x ∷ seen) z ≡ true) (eqb-true x k s) (first_among x seen)) in
                omega arith
            | false ↦ λ s t. let rest : times xs k ≤ 1 = once_again (x ∷ seen) xs k g in omega arith
          ] refl c
    ] h

not_found : (b : Bool) (y : ℕ) (o : Option ℕ) → cond b (Some y) o ≡ None → (b ≡ false) × (o ≡ None)
not_found true y o h = cc
not_found false y o h = (refl, h)

-- none of the items is looked for
found_none : (p : ℕ → Bool) (xs : List ℕ) (i x : ℕ) → find p xs ≡ None → slice_get xs i ≡ Some x → p x ≡ false
found_none p [] i x h e = cc
found_none p (y ∷ ys) zero x h e = let same : y ≡ x = cc in
    subst (λ z. p z ≡ false) same (not_found (p y) y (find p ys) h).0
found_none p (y ∷ ys) (suc i) x h e = found_none p ys i x (not_found (p y) y (find p ys) h).1 e

unless : (b : Bool) → not b ≡ false → b ≡ true
unless true h = refl
unless false h = cc

none_missing : (n : ℕ) (xs : List ℕ) (k : ℕ) → first_missing n xs ≡ None → k < n → is_among xs k ≡ true
none_missing n xs k h below =
    let plain : 0 + k ≡ k = omega arith in
    unless (is_among xs k) (found_none (λ k. not (is_among xs k)) (range_with_len 0 n) k k h
    (range_at 0 n k below ∙ ap (λ (z : ℕ). Some z) plain))

no_missing : (o : Option ℕ) (f : Option FunctionId) → missing f o ≡ Ok tt → o ≡ None
no_missing None f h = refl
no_missing (Some k) f h = cc

no_twice : (o : Option ℕ) (f : Option FunctionId) → twice f o ≡ Ok tt → o ≡ None
no_twice None f h = refl
no_twice (Some k) f h = cc

-- a function whose blocks list each instruction, and none twice, creates by its blocks what its instructions create
pub created_as_often : (o : Option FunctionId) (f : HirFunction) → instructions_listed o f ≡ Ok tt
    → none_listed_twice o f ≡ Ok tt → (j : ℕ) → times (numbers (created_functions f)) j ≡ times (created_in f) j
created_as_often o f all once j =
    let ls : List ℕ = listed_instructions f in
    let none : first_missing (length f.instructions) ls ≡ None =
    no_missing (first_missing (length f.instructions) ls) o all in
    let again : first_again [] ls ≡ None = no_twice (first_again [] ls) o once in
    let each : (k : ℕ) → k < length f.instructions → times ls k ≡ 1 = λ k below.
    let least : 1 ≤ times ls k = counted ls k (none_missing (length f.instructions) ls k none below) in
    let most : times ls k ≤ 1 = once_again [] ls k again in omega arith in
    created_by_listed f j ∙ listed_total f.instructions ls j each

-- a function whose blocks list none twice creates by its blocks no more than that
pub created_at_most : (o : Option FunctionId) (f : HirFunction) → none_listed_twice o f ≡ Ok tt → (j : ℕ)
    → times (numbers (created_functions f)) j ≤ times (created_in f) j
created_at_most o f once j =
    let ls : List ℕ = listed_instructions f in
    let again : first_again [] ls ≡ None = no_twice (first_again [] ls) o once in
    let a : times (numbers (created_functions f)) j ≡ total (λ k. times (made_at f k) j) ls = created_by_listed f j in
    let b : total (λ k. times (made_at f k) j) ls ≤ times (created_in f) j =
    listed_at_most f.instructions ls j (λ k. once_again [] ls k again) in
    omega arith

pub slot_at_most : (env : Environment) (k : ℕ) (o : Option HirFunction) → of_function ListedOnce env k o ≡ Ok tt
    → (j : ℕ) → times (numbers (created_by_slot o)) j ≤ times (created_of o) j
slot_at_most env k None once j = omega arith
slot_at_most env k (Some f) once j = created_at_most (Some (record { 0 = k })) f once j

number_at : (xs : List FunctionId) (k : ℕ) (id : FunctionId) → slice_get xs k ≡ Some id → is_among (numbers xs) id.0
    ≡ true
number_at [] k id h = cc
number_at (x ∷ xs) zero id h = let same : x ≡ id = cc in
    subst (λ (z : FunctionId). is_among (numbers (z ∷ xs)) id.0 ≡ true) (sym same) (first_among id.0 (numbers xs))
number_at (x ∷ xs) (suc k) id h = later_among x.0 (numbers xs) id.0 (number_at xs k id h)

-- each function that is analysed is one that the rules count as created
pub created_is_among : (f : HirFunction) (env : Environment) → function_fits f env ≡ true → (k : ℕ) (id : FunctionId)
    → slice_get (created_functions f) k ≡ Some id → is_among (created_in f) id.0 ≡ true
created_is_among f env fits k id at =
    let once : none_listed_twice None f ≡ Ok tt = (fitted f env fits).rule ListedOnce refl in
    let there : 1 ≤ times (numbers (created_functions f)) id.0 =
    counted (numbers (created_functions f)) id.0 (number_at (created_functions f) k id at) in
    let most : times (numbers (created_functions f)) id.0 ≤ times (created_in f) id.0 =
    created_at_most None f once id.0 in
    there_among (created_in f) id.0 (omega arith)
