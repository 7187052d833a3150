-- What holds of the instructions of a made unit.
use Rattle.std.proofs.Common.{◌≡◌, refl, ℕ, suc, zero, ◌+◌, ◌*◌, ◌<◌, ◌≤◌, Bool, true, false, eqb, ◌||◌, [], ◌∷◌}
use Rattle.std.proofs.Common.{length, None, Result, Ok, Err, arith}
use Rattle.std.specs.Prelude.{⊤, if◌then◌else◌, nat_lt}
use Rattle.std.specs.List.{flat_map, list_all, range_with_len}
use Rattle.std.proofs.lemmas.Bool.Decides.{nat_tests}
use Rattle.alias_base.specs.Answer.{◌>>=◌, all_pass}
use Rattle.alias_hir.specs.Values.{created, places_of}
use Rattle.alias_hir.specs.declared.env.Environment.{Environment}
use Rattle.alias_hir.specs.declared.hir.Instruction.{Instruction}
use Rattle.alias_hir.specs.declared.place.Place.{Place}
use Rattle.alias_hir.specs.declared.value.ArrayElement.TheVariants as element
use Rattle.alias_hir.specs.declared.value.InstructionValue.{InstructionValue}
use Rattle.alias_hir.specs.declared.value.InstructionValue.TheVariants.{ArrayExpression, LoadLocal, Primitive}
use Rattle.alias_hir.specs.declared.value.InstructionValue.TheVariants.{PropertyLoad}
use Rattle.alias_rules.specs.declared.function_rules.fault.Holder.TheVariants as holder
use Rattle.alias_rules.specs.declared.function_rules.fault.Table.{Table}
use Rattle.alias_rules.specs.function_rules.Rules.{below, place_fits, created_fits, instruction_fits, order_fits}
use Rattle.alias_rules.specs.function_rules.Rules.{place_is_uninferred, instruction_is_uninferred, at_most}
use Rattle.alias_rules.specs.function_rules.Rules.{argument_count}
use Rattle.alias_made.specs.Draws.{state_before, block_drawn}
use Rattle.alias_made.specs.Instructions.{use_of, object_of, value_of, instructions_of}
use Rattle.alias_made.specs.Units.{drawn_instructions, made_instructions}
use Rattle.alias_made.specs.declared.draws.BlockDraw.{BlockDraw}
use Rattle.alias_made.specs.laws.RangeLaws.{then_passes, both, different, each_list_passes, each_list_holds}

-- ---- tests that decide a step

pub when_true : {E : Type 0} (b : Bool) (f : E) (ok : Result ⊤ E) → b ≡ true → ok ≡ Ok tt → (if b then ok else Err f)
    ≡ Ok tt
when_true true f ok holds is = is
when_true false f ok holds is = cc

when_neither : {E : Type 0} (a b : Bool) (f : E) (ok : Result ⊤ E) → a ≡ false → b ≡ false → ok ≡ Ok tt
    → (if (a || b) then Err f else ok) ≡ Ok tt
when_neither true b f ok first second is = cc
when_neither false true f ok first second is = cc
when_neither false false f ok first second is = is

less : (k n : ℕ) → k < n → nat_lt k n ≡ true
less k n h = grind (arith, nat_tests)

pub number_fits : (table : Table) (len number : ℕ) → number < len → below table len number ≡ Ok tt
number_fits table len number h = when_true (nat_lt number len) _ (Ok tt) (less number len h) refl

pub order_within : (n : ℕ) → 0 < n → n < 4294967295 → order_fits None (record { 0 = n }) ≡ Ok tt
order_within n some limit = when_neither (eqb n 0) (eqb n 4294967295) _ (Ok tt)
    (different n 0 (λ e. absurd (omega (arith, e)))) (different n 4294967295 (λ e. absurd (omega (arith, e)))) refl

-- ---- the kinds of value

choose : (P : InstructionValue → Type 0) (b : Bool) (x y : InstructionValue) → P x → P y → P (if b then x else y)
choose P true x y p q = p
choose P false x y p q = q

-- what holds of each kind
pub by_kind : (P : InstructionValue → Type 0) (kind : ℕ) (o : Place) → P (LoadLocal o)
    → P (ArrayExpression (element.Place o ∷ [])) → P (PropertyLoad o) → P Primitive → P (value_of kind o)
by_kind P kind o load array property primitive =
    choose P (eqb kind 0) _ _ load (choose P (eqb kind 1) _ _ array (choose P (eqb kind 2) _ _ property primitive))

-- ---- the instructions of one block

-- the block whose object is used is no later one
pub source_earlier : (state block : ℕ) → (block_drawn state block).source ≤ block
source_earlier state block = omega arith

identifiers_there : (env : Environment) (block : ℕ) (d : BlockDraw) → d.source ≤ block → 3 * block + 3
    < length env.identifiers → all_pass (instruction_fits env) (instructions_of block d) ≡ Ok tt
identifiers_there env block d earlier there =
    let place : (n : ℕ) → n < length env.identifiers → place_fits env (use_of n) ≡ Ok tt =
    λ n h. number_fits _ (length env.identifiers) n h in
    let source : place_fits env (use_of (object_of d.source)) ≡ Ok tt = place (object_of d.source) (omega arith) in
    let computed : InstructionValue → Type 0 =
    λ v. (created_fits env (created v) >>= (λ _. all_pass (place_fits env) (places_of v))) ≡ Ok tt in
    let alone : all_pass (place_fits env) (use_of (object_of d.source) ∷ []) ≡ Ok tt =
    then_passes _ (Ok tt) source refl in
    let second : computed (value_of d.kind (use_of (object_of d.source))) =
    by_kind computed d.kind _ alone alone alone refl in
    let stored : all_pass (place_fits env) (use_of (object_of d.source) ∷ use_of (object_of block + 1) ∷ []) ≡ Ok tt =
    then_passes _ _ source (then_passes _ (Ok tt) (place (object_of block + 1) (omega arith)) refl) in
    then_passes _ _ (then_passes _ _ (place (object_of block) (omega arith)) refl)
    (then_passes _ _ (then_passes _ _ (place (object_of block + 1) (omega arith)) second)
    (then_passes _ (Ok tt) (then_passes _ _ (place (object_of block + 2) (omega arith)) stored) refl))

orders_within : (block : ℕ) (d : BlockDraw) → block < 1000
    → all_pass (λ (i : Instruction). order_fits None i.id) (instructions_of block d) ≡ Ok tt
orders_within block d limit =
    then_passes _ _ (order_within (4 * block + 1) (omega arith) (omega arith))
    (then_passes _ _ (order_within (4 * block + 2) (omega arith) (omega arith))
    (then_passes _ (Ok tt) (order_within (4 * block + 3) (omega arith) (omega arith)) refl))

uninferred : (block : ℕ) (d : BlockDraw) → list_all instruction_is_uninferred (instructions_of block d) ≡ true
uninferred block d =
    let plain : InstructionValue → Type 0 = λ v. list_all place_is_uninferred (places_of v) ≡ true in
    both (list_all place_is_uninferred (places_of (value_of d.kind (use_of (object_of d.source))))) true
    (by_kind plain d.kind _ refl refl refl refl) refl

no_calls : (block : ℕ) (d : BlockDraw) → all_pass
    (λ (i : Instruction). at_most (holder.Function None) 1024 (argument_count i.value)) (instructions_of block d)
    ≡ Ok tt
no_calls block d =
    let short : InstructionValue → Type 0 = λ v. at_most (holder.Function None) 1024 (argument_count v) ≡ Ok tt in
    then_passes _ (Ok tt) (by_kind short d.kind _ refl refl refl refl) refl

-- ---- all instructions

pub instructions_fit : (env : Environment) (seed size : ℕ) → length env.identifiers ≡ 3 * size + 1
    → all_pass (instruction_fits env) (made_instructions seed size) ≡ Ok tt
instructions_fit env seed size there =
    each_list_passes (instruction_fits env) (drawn_instructions seed) 0 size
    (λ block below. identifiers_there env block (block_drawn (state_before seed block) block)
    (source_earlier (state_before seed block) block) (omega (arith, there)))

pub instruction_orders_fit : (seed size : ℕ) → size ≤ 1000
    → all_pass (λ (i : Instruction). order_fits None i.id) (made_instructions seed size) ≡ Ok tt
instruction_orders_fit seed size limit =
    each_list_passes (λ (i : Instruction). order_fits None i.id) (drawn_instructions seed) 0 size
    (λ block below. orders_within block (block_drawn (state_before seed block) block) (omega arith))

pub instructions_uninferred : (seed size : ℕ) → list_all instruction_is_uninferred (made_instructions seed size) ≡ true
instructions_uninferred seed size = each_list_holds instruction_is_uninferred (drawn_instructions seed) 0 size
    (λ block below. uninferred block (block_drawn (state_before seed block) block))

pub instructions_call_nothing : (seed size : ℕ)
    → all_pass (λ (i : Instruction). at_most (holder.Function None) 1024 (argument_count i.value))
    (made_instructions seed size) ≡ Ok tt
instructions_call_nothing seed size =
    each_list_passes (λ (i : Instruction). at_most (holder.Function None) 1024 (argument_count i.value))
    (drawn_instructions seed) 0 size (λ block below. no_calls block (block_drawn (state_before seed block) block))

length-from : (seed a n : ℕ) → length (flat_map (drawn_instructions seed) (range_with_len a n)) ≡ 3 * n
length-from seed a zero = refl
length-from seed a (suc n) = let rest : length (flat_map (drawn_instructions seed) (range_with_len (a + 1) n)) ≡ 3 * n =
    length-from seed (a + 1) n in omega (arith, rest)

pub length-made_instructions : (seed size : ℕ) → length (made_instructions seed size) ≡ 3 * size
length-made_instructions seed size = length-from seed 0 size
