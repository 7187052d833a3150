-- No rule looks at what is inferred: functions that differ in that alone keep the same rules.
use Rattle.std.specs.Prelude.{◌≡◌, ℕ, Bool, true, false, cond, length, ◌++◌, List, [], ◌∷◌, map, Option, Some, None}
use Rattle.std.specs.Prelude.{option_map, is_some, is_ok, Result, Ok, Err, ⊤, ◌&&◌, if◌then◌else◌, refl}
use Rattle.std.specs.List.{flat_map, list_all, list_any}
use Rattle.std.specs.Option.{option_map_or}
use Rattle.std.proofs.Common.{sym, ◌∙◌, ap}
use Rattle.std.proofs.lemmas.List.{length-map}
use Rattle.alias_base.specs.Answer.{◌>>=◌, all_pass}
use Rattle.alias_base.specs.Find.{same_block, value_at}
use Rattle.alias_base.specs.declared.ids.BlockId.{BlockId}
use Rattle.alias_base.specs.declared.ids.FunctionId.{FunctionId}
use Rattle.alias_hir.specs.Parts.{param_place}
use Rattle.alias_hir.specs.Terminals.{evaluation_order, terminal_places, terminal_effects, optional_block, successors}
use Rattle.alias_hir.specs.Values.{places_of, created}
use Rattle.alias_hir.specs.declared.env.Environment.{Environment}
use Rattle.alias_hir.specs.declared.hir.BasicBlock.{BasicBlock}
use Rattle.alias_hir.specs.declared.hir.HirFunction.{HirFunction}
use Rattle.alias_hir.specs.declared.hir.Instruction.{Instruction}
use Rattle.alias_hir.specs.declared.hir.ParamPattern.{ParamPattern}
use Rattle.alias_hir.specs.declared.hir.ParamPattern.TheVariants as param
use Rattle.alias_hir.specs.declared.hir.Phi.{Phi}
use Rattle.alias_hir.specs.declared.place.Place.{Place}
use Rattle.alias_hir.specs.declared.terminal.Terminal.{Terminal}
use Rattle.alias_visit.specs.Places.{identifiers_in}
use Rattle.alias_rules.specs.function_rules.Rules.{below, place_fits, created_fits, instruction_fits, phi_fits}
use Rattle.alias_rules.specs.function_rules.Rules.{block_fits, numbers_fit, is_block, entry_exists, handler_of}
use Rattle.alias_rules.specs.function_rules.Rules.{named_exists, leads_to_blocks, successors_exist, first_missing}
use Rattle.alias_rules.specs.function_rules.Rules.{missing, listed_instructions, instructions_listed, first_again}
use Rattle.alias_rules.specs.function_rules.Rules.{twice, none_listed_twice, shared, handlers_distinct, goes_to}
use Rattle.alias_rules.specs.function_rules.Rules.{has_edge, operand_fits, operands_fit, phis_fit, order_fits}
use Rattle.alias_rules.specs.function_rules.Rules.{orders_fit, repeated, places_distinct, argument_count, at_most}
use Rattle.alias_rules.specs.function_rules.Rules.{calls_fit, values_fit, context_values_fit}
use Rattle.alias_rules.specs.declared.function_rules.fault.Holder.TheVariants as holder
use Rattle.alias_rules.specs.declared.function_rules.fault.Table.TheVariants.{Identifiers, Instructions}
use Rattle.alias_rules.specs.declared.function_rules.fault.UnitFault.TheVariants as fault
use Rattle.alias_range_pass.specs.places.Keeping.{but_effect, but_context, but_value, but_instruction, but_terminal}
use Rattle.alias_range_pass.specs.places.Keeping.{but_operand, but_phi, but_block, but_entry}
use Rattle.alias_rules.specs.Fitting.{recorded_within_tables, holds_no_call, effects_fit, effects_fit_at}
use Rattle.alias_rules.specs.Fitting.{reports_no_invariant, family_rules, function_rules, function_fits_with}
use Rattle.alias_rules.specs.Fitting.{function_fits}
use Rattle.alias_rules.specs.Functions.{rule_holds, at_function, each_function, FamilyRule, Tables, Types, Signatures}
use Rattle.alias_rules.specs.Functions.{Apart, Each, family_holds}
use Rattle.alias_rules.specs.Nesting.{number_of, created_in, tree_from, tree_below}
use Rattle.alias_rules.specs.RecordedLaws.{all_pass_same, without_instruction_effects, without_block_effects}
use Rattle.alias_rules.specs.RecordedLaws.{without_effects, without_effects_again, rule_of_other_effects}
use Rattle.alias_rules.specs.RecordedLaws.{identifiers_of_other_effects, asked_mapped, then_same}
use Rattle.alias_rules.specs.Sharing.{others, family, inside, context_at, first_shared, in_two, nested_is_apart}
use Rattle.alias_rules.specs.Sharing.{identifiers_apart, identifiers_at}
use Rattle.alias_rules.specs.declared.rules.Rule.{Rule}
use Rattle.alias_rules.specs.declared.rules.Rule.TheVariants.{Numbers, Entry, Successors, Listed, ListedOnce, Handlers}
use Rattle.alias_rules.specs.declared.rules.Rule.TheVariants.{Phis, Orders, Distinct, Calls, ContextValues}
use Rattle.alias_fitting_laws.specs.bare.Bare.{ids, but_param_effect, but_place_effects, bare}
use Rattle.alias_fitting_laws.specs.bare.BareIdentifiers.{flat_mapped, params_ids, identifiers_alike}
use Rattle.alias_fitting_laws.specs.bare.BareParts.{effects_ids, value_ids, value_creates, value_arguments}
use Rattle.alias_fitting_laws.specs.bare.BareParts.{terminal_ids, terminal_successors, terminal_handler, terminal_order}
use Rattle.alias_fitting_laws.specs.bare.BareParts.{terminal_records, terminal_without}

-- ---- steps and lists

-- what passes of changed items is what passes of the items
pub all_pass_mapped : {A B E : Type 0} (f : B → Result ⊤ E) (g : A → B) (h : A → Result ⊤ E) → ((x : A) → f (g x) ≡ h x)
    → (xs : List A) → all_pass f (map g xs) ≡ all_pass h xs
all_pass_mapped f g h e [] = refl
all_pass_mapped f g h e (x ∷ xs) = then_same (f (g x)) (h x) (all_pass f (map g xs)) (all_pass h xs) (e x)
    (all_pass_mapped f g h e xs)

all_mapped : {A B : Type 0} (p : B → Bool) (g : A → B) (q : A → Bool) → ((x : A) → p (g x) ≡ q x) → (xs : List A)
    → list_all p (map g xs) ≡ list_all q xs
all_mapped p g q e [] = refl
all_mapped p g q e (x ∷ xs) = ap (λ b. b && list_all p (map g xs)) (e x) ∙ ap (λ b. q x && b) (all_mapped p g q e xs)

map_mapped : {A B C : Type 0} (f : B → C) (g : A → B) (h : A → C) → ((x : A) → f (g x) ≡ h x) → (xs : List A)
    → map f (map g xs) ≡ map h xs
map_mapped f g h e [] = refl
map_mapped f g h e (x ∷ xs) = ap (λ z. z ∷ map f (map g xs)) (e x) ∙ ap (λ z. h x ∷ z) (map_mapped f g h e xs)

found_case : (t : Bool) (x : BasicBlock) (o p : Option BasicBlock) → o ≡ option_map but_block p
    → cond t (Some (but_block x)) o ≡ option_map but_block (cond t (Some x) p)
found_case true x o p h = refl
found_case false x o p h = h

-- the block that is found is the one that was found, without the effects of its places
value_found : (es : List (BlockId × BasicBlock)) (b : BlockId) → value_at (map but_entry es) b
    ≡ option_map but_block (value_at es b)
value_found [] b = refl
value_found (e ∷ es) b = found_case (same_block b e.0) e.1 (value_at (map but_entry es) b) (value_at es b)
    (value_found es b)

some_mapped : {A B : Type 0} (f : A → B) (o : Option A) → is_some (option_map f o) ≡ is_some o
some_mapped f None = refl
some_mapped f (Some x) = refl

-- ---- no rule of one function looks at the effects of places

param_alike : (env : Environment) (p : ParamPattern) → place_fits env (param_place (but_param_effect p))
    ≡ place_fits env (param_place p)
param_alike env (param.Place p) = refl
param_alike env (param.Spread s) = refl

-- identifiers are all that the rule looks at of places
places_alike : (env : Environment) (ps qs : List Place) → ids ps ≡ ids qs → all_pass (place_fits env) ps
    ≡ all_pass (place_fits env) qs
places_alike env ps qs e =
    let fits : ℕ → Result ⊤ _ = below Identifiers (length env.identifiers) in
    sym (all_pass_mapped fits (λ (p : Place). p.identifier.0) (place_fits env) (λ p. refl) ps) ∙ ap (all_pass fits) e
    ∙ all_pass_mapped fits (λ (p : Place). p.identifier.0) (place_fits env) (λ p. refl) qs

instruction_alike : (env : Environment) (i : Instruction) → instruction_fits env (but_instruction i)
    ≡ instruction_fits env i
instruction_alike env i =
    then_same (place_fits env i.lvalue) _ _ _ refl
    (then_same _ _ _ _ (ap (created_fits env) (value_creates i.value))
    (places_alike env (places_of (but_value i.value)) (places_of i.value) (value_ids i.value)))

phi_alike : (env : Environment) (p : Phi) → phi_fits env (but_phi p) ≡ phi_fits env p
phi_alike env p =
    let g : BlockId × Place → Result ⊤ _ = λ e. place_fits env e.1 in
    then_same (place_fits env p.place) _ _ _ refl (all_pass_mapped g but_operand g (λ e. refl) p.operands)

block_alike : (env : Environment) (func : HirFunction) (b : BasicBlock)
    → block_fits env (but_place_effects func) (but_block b) ≡ block_fits env func b
block_alike env func b =
    then_same _ _ _ _ (all_pass_mapped (phi_fits env) but_phi (phi_fits env) (phi_alike env) b.phis)
    (then_same _ _ _ _
    (ap (λ n. all_pass (λ i. below Instructions n i.0) b.instructions) (length-map func.instructions but_instruction))
    (places_alike env (terminal_places (but_terminal b.terminal)) (terminal_places b.terminal)
    (terminal_ids b.terminal)))

numbers_alike : (env : Environment) (func : HirFunction) → numbers_fit env (but_place_effects func)
    ≡ numbers_fit env func
numbers_alike env func =
    then_same _ _ _ _ (all_pass_mapped (λ p. place_fits env (param_place p)) but_param_effect
    (λ p. place_fits env (param_place p)) (param_alike env) func.params)
    (then_same _ _ _ _ (all_pass_mapped (place_fits env) but_effect (place_fits env) (λ p. refl) func.context)
    (then_same (place_fits env func.returns) _ _ _ refl
    (then_same _ _ _ _
    (all_pass_mapped (instruction_fits env) but_instruction (instruction_fits env) (instruction_alike env)
    func.instructions)
    (all_pass_mapped (λ (e : BlockId × BasicBlock). block_fits env (but_place_effects func) e.1) but_entry
    (λ (e : BlockId × BasicBlock). block_fits env func e.1) (λ e. block_alike env func e.1) func.body.blocks))))

same_block_there : (func : HirFunction) (b : BlockId) → is_block (but_place_effects func) b ≡ is_block func b
same_block_there func b = ap is_some (value_found func.body.blocks b)
    ∙ some_mapped but_block (value_at func.body.blocks b)

entry_alike : (f : Option FunctionId) (func : HirFunction) → entry_exists f (but_place_effects func)
    ≡ entry_exists f func
entry_alike f func = ap (λ t. if t then Ok tt else Err (fault.EntryMissing f)) (same_block_there func func.body.entry)

named_alike : (f : Option FunctionId) (func : HirFunction) (b : BlockId) (cs : List BlockId)
    → all_pass (named_exists f (but_place_effects func) b) cs ≡ all_pass (named_exists f func b) cs
named_alike f func b cs =
    all_pass_same (named_exists f (but_place_effects func) b) (named_exists f func b)
    (λ c. ap (λ t. if t then Ok tt else Err (fault.SuccessorMissing f b c)) (same_block_there func c)) cs

leads_alike : (f : Option FunctionId) (func : HirFunction) (b : BlockId) (t : Terminal)
    → leads_to_blocks f (but_place_effects func) b (but_terminal t) ≡ leads_to_blocks f func b t
leads_alike f func b t =
    then_same _ _ _ _
    (ap (all_pass (named_exists f (but_place_effects func) b)) (terminal_successors t)
    ∙ named_alike f func b (successors t))
    (ap (λ o. all_pass (named_exists f (but_place_effects func) b) (optional_block o)) (terminal_handler t)
    ∙ named_alike f func b (optional_block (handler_of t)))

successors_alike : (f : Option FunctionId) (func : HirFunction) → successors_exist f (but_place_effects func)
    ≡ successors_exist f func
successors_alike f func =
    all_pass_mapped (λ (e : BlockId × BasicBlock). leads_to_blocks f (but_place_effects func) e.0 e.1.terminal)
    but_entry (λ (e : BlockId × BasicBlock). leads_to_blocks f func e.0 e.1.terminal)
    (λ e. leads_alike f func e.0 e.1.terminal) func.body.blocks

listed_alike : (func : HirFunction) → listed_instructions (but_place_effects func) ≡ listed_instructions func
listed_alike func =
    let g : BlockId × BasicBlock → List ℕ = λ e. map (λ i. i.0) e.1.instructions in
    flat_mapped g but_entry g (λ e. refl) func.body.blocks

all_listed_alike : (f : Option FunctionId) (func : HirFunction) → instructions_listed f (but_place_effects func)
    ≡ instructions_listed f func
all_listed_alike f func =
    ap (λ n. missing f (first_missing n (listed_instructions (but_place_effects func))))
    (length-map func.instructions but_instruction)
    ∙ ap (λ xs. missing f (first_missing (length func.instructions) xs)) (listed_alike func)

listed_once_alike : (f : Option FunctionId) (func : HirFunction) → none_listed_twice f (but_place_effects func)
    ≡ none_listed_twice f func
listed_once_alike f func = ap (λ xs. twice f (first_again [] xs)) (listed_alike func)

handlers_alike : (f : Option FunctionId) (func : HirFunction) → handlers_distinct f (but_place_effects func)
    ≡ handlers_distinct f func
handlers_alike f func =
    let g : BlockId × BasicBlock → List ℕ = λ e. map (λ b. b.0) (optional_block (handler_of e.1.terminal)) in
    ap (λ xs. shared f (first_again [] xs))
    (flat_mapped g but_entry g (λ e. ap (λ o. map (λ (b : BlockId). b.0) (optional_block o))
    (terminal_handler e.1.terminal)) func.body.blocks)

-- an edge is one of the successors of a block
edge_alike : (func : HirFunction) (a b : BlockId) → has_edge (but_place_effects func) a b ≡ has_edge func a b
edge_alike func a b =
    let g : BasicBlock → Bool = λ x. goes_to b x.terminal in
    ap (λ o. option_map_or g o false) (value_found func.body.blocks a)
    ∙ asked_mapped g but_block g false (λ x. ap (list_any (same_block b)) (terminal_successors x.terminal))
    (value_at func.body.blocks a)

operands_alike : (f : Option FunctionId) (func : HirFunction) (b : BlockId) (p : Phi)
    → operands_fit f (but_place_effects func) b (but_phi p) ≡ operands_fit f func b p
operands_alike f func b p =
    all_pass_mapped (λ (e : BlockId × Place). operand_fits f (but_place_effects func) b e.0) but_operand
    (λ (e : BlockId × Place). operand_fits f func b e.0)
    (λ e. ap (λ t. if t then Ok tt else Err (fault.PhiNoPredecessor f b e.0)) (edge_alike func e.0 b)) p.operands

phis_alike : (f : Option FunctionId) (func : HirFunction) → phis_fit f (but_place_effects func) ≡ phis_fit f func
phis_alike f func =
    all_pass_mapped (λ (e : BlockId × BasicBlock). all_pass (operands_fit f (but_place_effects func) e.0) e.1.phis)
    but_entry (λ (e : BlockId × BasicBlock). all_pass (operands_fit f func e.0) e.1.phis)
    (λ e. all_pass_mapped (operands_fit f (but_place_effects func) e.0) but_phi (operands_fit f func e.0)
    (operands_alike f func e.0) e.1.phis) func.body.blocks

orders_alike : (f : Option FunctionId) (func : HirFunction) → orders_fit f (but_place_effects func) ≡ orders_fit f func
orders_alike f func =
    then_same _ _ _ _
    (all_pass_mapped (λ (i : Instruction). order_fits f i.id) but_instruction (λ (i : Instruction). order_fits f i.id)
    (λ x. refl) func.instructions)
    (all_pass_mapped (λ (e : BlockId × BasicBlock). order_fits f (evaluation_order e.1.terminal)) but_entry
    (λ (e : BlockId × BasicBlock). order_fits f (evaluation_order e.1.terminal))
    (λ e. ap (order_fits f) (terminal_order e.1.terminal)) func.body.blocks)

distinct_alike : (f : Option FunctionId) (func : HirFunction) → places_distinct f (but_place_effects func)
    ≡ places_distinct f func
distinct_alike f func =
    ap (λ xs. repeated f (first_again [] (xs ++ ids (map but_effect func.context) ++ func.returns.identifier.0 ∷ [])))
    (params_ids func.params)
    ∙ ap (λ xs. repeated f (first_again []
    (map (λ p. (param_place p).identifier.0) func.params ++ xs ++ func.returns.identifier.0 ∷ [])))
    (effects_ids func.context)

calls_alike : (f : Option FunctionId) (func : HirFunction) → calls_fit f (but_place_effects func) ≡ calls_fit f func
calls_alike f func =
    let g : Instruction → Result ⊤ _ = λ i. at_most (holder.Function f) 1024 (argument_count i.value) in
    all_pass_mapped g but_instruction g (λ i. ap (at_most (holder.Function f) 1024) (value_arguments i.value))
    func.instructions

values_alike : (f : Option FunctionId) (func : HirFunction) → context_values_fit f (but_place_effects func)
    ≡ context_values_fit f func
values_alike f func = ap (λ n. if values_fit f n (length func.context_values) then Ok tt
    else Err (fault.ContextValues f)) (length-map func.context but_effect)

rule_alike : (r : Rule) (env : Environment) (f : Option FunctionId) (func : HirFunction)
    → rule_holds r env f (but_place_effects func) ≡ rule_holds r env f func
rule_alike Numbers env f func = numbers_alike env func
rule_alike Entry env f func = entry_alike f func
rule_alike Successors env f func = successors_alike f func
rule_alike Listed env f func = all_listed_alike f func
rule_alike ListedOnce env f func = listed_once_alike f func
rule_alike Handlers env f func = handlers_alike f func
rule_alike Phis env f func = phis_alike f func
rule_alike Orders env f func = orders_alike f func
rule_alike Distinct env f func = distinct_alike f func
rule_alike Calls env f func = calls_alike f func
rule_alike ContextValues env f func = values_alike f func

created_alike : (func : HirFunction) → created_in (but_place_effects func) ≡ created_in func
created_alike func =
    let g : Instruction → List ℕ = λ i. number_of (created i.value) in
    flat_mapped g but_instruction g (λ i. ap number_of (value_creates i.value)) func.instructions

-- ---- functions that differ in what is inferred alone

-- nothing is left that is taken away
without_twice : (f : HirFunction) → without_effects f ≡ without_effects (without_effects f)
without_twice f =
    ap (λ es. record (without_effects f) { body = record f.body { blocks = es } })
    (sym (map_mapped without_block_effects without_block_effects without_block_effects
    (λ e. ap (λ t. (e.0, record e.1 { terminal = t })) (without_effects_again [] e.1.terminal)) f.body.blocks))
    ∙ ap (λ is. record (without_effects (without_effects f)) { instructions = is })
    (sym (map_mapped without_instruction_effects without_instruction_effects without_instruction_effects (λ i. refl)
    f.instructions))

rule_bare : (r : Rule) (env : Environment) (o : Option FunctionId) (f : HirFunction) → rule_holds r env o (bare f)
    ≡ rule_holds r env o f
rule_bare r env o f = rule_alike r env o (without_effects f)
    ∙ rule_of_other_effects r env o f (without_effects f) (without_twice f)

created_bare : (f : HirFunction) → created_in (bare f) ≡ created_in f
created_bare f =
    let g : Instruction → List ℕ = λ i. number_of (created i.value) in
    created_alike (without_effects f) ∙ flat_mapped g without_instruction_effects g (λ i. refl) f.instructions

identifiers_bare : (env : Environment) (f : HirFunction) → identifiers_in env (bare f) ≡ identifiers_in env f
identifiers_bare env f = identifiers_alike env (without_effects f)
    ∙ identifiers_of_other_effects env f (without_effects f) (without_twice f)

-- they create the same functions
pub created_of_bare : (f g : HirFunction) → bare f ≡ bare g → created_in g ≡ created_in f
created_of_bare f g e = sym (created_bare g) ∙ ap created_in (sym e) ∙ created_bare f

-- their places have the same identifiers
pub identifiers_of_bare : (env : Environment) (f g : HirFunction) → bare f ≡ bare g → identifiers_in env g
    ≡ identifiers_in env f
identifiers_of_bare env f g e = sym (identifiers_bare env g) ∙ ap (identifiers_in env) (sym e) ∙ identifiers_bare env f

-- and so have their context places
pub context_of_bare : (f g : HirFunction) → bare f ≡ bare g → map (λ (p : Place). p.identifier.0) g.context
    ≡ map (λ (p : Place). p.identifier.0) f.context
context_of_bare f g e = sym (effects_ids g.context) ∙ ap (λ (h : HirFunction). ids h.context) (sym e)
    ∙ effects_ids f.context

-- each rule of one function is kept, or broken, alike
pub rule_of_bare : (r : Rule) (env : Environment) (o : Option FunctionId) (f g : HirFunction) → bare f ≡ bare g
    → rule_holds r env o g ≡ rule_holds r env o f
rule_of_bare r env o f g e = sym (rule_bare r env o g) ∙ ap (rule_holds r env o) (sym e) ∙ rule_bare r env o f

-- the functions below are the same
pub tree_of_bare : (env : Environment) (f g : HirFunction) → bare f ≡ bare g → tree_below env g ≡ tree_below env f
tree_of_bare env f g e = ap (tree_from 63 env []) (created_of_bare f g e)

each_of_bare : (r : Rule) (env : Environment) (f g : HirFunction) (ks : List ℕ) → bare f ≡ bare g
    → each_function r env g ks ≡ each_function r env f ks
each_of_bare r env f g ks e = ap (λ p. p >>= (λ _. all_pass (at_function r env) ks)) (rule_of_bare r env None f g e)

apart_of_bare : (env : Environment) (f g : HirFunction) (ks : List ℕ) → bare f ≡ bare g → identifiers_apart env g ks
    ≡ identifiers_apart env f ks
apart_of_bare env f g ks e =
    all_pass_same (nested_is_apart env g ks) (nested_is_apart env f ks)
    (λ k. ap (λ (xs : List ℕ). in_two k (first_shared (length env.identifiers) (inside env k)
    (xs ++ flat_map (identifiers_at env) (others (family env k) ks)) (context_at env k)))
    (identifiers_of_bare env f g e)) ks

family_of_bare : (env : Environment) (f g : HirFunction) (ks : List ℕ) → bare f ≡ bare g → (rule : FamilyRule)
    → family_holds env g ks rule ≡ family_holds env f ks rule
family_of_bare env f g ks e Tables = refl
family_of_bare env f g ks e Types = refl
family_of_bare env f g ks e Signatures = refl
family_of_bare env f g ks e Apart = apart_of_bare env f g ks e
family_of_bare env f g ks e (Each r) = each_of_bare r env f g ks e

-- and so are the rules of all of them
pub rules_of_bare : (env : Environment) (f g : HirFunction) (ks : List ℕ) → bare f ≡ bare g → function_rules env g ks
    ≡ function_rules env f ks
rules_of_bare env f g ks e = all_pass_same (family_holds env g ks) (family_holds env f ks) (family_of_bare env f g ks e)
    family_rules

-- ---- functions that differ in the effects of places alone, or in what is recorded alone

without_swapped : (f : HirFunction) → bare f ≡ without_effects (but_place_effects f)
without_swapped f =
    let blocks : map but_entry (map without_block_effects f.body.blocks)
    ≡ map without_block_effects (map but_entry f.body.blocks)
    = map_mapped but_entry without_block_effects (λ (e : BlockId × BasicBlock). without_block_effects (but_entry e))
    (λ e. ap (λ t. (e.0, record (but_block e.1) { terminal = t })) (terminal_without e.1.terminal)) f.body.blocks
    ∙ sym (map_mapped without_block_effects but_entry
    (λ (e : BlockId × BasicBlock). without_block_effects (but_entry e)) (λ e. refl) f.body.blocks) in
    let instructions : map but_instruction (map without_instruction_effects f.instructions)
    ≡ map without_instruction_effects (map but_instruction f.instructions)
    = map_mapped but_instruction without_instruction_effects
    (λ (i : Instruction). without_instruction_effects (but_instruction i)) (λ i. refl) f.instructions
    ∙ sym (map_mapped without_instruction_effects but_instruction
    (λ (i : Instruction). without_instruction_effects (but_instruction i)) (λ i. refl) f.instructions) in
    ap (λ es. record (bare f) { body = record f.body { blocks = es } }) blocks
    ∙ ap (λ is. record (without_effects (but_place_effects f)) { instructions = is }) instructions

-- the effects of places are among what is inferred
pub bare_of_places : (f g : HirFunction) → but_place_effects f ≡ but_place_effects g → bare f ≡ bare g
bare_of_places f g e = without_swapped f ∙ ap without_effects e ∙ sym (without_swapped g)

-- and so is what is recorded
pub bare_of_effects : (f g : HirFunction) → without_effects f ≡ without_effects g → bare f ≡ bare g
bare_of_effects f g e = ap but_place_effects e

-- and the effects of context places
pub bare_of_context : (f : HirFunction) → bare (but_context f) ≡ bare f
bare_of_context f = ap (λ ps. record (bare f) { context = ps })
    (map_mapped but_effect but_effect but_effect (λ p. refl) f.context)

effects_alike : (env : Environment) (f : HirFunction) → effects_fit env (but_place_effects f) ≡ effects_fit env f
effects_alike env f =
    let p : Instruction → Bool = λ i. recorded_within_tables env i.effects in
    let q : BlockId × BasicBlock → Bool = λ e. recorded_within_tables env (terminal_effects e.1.terminal) in
    ap (λ b. b && list_all q (map but_entry f.body.blocks) && recorded_within_tables env f.aliasing_effects
    && holds_no_call f.aliasing_effects) (all_mapped p but_instruction p (λ i. refl) f.instructions)
    ∙ ap (λ b. list_all p f.instructions && b && recorded_within_tables env f.aliasing_effects
    && holds_no_call f.aliasing_effects) (all_mapped q but_entry q
    (λ e. ap (recorded_within_tables env) (terminal_records e.1.terminal)) f.body.blocks)

-- what is recorded is the same, so it fits alike
pub effects_of_places : (env : Environment) (f g : HirFunction) → but_place_effects f ≡ but_place_effects g
    → effects_fit env g ≡ effects_fit env f
effects_of_places env f g e = sym (effects_alike env g) ∙ ap (effects_fit env) (sym e) ∙ effects_alike env f

with_tree : (p q : List ℕ → Bool) → ((ks : List ℕ) → p ks ≡ q ks) → (o : Option (List ℕ)) → option_map_or p o false
    ≡ option_map_or q o false
with_tree p q e None = refl
with_tree p q e (Some ks) = e ks

-- the inference takes a function that differs in the effects of places alone from one that it takes
pub fits_with_other_places : (f g : HirFunction) (env : Environment) → but_place_effects f ≡ but_place_effects g
    → function_fits f env ≡ true → function_fits g env ≡ true
fits_with_other_places f g env e h =
    let b : bare f ≡ bare g = bare_of_places f g e in
    let with_same : (ks : List ℕ) → function_fits_with env g ks ≡ function_fits_with env f ks = λ ks.
    ap (λ r. is_ok r && effects_fit env g && list_all (effects_fit_at env) ks && reports_no_invariant env)
    (rules_of_bare env f g ks b)
    ∙ ap (λ t. is_ok (function_rules env f ks) && t && list_all (effects_fit_at env) ks && reports_no_invariant env)
    (effects_of_places env f g e) in
    ap (λ o. option_map_or (function_fits_with env g) o false) (tree_of_bare env f g b)
    ∙ with_tree (function_fits_with env g) (function_fits_with env f) with_same (tree_below env f) ∙ h
