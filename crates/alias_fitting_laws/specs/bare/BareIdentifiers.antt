-- The identifiers in a function: those of the context places that it creates functions with, and those of its own
-- places, whatever their effects are.
use Rattle.std.specs.Prelude.{◌≡◌, ℕ, List, [], ◌∷◌, ◌++◌, map, Option, Some, None, slice_get, refl}
use Rattle.std.specs.List.{flat_map}
use Rattle.std.specs.Option.{option_map_or}
use Rattle.std.proofs.Common.{sym, ◌∙◌, ap}
use Rattle.alias_base.specs.declared.ids.BlockId.{BlockId}
use Rattle.alias_base.specs.declared.ids.FunctionId.{FunctionId}
use Rattle.alias_hir.specs.Parts.{param_place}
use Rattle.alias_hir.specs.Terminals.{terminal_places}
use Rattle.alias_hir.specs.Values.{places_of, created}
use Rattle.alias_hir.specs.declared.env.Environment.{Environment}
use Rattle.alias_hir.specs.declared.hir.BasicBlock.{BasicBlock}
use Rattle.alias_hir.specs.declared.hir.HirFunction.{HirFunction}
use Rattle.alias_hir.specs.declared.hir.Instruction.{Instruction}
use Rattle.alias_hir.specs.declared.hir.ParamPattern.{ParamPattern}
use Rattle.alias_hir.specs.declared.hir.ParamPattern.TheVariants as param
use Rattle.alias_hir.specs.declared.hir.Phi.{Phi}
use Rattle.alias_hir.specs.declared.place.Place.{Place}
use Rattle.alias_visit.specs.Places.{created_places, instruction_places, phi_places, block_places, identifiers_in}
use Rattle.alias_range_pass.specs.places.Keeping.{but_effect, but_value, but_instruction, but_terminal, but_operand}
use Rattle.alias_range_pass.specs.places.Keeping.{but_phi, but_block, but_entry}
use Rattle.alias_rules.specs.Sharing.{context_of, context_at}
use Rattle.alias_fitting_laws.specs.bare.Bare.{ids, but_param_effect, but_place_effects}
use Rattle.alias_fitting_laws.specs.bare.BareParts.{ids_append, effects_ids, value_ids, value_creates, terminal_ids}

-- ---- lists

-- what is listed of changed items is what is listed of the items
pub flat_mapped : {A B C : Type 0} (f : B → List C) (g : A → B) (h : A → List C) → ((x : A) → f (g x) ≡ h x)
    → (xs : List A) → flat_map f (map g xs) ≡ flat_map h xs
flat_mapped f g h e [] = refl
flat_mapped f g h e (x ∷ xs) = ap (λ z. z ++ flat_map f (map g xs)) (e x) ∙ ap (λ z. h x ++ z) (flat_mapped f g h e xs)

-- lists that are the same of each item
pub flat_same : {X Y : Type 0} (f g : X → List Y) → ((x : X) → f x ≡ g x) → (xs : List X) → flat_map f xs
    ≡ flat_map g xs
flat_same f g h [] = refl
flat_same f g h (x ∷ xs) = ap (λ l. l ++ flat_map f xs) (h x) ∙ ap (λ l. g x ++ l) (flat_same f g h xs)

ids_flat : {X : Type 0} (f : X → List Place) (g : X → List ℕ) → ((x : X) → ids (f x) ≡ g x) → (xs : List X)
    → ids (flat_map f xs) ≡ flat_map g xs
ids_flat f g h [] = refl
ids_flat f g h (x ∷ xs) = ids_append (f x) (flat_map f xs) ∙ ap (λ l. l ++ ids (flat_map f xs)) (h x)
    ∙ ap (λ l. g x ++ l) (ids_flat f g h xs)

-- parameters without the effects of their places have the identifiers that they had
pub params_ids : (ps : List ParamPattern) → map (λ p. (param_place p).identifier.0) (map but_param_effect ps)
    ≡ map (λ p. (param_place p).identifier.0) ps
params_ids [] = refl
params_ids (param.Place p ∷ ps) = ap (λ z. p.identifier.0 ∷ z) (params_ids ps)
params_ids (param.Spread s ∷ ps) = ap (λ z. s.place.identifier.0 ∷ z) (params_ids ps)

places_of_params : (ps : List ParamPattern) → ids (map param_place ps) ≡ map (λ p. (param_place p).identifier.0) ps
places_of_params [] = refl
places_of_params (p ∷ ps) = ap (λ z. (param_place p).identifier.0 ∷ z) (places_of_params ps)

-- ---- the identifiers in a function, by its parts

-- those of the context of the function that is created
abbrev created_ids : (ℕ → List ℕ) → Option FunctionId → List ℕ
created_ids contexts None = []
created_ids contexts (Some f) = contexts f.0

-- those of the instruction, where the contexts of functions have these
abbrev instruction_ids : (ℕ → List ℕ) → Instruction → List ℕ
instruction_ids contexts i = i.lvalue.identifier.0 ∷ created_ids contexts (created i.value) ++ ids (places_of i.value)

-- those of a block
abbrev entry_ids : BlockId × BasicBlock → List ℕ
entry_ids e = ids (block_places e.1)

-- those of the parameters, of the context, of what is returned, of the instructions and of the blocks
abbrev parts : (ℕ → List ℕ) → HirFunction → List ℕ
parts contexts f =
    map (λ p. (param_place p).identifier.0) f.params ++ ids f.context ++ f.returns.identifier.0
    ∷ flat_map (instruction_ids contexts) f.instructions ++ flat_map entry_ids f.body.blocks

context_of_places : (o : Option HirFunction) → ids (option_map_or (λ (g : HirFunction). g.context) o []) ≡ context_of o
context_of_places None = refl
context_of_places (Some g) = refl

created_in_parts : (env : Environment) (o : Option FunctionId) → ids (created_places env o)
    ≡ created_ids (context_at env) o
created_in_parts env None = refl
created_in_parts env (Some f) = context_of_places (slice_get env.functions f.0)

instruction_in_parts : (env : Environment) (i : Instruction) → ids (instruction_places env i)
    ≡ instruction_ids (context_at env) i
instruction_in_parts env i =
    ids_append (i.lvalue ∷ created_places env (created i.value)) (places_of i.value)
    ∙ ap (λ l. i.lvalue.identifier.0 ∷ l ++ ids (places_of i.value)) (created_in_parts env (created i.value))

in_parts : (env : Environment) (f : HirFunction) → identifiers_in env f ≡ parts (context_at env) f
in_parts env f =
    let instructions : List Place = flat_map (instruction_places env) f.instructions in
    let blocks : List Place = flat_map (λ (e : BlockId × BasicBlock). block_places e.1) f.body.blocks in
    ids_append (map param_place f.params ++ f.context ++ f.returns ∷ instructions) blocks
    ∙ ap (λ l. l ++ ids blocks) (ids_append (map param_place f.params ++ f.context) (f.returns ∷ instructions)
    ∙ ap (λ l. l ++ ids (f.returns ∷ instructions)) (ids_append (map param_place f.params) f.context))
    ∙ ap (λ l. l ++ ids f.context ++ f.returns.identifier.0 ∷ ids instructions ++ ids blocks)
    (places_of_params f.params)
    ∙ ap (λ l. map (λ p. (param_place p).identifier.0) f.params ++ ids f.context ++ f.returns.identifier.0 ∷ l
    ++ ids blocks) (ids_flat (instruction_places env) (instruction_ids (context_at env)) (instruction_in_parts env)
    f.instructions)
    ∙ ap (λ l. map (λ p. (param_place p).identifier.0) f.params ++ ids f.context ++ f.returns.identifier.0
    ∷ flat_map (instruction_ids (context_at env)) f.instructions ++ l)
    (ids_flat (λ (e : BlockId × BasicBlock). block_places e.1) entry_ids (λ e. refl) f.body.blocks)

-- ---- other environments

created_across : (a b : ℕ → List ℕ) → ((k : ℕ) → a k ≡ b k) → (o : Option FunctionId) → created_ids a o
    ≡ created_ids b o
created_across a b h None = refl
created_across a b h (Some f) = h f.0

-- of the environment only the identifiers of contexts are looked at
pub identifiers_across : (env more : Environment) → ((k : ℕ) → context_at more k ≡ context_at env k) → (f : HirFunction)
    → identifiers_in more f ≡ identifiers_in env f
identifiers_across env more h f =
    in_parts more f
    ∙ ap (λ l. map (λ p. (param_place p).identifier.0) f.params ++ ids f.context ++ f.returns.identifier.0 ∷ l
    ++ flat_map entry_ids f.body.blocks)
    (flat_same (instruction_ids (context_at more)) (instruction_ids (context_at env))
    (λ i. ap (λ l. i.lvalue.identifier.0 ∷ l ++ ids (places_of i.value))
    (created_across (context_at more) (context_at env) h (created i.value))) f.instructions)
    ∙ sym (in_parts env f)

-- ---- other effects of places

operands_ids : (es : List (BlockId × Place)) → ids (map (λ (e : BlockId × Place). e.1) (map but_operand es))
    ≡ ids (map (λ (e : BlockId × Place). e.1) es)
operands_ids [] = refl
operands_ids (e ∷ es) = ap (λ z. e.1.identifier.0 ∷ z) (operands_ids es)

phi_ids : (p : Phi) → ids (phi_places (but_phi p)) ≡ ids (phi_places p)
phi_ids p = ap (λ z. p.place.identifier.0 ∷ z) (operands_ids p.operands)

phis_ids : (ps : List Phi) → ids (flat_map phi_places (map but_phi ps)) ≡ ids (flat_map phi_places ps)
phis_ids ps =
    let g : Phi → List ℕ = λ p. ids (phi_places p) in
    ids_flat phi_places g (λ p. refl) (map but_phi ps) ∙ flat_mapped g but_phi g phi_ids ps
    ∙ sym (ids_flat phi_places g (λ p. refl) ps)

block_ids : (b : BasicBlock) → ids (block_places (but_block b)) ≡ ids (block_places b)
block_ids b =
    ids_append (flat_map phi_places (map but_phi b.phis)) (terminal_places (but_terminal b.terminal))
    ∙ ap (λ l. l ++ ids (terminal_places (but_terminal b.terminal))) (phis_ids b.phis)
    ∙ ap (λ l. ids (flat_map phi_places b.phis) ++ l) (terminal_ids b.terminal)
    ∙ sym (ids_append (flat_map phi_places b.phis) (terminal_places b.terminal))

instruction_same : (contexts : ℕ → List ℕ) (i : Instruction) → instruction_ids contexts (but_instruction i)
    ≡ instruction_ids contexts i
instruction_same contexts i =
    ap (λ o. i.lvalue.identifier.0 ∷ created_ids contexts o ++ ids (places_of (but_value i.value)))
    (value_creates i.value) ∙ ap (λ l. i.lvalue.identifier.0 ∷ created_ids contexts (created i.value) ++ l)
    (value_ids i.value)

-- the identifiers are those that they were
pub identifiers_alike : (env : Environment) (f : HirFunction) → identifiers_in env (but_place_effects f)
    ≡ identifiers_in env f
identifiers_alike env f =
    let contexts : ℕ → List ℕ = context_at env in
    let params : List ℕ = map (λ p. (param_place p).identifier.0) f.params in
    let n : ℕ = f.returns.identifier.0 in
    in_parts env (but_place_effects f)
    ∙ ap (λ l. l ++ ids (map but_effect f.context) ++ n
    ∷ flat_map (instruction_ids contexts) (map but_instruction f.instructions)
    ++ flat_map entry_ids (map but_entry f.body.blocks)) (params_ids f.params)
    ∙ ap (λ l. params ++ l ++ n ∷ flat_map (instruction_ids contexts) (map but_instruction f.instructions)
    ++ flat_map entry_ids (map but_entry f.body.blocks)) (effects_ids f.context)
    ∙ ap (λ l. params ++ ids f.context ++ n ∷ l ++ flat_map entry_ids (map but_entry f.body.blocks))
    (flat_mapped (instruction_ids contexts) but_instruction (instruction_ids contexts) (instruction_same contexts)
    f.instructions)
    ∙ ap (λ l. params ++ ids f.context ++ n ∷ flat_map (instruction_ids contexts) f.instructions ++ l)
    (flat_mapped entry_ids but_entry entry_ids (λ e. block_ids e.1) f.body.blocks)
    ∙ sym (in_parts env f)
