-- The identifiers in a function are those of its own places, and those of the contexts of the functions that it
-- creates.
use Rattle.std.specs.Prelude.{◌≡◌, ℕ, true, List, [], ◌∷◌, ◌++◌, map, Option, Some, None, slice_get}
use Rattle.std.specs.List.{flat_map}
use Rattle.std.specs.Option.{option_map_or}
use Rattle.std.proofs.Common.{sym, subst}
use Rattle.std.proofs.lemmas.List.{map-append}
use Rattle.alias_base.specs.declared.ids.BlockId.{BlockId}
use Rattle.alias_base.specs.declared.ids.FunctionId.{FunctionId}
use Rattle.alias_hir.specs.Parts.{param_place}
use Rattle.alias_hir.specs.Values.{places_of, created}
use Rattle.alias_hir.specs.declared.env.Environment.{Environment}
use Rattle.alias_hir.specs.declared.hir.BasicBlock.{BasicBlock}
use Rattle.alias_hir.specs.declared.hir.HirFunction.{HirFunction}
use Rattle.alias_hir.specs.declared.hir.Instruction.{Instruction}
use Rattle.alias_hir.specs.declared.place.Place.{Place}
use Rattle.alias_rules.specs.function_rules.Rules.{is_among}
use Rattle.alias_rules.specs.Nesting.{number_of, created_in}
use Rattle.alias_rules.specs.Sharing.{context_of, context_at}
use Rattle.alias_visit.specs.Places.{created_places, instruction_places, block_places, identifiers_in}
use Rattle.alias_nesting_laws.specs.ClosureLaws.{Among, among_front, among_rest}
use Rattle.alias_nesting_laws.specs.FittingLaws.{first_among}
use Rattle.alias_nesting_laws.specs.PartLaws.{among_cases, append_cases}

-- the identifier is that of one of the places
abbrev Names : List Place → ℕ → Type 0
Names ps x = is_among (map (λ (p : Place). p.identifier.0) ps) x ≡ true

names_front : (ps qs : List Place) (x : ℕ) → Names ps x → Names (ps ++ qs) x
names_front ps qs x h = subst (λ zs. is_among zs x ≡ true) (sym (map-append (λ (p : Place). p.identifier.0) ps qs))
    (among_front (map (λ (p : Place). p.identifier.0) ps) (map (λ (p : Place). p.identifier.0) qs) x h)

names_rest : (ps qs : List Place) (x : ℕ) → Names qs x → Names (ps ++ qs) x
names_rest ps qs x h = subst (λ zs. is_among zs x ≡ true) (sym (map-append (λ (p : Place). p.identifier.0) ps qs))
    (among_rest (map (λ (p : Place). p.identifier.0) ps) (map (λ (p : Place). p.identifier.0) qs) x h)

names_cases : (ps qs : List Place) (x : ℕ) (C : Type 0) → Names (ps ++ qs) x → (Names ps x → C) → (Names qs x → C) → C
names_cases ps qs x C h here there =
    append_cases (map (λ (p : Place). p.identifier.0) ps) (map (λ (p : Place). p.identifier.0) qs) x C
    (subst (λ zs. is_among zs x ≡ true) (map-append (λ (p : Place). p.identifier.0) ps qs) h) here there

-- ---- a function by its own places and the contexts of those that it creates

-- the places of an instruction itself
abbrev own_of : Instruction → List Place
own_of i = i.lvalue ∷ places_of i.value

-- the places of a function itself
abbrev own_places : HirFunction → List Place
own_places g = map param_place g.params ++ g.context ++ g.returns ∷ flat_map own_of g.instructions
    ++ flat_map (λ (e : BlockId × BasicBlock). block_places e.1) g.body.blocks

context_names : (o : Option HirFunction) (x : ℕ) → Names (option_map_or (λ (g : HirFunction). g.context) o []) x
    → is_among (context_of o) x ≡ true
context_names None x h = h
context_names (Some g) x h = h

names_context : (o : Option HirFunction) (x : ℕ) → is_among (context_of o) x ≡ true
    → Names (option_map_or (λ (g : HirFunction). g.context) o []) x
names_context None x h = h
names_context (Some g) x h = h

module _ (env : Environment) (x : ℕ) where
  -- a function that is created, in whose context it is
  record InContext (ks : List ℕ) : Type 0 where
    number : ℕ
    among : is_among ks number ≡ true
    there : is_among (context_at env number) x ≡ true

  created_cases : (o : Option FunctionId) → Names (created_places env o) x → InContext (number_of o)
  created_cases None h = cc
  created_cases (Some f) h = record {
    number = f.0;
    among = first_among f.0 [];
    there = context_names (slice_get env.functions f.0) x h;
  }

  names_created : (o : Option FunctionId) (k : ℕ) → is_among (number_of o) k ≡ true → is_among (context_at env k) x
      ≡ true → Names (created_places env o) x
  names_created None k h i = cc
  names_created (Some f) k h i =
      let there : is_among (context_at env f.0) x ≡ true =
      among_cases f.0 [] k (is_among (context_at env f.0) x ≡ true) h
      (λ e. subst (λ z. is_among (context_at env z) x ≡ true) e i) (λ none. cc) in
      names_context (slice_get env.functions f.0) x there

  instruction_cases : (i : Instruction) (C : Type 0) → Names (instruction_places env i) x → (Names (own_of i) x → C)
      → (InContext (number_of (created i.value)) → C) → C
  instruction_cases i C h own context =
      names_cases (i.lvalue ∷ created_places env (created i.value)) (places_of i.value) x C h
      (λ front. names_cases (i.lvalue ∷ []) (created_places env (created i.value)) x C front
      (λ l. own (names_front (i.lvalue ∷ []) (places_of i.value) x l))
      (λ c. context (created_cases (created i.value) c)))
      (λ rest. own (names_rest (i.lvalue ∷ []) (places_of i.value) x rest))

  own_instruction : (i : Instruction) → Names (own_of i) x → Names (instruction_places env i) x
  own_instruction i h =
      names_cases (i.lvalue ∷ []) (places_of i.value) x (Names (instruction_places env i) x) h
      (λ l. names_front (i.lvalue ∷ created_places env (created i.value)) (places_of i.value) x
      (names_front (i.lvalue ∷ []) (created_places env (created i.value)) x l))
      (names_rest (i.lvalue ∷ created_places env (created i.value)) (places_of i.value) x)

  instructions_cases : (is : List Instruction) (C : Type 0) → Names (flat_map (instruction_places env) is) x
      → (Names (flat_map own_of is) x → C) → (InContext (flat_map (λ (i : Instruction). number_of (created i.value)) is)
      → C) → C
  instructions_cases [] C h own context = cc
  instructions_cases (i ∷ is) C h own context =
      let ks : List ℕ = number_of (created i.value) in
      let rest : List ℕ = flat_map (λ (i : Instruction). number_of (created i.value)) is in
      names_cases (instruction_places env i) (flat_map (instruction_places env) is) x C h
      (λ a. instruction_cases i C a (λ o. own (names_front (own_of i) (flat_map own_of is) x o))
      (λ c. context (record { number = c.number; among = among_front ks rest c.number c.among; there = c.there })))
      (λ b. instructions_cases is C b (λ o. own (names_rest (own_of i) (flat_map own_of is) x o))
      (λ c. context (record { number = c.number; among = among_rest ks rest c.number c.among; there = c.there })))

  own_instructions : (is : List Instruction) → Names (flat_map own_of is) x
      → Names (flat_map (instruction_places env) is) x
  own_instructions [] h = h
  own_instructions (i ∷ is) h =
      names_cases (own_of i) (flat_map own_of is) x (Names (flat_map (instruction_places env) (i ∷ is)) x) h
      (λ a. names_front (instruction_places env i) (flat_map (instruction_places env) is) x (own_instruction i a))
      (λ b. names_rest (instruction_places env i) (flat_map (instruction_places env) is) x (own_instructions is b))

  created_instructions : (is : List Instruction) (k : ℕ)
      → is_among (flat_map (λ (i : Instruction). number_of (created i.value)) is) k ≡ true
      → is_among (context_at env k) x ≡ true → Names (flat_map (instruction_places env) is) x
  created_instructions [] k h c = cc
  created_instructions (i ∷ is) k h c =
      append_cases (number_of (created i.value)) (flat_map (λ (i : Instruction). number_of (created i.value)) is) k
      (Names (flat_map (instruction_places env) (i ∷ is)) x) h
      (λ a. names_front (instruction_places env i) (flat_map (instruction_places env) is) x
      (names_front (i.lvalue ∷ created_places env (created i.value)) (places_of i.value) x
      (names_rest (i.lvalue ∷ []) (created_places env (created i.value)) x
      (names_created (created i.value) k a c))))
      (λ b. names_rest (instruction_places env i) (flat_map (instruction_places env) is) x
      (created_instructions is k b c))

  module _ (g : HirFunction) where
    abbrev before : List Place
    before = map param_place g.params ++ g.context

    abbrev after : List Place
    after = flat_map (λ (e : BlockId × BasicBlock). block_places e.1) g.body.blocks

    -- an identifier in a function is one of its own, or in the context of one that it creates
    pub identifier_cases : (C : Type 0) → is_among (identifiers_in env g) x ≡ true → (Names (own_places g) x → C)
        → ((k : ℕ) → is_among (created_in g) k ≡ true → is_among (context_at env k) x ≡ true → C) → C
    identifier_cases C h own context =
        let instructions : List Place = flat_map (instruction_places env) g.instructions in
        let owns : List Place = flat_map own_of g.instructions in
        names_cases (before ++ g.returns ∷ instructions) after x C h
        (λ a. names_cases before (g.returns ∷ instructions) x C a
        (λ b. own (names_front (before ++ g.returns ∷ owns) after x (names_front before (g.returns ∷ owns) x b)))
        (λ r. names_cases (g.returns ∷ []) instructions x C r
        (λ b. own (names_front (before ++ g.returns ∷ owns) after x
        (names_rest before (g.returns ∷ owns) x (names_front (g.returns ∷ []) owns x b))))
        (λ i. instructions_cases g.instructions C i
        (λ o. own (names_front (before ++ g.returns ∷ owns) after x
        (names_rest before (g.returns ∷ owns) x (names_rest (g.returns ∷ []) owns x o))))
        (λ c. context c.number c.among c.there))))
        (λ b. own (names_rest (before ++ g.returns ∷ owns) after x b))

    in_instructions : Names (flat_map (instruction_places env) g.instructions) x → is_among (identifiers_in env g) x
        ≡ true
    in_instructions h =
        let instructions : List Place = flat_map (instruction_places env) g.instructions in
        names_front (before ++ g.returns ∷ instructions) after x
        (names_rest before (g.returns ∷ instructions) x (names_rest (g.returns ∷ []) instructions x h))

    -- those of its own places are in it
    pub own_among : Names (own_places g) x → is_among (identifiers_in env g) x ≡ true
    own_among h =
        let instructions : List Place = flat_map (instruction_places env) g.instructions in
        let owns : List Place = flat_map own_of g.instructions in
        names_cases (before ++ g.returns ∷ owns) after x (is_among (identifiers_in env g) x ≡ true) h
        (λ a. names_cases before (g.returns ∷ owns) x (is_among (identifiers_in env g) x ≡ true) a
        (λ b. names_front (before ++ g.returns ∷ instructions) after x
        (names_front before (g.returns ∷ instructions) x b))
        (λ r. names_cases (g.returns ∷ []) owns x (is_among (identifiers_in env g) x ≡ true) r
        (λ b. names_front (before ++ g.returns ∷ instructions) after x
        (names_rest before (g.returns ∷ instructions) x (names_front (g.returns ∷ []) instructions x b)))
        (λ o. in_instructions (own_instructions g.instructions o))))
        (λ b. names_rest (before ++ g.returns ∷ instructions) after x b)

    -- and those in the contexts of functions that it creates
    pub context_among : (k : ℕ) → is_among (created_in g) k ≡ true → is_among (context_at env k) x ≡ true
        → is_among (identifiers_in env g) x ≡ true
    context_among k h c = in_instructions (created_instructions g.instructions k h c)

-- where each identifier in a context is in that of the same function, each identifier in a function stays in it
pub identifiers_with_contexts : (env more : Environment) (g : HirFunction)
    → ((k : ℕ) → is_among (created_in g) k ≡ true → Among (context_at more k) (context_at env k))
    → Among (identifiers_in more g) (identifiers_in env g)
identifiers_with_contexts env more g h x i =
    identifier_cases env x g (is_among (identifiers_in more g) x ≡ true) i (own_among more x g)
    (λ k c t. context_among more x g k c (h k c x t))
