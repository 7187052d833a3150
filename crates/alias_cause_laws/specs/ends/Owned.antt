-- What the places of a function name: over other contexts, and what the range pass makes nodes of and ends ranges of.
use Rattle.std.specs.Prelude.{◌≡◌, ℕ, true, List, [], ◌∷◌, ◌++◌, Option, Some, None, map, slice_get, refl}
use Rattle.std.specs.List.{AllByRecursion, flat_map}
use Rattle.std.specs.Option.{option_map_or}
use Rattle.std.proofs.Common.{⊎_elim, sym, subst}
use Rattle.alias_base.specs.declared.ids.BlockId.{BlockId}
use Rattle.alias_base.specs.declared.ids.FunctionId.{FunctionId}
use Rattle.alias_hir.specs.Parts.{param_place, optional_place, property_places, target_places, pattern_places}
use Rattle.alias_hir.specs.Parts.{places_in_pattern}
use Rattle.alias_hir.specs.Terminals.{terminal_places}
use Rattle.alias_hir.specs.Values.{places_of, created}
use Rattle.alias_hir.specs.declared.env.Environment.{Environment}
use Rattle.alias_hir.specs.declared.hir.BasicBlock.{BasicBlock}
use Rattle.alias_hir.specs.declared.hir.HirFunction.{HirFunction}
use Rattle.alias_hir.specs.declared.hir.Instruction.{Instruction}
use Rattle.alias_hir.specs.declared.hir.ParamPattern.{ParamPattern}
use Rattle.alias_hir.specs.declared.hir.Phi.{Phi}
use Rattle.alias_hir.specs.declared.place.Place.{Place}
use Rattle.alias_hir.specs.declared.value.InstructionValue.{InstructionValue}
use Rattle.alias_hir.specs.declared.value.InstructionValue.TheVariants as value
use Rattle.alias_hir.specs.declared.value.ObjectPropertyOrSpread.{ObjectPropertyOrSpread}
use Rattle.alias_hir.specs.declared.value.ObjectPropertyOrSpread.TheVariants as property
use Rattle.alias_hir.specs.declared.value.Pattern.{Pattern}
use Rattle.alias_hir.specs.declared.value.Pattern.TheVariants as pattern
use Rattle.alias_graph.specs.recorded.Fitting.{AllOf}
use Rattle.alias_rules.specs.function_rules.Rules.{is_among}
use Rattle.alias_nesting_laws.specs.FittingLaws.{first_among, later_among}
use Rattle.alias_nesting_laws.specs.PartLaws.{among_cases}
use Rattle.alias_range_pass.specs.places.Causes.{numbers_of, stored_places, written}
use Rattle.alias_graph.specs.Walks.{IsOneOf}
use Rattle.alias_graph.proofs.Legality.{in_either}
use Rattle.alias_rules.specs.Sharing.{context_of, context_at}
use Rattle.alias_walks.specs.Words.{all_appended}
use Rattle.alias_visit.specs.Operands.{lvalues_of}
use Rattle.alias_visit.specs.Places.{created_places, instruction_places, phi_places, block_places, places_in}
use Rattle.alias_effects_laws.specs.naming.PassLaws.{parts_of, each_of, all_on}
use Rattle.alias_cause_laws.specs.ends.Making.{EffectsMake, PhiMakes, FunctionMakes}

-- ---- lists

pub to_all : {A : Type 0} (P : A → Type 0) (xs : List A) → AllByRecursion P xs → AllOf P xs
to_all P [] h = tt
to_all P (x ∷ xs) h = (h.0, to_all P xs h.1)

-- what holds of each number that is there holds of all
pub all_there : (P : ℕ → Type 0) (xs : List ℕ) → ((x : ℕ) → is_among xs x ≡ true → P x) → AllByRecursion P xs
all_there P [] h = tt
all_there P (x ∷ xs) h = (h x (first_among x xs), all_there P xs (λ y m. h y (later_among x xs y m)))

pub one_there : (P : ℕ → Type 0) (xs : List ℕ) (x : ℕ) → AllByRecursion P xs → is_among xs x ≡ true → P x
one_there P [] x h m = cc
one_there P (y ∷ xs) x h m = among_cases y xs x (P x) m (λ e. subst P (sym e) h.0) (λ n. one_there P xs x h.1 n)

pub one_of_all : {A : Type 0} (P : A → Type 0) (xs : List A) (x : A) → AllByRecursion P xs → IsOneOf x xs → P x
one_of_all P [] x h i = absurd i
one_of_all P (y ∷ xs) x h i = ⊎_elim (λ e. subst P (sym e) h.0) (λ j. one_of_all P xs x h.1 j) i

module _ (P : ℕ → Type 0) where
  abbrev pub Owned : Place → Type 0
  Owned p = P p.identifier.0

  abbrev pub AllOwned : List Place → Type 0
  AllOwned ps = AllByRecursion Owned ps

  pub by_numbers : (ps : List Place) → AllByRecursion P (map (λ (p : Place). p.identifier.0) ps) → AllOwned ps
  by_numbers [] h = tt
  by_numbers (p ∷ ps) h = (h.0, by_numbers ps h.1)

  pub numbers_owned : (ps : List Place) → AllOwned ps → AllByRecursion P (numbers_of ps)
  numbers_owned [] h = tt
  numbers_owned (p ∷ ps) h = (h.0, numbers_owned ps h.1)

  -- ---- other contexts

  module _ (env more : Environment) (less : (k x : ℕ) → is_among (context_at more k) x ≡ true
      → is_among (context_at env k) x ≡ true) where
    context_places : (o : Option HirFunction)
        → map (λ (p : Place). p.identifier.0) (option_map_or (λ (g : HirFunction). g.context) o []) ≡ context_of o
    context_places None = refl
    context_places (Some g) = refl

    created_owned : (o : Option FunctionId) → AllOwned (created_places env o) → AllOwned (created_places more o)
    created_owned None h = tt
    created_owned (Some f) h =
        let there : AllByRecursion P (context_at env f.0) =
        subst (AllByRecursion P) (context_places (slice_get env.functions f.0))
        (numbers_owned (created_places env (Some f)) h) in
        by_numbers (created_places more (Some f))
        (subst (AllByRecursion P) (sym (context_places (slice_get more.functions f.0)))
        (all_there P (context_at more f.0) (λ x m. one_there P (context_at env f.0) x there (less f.0 x m))))

    instruction_owned : (i : Instruction) → AllOwned (instruction_places env i) → AllOwned (instruction_places more i)
    instruction_owned i h =
        let b = parts_of Owned (i.lvalue ∷ created_places env (created i.value)) (places_of i.value) h in
        all_appended Owned (i.lvalue ∷ created_places more (created i.value)) (places_of i.value)
        (b.0.0, created_owned (created i.value) b.0.1) b.1

    instructions_owned : (is : List Instruction) → AllOwned (flat_map (instruction_places env) is)
        → AllOwned (flat_map (instruction_places more) is)
    instructions_owned [] h = tt
    instructions_owned (i ∷ is) h =
        let b = parts_of Owned (instruction_places env i) (flat_map (instruction_places env) is) h in
        all_appended Owned (instruction_places more i) (flat_map (instruction_places more) is) (instruction_owned i b.0)
        (instructions_owned is b.1)

    -- over an environment whose contexts name less
    pub owned_across : (f : HirFunction) → AllOwned (places_in env f) → AllOwned (places_in more f)
    owned_across f h =
        let blocks = flat_map (λ (e : BlockId × BasicBlock). block_places e.1) f.body.blocks in
        let b = parts_of Owned (map param_place f.params ++ f.context ++ f.returns
        ∷ flat_map (instruction_places env) f.instructions) blocks h in
        let d = parts_of Owned (map param_place f.params ++ f.context)
        (f.returns ∷ flat_map (instruction_places env) f.instructions) b.0 in
        all_appended Owned (map param_place f.params ++ f.context ++ f.returns
        ∷ flat_map (instruction_places more) f.instructions) blocks
        (all_appended Owned (map param_place f.params ++ f.context)
        (f.returns ∷ flat_map (instruction_places more) f.instructions) d.0
        (d.1.0, instructions_owned f.instructions d.1.1)) b.1

  -- ---- what instructions assign and store

  targets_owned : (ps : List ObjectPropertyOrSpread) → AllOwned (flat_map property_places ps)
      → AllOwned (flat_map target_places ps)
  targets_owned [] h = tt
  targets_owned (property.Property p ∷ ps) h =
      let b = parts_of Owned (optional_place p.computed ++ p.place ∷ []) (flat_map property_places ps) h in
      let d = parts_of Owned (optional_place p.computed) (p.place ∷ []) b.0 in
      (d.1.0, targets_owned ps b.1)
  targets_owned (property.Spread s ∷ ps) h = (h.0, targets_owned ps h.1)

  pattern_owned : (p : Pattern) → AllOwned (places_in_pattern p) → AllOwned (pattern_places p)
  pattern_owned (pattern.Array p) h = h
  pattern_owned (pattern.Object p) h = targets_owned p.properties h

  pub lvalues_owned : (v : InstructionValue) → AllOwned (places_of v) → AllOwned (lvalues_of v)
  lvalues_owned (value.DeclareLocal lvalue) h = h
  lvalues_owned (value.Destructure lvalue x) h =
      pattern_owned lvalue.pattern (parts_of Owned (places_in_pattern lvalue.pattern) (x ∷ []) h).0
  lvalues_owned (value.DeclareContext lvalue) h = h
  lvalues_owned (value.StoreContext lvalue x) h = (h.0, tt)
  lvalues_owned (value.StoreLocal lvalue x) h = (h.0, tt)
  lvalues_owned (value.PostfixUpdate lvalue x) h = (h.0, tt)
  lvalues_owned (value.PrefixUpdate lvalue x) h = (h.0, tt)
  lvalues_owned v h = tt

  stored_owned : (v : InstructionValue) → AllOwned (places_of v) → AllOwned (stored_places v)
  stored_owned (value.StoreContext lvalue x) h = (h.1.0, tt)
  stored_owned v h = tt

  written_owned : (i : Instruction) (k : ℕ) → P i.lvalue.identifier.0 → AllOwned (places_of i.value)
      → IsOneOf k (written i) → P k
  written_owned i k l h w =
      ⊎_elim
      (λ a. one_of_all P (numbers_of (i.lvalue ∷ lvalues_of i.value)) k
      (l, numbers_owned (lvalues_of i.value) (lvalues_owned i.value h)) a)
      (λ b. one_of_all P (numbers_of (stored_places i.value)) k
      (numbers_owned (stored_places i.value) (stored_owned i.value h)) b)
      (in_either (numbers_of (i.lvalue ∷ lvalues_of i.value)) (numbers_of (stored_places i.value)) k w)

  -- ---- what the range pass makes nodes of

  params_owned : (ps : List ParamPattern) → AllOwned (map param_place ps)
      → AllOf (λ p. P (param_place p).identifier.0) ps
  params_owned [] h = tt
  params_owned (p ∷ ps) h = (h.0, params_owned ps h.1)

  phis_owned : (ps : List Phi) → AllOwned (flat_map phi_places ps) → AllOf (PhiMakes P) ps
  phis_owned [] h = tt
  phis_owned (p ∷ ps) h = let b = parts_of Owned (phi_places p) (flat_map phi_places ps) h in (b.0.0, phis_owned ps b.1)

  blocks_owned : (bs : List (BlockId × BasicBlock))
      → AllOwned (flat_map (λ (e : BlockId × BasicBlock). block_places e.1) bs)
      → AllOf (λ (b : BlockId × BasicBlock). AllOf (PhiMakes P) b.1.phis) bs
  blocks_owned [] h = tt
  blocks_owned (b ∷ bs) h =
      let d = parts_of Owned (block_places b.1) (flat_map (λ (e : BlockId × BasicBlock). block_places e.1) bs) h in (
        phis_owned b.1.phis (parts_of Owned (flat_map phi_places b.1.phis) (terminal_places b.1.terminal) d.0).0,
        blocks_owned bs d.1,
      )

  -- the instruction's places, but for those of a function that it creates
  abbrev InstructionOwned : Instruction → Type 0
  InstructionOwned i = P i.lvalue.identifier.0 × AllOwned (places_of i.value)

  pub makes_owned : (env : Environment) (f : HirFunction) → AllOwned (places_in env f)
      → AllOf (λ (i : Instruction). EffectsMake P i.effects) f.instructions → FunctionMakes P f
  makes_owned env f h effects =
      let blocks = flat_map (λ (e : BlockId × BasicBlock). block_places e.1) f.body.blocks in
      let b = parts_of Owned (map param_place f.params ++ f.context ++ f.returns
      ∷ flat_map (instruction_places env) f.instructions) blocks h in
      let d = parts_of Owned (map param_place f.params ++ f.context)
      (f.returns ∷ flat_map (instruction_places env) f.instructions) b.0 in
      let e = parts_of Owned (map param_place f.params) f.context d.0 in
      let is : AllByRecursion InstructionOwned f.instructions
      = all_on (λ (i : Instruction). AllOwned (instruction_places env i)) InstructionOwned
      (λ i a. let c = parts_of Owned (i.lvalue ∷ created_places env (created i.value)) (places_of i.value) a in
      (c.0.0, c.1)) f.instructions
      (each_of Owned (instruction_places env) f.instructions d.1.1) in
      record {
        params = params_owned f.params e.0;
        context = to_all Owned f.context e.1;
        returns = d.1.0;
        phis = blocks_owned f.body.blocks b.1;
        effects = effects;
        written = λ i there k w. let own = one_of_all InstructionOwned f.instructions i is there in
            written_owned i k own.0 own.1 w;
      }
