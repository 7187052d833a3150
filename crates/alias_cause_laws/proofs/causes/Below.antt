-- The identifiers of a unit's places are in its table.
use Rattle.std.specs.Prelude.{◌≡◌, ℕ, true, List, [], ◌∷◌, ◌++◌, Option, Some, None, Ok, length, map, slice_get}
use Rattle.std.specs.List.{flat_map}
use Rattle.std.specs.Option.{option_map_or}
use Rattle.std.proofs.Common.{ltb-true}
use Rattle.alias_base.specs.Answer.{all_pass}
use Rattle.alias_base.specs.AnswerLaws.{both_pass}
use Rattle.alias_base.specs.declared.ids.BlockId.{BlockId}
use Rattle.alias_base.specs.declared.ids.FunctionId.{FunctionId}
use Rattle.alias_step_laws.specs.blocks.ContextLaws.{place_of, places_of_pass, numbers_of}
use Rattle.alias_rules.specs.function_rules.Rules.{below, is_among, place_fits, phi_fits, block_fits, instruction_fits}
use Rattle.alias_rules.specs.function_rules.Rules.{created_fits, numbers_fit}
use Rattle.alias_rules.specs.declared.function_rules.fault.Table.TheVariants.{Instructions}
use Rattle.alias_hir.specs.Parts.{param_place}
use Rattle.alias_hir.specs.Terminals.{terminal_places}
use Rattle.alias_hir.specs.Values.{places_of, created}
use Rattle.alias_hir.specs.declared.env.Environment.{Environment}
use Rattle.alias_hir.specs.declared.hir.BasicBlock.{BasicBlock}
use Rattle.alias_hir.specs.declared.hir.HirFunction.{HirFunction}
use Rattle.alias_hir.specs.declared.hir.Instruction.{Instruction}
use Rattle.alias_hir.specs.declared.hir.ParamPattern.{ParamPattern}
use Rattle.alias_hir.specs.declared.hir.Phi.{Phi}
use Rattle.alias_hir.specs.declared.place.Place.{Place}
use Rattle.alias_range_pass.specs.places.Causes as causes
use Rattle.alias_rules.specs.Functions.{of_function, at_function}
use Rattle.alias_rules.specs.declared.rules.Rule.TheVariants.{Numbers}
use Rattle.alias_walks.specs.Words.{all_appended}
use Rattle.alias_visit.specs.Places.{created_places, instruction_places, phi_places, block_places, places_in}
use Rattle.alias_visit.specs.Places.{identifiers_in}
use Rattle.alias_effects_laws.specs.naming.PassLaws.{parts_of}
use Rattle.alias_cause_laws.specs.ends.Owned.{Owned, AllOwned, all_there, by_numbers, numbers_owned, one_there}
use Rattle.alias_cause_laws.proofs.causes.Recorded.{IsBelow, places_below}

module _ (env : Environment) where
  abbrev AllBelow : List Place → Type 0
  AllBelow ps = AllOwned (IsBelow env) ps

  both_below : (ps qs : List Place) → AllBelow ps → AllBelow qs → AllBelow (ps ++ qs)
  both_below ps qs h g = all_appended (Owned (IsBelow env)) ps qs h g

  passing_below : (ps : List Place) → all_pass (place_fits env) ps ≡ Ok tt → AllBelow ps
  passing_below ps h = places_below env ps (places_of_pass env ps h)

  one_below : (p : Place) → place_fits env p ≡ Ok tt → IsBelow env p.identifier.0
  one_below p h = ltb-true p.identifier.0 (length env.identifiers) (place_of env p h)

  context_below : (k : ℕ) (o : Option HirFunction) → of_function Numbers env k o ≡ Ok tt
      → AllBelow (option_map_or (λ (g : HirFunction). g.context) o [])
  context_below k None h = tt
  context_below k (Some g) h = passing_below g.context (numbers_of env g h).context

  params_below : (ps : List ParamPattern) → all_pass (λ p. place_fits env (param_place p)) ps ≡ Ok tt
      → AllBelow (map param_place ps)
  params_below [] h = tt
  params_below (p ∷ ps) h =
      let b : (place_fits env (param_place p) ≡ Ok tt) × (all_pass (λ p. place_fits env (param_place p)) ps ≡ Ok tt) =
      both_pass (place_fits env (param_place p)) (all_pass (λ p. place_fits env (param_place p)) ps) h in
      (one_below (param_place p) b.0, params_below ps b.1)

  operands_below : (es : List (BlockId × Place)) → all_pass (λ (e : BlockId × Place). place_fits env e.1) es ≡ Ok tt
      → AllBelow (map (λ (e : BlockId × Place). e.1) es)
  operands_below [] h = tt
  operands_below (e ∷ es) h =
      let b : (place_fits env e.1 ≡ Ok tt) × (all_pass (λ (e : BlockId × Place). place_fits env e.1) es ≡ Ok tt) =
      both_pass (place_fits env e.1) (all_pass (λ (e : BlockId × Place). place_fits env e.1) es) h in
      (one_below e.1 b.0, operands_below es b.1)

  phis_below : (ps : List Phi) → all_pass (phi_fits env) ps ≡ Ok tt → AllBelow (flat_map phi_places ps)
  phis_below [] h = tt
  phis_below (p ∷ ps) h =
      let b : (phi_fits env p ≡ Ok tt) × (all_pass (phi_fits env) ps ≡ Ok tt) =
      both_pass (phi_fits env p) (all_pass (phi_fits env) ps) h in
      let c = both_pass (place_fits env p.place) (all_pass (λ (e : BlockId × Place). place_fits env e.1) p.operands)
      b.0 in
      both_below (phi_places p) (flat_map phi_places ps) (one_below p.place c.0, operands_below p.operands c.1)
      (phis_below ps b.1)

  block_below : (g : HirFunction) (b : BasicBlock) → block_fits env g b ≡ Ok tt → AllBelow (block_places b)
  block_below g b h =
      let a = both_pass (all_pass (phi_fits env) b.phis) _ h in
      let c = both_pass (all_pass (λ i. below Instructions (length g.instructions) i.0) b.instructions)
      (all_pass (place_fits env) (terminal_places b.terminal)) a.1 in
      both_below (flat_map phi_places b.phis) (terminal_places b.terminal) (phis_below b.phis a.0)
      (passing_below (terminal_places b.terminal) c.1)

  blocks_below : (g : HirFunction) (es : List (BlockId × BasicBlock))
      → all_pass (λ (e : BlockId × BasicBlock). block_fits env g e.1) es ≡ Ok tt
      → AllBelow (flat_map (λ (e : BlockId × BasicBlock). block_places e.1) es)
  blocks_below g [] h = tt
  blocks_below g (e ∷ es) h =
      let b : (block_fits env g e.1 ≡ Ok tt)
      × (all_pass (λ (e : BlockId × BasicBlock). block_fits env g e.1) es ≡ Ok tt) =
      both_pass (block_fits env g e.1) (all_pass (λ (e : BlockId × BasicBlock). block_fits env g e.1) es) h in
      both_below (block_places e.1) (flat_map (λ (e : BlockId × BasicBlock). block_places e.1) es)
      (block_below g e.1 b.0) (blocks_below g es b.1)

  module _ (numbers : (k : ℕ) → at_function Numbers env k ≡ Ok tt) where
    created_below : (o : Option FunctionId) → AllBelow (created_places env o)
    created_below None = tt
    created_below (Some f) = context_below f.0 (slice_get env.functions f.0) (numbers f.0)

    instruction_below : (i : Instruction) → instruction_fits env i ≡ Ok tt → AllBelow (instruction_places env i)
    instruction_below i h =
        let b = both_pass (place_fits env i.lvalue) _ h in
        let c = both_pass (created_fits env (created i.value)) (all_pass (place_fits env) (places_of i.value)) b.1 in
        both_below (i.lvalue ∷ created_places env (created i.value)) (places_of i.value)
        (one_below i.lvalue b.0, created_below (created i.value)) (passing_below (places_of i.value) c.1)

    instructions_below : (is : List Instruction) → all_pass (instruction_fits env) is ≡ Ok tt
        → AllBelow (flat_map (instruction_places env) is)
    instructions_below [] h = tt
    instructions_below (i ∷ is) h =
        let b : (instruction_fits env i ≡ Ok tt) × (all_pass (instruction_fits env) is ≡ Ok tt) =
        both_pass (instruction_fits env i) (all_pass (instruction_fits env) is) h in
        both_below (instruction_places env i) (flat_map (instruction_places env) is) (instruction_below i b.0)
        (instructions_below is b.1)

    function_below : (g : HirFunction) → numbers_fit env g ≡ Ok tt → AllBelow (places_in env g)
    function_below g h =
        let a = both_pass (all_pass (λ p. place_fits env (param_place p)) g.params) _ h in
        let b = both_pass (all_pass (place_fits env) g.context) _ a.1 in
        let c = both_pass (place_fits env g.returns) _ b.1 in
        let n = numbers_of env g h in
        both_below (map param_place g.params ++ g.context ++ g.returns
        ∷ flat_map (instruction_places env) g.instructions)
        (flat_map (λ (e : BlockId × BasicBlock). block_places e.1) g.body.blocks)
        (both_below (map param_place g.params ++ g.context)
        (g.returns ∷ flat_map (instruction_places env) g.instructions)
        (both_below (map param_place g.params) g.context (params_below g.params a.0)
        (passing_below g.context n.context))
        (one_below g.returns c.0, instructions_below g.instructions n.instructions))
        (blocks_below g g.body.blocks n.blocks)

    -- what stands in a function is below the table's length
    pub named_below : (g : HirFunction) (x : ℕ) → numbers_fit env g ≡ Ok tt → is_among (identifiers_in env g) x ≡ true
        → IsBelow env x
    named_below g x h i = one_there (IsBelow env) (identifiers_in env g) x
        (numbers_owned (IsBelow env) (places_in env g) (function_below g h)) i

  -- the identifier of a context place stands in the function
  pub context_named : (g : HirFunction) (x : ℕ) → is_among (causes.numbers_of g.context) x ≡ true
      → is_among (identifiers_in env g) x ≡ true
  context_named g x h =
      let P : ℕ → Type 0 = λ n. is_among (identifiers_in env g) n ≡ true in
      let all : AllOwned P (places_in env g) =
      by_numbers P (places_in env g) (all_there P (identifiers_in env g) (λ n m. m)) in
      let blocks = flat_map (λ (e : BlockId × BasicBlock). block_places e.1) g.body.blocks in
      let b = parts_of (Owned P) (map param_place g.params ++ g.context ++ g.returns
      ∷ flat_map (instruction_places env) g.instructions) blocks all in
      let d = parts_of (Owned P) (map param_place g.params ++ g.context)
      (g.returns ∷ flat_map (instruction_places env) g.instructions) b.0 in
      one_there P (causes.numbers_of g.context) x
      (numbers_owned P g.context (parts_of (Owned P) (map param_place g.params) g.context d.0).1) h
