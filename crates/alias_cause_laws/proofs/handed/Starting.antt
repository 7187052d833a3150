-- The range pass changes starts only of ranges of identifiers that the function names.
use Rattle.std.specs.Prelude.{◌≡◌, ℕ, ◌+◌, ◌==◌, Bool, true, false, if◌then◌else◌, List, [], ◌∷◌, ◌++◌, length, map}
use Rattle.std.specs.Prelude.{option_map, Option, Some, None, Ok, slice_get, refl}
use Rattle.std.specs.List.{AllByRecursion, flat_map}
use Rattle.std.specs.Option.{option_map_or}
use Rattle.std.proofs.Common.{zero, suc, ap, sym, ◌∙◌, subst}
use Rattle.alias_base.specs.declared.ids.BlockId.{BlockId}
use Rattle.alias_base.specs.declared.ids.EvaluationOrder.{EvaluationOrder}
use Rattle.alias_base.specs.declared.ids.FunctionId.{FunctionId}
use Rattle.alias_base.specs.declared.ids.IdentifierId.{IdentifierId}
use Rattle.alias_base.specs.declared.ids.InstructionId.{InstructionId}
use Rattle.alias_fitting_laws.specs.bare.BareParts.{value_ids, value_creates}
use Rattle.alias_graph.specs.declared.recorded.listing.Listing.{Listing}
use Rattle.alias_graph.specs.declared.recorded.listing.RecordedMutation.{RecordedMutation}
use Rattle.alias_hir.specs.Parts.{param_place, places_in_pattern}
use Rattle.alias_hir.specs.Terminals.{terminal_places}
use Rattle.alias_hir.specs.Values.{places_of, created}
use Rattle.alias_hir.specs.declared.effect.AliasingEffect.{AliasingEffect}
use Rattle.alias_hir.specs.declared.env.Environment.{Environment}
use Rattle.alias_hir.specs.declared.env.Identifier.{Identifier}
use Rattle.alias_hir.specs.declared.env.MutableRange.{MutableRange}
use Rattle.alias_hir.specs.declared.hir.BasicBlock.{BasicBlock}
use Rattle.alias_hir.specs.declared.hir.HirFunction.{HirFunction}
use Rattle.alias_hir.specs.declared.hir.Instruction.{Instruction}
use Rattle.alias_hir.specs.declared.hir.Phi.{Phi}
use Rattle.alias_hir.specs.declared.place.Place.{Place}
use Rattle.alias_hir.specs.declared.value.InstructionValue.{InstructionValue}
use Rattle.alias_hir.specs.declared.value.InstructionValue.TheVariants as value
use Rattle.alias_range_pass.specs.Passes.{records, Ranged, range_pass}
use Rattle.alias_range_pass.specs.places.Blocks.{first_order, block_merged, ends_placed, Placed, placed_at}
use Rattle.alias_range_pass.specs.places.Blocks.{block_placed, blocks_placed, function_placed}
use Rattle.alias_range_pass.specs.places.Causes.{numbers_of}
use Rattle.alias_range_pass.specs.places.Instructions.{surroundings, surrounded, env_assigned, instruction_placed}
use Rattle.alias_range_pass.specs.places.Instructions.{placed_in, instruction_at, instructions_placed}
use Rattle.alias_range_pass.specs.places.KeepLaws.{set_in, sets, instruction_keeps}
use Rattle.alias_range_pass.specs.places.Keeping.{but_effect, but_context, but_instruction, but_phi}
use Rattle.alias_range_pass.specs.places.Keeping.{but_entry, but_effects}
use Rattle.alias_range_pass.specs.places.Ranges.{begun, started, stored, merged, ranged, all_ranged, phis_merged}
use Rattle.alias_range_pass.specs.places.Ranges.{assigned, value_stored}
use Rattle.alias_range_pass.specs.places.StayLaws.{instruction_stays, block_stays, set_stays, block_effects}
use Rattle.alias_range_pass.specs.places.Tables.{Table, table_of}
use Rattle.alias_range_pass.specs.summary.KeepingLaws.{walk_keeps}
use Rattle.alias_range_pass.specs.summary.MarkedPlaces.{function_captured}
use Rattle.alias_range_pass.specs.summary.WalkLaws.{done_same}
use Rattle.alias_graph.specs.Nodes.{Nodes}
use Rattle.alias_graph.specs.declared.recorded.listing.RecordedRender.{RecordedRender}
use Rattle.alias_graph.specs.recorded.Recording.{graph_listed}
use Rattle.alias_graph.specs.Reach.{but_end}
use Rattle.alias_range_pass.specs.summary.Walking.{start_origin, expanded, mutation_start, Walked, after_mutation}
use Rattle.alias_range_pass.specs.summary.Walking.{after_mutations, after_render, after_renders, env_reported}
use Rattle.alias_range_pass.specs.summary.Walking.{mutations_done, renders_done}
use Rattle.alias_ranges.specs.laws.AnswerLaws.{pass_is}
use Rattle.alias_rules.specs.Sharing.{context_of, context_at}
use Rattle.alias_visit.specs.Operands.{operands_of, lvalues_of}
use Rattle.alias_visit.specs.Places.{created_places, instruction_places, phi_places, block_places, places_in}
use Rattle.alias_effects_laws.specs.naming.PassLaws.{parts_of, each_of, all_on}
use Rattle.alias_cause_laws.specs.ends.Owned.{AllOwned, by_numbers, numbers_owned, lvalues_owned}
use Rattle.alias_cause_laws.specs.handed.Spans.{start_at}

-- ---- ranges

-- a change of another range
set_apart : (f : MutableRange → MutableRange) (rs : List Identifier) (i k : ℕ) → (k ≡ i → ⊥)
    → start_at (set_in f rs i) k ≡ start_at rs k
set_apart f [] i k other = refl
set_apart f (r ∷ rs) zero zero other = absurd (other refl)
set_apart f (r ∷ rs) zero (suc k) other = refl
set_apart f (r ∷ rs) (suc i) zero other = refl
set_apart f (r ∷ rs) (suc i) (suc k) other = set_apart f rs i k (λ e. other (ap suc e))

-- a change of ranges that keeps starts
abbrev KeepsStart : (MutableRange → MutableRange) → Type 0
KeepsStart f = (r : MutableRange) → (f r).start.0 ≡ r.start.0

set_same : (f : MutableRange → MutableRange) → KeepsStart f → (rs : List Identifier) (i k : ℕ)
    → start_at (set_in f rs i) k ≡ start_at rs k
set_same f h [] i k = refl
set_same f h (r ∷ rs) zero zero = h r.mutable_range
set_same f h (r ∷ rs) zero (suc k) = refl
set_same f h (r ∷ rs) (suc i) zero = refl
set_same f h (r ∷ rs) (suc i) (suc k) = set_same f h rs i k

stored_same : (t : EvaluationOrder) (v : InstructionValue) (rs : List Identifier) (k : ℕ)
    → start_at (value_stored t v rs) k ≡ start_at rs k
stored_same t (value.StoreContext lvalue x) rs k = ap (λ z. start_at z k) (sets (stored t) rs x.identifier.0)
    ∙ set_same (stored t) (λ r. refl) rs x.identifier.0 k
stored_same t v rs k = refl

-- ---- walks

ends_alone : (new old : List Identifier) (k : ℕ) → map but_end new ≡ map but_end old → start_at new k ≡ start_at old k
ends_alone [] [] k e = refl
ends_alone [] (y ∷ old) k e = cc
ends_alone (x ∷ new) [] k e = cc
ends_alone (x ∷ new) (y ∷ old) zero e = let same : but_end x ≡ but_end y = cc in
    ap (λ (z : Identifier). z.mutable_range.start.0) same
ends_alone (x ∷ new) (y ∷ old) (suc k) e = let rest : map but_end new ≡ map but_end old = cc in
    ends_alone new old k rest

walks_same : (c : Bool) (ms : List RecordedMutation) (w : Walked) (k : ℕ)
    → start_at (after_mutations c ms w).1.identifiers k ≡ start_at w.1.identifiers k
walks_same c [] w k = refl
walks_same c (m ∷ ms) w k =
    let s = mutation_start m in
    let one = walk_keeps c s.index (start_origin s) s.end w.0 (expanded w.0 s) w.1 (after_mutation c w m).1 refl in
    walks_same c ms (after_mutation c w m) k
    ∙ ends_alone (after_mutation c w m).1.identifiers w.1.identifiers k
    (ap (λ (e : Environment). e.identifiers) one.rest)

rendered_same : (g : Nodes) (rs : List RecordedRender) (env : Environment) → (after_renders g rs env).functions
    ≡ env.functions
rendered_same g [] env = refl
rendered_same g (r ∷ rs) env = rendered_same g rs (after_render g env r)

pub renders_same : (c : Bool) (l : Listing) (w : Walked) → (renders_done c l w).functions ≡ w.1.functions
renders_same true l w = rendered_same w.0 l.renders w.1
renders_same false l w = refl

pub walks_functions : (c : Bool) (ms : List RecordedMutation) (w : Walked) → (after_mutations c ms w).1.functions
    ≡ w.1.functions
walks_functions c [] w = refl
walks_functions c (m ∷ ms) w = walks_functions c ms (after_mutation c w m)

-- ---- contexts

effects_ids : (ps : List Place) → numbers_of (map but_effect ps) ≡ numbers_of ps
effects_ids [] = refl
effects_ids (p ∷ ps) = ap (λ z. p.identifier.0 ∷ z) (effects_ids ps)

pub context_same : (fs gs : List HirFunction) (k : ℕ) → map but_context fs ≡ map but_context gs
    → context_of (slice_get fs k) ≡ context_of (slice_get gs k)
context_same [] [] k e = refl
context_same [] (g ∷ gs) k e = cc
context_same (f ∷ fs) [] k e = cc
context_same (f ∷ fs) (g ∷ gs) zero e =
    let same : but_context f ≡ but_context g = cc in
    sym (effects_ids f.context) ∙ ap (λ (z : HirFunction). numbers_of z.context) same ∙ effects_ids g.context
context_same (f ∷ fs) (g ∷ gs) (suc k) e = let rest : map but_context fs ≡ map but_context gs = cc in
    context_same fs gs k rest

context_ids : (o : Option HirFunction) → numbers_of (option_map_or (λ (g : HirFunction). g.context) o []) ≡ context_of o
context_ids None = refl
context_ids (Some g) = refl

abbrev ids_created : (ℕ → List ℕ) → Option FunctionId → List ℕ
ids_created contexts None = []
ids_created contexts (Some f) = contexts f.0

-- ---- lists that are alike

at_all : {X : Type 0} (Q : X → Type 0) (xs : List X) (n : ℕ) (x : X) → AllByRecursion Q xs → slice_get xs n ≡ Some x
    → Q x
at_all Q [] n x h e = cc
at_all Q (y ∷ ys) zero x h e = let is : y ≡ x = cc in subst Q is h.0
at_all Q (y ∷ ys) (suc n) x h e = at_all Q ys n x h.1 e

alike_at : {X Y : Type 0} (g : X → Y) (xs ys : List X) (n : ℕ) (x : X) → map g xs ≡ map g ys → slice_get xs n ≡ Some x
    → (y : X) × (slice_get ys n ≡ Some y) × (g x ≡ g y)
alike_at g [] ys n x e at = cc
alike_at g (z ∷ xs) [] n x e at = cc
alike_at g (z ∷ xs) (y ∷ ys) zero x e at = let is : z ≡ x = cc in let same : g z ≡ g y = cc in
    (y, refl, ap g (sym is) ∙ same)
alike_at g (z ∷ xs) (y ∷ ys) (suc n) x e at = let rest : map g xs ≡ map g ys = cc in alike_at g xs ys n x rest at

-- ---- what an instruction names, where the contexts of functions have these identifiers

module _ (P : ℕ → Type 0) (contexts : ℕ → List ℕ) where
  record Names (i : Instruction) : Type 0 where
    lvalue : P i.lvalue.identifier.0
    made : AllByRecursion P (ids_created contexts (created i.value))
    places : AllByRecursion P (numbers_of (places_of i.value))

  names_alike : (i j : Instruction) → but_instruction j ≡ but_instruction i → Names i → Names j
  names_alike i j e h = record {
    lvalue = subst P (sym (ap (λ (z : Instruction). z.lvalue.identifier.0) e)) h.lvalue;
    made = subst (λ o. AllByRecursion P (ids_created contexts o))
        (sym (sym (value_creates j.value) ∙ ap (λ (z : Instruction). created z.value) e ∙ value_creates i.value))
        h.made;
    places = subst (AllByRecursion P) (sym
        (sym (value_ids j.value) ∙ ap (λ (z : Instruction). numbers_of (places_of z.value)) e ∙ value_ids i.value))
        h.places;
  }

  abbrev PhiNames : Phi → Type 0
  PhiNames phi = P phi.place.identifier.0

  phis_alike : (ps qs : List Phi) → map but_phi ps ≡ map but_phi qs → AllByRecursion PhiNames qs
      → AllByRecursion PhiNames ps
  phis_alike [] qs e h = tt
  phis_alike (p ∷ ps) [] e h = cc
  phis_alike (p ∷ ps) (q ∷ qs) e h =
      let first : but_phi p ≡ but_phi q = cc in
      let rest : map but_phi ps ≡ map but_phi qs = cc in
      (subst P (sym (ap (λ (z : Phi). z.place.identifier.0) first)) h.0, phis_alike ps qs rest h.1)

  abbrev BlockNames : BlockId × BasicBlock → Type 0
  BlockNames b = AllByRecursion PhiNames b.1.phis

  block_alike : (b c : BlockId × BasicBlock) → but_entry b ≡ but_entry c → BlockNames c → BlockNames b
  block_alike b c e h = phis_alike b.1.phis c.1.phis (ap (λ (z : BlockId × BasicBlock). z.1.phis) e) h

  operands : (env : Environment) (v : InstructionValue) → ((n : ℕ) → context_at env n ≡ contexts n)
      → AllByRecursion P (ids_created contexts (created v)) → AllByRecursion P (numbers_of (places_of v))
      → AllByRecursion P (numbers_of (operands_of env v))
  operands env (value.FunctionExpression lowered) same made h =
      subst (AllByRecursion P) (sym (context_ids (slice_get env.functions lowered.func.0) ∙ same lowered.func.0)) made
  operands env (value.ObjectMethod lowered) same made h =
      subst (AllByRecursion P) (sym (context_ids (slice_get env.functions lowered.func.0) ∙ same lowered.func.0)) made
  operands env (value.Destructure lvalue x) same made h =
      let all : AllOwned P (places_in_pattern lvalue.pattern ++ x ∷ []) =
      by_numbers P (places_in_pattern lvalue.pattern ++ x ∷ []) h in
      numbers_owned P (x ∷ []) (parts_of (λ (p : Place). P p.identifier.0) (places_in_pattern lvalue.pattern) (x ∷ [])
      all).1
  operands env (value.DeclareLocal lvalue) same made h = tt
  operands env (value.DeclareContext lvalue) same made h = tt
  operands env (value.StoreLocal lvalue x) same made h = h.1
  operands env (value.PostfixUpdate lvalue x) same made h = h.1
  operands env (value.PrefixUpdate lvalue x) same made h = h.1
  operands env v same made h = h

  -- ---- an identifier that it doesn't name

  module _ (k : ℕ) (off : P k → ⊥) where
    apart : (n : ℕ) → P n → k ≡ n → ⊥
    apart n p e = off (subst P (sym e) p)

    one_start : (f : MutableRange → MutableRange) (id : IdentifierId) (rs : List Identifier) → P id.0
        → start_at (ranged f id rs) k ≡ start_at rs k
    one_start f id rs p = ap (λ z. start_at z k) (sets f rs id.0) ∙ set_apart f rs id.0 k (apart id.0 p)

    all_start : (f : MutableRange → MutableRange) (ps : List Place) (rs : List Identifier)
        → AllByRecursion P (numbers_of ps) → start_at (all_ranged f ps rs) k ≡ start_at rs k
    all_start f [] rs h = refl
    all_start f (p ∷ ps) rs h = all_start f ps (ranged f p.identifier rs) h.1 ∙ one_start f p.identifier rs h.0

    phis_start : (t : EvaluationOrder) (phis : List Phi) (rs : List Identifier) → AllByRecursion PhiNames phis
        → start_at (phis_merged t phis rs) k ≡ start_at rs k
    phis_start t [] rs h = refl
    phis_start t (phi ∷ phis) rs h = phis_start t phis (ranged (merged t) phi.place.identifier rs) h.1
        ∙ one_start (merged t) phi.place.identifier rs h.0

    assigned_start : (i : Instruction) (rs : List Identifier) → Names i → start_at (assigned i rs) k ≡ start_at rs k
    assigned_start i rs h =
        all_start (begun i.id) (i.lvalue ∷ lvalues_of i.value) rs (
          h.lvalue,
          numbers_owned P (lvalues_of i.value)
              (lvalues_owned P i.value (by_numbers P (places_of i.value) h.places)),
        )

    abbrev Same : Environment → Type 0
    Same env = (n : ℕ) → context_at env n ≡ contexts n

    around_start : (table : Table) (t : EvaluationOrder) (v : InstructionValue) (env : Environment) → Same env
        → AllByRecursion P (ids_created contexts (created v)) → AllByRecursion P (numbers_of (places_of v))
        → start_at (surroundings table t v env).identifiers k ≡ start_at env.identifiers k
    around_start table t v env same made h =
        stored_same t v (all_ranged (started t) (operands_of env v) env.identifiers) k
        ∙ all_start (started t) (operands_of env v) env.identifiers (operands env v same made h)

    surround_start : (b : Bool) (table : Table) (t : EvaluationOrder) (v : InstructionValue) (env : Environment)
        → Same env → AllByRecursion P (ids_created contexts (created v)) → AllByRecursion P (numbers_of (places_of v))
        → start_at (if b then env else surroundings table t v env).identifiers k ≡ start_at env.identifiers k
    surround_start true table t v env same made h = refl
    surround_start false table t v env same made h = around_start table t v env same made h

    surrounded_start : (o : Option (List AliasingEffect)) (table : Table) (t : EvaluationOrder) (v : InstructionValue)
        (env : Environment) → Same env → AllByRecursion P (ids_created contexts (created v))
        → AllByRecursion P (numbers_of (places_of v)) → start_at (surrounded o table t v env).identifiers k
        ≡ start_at env.identifiers k
    surrounded_start None table t v env same made h = refl
    surrounded_start (Some es) table t v env same made h = surround_start (length es == 0) table t v env same made h

    instruction_start : (i : Instruction) (env : Environment) → Same env → Names i
        → start_at (instruction_placed i env).1.identifiers k ≡ start_at env.identifiers k
    instruction_start i env same h =
        surrounded_start i.effects (table_of (assigned i env.identifiers) i) i.id i.value (env_assigned i env) same
        h.made h.places ∙ assigned_start i env.identifiers h

    -- ---- instructions and blocks, which change in effects of places alone

    module _ (fs : List HirFunction) (here : (n : ℕ) → context_of (slice_get fs n) ≡ contexts n)
        (all : List Instruction) (named : AllByRecursion Names all) where
      record Alike (is : List Instruction) (env : Environment) : Type 0 where
        instructions : map but_instruction is ≡ map but_instruction all
        functions : map but_context env.functions ≡ map but_context fs

      same_contexts : (env : Environment) → map but_context env.functions ≡ map but_context fs → Same env
      same_contexts env e n = context_same env.functions fs n e ∙ here n

      one_alike : (is : List Instruction) (env : Environment) (id : InstructionId) (o : Option Instruction)
          → slice_get is id.0 ≡ o → Alike is env → Alike (placed_in is env id o).0 (placed_in is env id o).1
      one_alike is env id None at a = a
      one_alike is env id (Some i) at a = record {
        instructions = set_stays but_instruction is id.0 i (instruction_placed i env).0 (sym at)
            (instruction_stays (table_of (assigned i env.identifiers) i) i) ∙ a.instructions;
        functions = ap (λ (e : Environment). e.functions) (instruction_keeps i env).rest ∙ a.functions;
      }

      one_placed : (is : List Instruction) (env : Environment) (id : InstructionId) (o : Option Instruction)
          → slice_get is id.0 ≡ o → Alike is env → start_at (placed_in is env id o).1.identifiers k
          ≡ start_at env.identifiers k
      one_placed is env id None at a = refl
      one_placed is env id (Some i) at a =
          let j = alike_at but_instruction is all id.0 i a.instructions at in
          instruction_start i env (same_contexts env a.functions)
          (names_alike j.0 i j.2 (at_all Names all id.0 j.0 named j.1))

      all_alike : (ids : List InstructionId) (s : List Instruction × Environment) → Alike s.0 s.1
          → Alike (instructions_placed ids s).0 (instructions_placed ids s).1
      all_alike [] s a = a
      all_alike (id ∷ ids) s a = all_alike ids (instruction_at s id) (one_alike s.0 s.1 id (slice_get s.0 id.0) refl a)

      all_placed : (ids : List InstructionId) (s : List Instruction × Environment) → Alike s.0 s.1
          → start_at (instructions_placed ids s).1.identifiers k ≡ start_at s.1.identifiers k
      all_placed [] s a = refl
      all_placed (id ∷ ids) s a = all_placed ids (instruction_at s id)
          (one_alike s.0 s.1 id (slice_get s.0 id.0) refl a) ∙ one_placed s.0 s.1 id (slice_get s.0 id.0) refl a

    module _ (fs : List HirFunction) (here : (n : ℕ) → context_of (slice_get fs n) ≡ contexts n) (f : HirFunction)
        (named : AllByRecursion Names f.instructions) (merges : AllByRecursion BlockNames f.body.blocks) where
      record Beside (s : Placed) : Type 0 where
        function : but_effects s.0 ≡ but_effects f
        functions : map but_context s.1.functions ≡ map but_context fs

      begins : (s : Placed) (x : BasicBlock) → Beside s
          → Alike fs here f.instructions named s.0.instructions (block_merged s.0 x s.1)
      begins s x a = record {
        instructions = ap (λ (z : HirFunction). z.instructions) a.function;
        functions = a.functions;
      }

      abbrev at_block : Placed → ℕ → Option BasicBlock
      at_block s j = option_map (λ (e : BlockId × BasicBlock). e.1) (slice_get s.0.body.blocks j)

      block_beside : (b : Bool) (j : ℕ) (o : Option BasicBlock) (s : Placed) → o ≡ at_block s j → Beside s
          → Beside (placed_at b j o s)
      block_beside b j None s at a = a
      block_beside b j (Some x) s at a =
          let mid : Environment = block_merged s.0 x s.1 in
          let begun_alike : Alike fs here f.instructions named s.0.instructions mid = begins s x a in
          let done = all_alike fs here f.instructions named x.instructions (s.0.instructions, mid) begun_alike in
          record {
            function =
                block_effects s.0 j x (ends_placed b mid.identifiers (first_order s.0.instructions x) x)
                (instructions_placed x.instructions (s.0.instructions, mid)).0 at
                (block_stays b mid.identifiers (first_order s.0.instructions x) x)
                (done.instructions ∙ sym begun_alike.instructions) ∙ a.function;
            functions = done.functions;
          }

      found : (o : Option (BlockId × BasicBlock)) (x : BasicBlock) → Some x
          ≡ option_map (λ (e : BlockId × BasicBlock). e.1) o → (e : BlockId × BasicBlock) × (o ≡ Some e) × (e.1 ≡ x)
      found None x h = cc
      found (Some e) x h = let is : x ≡ e.1 = cc in (e, refl, sym is)

      phis_named : (j : ℕ) (x : BasicBlock) (s : Placed) → Some x ≡ at_block s j → Beside s
          → AllByRecursion PhiNames x.phis
      phis_named j x s at a =
          let e = found (slice_get s.0.body.blocks j) x at in
          let c = alike_at but_entry s.0.body.blocks f.body.blocks j e.0
          (ap (λ (z : HirFunction). z.body.blocks) a.function) e.1 in
          subst (λ (z : BasicBlock). AllByRecursion PhiNames z.phis) e.2
          (block_alike e.0 c.0 c.2 (at_all BlockNames f.body.blocks j c.0 merges c.1))

      block_start : (b : Bool) (j : ℕ) (o : Option BasicBlock) (s : Placed) → o ≡ at_block s j → Beside s
          → start_at (placed_at b j o s).1.identifiers k ≡ start_at s.1.identifiers k
      block_start b j None s at a = refl
      block_start b j (Some x) s at a =
          all_placed fs here f.instructions named x.instructions (s.0.instructions, block_merged s.0 x s.1)
          (begins s x a)
          ∙ phis_start (first_order s.0.instructions x) x.phis s.1.identifiers (phis_named j x s at a)

      blocks_start : (b : Bool) (n j : ℕ) (s : Placed) → Beside s → start_at (blocks_placed b n j s).1.identifiers k
          ≡ start_at s.1.identifiers k
      blocks_start b zero j s a = refl
      blocks_start b (suc n) j s a = blocks_start b n (j + 1) (block_placed b j s)
          (block_beside b j (at_block s j) s refl a) ∙ block_start b j (at_block s j) s refl a

-- ---- the pass

module _ (P : ℕ → Type 0) where
  named_instruction : (env : Environment) (i : Instruction) → AllOwned P (instruction_places env i)
      → Names P (context_at env) i
  named_instruction env i h =
      let b = parts_of (λ (p : Place). P p.identifier.0) (i.lvalue ∷ created_places env (created i.value))
      (places_of i.value) h in
      record {
        lvalue = b.0.0;
        made = created_named (created i.value) b.0.1;
        places = numbers_owned P (places_of i.value) b.1;
      }
    where
      created_named : (o : Option FunctionId) → AllOwned P (created_places env o)
          → AllByRecursion P (ids_created (context_at env) o)
      created_named None h = tt
      created_named (Some f) h = subst (AllByRecursion P) (context_ids (slice_get env.functions f.0))
          (numbers_owned P (created_places env (Some f)) h)

  phi_named : (ps : List Phi) → AllOwned P (flat_map phi_places ps) → AllByRecursion (PhiNames P (λ n. [])) ps
  phi_named [] h = tt
  phi_named (p ∷ ps) h = let b = parts_of (λ (p : Place). P p.identifier.0) (phi_places p) (flat_map phi_places ps) h in
      (b.0.0, phi_named ps b.1)

  -- where all that a function names is P's, what isn't P's keeps its start
  pub pass_starts : (b : Bool) (f : HirFunction) (env begun_env : Environment) (r : Ranged) (k : ℕ)
      → range_pass b f begun_env ≡ Ok r → AllOwned P (places_in env f) → map but_context begun_env.functions
      ≡ map but_context env.functions → (P k → ⊥)
      → start_at r.after.1.identifiers k ≡ start_at begun_env.identifiers k
  pass_starts b f env begun_env r k h owned contexts off =
      let p = pass_is b f begun_env r h in
      let l : Listing = p.0 in
      let c : Bool = records b begun_env in
      let w : Walked = mutations_done c l begun_env in
      let walked : Environment = renders_done c l w in
      let s : Placed = (function_captured w.0 f, walked) in
      let blocks = flat_map (λ (e : BlockId × BasicBlock). block_places e.1) f.body.blocks in
      let d = parts_of (λ (p : Place). P p.identifier.0)
      (map param_place f.params ++ f.context ++ f.returns ∷ flat_map (instruction_places env) f.instructions) blocks
      owned in
      let e = parts_of (λ (p : Place). P p.identifier.0) (map param_place f.params ++ f.context)
      (f.returns ∷ flat_map (instruction_places env) f.instructions) d.0 in
      let named : AllByRecursion (Names P (context_at env)) f.instructions
      = all_on (λ (i : Instruction). AllOwned P (instruction_places env i)) (Names P (context_at env))
      (named_instruction env) f.instructions
      (each_of (λ (p : Place). P p.identifier.0) (instruction_places env) f.instructions e.1.1) in
      let merges : AllByRecursion (BlockNames P (context_at env)) f.body.blocks
      = all_on (λ (x : BlockId × BasicBlock). AllOwned P (block_places x.1)) (BlockNames P (context_at env))
      (λ x a. phi_named x.1.phis (parts_of (λ (p : Place). P p.identifier.0) (flat_map phi_places x.1.phis)
      (terminal_places x.1.terminal) a).0) f.body.blocks
      (each_of (λ (p : Place). P p.identifier.0) (λ (x : BlockId × BasicBlock). block_places x.1) f.body.blocks d.1) in
      let functions : walked.functions ≡ begun_env.functions = renders_same c l w
      ∙ walks_functions c l.mutations (graph_listed l, env_reported c l begun_env) in
      let starts : start_at walked.identifiers k ≡ start_at begun_env.identifiers k
      = ap (λ is. start_at is k) (done_same c l w)
      ∙ walks_same c l.mutations (graph_listed l, env_reported c l begun_env) k in
      let placed : start_at (function_placed b s).1.identifiers k ≡ start_at walked.identifiers k
      = blocks_start P (context_at env) k off env.functions (λ n. refl) s.0 named merges b (length f.body.blocks) 0 s
      (record { function = refl; functions = ap (map but_context) functions ∙ contexts }) in
      ap (λ (z : Ranged). start_at z.after.1.identifiers k) (sym p.2) ∙ placed ∙ starts
