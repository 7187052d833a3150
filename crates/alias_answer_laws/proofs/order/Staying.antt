-- What the passes of the inference leave of what functions create: all of it.
use Rattle.std.specs.Prelude.{◌≡◌, ℕ, ◌+◌, Bool, true, false, List, [], ◌∷◌, Option, Some, None, Ok, length, map}
use Rattle.std.specs.Prelude.{option_map, slice_get}
use Rattle.std.specs.List.{flat_map}
use Rattle.std.proofs.Common.{zero, suc, refl, ap, sym, ◌∙◌}
use Rattle.std.proofs.lemmas.List.{length-map}
use Rattle.alias_base.specs.declared.ids.BlockId.{BlockId}
use Rattle.alias_base.specs.declared.ids.FunctionId.{FunctionId}
use Rattle.alias_base.specs.declared.ids.InstructionId.{InstructionId}
use Rattle.alias_hir.specs.Values.{created}
use Rattle.alias_hir.specs.declared.env.Environment.{Environment}
use Rattle.alias_hir.specs.declared.hir.BasicBlock.{BasicBlock}
use Rattle.alias_hir.specs.declared.hir.HirFunction.{HirFunction}
use Rattle.alias_hir.specs.declared.hir.Instruction.{Instruction}
use Rattle.alias_rules.specs.RecordedLaws.{without_instruction_effects, without_block_effects, without_effects}
use Rattle.alias_effects.proofs.RecordedDiffers.{recorded_differs}
use Rattle.alias_effects.specs.Recording.{with_effects_of}
use Rattle.alias_effects.specs.declared.solved.Solved.{Solved}
use Rattle.alias_graph.specs.declared.recorded.listing.Listing.{Listing}
use Rattle.alias_graph.specs.declared.recorded.listing.RecordedMutation.{RecordedMutation}
use Rattle.alias_graph.specs.recorded.Recording.{graph_listed}
use Rattle.alias_range_pass.specs.places.Blocks.{block_merged, first_order, Placed, placed_at, block_placed}
use Rattle.alias_range_pass.specs.places.Blocks.{blocks_placed, function_placed}
use Rattle.alias_range_pass.specs.places.Instructions.{instruction_placed, placed_in, instruction_at}
use Rattle.alias_range_pass.specs.places.Instructions.{instructions_placed}
use Rattle.alias_range_pass.specs.places.Keeping.{but_context, but_instruction, but_entry, but_effects}
use Rattle.alias_range_pass.specs.places.Blocks.{ends_placed}
use Rattle.alias_range_pass.specs.places.Ranges.{assigned}
use Rattle.alias_range_pass.specs.places.StayLaws.{instruction_stays, block_stays, set_stays, block_effects}
use Rattle.alias_range_pass.specs.places.Tables.{table_of}
use Rattle.alias_range_pass.specs.summary.MarkedPlaces.{function_captured}
use Rattle.alias_range_pass.specs.summary.Walking.{Walked, after_mutation, after_mutations, env_reported}
use Rattle.alias_range_pass.specs.summary.Walking.{mutations_done, renders_done}
use Rattle.alias_range_pass.specs.Passes.{records, Ranged, range_pass}
use Rattle.alias_ranges.specs.laws.AnswerLaws.{pass_is}
use Rattle.alias_ranges.specs.laws.PlacedLaws.{function_keeps}
use Rattle.alias_fitting_laws.specs.bare.BareIdentifiers.{flat_mapped, flat_same}
use Rattle.alias_fitting_laws.specs.bare.BareParts.{value_creates}
use Rattle.alias_nested.specs.Created.{one_of, created_by, created_functions}

-- ---- functions that differ in what is inferred

abbrev created_by_ids : List Instruction → List InstructionId → List FunctionId
created_by_ids is ids = flat_map (λ (i : InstructionId). created_by (slice_get is i.0)) ids

abbrev created_with : List Instruction → List (BlockId × BasicBlock) → List FunctionId
created_with is bs = flat_map (λ (b : BlockId × BasicBlock). created_by_ids is b.1.instructions) bs

module _ (t : BlockId × BasicBlock → BlockId × BasicBlock) (h : Instruction → Instruction)
    (lists : (b : BlockId × BasicBlock) → (t b).1.instructions ≡ b.1.instructions)
    (creates : (i : Instruction) → created (h i).value ≡ created i.value) where
  slice_created : (is : List Instruction) (k : ℕ) → created_by (slice_get (map h is) k) ≡ created_by (slice_get is k)
  slice_created [] k = refl
  slice_created (x ∷ xs) zero = ap one_of (creates x)
  slice_created (x ∷ xs) (suc k) = slice_created xs k

  created_mapped : (is : List Instruction) (bs : List (BlockId × BasicBlock)) → created_with (map h is) (map t bs)
      ≡ created_with is bs
  created_mapped is bs =
      flat_mapped (λ (b : BlockId × BasicBlock). created_by_ids (map h is) b.1.instructions) t
      (λ (b : BlockId × BasicBlock). created_by_ids is b.1.instructions)
      (λ b. ap (created_by_ids (map h is)) (lists b)
      ∙ flat_same (λ (i : InstructionId). created_by (slice_get (map h is) i.0))
      (λ (i : InstructionId). created_by (slice_get is i.0)) (λ i. slice_created is i.0) b.1.instructions) bs

created_without : (f : HirFunction) → created_functions (without_effects f) ≡ created_functions f
created_without f = created_mapped without_block_effects without_instruction_effects (λ b. refl) (λ i. refl)
    f.instructions f.body.blocks

created_but : (f : HirFunction) → created_functions (but_effects f) ≡ created_functions f
created_but f = created_mapped but_entry but_instruction (λ b. refl) (λ i. value_creates i.value) f.instructions
    f.body.blocks

-- what is recorded changes nothing of what a function creates
pub created_recorded : (s : Solved) (f : HirFunction) → created_functions (with_effects_of s f) ≡ created_functions f
created_recorded s f = sym (created_without (with_effects_of s f)) ∙ ap created_functions (sym (recorded_differs s f))
    ∙ created_without f

-- ---- the range pass

one_kept : (is : List Instruction) (env : Environment) (id : InstructionId) (o : Option Instruction) → slice_get is id.0
    ≡ o → map but_instruction (placed_in is env id o).0 ≡ map but_instruction is
one_kept is env id None h = refl
one_kept is env id (Some i) h = set_stays but_instruction is id.0 i (instruction_placed i env).0 (sym h)
    (instruction_stays (table_of (assigned i env.identifiers) i) i)

instructions_kept : (ids : List InstructionId) (s : List Instruction × Environment)
    → map but_instruction (instructions_placed ids s).0 ≡ map but_instruction s.0
instructions_kept [] s = refl
instructions_kept (id ∷ ids) s = instructions_kept ids (instruction_at s id)
    ∙ one_kept s.0 s.1 id (slice_get s.0 id.0) refl

block_kept : (b : Bool) (k : ℕ) (o : Option BasicBlock) (s : Placed) → o
    ≡ option_map (λ (e : BlockId × BasicBlock). e.1) (slice_get s.0.body.blocks k) → but_effects (placed_at b k o s).0
    ≡ but_effects s.0
block_kept b k None s h = refl
block_kept b k (Some x) s h =
    let mid : Environment = block_merged s.0 x s.1 in
    block_effects s.0 k x (ends_placed b mid.identifiers (first_order s.0.instructions x) x)
    (instructions_placed x.instructions (s.0.instructions, mid)).0 h
    (block_stays b mid.identifiers (first_order s.0.instructions x) x)
    (instructions_kept x.instructions (s.0.instructions, mid))

blocks_kept : (b : Bool) (n k : ℕ) (s : Placed) → but_effects (blocks_placed b n k s).0 ≡ but_effects s.0
blocks_kept b zero k s = refl
blocks_kept b (suc n) k s =
    blocks_kept b n (k + 1) (block_placed b k s)
    ∙ block_kept b k (option_map (λ (e : BlockId × BasicBlock). e.1) (slice_get s.0.body.blocks k)) s refl

-- of a function placing changes the effects of its places alone
pub placed_still : (b : Bool) (s : Placed) → but_effects (function_placed b s).0 ≡ but_effects s.0
placed_still b s = blocks_kept b (length s.0.body.blocks) 0 s

created_placed : (b : Bool) (s : Placed) → created_functions (function_placed b s).0 ≡ created_functions s.0
created_placed b s = sym (created_but (function_placed b s).0) ∙ ap created_functions (placed_still b s)
    ∙ created_but s.0

abbrev walks_done : Bool → Listing → Environment → Environment
walks_done record_errors l env = renders_done record_errors l (mutations_done record_errors l env)

walks_functions : (ms : List RecordedMutation) (w : Walked) → (after_mutations false ms w).1.functions ≡ w.1.functions
walks_functions [] w = refl
walks_functions (m ∷ ms) w = walks_functions ms (after_mutation false w m)

silent_functions : (record_errors : Bool) (l : Listing) (env : Environment) → record_errors ≡ false
    → (walks_done record_errors l env).functions ≡ env.functions
silent_functions true l env h = cc
silent_functions false l env h = walks_functions l.mutations (graph_listed l, env_reported false l env)

module _ (f : HirFunction) (env : Environment) (r : Ranged) (h : range_pass true f env ≡ Ok r) where
  -- the range pass over a nested function changes nothing of what it creates
  pub created_ranged : created_functions r.after.0 ≡ created_functions f
  created_ranged =
      let p = pass_is true f env r h in
      let c : Bool = records true env in
      ap (λ (z : Ranged). created_functions z.after.0) (sym p.2)
      ∙ created_placed true (function_captured (mutations_done c p.0 env).0 f, walks_done c p.0 env)

  -- and of the functions in their slots it changes context places alone
  pub ranged_contexts : map but_context r.after.1.functions ≡ map but_context env.functions
  ranged_contexts =
      let p = pass_is true f env r h in
      let c : Bool = records true env in
      let walked : Environment = walks_done c p.0 env in
      let k = function_keeps true (function_captured (mutations_done c p.0 env).0 f, walked) in
      ap (λ (z : Ranged). map but_context z.after.1.functions) (sym p.2) ∙ ap (λ (e : Environment). e.functions) k.rest
      ∙ ap (map but_context) (silent_functions c p.0 env refl)

-- ---- slots

pub count_alike : (fs gs : List HirFunction) → map but_context gs ≡ map but_context fs → length gs ≡ length fs
count_alike fs gs h = sym (length-map gs but_context) ∙ ap length h ∙ length-map fs but_context
