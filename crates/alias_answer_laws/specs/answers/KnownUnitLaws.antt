-- No inference of a unit says that an operand has no effect.
use Rattle.std.specs.Prelude.{◌≡◌, ◌≢◌, ◌⊎◌, ℕ, ◌+◌, Bool, true, false, List, [], ◌∷◌, Option, Some, None, Result, Err}
use Rattle.std.specs.Prelude.{⊤, if◌then◌else◌, length, map, option_map, slice_get, slice_set, refl}
use Rattle.std.specs.List.{AllByRecursion}
use Rattle.std.specs.Option.{option_map_or}
use Rattle.std.proofs.Common.{zero, suc, inl, inr, ap, sym, ◌∙◌, subst, arith}
use Rattle.alias_base.specs.declared.ids.BlockId.{BlockId}
use Rattle.alias_base.specs.declared.ids.EvaluationOrder.{EvaluationOrder}
use Rattle.alias_base.specs.declared.ids.FunctionId.{FunctionId}
use Rattle.alias_base.specs.declared.ids.IdentifierId.{IdentifierId}
use Rattle.alias_base.specs.declared.ids.InstructionId.{InstructionId}
use Rattle.alias_hir.specs.Values.{created}
use Rattle.alias_hir.specs.declared.effect.AliasingEffect.{AliasingEffect}
use Rattle.alias_hir.specs.declared.env.Environment.{Environment}
use Rattle.alias_hir.specs.declared.env.Unit.{Unit as HirUnit}
use Rattle.alias_hir.specs.declared.error.InferError.{InferError}
use Rattle.alias_hir.specs.declared.error.InferError.TheVariants.{EffectsNotInferred}
use Rattle.alias_hir.specs.declared.hir.BasicBlock.{BasicBlock}
use Rattle.alias_hir.specs.declared.hir.HirFunction.{HirFunction}
use Rattle.alias_hir.specs.declared.hir.Instruction.{Instruction}
use Rattle.alias_hir.specs.declared.place.Place.{Place}
use Rattle.alias_hir.specs.declared.value.InstructionValue.{InstructionValue}
use Rattle.alias_lattice.specs.States.{State}
use Rattle.alias_flow.specs.Machine.{VisitLog, End}
use Rattle.alias_flow.specs.Machine as end
use Rattle.alias_tables.specs.Tables.{TableLists}
use Rattle.alias_step.specs.block.Contexts.{context_of}
use Rattle.alias_step.specs.declared.block.faults.BlockRefusal.{BlockRefusal}
use Rattle.alias_step.specs.declared.block.recorded.BlockEffects.{BlockEffects}
use Rattle.alias_effects.specs.Inference.{block_at, answer_of, pass_end, env_after}
use Rattle.alias_effects.specs.Numbered.{visits_end}
use Rattle.alias_effects.specs.Recording.{with_effects_of}
use Rattle.alias_effects.specs.declared.output.PassEnd.{PassEnd}
use Rattle.alias_graph.specs.recorded.BlockListings.{listed}
use Rattle.alias_graph.specs.recorded.Recording.{graph_listed}
use Rattle.alias_graph.specs.declared.recorded.listing.Listing.{Listing}
use Rattle.alias_graph.specs.declared.recorded.listing.RecordedMutation.{RecordedMutation}
use Rattle.alias_graph.specs.declared.recorded.listing.RecordedRender.{RecordedRender}
use Rattle.alias_graph.specs.Nodes.{Nodes}
use Rattle.alias_range_pass.specs.places.Blocks.{Placed, block_merged, block_placed, placed_at, blocks_placed}
use Rattle.alias_range_pass.specs.places.Blocks.{function_placed}
use Rattle.alias_range_pass.specs.places.Instructions.{context_placed, created_placed, surroundings, surrounded}
use Rattle.alias_range_pass.specs.places.Instructions.{env_assigned, placed_in, instruction_at, instructions_placed}
use Rattle.alias_range_pass.specs.places.Keeping.{but_context}
use Rattle.alias_range_pass.specs.places.Ranges.{assigned}
use Rattle.alias_range_pass.specs.places.Tables.{Table, table_of}
use Rattle.alias_range_pass.specs.Passes.{records, Ranged, range_pass}
use Rattle.alias_range_pass.specs.Refusals.{unreplaced, none_unreplaced, listing_or, positions_left, recorded}
use Rattle.alias_range_pass.specs.summary.MarkedPlaces.{function_captured}
use Rattle.alias_range_pass.specs.summary.Summaries.{tracked}
use Rattle.alias_range_pass.specs.summary.Walking.{Walked, after_mutation, after_mutations, after_render, after_renders}
use Rattle.alias_range_pass.specs.summary.Walking.{env_reported, mutations_done, renders_done}
use Rattle.alias_nesting_laws.specs.SlotLaws.{set_other, set_there}
use Rattle.alias_nesting_laws.specs.Slots.{with_function}
use Rattle.alias_nested.specs.Analysis.{naming, Analysis, analysis, each, effects_analysed, completed, completed_with}
use Rattle.alias_nested.specs.Analysis.{function_analysed, taken_analysed, found_analysed, slot_analysed, analysed}
use Rattle.alias_nested.specs.Created.{created_functions}
use Rattle.alias_nested.specs.Slots.{emptied}
use Rattle.alias_nested.specs.Units.{RootAnalysis, validated, root_analysed, all_analysed, UnitAnalysis, unit_analysed}
use Rattle.alias_nested.specs.Units.{InfersUnit}
use Rattle.alias_nested.specs.declared.infer.Inferred.{Inferred}
use Rattle.alias_nested.proofs.Evolving.{passed_contexts}
use Rattle.alias_answer_laws.specs.answers.Avoiding.{is_not_inferred, Answered, avoids_then, avoids_on, avoids_naming}
use Rattle.alias_answer_laws.specs.answers.Avoiding.{named_alike, block_refused, listing_avoids, room_avoids}
use Rattle.alias_answer_laws.specs.answers.KnownFunctionLaws.{FunctionKnown, function_known, SameListing}
use Rattle.alias_answer_laws.specs.answers.KnownFunctionLaws.{listing_through, same_functions, placed_lists_same}
use Rattle.alias_answer_laws.specs.answers.KnownFunctionLaws.{effects_lists_same}
use Rattle.alias_answer_laws.specs.answers.KnownWalkLaws.{Comes, Passes, WalkKnown, validated_passes}
use Rattle.alias_walks.specs.Words.{all_mapped as all_on}

-- ---- environments whose functions keep what they create, and operands with effects

-- the function that stands in the slot creates the same, and its operands keep having effects
abbrev pub SlotKeeps : Option HirFunction → Option HirFunction → Type 0
SlotKeeps None None = ⊤
SlotKeeps (Some f) (Some g) = SameListing f g × (FunctionKnown f → FunctionKnown g)
SlotKeeps None (Some g) = ⊥
SlotKeeps (Some f) None = ⊥

-- the same in each slot
abbrev pub SlotsKeep : List HirFunction → List HirFunction → Type 0
SlotsKeep fs gs = (k : ℕ) → SlotKeeps (slice_get fs k) (slice_get gs k)

same_listing : (f : HirFunction) → SameListing f f
same_listing f = record { listed = refl; creates = λ k. refl }

slot_self : (o : Option HirFunction) → SlotKeeps o o
slot_self None = tt
slot_self (Some f) = (same_listing f, λ h. h)

slots_self : (fs : List HirFunction) → SlotsKeep fs fs
slots_self fs k = slot_self (slice_get fs k)

slot_through : (o p q : Option HirFunction) → SlotKeeps o p → SlotKeeps p q → SlotKeeps o q
slot_through None None None h k = tt
slot_through None None (Some z) h k = absurd k
slot_through None (Some y) q h k = absurd h
slot_through (Some x) None q h k = absurd h
slot_through (Some x) (Some y) None h k = absurd k
slot_through (Some x) (Some y) (Some z) h k = (listing_through x y z h.0 k.0, λ p. k.1 (h.1 p))

slots_through : (fs gs hs : List HirFunction) → SlotsKeep fs gs → SlotsKeep gs hs → SlotsKeep fs hs
slots_through fs gs hs p q k = slot_through (slice_get fs k) (slice_get gs k) (slice_get hs k) (p k) (q k)

slots_set : (fs : List HirFunction) (n : ℕ) (f g : HirFunction) → slice_get fs n ≡ Some f → SlotKeeps (Some f) (Some g)
    → SlotsKeep fs (slice_set fs n g)
slots_set [] n f g e h k = tt
slots_set (y ∷ ys) zero f g e h zero = let same : y ≡ f = cc in subst (λ z. SlotKeeps (Some z) (Some g)) (sym same) h
slots_set (y ∷ ys) zero f g e h (suc k) = slot_self (slice_get ys k)
slots_set (y ∷ ys) (suc n) f g e h zero = slot_self (Some y)
slots_set (y ∷ ys) (suc n) f g e h (suc k) = slots_set ys n f g e h k

-- another context
context_keeps : (f : HirFunction) (ps : List Place) → SlotKeeps (Some f) (Some (record f { context = ps }))
context_keeps f ps = (record { listed = refl; creates = λ k. refl }, λ h. h)

all_of : {X : Type 0} (P : X → Type 0) → ((x : X) → P x) → (xs : List X) → AllByRecursion P xs
all_of P f [] = tt
all_of P f (x ∷ xs) = (f x, all_of P f xs)

-- what a walk comes to is still there
walk_keeps : (n : ℕ) (env more : Environment) → SlotsKeep env.functions more.functions → (o p : Option HirFunction)
    → SlotKeeps o p → WalkKnown n env o → WalkKnown n more p
unfolding WalkKnown
walk_keeps zero env more k o p s h = tt
walk_keeps (suc n) env more k None None s h = tt
walk_keeps (suc n) env more k None (Some g) s h = absurd s
walk_keeps (suc n) env more k (Some f) None s h = absurd s
walk_keeps (suc n) env more k (Some f) (Some g) s h = (
  s.1 h.0,
  subst (AllByRecursion (λ (id : FunctionId). WalkKnown n more (slice_get more.functions id.0)))
      (sym (same_functions f g s.0))
      (all_on (λ (id : FunctionId). WalkKnown n env (slice_get env.functions id.0))
      (λ (id : FunctionId). WalkKnown n more (slice_get more.functions id.0))
      (λ id. walk_keeps n env more k (slice_get env.functions id.0) (slice_get more.functions id.0) (k id.0))
      (created_functions f) h.1),
)

-- the functions that a function creates, and those on the levels below
abbrev pub BelowKnown : ℕ → Environment → HirFunction → Type 0
BelowKnown n env f = AllByRecursion (λ (id : FunctionId). WalkKnown n env (slice_get env.functions id.0))
    (created_functions f)

below_keeps : (n : ℕ) (env more : Environment) (f g : HirFunction) → SlotsKeep env.functions more.functions
    → SameListing f g → BelowKnown n env f → BelowKnown n more g
below_keeps n env more f g k s h =
    subst (AllByRecursion (λ (id : FunctionId). WalkKnown n more (slice_get more.functions id.0)))
    (sym (same_functions f g s))
    (all_on (λ (id : FunctionId). WalkKnown n env (slice_get env.functions id.0))
    (λ (id : FunctionId). WalkKnown n more (slice_get more.functions id.0))
    (λ id. walk_keeps n env more k (slice_get env.functions id.0) (slice_get more.functions id.0) (k id.0))
    (created_functions f) h)

-- on fewer levels
lower : (n : ℕ) (env : Environment) (o : Option HirFunction) → WalkKnown (suc n) env o → WalkKnown n env o
unfolding WalkKnown
lower zero env o h = tt
lower (suc n) env None h = tt
lower (suc n) env (Some f) h = (
  h.0,
  all_on (λ (id : FunctionId). WalkKnown (suc n) env (slice_get env.functions id.0))
      (λ (id : FunctionId). WalkKnown n env (slice_get env.functions id.0))
      (λ id. lower n env (slice_get env.functions id.0)) (created_functions f) h.1,
)

-- ---- a function that is put back

same_or_not : (k n : ℕ) → (k ≡ n) ⊎ (k ≡ n → ⊥)
same_or_not zero zero = inl refl
same_or_not zero (suc n) = inr (λ e. absurd (omega arith))
same_or_not (suc k) zero = inr (λ e. absurd (omega arith))
same_or_not (suc k) (suc n) = elim (same_or_not k n)
    [ inl e ↦ inl (ap (λ m. suc m) e) | inr e ↦ inr (λ h. e (omega arith)) ]

module _ (env : Environment) (id : FunctionId) (g : HirFunction) (more : Environment)
    (others : (k : ℕ) → (k ≡ id.0 → ⊥) → slice_get more.functions k ≡ slice_get env.functions k)
    (there : slice_get more.functions id.0 ≡ Some g) where
  -- where the function itself is known, so is each walk that comes to its slot
  back_known : (n : ℕ) → WalkKnown n env (Some g) → (o : Option HirFunction) → WalkKnown n env o → WalkKnown n more o
  unfolding WalkKnown
  back_known zero own o h = tt
  back_known (suc n) own None h = tt
  back_known (suc n) own (Some f) h = (
    h.0,
    all_on (λ (i : FunctionId). WalkKnown n env (slice_get env.functions i.0))
        (λ (i : FunctionId). WalkKnown n more (slice_get more.functions i.0))
        (λ i k. elim (same_or_not i.0 id.0) [
          | inl e ↦ subst (WalkKnown n more) (sym (ap (slice_get more.functions) e ∙ there))
              (back_known n (lower n env (Some g) own) (Some g) (lower n env (Some g) own))
          | inr e ↦ subst (WalkKnown n more) (sym (others i.0 e))
              (back_known n (lower n env (Some g) own) (slice_get env.functions i.0) k)
        ]) (created_functions f) h.1,
  )

some_kept : (f : HirFunction) (o : Option HirFunction) → SlotKeeps (Some f) o → (g : HirFunction) × (o ≡ Some g)
some_kept f None h = absurd h
some_kept f (Some g) h = (g, refl)

got_set : (fs : List HirFunction) (n : ℕ) (f g : HirFunction) → slice_get fs n ≡ Some f → slice_get (slice_set fs n g) n
    ≡ Some g
got_set fs n f g e = set_there fs n g f e

-- out of its slot and back
slots_back : (fs gs : List HirFunction) (n : ℕ) (f e g : HirFunction) → slice_get fs n ≡ Some f
    → SlotKeeps (Some f) (Some g) → SlotsKeep (slice_set fs n e) gs → SlotsKeep fs (slice_set gs n g)
slots_back fs gs n f e g at h k j =
    elim (same_or_not j n) [
      | inl same ↦
          (let out : SlotKeeps (Some e) (slice_get gs n) =
          subst (λ o. SlotKeeps o (slice_get gs n)) (got_set fs n f e at) (k n) in
          let there = some_kept e (slice_get gs n) out in
          subst (λ m. SlotKeeps (slice_get fs m) (slice_get (slice_set gs n g) m)) (sym same)
          (subst (λ o. SlotKeeps o (slice_get (slice_set gs n g) n)) (sym at)
          (subst (SlotKeeps (Some f)) (sym (got_set gs n there.0 g there.1)) h)))
      | inr other ↦
          subst (SlotKeeps (slice_get fs j)) (sym (set_other gs n j g other))
          (subst (λ o. SlotKeeps o (slice_get gs j)) (set_other fs n j e other) (k j))
    ]

-- ---- the environment after the effects pass

contexts_keep : (fs gs : List HirFunction) → map but_context gs ≡ map but_context fs → SlotsKeep fs gs
contexts_keep [] [] e k = tt
contexts_keep [] (g ∷ gs) e k = cc
contexts_keep (f ∷ fs) [] e k = cc
contexts_keep (f ∷ fs) (g ∷ gs) e zero =
    let one : but_context g ≡ but_context f = cc in
    let h : SlotKeeps (Some f) (Some (but_context g)) =
    subst (λ (z : HirFunction). SlotKeeps (Some f) (Some z)) (sym one) (context_keeps f (but_context f).context) in
    (record { listed = h.0.listed; creates = h.0.creates }, h.1)
contexts_keep (f ∷ fs) (g ∷ gs) e (suc k) = let rest : map but_context gs ≡ map but_context fs = cc in
    contexts_keep fs gs rest k

after_keeps : (env : Environment) (e : PassEnd) → SlotsKeep env.functions (env_after env e).functions
after_keeps env e = contexts_keep env.functions (env_after env e).functions (passed_contexts env e)

end_comes : (env : Environment) (f : HirFunction) (r : End (VisitLog State) TableLists BlockEffects BlockRefusal)
    → Passes (answer_of env f r)
end_comes env f (end.Solved w) = tt
end_comes env f (end.Fault n c) = (block_refused env (block_at f.body.blocks n) c).1
end_comes env f (end.NotSettled visits) = refl

pub pass_comes : (env : Environment) (f : HirFunction) (b : Bool) → Passes (pass_end env f b)
pass_comes env f b = end_comes env f (visits_end (context_of env f b))

-- ---- the range pass

context_set : (table : Table) (fs : List HirFunction) (n : ℕ) (o : Option HirFunction) → slice_get fs n ≡ o
    → SlotsKeep fs (option_map_or (λ (f : HirFunction). slice_set fs n (context_placed table f)) o fs)
context_set table fs n None e = slots_self fs
context_set table fs n (Some f) e = slots_set fs n f (context_placed table f) e
    (context_keeps f (context_placed table f).context)

created_keep : (table : Table) (o : Option FunctionId) (fs : List HirFunction)
    → SlotsKeep fs (created_placed table o fs)
created_keep table None fs = slots_self fs
created_keep table (Some g) fs = context_set table fs g.0 (slice_get fs g.0) refl

some_keep : (b : Bool) (table : Table) (t : EvaluationOrder) (v : InstructionValue) (env : Environment)
    → SlotsKeep env.functions (if b then env else surroundings table t v env).functions
some_keep true table t v env = slots_self env.functions
some_keep false table t v env = created_keep table (created v) env.functions

surrounded_keep : (o : Option (List AliasingEffect)) (table : Table) (t : EvaluationOrder) (v : InstructionValue)
    (env : Environment) → SlotsKeep env.functions (surrounded o table t v env).functions
surrounded_keep None table t v env = slots_self env.functions
surrounded_keep (Some es) table t v env = some_keep _ table t v env

placed_keep : (is : List Instruction) (env : Environment) (id : InstructionId) (o : Option Instruction)
    → SlotsKeep env.functions (placed_in is env id o).1.functions
placed_keep is env id None = slots_self env.functions
placed_keep is env id (Some i) = surrounded_keep i.effects (table_of (assigned i env.identifiers) i) i.id i.value
    (env_assigned i env)

instructions_keep : (ids : List InstructionId) (s : List Instruction × Environment)
    → SlotsKeep s.1.functions (instructions_placed ids s).1.functions
instructions_keep [] s = slots_self s.1.functions
instructions_keep (id ∷ ids) s =
    slots_through s.1.functions (instruction_at s id).1.functions (instructions_placed (id ∷ ids) s).1.functions
    (placed_keep s.0 s.1 id (slice_get s.0 id.0)) (instructions_keep ids (instruction_at s id))

block_keeps : (b : Bool) (k : ℕ) (o : Option BasicBlock) (s : Placed)
    → SlotsKeep s.1.functions (placed_at b k o s).1.functions
block_keeps b k None s = slots_self s.1.functions
block_keeps b k (Some x) s = instructions_keep x.instructions (s.0.instructions, block_merged s.0 x s.1)

blocks_keep : (b : Bool) (n k : ℕ) (s : Placed) → SlotsKeep s.1.functions (blocks_placed b n k s).1.functions
blocks_keep b zero k s = slots_self s.1.functions
blocks_keep b (suc n) k s = slots_through s.1.functions (block_placed b k s).1.functions
    (blocks_placed b (suc n) k s).1.functions
    (block_keeps b k (option_map (λ (e : BlockId × BasicBlock). e.1) (slice_get s.0.body.blocks k)) s)
    (blocks_keep b n (k + 1) (block_placed b k s))

walks_keep : (r : Bool) (ms : List RecordedMutation) (w : Walked)
    → SlotsKeep w.1.functions (after_mutations r ms w).1.functions
walks_keep r [] w = slots_self w.1.functions
walks_keep r (m ∷ ms) w = walks_keep r ms (after_mutation r w m)

renders_keep : (g : Nodes) (rs : List RecordedRender) (env : Environment)
    → SlotsKeep env.functions (after_renders g rs env).functions
renders_keep g [] env = slots_self env.functions
renders_keep g (r ∷ rs) env = renders_keep g rs (after_render g env r)

rendered_keep : (b : Bool) (l : Listing) (w : Walked) → SlotsKeep w.1.functions (renders_done b l w).functions
rendered_keep true l w = renders_keep w.0 l.renders w.1
rendered_keep false l w = slots_self w.1.functions

replaced_comes : (o : Option InstructionId) → Passes (none_unreplaced o)
replaced_comes None = tt
replaced_comes (Some i) = refl

listed_comes : (f : HirFunction) → Passes (recorded f)
listed_comes f =
    avoids_then is_not_inferred (Answered {A = ⊤}) (Answered {A = Listing}) (none_unreplaced (unreplaced f)) _
    (replaced_comes (unreplaced f)) (λ r q.
    avoids_then is_not_inferred (Answered {A = Listing}) (Answered {A = Listing}) (listing_or (listed f)) _
    (listing_avoids (listed f)).1 (λ l p.
    avoids_then is_not_inferred (Answered {A = ⊤}) (Answered {A = Listing}) (positions_left l.next (length (tracked f)))
    _ (room_avoids _).1 (λ s t. tt)))

-- the function has operands with effects, creates what it did, and the environment keeps its own
abbrev pub Finished : HirFunction → Environment → Placed → Type 0
Finished f env s = FunctionKnown s.0 × SameListing f s.0 × SlotsKeep env.functions s.1.functions

pub range_comes : (b : Bool) (f : HirFunction) (env : Environment)
    → Comes (λ (r : Ranged). Finished f env r.after) (range_pass b f env)
range_comes b f env =
    avoids_then is_not_inferred (Answered {A = Listing}) (λ (r : Ranged). Finished f env r.after) (recorded f) _
    (listed_comes f) (λ l p.
    let w : Walked = mutations_done (records b env) l env in
    let begun : Placed = (function_captured w.0 f, renders_done (records b env) l w) in
    let after : Placed = function_placed b begun in
    let walked : SlotsKeep env.functions w.1.functions =
    walks_keep (records b env) l.mutations (graph_listed l, env_reported (records b env) l env) in
    let rendered : SlotsKeep env.functions begun.1.functions =
    slots_through env.functions w.1.functions begun.1.functions walked (rendered_keep (records b env) l w) in
    let captured : SameListing f begun.0 = record { listed = refl; creates = λ k. refl } in (
      function_known b begun,
      listing_through f begun.0 after.0 captured (placed_lists_same b begun),
      slots_through env.functions begun.1.functions after.1.functions rendered
          (blocks_keep b (length f.body.blocks) 0 begun),
    ))

-- ---- nested functions

abbrev FinishedWith : HirFunction → Environment → HirFunction × Analysis → Type 0
FinishedWith f env s = Finished f env (s.0, s.1.env)

finished_through : (f g : HirFunction) (env more : Environment) (s : Placed) → SameListing f g
    → SlotsKeep env.functions more.functions → Finished g more s → Finished f env s
finished_through f g env more s p k h = (
  h.0,
  listing_through f g s.0 p h.1,
  slots_through env.functions more.functions s.1.functions k h.2,
)

function_comes : (id : FunctionId) (f : HirFunction) (a : Analysis)
    → Comes (FinishedWith f a.env) (function_analysed id f a)
function_comes id f a =
    let Effects : HirFunction × Analysis → Type 0 = λ s. SameListing f s.0
    × SlotsKeep a.env.functions s.1.env.functions in
    avoids_then is_not_inferred Effects (FinishedWith f a.env) (effects_analysed id f a) (completed_with id)
    (avoids_then is_not_inferred (Answered {A = PassEnd}) Effects (naming id (pass_end a.env f true)) _
    (avoids_naming is_not_inferred (Answered {A = PassEnd}) id (pass_end a.env f true) (λ e. (named_alike id e).1)
    (pass_comes a.env f true)) (λ e p. (effects_lists_same e.solved f, after_keeps a.env e)))
    (λ s p.
    let Done : Placed → Type 0 = Finished s.0 s.1.env in
    avoids_then is_not_inferred Done (FinishedWith f a.env) (completed id s.0 s.1.env) _
    (avoids_then is_not_inferred (λ (r : Ranged). Done r.after) Done (naming id (range_pass true s.0 s.1.env)) _
    (avoids_naming is_not_inferred (λ (r : Ranged). Done r.after) id (range_pass true s.0 s.1.env)
    (λ e. (named_alike id e).1) (range_comes true s.0 s.1.env))
    (λ r q. (q.0, record { listed = q.1.listed; creates = q.1.creates }, q.2)))
    (λ c q. finished_through f s.0 a.env s.1.env c p.0 p.1 q))

-- the environment keeps its functions, and those that the function creates are known on so many levels
abbrev pub BelowDone : ℕ → HirFunction → Analysis → Analysis → Type 0
BelowDone n f a b = SlotsKeep a.env.functions b.env.functions × BelowKnown n b.env f

abbrev SlotDone : ℕ → FunctionId → Analysis → Analysis → Type 0
SlotDone n id a b = SlotsKeep a.env.functions b.env.functions × WalkKnown n b.env (slice_get b.env.functions id.0)

-- a function with those that it creates
own_walk : (n : ℕ) (env : Environment) (g : HirFunction) → FunctionKnown g → BelowKnown n env g
    → WalkKnown (suc n) env (Some g)
unfolding WalkKnown
own_walk n env g h k = (h, k)

no_walk : (n : ℕ) (env : Environment) → WalkKnown n env None
unfolding WalkKnown
no_walk zero env = tt
no_walk (suc n) env = tt

no_levels : (env : Environment) (f : HirFunction) → BelowKnown 0 env f
unfolding WalkKnown
no_levels env f = all_of (λ (id : FunctionId). WalkKnown 0 env (slice_get env.functions id.0)) (λ id. tt)
    (created_functions f)

module _ (n : ℕ) (below : HirFunction → Analysis → Result Analysis InferError)
    (done : (f : HirFunction) (a : Analysis) → Comes (BelowDone n f a) (below f a)) where
  abbrev TakenDone : HirFunction → Analysis → HirFunction × Analysis → Type 0
  TakenDone f a s = FinishedWith f a.env s × BelowKnown n s.1.env s.0

  taken_comes : (id : FunctionId) (f : HirFunction) (a : Analysis) → Comes (TakenDone f a) (taken_analysed below id f a)
  taken_comes id f a =
      avoids_then is_not_inferred (BelowDone n f a) (TakenDone f a) (below f a) (function_analysed id f) (done f a)
      (λ b p.
      avoids_on is_not_inferred (FinishedWith f b.env) (TakenDone f a) (function_analysed id f b)
      (λ s q. (
        finished_through f f a.env b.env (s.0, s.1.env) (same_listing f) p.0 q,
        below_keeps n b.env s.1.env f s.0 q.2 q.1 p.1,
      )) (function_comes id f b))

  found_comes : (id : FunctionId) (a : Analysis) (o : Option HirFunction) → slice_get a.env.functions id.0 ≡ o
      → Comes (SlotDone (suc n) id a) (found_analysed below id a o)
  found_comes id a None e = (
    slots_self a.env.functions,
    subst (WalkKnown (suc n) a.env) (sym e) (no_walk (suc n) a.env),
  )
  found_comes id a (Some f) e =
      let out : Analysis = record a { env = with_function id (emptied f.returns) a.env } in
      avoids_then is_not_inferred (TakenDone f out) (SlotDone (suc n) id a) (taken_analysed below id f out) _
      (taken_comes id f out) (λ s p.
      let back : Environment = with_function id s.0 s.1.env in
      let empty : SlotKeeps (Some (emptied f.returns)) (slice_get s.1.env.functions id.0)
      = subst (λ o. SlotKeeps o (slice_get s.1.env.functions id.0))
      (got_set a.env.functions id.0 f (emptied f.returns) e) (p.0.2 id.0) in
      let held = some_kept (emptied f.returns) (slice_get s.1.env.functions id.0) empty in
      let there : slice_get back.functions id.0 ≡ Some s.0 = got_set s.1.env.functions id.0 held.0 s.0 held.1 in
      let own : WalkKnown (suc n) s.1.env (Some s.0) = own_walk n s.1.env s.0 p.0.0 p.1 in (
        slots_back a.env.functions s.1.env.functions id.0 f (emptied f.returns) s.0 e (p.0.1, λ h. p.0.0) p.0.2,
        subst (WalkKnown (suc n) back) (sym there)
            (back_known s.1.env id s.0 back (λ k other. set_other s.1.env.functions id.0 k s.0 other) there (suc n) own
            (Some s.0) own),
      ))

  slot_comes : (id : FunctionId) (a : Analysis) → Comes (SlotDone (suc n) id a) (slot_analysed below id a)
  slot_comes id a = found_comes id a (slice_get a.env.functions id.0) refl

abbrev EachDone : ℕ → List FunctionId → Analysis → Analysis → Type 0
EachDone n ids a b = SlotsKeep a.env.functions b.env.functions
    × AllByRecursion (λ (id : FunctionId). WalkKnown n b.env (slice_get b.env.functions id.0)) ids

each_comes : (n : ℕ) (step : FunctionId → Analysis → Result Analysis InferError)
    → ((id : FunctionId) (a : Analysis) → Comes (SlotDone n id a) (step id a)) → (ids : List FunctionId) (a : Analysis)
    → Comes (EachDone n ids a) (each step ids a)
each_comes n step h [] a = (slots_self a.env.functions, tt)
each_comes n step h (id ∷ ids) a =
    avoids_then is_not_inferred (SlotDone n id a) (EachDone n (id ∷ ids) a) (step id a) (each step ids) (h id a) (λ b p.
    avoids_on is_not_inferred (EachDone n ids b) (EachDone n (id ∷ ids) a) (each step ids b)
    (λ c q. (
      slots_through a.env.functions b.env.functions c.env.functions p.0 q.0,
      (
        walk_keeps n b.env c.env q.0 (slice_get b.env.functions id.0) (slice_get c.env.functions id.0) (q.0 id.0) p.1,
        q.1,
      ),
    ))
    (each_comes n step h ids b))

analysed_comes : (n : ℕ) (f : HirFunction) (a : Analysis) → Comes (BelowDone n f a) (analysed n f a)
unfolding analysed
analysed_comes zero f a = (slots_self a.env.functions, no_levels a.env f)
analysed_comes (suc n) f a = each_comes (suc n) (slot_analysed (analysed n))
    (slot_comes n (analysed n) (analysed_comes n)) (created_functions f) a

-- ---- the unit

root_comes : (f : HirFunction) (a : Analysis) → BelowKnown 63 a.env f → Passes (root_analysed f a)
root_comes f a h =
    avoids_then is_not_inferred (Answered {A = PassEnd}) (Answered {A = RootAnalysis}) (pass_end a.env f false) _
    (pass_comes a.env f false) (λ e p.
    let g : HirFunction = with_effects_of e.solved f in
    let more : Environment = env_after a.env e in
    avoids_then is_not_inferred (λ (r : Ranged). Finished g more r.after) (Answered {A = RootAnalysis})
    (range_pass false g more) _ (range_comes false g more) (λ r q.
    let all : Finished f a.env r.after = finished_through f g a.env more r.after (effects_lists_same e.solved f)
    (after_keeps a.env e) q in
    avoids_then is_not_inferred (Answered {A = Environment}) (Answered {A = RootAnalysis})
    (validated r.after.0 r.after.1) _
    (validated_passes r.after.0 r.after.1 (own_walk 63 r.after.1 r.after.0 all.0
    (below_keeps 63 a.env r.after.1 f r.after.0 all.2 all.1 h))) (λ n s. tt)))

unit_comes : (u : HirUnit) → Passes (unit_analysed u)
unit_comes u =
    let a : Analysis = analysis u.env [] in
    avoids_then is_not_inferred (Answered {A = RootAnalysis}) (Answered {A = UnitAnalysis}) (all_analysed u.function a)
    _
    (avoids_then is_not_inferred (BelowDone 63 u.function a) (Answered {A = RootAnalysis}) (analysed 63 u.function a)
    (root_analysed u.function) (analysed_comes 63 u.function a) (λ b p. root_comes u.function b p.1)) (λ r s. tt)

not_uninferred : (x : IdentifierId) (X : Type 0) → is_not_inferred (EffectsNotInferred x) ≡ false → X
not_uninferred x X h = cc

-- the inference of a unit never says that an operand has no effect
pub unit_always_known : (u : HirUnit) (x : IdentifierId) → unit_analysed u ≢ Err (EffectsNotInferred x)
unit_always_known u x = λ e. not_uninferred x ⊥ (subst (Comes (Answered {A = UnitAnalysis})) e (unit_comes u))

-- nor does a call that answers what is stated
pub no_call_says : (u : HirUnit) (result : Result Inferred InferError) → InfersUnit (unit_analysed u) result
    → (x : IdentifierId) → result ≢ Err (EffectsNotInferred x)
no_call_says u result h x = λ e. unit_always_known u x (subst (InfersUnit (unit_analysed u)) e h refl)
