-- No instruction or terminal of a function carries Apply after the effects pass, and so the range pass after it finds
-- none left.
use Rattle.std.specs.Prelude.{◌≡◌, ◌≢◌, ◌+◌, ℕ, Bool, true, false, if◌then◌else◌, nat_le, List, [], ◌∷◌, Option, Some}
use Rattle.std.specs.Prelude.{None, Result, Ok, Err, ⊤, length, option_map, position, slice_get, slice_set, refl}
use Rattle.std.specs.List.{AllByRecursion}
use Rattle.std.specs.Map.{keys_of}
use Rattle.std.specs.Option.{option_map_or}
use Rattle.std.proofs.Common.{zero, suc, subst}
use Rattle.indexmap.specs.IndexMap.{set_value_at}
use Rattle.alias_base.specs.Find.{same_block}
use Rattle.alias_base.specs.declared.ids.BlockId.{BlockId}
use Rattle.alias_base.specs.declared.ids.EvaluationOrder.{EvaluationOrder}
use Rattle.alias_base.specs.declared.ids.FunctionId.{FunctionId}
use Rattle.alias_base.specs.declared.ids.InstructionId.{InstructionId}
use Rattle.alias_hir.specs.Terminals.{terminal_effects, with_terminal_effects}
use Rattle.alias_hir.specs.Values.{created}
use Rattle.alias_hir.specs.declared.effect.AliasingEffect.{AliasingEffect}
use Rattle.alias_hir.specs.declared.env.Environment.{Environment}
use Rattle.alias_hir.specs.declared.error.InferError.{InferError}
use Rattle.alias_hir.specs.declared.error.InferError.TheVariants.{UnreplacedApply}
use Rattle.alias_hir.specs.declared.hir.BasicBlock.{BasicBlock}
use Rattle.alias_hir.specs.declared.hir.HirFunction.{HirFunction}
use Rattle.alias_hir.specs.declared.hir.Instruction.{Instruction}
use Rattle.alias_hir.specs.declared.report.Report.{Report}
use Rattle.alias_hir.specs.declared.terminal.Terminal.{Terminal}
use Rattle.alias_hir.specs.declared.terminal.Terminal.TheVariants.{Return, MaybeThrow}
use Rattle.alias_hir.specs.declared.value.InstructionValue.{InstructionValue}
use Rattle.alias_step.specs.declared.block.recorded.InstructionEffects.{InstructionEffects}
use Rattle.alias_step.specs.declared.block.recorded.TerminalEffects.{TerminalEffects}
use Rattle.alias_effects.specs.Inference.{pass_end}
use Rattle.alias_effects.specs.Recording.{recorded_instructions, block_with, with_terminal_at, recorded_terminals}
use Rattle.alias_effects.specs.Recording.{with_effects_of}
use Rattle.alias_effects.specs.declared.output.PassEnd.{PassEnd}
use Rattle.alias_effects.specs.declared.solved.Solved.{Solved}
use Rattle.alias_graph.specs.recorded.BlockListings.{listed}
use Rattle.alias_graph.specs.declared.recorded.listing.Listing.{Listing}
use Rattle.alias_range_pass.specs.places.Blocks.{Placed, block_merged, placed_at, block_placed, blocks_placed}
use Rattle.alias_range_pass.specs.places.Instructions.{context_placed, created_placed, surroundings, surrounded}
use Rattle.alias_range_pass.specs.places.Instructions.{env_assigned, instruction_placed, placed_in, instruction_at}
use Rattle.alias_range_pass.specs.places.Instructions.{instructions_placed}
use Rattle.alias_range_pass.specs.places.Ranges.{assigned}
use Rattle.alias_range_pass.specs.places.Tables.{Table, table_of}
use Rattle.alias_range_pass.specs.Passes.{records, Ranged, ranged, range_pass}
use Rattle.alias_range_pass.specs.Refusals.{has_apply, carries_apply, first_apply, or_else, first_apply_of, unreplaced}
use Rattle.alias_range_pass.specs.Refusals.{none_unreplaced, listing_or, positions_left, recorded}
use Rattle.alias_range_pass.specs.summary.MarkedPlaces.{function_captured}
use Rattle.alias_range_pass.specs.summary.Summaries.{tracked}
use Rattle.alias_range_pass.specs.summary.Walking.{Walked, after_mutation, after_mutations, after_render, after_renders}
use Rattle.alias_range_pass.specs.summary.Walking.{env_reported, mutations_done, renders_done}
use Rattle.alias_graph.specs.recorded.Recording.{graph_listed}
use Rattle.alias_graph.specs.declared.recorded.listing.RecordedMutation.{RecordedMutation}
use Rattle.alias_graph.specs.declared.recorded.listing.RecordedRender.{RecordedRender}
use Rattle.alias_graph.specs.Nodes.{Nodes}
use Rattle.alias_answer_laws.specs.answers.Applies.{NoneIsApply, NoInstructionRecordsApply, NoTerminalRecordsApply}
use Rattle.alias_answer_laws.specs.answers.Applies.{RecordsNoApply, InstructionsLackApply, TerminalsLackApply}
use Rattle.alias_answer_laws.specs.answers.Applies.{NestedLackApply, Leads}
use Rattle.alias_answer_laws.specs.answers.Avoiding.{is_unreplaced, Answered, avoids_then, listing_avoids, room_avoids}
use Rattle.alias_answer_laws.specs.answers.PassLaws.{EndsPlain, pass_plain}

-- ---- answers

pub led_to : {A : Type 0} (P : A → Type 0) (r : Result A InferError) (x : A) → Leads P r → r ≡ Ok x → P x
led_to P r x h e = subst (Leads P) e h

not_unreplaced : (i : InstructionId) (report : Report) (X : Type 0) → is_unreplaced (UnreplacedApply i report) ≡ false
    → X
not_unreplaced i report X h = cc

pub never_left : {A : Type 0} (P : A → Type 0) (r : Result A InferError) → Leads P r
    → (i : InstructionId) (report : Report) → r ≢ Err (UnreplacedApply i report)
never_left {A} P r h i report = λ e. not_unreplaced i report ⊥ (subst (Leads P) e h)

-- ---- lists

pub set_all : {X : Type 0} (P : X → Type 0) (xs : List X) (n : ℕ) (x : X) → P x → AllByRecursion P xs
    → AllByRecursion P (slice_set xs n x)
set_all P [] n x p h = tt
set_all P (y ∷ ys) zero x p h = (p, h.1)
set_all P (y ∷ ys) (suc n) x p h = (h.0, set_all P ys n x p h.1)

pub got_all : {X : Type 0} (P : X → Type 0) (xs : List X) (n : ℕ) (x : X) → slice_get xs n ≡ Some x
    → AllByRecursion P xs → P x
got_all P [] n x e h = cc
got_all P (y ∷ ys) zero x e h = let same : y ≡ x = cc in subst P same h.0
got_all P (y ∷ ys) (suc n) x e h = got_all P ys n x e h.1

-- ---- what the effects pass records

-- no Apply is recorded
pub recorded_without_apply : (env : Environment) (f : HirFunction) (b : Bool) (e : PassEnd) → pass_end env f b ≡ Ok e
    → RecordsNoApply e.solved
recorded_without_apply env f b e h = led_to EndsPlain (pass_end env f b) e (pass_plain env f b) h

abbrev LacksApply : Instruction → Type 0
LacksApply i = has_apply i.effects ≡ false

recorded_at : (e : InstructionEffects) (o : Option Instruction) (xs : List Instruction) → NoneIsApply e.effects
    → AllByRecursion LacksApply xs
    → AllByRecursion LacksApply (option_map_or
    (λ (x : Instruction). slice_set xs e.instruction.0 (record x { effects = Some e.effects })) o xs)
recorded_at e None xs p h = h
recorded_at e (Some x) xs p h = set_all LacksApply xs e.instruction.0 (record x { effects = Some e.effects }) p h

recorded_all : (es : List InstructionEffects) (xs : List Instruction) → NoInstructionRecordsApply es
    → AllByRecursion LacksApply xs → AllByRecursion LacksApply (recorded_instructions es xs)
recorded_all [] xs p h = h
recorded_all (e ∷ es) xs p h = recorded_at e (slice_get (recorded_instructions es xs) e.instruction.0)
    (recorded_instructions es xs) p.0 (recorded_all es xs p.1 h)

abbrev EndLacksApply : BlockId × BasicBlock → Type 0
EndLacksApply b = has_apply (terminal_effects b.1.terminal) ≡ false

-- a terminal that carries the effects, where it has a place for them
end_recorded : (t : Terminal) (es : List AliasingEffect) → NoneIsApply es → has_apply (terminal_effects t) ≡ false
    → has_apply (terminal_effects (with_terminal_effects t es)) ≡ false
end_recorded (Return id value effects) es p h = p
end_recorded (MaybeThrow id continuation handler effects) es p h = p
end_recorded t es p h = h

value_set_all : (bs : List (BlockId × BasicBlock)) (n : ℕ) (x : BlockId × BasicBlock) (es : List AliasingEffect)
    → slice_get bs n ≡ Some x → NoneIsApply es → AllByRecursion EndLacksApply bs
    → AllByRecursion EndLacksApply (set_value_at bs n (block_with x.1 es))
value_set_all [] n x es e p h = tt
value_set_all (b ∷ bs) zero x es e p h = let same : b ≡ x = cc in
    (end_recorded x.1.terminal es p (subst EndLacksApply same h.0), h.1)
value_set_all (b ∷ bs) (suc n) x es e p h = (h.0, value_set_all bs n x es e p h.1)

end_at_set : (es : List AliasingEffect) (bs : List (BlockId × BasicBlock)) (n : ℕ) (o : Option (BlockId × BasicBlock))
    → slice_get bs n ≡ o → NoneIsApply es → AllByRecursion EndLacksApply bs
    → AllByRecursion EndLacksApply (option_map_or (λ (x : BlockId × BasicBlock). set_value_at bs n (block_with x.1 es))
    o bs)
end_at_set es bs n None e p h = h
end_at_set es bs n (Some x) e p h = value_set_all bs n x es e p h

end_set : (es : List AliasingEffect) (bs : List (BlockId × BasicBlock)) (o : Option ℕ) → NoneIsApply es
    → AllByRecursion EndLacksApply bs → AllByRecursion EndLacksApply (option_map_or (with_terminal_at es bs) o bs)
end_set es bs None p h = h
end_set es bs (Some n) p h = end_at_set es bs n (slice_get bs n) refl p h

ends_recorded : (ts : List TerminalEffects) (bs : List (BlockId × BasicBlock)) → NoTerminalRecordsApply ts
    → AllByRecursion EndLacksApply bs → AllByRecursion EndLacksApply (recorded_terminals ts bs)
ends_recorded [] bs p h = h
ends_recorded (t ∷ ts) bs p h = end_set t.effects (recorded_terminals ts bs)
    (position (same_block t.block) (keys_of (recorded_terminals ts bs))) p.0 (ends_recorded ts bs p.1 h)

-- a function with what records no Apply
pub instructions_without_apply : (s : Solved) (f : HirFunction) → RecordsNoApply s → InstructionsLackApply f
    → InstructionsLackApply (with_effects_of s f)
instructions_without_apply s f p h = recorded_all s.effects f.instructions p.0 h

pub terminals_without_apply : (s : Solved) (f : HirFunction) → RecordsNoApply s → TerminalsLackApply f
    → TerminalsLackApply (with_effects_of s f)
terminals_without_apply s f p h = ends_recorded s.terminal_effects f.body.blocks p.1 h

-- ---- the refusals of the range pass

lacks_at : (is : List Instruction) (id : InstructionId) (o : Option Instruction) → slice_get is id.0 ≡ o
    → AllByRecursion LacksApply is → option_map_or (λ (i : Instruction). has_apply i.effects) o false ≡ false
lacks_at is id None e h = refl
lacks_at is id (Some i) e h = got_all LacksApply is id.0 i e h

next_first : (b : Bool) (id : InstructionId) (o : Option InstructionId) → b ≡ false → o ≡ None
    → (if b then Some id else o) ≡ None
next_first true id o h k = cc
next_first false id o h k = k

none_in : (is : List Instruction) (ids : List InstructionId) → AllByRecursion LacksApply is → first_apply is ids ≡ None
none_in is [] h = refl
none_in is (id ∷ ids) h = next_first (carries_apply is id) id (first_apply is ids)
    (lacks_at is id (slice_get is id.0) refl h) (none_in is ids h)

neither : {A : Type 0} (o p : Option A) → o ≡ None → p ≡ None → or_else o p ≡ None
neither None p h k = k
neither (Some x) p h k = cc

none_in_blocks : (is : List Instruction) (bs : List (BlockId × BasicBlock)) → AllByRecursion LacksApply is
    → first_apply_of is bs ≡ None
none_in_blocks is [] h = refl
none_in_blocks is (b ∷ bs) h = neither (first_apply is b.1.instructions) (first_apply_of is bs)
    (none_in is b.1.instructions h) (none_in_blocks is bs h)

replaced_leads : (o : Option InstructionId) → o ≡ None → Leads (Answered {A = ⊤}) (none_unreplaced o)
replaced_leads None h = tt
replaced_leads (Some i) h = cc

listed_leads : (f : HirFunction) → InstructionsLackApply f → Leads (Answered {A = Listing}) (recorded f)
listed_leads f h =
    avoids_then is_unreplaced (Answered {A = ⊤}) (Answered {A = Listing}) (none_unreplaced (unreplaced f)) _
    (replaced_leads (unreplaced f) (none_in_blocks f.instructions f.body.blocks h)) (λ r q.
    avoids_then is_unreplaced (Answered {A = Listing}) (Answered {A = Listing}) (listing_or (listed f)) _
    (listing_avoids (listed f)).0 (λ l p.
    avoids_then is_unreplaced (Answered {A = ⊤}) (Answered {A = Listing}) (positions_left l.next (length (tracked f))) _
    (room_avoids (nat_le (l.next + length (tracked f)) 4294967295)).0 (λ s t. tt)))

-- ---- what the range pass leaves

-- the function and those nested below
abbrev pub BothLackApply : Placed → Type 0
BothLackApply s = InstructionsLackApply s.0 × NestedLackApply s.1

abbrev ListLacksApply : List Instruction × Environment → Type 0
ListLacksApply s = AllByRecursion LacksApply s.0 × NestedLackApply s.1

context_set : (table : Table) (fs : List HirFunction) (n : ℕ) (o : Option HirFunction) → slice_get fs n ≡ o
    → AllByRecursion InstructionsLackApply fs
    → AllByRecursion InstructionsLackApply
    (option_map_or (λ (f : HirFunction). slice_set fs n (context_placed table f)) o fs)
context_set table fs n None e h = h
context_set table fs n (Some f) e h = set_all InstructionsLackApply fs n (context_placed table f)
    (got_all InstructionsLackApply fs n f e h) h

created_set : (table : Table) (o : Option FunctionId) (fs : List HirFunction) → AllByRecursion InstructionsLackApply fs
    → AllByRecursion InstructionsLackApply (created_placed table o fs)
created_set table None fs h = h
created_set table (Some g) fs h = context_set table fs g.0 (slice_get fs g.0) refl h

some_surrounded : (b : Bool) (table : Table) (t : EvaluationOrder) (v : InstructionValue) (env : Environment)
    → NestedLackApply env → NestedLackApply (if b then env else surroundings table t v env)
some_surrounded true table t v env h = h
some_surrounded false table t v env h = created_set table (created v) env.functions h

surrounded_lacks : (o : Option (List AliasingEffect)) (table : Table) (t : EvaluationOrder) (v : InstructionValue)
    (env : Environment) → NestedLackApply env → NestedLackApply (surrounded o table t v env)
surrounded_lacks None table t v env h = h
surrounded_lacks (Some es) table t v env h = some_surrounded _ table t v env h

placed_own : (is : List Instruction) (env : Environment) (id : InstructionId) (o : Option Instruction)
    → slice_get is id.0 ≡ o → AllByRecursion LacksApply is → AllByRecursion LacksApply (placed_in is env id o).0
placed_own is env id None e h = h
placed_own is env id (Some i) e h = set_all LacksApply is id.0 (instruction_placed i env).0
    (got_all LacksApply is id.0 i e h) h

placed_lacks : (is : List Instruction) (env : Environment) (id : InstructionId) (o : Option Instruction)
    → slice_get is id.0 ≡ o → ListLacksApply (is, env) → ListLacksApply (placed_in is env id o)
placed_lacks is env id None e h = h
placed_lacks is env id (Some i) e h = (
  placed_own is env id (Some i) e h.0,
  surrounded_lacks i.effects (table_of (assigned i env.identifiers) i) i.id i.value (env_assigned i env) h.1,
)

instructions_lack : (ids : List InstructionId) (s : List Instruction × Environment) → ListLacksApply s
    → ListLacksApply (instructions_placed ids s)
instructions_lack [] s h = h
instructions_lack (id ∷ ids) s h = instructions_lack ids (instruction_at s id)
    (placed_lacks s.0 s.1 id (slice_get s.0 id.0) refl h)

slot_lacks : (b : Bool) (k : ℕ) (o : Option BasicBlock) (s : Placed) → BothLackApply s
    → BothLackApply (placed_at b k o s)
slot_lacks b k None s h = h
slot_lacks b k (Some x) s h = instructions_lack x.instructions (s.0.instructions, block_merged s.0 x s.1) h

blocks_lack : (b : Bool) (n k : ℕ) (s : Placed) → BothLackApply s → BothLackApply (blocks_placed b n k s)
blocks_lack b zero k s h = h
blocks_lack b (suc n) k s h = blocks_lack b n (k + 1) (block_placed b k s)
    (slot_lacks b k (option_map (λ (e : BlockId × BasicBlock). e.1) (slice_get s.0.body.blocks k)) s h)

-- the function alone
instructions_own : (ids : List InstructionId) (s : List Instruction × Environment) → AllByRecursion LacksApply s.0
    → AllByRecursion LacksApply (instructions_placed ids s).0
instructions_own [] s h = h
instructions_own (id ∷ ids) s h = instructions_own ids (instruction_at s id)
    (placed_own s.0 s.1 id (slice_get s.0 id.0) refl h)

slot_own : (b : Bool) (k : ℕ) (o : Option BasicBlock) (s : Placed) → InstructionsLackApply s.0
    → InstructionsLackApply (placed_at b k o s).0
slot_own b k None s h = h
slot_own b k (Some x) s h = instructions_own x.instructions (s.0.instructions, block_merged s.0 x s.1) h

blocks_own : (b : Bool) (n k : ℕ) (s : Placed) → InstructionsLackApply s.0
    → InstructionsLackApply (blocks_placed b n k s).0
blocks_own b zero k s h = h
blocks_own b (suc n) k s h = blocks_own b n (k + 1) (block_placed b k s)
    (slot_own b k (option_map (λ (e : BlockId × BasicBlock). e.1) (slice_get s.0.body.blocks k)) s h)

walks_lack : (r : Bool) (ms : List RecordedMutation) (w : Walked) → NestedLackApply w.1
    → NestedLackApply (after_mutations r ms w).1
walks_lack r [] w h = h
walks_lack r (m ∷ ms) w h = walks_lack r ms (after_mutation r w m) h

renders_lack : (g : Nodes) (rs : List RecordedRender) (env : Environment) → NestedLackApply env
    → NestedLackApply (after_renders g rs env)
renders_lack g [] env h = h
renders_lack g (r ∷ rs) env h = renders_lack g rs (after_render g env r) h

rendered_lacks : (b : Bool) (l : Listing) (w : Walked) → NestedLackApply w.1 → NestedLackApply (renders_done b l w)
rendered_lacks true l w h = renders_lack w.0 l.renders w.1 h
rendered_lacks false l w h = h

-- what the range pass answers
abbrev pub RangesPlain : Ranged → Type 0
RangesPlain r = BothLackApply r.after

-- the range pass finds no Apply left, and leaves none
pub ranges_plain : (b : Bool) (f : HirFunction) (env : Environment) → InstructionsLackApply f → NestedLackApply env
    → Leads RangesPlain (range_pass b f env)
ranges_plain b f env h n =
    avoids_then is_unreplaced (Answered {A = Listing}) RangesPlain (recorded f) _ (listed_leads f h) (λ l p.
    let w : Walked = mutations_done (records b env) l env in
    let walked : NestedLackApply w.1 = walks_lack (records b env) l.mutations
    (graph_listed l, env_reported (records b env) l env) n in
    blocks_lack b (length f.body.blocks) 0 (function_captured w.0 f, renders_done (records b env) l w)
    (h, rendered_lacks (records b env) l w walked))

-- whatever the functions nested below carry
pub ranges_own : (b : Bool) (f : HirFunction) (env : Environment) → InstructionsLackApply f
    → Leads (λ (r : Ranged). InstructionsLackApply r.after.0) (range_pass b f env)
ranges_own b f env h =
    avoids_then is_unreplaced (Answered {A = Listing}) (λ (r : Ranged). InstructionsLackApply r.after.0) (recorded f) _
    (listed_leads f h) (λ l p.
    let w : Walked = mutations_done (records b env) l env in
    blocks_own b (length f.body.blocks) 0 (function_captured w.0 f, renders_done (records b env) l w) h)

-- where no instruction carries Apply, the range pass doesn't say that one is left
pub none_left : (b : Bool) (f : HirFunction) (env : Environment) → InstructionsLackApply f
    → (i : InstructionId) (report : Report) → range_pass b f env ≢ Err (UnreplacedApply i report)
none_left b f env h =
    never_left (Answered {A = Ranged}) (range_pass b f env)
    (avoids_then is_unreplaced (Answered {A = Listing}) (Answered {A = Ranged}) (recorded f)
    (λ l. Ok (ranged b f env l)) (listed_leads f h) (λ l p. tt))
