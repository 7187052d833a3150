-- The range pass over an environment whose identifiers have other spans: the same function and summary, and the same
-- environment but for these.
use Rattle.std.specs.Prelude.{◌≡◌, ℕ, zero, suc, ◌+◌, ◌==◌, ◌++◌, Bool, true, false, cond, List, [], ◌∷◌, Option, Some}
use Rattle.std.specs.Prelude.{None, Ok, ◌||◌, if◌then◌else◌, map, is_some, option_map, length, slice_get, slice_set}
use Rattle.std.specs.Prelude.{refl}
use Rattle.std.proofs.Common.{ap, sym, ◌∙◌, subst}
use Rattle.indexmap.specs.IndexMap.{set_value_at}
use Rattle.alias_base.specs.declared.ids.BlockId.{BlockId}
use Rattle.alias_base.specs.declared.ids.EvaluationOrder.{EvaluationOrder}
use Rattle.alias_base.specs.declared.ids.IdentifierId.{IdentifierId}
use Rattle.alias_base.specs.declared.ids.InstructionId.{InstructionId}
use Rattle.alias_hir.specs.declared.effect.AliasingEffect.{AliasingEffect}
use Rattle.alias_hir.specs.declared.env.Environment.{Environment}
use Rattle.alias_hir.specs.declared.env.Identifier.{Identifier}
use Rattle.alias_hir.specs.declared.hir.BasicBlock.{BasicBlock}
use Rattle.alias_hir.specs.declared.hir.HirFunction.{HirFunction}
use Rattle.alias_hir.specs.declared.hir.Instruction.{Instruction}
use Rattle.alias_hir.specs.declared.hir.Phi.{Phi}
use Rattle.alias_hir.specs.declared.place.Place.{Place}
use Rattle.alias_hir.specs.declared.report.Report.{Report}
use Rattle.alias_hir.specs.declared.value.InstructionValue.{InstructionValue}
use Rattle.alias_visit.specs.Operands.{operands_of}
use Rattle.alias_graph.specs.declared.types.Entry.{Entry}
use Rattle.alias_graph.specs.declared.types.NodeValue.{NodeValue}
use Rattle.alias_graph.specs.declared.types.NodeValue.TheVariants.{Object, Phi as PhiNode, Function}
use Rattle.alias_graph.specs.declared.types.Origin.{Origin}
use Rattle.alias_graph.specs.NodeMarks.{marked, ranges_after}
use Rattle.alias_graph.specs.Nodes.{Node, Nodes, node_at}
use Rattle.alias_graph.specs.Renders.{render_reports, rendered}
use Rattle.alias_graph.specs.Reports.{value_reports, reported_at, reports_after, with_reports, walked}
use Rattle.alias_graph.specs.declared.recorded.listing.Listing.{Listing}
use Rattle.alias_graph.specs.declared.recorded.listing.RecordedMutation.{RecordedMutation}
use Rattle.alias_graph.specs.declared.recorded.listing.RecordedRender.{RecordedRender}
use Rattle.alias_graph.specs.recorded.Recording.{graph_listed}
use Rattle.alias_range_pass.specs.places.Blocks.{terminal_placed, first_order, Placed, with_blocks, ends_at_slot}
use Rattle.alias_range_pass.specs.places.Blocks.{with_instructions, block_instructions, placed_at, block_placed}
use Rattle.alias_range_pass.specs.places.Blocks.{blocks_placed, function_placed, phi_placed}
use Rattle.alias_range_pass.specs.places.Instructions.{places_placed, with_identifiers, surroundings, surrounded}
use Rattle.alias_range_pass.specs.places.Instructions.{env_assigned, placed_by, instruction_placed, placed_in}
use Rattle.alias_range_pass.specs.places.Instructions.{instruction_at, instructions_placed}
use Rattle.alias_range_pass.specs.places.Ranges.{started, all_ranged, assigned, value_stored, phis_merged}
use Rattle.alias_range_pass.specs.places.Tables.{Table, table_of}
use Rattle.alias_range_pass.specs.declared.summary.start.WalkStart.{WalkStart}
use Rattle.alias_range_pass.specs.summary.Flows.{flows_listed}
use Rattle.alias_range_pass.specs.summary.MarkedPlaces.{marks_of_all, function_captured}
use Rattle.alias_range_pass.specs.summary.Summaries.{context_and_params, tracked, summarized}
use Rattle.alias_range_pass.specs.summary.Walking.{start_origin, expanded, nodes_after, env_after, mutation_start}
use Rattle.alias_range_pass.specs.summary.Walking.{Walked, after_mutation, after_mutations, after_render, after_renders}
use Rattle.alias_range_pass.specs.summary.Walking.{env_reported, mutations_done, renders_done}
use Rattle.alias_range_pass.specs.Passes.{records, Ranged, ranged, range_pass}
use Rattle.alias_range_pass.specs.Refusals.{recorded}
use Rattle.alias_range_alike_laws.specs.Spans.{RangesReadNoSpan}
use Rattle.alias_range_alike_laws.proofs.Answers.{Both, answered, both_after, beside}
use Rattle.alias_range_alike_laws.proofs.Spans.{Spans, all_ranged_spans, assigned_spans, stored_spans, merged_spans}
use Rattle.alias_range_alike_laws.proofs.Spans.{raised_spans, phis_same, table_spans, spanned, operands_spans}
use Rattle.alias_range_alike_laws.proofs.Spans.{returns_spans}

-- the environment with identifiers of other spans
pub data EnvSpans : Environment → Environment → Type 0 where
  of_spans : (env : Environment) (ids : List Identifier) → Spans env.identifiers ids → EnvSpans env (spanned env ids)

-- the same thing, beside such an environment
pub data Besides {A : Type 0} : A × Environment → A × Environment → Type 0 where
  of_same : (a : A) (env other : Environment) → EnvSpans env other → Besides (a, env) (a, other)

beside_by : {A : Type 0} (a c : A) (env other : Environment) → c ≡ a → EnvSpans env other → Besides (a, env) (c, other)
beside_by a c env other is q = subst (λ z. Besides (a, env) (z, other)) (sym is) (of_same a env other q)

-- ---- reports

value_same : (env : Environment) (ids : List Identifier) (v : NodeValue) → value_reports (spanned env ids) v
    ≡ value_reports env v
value_same env ids Object = refl
value_same env ids PhiNode = refl
value_same env ids (Function f) = refl

reported_same : (env : Environment) (ids : List Identifier) (o : Option Node) → reported_at (spanned env ids) o
    ≡ reported_at env o
reported_same env ids None = refl
reported_same env ids (Some n) = ap (λ z. cond (is_some n.local || is_some n.transitive) [] z)
    (value_same env ids n.value)

reports_same : (env : Environment) (ids : List Identifier) (index : ℕ) (o : Origin) (g : Nodes) (es : List Entry)
    → reports_after (spanned env ids) index o g es ≡ reports_after env index o g es
reports_same env ids index o g [] = refl
reports_same env ids index o g (e ∷ es) =
    ap (λ z. z ++ reported_at (spanned env ids) (node_at (marked index o g es) e.id))
    (reports_same env ids index o g es)
    ∙ ap (λ z. reports_after env index o g es ++ z) (reported_same env ids (node_at (marked index o g es) e.id))

renders_same : (env : Environment) (ids : List Identifier) (g : Nodes) (xs : List IdentifierId)
    → render_reports (spanned env ids) g xs ≡ render_reports env g xs
renders_same env ids g [] = refl
renders_same env ids g (x ∷ xs) = ap (λ z. z ++ reported_at (spanned env ids) (node_at g x)) (renders_same env ids g xs)
    ∙ ap (λ z. render_reports env g xs ++ z) (reported_same env ids (node_at g x))

reported_spans : (xs ys : List Report) (env other : Environment) → ys ≡ xs → EnvSpans env other
    → EnvSpans (with_reports xs env) (with_reports ys other)
reported_spans xs ys env other is (of_spans _ ids q) =
    subst (λ z. EnvSpans (with_reports xs env) (with_reports z (spanned env ids))) (sym is)
    (of_spans (with_reports xs env) ids q)

-- ---- walks

walked_spans : (recording : Bool) (s : WalkStart) (g : Nodes) (es : List Entry) (env other : Environment)
    → EnvSpans env other
    → EnvSpans (walked recording s.index (start_origin s) s.end g es env)
    (walked recording s.index (start_origin s) s.end g es other)
walked_spans recording s g es env other (of_spans _ ids q) =
    let raised : Environment = spanned env (ranges_after s.end env.identifiers es) in
    let others : Environment = spanned env (ranges_after s.end ids es) in
    reported_spans (cond recording (reports_after env s.index (start_origin s) g es) [])
    (cond recording (reports_after (spanned env ids) s.index (start_origin s) g es) []) raised others
    (ap (λ z. cond recording z []) (reports_same env ids s.index (start_origin s) g es))
    (of_spans raised (ranges_after s.end ids es) (raised_spans s.end es env.identifiers ids q))

mutation_spans : (recording : Bool) (m : RecordedMutation) (w v : Walked) → Besides w v
    → Besides (after_mutation recording w m) (after_mutation recording v m)
mutation_spans recording m w v (of_same g env other q) =
    of_same (nodes_after (mutation_start m) g) (env_after recording (mutation_start m) g env)
    (env_after recording (mutation_start m) g other)
    (walked_spans recording (mutation_start m) g (expanded g (mutation_start m)) env other q)

mutations_spans : (recording : Bool) (ms : List RecordedMutation) (w v : Walked) → Besides w v
    → Besides (after_mutations recording ms w) (after_mutations recording ms v)
mutations_spans recording [] w v q = q
mutations_spans recording (m ∷ ms) w v q =
    mutations_spans recording ms (after_mutation recording w m) (after_mutation recording v m)
    (mutation_spans recording m w v q)

reports_noted : (recording : Bool) (l : Listing) (env other : Environment) → EnvSpans env other
    → EnvSpans (env_reported recording l env) (env_reported recording l other)
reports_noted recording l env other (of_spans _ ids q) = of_spans (env_reported recording l env) ids q

done_spans : (recording : Bool) (l : Listing) (env other : Environment) → EnvSpans env other
    → Besides (mutations_done recording l env) (mutations_done recording l other)
done_spans recording l env other q = mutations_spans recording l.mutations _ _
    (of_same (graph_listed l) (env_reported recording l env) (env_reported recording l other)
    (reports_noted recording l env other q))

render_spans : (g : Nodes) (r : RecordedRender) (env other : Environment) → EnvSpans env other
    → EnvSpans (after_render g env r) (after_render g other r)
render_spans g r env other (of_spans _ ids q) =
    reported_spans (render_reports env g (rendered g r.index r.place.identifier).done)
    (render_reports (spanned env ids) g (rendered g r.index r.place.identifier).done) env (spanned env ids)
    (renders_same env ids g (rendered g r.index r.place.identifier).done) (of_spans env ids q)

all_renders_spans : (g : Nodes) (rs : List RecordedRender) (env other : Environment) → EnvSpans env other
    → EnvSpans (after_renders g rs env) (after_renders g rs other)
all_renders_spans g [] env other q = q
all_renders_spans g (r ∷ rs) env other q =
    all_renders_spans g rs (after_render g env r) (after_render g other r) (render_spans g r env other q)

renders_done_spans : (recording : Bool) (l : Listing) (g : Nodes) (env other : Environment) → EnvSpans env other
    → EnvSpans (renders_done recording l (g, env)) (renders_done recording l (g, other))
renders_done_spans true l g env other q = all_renders_spans g l.renders env other q
renders_done_spans false l g env other q = q

-- ---- a summary

summary_same : (g : Nodes) (next : ℕ) (f : HirFunction) (env other : Environment) (begin : List AliasingEffect)
    → EnvSpans env other → summarized g next f other begin ≡ summarized g next f env begin
summary_same g next f env other begin (of_spans _ ids q) =
    ap (λ (e : AliasingEffect). ((begin ++ marks_of_all g (context_and_params f)) ++ e ∷ [])
    ++ flows_listed g next f.returns (tracked f) (tracked f)) (returns_spans env ids f q)

-- ---- an instruction

surroundings_spans : (table : Table) (t : EvaluationOrder) (v : InstructionValue) (env other : Environment)
    → EnvSpans env other → EnvSpans (surroundings table t v env) (surroundings table t v other)
surroundings_spans table t v env other (of_spans _ ids q) =
    let ranges : List Place → List Identifier → List Identifier =
    λ ps xs. value_stored t v (all_ranged (started t) ps xs) in
    let new : Environment = surroundings table t v env in
    subst (λ (ps : List Place). EnvSpans new (spanned new (ranges ps ids))) (sym (operands_spans env ids v))
    (of_spans new (ranges (operands_of env v) ids)
    (stored_spans t v (all_ranged (started t) (operands_of env v) env.identifiers)
    (all_ranged (started t) (operands_of env v) ids)
    (all_ranged_spans (started t) (operands_of env v) env.identifiers ids q)))

chosen_spans : (b : Bool) (env other new new_other : Environment) → EnvSpans env other → EnvSpans new new_other
    → EnvSpans (if b then env else new) (if b then other else new_other)
chosen_spans true env other new new_other q r = q
chosen_spans false env other new new_other q r = r

surrounded_spans : (o : Option (List AliasingEffect)) (table : Table) (t : EvaluationOrder) (v : InstructionValue)
    (env other : Environment) → EnvSpans env other
    → EnvSpans (surrounded o table t v env) (surrounded o table t v other)
surrounded_spans None table t v env other q = q
surrounded_spans (Some es) table t v env other q =
    chosen_spans (length es == 0) env other (surroundings table t v env) (surroundings table t v other) q
    (surroundings_spans table t v env other q)

placed_spans : (i : Instruction) (env other : Environment) → EnvSpans env other
    → Besides (instruction_placed i env) (instruction_placed i other)
placed_spans i env other (of_spans _ ids q) =
    let begun : Spans (assigned i env.identifiers) (assigned i ids) = assigned_spans i env.identifiers ids q in
    let table : Table = table_of (assigned i env.identifiers) i in
    let there : Environment = spanned env (assigned i ids) in
    subst (λ (z : Table). Besides (instruction_placed i env) (placed_by z i there))
    (sym (table_spans i (assigned i env.identifiers) (assigned i ids) begun))
    (of_same (places_placed table i) (surrounded i.effects table i.id i.value (env_assigned i env))
    (surrounded i.effects table i.id i.value there)
    (surrounded_spans i.effects table i.id i.value (env_assigned i env) there
    (of_spans (env_assigned i env) (assigned i ids) begun)))

set_spans : (xs : List Instruction) (n : ℕ) (s t : Instruction × Environment) → Besides s t
    → Besides (slice_set xs n s.0, s.1) (slice_set xs n t.0, t.1)
set_spans xs n s t (of_same i env other q) = of_same (slice_set xs n i) env other q

in_spans : (xs : List Instruction) (env other : Environment) (id : InstructionId) (o : Option Instruction)
    → EnvSpans env other → Besides (placed_in xs env id o) (placed_in xs other id o)
in_spans xs env other id None q = of_same xs env other q
in_spans xs env other id (Some i) q = set_spans xs id.0 (instruction_placed i env) (instruction_placed i other)
    (placed_spans i env other q)

at_spans : (id : InstructionId) (s t : List Instruction × Environment) → Besides s t
    → Besides (instruction_at s id) (instruction_at t id)
at_spans id s t (of_same xs env other q) = in_spans xs env other id (slice_get xs id.0) q

instructions_spans : (ids : List InstructionId) (s t : List Instruction × Environment) → Besides s t
    → Besides (instructions_placed ids s) (instructions_placed ids t)
instructions_spans [] s t q = q
instructions_spans (id ∷ ids) s t q = instructions_spans ids (instruction_at s id) (instruction_at t id)
    (at_spans id s t q)

-- ---- blocks

ends_spans : (b : Bool) (k : ℕ) (block : BasicBlock) (f : HirFunction) (env other : Environment) → EnvSpans env other
    → Besides (ends_at_slot b k block f env) (ends_at_slot b k block f other)
ends_spans b k block f env other (of_spans _ ids q) =
    let t : EvaluationOrder = first_order f.instructions block in
    let xs : List Identifier = phis_merged t block.phis env.identifiers in
    let ys : List Identifier = phis_merged t block.phis ids in
    let begun : Spans xs ys = merged_spans t block.phis env.identifiers ids q in
    let with_phis : List Phi → HirFunction =
    λ phis. with_blocks (set_value_at f.body.blocks k
    (record block { phis = phis; terminal = terminal_placed b block.terminal })) f in
    beside_by (with_phis (map (phi_placed xs t) block.phis)) (with_phis (map (phi_placed ys t) block.phis))
    (with_identifiers xs env) (with_identifiers ys (spanned env ids))
    (ap with_phis (phis_same xs ys begun t block.phis))
    (of_spans (with_identifiers xs env) ys begun)

with_spans : (f : HirFunction) (s t : List Instruction × Environment) → Besides s t
    → Besides (with_instructions s f) (with_instructions t f)
with_spans f s t (of_same xs env other q) = of_same (record f { instructions = xs }) env other q

listed_spans : (ids : List InstructionId) (s t : Placed) → Besides s t
    → Besides (block_instructions ids s) (block_instructions ids t)
listed_spans ids s t (of_same f env other q) =
    with_spans f _ _ (instructions_spans ids (f.instructions, env) (f.instructions, other)
    (of_same f.instructions env other q))

found_spans : (b : Bool) (k : ℕ) (o : Option BasicBlock) (f : HirFunction) (env other : Environment)
    → EnvSpans env other → Besides (placed_at b k o (f, env)) (placed_at b k o (f, other))
found_spans b k None f env other q = of_same f env other q
found_spans b k (Some block) f env other q =
    listed_spans block.instructions (ends_at_slot b k block f env) (ends_at_slot b k block f other)
    (ends_spans b k block f env other q)

block_spans : (b : Bool) (k : ℕ) (s t : Placed) → Besides s t → Besides (block_placed b k s) (block_placed b k t)
block_spans b k s t (of_same f env other q) =
    found_spans b k (option_map (λ (e : BlockId × BasicBlock). e.1) (slice_get f.body.blocks k)) f env other q

blocks_spans : (b : Bool) (n k : ℕ) (s t : Placed) → Besides s t
    → Besides (blocks_placed b n k s) (blocks_placed b n k t)
blocks_spans b zero k s t q = q
blocks_spans b (suc n) k s t q = blocks_spans b n (k + 1) (block_placed b k s) (block_placed b k t)
    (block_spans b k s t q)

-- ---- the pass

-- the same summary, and the same function beside such an environment
record RangedSpans (r s : Ranged) : Type 0 where
  pub summary : s.summary ≡ r.summary
  pub after : Besides r.after s.after

walked_ranged : (recording b : Bool) (f : HirFunction) (l : Listing) (w v : Walked) → Besides w v
    → RangedSpans
    (record {
      summary = summarized w.0 l.next f (renders_done recording l w) l.summary;
      after = function_placed b (function_captured w.0 f, renders_done recording l w);
    })
    (record {
      summary = summarized v.0 l.next f (renders_done recording l v) l.summary;
      after = function_placed b (function_captured v.0 f, renders_done recording l v);
    })
walked_ranged recording b f l w v (of_same g env other q) =
    let last : Environment = renders_done recording l (g, env) in
    let last_other : Environment = renders_done recording l (g, other) in
    let r : EnvSpans last last_other = renders_done_spans recording l g env other q in
    let h : HirFunction = function_captured g f in
    record {
      summary = summary_same g l.next f last last_other l.summary r;
      after = blocks_spans b (length h.body.blocks) 0 (h, last) (h, last_other) (of_same h last last_other r);
    }

spanned_ranged : (b : Bool) (f : HirFunction) (l : Listing) (env : Environment) (ids : List Identifier)
    → Spans env.identifiers ids → RangedSpans (ranged b f env l) (ranged b f (spanned env ids) l)
spanned_ranged b f l env ids q =
    walked_ranged (records b env) b f l (mutations_done (records b env) l env)
    (mutations_done (records b env) l (spanned env ids))
    (done_spans (records b env) l env (spanned env ids) (of_spans env ids q))

pass_spans : (b : Bool) (f : HirFunction) (env : Environment) (ids : List Identifier) → Spans env.identifiers ids
    → Both RangedSpans (range_pass b f env) (range_pass b f (spanned env ids))
pass_spans b f env ids q = both_after RangedSpans (recorded f) (λ l. Ok (ranged b f env l))
    (λ l. Ok (ranged b f (spanned env ids) l)) (λ l. answered (spanned_ranged b f l env ids q))

-- the identifiers that are left
record Left (s t : Placed) : Type 0 where
  pub identifiers : List Identifier
  pub spans : Spans s.1.identifiers identifiers
  pub is : t ≡ (s.0, spanned s.1 identifiers)

env_left : (f : HirFunction) (env other : Environment) → EnvSpans env other → Left (f, env) (f, other)
env_left f env other (of_spans _ ids q) = record { identifiers = ids; spans = q; is = refl }

left : (s t : Placed) → Besides s t → Left s t
left s t (of_same f env other q) = env_left f env other q

pub reads_no_span : RangesReadNoSpan
reads_no_span env is f b r q answers =
    let s = beside RangedSpans (range_pass b f env) (range_pass b f (spanned env is)) r (pass_spans b f env is q)
    answers in
    let k = left r.after s.other.after s.alike.after in
    let same : s.other ≡ record r { after = (r.after.0, spanned r.after.1 k.identifiers) } =
    ap (λ (z : List AliasingEffect). record s.other { summary = z }) s.alike.summary
    ∙ ap (λ (z : Placed). record r { after = z }) k.is in
    (k.identifiers, k.spans, s.is ∙ ap (λ (z : Ranged). Ok z) same)
