-- The summary that the range pass gives is in order: reports, then writes of context places and parameters, then one
-- value for what is returned, and then the flows.
use Rattle.std.specs.Prelude.{◌≡◌, ◌≢◌, ℕ, ◌+◌, ◌==◌, Bool, true, false, if◌then◌else◌, nat_lt, List, [], ◌∷◌, ◌++◌}
use Rattle.std.specs.Prelude.{Option, Some, None, Result, Ok, Err, slice_get, refl}
use Rattle.std.specs.List.{AllByRecursion}
use Rattle.std.proofs.Common.{sym, ◌∙◌, subst, append_assoc}
use Rattle.std.proofs.Math.Dec.{T, eqb→eq}
use Rattle.alias_base.specs.Answer.{◌>>=◌}
use Rattle.alias_base.specs.declared.ids.BlockId.{BlockId}
use Rattle.alias_base.specs.declared.ids.EvaluationOrder.{EvaluationOrder}
use Rattle.alias_base.specs.declared.ids.FunctionId.{FunctionId}
use Rattle.alias_base.specs.declared.ids.InstructionId.{InstructionId}
use Rattle.alias_rules.specs.function_rules.Rules.{places_distinct}
use Rattle.alias_hir.specs.declared.effect.AliasingEffect.{AliasingEffect}
use Rattle.alias_hir.specs.declared.effect.AliasingEffect.TheVariants as effect
use Rattle.alias_hir.specs.declared.effect.MutationReason.{MutationReason}
use Rattle.alias_hir.specs.declared.env.Environment.{Environment}
use Rattle.alias_hir.specs.declared.error.HirError.{HirError}
use Rattle.alias_hir.specs.declared.hir.BasicBlock.{BasicBlock}
use Rattle.alias_hir.specs.declared.hir.HirFunction.{HirFunction}
use Rattle.alias_hir.specs.declared.hir.Instruction.{Instruction}
use Rattle.alias_hir.specs.declared.hir.Phi.{Phi}
use Rattle.alias_hir.specs.declared.place.Place.{Place}
use Rattle.alias_hir.specs.declared.terminal.Terminal.{Terminal}
use Rattle.alias_hir.specs.declared.terminal.Terminal.TheVariants as terminal
use Rattle.alias_hir.specs.Terminals.{terminal_effects}
use Rattle.alias_graph.specs.declared.events.GraphEvent.{GraphEvent}
use Rattle.alias_graph.specs.declared.events.GraphEvent.TheVariants as event
use Rattle.alias_graph.specs.declared.types.EdgeKind.{EdgeKind}
use Rattle.alias_graph.specs.declared.types.EdgeKind.TheVariants.{Capture, Alias, MaybeAlias}
use Rattle.alias_graph.specs.declared.types.MutationInfo.{MutationInfo}
use Rattle.alias_graph.specs.declared.types.MutationKind.{MutationKind}
use Rattle.alias_graph.specs.declared.types.MutationKind.TheVariants.{Conditional, Definite}
use Rattle.alias_graph.specs.declared.types.NodeValue.TheVariants.{Object, Phi as PhiNode, Function}
use Rattle.alias_graph.specs.Nodes.{Node, Nodes}
use Rattle.alias_graph.specs.declared.recorded.listing.Listing.{Listing}
use Rattle.alias_graph.specs.recorded.Each.{each}
use Rattle.alias_graph.proofs.FitLaws.{went_on}
use Rattle.alias_graph.specs.recorded.IdSets.{has_made}
use Rattle.alias_graph.specs.recorded.Listings.{position_after, with_event, made, made_once, positioned, linked}
use Rattle.alias_graph.specs.recorded.Listings.{mutated, summarized as summarized_more, rendered, effect_listed}
use Rattle.alias_graph.specs.recorded.Listings.{effects_in, recorded_in, instruction_listed}
use Rattle.alias_graph.specs.recorded.BlockListings.{pending_more, added_or_pending, link_of, slot_of_block}
use Rattle.alias_graph.specs.recorded.BlockListings.{operand_listed, phi_listed, returns_listed, alias_listed}
use Rattle.alias_graph.specs.recorded.BlockListings.{aliases_in, with_pending, end_listed, block_listed, blocks_listed}
use Rattle.alias_graph.specs.recorded.BlockListings.{first_listing, listed}
use Rattle.alias_range_pass.specs.summary.Flows.{flow_start, flow_effect, is_flow, flow_from, flows_into, flows_listed}
use Rattle.alias_range_pass.specs.summary.MarkedPlaces.{marks_at, at_mark, local_effect, local_effects}
use Rattle.alias_range_pass.specs.summary.MarkedPlaces.{transitive_effect, transitive_effects, node_effects}
use Rattle.alias_range_pass.specs.summary.MarkedPlaces.{mark_effects, marks_of_all}
use Rattle.alias_range_pass.specs.summary.Summaries.{context_and_params, tracked, returns_created, summarized}
use Rattle.alias_range_pass.specs.summary.Walking.{nodes_after, mutations_done, renders_done}
use Rattle.alias_range_pass.specs.Passes.{records, Ranged, ranged, range_pass}
use Rattle.alias_ranges.specs.laws.AnswerLaws.{recorded_is_listed, pass_is}
use Rattle.alias_completeness.specs.Going.{all_both}
use Rattle.alias_completeness.specs.Facing.{returns_apart}
use Rattle.alias_completeness.specs.Callable.{IsReport, IsMark, IsFlow, IsSummary}

-- ---- what the effects of instructions record for the summary

abbrev Reports : Listing → Type 0
Reports l = AllByRecursion IsReport l.summary

abbrev okay : Listing → Result Listing HirError
okay l = Ok l

abbrev goes_on : (ℕ → Listing) → ℕ → Result Listing HirError
goes_on g n = Ok (g n)

same : (l m : Listing) → Reports l → okay l ≡ okay m → Reports m
same l m p h = let e : l ≡ m = cc in subst Reports e p

-- what each step keeps all of them keep
steps_keep : {A : Type 0} (f : A → Listing → Result Listing HirError)
    → ((x : A) (l m : Listing) → Reports l → f x l ≡ Ok m → Reports m) → (xs : List A) (l m : Listing) → Reports l
    → each f xs l ≡ Ok m → Reports m
steps_keep f step [] l m p h = same l m p h
steps_keep f step (x ∷ xs) l m p h =
    let w = went_on (f x l) (λ z. each f xs z) m h in
    steps_keep f step xs w.0 m (step x l w.0 p w.1) w.2

-- a step that takes a position
after_position : (r : Result ℕ HirError) (g : ℕ → Listing) (m : Listing) → ((n : ℕ) → Reports (g n)) → (r >>= goes_on g)
    ≡ Ok m → Reports m
after_position (Ok n) g m p h = same (g n) m (p n) h
after_position (Err e) g m p h = cc

after_positioned : (e : ℕ → GraphEvent) (l m : Listing) → Reports l → positioned e l ≡ Ok m → Reports m
after_positioned e l m p h = after_position (position_after l.next)
    (λ n. record l { next = n; events = l.events ++ e l.next ∷ [] }) m (λ n. p) h

after_linked : (kind : EdgeKind) (a x : Place) (l m : Listing) → Reports l → linked kind a x l ≡ Ok m → Reports m
after_linked kind a x l m p h = after_positioned (λ i. event.Link kind i a.identifier x.identifier) l m p h

after_mutated : (i : InstructionId) (o : EvaluationOrder) (x : Place) (t : Bool) (k : MutationKind)
    (r : Option MutationReason) (l m : Listing) → Reports l → mutated i o x t k r l ≡ Ok m → Reports m
after_mutated i o x t k r l m p h =
    after_position (position_after l.next)
    (λ n. record l {
      next = n;
      mutations = l.mutations
          ++ record { index = l.next; instruction = i; order = o; place = x; transitive = t; kind = k; reason = r }
          ∷ [];
    }) m (λ n. p) h

one_more : (e : AliasingEffect) (l : Listing) → IsReport e → Reports l → AllByRecursion IsReport (l.summary ++ e ∷ [])
one_more e l q p = all_both IsReport l.summary (e ∷ []) p (q, tt)

after_rendered : (i : InstructionId) (x : Place) (l m : Listing) → Reports l → rendered i x l ≡ Ok m → Reports m
after_rendered i x l m p h =
    after_position (position_after l.next)
    (λ n. record l {
      next = n;
      renders = l.renders ++ record { index = l.next; instruction = i; place = x } ∷ [];
      summary = l.summary ++ effect.Render x ∷ [];
    }) m (λ n. one_more (effect.Render x) l tt p) h

made_or_not : (b : Bool) (x : Place) (l : Listing) → Reports l → Reports (if b then l else made Object x l)
made_or_not true x l p = p
made_or_not false x l p = p

after_effect : (i : InstructionId) (o : EvaluationOrder) (e : AliasingEffect) (l m : Listing) → Reports l
    → effect_listed i o e l ≡ Ok m → Reports m
after_effect i o (effect.Apply receiver function mutates args into signature span) l m p h = same l m p h
after_effect i o (effect.CreateFrom a x) l m p h =
    after_positioned (λ i. event.CreateFrom i a.identifier x.identifier) l m p h
after_effect i o (effect.ImmutableCapture a x) l m p h = same l m p h
after_effect i o (effect.Assign a x) l m p h =
    after_linked Alias a x (made_once x l) m (made_or_not (has_made l.events x.identifier) x l p) h
after_effect i o (effect.Alias a x) l m p h = after_linked Alias a x l m p h
after_effect i o (effect.Capture a x) l m p h = after_linked Capture a x l m p h
after_effect i o (effect.MaybeAlias a x) l m p h = after_linked MaybeAlias a x l m p h
after_effect i o (effect.Create x value reason) l m p h = same (made Object x l) m p h
after_effect i o (effect.Freeze x reason) l m p h = same l m p h
after_effect i o (effect.Impure x error) l m p h =
    same (summarized_more (effect.Impure x error) l) m (one_more (effect.Impure x error) l tt p) h
after_effect i o (effect.MutateFrozen x error) l m p h =
    same (summarized_more (effect.MutateFrozen x error) l) m (one_more (effect.MutateFrozen x error) l tt p) h
after_effect i o (effect.MutateGlobal x error) l m p h =
    same (summarized_more (effect.MutateGlobal x error) l) m (one_more (effect.MutateGlobal x error) l tt p) h
after_effect i o (effect.Render x) l m p h = after_rendered i x l m p h
after_effect i o (effect.Mutate x reason) l m p h = after_mutated i o x false Definite reason l m p h
after_effect i o (effect.MutateConditionally x) l m p h = after_mutated i o x false Conditional None l m p h
after_effect i o (effect.MutateTransitive x) l m p h = after_mutated i o x true Definite None l m p h
after_effect i o (effect.MutateTransitiveConditionally x) l m p h = after_mutated i o x true Conditional None l m p h
after_effect i o (effect.CreateFunction x f captures) l m p h = same (made (Function f) x l) m p h

-- ---- what instructions and blocks record

after_effects : (i : InstructionId) (o : EvaluationOrder) (es : Option (List AliasingEffect)) (l m : Listing)
    → Reports l → effects_in i o es l ≡ Ok m → Reports m
after_effects i o None l m p h = same l m p h
after_effects i o (Some es) l m p h = steps_keep (effect_listed i o) (after_effect i o) es l m p h

after_recorded : (k : InstructionId) (o : Option Instruction) (l m : Listing) → Reports l → recorded_in k o l ≡ Ok m
    → Reports m
after_recorded k None l m p h = same l m p h
after_recorded k (Some i) l m p h = after_effects k i.id i.effects l m p h

after_instruction : (is : List Instruction) (k : InstructionId) (l m : Listing) → Reports l → instruction_listed is k l
    ≡ Ok m → Reports m
after_instruction is k l m p h = after_recorded k (slice_get is k.0) l m p h

added : (b : Bool) (k : ℕ) (e : GraphEvent) (l : Listing) → Reports l
    → Reports (if b then with_event e l else record l { pending = pending_more l.pending k e })
added true k e l p = p
added false k e l p = p

added_or_waits : (k : ℕ) (o : Option ℕ) (e : GraphEvent) (l : Listing) → Reports l → Reports (added_or_pending k o e l)
added_or_waits k None e l p = p
added_or_waits k (Some j) e l p = added (nat_lt j k) j e l p

after_operand : (blocks : List (BlockId × BasicBlock)) (k : ℕ) (x : Place) (e : BlockId × Place) (l m : Listing)
    → Reports l → operand_listed blocks k x e l ≡ Ok m → Reports m
after_operand blocks k x e l m p h =
    after_position (position_after l.next)
    (λ n. added_or_pending k (slot_of_block blocks e.0) (link_of l.next e.1 x) (record l { next = n })) m
    (λ n. added_or_waits k (slot_of_block blocks e.0) (link_of l.next e.1 x) (record l { next = n }) p) h

after_phi : (blocks : List (BlockId × BasicBlock)) (k : ℕ) (phi : Phi) (l m : Listing) → Reports l
    → phi_listed blocks k phi l ≡ Ok m → Reports m
after_phi blocks k phi l m p h = steps_keep (operand_listed blocks k phi.place) (after_operand blocks k phi.place)
    phi.operands (made PhiNode phi.place l) m p h

after_returns : (returns : Place) (t : Terminal) (l m : Listing) → Reports l → returns_listed returns t l ≡ Ok m
    → Reports m
after_returns returns (terminal.Return id value effects) l m p h = after_linked Alias value returns l m p h
after_returns returns t l m p h = same l m p h

after_alias : (e : AliasingEffect) (l m : Listing) → Reports l → alias_listed e l ≡ Ok m → Reports m
after_alias (effect.Alias a x) l m p h = after_linked Alias a x l m p h
after_alias e l m p h = same l m p h

after_aliases : (es : Option (List AliasingEffect)) (l m : Listing) → Reports l → aliases_in es l ≡ Ok m → Reports m
after_aliases None l m p h = same l m p h
after_aliases (Some es) l m p h = steps_keep alias_listed after_alias es l m p h

after_end : (returns : Place) (k : ℕ) (t : Terminal) (l m : Listing) → Reports l → end_listed returns k t l ≡ Ok m
    → Reports m
after_end returns k t l m p h =
    let w = went_on (returns_listed returns t (with_pending k l)) (λ r. aliases_in (terminal_effects t) r) m h in
    after_aliases (terminal_effects t) w.0 m (after_returns returns t (with_pending k l) w.0 p w.1) w.2

after_block : (f : HirFunction) (k : ℕ) (b : BasicBlock) (l m : Listing) → Reports l → block_listed f k b l ≡ Ok m
    → Reports m
after_block f k b l m p h =
    let v = went_on (each (phi_listed f.body.blocks k) b.phis l)
    (λ z. each (instruction_listed f.instructions) b.instructions z >>= (λ y. end_listed f.returns k b.terminal y))
    m h in
    let w = went_on (each (instruction_listed f.instructions) b.instructions v.0)
    (λ y. end_listed f.returns k b.terminal y) m v.2 in
    let first : Reports v.0 = steps_keep (phi_listed f.body.blocks k) (after_phi f.body.blocks k) b.phis l v.0 p v.1 in
    let second : Reports w.0 = steps_keep (instruction_listed f.instructions) (after_instruction f.instructions)
    b.instructions v.0 w.0 first w.1 in
    after_end f.returns k b.terminal w.0 m second w.2

after_blocks : (f : HirFunction) (k : ℕ) (bs : List (BlockId × BasicBlock)) (l m : Listing) → Reports l
    → blocks_listed f k bs l ≡ Ok m → Reports m
after_blocks f k [] l m p h = same l m p h
after_blocks f k (b ∷ bs) l m p h =
    let w = went_on (block_listed f k b.1 l) (λ z. blocks_listed f (k + 1) bs z) m h in
    after_blocks f (k + 1) bs w.0 m (after_block f k b.1 l w.0 p w.1) w.2

-- what effects record for the summary are reports
reports_alone : (f : HirFunction) (l : Listing) → listed f ≡ Ok l → Reports l
reports_alone f l h = after_blocks f 0 f.body.blocks (first_listing f) l tt h

-- ---- marks

module _ (returns : ℕ) where
  abbrev IsApart : Place → Type 0
  IsApart p = p.identifier.0 ≢ returns

  local_mark : (k : MutationKind) (reason : Option MutationReason) (x : Place) → IsApart x
      → IsMark returns (local_effect k reason x)
  local_mark Conditional reason x h = h
  local_mark Definite reason x h = h

  local_marks : (o : Option MutationInfo) (reason : Option MutationReason) (x : Place) → IsApart x
      → AllByRecursion (IsMark returns) (local_effects o reason x)
  local_marks None reason x h = tt
  local_marks (Some i) reason x h = (local_mark i.kind reason (at_mark i x) h, tt)

  transitive_mark : (k : MutationKind) (x : Place) → IsApart x → IsMark returns (transitive_effect k x)
  transitive_mark Conditional x h = h
  transitive_mark Definite x h = h

  transitive_marks : (o : Option MutationInfo) (x : Place) → IsApart x
      → AllByRecursion (IsMark returns) (transitive_effects o x)
  transitive_marks None x h = tt
  transitive_marks (Some i) x h = (transitive_mark i.kind (at_mark i x) h, tt)

  node_marks : (o : Option Node) (x : Place) → IsApart x → AllByRecursion (IsMark returns) (node_effects o x)
  node_marks None x h = tt
  node_marks (Some n) x h =
      all_both (IsMark returns) (local_effects n.local n.mutation_reason x) (transitive_effects n.transitive x)
      (local_marks n.local n.mutation_reason x h) (transitive_marks n.transitive x h)

  all_marks : (g : Nodes) (xs : List Place) → AllByRecursion IsApart xs
      → AllByRecursion (IsMark returns) (marks_of_all g xs)
  all_marks g [] h = tt
  all_marks g (x ∷ xs) h = all_both (IsMark returns) (mark_effects g x) (marks_of_all g xs)
      (node_marks (marks_at g x.identifier) x h.0) (all_marks g xs h.1)

-- ---- flows

flow_or_capture : (b : Bool) (returns : ℕ) (from into : Place) → (b ≡ true → into.identifier.0 ≡ returns)
    → IsFlow returns (if b then effect.Alias from into else effect.Capture from into)
flow_or_capture true returns from into h = h refl
flow_or_capture false returns from into h = tt

one_flow : (returns from into : Place) → IsFlow returns.identifier.0 (flow_effect returns from into)
one_flow returns from into = flow_or_capture (into.identifier.0 == returns.identifier.0) returns.identifier.0 from into
    (λ h. eqb→eq _ _ (subst T (sym h) tt))

flow_if : (b : Bool) (returns from into : Place)
    → AllByRecursion (IsFlow returns.identifier.0) (if b then flow_effect returns from into ∷ [] else [])
flow_if true returns from into = (one_flow returns from into, tt)
flow_if false returns from into = tt

all_into : (g : Nodes) (index : ℕ) (returns into : Place) (froms : List Place)
    → AllByRecursion (IsFlow returns.identifier.0) (flows_into g index returns froms into)
all_into g index returns into [] = tt
all_into g index returns into (from ∷ froms) =
    all_both (IsFlow returns.identifier.0) (flow_from g index returns into from) (flows_into g index returns froms into)
    (flow_if (is_flow g index returns into from) returns from into) (all_into g index returns into froms)

all_flows : (g : Nodes) (index : ℕ) (returns : Place) (places intos : List Place)
    → AllByRecursion (IsFlow returns.identifier.0) (flows_listed g index returns places intos)
all_flows g index returns places [] = tt
all_flows g index returns places (into ∷ intos) =
    let after : Nodes = nodes_after (flow_start index into) g in
    all_both (IsFlow returns.identifier.0) (flows_into after index returns places into)
    (flows_listed after (index + 1) returns places intos) (all_into after index returns into places)
    (all_flows after (index + 1) returns places intos)

-- ---- the whole summary

summarized_in_order : (g : Nodes) (next : ℕ) (f : HirFunction) (env : Environment) (begin : List AliasingEffect)
    → AllByRecursion IsReport begin → AllByRecursion (IsApart f.returns.identifier.0) (context_and_params f)
    → IsSummary f.returns.identifier.0 (summarized g next f env begin)
summarized_in_order g next f env begin reports apart =
    let marks = marks_of_all g (context_and_params f) in
    let created = returns_created env f in
    let flows = flows_listed g next f.returns (tracked f) (tracked f) in
    record {
      reports = begin;
      marks = marks;
      created = created;
      flows = flows;
      parts = append_assoc (begin ++ marks) (created ∷ []) flows ∙ append_assoc begin marks (created ∷ flows);
      are_reports = reports;
      are_marks = all_marks f.returns.identifier.0 g (context_and_params f) apart;
      is_return = refl;
      are_flows = all_flows g next f.returns (tracked f) (tracked f);
    }

-- where the function's own identifiers are distinct, its summary is in order
pub summary_in_order : (o : Option FunctionId) (is_function_expression : Bool) (f : HirFunction) (env : Environment)
    (r : Ranged) → places_distinct o f ≡ Ok tt → range_pass is_function_expression f env ≡ Ok r
    → IsSummary f.returns.identifier.0 r.summary
summary_in_order o b f env r distinct h =
    let p = pass_is b f env r h in
    let l : Listing = p.0 in
    let w = mutations_done (records b env) l env in
    let made_in_order : IsSummary f.returns.identifier.0 (ranged b f env l).summary
    = summarized_in_order w.0 l.next f (renders_done (records b env) l w) l.summary
    (reports_alone f l (recorded_is_listed f l p.1)) (returns_apart o f distinct) in
    subst (λ (z : Ranged). IsSummary f.returns.identifier.0 z.summary) p.2 made_in_order
