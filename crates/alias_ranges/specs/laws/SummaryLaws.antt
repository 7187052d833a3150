-- The summary that the range pass answers names entries of the tables, and holds no call.
use Rattle.std.proofs.Common.{◌≡◌, ℕ, ◌+◌, Bool, true, false, not, ◌==◌, if◌then◌else◌, nat_lt, List, [], ◌∷◌, ◌++◌}
use Rattle.std.proofs.Common.{Option, Some, None, map, length, slice_get, refl, ap, subst}
use Rattle.std.specs.Prelude.{Result, Ok, Err, ⊤, is_ok}
use Rattle.std.specs.List.{list_all, list_any}
use Rattle.alias_base.specs.Answer.{◌>>=◌, all_pass}
use Rattle.alias_base.specs.AnswerLaws.{both_true, both_pass}
use Rattle.alias_base.specs.declared.ids.BlockId.{BlockId}
use Rattle.alias_base.specs.declared.ids.EvaluationOrder.{EvaluationOrder}
use Rattle.alias_base.specs.declared.ids.InstructionId.{InstructionId}
use Rattle.alias_hir.specs.declared.effect.AliasingEffect.{AliasingEffect}
use Rattle.alias_hir.specs.declared.effect.AliasingEffect.TheVariants as effect
use Rattle.alias_hir.specs.declared.effect.MutationReason.{MutationReason}
use Rattle.alias_hir.specs.declared.env.Environment.{Environment}
use Rattle.alias_hir.specs.declared.error.HirError.{HirError}
use Rattle.alias_hir.specs.declared.hir.BasicBlock.{BasicBlock}
use Rattle.alias_hir.specs.declared.hir.HirFunction.{HirFunction}
use Rattle.alias_hir.specs.declared.hir.Instruction.{Instruction}
use Rattle.alias_hir.specs.declared.hir.ParamPattern.{ParamPattern}
use Rattle.alias_hir.specs.declared.hir.Phi.{Phi}
use Rattle.alias_hir.specs.declared.place.Place.{Place}
use Rattle.alias_hir.specs.declared.terminal.Terminal.{Terminal}
use Rattle.alias_hir.specs.declared.terminal.Terminal.TheVariants as terminal
use Rattle.alias_hir.specs.Parts.{param_place}
use Rattle.alias_hir.specs.Terminals.{terminal_effects}
use Rattle.alias_rules.specs.declared.function_rules.fault.Table.TheVariants.{Identifiers}
use Rattle.alias_rules.specs.declared.function_rules.fault.UnitFault.{UnitFault}
use Rattle.alias_rules.specs.declared.function_rules.fault.UnitFault.TheVariants.{IdOutOfRange}
use Rattle.alias_rules.specs.function_rules.Rules.{place_fits, numbers_fit, tables_fit}
use Rattle.alias_rules.specs.declared.rules.Rule.TheVariants.{Numbers}
use Rattle.alias_rules.specs.Functions.{each_function}
use Rattle.alias_rules.specs.Fitting.{place_within_tables, effect_within_tables, recorded_within_tables}
use Rattle.alias_rules.specs.Fitting.{effects_within_tables, is_apply, holds_no_call, effects_fit, effects_fit_at}
use Rattle.alias_rules.specs.Fitting.{reports_no_invariant, function_rules, function_fits}
use Rattle.alias_rules.specs.RuleLaws.{fitting_tree, fitting_rules}
use Rattle.alias_graph.specs.declared.events.GraphEvent.{GraphEvent}
use Rattle.alias_graph.specs.declared.events.GraphEvent.TheVariants as event
use Rattle.alias_graph.specs.declared.types.EdgeKind.{EdgeKind}
use Rattle.alias_graph.specs.declared.types.EdgeKind.TheVariants.{Capture, Alias, MaybeAlias}
use Rattle.alias_graph.specs.declared.types.MutationInfo.{MutationInfo}
use Rattle.alias_graph.specs.declared.types.MutationKind.{MutationKind}
use Rattle.alias_graph.specs.declared.types.MutationKind.TheVariants.{Conditional, Definite}
use Rattle.alias_graph.specs.declared.types.NodeValue.TheVariants.{Object, Phi as PhiNode, Function}
use Rattle.alias_graph.specs.Nodes.{Node, Nodes}
use Rattle.alias_graph.specs.declared.recorded.listing.Listing.{Listing}
use Rattle.alias_graph.specs.recorded.Each.{each}
use Rattle.alias_graph.specs.recorded.Fitting.{AllOf}
use Rattle.alias_graph.proofs.FitLaws.{all_append, all_push, all_at, went_on}
use Rattle.alias_graph.specs.recorded.IdSets.{has_made}
use Rattle.alias_graph.specs.recorded.Listings.{position_after, with_event, made, made_once, positioned, linked}
use Rattle.alias_graph.specs.recorded.Listings.{mutated, summarized as summarized_more, rendered, effect_listed}
use Rattle.alias_graph.specs.recorded.Listings.{effects_in, recorded_in, instruction_listed}
use Rattle.alias_graph.specs.recorded.BlockListings.{pending_more, added_or_pending, link_of, slot_of_block}
use Rattle.alias_graph.specs.recorded.BlockListings.{operand_listed, phi_listed, returns_listed, alias_listed}
use Rattle.alias_graph.specs.recorded.BlockListings.{aliases_in, with_pending, end_listed, block_listed, blocks_listed}
use Rattle.alias_graph.specs.recorded.BlockListings.{first_listing, listed}
use Rattle.alias_range_pass.specs.summary.Flows.{flow_start, flow_effect, is_flow, flow_from, flows_into, flows_listed}
use Rattle.alias_range_pass.specs.summary.MarkedPlaces.{marks_at, at_mark, local_effect, local_effects}
use Rattle.alias_range_pass.specs.summary.MarkedPlaces.{transitive_effect, transitive_effects, node_effects}
use Rattle.alias_range_pass.specs.summary.MarkedPlaces.{mark_effects, marks_of_all}
use Rattle.alias_range_pass.specs.summary.Summaries.{context_and_params, tracked, returns_created, summarized}
use Rattle.alias_range_pass.specs.summary.Walking.{nodes_after, mutations_done, renders_done}
use Rattle.alias_range_pass.specs.Refusals.{recorded}
use Rattle.alias_range_pass.specs.Passes.{records, Ranged, ranged, range_pass}
use Rattle.alias_ranges.specs.laws.AnswerLaws.{recorded_is_listed, pass_is}

-- ---- lists and steps

each_holds : {X : Type 0} (p : X → Bool) (xs : List X) → list_all p xs ≡ true → AllOf (λ x. p x ≡ true) xs
each_holds p [] h = tt
each_holds p (x ∷ xs) h = let b = both_true (p x) (list_all p xs) h in (b.0, each_holds p xs b.1)

-- what each step keeps all of them keep
steps_keep : {A : Type 0} (P : Listing → Type 0) (Q : A → Type 0) (f : A → Listing → Result Listing HirError)
    → ((x : A) (l m : Listing) → Q x → P l → f x l ≡ Ok m → P m) → (xs : List A) (l m : Listing) → AllOf Q xs → P l
    → each f xs l ≡ Ok m → P m
steps_keep P Q f step [] l m q p h = let e : l ≡ m = cc in subst P e p
steps_keep P Q f step (x ∷ xs) l m q p h =
    let w = went_on (f x l) (λ z. each f xs z) m h in
    steps_keep P Q f step xs w.0 m q.1 (step x l w.0 q.0 p w.1) w.2

all_units : {A : Type 0} (xs : List A) → AllOf (λ _. Unit {0}) xs
all_units [] = tt
all_units (x ∷ xs) = (tt, all_units xs)

abbrev goes_on : (ℕ → Listing) → ℕ → Result Listing HirError
goes_on g n = Ok (g n)

module _ (env : Environment) where
  -- the effect names entries of the tables, and is no call
  abbrev pub MayBeSummarized : AliasingEffect → Type 0
  MayBeSummarized e = (effect_within_tables env e ≡ true) × (is_apply e ≡ false)

  -- ---- what effects record

  abbrev Fits : Listing → Type 0
  Fits l = AllOf MayBeSummarized l.summary

  abbrev okay : Listing → Result Listing HirError
  okay l = Ok l

  same : (l m : Listing) → Fits l → okay l ≡ okay m → Fits m
  same l m p h = let e : l ≡ m = cc in subst Fits e p

  -- a step that takes a position
  after_position : (r : Result ℕ HirError) (g : ℕ → Listing) (m : Listing) → ((n : ℕ) → Fits (g n)) → (r >>= goes_on g)
      ≡ Ok m → Fits m
  after_position (Ok n) g m p h = same (g n) m (p n) h
  after_position (Err e) g m p h = cc

  fits_positioned : (e : ℕ → GraphEvent) (l m : Listing) → Fits l → positioned e l ≡ Ok m → Fits m
  fits_positioned e l m p h = after_position (position_after l.next)
      (λ n. record l { next = n; events = l.events ++ e l.next ∷ [] }) m (λ n. p) h

  fits_linked : (kind : EdgeKind) (a x : Place) (l m : Listing) → Fits l → linked kind a x l ≡ Ok m → Fits m
  fits_linked kind a x l m p h = fits_positioned (λ i. event.Link kind i a.identifier x.identifier) l m p h

  fits_mutated : (i : InstructionId) (o : EvaluationOrder) (x : Place) (t : Bool) (k : MutationKind)
      (r : Option MutationReason) (l m : Listing) → Fits l → mutated i o x t k r l ≡ Ok m → Fits m
  fits_mutated i o x t k r l m p h =
      after_position (position_after l.next)
      (λ n. record l {
        next = n;
        mutations = l.mutations
            ++ record { index = l.next; instruction = i; order = o; place = x; transitive = t; kind = k; reason = r }
            ∷ [];
      }) m (λ n. p) h

  fits_more : (e : AliasingEffect) (l : Listing) → MayBeSummarized e → Fits l
      → AllOf MayBeSummarized (l.summary ++ e ∷ [])
  fits_more e l q p = all_push MayBeSummarized l.summary e p q

  fits_rendered : (i : InstructionId) (x : Place) (l m : Listing) → MayBeSummarized (effect.Render x) → Fits l
      → rendered i x l ≡ Ok m → Fits m
  fits_rendered i x l m q p h =
      after_position (position_after l.next)
      (λ n. record l {
        next = n;
        renders = l.renders ++ record { index = l.next; instruction = i; place = x } ∷ [];
        summary = l.summary ++ effect.Render x ∷ [];
      }) m (λ n. fits_more (effect.Render x) l q p) h

  fits_once : (b : Bool) (x : Place) (l : Listing) → Fits l → Fits (if b then l else made Object x l)
  fits_once true x l p = p
  fits_once false x l p = p

  fits_effect : (i : InstructionId) (o : EvaluationOrder) (e : AliasingEffect) (l m : Listing)
      → effect_within_tables env e ≡ true → Fits l → effect_listed i o e l ≡ Ok m → Fits m
  fits_effect i o (effect.Apply receiver function mutates args into signature span) l m q p h = same l m p h
  fits_effect i o (effect.CreateFrom a x) l m q p h =
      fits_positioned (λ i. event.CreateFrom i a.identifier x.identifier) l m p h
  fits_effect i o (effect.ImmutableCapture a x) l m q p h = same l m p h
  fits_effect i o (effect.Assign a x) l m q p h =
      fits_linked Alias a x (made_once x l) m (fits_once (has_made l.events x.identifier) x l p) h
  fits_effect i o (effect.Alias a x) l m q p h = fits_linked Alias a x l m p h
  fits_effect i o (effect.Capture a x) l m q p h = fits_linked Capture a x l m p h
  fits_effect i o (effect.MaybeAlias a x) l m q p h = fits_linked MaybeAlias a x l m p h
  fits_effect i o (effect.Create x value reason) l m q p h = same (made Object x l) m p h
  fits_effect i o (effect.Freeze x reason) l m q p h = same l m p h
  fits_effect i o (effect.Impure x error) l m q p h =
      same (summarized_more (effect.Impure x error) l) m (fits_more (effect.Impure x error) l (q, refl) p) h
  fits_effect i o (effect.MutateFrozen x error) l m q p h =
      same (summarized_more (effect.MutateFrozen x error) l) m (fits_more (effect.MutateFrozen x error) l (q, refl) p) h
  fits_effect i o (effect.MutateGlobal x error) l m q p h =
      same (summarized_more (effect.MutateGlobal x error) l) m (fits_more (effect.MutateGlobal x error) l (q, refl) p) h
  fits_effect i o (effect.Render x) l m q p h = fits_rendered i x l m (q, refl) p h
  fits_effect i o (effect.Mutate x reason) l m q p h = fits_mutated i o x false Definite reason l m p h
  fits_effect i o (effect.MutateConditionally x) l m q p h = fits_mutated i o x false Conditional None l m p h
  fits_effect i o (effect.MutateTransitive x) l m q p h = fits_mutated i o x true Definite None l m p h
  fits_effect i o (effect.MutateTransitiveConditionally x) l m q p h = fits_mutated i o x true Conditional None l m p h
  fits_effect i o (effect.CreateFunction x f captures) l m q p h = same (made (Function f) x l) m p h

  -- ---- what instructions and blocks record

  abbrev IsWithin : AliasingEffect → Type 0
  IsWithin e = effect_within_tables env e ≡ true

  abbrev HasWithin : Instruction → Type 0
  HasWithin i = recorded_within_tables env i.effects ≡ true

  fits_effects : (i : InstructionId) (o : EvaluationOrder) (es : Option (List AliasingEffect)) (l m : Listing)
      → recorded_within_tables env es ≡ true → Fits l → effects_in i o es l ≡ Ok m → Fits m
  fits_effects i o None l m q p h = same l m p h
  fits_effects i o (Some es) l m q p h = steps_keep Fits IsWithin (effect_listed i o) (fits_effect i o) es l m
      (each_holds (effect_within_tables env) es q) p h

  fits_recorded : (is : List Instruction) (k : InstructionId) (o : Option Instruction) (l m : Listing)
      → AllOf HasWithin is → slice_get is k.0 ≡ o → Fits l → recorded_in k o l ≡ Ok m → Fits m
  fits_recorded is k None l m q e p h = same l m p h
  fits_recorded is k (Some i) l m q e p h = fits_effects k i.id i.effects l m (all_at HasWithin is k.0 i q e) p h

  fits_instruction : (is : List Instruction) → AllOf HasWithin is → (k : InstructionId) (l m : Listing) → Unit {0}
      → Fits l → instruction_listed is k l ≡ Ok m → Fits m
  fits_instruction is q k l m u p h = fits_recorded is k (slice_get is k.0) l m q refl p h

  fits_added : (b : Bool) (k : ℕ) (e : GraphEvent) (l : Listing) → Fits l
      → Fits (if b then with_event e l else record l { pending = pending_more l.pending k e })
  fits_added true k e l p = p
  fits_added false k e l p = p

  fits_added_or_pending : (k : ℕ) (o : Option ℕ) (e : GraphEvent) (l : Listing) → Fits l
      → Fits (added_or_pending k o e l)
  fits_added_or_pending k None e l p = p
  fits_added_or_pending k (Some j) e l p = fits_added (nat_lt j k) j e l p

  fits_operand : (blocks : List (BlockId × BasicBlock)) (k : ℕ) (x : Place) (e : BlockId × Place) (l m : Listing)
      → Unit {0} → Fits l → operand_listed blocks k x e l ≡ Ok m → Fits m
  fits_operand blocks k x e l m u p h =
      after_position (position_after l.next)
      (λ n. added_or_pending k (slot_of_block blocks e.0) (link_of l.next e.1 x) (record l { next = n })) m
      (λ n. fits_added_or_pending k (slot_of_block blocks e.0) (link_of l.next e.1 x) (record l { next = n }) p) h

  fits_phi : (blocks : List (BlockId × BasicBlock)) (k : ℕ) (phi : Phi) (l m : Listing) → Unit {0} → Fits l
      → phi_listed blocks k phi l ≡ Ok m → Fits m
  fits_phi blocks k phi l m u p h = steps_keep Fits (λ _. Unit {0}) (operand_listed blocks k phi.place)
      (fits_operand blocks k phi.place) phi.operands (made PhiNode phi.place l) m (all_units phi.operands) p h

  fits_returns : (returns : Place) (t : Terminal) (l m : Listing) → Fits l → returns_listed returns t l ≡ Ok m → Fits m
  fits_returns returns (terminal.Return id value effects) l m p h = fits_linked Alias value returns l m p h
  fits_returns returns t l m p h = same l m p h

  fits_alias : (e : AliasingEffect) (l m : Listing) → Unit {0} → Fits l → alias_listed e l ≡ Ok m → Fits m
  fits_alias (effect.Alias a x) l m u p h = fits_linked Alias a x l m p h
  fits_alias e l m u p h = same l m p h

  fits_aliases : (es : Option (List AliasingEffect)) (l m : Listing) → Fits l → aliases_in es l ≡ Ok m → Fits m
  fits_aliases None l m p h = same l m p h
  fits_aliases (Some es) l m p h = steps_keep Fits (λ _. Unit {0}) alias_listed fits_alias es l m (all_units es) p h

  fits_end : (returns : Place) (k : ℕ) (t : Terminal) (l m : Listing) → Fits l → end_listed returns k t l ≡ Ok m
      → Fits m
  fits_end returns k t l m p h =
      let w = went_on (returns_listed returns t (with_pending k l)) (λ r. aliases_in (terminal_effects t) r) m h in
      fits_aliases (terminal_effects t) w.0 m (fits_returns returns t (with_pending k l) w.0 p w.1) w.2

  fits_block : (f : HirFunction) → AllOf HasWithin f.instructions → (k : ℕ) (b : BasicBlock) (l m : Listing) → Fits l
      → block_listed f k b l ≡ Ok m → Fits m
  fits_block f q k b l m p h =
      let v = went_on (each (phi_listed f.body.blocks k) b.phis l)
      (λ z. each (instruction_listed f.instructions) b.instructions z
      >>= (λ y. end_listed f.returns k b.terminal y)) m h in
      let w = went_on (each (instruction_listed f.instructions) b.instructions v.0)
      (λ y. end_listed f.returns k b.terminal y) m v.2 in
      let first : Fits v.0 = steps_keep Fits (λ _. Unit {0}) (phi_listed f.body.blocks k) (fits_phi f.body.blocks k)
      b.phis l v.0 (all_units b.phis) p v.1 in
      let second : Fits w.0 = steps_keep Fits (λ _. Unit {0}) (instruction_listed f.instructions)
      (fits_instruction f.instructions q) b.instructions v.0 w.0 (all_units b.instructions) first w.1 in
      fits_end f.returns k b.terminal w.0 m second w.2

  fits_blocks : (f : HirFunction) → AllOf HasWithin f.instructions
      → (k : ℕ) (bs : List (BlockId × BasicBlock)) (l m : Listing) → Fits l → blocks_listed f k bs l ≡ Ok m → Fits m
  fits_blocks f q k [] l m p h = same l m p h
  fits_blocks f q k (b ∷ bs) l m p h =
      let w = went_on (block_listed f k b.1 l) (λ z. blocks_listed f (k + 1) bs z) m h in
      fits_blocks f q (k + 1) bs w.0 m (fits_block f q k b.1 l w.0 p w.1) w.2

  -- what the effects of a function record for its summary
  fits_listed : (f : HirFunction) (l : Listing) → AllOf HasWithin f.instructions → listed f ≡ Ok l → Fits l
  fits_listed f l q h = fits_blocks f q 0 f.body.blocks (first_listing f) l tt h

  -- ---- marks, what is returned, and flows

  abbrev IsThere : Place → Type 0
  IsThere p = place_within_tables env p ≡ true

  fits_local : (k : MutationKind) (reason : Option MutationReason) (x : Place) → IsThere x
      → MayBeSummarized (local_effect k reason x)
  fits_local Conditional reason x h = (rw h refl, refl)
  fits_local Definite reason x h = (rw h refl, refl)

  fits_locals : (o : Option MutationInfo) (reason : Option MutationReason) (x : Place) → IsThere x
      → AllOf MayBeSummarized (local_effects o reason x)
  fits_locals None reason x h = tt
  fits_locals (Some i) reason x h = (fits_local i.kind reason (at_mark i x) h, tt)

  fits_transitive : (k : MutationKind) (x : Place) → IsThere x → MayBeSummarized (transitive_effect k x)
  fits_transitive Conditional x h = (rw h refl, refl)
  fits_transitive Definite x h = (rw h refl, refl)

  fits_transitives : (o : Option MutationInfo) (x : Place) → IsThere x → AllOf MayBeSummarized (transitive_effects o x)
  fits_transitives None x h = tt
  fits_transitives (Some i) x h = (fits_transitive i.kind (at_mark i x) h, tt)

  fits_node : (o : Option Node) (x : Place) → IsThere x → AllOf MayBeSummarized (node_effects o x)
  fits_node None x h = tt
  fits_node (Some n) x h = all_append MayBeSummarized (local_effects n.local n.mutation_reason x)
      (transitive_effects n.transitive x) (fits_locals n.local n.mutation_reason x h)
      (fits_transitives n.transitive x h)

  fits_marks : (g : Nodes) (xs : List Place) → AllOf IsThere xs → AllOf MayBeSummarized (marks_of_all g xs)
  fits_marks g [] h = tt
  fits_marks g (x ∷ xs) h = all_append MayBeSummarized (mark_effects g x) (marks_of_all g xs)
      (fits_node (marks_at g x.identifier) x h.0) (fits_marks g xs h.1)

  fits_returned : (e : Environment) (f : HirFunction) → IsThere f.returns → MayBeSummarized (returns_created e f)
  fits_returned e f h = (rw h refl, refl)

  fits_flow : (b : Bool) (from into : Place) → IsThere from → IsThere into
      → MayBeSummarized (if b then effect.Alias from into else effect.Capture from into)
  fits_flow true from into p q = (rw (p, q) refl, refl)
  fits_flow false from into p q = (rw (p, q) refl, refl)

  fits_flow_if : (b : Bool) (returns from into : Place) → IsThere from → IsThere into
      → AllOf MayBeSummarized (if b then flow_effect returns from into ∷ [] else [])
  fits_flow_if true returns from into p q = (fits_flow (into.identifier.0 == returns.identifier.0) from into p q, tt)
  fits_flow_if false returns from into p q = tt

  fits_into : (g : Nodes) (index : ℕ) (returns into : Place) (froms : List Place) → IsThere into → AllOf IsThere froms
      → AllOf MayBeSummarized (flows_into g index returns froms into)
  fits_into g index returns into [] q p = tt
  fits_into g index returns into (from ∷ froms) q p =
      all_append MayBeSummarized (flow_from g index returns into from) (flows_into g index returns froms into)
      (fits_flow_if (is_flow g index returns into from) returns from into p.0 q)
      (fits_into g index returns into froms q p.1)

  fits_flows : (g : Nodes) (index : ℕ) (returns : Place) (places intos : List Place) → AllOf IsThere places
      → AllOf IsThere intos → AllOf MayBeSummarized (flows_listed g index returns places intos)
  fits_flows g index returns places [] p q = tt
  fits_flows g index returns places (into ∷ intos) p q =
      let after : Nodes = nodes_after (flow_start index into) g in
      all_append MayBeSummarized (flows_into after index returns places into)
      (flows_listed after (index + 1) returns places intos) (fits_into after index returns into places q.0 p)
      (fits_flows after (index + 1) returns places intos p q.1)

  -- ---- the whole summary

  fits_summarized : (g : Nodes) (next : ℕ) (f : HirFunction) (e : Environment) (begin : List AliasingEffect)
      → AllOf MayBeSummarized begin → AllOf IsThere (map param_place f.params) → AllOf IsThere f.context
      → IsThere f.returns
      → AllOf MayBeSummarized (summarized g next f e begin)
  fits_summarized g next f e begin first params context returns =
      let marks = marks_of_all g (context_and_params f) in
      let created = returns_created e f ∷ [] in
      let places : AllOf IsThere (tracked f) =
      all_push IsThere (map param_place f.params ++ f.context) f.returns
      (all_append IsThere (map param_place f.params) f.context params context) returns in
      let marked : AllOf MayBeSummarized marks =
      fits_marks g (context_and_params f) (all_append IsThere f.context (map param_place f.params) context
      params) in
      all_append MayBeSummarized ((begin ++ marks) ++ created) (flows_listed g next f.returns (tracked f) (tracked f))
      (all_append MayBeSummarized (begin ++ marks) created (all_append MayBeSummarized begin marks first marked)
      (fits_returned e f returns, tt))
      (fits_flows g next f.returns (tracked f) (tracked f) places places)

  -- ---- what a function that fits has

  asked : (b : Bool) (e : UnitFault) → (let r : Result ⊤ UnitFault = if b then Ok tt else Err e in r ≡ Ok tt) → b ≡ true
  asked true e h = refl
  asked false e h = cc

  there : (p : Place) → place_fits env p ≡ Ok tt → IsThere p
  there p h = asked (nat_lt p.identifier.0 (length env.identifiers)) (IdOutOfRange Identifiers p.identifier.0) h

  all_there : (ps : List Place) → all_pass (place_fits env) ps ≡ Ok tt → AllOf IsThere ps
  all_there [] h = tt
  all_there (p ∷ ps) h = let b = both_pass (place_fits env p) _ h in (there p b.0, all_there ps b.1)

  params_there : (ps : List ParamPattern) → all_pass (λ p. place_fits env (param_place p)) ps ≡ Ok tt
      → AllOf IsThere (map param_place ps)
  params_there [] h = tt
  params_there (p ∷ ps) h = let b = both_pass (place_fits env (param_place p)) _ h in
      (there (param_place p) b.0, params_there ps b.1)

  fits_ranged : (b : Bool) (f : HirFunction) (l : Listing) → recorded f ≡ Ok l → numbers_fit env f ≡ Ok tt
      → effects_fit env f ≡ true → AllOf MayBeSummarized (ranged b f env l).summary
  fits_ranged b f l is numbers effects =
      let params = both_pass (all_pass (λ p. place_fits env (param_place p)) f.params) _ numbers in
      let context = both_pass (all_pass (place_fits env) f.context) _ params.1 in
      let returns = both_pass (place_fits env f.returns) _ context.1 in
      let within = (both_true (effects_within_tables env f) (holds_no_call f.aliasing_effects) effects).0 in
      let blocks = (both_true _ (recorded_within_tables env f.aliasing_effects) within).0 in
      let instructions = (both_true (list_all (λ (i : Instruction). recorded_within_tables env i.effects)
      f.instructions) _ blocks).0 in
      let first : Fits l = fits_listed f l (each_holds (λ (i : Instruction). recorded_within_tables env i.effects)
      f.instructions instructions) (recorded_is_listed f l is) in
      let r : Bool = records b env in
      let w = mutations_done r l env in
      fits_summarized w.0 l.next f (renders_done r l w) l.summary first (params_there f.params params.0)
      (all_there f.context context.0) (there f.returns returns.0)

  all_within : (es : List AliasingEffect) → AllOf MayBeSummarized es → list_all (effect_within_tables env) es ≡ true
  all_within [] h = refl
  all_within (e ∷ es) h = rw h.0.0 (all_within es h.1)

  none_calls : (es : List AliasingEffect) → AllOf MayBeSummarized es → list_any is_apply es ≡ false
  none_calls [] h = refl
  none_calls (e ∷ es) h = rw h.0.1 (none_calls es h.1)

-- the summary names entries of the tables, and holds no call
pub summary_fits : (is_function_expression : Bool) (f : HirFunction) (env : Environment) (r : Ranged)
    → range_pass is_function_expression f env ≡ Ok r → function_fits f env ≡ true
    → (list_all (effect_within_tables env) r.summary ≡ true) × (holds_no_call (Some r.summary) ≡ true)
summary_fits b f env r h fits =
    let p = pass_is b f env r h in
    let t = fitting_tree f env fits in
    let a = both_pass (tables_fit env) _ (fitting_rules f env t.0 t.2) in
    let numbers = both_pass (each_function Numbers env f t.0) _ a.1 in
    let inner = (both_true _ (list_all (effects_fit_at env) t.0) (both_true _ (reports_no_invariant env) t.2).0).0 in
    let effects = (both_true (is_ok (function_rules env f t.0)) (effects_fit env f) inner).1 in
    let all : AllOf (MayBeSummarized env) r.summary =
    subst (λ (z : Ranged). AllOf (MayBeSummarized env) z.summary) p.2
    (fits_ranged env b f p.0 p.1 (both_pass (numbers_fit env f) _ numbers.0).0 effects) in
    (all_within env r.summary all, ap not (none_calls env r.summary all))
