-- The range pass changes ends only of identifiers that the function names: those of its own places, and those that its
-- effects make.
use Rattle.std.proofs.Common.{◌≡◌, ℕ, ◌+◌, ◌⊎◌, inl, inr, ⊎_elim, Bool, true, false, ◌||◌, if◌then◌else◌, IsTrue, List}
use Rattle.std.proofs.Common.{[], ◌∷◌, ◌++◌, Option, Some, None, is_some, nat_lt, length, map, replicate, slice_get}
use Rattle.std.proofs.Common.{slice_set, refl, sym, subst, suc, zero}
use Rattle.std.specs.Prelude.{Result, Ok}
use Rattle.std.specs.Option.{option_map_or}
use Rattle.alias_base.specs.Answer.{◌>>=◌}
use Rattle.alias_base.specs.declared.ids.BlockId.{BlockId}
use Rattle.alias_base.specs.declared.ids.IdentifierId.{IdentifierId}
use Rattle.alias_base.specs.declared.ids.InstructionId.{InstructionId}
use Rattle.alias_base.specs.declared.ids.EvaluationOrder.{EvaluationOrder}
use Rattle.alias_hir.specs.Parts.{param_place}
use Rattle.alias_hir.specs.Terminals.{terminal_effects}
use Rattle.alias_hir.specs.declared.effect.AliasingEffect.{AliasingEffect}
use Rattle.alias_hir.specs.declared.effect.AliasingEffect.TheVariants as effect
use Rattle.alias_hir.specs.declared.effect.MutationReason.{MutationReason}
use Rattle.alias_hir.specs.declared.env.Identifier.{Identifier}
use Rattle.alias_hir.specs.declared.error.HirError.{HirError}
use Rattle.alias_hir.specs.declared.hir.BasicBlock.{BasicBlock}
use Rattle.alias_hir.specs.declared.hir.HirFunction.{HirFunction}
use Rattle.alias_hir.specs.declared.hir.Instruction.{Instruction}
use Rattle.alias_hir.specs.declared.hir.Phi.{Phi}
use Rattle.alias_hir.specs.declared.place.Place.{Place}
use Rattle.alias_hir.specs.declared.terminal.Terminal.{Terminal}
use Rattle.alias_hir.specs.declared.terminal.Terminal.TheVariants as terminal
use Rattle.alias_graph.specs.declared.events.GraphEvent.{GraphEvent}
use Rattle.alias_graph.specs.declared.events.GraphEvent.TheVariants as event
use Rattle.alias_graph.specs.declared.types.EdgeKind.{EdgeKind}
use Rattle.alias_graph.specs.declared.types.EdgeKind.TheVariants.{Capture, Alias, MaybeAlias}
use Rattle.alias_graph.specs.declared.types.Entry.{Entry}
use Rattle.alias_graph.specs.declared.types.MutationKind.{MutationKind}
use Rattle.alias_graph.specs.declared.types.NodeValue.TheVariants.{Object, Phi as PhiNode, Function}
use Rattle.alias_graph.specs.Events.{events_of}
use Rattle.alias_graph.specs.Legal.{Legal}
use Rattle.alias_graph.specs.Nodes.{Node, same_id}
use Rattle.alias_graph.specs.Reach.{end_at}
use Rattle.alias_graph.specs.RemainingLinks.{was_made, when, remaining_node}
use Rattle.alias_graph.specs.Walks.{IsOneOf}
use Rattle.alias_graph.proofs.Covering.{eqb_is}
use Rattle.alias_graph.proofs.Reaching.{legal_exists}
use Rattle.alias_graph.proofs.RemainingNodes.{graph_is_remaining}
use Rattle.alias_graph.specs.declared.recorded.listing.Listing.{Listing}
use Rattle.alias_graph.specs.recorded.BlockListings.{pending_at, pending_more, added_or_pending, link_of, slot_of_block}
use Rattle.alias_graph.specs.recorded.BlockListings.{operand_listed, phi_listed, returns_listed, alias_listed}
use Rattle.alias_graph.specs.recorded.BlockListings.{aliases_in, with_pending, end_listed, block_listed, blocks_listed}
use Rattle.alias_graph.specs.recorded.BlockListings.{object_of, first_listing, listed}
use Rattle.alias_graph.specs.recorded.Each.{each}
use Rattle.alias_graph.specs.recorded.Fitting.{AllOf, effect_makes}
use Rattle.alias_graph.proofs.FitLaws.{all_append, all_push, all_at, all_set, went_on, each_keeps}
use Rattle.alias_graph.specs.recorded.IdSets.{made_id, has_made}
use Rattle.alias_graph.specs.recorded.Listings.{position_after, with_event, made, made_once, positioned, linked}
use Rattle.alias_graph.specs.recorded.Listings.{mutated, summarized, rendered, effect_listed, effects_in, recorded_in}
use Rattle.alias_graph.specs.recorded.Listings.{instruction_listed}
use Rattle.alias_graph.specs.recorded.Recording.{graph_listed}
use Rattle.alias_range_pass.specs.Laws.{Causes}
use Rattle.alias_range_pass.specs.places.Causes.{written}
use Rattle.alias_range_pass.specs.summary.Walking.{mutation_entry}

module _ (Q : ℕ → Type 0) where
  abbrev pub IdHas : Option IdentifierId → Type 0
  IdHas None = Unit {0}
  IdHas (Some id) = Q id.0

  -- what the effect makes
  abbrev pub EffectMakes : AliasingEffect → Type 0
  EffectMakes e = IdHas (effect_makes e)

  abbrev pub EffectsMake : Option (List AliasingEffect) → Type 0
  EffectsMake None = Unit {0}
  EffectsMake (Some es) = AllOf EffectMakes es

  abbrev EventMakes : GraphEvent → Type 0
  EventMakes e = IdHas (made_id e)

  abbrev pub PhiMakes : Phi → Type 0
  PhiMakes phi = Q phi.place.identifier.0

  -- parameters, context places, what is returned, phis, what instructions assign or store, and what effects make
  pub record FunctionMakes (f : HirFunction) : Type 0 where
    pub params : AllOf (λ p. Q (param_place p).identifier.0) f.params
    pub context : AllOf (λ (p : Place). Q p.identifier.0) f.context
    pub returns : Q f.returns.identifier.0
    pub phis : AllOf (λ (b : BlockId × BasicBlock). AllOf PhiMakes b.1.phis) f.body.blocks
    pub effects : AllOf (λ (i : Instruction). EffectsMake i.effects) f.instructions
    pub written : (i : Instruction) → IsOneOf i f.instructions → (k : ℕ) → IsOneOf k (written i) → Q k

  -- events and those that wait
  record Makes (l : Listing) : Type 0 where
    events : AllOf EventMakes l.events
    pending : AllOf (AllOf EventMakes) l.pending

  abbrev okay : Listing → Result Listing HirError
  okay l = Ok l

  same : (l m : Listing) → Makes l → okay l ≡ okay m → Makes m
  same l m p h = let e : l ≡ m = cc in subst Makes e p

  makes_event : (e : GraphEvent) (l : Listing) → EventMakes e → Makes l → Makes (with_event e l)
  makes_event e l q p = record { events = all_push EventMakes l.events e p.events q; pending = p.pending }

  makes_positioned : (e : ℕ → GraphEvent) → ((i : ℕ) → EventMakes (e i)) → (l m : Listing) → Makes l → positioned e l
      ≡ Ok m → Makes m
  makes_positioned e q l m p h =
      let w = went_on (position_after l.next)
      (λ after. Ok (record l { next = after; events = l.events ++ e l.next ∷ [] })) m h in
      same (record l { next = w.0; events = l.events ++ e l.next ∷ [] }) m
      (record { events = all_push EventMakes l.events (e l.next) p.events (q l.next); pending = p.pending }) w.2

  makes_linked : (kind : EdgeKind) (a x : Place) (l m : Listing) → Makes l → linked kind a x l ≡ Ok m → Makes m
  makes_linked kind a x l m p h = makes_positioned (λ i. event.Link kind i a.identifier x.identifier) (λ i. tt) l m p h

  makes_mutated : (i : InstructionId) (o : EvaluationOrder) (x : Place) (t : Bool) (k : MutationKind)
      (r : Option MutationReason) (l m : Listing) → Makes l → mutated i o x t k r l ≡ Ok m → Makes m
  makes_mutated i o x t k r l m p h =
      let more : ℕ → Listing = λ after. record l {
        next = after;
        mutations = l.mutations
            ++ record { index = l.next; instruction = i; order = o; place = x; transitive = t; kind = k; reason = r }
            ∷ [];
      } in
      let w = went_on (position_after l.next) (λ after. Ok (more after)) m h in
      same (more w.0) m (record { events = p.events; pending = p.pending }) w.2

  makes_rendered : (i : InstructionId) (x : Place) (l m : Listing) → Makes l → rendered i x l ≡ Ok m → Makes m
  makes_rendered i x l m p h =
      let more : ℕ → Listing = λ after. record l {
        next = after;
        renders = l.renders ++ record { index = l.next; instruction = i; place = x } ∷ [];
        summary = l.summary ++ effect.Render x ∷ [];
      } in
      let w = went_on (position_after l.next) (λ after. Ok (more after)) m h in
      same (more w.0) m (record { events = p.events; pending = p.pending }) w.2

  makes_summarized : (e : AliasingEffect) (l : Listing) → Makes l → Makes (summarized e l)
  makes_summarized e l p = record { events = p.events; pending = p.pending }

  makes_once : (b : Bool) (x : Place) (l : Listing) → Q x.identifier.0 → Makes l
      → Makes (if b then l else made Object x l)
  makes_once true x l q p = p
  makes_once false x l q p = makes_event (event.Make x.identifier Object) l q p

  makes_effect : (i : InstructionId) (o : EvaluationOrder) (e : AliasingEffect) (l m : Listing) → EffectMakes e
      → Makes l → effect_listed i o e l ≡ Ok m → Makes m
  makes_effect i o (effect.Apply receiver function mutates args into signature span) l m q p h = same l m p h
  makes_effect i o (effect.CreateFrom a x) l m q p h =
      makes_positioned (λ k. event.CreateFrom k a.identifier x.identifier) (λ k. q) l m p h
  makes_effect i o (effect.ImmutableCapture a x) l m q p h = same l m p h
  makes_effect i o (effect.Assign a x) l m q p h =
      makes_linked Alias a x (made_once x l) m (makes_once (has_made l.events x.identifier) x l q p) h
  makes_effect i o (effect.Alias a x) l m q p h = makes_linked Alias a x l m p h
  makes_effect i o (effect.Capture a x) l m q p h = makes_linked Capture a x l m p h
  makes_effect i o (effect.MaybeAlias a x) l m q p h = makes_linked MaybeAlias a x l m p h
  makes_effect i o (effect.Create x value reason) l m q p h =
      same (made Object x l) m (makes_event (event.Make x.identifier Object) l q p) h
  makes_effect i o (effect.Freeze x reason) l m q p h = same l m p h
  makes_effect i o (effect.Impure x error) l m q p h =
      same (summarized (effect.Impure x error) l) m (makes_summarized (effect.Impure x error) l p) h
  makes_effect i o (effect.MutateFrozen x error) l m q p h =
      same (summarized (effect.MutateFrozen x error) l) m (makes_summarized (effect.MutateFrozen x error) l p) h
  makes_effect i o (effect.MutateGlobal x error) l m q p h =
      same (summarized (effect.MutateGlobal x error) l) m (makes_summarized (effect.MutateGlobal x error) l p) h
  makes_effect i o (effect.Render x) l m q p h = makes_rendered i x l m p h
  makes_effect i o (effect.Mutate x reason) l m q p h = makes_mutated i o x false _ reason l m p h
  makes_effect i o (effect.MutateConditionally x) l m q p h = makes_mutated i o x false _ None l m p h
  makes_effect i o (effect.MutateTransitive x) l m q p h = makes_mutated i o x true _ None l m p h
  makes_effect i o (effect.MutateTransitiveConditionally x) l m q p h = makes_mutated i o x true _ None l m p h
  makes_effect i o (effect.CreateFunction x f captures) l m q p h =
      same (made (Function f) x l) m (makes_event (event.Make x.identifier (Function f)) l q p) h

  makes_effects : (i : InstructionId) (o : EvaluationOrder) (es : Option (List AliasingEffect)) (l m : Listing)
      → EffectsMake es → Makes l → effects_in i o es l ≡ Ok m → Makes m
  makes_effects i o None l m q p h = same l m p h
  makes_effects i o (Some es) l m q p h =
      each_keeps Makes EffectMakes (effect_listed i o) (makes_effect i o) es l m q p h

  makes_recorded : (is : List Instruction) (k : InstructionId) (o : Option Instruction) (l m : Listing)
      → AllOf (λ (i : Instruction). EffectsMake i.effects) is → slice_get is k.0 ≡ o → Makes l → recorded_in k o l
      ≡ Ok m → Makes m
  makes_recorded is k None l m q e p h = same l m p h
  makes_recorded is k (Some i) l m q e p h =
      makes_effects k i.id i.effects l m (all_at (λ (j : Instruction). EffectsMake j.effects) is k.0 i q e) p h

  makes_instruction : (is : List Instruction) → AllOf (λ (i : Instruction). EffectsMake i.effects) is
      → (k : InstructionId) (l m : Listing) → Unit {0} → Makes l → instruction_listed is k l ≡ Ok m → Makes m
  makes_instruction is q k l m u p h = makes_recorded is k (slice_get is k.0) l m q refl p h

  all_unit : {A : Type 0} (xs : List A) → AllOf (λ _. Unit {0}) xs
  all_unit [] = tt
  all_unit (x ∷ xs) = (tt, all_unit xs)

  pending_makes : (pending : List (List GraphEvent)) (p : ℕ) (e : GraphEvent) (o : Option (List GraphEvent))
      → AllOf (AllOf EventMakes) pending → EventMakes e → slice_get pending p ≡ o
      → AllOf (AllOf EventMakes) (option_map_or (λ es. slice_set pending p (es ++ e ∷ [])) o pending)
  pending_makes pending p e None q fit is = q
  pending_makes pending p e (Some es) q fit is =
      all_set (AllOf EventMakes) pending p (es ++ e ∷ []) q
      (all_push EventMakes es e (all_at (AllOf EventMakes) pending p es q is) fit)

  makes_added : (b : Bool) (k : ℕ) (e : GraphEvent) (l : Listing) → EventMakes e → Makes l
      → Makes (if b then with_event e l else record l { pending = pending_more l.pending k e })
  makes_added true k e l q p = makes_event e l q p
  makes_added false k e l q p = record {
    events = p.events;
    pending = pending_makes l.pending k e (slice_get l.pending k) p.pending q refl;
  }

  makes_added_or_pending : (k : ℕ) (o : Option ℕ) (e : GraphEvent) (l : Listing) → EventMakes e → Makes l
      → Makes (added_or_pending k o e l)
  makes_added_or_pending k None e l q p = p
  makes_added_or_pending k (Some j) e l q p = makes_added (nat_lt j k) j e l q p

  makes_operand : (blocks : List (BlockId × BasicBlock)) (k : ℕ) (x : Place) (e : BlockId × Place) (l m : Listing)
      → Unit {0} → Makes l → operand_listed blocks k x e l ≡ Ok m → Makes m
  makes_operand blocks k x e l m u p h =
      let more : ℕ → Listing = λ after. added_or_pending k (slot_of_block blocks e.0) (link_of l.next e.1 x)
      (record l { next = after }) in
      let w = went_on (position_after l.next) (λ after. Ok (more after)) m h in
      same (more w.0) m (makes_added_or_pending k (slot_of_block blocks e.0) (link_of l.next e.1 x)
      (record l { next = w.0 }) tt (record { events = p.events; pending = p.pending })) w.2

  makes_phi : (blocks : List (BlockId × BasicBlock)) (k : ℕ) (phi : Phi) (l m : Listing) → PhiMakes phi → Makes l
      → phi_listed blocks k phi l ≡ Ok m → Makes m
  makes_phi blocks k phi l m q p h =
      each_keeps Makes (λ _. Unit {0}) (operand_listed blocks k phi.place) (makes_operand blocks k phi.place)
      phi.operands (made PhiNode phi.place l) m (all_unit phi.operands)
      (makes_event (event.Make phi.place.identifier PhiNode) l q p) h

  makes_returns : (returns : Place) (t : Terminal) (l m : Listing) → Makes l → returns_listed returns t l ≡ Ok m
      → Makes m
  makes_returns returns (terminal.Return id value effects) l m p h = makes_linked Alias value returns l m p h
  makes_returns returns t l m p h = same l m p h

  makes_alias : (e : AliasingEffect) (l m : Listing) → Unit {0} → Makes l → alias_listed e l ≡ Ok m → Makes m
  makes_alias (effect.Alias a x) l m u p h = makes_linked Alias a x l m p h
  makes_alias e l m u p h = same l m p h

  makes_aliases : (es : Option (List AliasingEffect)) (l m : Listing) → Makes l → aliases_in es l ≡ Ok m → Makes m
  makes_aliases None l m p h = same l m p h
  makes_aliases (Some es) l m p h = each_keeps Makes (λ _. Unit {0}) alias_listed makes_alias es l m (all_unit es) p h

  pending_at_makes : (pending : List (List GraphEvent)) (k : ℕ) (o : Option (List GraphEvent))
      → AllOf (AllOf EventMakes) pending → slice_get pending k ≡ o → AllOf EventMakes (option_map_or (λ es. es) o [])
  pending_at_makes pending k None q is = tt
  pending_at_makes pending k (Some es) q is = all_at (AllOf EventMakes) pending k es q is

  makes_end : (returns : Place) (k : ℕ) (t : Terminal) (l m : Listing) → Makes l → end_listed returns k t l ≡ Ok m
      → Makes m
  makes_end returns k t l m p h =
      let added : Makes (with_pending k l) =
      record {
        events = all_append EventMakes l.events (pending_at l.pending k) p.events
            (pending_at_makes l.pending k (slice_get l.pending k) p.pending refl);
        pending = p.pending;
      } in
      let w = went_on (returns_listed returns t (with_pending k l)) (λ r. aliases_in (terminal_effects t) r) m h in
      makes_aliases (terminal_effects t) w.0 m (makes_returns returns t (with_pending k l) w.0 added w.1) w.2

  makes_block : (f : HirFunction) → AllOf (λ (i : Instruction). EffectsMake i.effects) f.instructions
      → (k : ℕ) (b : BasicBlock) (l m : Listing) → AllOf PhiMakes b.phis → Makes l → block_listed f k b l ≡ Ok m
      → Makes m
  makes_block f q k b l m phis p h =
      let v = went_on (each (phi_listed f.body.blocks k) b.phis l)
      (λ z. each (instruction_listed f.instructions) b.instructions z
      >>= (λ y. end_listed f.returns k b.terminal y)) m h in
      let w = went_on (each (instruction_listed f.instructions) b.instructions v.0)
      (λ y. end_listed f.returns k b.terminal y) m v.2 in
      let first : Makes v.0 = each_keeps Makes PhiMakes (phi_listed f.body.blocks k) (makes_phi f.body.blocks k) b.phis
      l v.0 phis p v.1 in
      let second : Makes w.0 = each_keeps Makes (λ _. Unit {0}) (instruction_listed f.instructions)
      (makes_instruction f.instructions q) b.instructions v.0 w.0 (all_unit b.instructions) first w.1 in
      makes_end f.returns k b.terminal w.0 m second w.2

  makes_blocks : (f : HirFunction) → AllOf (λ (i : Instruction). EffectsMake i.effects) f.instructions
      → (k : ℕ) (bs : List (BlockId × BasicBlock)) (l m : Listing)
      → AllOf (λ (b : BlockId × BasicBlock). AllOf PhiMakes b.1.phis) bs → Makes l → blocks_listed f k bs l ≡ Ok m
      → Makes m
  makes_blocks f q k [] l m b p h = same l m p h
  makes_blocks f q k (b ∷ bs) l m fit p h =
      let w = went_on (block_listed f k b.1 l) (λ z. blocks_listed f (k + 1) bs z) m h in
      makes_blocks f q (k + 1) bs w.0 m fit.1 (makes_block f q k b.1 l w.0 fit.0 p w.1) w.2

  nothing_makes : (k : ℕ) → AllOf (AllOf EventMakes) (replicate k [])
  nothing_makes zero = tt
  nothing_makes (suc k) = (tt, nothing_makes k)

  all_mapped : {A B : Type 0} (R : B → Type 0) (g : A → B) (xs : List A) → AllOf (λ x. R (g x)) xs → AllOf R (map g xs)
  all_mapped R g [] h = tt
  all_mapped R g (x ∷ xs) h = (h.0, all_mapped R g xs h.1)

  first_makes : (f : HirFunction) → FunctionMakes f → Makes (first_listing f)
  first_makes f fit = record {
    events =
        all_append EventMakes (map (λ p. object_of (param_place p)) f.params ++ map object_of f.context)
        (object_of f.returns ∷ [])
        (all_append EventMakes (map (λ p. object_of (param_place p)) f.params) (map object_of f.context)
        (all_mapped EventMakes (λ p. object_of (param_place p)) f.params fit.params)
        (all_mapped EventMakes object_of f.context fit.context)) (fit.returns, tt);
    pending = nothing_makes (length f.body.blocks);
  }

  -- ---- nodes

  made_at : (b : Bool) (i : ℕ) (r : Bool) → (b ≡ true → Q i) → (IsTrue r → Q i) → IsTrue (b || r) → Q i
  made_at true i r p q h = p refl
  made_at false i r p q h = q h

  made_has : (es : List GraphEvent) (id : IdentifierId) → AllOf EventMakes es → IsTrue (has_made es id) → Q id.0
  made_has [] id p h = cc
  made_has (event.Make at value ∷ es) id p h =
      made_at (same_id id at) id.0 (has_made es id) (λ e. subst Q (sym (eqb_is id.0 at.0 e)) p.0)
      (λ r. made_has es id p.1 r) h
  made_has (event.CreateFrom index a x ∷ es) id p h =
      made_at (same_id id x) id.0 (has_made es id) (λ e. subst Q (sym (eqb_is id.0 x.0 e)) p.0)
      (λ r. made_has es id p.1 r) h
  made_has (event.Link kind index a x ∷ es) id p h = made_has es id p.1 h

  when_some : (b : Bool) (x : Node) → IsTrue (is_some (when b x)) → IsTrue b
  when_some true x h = h
  when_some false x h = h

  -- ---- ends

  -- a legal path leads to what is named alone
  pub legal_named : (f : HirFunction) (l : Listing) (index : ℕ) (start e : Entry) → FunctionMakes f → listed f ≡ Ok l
      → Legal (graph_listed l) index start e → Q e.id.0
  legal_named f l index start e fit is legal =
      let p : Makes l = makes_blocks f fit.effects 0 f.body.blocks (first_listing f) l fit.phis (first_makes f fit)
      is in
      let there = legal_exists (graph_listed l) index start e legal in
      let S : Option Node → Type 0 = λ z. IsTrue (is_some z) in
      let made : IsTrue (was_made e.id (events_of l.events)) =
      when_some (was_made e.id (events_of l.events)) (remaining_node (events_of l.events) e.id)
      (subst S (graph_is_remaining (events_of l.events) e.id) there) in
      made_has l.events e.id p.events made

  -- an end that changed has a cause, and so the identifier is named
  pub ends_named : (f : HirFunction) (l : Listing) (old new : List Identifier) → FunctionMakes f → listed f ≡ Ok l
      → Causes (graph_listed l) l.mutations f.instructions old new → (k : ℕ) → (end_at new k ≡ end_at old k) ⊎ Q k
  ends_named f l old new fit is causes k =
      ⊎_elim (λ same. inl same)
      (λ cause. inr (⊎_elim (λ m. subst Q m.3 (legal_named f l m.0.index (mutation_entry m.0) m.2 fit is m.4))
      (λ i. fit.written i.0 i.1 k i.2) cause))
      (causes k)
