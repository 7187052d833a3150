-- What a function that fits records fits.
use Rattle.std.proofs.Common.{◌≡◌, ℕ, ◌+◌, ◌<◌, Bool, true, false, ◌||◌, if◌then◌else◌, IsTrue, List, [], ◌∷◌, ◌++◌}
use Rattle.std.proofs.Common.{Option, Some, None, is_some, nat_lt, length, replicate, slice_get, slice_set, refl, subst}
use Rattle.std.proofs.Common.{arith, zero, suc}
use Rattle.std.specs.Prelude.{Result, Ok, Err}
use Rattle.std.specs.Option.{option_map_or}
use Rattle.alias_base.specs.Answer.{◌>>=◌}
use Rattle.alias_base.specs.declared.ids.BlockId.{BlockId}
use Rattle.alias_base.specs.declared.ids.IdentifierId.{IdentifierId}
use Rattle.alias_base.specs.declared.ids.InstructionId.{InstructionId}
use Rattle.alias_base.specs.declared.ids.EvaluationOrder.{EvaluationOrder}
use Rattle.alias_hir.specs.declared.effect.AliasingEffect.{AliasingEffect}
use Rattle.alias_hir.specs.declared.effect.AliasingEffect.TheVariants as effect
use Rattle.alias_hir.specs.declared.effect.MutationReason.{MutationReason}
use Rattle.alias_hir.specs.declared.error.Counter.TheVariants.{GraphPositions}
use Rattle.alias_hir.specs.declared.error.HirError.{HirError}
use Rattle.alias_hir.specs.declared.error.HirError.TheVariants.{TooMany}
use Rattle.alias_hir.specs.declared.hir.BasicBlock.{BasicBlock}
use Rattle.alias_hir.specs.declared.hir.HirFunction.{HirFunction}
use Rattle.alias_hir.specs.declared.hir.Instruction.{Instruction}
use Rattle.alias_hir.specs.declared.hir.Phi.{Phi}
use Rattle.alias_hir.specs.declared.place.Place.{Place}
use Rattle.alias_hir.specs.declared.terminal.Terminal.{Terminal}
use Rattle.alias_hir.specs.declared.terminal.Terminal.TheVariants as terminal
use Rattle.alias_hir.specs.Terminals.{terminal_effects}
use Rattle.alias_graph.specs.declared.types.EdgeKind.{EdgeKind}
use Rattle.alias_graph.specs.declared.types.EdgeKind.TheVariants.{Capture, Alias, MaybeAlias}
use Rattle.alias_graph.specs.declared.types.MutationKind.{MutationKind}
use Rattle.alias_graph.specs.declared.types.MutationKind.TheVariants.{Conditional, Definite}
use Rattle.alias_graph.specs.declared.types.NodeValue.TheVariants.{Object, Phi as PhiNode, Function}
use Rattle.alias_graph.specs.declared.events.GraphEvent.{GraphEvent}
use Rattle.alias_graph.specs.declared.events.GraphEvent.TheVariants as event
use Rattle.alias_graph.specs.Events.{events_of}
use Rattle.alias_graph.specs.Graph.{graph_of}
use Rattle.alias_graph.specs.Nodes.{Node, same_id, Within}
use Rattle.alias_graph.specs.RemainingLinks.{was_made, when, remaining_node}
use Rattle.alias_graph.proofs.Covering.{eqb_is}
use Rattle.alias_graph.proofs.RemainingNodes.{graph_is_remaining}
use Rattle.alias_graph.specs.declared.recorded.listing.Listing.{Listing}
use Rattle.alias_graph.specs.declared.recorded.listing.RecordedMutation.{RecordedMutation}
use Rattle.alias_graph.specs.recorded.Each.{each}
use Rattle.alias_graph.specs.recorded.Fitting.{AllOf, OrderHasNext, OrderFits, EffectFits, EffectsFit, InstructionFits}
use Rattle.alias_graph.specs.recorded.Fitting.{PhiFits, BlockFits, EventFits, StandsBefore, FunctionFits, ListingFits}
use Rattle.alias_graph.specs.recorded.IdSets.{has_made}
use Rattle.alias_graph.specs.recorded.Listings.{position_after, with_event, made, made_once, positioned, linked}
use Rattle.alias_graph.specs.recorded.Listings.{created_from, mutated, summarized, rendered, effect_listed, effects_in}
use Rattle.alias_graph.specs.recorded.Listings.{recorded_in, instruction_listed}
use Rattle.alias_graph.specs.recorded.BlockListings.{pending_at, pending_more, added_or_pending, link_of, slot_of_block}
use Rattle.alias_graph.specs.recorded.BlockListings.{operand_listed, phi_listed, returns_listed, alias_listed}
use Rattle.alias_graph.specs.recorded.BlockListings.{aliases_in, with_pending, end_listed, block_listed, blocks_listed}
use Rattle.alias_graph.specs.recorded.BlockListings.{first_listing, listed}

module _ {A : Type 0} (P : A → Type 0) where
  pub all_append : (xs ys : List A) → AllOf P xs → AllOf P ys → AllOf P (xs ++ ys)
  all_append [] ys p q = q
  all_append (x ∷ xs) ys p q = (p.0, all_append xs ys p.1 q)

  pub all_push : (xs : List A) (x : A) → AllOf P xs → P x → AllOf P (xs ++ x ∷ [])
  all_push xs x p q = all_append xs (x ∷ []) p (q, tt)

  pub all_at : (xs : List A) (k : ℕ) (x : A) → AllOf P xs → slice_get xs k ≡ Some x → P x
  all_at [] k x p h = cc
  all_at (y ∷ xs) zero x p h = let e : y ≡ x = cc in subst P e p.0
  all_at (y ∷ xs) (suc k) x p h = all_at xs k x p.1 h

  pub all_set : (xs : List A) (k : ℕ) (x : A) → AllOf P xs → P x → AllOf P (slice_set xs k x)
  all_set [] k x p q = p
  all_set (y ∷ xs) zero x p q = (q, p.1)
  all_set (y ∷ xs) (suc k) x p q = (p.0, all_set xs k x p.1 q)

-- a step that answers Ok, and what it went on with
pub went_on : {A B E : Type 0} (r : Result A E) (k : A → Result B E) (m : B) → (r >>= k) ≡ Ok m → (x : A) × (r ≡ Ok x)
    × (k x ≡ Ok m)
went_on (Ok x) k m h = (x, refl, h)
went_on (Err e) k m h = cc

-- what each step keeps all of them keep
pub each_keeps : {A S E : Type 0} (P : S → Type 0) (Q : A → Type 0) (f : A → S → Result S E)
    → ((x : A) (s t : S) → Q x → P s → f x s ≡ Ok t → P t) → (xs : List A) (s t : S) → AllOf Q xs → P s → each f xs s
    ≡ Ok t → P t
each_keeps P Q f step [] s t q p h = let e : s ≡ t = cc in subst P e p
each_keeps P Q f step (x ∷ xs) s t q p h =
    let w = went_on (f x s) (λ z. each f xs z) t h in
    each_keeps P Q f step xs w.0 t q.1 (step x s w.0 q.0 p w.1) w.2

orders_push : (ms : List RecordedMutation) (m : RecordedMutation) → AllOf OrderFits ms → OrderHasNext m.order
    → AllOf OrderFits (ms ++ m ∷ [])
orders_push [] m p h = (h, tt)
orders_push (x ∷ ms) m p h = (p.0, orders_push ms m p.1 h)

taken : (b : Bool) (k j : ℕ) → (let r : Result ℕ HirError = if b then Ok (k + 1) else Err (TooMany GraphPositions) in r
    ≡ Ok j) → j ≡ k + 1
taken true k j h = cc
taken false k j h = cc

-- the position that is taken next
pub next_is : (k j : ℕ) → position_after k ≡ Ok j → j ≡ k + 1
next_is k j h = taken (nat_lt k 4294967295) k j h

before_up : (k j : ℕ) → j ≡ k + 1 → (ms : List RecordedMutation) → AllOf (StandsBefore k) ms → AllOf (StandsBefore j) ms
before_up k j is [] p = tt
before_up k j is (m ∷ ms) p = (omega (arith, p.0), before_up k j is ms p.1)

module _ (n : ℕ) where
  abbrev Fits : Listing → Type 0
  Fits l = ListingFits n l

  abbrev okay : Listing → Result Listing HirError
  okay l = Ok l

  same : (l m : Listing) → Fits l → okay l ≡ okay m → Fits m
  same l m p h = let e : l ≡ m = cc in subst Fits e p

  fits_event : (e : GraphEvent) (l : Listing) → EventFits n e → Fits l → Fits (with_event e l)
  fits_event e l q p = record {
    events = all_push (EventFits n) l.events e p.events q;
    pending = p.pending;
    orders = p.orders;
    before = p.before;
  }

  fits_positioned : (e : ℕ → GraphEvent) → ((i : ℕ) → EventFits n (e i)) → (l m : Listing) → Fits l → positioned e l
      ≡ Ok m → Fits m
  fits_positioned e q l m p h =
      let w = went_on (position_after l.next)
      (λ after. Ok (record l { next = after; events = l.events ++ e l.next ∷ [] })) m h in
      same (record l { next = w.0; events = l.events ++ e l.next ∷ [] }) m
      (record {
        events = all_push (EventFits n) l.events (e l.next) p.events (q l.next);
        pending = p.pending;
        orders = p.orders;
        before = before_up l.next w.0 (next_is l.next w.0 w.1) l.mutations p.before;
      }) w.2

  fits_linked : (kind : EdgeKind) (a x : Place) (l m : Listing) → Fits l → linked kind a x l ≡ Ok m → Fits m
  fits_linked kind a x l m p h = fits_positioned (λ i. event.Link kind i a.identifier x.identifier) (λ i. tt) l m p h

  fits_created : (a x : Place) (l m : Listing) → x.identifier.0 < n → Fits l → created_from a x l ≡ Ok m → Fits m
  fits_created a x l m q p h = fits_positioned (λ i. event.CreateFrom i a.identifier x.identifier) (λ i. q) l m p h

  fits_mutated : (i : InstructionId) (o : EvaluationOrder) (x : Place) (t : Bool) (k : MutationKind)
      (r : Option MutationReason) (l m : Listing) → OrderHasNext o → Fits l → mutated i o x t k r l ≡ Ok m → Fits m
  fits_mutated i o x t k r l m q p h =
      let more : ℕ → Listing = λ after. record l {
        next = after;
        mutations = l.mutations
            ++ record { index = l.next; instruction = i; order = o; place = x; transitive = t; kind = k; reason = r }
            ∷ [];
      } in
      let w = went_on (position_after l.next) (λ after. Ok (more after)) m h in
      same (more w.0) m (record {
        events = p.events;
        pending = p.pending;
        orders = orders_push l.mutations (record
            { index = l.next; instruction = i; order = o; place = x; transitive = t; kind = k; reason = r }) p.orders q;
        before = all_push (StandsBefore w.0) l.mutations
            (record { index = l.next; instruction = i; order = o; place = x; transitive = t; kind = k; reason = r })
            (before_up l.next w.0 (next_is l.next w.0 w.1) l.mutations p.before)
            (let is : w.0 ≡ l.next + 1 = next_is l.next w.0 w.1 in omega arith);
      }) w.2

  fits_rendered : (i : InstructionId) (x : Place) (l m : Listing) → Fits l → rendered i x l ≡ Ok m → Fits m
  fits_rendered i x l m p h =
      let more : ℕ → Listing = λ after. record l {
        next = after;
        renders = l.renders ++ record { index = l.next; instruction = i; place = x } ∷ [];
        summary = l.summary ++ effect.Render x ∷ [];
      } in
      let w = went_on (position_after l.next) (λ after. Ok (more after)) m h in
      same (more w.0) m (record {
        events = p.events;
        pending = p.pending;
        orders = p.orders;
        before = before_up l.next w.0 (next_is l.next w.0 w.1) l.mutations p.before;
      }) w.2

  fits_summarized : (e : AliasingEffect) (l : Listing) → Fits l → Fits (summarized e l)
  fits_summarized e l p = record { events = p.events; pending = p.pending; orders = p.orders; before = p.before }

  fits_once : (b : Bool) (x : Place) (l : Listing) → x.identifier.0 < n → Fits l
      → Fits (if b then l else made Object x l)
  fits_once true x l q p = p
  fits_once false x l q p = fits_event (event.Make x.identifier Object) l q p

  fits_effect : (i : InstructionId) (o : EvaluationOrder) → OrderHasNext o → (e : AliasingEffect) (l m : Listing)
      → EffectFits n e → Fits l → effect_listed i o e l ≡ Ok m → Fits m
  fits_effect i o lt (effect.Apply receiver function mutates args into signature span) l m q p h = same l m p h
  fits_effect i o lt (effect.CreateFrom a x) l m q p h = fits_created a x l m q p h
  fits_effect i o lt (effect.ImmutableCapture a x) l m q p h = same l m p h
  fits_effect i o lt (effect.Assign a x) l m q p h =
      fits_linked Alias a x (made_once x l) m (fits_once (has_made l.events x.identifier) x l q p) h
  fits_effect i o lt (effect.Alias a x) l m q p h = fits_linked Alias a x l m p h
  fits_effect i o lt (effect.Capture a x) l m q p h = fits_linked Capture a x l m p h
  fits_effect i o lt (effect.MaybeAlias a x) l m q p h = fits_linked MaybeAlias a x l m p h
  fits_effect i o lt (effect.Create x value reason) l m q p h =
      same (made Object x l) m (fits_event (event.Make x.identifier Object) l q p) h
  fits_effect i o lt (effect.Freeze x reason) l m q p h = same l m p h
  fits_effect i o lt (effect.Impure x error) l m q p h =
      same (summarized (effect.Impure x error) l) m (fits_summarized (effect.Impure x error) l p) h
  fits_effect i o lt (effect.MutateFrozen x error) l m q p h =
      same (summarized (effect.MutateFrozen x error) l) m (fits_summarized (effect.MutateFrozen x error) l p) h
  fits_effect i o lt (effect.MutateGlobal x error) l m q p h =
      same (summarized (effect.MutateGlobal x error) l) m (fits_summarized (effect.MutateGlobal x error) l p) h
  fits_effect i o lt (effect.Render x) l m q p h = fits_rendered i x l m p h
  fits_effect i o lt (effect.Mutate x reason) l m q p h = fits_mutated i o x false Definite reason l m lt p h
  fits_effect i o lt (effect.MutateConditionally x) l m q p h = fits_mutated i o x false Conditional None l m lt p h
  fits_effect i o lt (effect.MutateTransitive x) l m q p h = fits_mutated i o x true Definite None l m lt p h
  fits_effect i o lt (effect.MutateTransitiveConditionally x) l m q p h =
      fits_mutated i o x true Conditional None l m lt p h
  fits_effect i o lt (effect.CreateFunction x f captures) l m q p h =
      same (made (Function f) x l) m (fits_event (event.Make x.identifier (Function f)) l q p) h

  fits_effects : (i : InstructionId) (o : EvaluationOrder) → OrderHasNext o
      → (es : Option (List AliasingEffect)) (l m : Listing) → EffectsFit n es → Fits l → effects_in i o es l ≡ Ok m
      → Fits m
  fits_effects i o lt None l m q p h = same l m p h
  fits_effects i o lt (Some es) l m q p h =
      each_keeps Fits (EffectFits n) (effect_listed i o) (fits_effect i o lt) es l m q p h

  fits_recorded : (is : List Instruction) (k : InstructionId) (o : Option Instruction) (l m : Listing)
      → AllOf (InstructionFits n) is → slice_get is k.0 ≡ o → Fits l → recorded_in k o l ≡ Ok m → Fits m
  fits_recorded is k None l m q e p h = same l m p h
  fits_recorded is k (Some i) l m q e p h =
      let fit = all_at (InstructionFits n) is k.0 i q e in
      fits_effects k i.id fit.0 i.effects l m fit.1 p h

  fits_instruction : (is : List Instruction) → AllOf (InstructionFits n) is → (k : InstructionId) (l m : Listing)
      → Unit {0} → Fits l → instruction_listed is k l ≡ Ok m → Fits m
  fits_instruction is q k l m u p h = fits_recorded is k (slice_get is k.0) l m q refl p h

  all_unit : {A : Type 0} (xs : List A) → AllOf (λ _. Unit {0}) xs
  all_unit [] = tt
  all_unit (x ∷ xs) = (tt, all_unit xs)

  pending_fits : (pending : List (List GraphEvent)) (p : ℕ) (e : GraphEvent) (o : Option (List GraphEvent))
      → AllOf (AllOf (EventFits n)) pending → EventFits n e → slice_get pending p ≡ o
      → AllOf (AllOf (EventFits n)) (option_map_or (λ es. slice_set pending p (es ++ e ∷ [])) o pending)
  pending_fits pending p e None q fit is = q
  pending_fits pending p e (Some es) q fit is =
      all_set (AllOf (EventFits n)) pending p (es ++ e ∷ []) q
      (all_push (EventFits n) es e (all_at (AllOf (EventFits n)) pending p es q is) fit)

  fits_added : (b : Bool) (k : ℕ) (e : GraphEvent) (l : Listing) → EventFits n e → Fits l
      → Fits (if b then with_event e l else record l { pending = pending_more l.pending k e })
  fits_added true k e l q p = fits_event e l q p
  fits_added false k e l q p = record {
    events = p.events;
    pending = pending_fits l.pending k e (slice_get l.pending k) p.pending q refl;
    orders = p.orders;
    before = p.before;
  }

  fits_added_or_pending : (k : ℕ) (o : Option ℕ) (e : GraphEvent) (l : Listing) → EventFits n e → Fits l
      → Fits (added_or_pending k o e l)
  fits_added_or_pending k None e l q p = p
  fits_added_or_pending k (Some j) e l q p = fits_added (nat_lt j k) j e l q p

  fits_operand : (blocks : List (BlockId × BasicBlock)) (k : ℕ) (x : Place) (e : BlockId × Place) (l m : Listing)
      → Unit {0} → Fits l → operand_listed blocks k x e l ≡ Ok m → Fits m
  fits_operand blocks k x e l m u p h =
      let more : ℕ → Listing = λ after. added_or_pending k (slot_of_block blocks e.0) (link_of l.next e.1 x)
      (record l { next = after }) in
      let w = went_on (position_after l.next) (λ after. Ok (more after)) m h in
      same (more w.0) m (fits_added_or_pending k (slot_of_block blocks e.0) (link_of l.next e.1 x)
      (record l { next = w.0 }) tt (record {
        events = p.events;
        pending = p.pending;
        orders = p.orders;
        before = before_up l.next w.0 (next_is l.next w.0 w.1) l.mutations p.before;
      })) w.2

  fits_phi : (blocks : List (BlockId × BasicBlock)) (k : ℕ) (phi : Phi) (l m : Listing) → PhiFits n phi → Fits l
      → phi_listed blocks k phi l ≡ Ok m → Fits m
  fits_phi blocks k phi l m q p h =
      each_keeps Fits (λ _. Unit {0}) (operand_listed blocks k phi.place) (fits_operand blocks k phi.place) phi.operands
      (made PhiNode phi.place l) m (all_unit phi.operands)
      (fits_event (event.Make phi.place.identifier PhiNode) l q p) h

  fits_returns : (returns : Place) (t : Terminal) (l m : Listing) → Fits l → returns_listed returns t l ≡ Ok m → Fits m
  fits_returns returns (terminal.Return id value effects) l m p h = fits_linked Alias value returns l m p h
  fits_returns returns t l m p h = same l m p h

  fits_alias : (e : AliasingEffect) (l m : Listing) → Unit {0} → Fits l → alias_listed e l ≡ Ok m → Fits m
  fits_alias (effect.Alias a x) l m u p h = fits_linked Alias a x l m p h
  fits_alias e l m u p h = same l m p h

  fits_aliases : (es : Option (List AliasingEffect)) (l m : Listing) → Fits l → aliases_in es l ≡ Ok m → Fits m
  fits_aliases None l m p h = same l m p h
  fits_aliases (Some es) l m p h = each_keeps Fits (λ _. Unit {0}) alias_listed fits_alias es l m (all_unit es) p h

  pending_at_fits : (pending : List (List GraphEvent)) (k : ℕ) (o : Option (List GraphEvent))
      → AllOf (AllOf (EventFits n)) pending → slice_get pending k ≡ o
      → AllOf (EventFits n) (option_map_or (λ es. es) o [])
  pending_at_fits pending k None q is = tt
  pending_at_fits pending k (Some es) q is = all_at (AllOf (EventFits n)) pending k es q is

  fits_end : (returns : Place) (k : ℕ) (t : Terminal) (l m : Listing) → Fits l → end_listed returns k t l ≡ Ok m
      → Fits m
  fits_end returns k t l m p h =
      let added : Fits (with_pending k l) = record {
        events = all_append (EventFits n) l.events (pending_at l.pending k) p.events
            (pending_at_fits l.pending k (slice_get l.pending k) p.pending refl);
        pending = p.pending;
        orders = p.orders;
        before = p.before;
      } in
      let w = went_on (returns_listed returns t (with_pending k l)) (λ r. aliases_in (terminal_effects t) r) m h in
      fits_aliases (terminal_effects t) w.0 m (fits_returns returns t (with_pending k l) w.0 added w.1) w.2

  fits_block : (f : HirFunction) → AllOf (InstructionFits n) f.instructions → (k : ℕ) (b : BasicBlock) (l m : Listing)
      → AllOf (PhiFits n) b.phis → Fits l → block_listed f k b l ≡ Ok m → Fits m
  fits_block f q k b l m phis p h =
      let v = went_on (each (phi_listed f.body.blocks k) b.phis l)
      (λ z. each (instruction_listed f.instructions) b.instructions z
      >>= (λ y. end_listed f.returns k b.terminal y)) m h in
      let w = went_on (each (instruction_listed f.instructions) b.instructions v.0)
      (λ y. end_listed f.returns k b.terminal y) m v.2 in
      let first : Fits v.0 = each_keeps Fits (PhiFits n) (phi_listed f.body.blocks k) (fits_phi f.body.blocks k) b.phis
      l v.0 phis p v.1 in
      let second : Fits w.0 = each_keeps Fits (λ _. Unit {0}) (instruction_listed f.instructions)
      (fits_instruction f.instructions q) b.instructions v.0 w.0 (all_unit b.instructions) first w.1 in
      fits_end f.returns k b.terminal w.0 m second w.2

  fits_blocks : (f : HirFunction) → AllOf (InstructionFits n) f.instructions
      → (k : ℕ) (bs : List (BlockId × BasicBlock)) (l m : Listing) → AllOf (BlockFits n) bs → Fits l
      → blocks_listed f k bs l ≡ Ok m → Fits m
  fits_blocks f q k [] l m b p h = same l m p h
  fits_blocks f q k (b ∷ bs) l m fit p h =
      let w = went_on (block_listed f k b.1 l) (λ z. blocks_listed f (k + 1) bs z) m h in
      fits_blocks f q (k + 1) bs w.0 m fit.1 (fits_block f q k b.1 l w.0 fit.0 p w.1) w.2

  nothing_fits : (k : ℕ) → AllOf (AllOf (EventFits n)) (replicate k [])
  nothing_fits zero = tt
  nothing_fits (suc k) = (tt, nothing_fits k)

  pub listed_fits : (f : HirFunction) (l : Listing) → FunctionFits n f → listed f ≡ Ok l → ListingFits n l
  listed_fits f l fit h =
      fits_blocks f fit.instructions 0 f.body.blocks (first_listing f) l fit.blocks
      (record {
        events = fit.first_events;
        pending = nothing_fits (length f.body.blocks);
        orders = tt;
        before = tt;
      }) h

  -- ---- and so all nodes are below n

  made_at : (b : Bool) (i : ℕ) (r : Bool) → (b ≡ true → i < n) → (IsTrue r → i < n) → IsTrue (b || r) → i < n
  made_at true i r p q h = p refl
  made_at false i r p q h = q h

  pub made_below : (es : List GraphEvent) (id : IdentifierId) → AllOf (EventFits n) es → IsTrue (has_made es id) → id.0
      < n
  made_below [] id p h = cc
  made_below (event.Make at value ∷ es) id p h =
      made_at (same_id id at) id.0 (has_made es id)
      (λ e. let is : id.0 ≡ at.0 = eqb_is id.0 at.0 e in omega (arith, p.0)) (λ r. made_below es id p.1 r) h
  made_below (event.CreateFrom index a x ∷ es) id p h =
      made_at (same_id id x) id.0 (has_made es id) (λ e. let is : id.0 ≡ x.0 = eqb_is id.0 x.0 e in omega (arith, p.0))
      (λ r. made_below es id p.1 r) h
  made_below (event.Link kind index a x ∷ es) id p h = made_below es id p.1 h

  when_some : (b : Bool) (x : Node) → IsTrue (is_some (when b x)) → IsTrue b
  when_some true x h = h
  when_some false x h = h

  pub graph_within : (es : List GraphEvent) → AllOf (EventFits n) es → Within n (graph_of (events_of es))
  graph_within es p id h =
      let P : Option Node → Type 0 = λ z. IsTrue (is_some z) in
      made_below es id p (when_some (was_made id (events_of es)) (remaining_node (events_of es) id)
      (subst P (graph_is_remaining (events_of es) id) h))
