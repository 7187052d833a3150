-- An effect that is listed and done on the heap alike keeps what is known of the heap.
use Rattle.std.proofs.Common.{◌≡◌, ℕ, ◌+◌, Bool, true, false, not, ◌||◌, ◌≤◌, List, [], ◌∷◌, ◌++◌, Option, None}
use Rattle.std.proofs.Common.{is_some, if◌then◌else◌, refl, ap, sym, ◌∙◌, subst, arith}
use Rattle.std.specs.Prelude.{Result, Ok}
use Rattle.alias_base.specs.declared.ids.EvaluationOrder.{EvaluationOrder}
use Rattle.alias_base.specs.declared.ids.IdentifierId.{IdentifierId}
use Rattle.alias_base.specs.declared.ids.InstructionId.{InstructionId}
use Rattle.alias_hir.specs.declared.effect.AliasingEffect.{AliasingEffect}
use Rattle.alias_hir.specs.declared.effect.AliasingEffect.TheVariants as effect
use Rattle.alias_hir.specs.declared.effect.MutationReason.{MutationReason}
use Rattle.alias_hir.specs.declared.error.HirError.{HirError}
use Rattle.alias_hir.specs.declared.place.Place.{Place}
use Rattle.alias_graph.specs.declared.events.GraphEvent.TheVariants as event
use Rattle.alias_graph.specs.declared.types.EdgeKind.{EdgeKind}
use Rattle.alias_graph.specs.declared.types.EdgeKind.TheVariants.{Capture, Alias}
use Rattle.alias_graph.specs.declared.types.MutationKind.{MutationKind}
use Rattle.alias_graph.specs.declared.types.MutationKind.TheVariants.{Conditional, Definite}
use Rattle.alias_graph.specs.declared.types.NodeValue.{NodeValue}
use Rattle.alias_graph.specs.declared.types.NodeValue.TheVariants.{Object, Function}
use Rattle.alias_graph.specs.Nodes.{has_node, same_id}
use Rattle.alias_graph.proofs.Covering.{eqb_itself}
use Rattle.alias_graph.specs.declared.recorded.listing.Listing.{Listing}
use Rattle.alias_graph.specs.declared.recorded.listing.RecordedMutation.{RecordedMutation}
use Rattle.alias_graph.specs.recorded.Fitting.{effect_makes}
use Rattle.alias_graph.specs.recorded.IdSets.{has_made}
use Rattle.alias_graph.specs.recorded.Listings.{made, made_once, linked, mutated, rendered, effect_listed}
use Rattle.alias_graph.specs.recorded.Recording.{graph_listed}
use Rattle.alias_graph.proofs.RemainingNodes.{graph_is_remaining}
use Rattle.alias_graph.specs.Events.{events_of}
use Rattle.alias_graph.specs.Nodes.{Node}
use Rattle.alias_graph.specs.RemainingLinks.{was_made, when, remaining_node}
use Rattle.alias_ranges.specs.heap.Heap.{History, New, NewFrom, Copies, StoresInto}
use Rattle.alias_ranges.specs.heap.Making.{is_among, with_made, may_make, may_widen, effect_widens}
use Rattle.alias_ranges.specs.heap.Histories.{widened, after_effect}
use Rattle.alias_ranges.proofs.heap.Linking.{LinkKind, CreatedLink, CaptureLink, AliasLink, MaybeLink, edge_kind, Joins}
use Rattle.alias_ranges.proofs.heap.Linking.{IsAlias, grows_has}
use Rattle.alias_ranges.proofs.heap.Growing.{IsPlain}
use Rattle.alias_ranges.proofs.heap.Reaching.{Sound, sound_grows}
use Rattle.alias_ranges.proofs.heap.Changes.{sound_new, sound_new_from, sound_copies, sound_adds, sound_stores}
use Rattle.alias_ranges.proofs.heap.Steps.{Keeping, Step, with_more, step_on, step_make, step_out, step_join}
use Rattle.alias_ranges.proofs.heap.Steps.{step_quiet, out_now, join_now, HasMore, more_same, next_listing, okay_is}

-- a step of the listing, after which as much is known of the second history as of the first before it
pub record Moves (done : List IdentifierId) (l m : Listing) (h j : History) : Type 0 where
  pub step : Step done l m
  pub sound : Sound (graph_listed l) l.next h → Sound (graph_listed m) m.next j

-- a step that is none on the heap
pub stays : (done : List IdentifierId) (l m : Listing) (h : History) → Step done l m → Moves done l m h h
stays done l m h s = record {
  step = s;
  sound =
      λ w. sound_grows (graph_listed l) (graph_listed m) l.next m.next h s.grows s.later w;
}

pub known : (done : List IdentifierId) (l m : Listing) (h : History) → Step done l m → Sound (graph_listed l) l.next h
    → Sound (graph_listed m) m.next h
known done l m h s w = sound_grows (graph_listed l) (graph_listed m) l.next m.next h s.grows s.later w

pub not_true : (b : Bool) → not b ≡ true → b ≡ false
not_true true h = cc
not_true false h = refl

itself : (x : IdentifierId) (b : Bool) → (same_id x x || b) ≡ true
itself x b = ap (λ c. c || b) (eqb_itself x.0)

-- a new node has a node
pub here_now : (done : List IdentifierId) (l : Listing) (x : IdentifierId) → Keeping (x ∷ done) l
    → has_node (graph_listed l) x ≡ true
here_now done l x k = k.agree x ∙ itself x (is_among done x)

is_when : (b : Bool) (n : Node) → is_some (when b n) ≡ b
is_when true n = refl
is_when false n = refl

-- an event made the place exactly where it has a node
made_has : (l : Listing) (x : IdentifierId) → has_made l.events x ≡ has_node (graph_listed l) x
made_has l x = sym (is_when (was_made x (events_of l.events)) (remaining_node (events_of l.events) x))
    ∙ ap is_some (sym (graph_is_remaining (events_of l.events) x))

once_new : (done : List IdentifierId) (l : Listing) (x : Place) → Keeping done l → is_among done x.identifier ≡ false
    → made_once x l ≡ made Object x l
once_new done l x k new = ap (λ b. if b then l else made Object x l)
    (made_has l x.identifier ∙ k.agree x.identifier ∙ new)

-- ---- the steps of effects

-- a link of this kind at the next position
abbrev pub link_more : Listing → LinkKind → IdentifierId → IdentifierId → Listing
link_more l kind a x = with_more (l.next + 1) (event.Link (edge_kind kind) l.next a x) l

module _ (done : List IdentifierId) (l : Listing) (h : History) (k : Keeping done l) where
  pub make_moves : (x : Place) (value : NodeValue) → is_among done x.identifier ≡ false
      → Moves (x.identifier ∷ done) l (made value x l) h (New x.identifier ∷ h)
  make_moves x value new =
      let s = step_make done l k x.identifier value new in
      record {
        step = s;
        sound = λ w. sound_new (graph_listed (made value x l)) l.next h
            (known (x.identifier ∷ done) l (made value x l) h s w) x.identifier
            (here_now done (made value x l) x.identifier s.keeping);
      }

  out_moves : (a x : IdentifierId) → is_among done x ≡ false
      → Moves (x ∷ done) l (with_more (l.next + 1) (event.CreateFrom l.next a x) l) h (NewFrom a x ∷ h)
  out_moves a x new =
      let m = with_more (l.next + 1) (event.CreateFrom l.next a x) l in
      let s = step_out done l k a x new in
      record {
        step = s;
        sound = λ w. sound_new_from (graph_listed m) (l.next + 1) h (known (x ∷ done) l m h s w) a x
            (here_now done m x s.keeping) (λ ma. (CreatedLink, tt, out_now done l k a x ma));
      }

  pub link_step : (kind : LinkKind) → IsPlain kind → (a x : IdentifierId) → Step done l (link_more l kind a x)
  link_step kind plain a x = step_join done l k kind plain l.next (l.next + 1) a x (omega arith) (omega arith)

  -- it stands in both lists, where both ends have nodes
  pub link_now : (kind : LinkKind) → IsPlain kind → (a x : IdentifierId)
      → has_node (graph_listed (link_more l kind a x)) a ≡ true → has_node (graph_listed (link_more l kind a x)) x
      ≡ true → Joins (graph_listed (link_more l kind a x)) (l.next + 1) kind a x
  link_now kind plain a x ma mx = join_now done l k kind plain l.next (l.next + 1) a x (omega arith) (omega arith) ma mx

  capture_moves : (a x : IdentifierId) → Moves done l (link_more l CaptureLink a x) h (StoresInto a x ∷ h)
  capture_moves a x =
      let m = link_more l CaptureLink a x in
      let s = link_step CaptureLink tt a x in
      record {
        step = s;
        sound = λ w. sound_stores (graph_listed m) (l.next + 1) h (known done l m h s w) a x
            (λ ma mx. link_now CaptureLink tt a x ma mx);
      }

  -- x has a node, where it can hold anything
  widen_moves : (kind : LinkKind) → IsPlain kind → IsAlias kind → (a x : IdentifierId) (can_hold : Bool)
      → (can_hold ≡ true → has_node (graph_listed l) x ≡ true)
      → Moves done l (link_more l kind a x) h (widened can_hold a x h)
  widen_moves kind plain al a x true there =
      let m = link_more l kind a x in
      let s = link_step kind plain a x in
      let mx : has_node (graph_listed m) x ≡ true =
      grows_has (graph_listed l) (graph_listed m) s.grows x (there refl) in
      record {
        step = s;
        sound = λ w. sound_adds (graph_listed m) (l.next + 1) h (known done l m h s w) a x
            (λ ma. (kind, al, link_now kind plain a x ma mx));
      }
  widen_moves kind plain al a x false there = stays done l (link_more l kind a x) h (link_step kind plain a x)

  quiet_moves : (m : Listing) → m.events ≡ l.events → m.pending ≡ l.pending → l.next ≤ m.next
      → HasMore l.mutations m.mutations → Moves done l m h h
  quiet_moves m es ps le ms = stays done l m h (step_quiet done l k m es ps le ms)

assign_moves : (done : List IdentifierId) (l : Listing) (h : History) (k : Keeping done l) (a x : Place)
    → is_among done x.identifier ≡ false → Moves (x.identifier ∷ done) l
    (link_more (made Object x l) AliasLink a.identifier x.identifier) h (Copies a.identifier x.identifier ∷ h)
assign_moves done l h k a x new =
    let n = made Object x l in
    let m = link_more n AliasLink a.identifier x.identifier in
    let made_now = step_make done l k x.identifier Object new in
    let s = link_step (x.identifier ∷ done) n h made_now.keeping AliasLink tt a.identifier x.identifier in
    let both = step_on (x.identifier ∷ done) (x.identifier ∷ done) l n m made_now s in
    record {
      step = both;
      sound = λ w. sound_copies (graph_listed m) (n.next + 1) h (known (x.identifier ∷ done) l m h both w) a.identifier
          x.identifier
          (λ ma. (
            AliasLink,
            tt,
            link_now (x.identifier ∷ done) n h made_now.keeping AliasLink tt a.identifier
                x.identifier ma (here_now done m x.identifier s.keeping),
          ));
    }

-- ---- all effects

settled_made : (among among_all : Bool) → (among || not among_all) ≡ true → among_all ≡ true → among ≡ true
settled_made true b h c = refl
settled_made false true h c = h
settled_made false false h c = cc

abbrev pub recorded_mutation : InstructionId → EvaluationOrder → Place → Bool → MutationKind → Option MutationReason
    → Listing → RecordedMutation
recorded_mutation i order x transitive kind reason l =
    record {
      index = l.next;
      instruction = i;
      order = order;
      place = x;
      transitive = transitive;
      kind = kind;
      reason = reason;
    }

-- a mutation is recorded at the next position
pub mutated_is : (i : InstructionId) (order : EvaluationOrder) (x : Place) (transitive : Bool) (kind : MutationKind)
    (reason : Option MutationReason) (l m : Listing) → mutated i order x transitive kind reason l ≡ Ok m
    → record l {
      next = l.next + 1;
      mutations = l.mutations ++ recorded_mutation i order x transitive kind reason l
          ∷ [];
    } ≡ m
mutated_is i order x transitive kind reason l m e =
    next_listing l m (λ after. record l {
      next = after;
      mutations = l.mutations ++ recorded_mutation i order x transitive kind reason l ∷ [];
    }) e

linked_is : (kind : EdgeKind) (a x : Place) (l m : Listing) → linked kind a x l ≡ Ok m
    → with_more (l.next + 1) (event.Link kind l.next a.identifier x.identifier) l ≡ m
linked_is kind a x l m e = next_listing l m
    (λ after. with_more after (event.Link kind l.next a.identifier x.identifier) l) e

module _ (all done : List IdentifierId) (l m : Listing) (h : History) (k : Keeping done l) where
  pub alias_moves : (kind : LinkKind) → IsPlain kind → IsAlias kind → (a x : Place)
      → (is_among done x.identifier || not (is_among all x.identifier)) ≡ true → linked (edge_kind kind) a x l ≡ Ok m
      → Moves done l m h (widened (is_among all x.identifier) a.identifier x.identifier h)
  alias_moves kind plain al a x settled e =
      subst (λ z. Moves done l z h (widened (is_among all x.identifier) a.identifier x.identifier h))
      (linked_is (edge_kind kind) a x l m e)
      (widen_moves done l h k kind plain al a.identifier x.identifier (is_among all x.identifier)
      (λ c. k.agree x.identifier ∙ settled_made (is_among done x.identifier) (is_among all x.identifier) settled c))

module _ (all done : List IdentifierId) (i : InstructionId) (order : EvaluationOrder) (l m : Listing) (h : History)
    (k : Keeping done l) where
  mutated_moves : (x : Place) (transitive : Bool) (kind : MutationKind) (reason : Option MutationReason)
      → mutated i order x transitive kind reason l ≡ Ok m → Moves done l m h h
  mutated_moves x transitive kind reason e =
      let more = recorded_mutation i order x transitive kind reason l ∷ [] in
      subst (λ z. Moves done l z h h) (mutated_is i order x transitive kind reason l m e)
      (quiet_moves done l h k (record l { next = l.next + 1; mutations = l.mutations ++ more }) refl refl
      (omega arith) (more, refl))

  rendered_moves : (x : Place) → rendered i x l ≡ Ok m → Moves done l m h h
  rendered_moves x e =
      let more = λ (after : ℕ). let z : Listing =
      record l {
        next = after;
        renders = l.renders ++ record { index = l.next; instruction = i; place = x } ∷ [];
        summary = l.summary ++ effect.Render x ∷ [];
      } in z in
      subst (λ z. Moves done l z h h) (next_listing l m more e)
      (quiet_moves done l h k (more (l.next + 1)) refl refl (omega arith) (more_same l.mutations))

  same_moves : (n : Listing) → n.events ≡ l.events → n.pending ≡ l.pending → n.next ≡ l.next → n.mutations ≡ l.mutations
      → (let r : Result Listing HirError = Ok n in r ≡ Ok m) → Moves done l m h h
  same_moves n es ps ns ms e =
      subst (λ z. Moves done l z h h) (okay_is n m e)
      (quiet_moves done l h k n es ps (omega (arith, ns))
      (subst (HasMore l.mutations) (sym ms) (more_same l.mutations)))

  pub effect_moves : (act : AliasingEffect) → may_make done (effect_makes act) ≡ true
      → may_widen all done (effect_widens act) ≡ true → effect_listed i order act l ≡ Ok m
      → Moves (with_made (effect_makes act) done) l m h (after_effect all act h)
  effect_moves (effect.Apply receiver function mutates args into signature span) new settled e =
      same_moves l refl refl refl refl e
  effect_moves (effect.CreateFrom a x) new settled e =
      subst (λ z. Moves (x.identifier ∷ done) l z h (NewFrom a.identifier x.identifier ∷ h))
      (next_listing l m (λ after. with_more after (event.CreateFrom l.next a.identifier x.identifier) l) e)
      (out_moves done l h k a.identifier x.identifier (not_true (is_among done x.identifier) new))
  effect_moves (effect.ImmutableCapture a x) new settled e = same_moves l refl refl refl refl e
  effect_moves (effect.Assign a x) new settled e =
      let fresh = not_true (is_among done x.identifier) new in
      let once : linked Alias a x (made Object x l) ≡ Ok m = ap (linked Alias a x) (sym (once_new done l x k fresh))
      ∙ e in
      subst (λ z. Moves (x.identifier ∷ done) l z h (Copies a.identifier x.identifier ∷ h))
      (linked_is Alias a x (made Object x l) m once) (assign_moves done l h k a x fresh)
  effect_moves (effect.Alias a x) new settled e = alias_moves all done l m h k AliasLink tt tt a x settled e
  effect_moves (effect.Capture a x) new settled e =
      subst (λ z. Moves done l z h (StoresInto a.identifier x.identifier ∷ h)) (linked_is Capture a x l m e)
      (capture_moves done l h k a.identifier x.identifier)
  effect_moves (effect.MaybeAlias a x) new settled e = alias_moves all done l m h k MaybeLink tt tt a x settled e
  effect_moves (effect.Create x value reason) new settled e =
      subst (λ z. Moves (x.identifier ∷ done) l z h (New x.identifier ∷ h)) (okay_is (made Object x l) m e)
      (make_moves done l h k x Object (not_true (is_among done x.identifier) new))
  effect_moves (effect.Freeze x reason) new settled e = same_moves l refl refl refl refl e
  effect_moves (effect.Impure x error) new settled e =
      same_moves (record l { summary = l.summary ++ effect.Impure x error ∷ [] }) refl refl refl refl e
  effect_moves (effect.MutateFrozen x error) new settled e =
      same_moves (record l { summary = l.summary ++ effect.MutateFrozen x error ∷ [] }) refl refl refl refl e
  effect_moves (effect.MutateGlobal x error) new settled e =
      same_moves (record l { summary = l.summary ++ effect.MutateGlobal x error ∷ [] }) refl refl refl refl e
  effect_moves (effect.Render x) new settled e = rendered_moves x e
  effect_moves (effect.Mutate x reason) new settled e = mutated_moves x false Definite reason e
  effect_moves (effect.MutateConditionally x) new settled e = mutated_moves x false Conditional None e
  effect_moves (effect.MutateTransitive x) new settled e = mutated_moves x true Definite None e
  effect_moves (effect.MutateTransitiveConditionally x) new settled e = mutated_moves x true Conditional None e
  effect_moves (effect.CreateFunction x f captures) new settled e =
      subst (λ z. Moves (x.identifier ∷ done) l z h (New x.identifier ∷ h)) (okay_is (made (Function f) x l) m e)
      (make_moves done l h k x (Function f) (not_true (is_among done x.identifier) new))
