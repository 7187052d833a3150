-- What effects that are alike record: the same events at the same positions, and mutations, renders and summaries that
-- are alike.
use Rattle.std.specs.Prelude.{ℕ, ◌++◌, Bool, true, false, List, [], ◌∷◌, Option, None, Result, Ok, if◌then◌else◌}
use Rattle.std.specs.Prelude.{slice_get}
use Rattle.alias_base.specs.declared.ids.EvaluationOrder.{EvaluationOrder}
use Rattle.alias_base.specs.declared.ids.InstructionId.{InstructionId}
use Rattle.alias_hir.specs.declared.effect.AliasingEffect.{AliasingEffect}
use Rattle.alias_hir.specs.declared.effect.AliasingEffect.TheVariants as effect
use Rattle.alias_hir.specs.declared.effect.MutationReason.{MutationReason}
use Rattle.alias_hir.specs.declared.error.HirError.{HirError}
use Rattle.alias_hir.specs.declared.hir.Instruction.{Instruction}
use Rattle.alias_hir.specs.declared.place.Place.{Place}
use Rattle.alias_graph.specs.declared.types.EdgeKind.{EdgeKind}
use Rattle.alias_graph.specs.declared.types.EdgeKind.TheVariants.{Capture, Alias, MaybeAlias}
use Rattle.alias_graph.specs.declared.types.MutationKind.{MutationKind}
use Rattle.alias_graph.specs.declared.types.MutationKind.TheVariants.{Conditional, Definite}
use Rattle.alias_graph.specs.declared.types.NodeValue.TheVariants.{Object, Function}
use Rattle.alias_graph.specs.declared.events.GraphEvent.{GraphEvent}
use Rattle.alias_graph.specs.declared.events.GraphEvent.TheVariants as event
use Rattle.alias_graph.specs.declared.recorded.listing.Listing.{Listing}
use Rattle.alias_graph.specs.declared.recorded.listing.RecordedMutation.{RecordedMutation}
use Rattle.alias_graph.specs.declared.recorded.listing.RecordedRender.{RecordedRender}
use Rattle.alias_graph.specs.recorded.IdSets.{has_made}
use Rattle.alias_graph.specs.recorded.Listings.{position_after, with_event, made, made_once, positioned, linked}
use Rattle.alias_graph.specs.recorded.Listings.{mutated, summarized, rendered, effect_listed, effects_in, recorded_in}
use Rattle.alias_graph.specs.recorded.Listings.{instruction_listed}
use Rattle.alias_certificate_laws.specs.accepting.Alike.{Paired, none, more, Maybe, nothing, just, moved, Alike, apply}
use Rattle.alias_certificate_laws.specs.accepting.Alike.{create_from, immutable_capture, assign, alias, capture}
use Rattle.alias_certificate_laws.specs.accepting.Alike.{maybe_alias, create, freeze, impure, mutate_frozen}
use Rattle.alias_certificate_laws.specs.accepting.Alike.{mutate_global, render, mutate, mutate_conditionally}
use Rattle.alias_certificate_laws.specs.accepting.Alike.{mutate_transitive, mutate_transitive_conditionally}
use Rattle.alias_certificate_laws.specs.accepting.Alike.{create_function, AlikeEffects}
use Rattle.alias_certificate_laws.proofs.accepting.Likeness.{paired_append, paired_get}
use Rattle.alias_range_alike_laws.specs.Ranging.{CarryAlike, carried}
use Rattle.alias_range_alike_laws.proofs.Answers.{Both, answered, both_after, each_alike}

-- ---- what is alike

-- the same, but for the reason and what else the place says
pub data AlikeMutation : RecordedMutation → RecordedMutation → Type 0 where
  of_mutation : (m : RecordedMutation) (p : Place) (reason : Option MutationReason)
      → AlikeMutation m (record m { place = moved m.place p; reason = reason })

pub data AlikeRender : RecordedRender → RecordedRender → Type 0 where
  of_render : (r : RecordedRender) (p : Place) → AlikeRender r (record r { place = moved r.place p })

-- the same events, positions and links that wait
pub data AlikeListing : Listing → Listing → Type 0 where
  listing : (l : Listing) (mutations : List RecordedMutation) (renders : List RecordedRender)
      (summary : List AliasingEffect) → Paired AlikeMutation l.mutations mutations
      → Paired AlikeRender l.renders renders → AlikeEffects l.summary summary
      → AlikeListing l (record l { mutations = mutations; renders = renders; summary = summary })

abbrev pub BothListed : Result Listing HirError → Result Listing HirError → Type 0
BothListed = Both AlikeListing

-- ---- one effect

pub chosen_alike : (b : Bool) (l m l' m' : Listing) → AlikeListing l m → AlikeListing l' m'
    → AlikeListing (if b then l else l') (if b then m else m')
chosen_alike true l m l' m' q r = q
chosen_alike false l m l' m' q r = r

pub event_alike : (e : GraphEvent) (l m : Listing) → AlikeListing l m → AlikeListing (with_event e l) (with_event e m)
event_alike e l m (listing _ ms rs es a b c) = listing (with_event e l) ms rs es a b c

made_once_alike : (x : Place) (l m : Listing) → AlikeListing l m → AlikeListing (made_once x l) (made_once x m)
made_once_alike x l m (listing _ ms rs es a b c) =
    let other : Listing = record l { mutations = ms; renders = rs; summary = es } in
    let q : AlikeListing l other = listing l ms rs es a b c in
    chosen_alike (has_made l.events x.identifier) l other (made Object x l) (made Object x other) q
    (event_alike (event.Make x.identifier Object) l other q)

pub positioned_alike : (e : ℕ → GraphEvent) (l m : Listing) → AlikeListing l m
    → BothListed (positioned e l) (positioned e m)
positioned_alike e l m (listing _ ms rs es a b c) =
    let other : Listing = record l { mutations = ms; renders = rs; summary = es } in
    both_after AlikeListing (position_after l.next)
    (λ after. Ok (record l { next = after; events = l.events ++ e l.next ∷ [] }))
    (λ after. Ok (record other { next = after; events = l.events ++ e l.next ∷ [] }))
    (λ after. answered (listing (record l { next = after; events = l.events ++ e l.next ∷ [] }) ms rs es a b c))

pub linked_alike : (kind : EdgeKind) (a x : Place) (l m : Listing) → AlikeListing l m
    → BothListed (linked kind a x l) (linked kind a x m)
linked_alike kind a x l m q = positioned_alike (λ index. event.Link kind index a.identifier x.identifier) l m q

summarized_alike : (e f : AliasingEffect) → Alike e f → (l m : Listing) → AlikeListing l m
    → AlikeListing (summarized e l) (summarized f m)
summarized_alike e f h l m (listing _ ms rs es a b c) =
    listing (summarized e l) ms rs (es ++ f ∷ []) a b (paired_append c (more h none))

mutated_alike : (i : InstructionId) (o : EvaluationOrder) (x p : Place) (transitive : Bool) (kind : MutationKind)
    (reason other_reason : Option MutationReason) (l m : Listing) → AlikeListing l m
    → BothListed (mutated i o x transitive kind reason l) (mutated i o (moved x p) transitive kind other_reason m)
mutated_alike i o x p transitive kind reason other_reason l m (listing _ ms rs es a b c) =
    let new : RecordedMutation = record {
      index = l.next;
      instruction = i;
      order = o;
      place = x;
      transitive = transitive;
      kind = kind;
      reason = reason;
    } in
    let other_new : RecordedMutation = record {
      index = l.next;
      instruction = i;
      order = o;
      place = moved x p;
      transitive = transitive;
      kind = kind;
      reason = other_reason;
    } in
    let other : Listing = record l { mutations = ms; renders = rs; summary = es } in
    both_after AlikeListing (position_after l.next)
    (λ after. Ok (record l { next = after; mutations = l.mutations ++ new ∷ [] }))
    (λ after. Ok (record other { next = after; mutations = ms ++ other_new ∷ [] }))
    (λ after. answered (listing (record l { next = after; mutations = l.mutations ++ new ∷ [] }) (ms ++ other_new ∷ [])
    rs es (paired_append a (more (of_mutation new p other_reason) none)) b c))

rendered_alike : (i : InstructionId) (x p : Place) (l m : Listing) → AlikeListing l m
    → BothListed (rendered i x l) (rendered i (moved x p) m)
rendered_alike i x p l m (listing _ ms rs es a b c) =
    let new : RecordedRender = record { index = l.next; instruction = i; place = x } in
    let other_new : RecordedRender = record { index = l.next; instruction = i; place = moved x p } in
    let other : Listing = record l { mutations = ms; renders = rs; summary = es } in
    both_after AlikeListing (position_after l.next)
    (λ after. Ok (record l {
      next = after;
      renders = l.renders ++ new ∷ [];
      summary = l.summary ++ effect.Render x ∷ [];
    }))
    (λ after. Ok (record other {
      next = after;
      renders = rs ++ other_new ∷ [];
      summary = es ++ effect.Render (moved x p) ∷ [];
    }))
    (λ after. answered (listing (record l {
      next = after;
      renders = l.renders ++ new ∷ [];
      summary = l.summary ++ effect.Render x ∷ [];
    }) ms (rs ++ other_new ∷ []) (es ++ effect.Render (moved x p) ∷ [])
    a (paired_append b (more (of_render new p) none)) (paired_append c (more (render x p) none))))

pub effect_alike : (i : InstructionId) (o : EvaluationOrder) (e f : AliasingEffect) (l m : Listing) → Alike e f
    → AlikeListing l m → BothListed (effect_listed i o e l) (effect_listed i o f m)
effect_alike i o e f l m (apply r s g h x y mutates args others signature span other h') q = answered q
effect_alike i o e f l m (create_from a b x y) q =
    positioned_alike (λ index. event.CreateFrom index a.identifier x.identifier) l m q
effect_alike i o e f l m (immutable_capture a b x y) q = answered q
effect_alike i o e f l m (assign a b x y) q =
    linked_alike Alias a x (made_once x l) (made_once x m) (made_once_alike x l m q)
effect_alike i o e f l m (alias a b x y) q = linked_alike Alias a x l m q
effect_alike i o e f l m (capture a b x y) q = linked_alike Capture a x l m q
effect_alike i o e f l m (maybe_alias a b x y) q = linked_alike MaybeAlias a x l m q
effect_alike i o e f l m (create x y k r) q = answered (event_alike (event.Make x.identifier Object) l m q)
effect_alike i o e f l m (freeze v w r) q = answered q
effect_alike i o e f l m (impure p s d g) q =
    answered (summarized_alike (effect.Impure p d) (effect.Impure (moved p s) g) (impure p s d g) l m q)
effect_alike i o e f l m (mutate_frozen p s d g) q =
    answered (summarized_alike (effect.MutateFrozen p d) (effect.MutateFrozen (moved p s) g) (mutate_frozen p s d g) l m
    q)
effect_alike i o e f l m (mutate_global p s d g) q =
    answered (summarized_alike (effect.MutateGlobal p d) (effect.MutateGlobal (moved p s) g) (mutate_global p s d g) l m
    q)
effect_alike i o e f l m (render x p) q = rendered_alike i x p l m q
effect_alike i o e f l m (mutate v w r s) q = mutated_alike i o v w false Definite r s l m q
effect_alike i o e f l m (mutate_conditionally v w) q = mutated_alike i o v w false Conditional None None l m q
effect_alike i o e f l m (mutate_transitive v w) q = mutated_alike i o v w true Definite None None l m q
effect_alike i o e f l m (mutate_transitive_conditionally v w) q =
    mutated_alike i o v w true Conditional None None l m q
effect_alike i o e f l m (create_function x y g ps qs h) q =
    answered (event_alike (event.Make x.identifier (Function g)) l m q)

-- ---- an instruction

effects_alike : (i : InstructionId) (o : EvaluationOrder) (es fs : Option (List AliasingEffect)) (l m : Listing)
    → Maybe AlikeEffects es fs → AlikeListing l m → BothListed (effects_in i o es l) (effects_in i o fs m)
effects_alike i o es fs l m nothing q = answered q
effects_alike i o es fs l m (just {a = a} {b = b} p) q =
    each_alike Alike AlikeListing (effect_listed i o) (effect_listed i o) (λ e f s t h r. effect_alike i o e f s t h r)
    a b l m p q

recorded_alike : (i : InstructionId) (n k : Option Instruction) (l m : Listing) → Maybe CarryAlike n k
    → AlikeListing l m → BothListed (recorded_in i n l) (recorded_in i k m)
recorded_alike i n k l m nothing q = answered q
recorded_alike i n k l m (just (carried x effects p)) q = effects_alike i x.id x.effects effects l m p q

pub instruction_alike : (xs ys : List Instruction) → Paired CarryAlike xs ys → (i : InstructionId) (l m : Listing)
    → AlikeListing l m → BothListed (instruction_listed xs i l) (instruction_listed ys i m)
instruction_alike xs ys p i l m q = recorded_alike i (slice_get xs i.0) (slice_get ys i.0) l m (paired_get i.0 xs ys p)
    q
