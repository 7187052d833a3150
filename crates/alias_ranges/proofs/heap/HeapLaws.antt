-- Ranges that end past each recorded mutation, wherever a legal path leads from it, cover the heap.
use Rattle.std.proofs.Common.{◌≡◌, ◌<◌, Bool, true, false, List, [], ◌∷◌, Option, None, refl, sym, subst, inl, le_refl}
use Rattle.std.specs.Prelude.{Ok}
use Rattle.alias_base.specs.declared.ids.EvaluationOrder.{EvaluationOrder}
use Rattle.alias_base.specs.declared.ids.IdentifierId.{IdentifierId}
use Rattle.alias_base.specs.declared.ids.InstructionId.{InstructionId}
use Rattle.alias_hir.specs.declared.effect.AliasingEffect.{AliasingEffect}
use Rattle.alias_hir.specs.declared.effect.AliasingEffect.TheVariants as effect
use Rattle.alias_hir.specs.declared.effect.MutationReason.{MutationReason}
use Rattle.alias_hir.specs.declared.env.Environment.{Environment}
use Rattle.alias_hir.specs.declared.env.Identifier.{Identifier}
use Rattle.alias_hir.specs.declared.hir.HirFunction.{HirFunction}
use Rattle.alias_hir.specs.declared.place.Place.{Place}
use Rattle.alias_graph.specs.declared.types.Direction.TheVariants.{Backwards}
use Rattle.alias_graph.specs.declared.types.MutationKind.{MutationKind}
use Rattle.alias_graph.specs.declared.types.MutationKind.TheVariants.{Conditional, Definite}
use Rattle.alias_graph.specs.Links.{entry}
use Rattle.alias_graph.specs.Reach.{end_at}
use Rattle.alias_graph.specs.Walks.{IsOneOf}
use Rattle.alias_graph.proofs.Legality.{in_left, in_right}
use Rattle.alias_graph.specs.declared.recorded.listing.Listing.{Listing}
use Rattle.alias_graph.specs.recorded.Listings.{mutated, effect_listed}
use Rattle.alias_graph.specs.recorded.Recording.{graph_listed}
use Rattle.alias_range_pass.specs.summary.Laws.{Covers}
use Rattle.alias_range_pass.specs.Passes.{Ranged, range_pass}
use Rattle.alias_range_pass.specs.Refusals.{recorded}
use Rattle.alias_ranges.specs.laws.AnswerLaws.{recorded_is_listed, pass_is}
use Rattle.alias_ranges.specs.heap.Heap.{History, Object, Reaches, Writes}
use Rattle.alias_ranges.specs.heap.Paths.{history_at}
use Rattle.alias_ranges.specs.heap.Reading.{HeapIsCovered}
use Rattle.alias_ranges.proofs.heap.Reaching.{Sound, sound_grows, LeadsTo, local_leads, transitive_leads}
use Rattle.alias_ranges.proofs.heap.Steps.{HasMore}
use Rattle.alias_ranges.proofs.heap.Effects.{recorded_mutation, mutated_is}
use Rattle.alias_ranges.proofs.heap.Along.{moment_reached}

module _ (f : HirFunction) (l : Listing) (identifiers : List Identifier)
    (covers : Covers (graph_listed l) l.mutations identifiers) (h : History) (i : InstructionId)
    (order : EvaluationOrder) (at next : Listing) (sound : Sound (graph_listed l) at.next h)
    (more : HasMore next.mutations l.mutations) (y : IdentifierId) where
  -- the mutation is recorded, so where a legal path leads from it the range ends past it
  mutation_covered : (x : Place) (transitive : Bool) (kind : MutationKind) (reason : Option MutationReason)
      → mutated i order x transitive kind reason at ≡ Ok next
      → LeadsTo (graph_listed l) at.next (entry x.identifier transitive Backwards kind) y → order.0
      < end_at identifiers y.0
  mutation_covered x transitive kind reason e leads =
      let w = recorded_mutation i order x transitive kind reason at in
      let in_next : IsOneOf w next.mutations =
      subst (λ (z : Listing). IsOneOf w z.mutations) (mutated_is i order x transitive kind reason at next e)
      (in_right at.mutations (w ∷ []) w (inl refl)) in
      let in_last : IsOneOf w l.mutations = subst (λ z. IsOneOf w z) (sym more.1)
      (in_left next.mutations more.0 w in_next) in
      covers w in_last (entry y leads.0 leads.1.0 leads.1.1) leads.1.2

  effect_covered : (act : AliasingEffect) → effect_listed i order act at ≡ Ok next → (o : Object) → Writes h act o
      → Reaches h y o → order.0 < end_at identifiers y.0
  effect_covered (effect.Mutate x reason) e o writes reaches =
      mutation_covered x false Definite reason e
      (local_leads (graph_listed l) at.next h sound x.identifier Definite o writes y reaches)
  effect_covered (effect.MutateConditionally x) e o writes reaches =
      mutation_covered x false Conditional None e
      (local_leads (graph_listed l) at.next h sound x.identifier Conditional o writes y reaches)
  effect_covered (effect.MutateTransitive x) e o writes reaches =
      mutation_covered x true Definite None e
      (transitive_leads (graph_listed l) at.next h sound x.identifier Definite o writes y reaches)
  effect_covered (effect.MutateTransitiveConditionally x) e o writes reaches =
      mutation_covered x true Conditional None e
      (transitive_leads (graph_listed l) at.next h sound x.identifier Conditional o writes y reaches)
  effect_covered act e o writes reaches = absurd writes

-- the heap is covered
pub heap_is_covered : (f : HirFunction) (identifiers : List Identifier) (l : Listing) → recorded f ≡ Ok l
    → Covers (graph_listed l) l.mutations identifiers → HeapIsCovered f identifiers
heap_is_covered f identifiers l e covers forward once m o writes y reaches =
    let r = moment_reached f l (recorded_is_listed f l e) forward once m in
    effect_covered f l identifiers covers (history_at m) m.instruction m.order r.at r.next
    (sound_grows (graph_listed r.at) (graph_listed l) r.at.next r.at.next (history_at m) r.grows (le_refl r.at.next)
    r.sound) r.mutations y m.next r.is_listed o writes reaches

-- where the pass answers, and the ranges that it leaves cover what is recorded
pub answer_covers_heap : (is_function_expression : Bool) (f : HirFunction) (env : Environment) (r : Ranged)
    (identifiers : List Identifier) → range_pass is_function_expression f env ≡ Ok r
    → ((l : Listing) → recorded f ≡ Ok l → Covers (graph_listed l) l.mutations identifiers)
    → HeapIsCovered f identifiers
answer_covers_heap is_function_expression f env r identifiers e covers =
    let p = pass_is is_function_expression f env r e in
    heap_is_covered f identifiers p.0 p.1 (covers p.0 p.1)
