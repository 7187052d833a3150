-- The ranges and the summaries of the nested functions of a unit that was inferred.
use Rattle.std.specs.Prelude.{◌≡◌, ℕ, ◌<◌, ◌≤◌, ◌⊎◌, true, false, List, Option, Some, None, Result, Ok, IsSomeAnd}
use Rattle.std.specs.Prelude.{length, slice_get, refl}
use Rattle.std.proofs.Common.{inl, inr, ⊎_elim, ap, sym, ◌∙◌, subst, arith}
use Rattle.alias_fitting_laws.specs.bare.Bare.{bare}
use Rattle.alias_fitting_laws.specs.bare.BareLaws.{context_of_bare}
use Rattle.alias_base.specs.declared.ids.FunctionId.{FunctionId}
use Rattle.alias_base.specs.declared.ids.IdentifierId.{IdentifierId}
use Rattle.alias_step.specs.block.Contexts.{context_of as block_context}
use Rattle.alias_effects.specs.Numbered.{visits_end}
use Rattle.alias_effects.specs.Recording.{with_effects_of}
use Rattle.alias_graph.specs.recorded.Recording.{graph_listed}
use Rattle.alias_graph.specs.declared.recorded.listing.Listing.{Listing}
use Rattle.alias_explain.proofs.Lists.{in_longer}
use Rattle.alias_explain.specs.Standing.{has_place, stands_in}
use Rattle.alias_rules.specs.function_rules.Rules.{is_among, function_is_uninferred}
use Rattle.alias_ranges.proofs.heap.HeapLaws.{heap_is_covered}
use Rattle.alias_hir.specs.declared.effect.AliasingEffect.{AliasingEffect}
use Rattle.alias_hir.specs.declared.env.Environment.{Environment}
use Rattle.alias_hir.specs.declared.env.Identifier.{Identifier}
use Rattle.alias_hir.specs.declared.env.Unit.{Unit as HirUnit}
use Rattle.alias_hir.specs.declared.error.InferError.{InferError}
use Rattle.alias_hir.specs.declared.hir.HirFunction.{HirFunction}
use Rattle.alias_nested.proofs.Changing.{slots_stay}
use Rattle.alias_nested.specs.Analysis.{Analysed}
use Rattle.alias_nested.specs.Roots.{with_effects}
use Rattle.alias_nested.specs.Units.{UnitAnalysis, unit_analysed}
use Rattle.alias_nesting_laws.specs.PartLaws.{absent, not_both}
use Rattle.alias_answer_laws.proofs.order.Solving.{end_names_none}
use Rattle.alias_ranges.specs.Ranges.{ListsFlows}
use Rattle.alias_range_pass.specs.places.Causes.{InstructionCause, numbers_of}
use Rattle.alias_range_pass.specs.summary.Laws.{Covers, MutationCause}
use Rattle.alias_range_pass.specs.summary.Walking.{mutation_entry}
use Rattle.alias_graph.specs.Nodes.{Nodes}
use Rattle.alias_graph.specs.Reach.{end_at}
use Rattle.alias_graph.specs.Walks.{IsOneOf}
use Rattle.alias_rules.specs.Functions.{rules_hold}
use Rattle.alias_rules.specs.Sharing.{identifiers_of, identifiers_at, context_of, context_at}
use Rattle.alias_visit.specs.Places.{places_in, identifiers_in}
use Rattle.alias_inferred_laws.proofs.inferred.Ranging.{PassLeaves, ranged_covers}
use Rattle.alias_inferred_laws.proofs.inferred.Rooting.{root_entry}
use Rattle.alias_cause_laws.proofs.causes.Alike.{effects_name, has_among, among_has}
use Rattle.alias_cause_laws.proofs.causes.Caused.{places_same, slots_same}
use Rattle.alias_cause_laws.proofs.causes.Chain.{Around, around, link_uninferred, link_after, chain_length}
use Rattle.alias_cause_laws.proofs.causes.Ends.{passed_length}
use Rattle.alias_cause_laws.proofs.causes.Passes.{begun, after, leaves, bare_same, effects_kept, effects_named}
use Rattle.alias_cause_laws.proofs.causes.Passes.{path_named, ranged_length, more_length}
use Rattle.alias_cause_laws.proofs.causes.Ranges.{order, parts, root, root_ran, walked, at_below, grown, IsOwn}
use Rattle.alias_cause_laws.proofs.causes.Ranges.{own_unset, own_stays}
use Rattle.alias_cause_laws.proofs.causes.Recorded.{either_true}
use Rattle.alias_cause_laws.proofs.causes.Walking.{Stored, stored_still}
use Rattle.alias_cause_laws.proofs.nested.Leaving.{of_recorded, marked_definite}
use Rattle.alias_cause_laws.proofs.nested.Mixing.{mixed, mixed_apart, mixed_there}
use Rattle.alias_cause_laws.specs.nested.Nested.{IsNoContext, CoversOwn, CausesOwn, CoversOwnHeap, NestedRanged}
use Rattle.alias_cause_laws.specs.nested.Nested.{NestedAreRanged}

same_listing : (k l : Listing) → ◌≡◌ {A = Result Listing InferError} (Ok k) (Ok l) → k ≡ l
same_listing k l h = cc

-- the summary in the slot ends with the flows
stored_flows : (x : Analysed) (slot : Option HirFunction) → Stored x slot
    → IsSomeAnd slot (λ g. IsSomeAnd g.aliasing_effects (ListsFlows (with_effects x)))
stored_flows x slot s =
    subst (λ (o : Option HirFunction). IsSomeAnd o
    (λ (g : HirFunction). IsSomeAnd g.aliasing_effects (ListsFlows (with_effects x)))) (sym s.in_slot)
    (subst (λ (o : Option (List AliasingEffect)). IsSomeAnd o (ListsFlows (with_effects x))) (sym s.stores) s.flows)

module _ (u : HirUnit) (a : UnitAnalysis) (rules : rules_hold u ≡ Ok tt) (is : unit_analysed u ≡ Ok a) where
  abbrev env : Environment
  env = a.inferred.unit.env

  abbrev nested_env : Environment
  nested_env = (root u a rules is).nested.env

  module _ (x : Analysed) (r : Around u.env u.env.identifiers (order u a rules is) nested_env.identifiers x) where
    fresh : function_is_uninferred r.link.func ≡ true
    fresh = link_uninferred u.env (parts u a rules is).environment r.id x r.left r.link

    -- the function as its range pass begins, and the environment
    abbrev first : HirFunction
    first = begun u.env r.link.func fresh true x.env x.func r.link.ran

    abbrev first_env : Environment
    first_env = after u.env r.link.func fresh true x.env x.func r.link.ran

    -- what the range pass left
    abbrev left : PassLeaves true first first_env r.link.ran.ranged
    left = leaves u.env r.link.func fresh true x.env x.func r.link.ran

    abbrev graph : Nodes
    graph = graph_listed left.listing

    first_bare : bare first ≡ bare r.link.func
    first_bare = (effects_kept u.env r.link.func fresh true x.env x.func r.link.ran).still
        ∙ bare_same u.env r.link.func fresh true x.env x.func r.link.ran

    unit_names : identifiers_in u.env r.link.func ≡ identifiers_at u.env r.id.0
    unit_names = sym (ap (identifiers_of u.env) r.link.slot)

    unit_below : (n : ℕ) → is_among (identifiers_in u.env r.link.func) n ≡ true → n < length first_env.identifiers
    unit_below n i =
        let below = at_below u a rules is r.id.0 n (subst (λ xs. is_among xs n ≡ true) unit_names i) in
        let g = grown u a rules is x r in
        let more = passed_length x.env r.link.ran.end in
        omega arith

    not_context : (id : IdentifierId) → IsNoContext first id → is_among (context_at u.env r.id.0) id.0 ≡ false
    not_context id free =
        let context : numbers_of first.context ≡ context_at u.env r.id.0 =
        context_of_bare r.link.func first (sym first_bare) ∙ sym (ap context_of r.link.slot) in
        absent (is_among (context_at u.env r.id.0) id.0)
        (λ c. not_both (has_place id first.context)
        (among_has id first.context (subst (λ xs. is_among xs id.0 ≡ true) (sym context) c)) free)

    -- what is named and no context place is the function's own
    own : (id : IdentifierId) → (is_among (identifiers_in u.env r.link.func) id.0 ≡ true)
        ⊎ ((length x.env.identifiers ≤ id.0) × (id.0 < length first_env.identifiers)) → IsNoContext first id
        → IsOwn u a rules is x r id.0
    own id named free = ⊎_elim (λ there. inl
        (subst (λ xs. is_among xs id.0 ≡ true) unit_names there, not_context id free)) (λ new. inr new) named

    -- the identifiers as the function's range pass left them
    abbrev ranged_ids : List Identifier
    ranged_ids = r.link.ran.ranged.after.1.identifiers

    left_covers : Covers graph left.listing.mutations ranged_ids
    left_covers =
        let c = ranged_covers true first first_env r.link.ran.ranged
        (effects_kept u.env r.link.func fresh true x.env x.func r.link.ran).fits r.link.ran.ran in
        let same : c.0 ≡ left.listing = same_listing c.0 left.listing (sym c.1 ∙ left.recorded) in
        subst (λ (l : Listing). Covers (graph_listed l) l.mutations ranged_ids) same c.2

    covers : CoversOwn first graph left.listing.mutations env.identifiers
    covers = λ m i e legal free.
        let named = path_named u.env r.link.func fresh true x.env x.func r.link.ran m.index (mutation_entry m) e
        unit_below legal in
        subst (λ n. m.order.0 < n) (sym (own_stays u a rules is x r e.id.0 (own e.id named free)))
        (left_covers m i e legal)

    -- no identifier goes afterwards
    ids_stay : length ranged_ids ≤ length env.identifiers
    ids_stay =
        let one = ranged_length u.env r.link.func fresh true x.env x.func r.link.ran in
        let two = link_after u.env (parts u a rules is).environment r.id x r.left r.link in
        let three = chain_length u.env (parts u a rules is).environment r.left nested_env.identifiers r.behind r.later
        r.rest in
        let four = more_length u.env u.function (parts u a rules is).function false nested_env u.function
        (root_ran u a rules is) in
        let five : length env.identifiers ≡ length (root u a rules is).ranged.after.1.identifiers =
        ap length (root u a rules is).identifiers in
        omega arith

    abbrev context_ids : List ℕ
    context_ids = numbers_of first.context

    -- the identifiers that are handed out, with those of context places as the function's range pass left them
    abbrev own_ids : List Identifier
    own_ids = mixed context_ids 0 ranged_ids env.identifiers

    own_ends : (id : IdentifierId) → IsNoContext first id → end_at own_ids id.0 ≡ end_at env.identifiers id.0
    own_ends id free =
        let off : is_among context_ids id.0 ≡ false =
        absent (is_among context_ids id.0) (λ there.
        not_both (has_place id first.context) (among_has id first.context there) free) in
        mixed_apart context_ids 0 id.0 id.0 ranged_ids env.identifiers (omega arith) off

    own_covers : Covers graph left.listing.mutations own_ids
    own_covers = λ m i e legal.
        elim (has_place e.id first.context) as
        (λ b. has_place e.id first.context ≡ b → m.order.0 < end_at own_ids e.id.0) [
          | true ↦ λ there.
              let low = left_covers m i e legal in
              let up = mixed_there context_ids 0 e.id.0 e.id.0 ranged_ids env.identifiers (omega arith)
              (has_among e.id first.context there) ids_stay in
              omega arith
          | false ↦ λ free. subst (λ n. m.order.0 < n) (sym (own_ends e.id free)) (covers m i e legal free)
        ] refl

    covers_heap : CoversOwnHeap first env.identifiers
    covers_heap = λ forward once m o writes y reaches free.
        subst (λ n. m.order.0 < n) (own_ends y free)
        (heap_is_covered first own_ids left.listing left.recorded own_covers forward once m o writes y reaches)

    names : (id : IdentifierId) → stands_in env first id ≡ true
        → (is_among (identifiers_in u.env r.link.func) id.0 ≡ true)
        ⊎ ((length x.env.identifiers ≤ id.0) × (id.0 < length first_env.identifiers))
    names id stands =
        ⊎_elim (λ place. inl (subst (λ xs. is_among xs id.0 ≡ true)
        (places_same u a rules is r.link.func first first_bare) (has_among id (places_in env first) place)))
        (λ effect. effects_named u.env r.link.func fresh true x.env x.func r.link.ran id effect)
        (either_true (has_place id (places_in env first)) (effects_name id first) stands)

    causes : CausesOwn first graph left.listing.mutations env
    causes = λ id stands free.
        let mine : IsOwn u a rules is x r id.0 = own id (names id stands) free in
        let stays = own_stays u a rules is x r id.0 mine in
        ⊎_elim (λ same. inl (stays ∙ same ∙ own_unset u a rules is x r id.0 mine))
        (λ cause. inr (subst (λ n. MutationCause graph left.listing.mutations id.0 n
        ⊎ InstructionCause first.instructions id.0 n) (sym stays) cause))
        (left.causes id.0)

    around_ranged : (slot : Option HirFunction) → Stored x slot → NestedRanged (with_effects x) env slot
    around_ranged slot s =
        let same : first ≡ with_effects x = sym (ap (λ z. with_effects_of z x.func) r.link.solved) in
        subst (λ (f : HirFunction). NestedRanged f env slot) same
        (record {
          cover = of_recorded first left.listing (λ l. CoversOwn first (graph_listed l) l.mutations env.identifiers)
              left.recorded covers;
          definite = marked_definite true first env left.listing left.recorded;
          heap = covers_heap;
          cause = of_recorded first left.listing (λ l. CausesOwn first (graph_listed l) l.mutations env) left.recorded
              causes;
          flows = subst (λ (f : HirFunction). IsSomeAnd slot
              (λ (g : HirFunction). IsSomeAnd g.aliasing_effects (ListsFlows f))) (sym same) (stored_flows x slot s);
        })

  abbrev last : Analysed
  last = root_entry u (root u a rules is).nested (root u a rules is).end

  nested_ranged : (x : Analysed) (id : FunctionId) → IsOneOf x (root u a rules is).nested.functions → x.solved.function
      ≡ Some id → NestedRanged (with_effects x) env (slice_get env.functions id.0)
  nested_ranged x id i number =
      let w = walked u a rules is in
      let there : IsOneOf x w.taken = subst (IsOneOf x) w.functions i in
      let r : Around u.env u.env.identifiers (order u a rules is) nested_env.identifiers x =
      around u.env u.env.identifiers nested_env.identifiers (order u a rules is) w.taken x w.chain there in
      around_ranged x r (slice_get env.functions id.0)
      (stored_still x (slice_get nested_env.functions id.0) (slice_get env.functions id.0)
      (slots_stay nested_env env (slots_same u a rules is) id.0) (w.stored x there id number).1)

  -- of each nested function
  pub nested_are_ranged : NestedAreRanged a
  nested_are_ranged = λ x id i number.
      ⊎_elim (λ there. nested_ranged x id there number)
      (λ (same : x ≡ last).
      let r = root u a rules is in
      let nameless : last.solved.function ≡ None =
      end_names_none r.nested.env u.function (visits_end (block_context r.nested.env u.function false)) r.end
      r.ended in
      let no : None ≡ Some id = sym nameless ∙ ap (λ (z : Analysed). z.solved.function) (sym same) ∙ number in
      absurd (cc))
      (in_longer (root u a rules is).nested.functions last x (subst (IsOneOf x) (root u a rules is).all i))
