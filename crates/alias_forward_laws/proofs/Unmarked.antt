-- In a forward unit no function below the root is marked.
use Rattle.std.proofs.Common.{◌≡◌, ℕ, ◌+◌, ◌≤◌, Bool, true, false, if◌then◌else◌, [], Option, Some, None}
use Rattle.std.proofs.Common.{Result, Ok, Err, is_some, length, refl, ap, sym, ◌∙◌, subst, arith}
use Rattle.std.specs.Prelude.{⊤, nat_le, slice_get}
use Rattle.alias_base.specs.Answer.{◌>>=◌}
use Rattle.alias_base.specs.Find.{value_at}
use Rattle.alias_base.specs.declared.ids.FunctionId.{FunctionId}
use Rattle.alias_base.specs.declared.ids.InstructionId.{InstructionId}
use Rattle.alias_hir.specs.declared.env.Environment.{Environment}
use Rattle.alias_hir.specs.declared.env.Unit.{Unit as HirUnit}
use Rattle.alias_hir.specs.declared.error.Counter.TheVariants.{GraphPositions}
use Rattle.alias_hir.specs.declared.error.HirError.{HirError}
use Rattle.alias_hir.specs.declared.error.HirError.TheVariants as hir
use Rattle.alias_hir.specs.declared.error.InferError.{InferError}
use Rattle.alias_hir.specs.declared.error.InferError.TheVariants as error
use Rattle.alias_hir.specs.declared.hir.HirFunction.{HirFunction}
use Rattle.alias_flow.proofs.check.Solves.{is_forward}
use Rattle.alias_flow.specs.Solutions.{goes_forward}
use Rattle.alias_graph.specs.declared.recorded.listing.Listing.{Listing}
use Rattle.alias_graph.specs.recorded.BlockListings.{listed}
use Rattle.alias_step.specs.block.Contexts.{context_of}
use Rattle.alias_effects.specs.Inference.{pass_end}
use Rattle.alias_effects.specs.Numbered.{numbered as as_flow}
use Rattle.alias_range_pass.specs.Passes.{ranged, range_pass}
use Rattle.alias_range_pass.specs.Refusals.{unreplaced, none_unreplaced, listing_or, positions_left, recorded}
use Rattle.alias_range_pass.specs.places.Keeping.{but_context}
use Rattle.alias_range_pass.specs.summary.Summaries.{tracked}
use Rattle.alias_rules.specs.Fitting.{function_fits}
use Rattle.alias_rules.specs.Functions.{of_function}
use Rattle.alias_rules.specs.Nesting.{created_in, created_at, times}
use Rattle.alias_rules.specs.declared.rules.Rule.TheVariants.{Distinct}
use Rattle.alias_rules.specs.function_rules.Rules.{first_again, own_identifiers}
use Rattle.alias_fitting_laws.specs.pruning.BelowLaws.{below_distinct}
use Rattle.alias_nested.proofs.Counting.{numbers_innermost_first, there_among, times_in_tree}
use Rattle.alias_nested.proofs.Creating.{once_again}
use Rattle.alias_nested.proofs.InOrder.{once_below}
use Rattle.alias_nested.specs.Analysis.{named, Analysis, analysis, most_levels}
use Rattle.alias_nested.specs.Created.{created_functions}
use Rattle.alias_nested.specs.Order.{innermost_first}
use Rattle.alias_nesting_laws.specs.FittingLaws.{Fitted, fitted}
use Rattle.alias_answer_laws.proofs.order.Levels.{fits_within}
use Rattle.alias_validate.specs.Levels.{is_within}
use Rattle.alias_completeness.specs.Grown.{forward_alike}
use Rattle.alias_completeness.specs.summaries.Faces.{HasPlaces}
use Rattle.alias_unit_completeness.specs.Answering.{Meets, Below}
use Rattle.alias_unit_completeness.specs.Beginning.{IsBelow, below_fit, nested_entry, root_entry}
use Rattle.alias_unit_completeness.specs.Moments.{not_again, returns_within}
use Rattle.alias_unit_completeness.specs.Passing.{IsUnsettled, forward_is_settled}
use Rattle.alias_unit_completeness.specs.Refusals.{IsForwardUnit}
use Rattle.alias_unit_completeness.specs.Standing.{stands_self}
use Rattle.alias_unit_completeness.specs.Turning.{turns_stated}
use Rattle.alias_unit_completeness.specs.Walking.{Once, Tree, Turned, goes}
use Rattle.alias_forward_laws.proofs.Walking.{IsApt, Marked, apt, unapt}

-- ---- no range pass is unsettled

-- the refusal isn't that of a flow that doesn't settle
abbrev pub IsOther : InferError → Type 0
IsOther e = IsUnsettled e → ⊥

abbrev Others : {A : Type 0} → Result A InferError → Type 0
Others {A} r = Meets IsOther (λ (x : A). Unit {0}) r

others_then : {A B : Type 0} (r : Result A InferError) (g : A → Result B InferError) → Others r
    → ((x : A) → Others (g x)) → Others (r >>= g)
others_then (Ok x) g h k = k x
others_then (Err e) g h k = h

other_left : (o : Option InstructionId) → Others (none_unreplaced o)
other_left None = tt
other_left (Some i) = λ u. u

other_listing : (r : Result Listing HirError) → Others (listing_or r)
other_listing (Ok l) = tt
other_listing (Err (hir.TooMany which)) = λ u. u
other_listing (Err (hir.Memory e)) = λ u. u

other_room : (b : Bool) → (let r : Result ⊤ InferError = if b then Ok tt else Err (error.TooMany GraphPositions) in
    Others r)
other_room true = tt
other_room false = λ u. u

other_ranges : (b : Bool) (f : HirFunction) (env : Environment) → Others (range_pass b f env)
other_ranges b f env =
    others_then (recorded f) (λ l. Ok (ranged b f env l))
    (others_then (none_unreplaced (unreplaced f)) _ (other_left (unreplaced f)) (λ q.
    others_then (listing_or (listed f)) _ (other_listing (listed f)) (λ l.
    others_then (positions_left l.next (length (tracked f))) _
    (other_room (nat_le (l.next + length (tracked f)) 4294967295)) (λ t. tt)))) (λ l. tt)

other_error : {A : Type 0} (r : Result A InferError) (e : InferError) → Others r → r ≡ Err e → IsOther e
other_error {A} r e h q = subst (λ (z : Result A InferError). Others z) q h

-- a name changes nothing of it
other_named : (id : FunctionId) (e : InferError) → IsOther e → IsOther (named id e)
other_named id (error.NotSettled f visits report) h = h
other_named id (error.Uninitialized f block identifier span report) h = h
other_named id (error.Reinitialized f instruction identifier) h = h
other_named id (error.AliasBeforeCreate f instruction identifier) h = h
other_named id (error.IncompatibleLibrary f instruction report) h = h
other_named id (error.SpreadArgument f instruction span report) h = h
other_named id (error.TooMany which) h = h
other_named id (error.UnreplacedApply instruction report) h = h
other_named id (error.EffectsNotInferred identifier) h = h
other_named id (error.PassFault f pass) h = h
other_named id (error.Memory x) h = h

-- ---- the functions below the root

module _ (u : HirUnit) (fits : function_fits u.function u.env ≡ true) (forward : IsForwardUnit u) where
  abbrev parts : Fitted u.function u.env
  parts = fitted u.function u.env fits

  abbrev Own : ℕ → Type 0
  Own = IsBelow u.function u.env parts

  own_places : (k : ℕ) (f : HirFunction) → Own k → slice_get u.env.functions k ≡ Some f
      → HasPlaces (length u.env.identifiers) f
  own_places k f own at = record {
    distinct = not_again (Some (record { 0 = k })) (first_again [] (own_identifiers f))
        (sym (ap (of_function Distinct u.env k) at) ∙ parts.rule_below Distinct refl k own);
    within = returns_within u.env f (below_fit u.function u.env parts k f own at);
  }

  all_once : Once [] (λ k. Unit {0}) (innermost_first most_levels u.env.functions (created_functions u.function))
  all_once = record {
    once = λ j.
        let none : times [] j ≡ 0 = refl in
        let a = once_below u.function u.env fits most_levels j in
        omega arith;
    waits = λ j h. tt;
  }

  all_tree : Tree u.env Own most_levels [] (created_in u.function)
  all_tree =
      let in_tree : (j : ℕ) → times [] j
      + times (numbers_innermost_first most_levels (created_at u.env) (created_in u.function)) j ≤ times parts.below j
      = times_in_tree 63 most_levels u.env [] (created_in u.function) parts.below parts.tree in
      record {
        once = λ j.
            let a = in_tree j in
            let b : times parts.below j ≤ 1 = once_again [] parts.below j
            (below_distinct u.env u.function parts.below parts.tree) in
            omega arith;
        own = λ j h. there_among parts.below j
            (let none : times [] j ≡ 0 = refl in let a = in_tree j in omega arith);
      }

  deep : is_within 64 u.env u.function ≡ true
  deep = fits_within u.function u.env fits

  -- no function of the number has a face that is asked for
  abbrev NoneFaced : ℕ → Type 0
  NoneFaced k = ⊥

  module _ (id : FunctionId) (f g : HirFunction) (a : Analysis) (own : Own id.0)
      (at : slice_get u.env.functions id.0 ≡ Some f) (same : but_context g ≡ but_context f)
      (places : HasPlaces (length a.env.identifiers) g) where
    other_context : g ≡ record f { context = g.context }
    other_context = ap (λ (z : HirFunction). record z { context = g.context }) same

    entry : is_some (value_at g.body.blocks g.body.entry) ≡ true
    entry = subst (λ (z : HirFunction). is_some (value_at z.body.blocks z.body.entry) ≡ true) (sym other_context)
        (nested_entry u.function u.env parts id.0 f own at)

    same_body : g.body ≡ f.body
    same_body = ap (λ (z : HirFunction). z.body) same

    -- it is as forward as it was
    is_apt : IsApt a.env g
    is_apt = record {
      entry = entry;
      forward = is_forward (as_flow (context_of a.env g true))
          (forward_alike f g u.env a.env true same_body (forward.nested id.0 f at));
    }

    pass_other : (e : InferError) → pass_end a.env g true ≡ Err e → IsOther (named id e)
    pass_other e q = other_named id e
        (forward_is_settled a.env g true entry
        (forward_alike f g u.env a.env true same_body (forward.nested id.0 f at)) e q)

    range_other : (h : HirFunction) (env : Environment) (e : InferError) → range_pass true h env ≡ Err e
        → IsOther (named id e)
    range_other h env e q = other_named id e (other_error (range_pass true h env) e (other_ranges true h env) q)

    marked_turns : (r : Result (HirFunction × Analysis) InferError) → Marked id g a r → Meets IsOther (Turned g a) r
    marked_turns r (apt p q) = turns_stated IsOther id range_other g a places pass_other r q
    marked_turns r (unapt wrong) = absurd (wrong is_apt)

  -- the walk with marks never ends in one
  pub none_marked : (e : InferError) → IsUnsettled e → Below Marked most_levels u.function (analysis u.env []) (Err e)
      → ⊥
  none_marked e unsettled h =
      goes IsOther Marked u.env parts.tables Own NoneFaced (λ id f own at. own_places id.0 f own at)
      (λ id f g a own at same agrees faces places. marked_turns id f g a own at same places) most_levels u.function
      u.function [] (λ k. Unit {0}) (analysis u.env []) refl deep all_tree
      (stands_self NoneFaced u.env (λ k f none at. absurd none)) all_once (Err e) h unsettled

  -- the root is as forward as it was
  pub root_forward : (env : Environment) → goes_forward (as_flow (context_of env u.function false)) ≡ true
  root_forward env = is_forward (as_flow (context_of env u.function false))
      (forward_alike u.function u.function u.env env false refl forward.root)

  pub root_has_entry : is_some (value_at u.function.body.blocks u.function.body.entry) ≡ true
  root_has_entry = root_entry u.function u.env parts
