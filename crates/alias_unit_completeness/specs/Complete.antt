-- Each refusal of an inference has its cause in the unit: it blames a function that isn't plain, or that isn't
-- forward, or numbers are wanting.
use Rattle.std.specs.Prelude.{◌≡◌, ◌≢◌, ℕ, ◌+◌, ◌≤◌, Bool, true, false, if◌then◌else◌, nat_le, List, [], Option, Some}
use Rattle.std.specs.Prelude.{None, Result, Ok, Err, ⊤, is_some, length, map, slice_get, refl}
use Rattle.alias_base.specs.Answer.{◌>>=◌}
use Rattle.alias_base.specs.Find.{value_at}
use Rattle.std.specs.Option.{option_map_or}
use Rattle.std.proofs.Common.{ap, sym, ◌∙◌, subst, arith}
use Rattle.alias_base.specs.declared.ids.FunctionId.{FunctionId}
use Rattle.alias_base.specs.declared.ids.IdentifierId.{IdentifierId}
use Rattle.alias_base.specs.declared.ids.InstructionId.{InstructionId}
use Rattle.alias_answer_laws.proofs.applies.Calling.{uninferred_without}
use Rattle.alias_answer_laws.specs.answers.FunctionLaws.{got_all}
use Rattle.alias_answer_laws.specs.answers.Applies.{InstructionsLackApply}
use Rattle.alias_answer_laws.specs.answers.Avoiding.{Avoids, Answered, avoids_then, is_unreplaced}
use Rattle.alias_answer_laws.specs.answers.KnownUnitLaws.{unit_always_known}
use Rattle.alias_answer_laws.specs.answers.UnitLaws.{unit_never_left}
use Rattle.alias_answer_laws.specs.answers.ValidationLaws.{validated_says}
use Rattle.alias_effects.specs.Inference.{pass_end, env_after}
use Rattle.alias_effects.specs.Recording.{with_effects_of}
use Rattle.alias_effects.specs.declared.output.PassEnd.{PassEnd}
use Rattle.alias_effects.specs.declared.solved.Solved.{Solved}
use Rattle.alias_graph.specs.recorded.BlockListings.{listed}
use Rattle.alias_graph.specs.declared.recorded.listing.Listing.{Listing}
use Rattle.alias_hir.specs.Values.{created}
use Rattle.alias_hir.specs.Errors.{is_memory}
use Rattle.alias_hir.specs.declared.env.Environment.{Environment}
use Rattle.alias_hir.specs.declared.env.Unit.{Unit as HirUnit}
use Rattle.alias_hir.specs.declared.error.Counter.TheVariants.{GraphPositions}
use Rattle.alias_hir.specs.declared.error.HirError.{HirError}
use Rattle.alias_hir.specs.declared.error.HirError.TheVariants as hir
use Rattle.alias_hir.specs.declared.error.InferError.{InferError}
use Rattle.alias_hir.specs.declared.error.InferError.TheVariants as error
use Rattle.alias_hir.specs.declared.hir.HirFunction.{HirFunction}
use Rattle.alias_hir.specs.declared.report.Report.{Report}
use Rattle.alias_fitting_laws.specs.pruning.BelowLaws.{below_distinct}
use Rattle.alias_nested.proofs.Counting.{numbers_innermost_first, there_among, times_in_tree}
use Rattle.alias_nested.proofs.Creating.{once_again}
use Rattle.alias_nested.proofs.InOrder.{once_below}
use Rattle.alias_nested.specs.Analysis.{named, Analysis, analysis, analysed, most_levels, is_free}
use Rattle.alias_nested.specs.Answers.{FunctionAnalysed, AnalysedWith, Analyses, AnalysesInto}
use Rattle.alias_nested.specs.Created.{created_functions}
use Rattle.alias_nested.specs.Order.{innermost_first}
use Rattle.alias_nesting_laws.specs.FittingLaws.{Fitted, fitted}
use Rattle.alias_nested.specs.Units.{RootAnalysis, validated, root_analysed, all_analysed, UnitAnalysis, unit_analysed}
use Rattle.alias_nested.specs.Units.{InfersUnit}
use Rattle.alias_nested.specs.declared.infer.Inferred.{Inferred}
use Rattle.alias_answer_laws.proofs.order.Levels.{fits_within}
use Rattle.alias_range_pass.specs.Passes.{Ranged, ranged, range_pass}
use Rattle.alias_range_pass.specs.Refusals.{unreplaced, none_unreplaced, listing_or, positions_left, recorded}
use Rattle.alias_range_pass.specs.places.Keeping.{but_context}
use Rattle.alias_range_pass.specs.summary.Summaries.{tracked}
use Rattle.alias_rules.specs.Fitting.{function_fits}
use Rattle.alias_rules.specs.Functions.{rules_hold, of_function}
use Rattle.alias_rules.specs.declared.rules.Rule.TheVariants.{Distinct}
use Rattle.alias_rules.specs.function_rules.Rules.{is_among, first_again, own_identifiers}
use Rattle.alias_rules.specs.Nesting.{created_in, created_at, times}
use Rattle.alias_rules.specs.RuleLaws.{rules_make_function_fit}
use Rattle.alias_validate.specs.Levels.{is_within}
use Rattle.alias_visit.specs.Places.{created_places}
use Rattle.alias_plainness.specs.Making.{number}
use Rattle.alias_plainness.specs.Plainness.{IsPlain}
use Rattle.alias_completeness.specs.AgreeingFacts.{AgreesOn}
use Rattle.alias_completeness.specs.Callable.{CreatesCallable}
use Rattle.alias_completeness.specs.Completeness.{with_context, grown_pass}
use Rattle.alias_completeness.specs.Grown.{forward_alike}
use Rattle.alias_completeness.specs.Passing.{IsPlainAnswer}
use Rattle.alias_completeness.specs.summaries.Faces.{HasPlaces, TheseHaveFaces, faces_create}
use Rattle.alias_completeness.specs.summaries.Faces.{context_ids}
use Rattle.alias_unit_completeness.specs.Answering.{Meets, AllMeet, meets_then, caused_meets, meets_error, One, Below}
use Rattle.alias_unit_completeness.specs.Answering.{AsStated, below_with, below_stated}
use Rattle.alias_unit_completeness.specs.Below.{numbers_below, EachBelow, SummaryIsInOrder}
use Rattle.alias_unit_completeness.specs.Beginning.{agrees_kept, IsBelow, root_inside, nested_inside, root_entry}
use Rattle.alias_unit_completeness.specs.Beginning.{nested_entry, closed, below_fit, created_below, created_among}
use Rattle.alias_unit_completeness.specs.Counted.{IsCounted, listed_counted}
use Rattle.alias_unit_completeness.specs.Moments.{unit_faces, not_again, returns_within}
use Rattle.alias_unit_completeness.specs.Passing.{pass_of, forward_is_settled, Caused, nested_blamed, root_blamed}
use Rattle.alias_unit_completeness.specs.Refusals.{BlamesRightly, IsCaused}
use Rattle.alias_unit_completeness.specs.Turning.{turns_stated, turns_by_passes}
use Rattle.alias_unit_completeness.specs.Replacing.{turns_replaced}
use Rattle.alias_unit_completeness.specs.Standing.{Stands, stands_self}
use Rattle.alias_unit_completeness.specs.Walking.{After, Once, Tree, Turned, goes}

-- ---- behind the effects pass

-- not that a counter is at its last value, nor that an Apply is left or an operand lacks an effect: for no other
-- reason is anything refused behind the effects pass
abbrev is_early : InferError → Bool
is_early (error.TooMany which) = false
is_early (error.UnreplacedApply i report) = false
is_early (error.EffectsNotInferred x) = false
is_early e = true

abbrev IsLate : {A : Type 0} → Result A InferError → Type 0
IsLate {A} r = Avoids is_early (Answered {A = A}) r

late_then : {A B : Type 0} (r : Result A InferError) (g : A → Result B InferError) → IsLate r → ((x : A) → IsLate (g x))
    → IsLate (r >>= g)
late_then {A} {B} r g h k = avoids_then is_early (Answered {A = A}) (Answered {A = B}) r g h (λ x t. k x)

late_left : (o : Option InstructionId) → IsLate (none_unreplaced o)
late_left None = tt
late_left (Some i) = refl

late_listing : (r : Result Listing HirError) → IsCounted r → IsLate (listing_or r)
late_listing (Ok l) h = tt
late_listing (Err (hir.TooMany which)) h = refl
late_listing (Err (hir.Memory e)) h = absurd h

late_room : (b : Bool) → (let r : Result ⊤ InferError = if b then Ok tt else Err (error.TooMany GraphPositions) in
    IsLate r)
late_room true = tt
late_room false = refl

late_ranges : (b : Bool) (f : HirFunction) (env : Environment) → IsLate (range_pass b f env)
late_ranges b f env =
    late_then (recorded f) (λ l. Ok (ranged b f env l))
    (late_then (none_unreplaced (unreplaced f)) _ (late_left (unreplaced f)) (λ q.
    late_then (listing_or (listed f)) _ (late_listing (listed f) (listed_counted f)) (λ l.
    late_then (positions_left l.next (length (tracked f))) _
    (late_room (nat_le (l.next + length (tracked f)) 4294967295)) (λ t. tt)))) (λ l. tt)

late_error : {A : Type 0} (r : Result A InferError) (e : InferError) → IsLate r → r ≡ Err e → is_early e ≡ false
late_error {A} r e h q = subst (Avoids is_early (Answered {A = A})) q h

-- ---- whatever has its cause

module _ (u : HirUnit) where
  late_caused : (e : InferError) → is_early e ≡ false → Caused u e
  late_caused (error.TooMany which) h = (tt, refl)
  late_caused (error.UnreplacedApply i report) h = (tt, refl)
  late_caused (error.EffectsNotInferred x) h = (tt, refl)
  late_caused e h = cc

  late_named : (id : FunctionId) (e : InferError) → is_early e ≡ false → Caused u (named id e)
  late_named id (error.TooMany which) h = (tt, refl)
  late_named id (error.UnreplacedApply i report) h = (tt, refl)
  late_named id (error.EffectsNotInferred x) h = (tt, refl)
  late_named id e h = cc

  late_meets : {A : Type 0} (r : Result A InferError) → IsLate r → Meets (Caused u) (λ x. Unit {0}) r
  late_meets r h = caused_meets (Caused u) r (λ e q. late_caused e (late_error r e h q))

  -- the root, whose effects pass is refused with cause
  root_meets : (f : HirFunction) (a : Analysis) → ((e : InferError) → pass_end a.env f false ≡ Err e → Caused u e)
      → Meets (Caused u) (λ (r : RootAnalysis). Unit {0}) (root_analysed f a)
  root_meets f a h =
      meets_then (Caused u) (λ (e : PassEnd). Unit {0}) (λ (r : RootAnalysis). Unit {0}) (pass_end a.env f false) _
      (caused_meets (Caused u) (pass_end a.env f false) h) (λ e p.
      meets_then (Caused u) (λ (r : Ranged). Unit {0}) (λ (r : RootAnalysis). Unit {0})
      (range_pass false (with_effects_of e.solved f) (env_after a.env e)) _
      (late_meets (range_pass false (with_effects_of e.solved f) (env_after a.env e))
      (late_ranges false (with_effects_of e.solved f) (env_after a.env e))) (λ r q.
      meets_then (Caused u) (λ (m : Environment). Unit {0}) (λ (r : RootAnalysis). Unit {0})
      (validated r.after.0 r.after.1) _
      (late_meets (validated r.after.0 r.after.1) (validated_says is_early (λ x. refl) r.after.0 r.after.1))
      (λ more t. tt)))

-- neither since an Apply is left nor since an operand lacks an effect
is_caused : (u : HirUnit) (e : InferError)
    → ((i : InstructionId) (report : Report) → e ≢ error.UnreplacedApply i report)
    → ((x : IdentifierId) → e ≢ error.EffectsNotInferred x) → Caused u e → IsCaused u e
is_caused u (error.UnreplacedApply i report) apply operand h = apply i report refl
is_caused u (error.EffectsNotInferred x) apply operand h = operand x refl
is_caused u (error.PassFault f pass) apply operand h = let no : true ≡ false = h.1 in cc
is_caused u (error.Memory x) apply operand h = let no : true ≡ false = h.1 in cc
is_caused u e apply operand h = h.0

-- ---- the functions below the function of a unit

-- the function is one that the inference takes
module _ (u : HirUnit) (fits : function_fits u.function u.env ≡ true) where
  abbrev parts : Fitted u.function u.env
  parts = fitted u.function u.env fits

  abbrev Own : ℕ → Type 0
  Own = IsBelow u.function u.env parts

  -- they are those that are asked for
  numbered : numbers_below u.env u.function ≡ parts.below
  numbered = ap (λ (o : Option (List ℕ)). option_map_or (λ (ks : List ℕ). ks) o []) parts.tree

  of_below : (P : HirFunction → Type 0) → EachBelow P u.env u.function → (k : ℕ) (f : HirFunction) → Own k
      → slice_get u.env.functions k ≡ Some f → P f
  of_below P each k f own at = each k f (ap (λ ks. is_among ks k) numbered ∙ own) at

  -- the rules ask that their own places are distinct and in the table
  own_places : (k : ℕ) (f : HirFunction) → Own k → slice_get u.env.functions k ≡ Some f
      → HasPlaces (length u.env.identifiers) f
  own_places k f own at = record {
    distinct = not_again (Some (record { 0 = k })) (first_again [] (own_identifiers f))
        (sym (ap (of_function Distinct u.env k) at) ∙ parts.rule_below Distinct refl k own);
    within = returns_within u.env f (below_fit u.function u.env parts k f own at);
  }

  -- so they have faces, where their summaries are in order
  own_faces : EachBelow SummaryIsInOrder u.env u.function
      → TheseHaveFaces Own (length u.env.identifiers) u.env.functions
  own_faces ordered k f own at =
      record { places = own_places k f own at; summary = of_below SummaryIsInOrder ordered k f own at }

  -- what the root names means the same once the functions below it are analysed
  root_agrees : (Faced W : ℕ → Type 0) (env : Environment) → Stands Faced u.env [] W env → AgreesOn u.function u.env env
  root_agrees Faced W env s = record {
    agrees = agrees_kept u.env env parts.tables s.tables;
    contexts = λ i x found. of_created (created x.value);
  }
    where
      of_created : (o : Option FunctionId) → map number (created_places env o) ≡ map number (created_places u.env o)
      of_created None = refl
      of_created (Some c) = s.contexts c.0 refl

  all_once : Once [] (λ k. Unit {0}) (innermost_first most_levels u.env.functions (created_functions u.function))
  all_once = record {
    once = λ j.
        let none : times [] j ≡ 0 = refl in
        let a = once_below u.function u.env fits most_levels j in
        omega arith;
    waits = λ j h. tt;
  }

  -- those below are a tree
  all_tree : Tree u.env Own most_levels [] (created_in u.function)
  all_tree =
      let in_tree : (j : ℕ) → times [] j
      + times (numbers_innermost_first most_levels (created_at u.env) (created_in u.function)) j ≤ times parts.below j
      = times_in_tree 63 most_levels u.env [] (created_in u.function) parts.below parts.tree in
      record {
        once = λ j.
            let a = in_tree j in
            let b : times parts.below j ≤ 1 = once_again [] parts.below j
            (below_distinct u.env u.function parts.below parts.tree) in
            omega arith;
        own = λ j h. there_among parts.below j
            (let none : times [] j ≡ 0 = refl in let a = in_tree j in omega arith);
      }

  deep : is_within 64 u.env u.function ≡ true
  deep = fits_within u.function u.env fits

  -- ---- effects passes, over tables that have grown

  -- a function that is another one but for the effects of its context places
  other_context : (f g : HirFunction) → but_context g ≡ but_context f → g ≡ with_context g.context f
  other_context f g same = ap (λ (z : HirFunction). record z { context = g.context }) same

  module _ (id : FunctionId) (f g : HirFunction) (env : Environment) (own : Own id.0)
      (at : slice_get u.env.functions id.0 ≡ Some f) (same : but_context g ≡ but_context f)
      (agrees : AgreesOn f u.env env) (faces : TheseHaveFaces Own (length env.identifiers) env.functions) where
    -- what it creates is below too
    creates : CreatesCallable env f
    creates = faces_create env f Own faces
        (λ i x c found makes.
        created_below u.function u.env parts id.0 f own at c.0 (created_among f i x c found makes))

    nested_plain : IsPlain f u.env → IsPlainAnswer (pass_end env g true)
    nested_plain plain =
        subst (λ (z : HirFunction). IsPlainAnswer (pass_end env z true)) (sym (other_context f g same))
        (grown_pass f u.env env g.context true (nested_entry u.function u.env parts id.0 f own at) creates agrees
        (nested_inside u.function u.env parts id.0 f own at) (context_ids f g same) plain)

    same_entry : is_some (value_at g.body.blocks g.body.entry) ≡ true
    same_entry = subst (λ (z : HirFunction). is_some (value_at z.body.blocks z.body.entry) ≡ true)
        (sym (other_context f g same)) (nested_entry u.function u.env parts id.0 f own at)

    same_body : g.body ≡ f.body
    same_body = ap (λ (z : HirFunction). z.body) same

    nested_caused : (e : InferError) → pass_end env g true ≡ Err e → Caused u (named id e)
    nested_caused e q =
        nested_blamed u id f at e (pass_of env g true e q) (λ plain. subst IsPlainAnswer q (nested_plain plain))
        (λ forward. forward_is_settled env g true same_entry (forward_alike f g u.env env true same_body forward) e q)

  root_caused : (env : Environment) → AgreesOn u.function u.env env
      → TheseHaveFaces Own (length env.identifiers) env.functions → (e : InferError)
      → pass_end env u.function false ≡ Err e → Caused u e
  root_caused env agrees faces e q =
      let entry = root_entry u.function u.env parts in
      let creates : CreatesCallable env u.function = faces_create env u.function Own faces
      (λ i x c found makes.
      (closed u.function u.env parts).has_level c.0 (created_among u.function i x c found makes)) in
      root_blamed u e (pass_of env u.function false e q)
      (λ plain. subst IsPlainAnswer q (grown_pass u.function u.env env u.function.context false entry
      creates agrees (root_inside u.function u.env parts) refl plain))
      (λ forward. forward_is_settled env u.function false entry
      (forward_alike u.function u.function u.env env false refl forward) e q)

  ranges_caused : (id : FunctionId) (f : HirFunction) (env : Environment) (e : InferError) → range_pass true f env
      ≡ Err e → Caused u (named id e)
  ranges_caused id f env e q = late_named u id e (late_error (range_pass true f env) e (late_ranges true f env) q)

  -- ---- the analysis of nested functions

  -- those that wait for nothing more
  abbrev NoneWaits : ℕ → Type 0
  NoneWaits = After (λ k. Unit {0}) (innermost_first most_levels u.env.functions (created_functions u.function))

  abbrev AllStand : (ℕ → Type 0) → Analysis → Type 0
  AllStand Faced b = Stands Faced u.env [] NoneWaits b.env

  -- where each function's passes are refused for a cause alone
  module _ (E : InferError → Type 0) (one : One) (Faced : ℕ → Type 0)
      (faces : TheseHaveFaces Faced (length u.env.identifiers) u.env.functions)
      (turns : (id : FunctionId) (f g : HirFunction) (a : Analysis) → Own id.0
      → slice_get u.env.functions id.0 ≡ Some f → but_context g ≡ but_context f → AgreesOn f u.env a.env
      → TheseHaveFaces Faced (length a.env.identifiers) a.env.functions → HasPlaces (length a.env.identifiers) g
      → AllMeet E (Turned g a) (one id g a)) where
    below_root : AllMeet E (AllStand Faced) (Below one most_levels u.function (analysis u.env []))
    below_root =
        goes E one u.env parts.tables Own Faced (λ id f own at. own_places id.0 f own at) turns most_levels u.function
        u.function [] (λ k. Unit {0})
        (analysis u.env []) refl deep all_tree (stands_self Faced u.env faces) all_once

  -- No Apply is said to be left over passes of the caller, where no instruction of the functions below carries one.
  pub never_unreplaced : EachBelow InstructionsLackApply u.env u.function → (b : Bool) (e : InferError)
      → AnalysedWith b most_levels u.function (analysis u.env []) (Err e) → is_unreplaced e ≡ false
  never_unreplaced lack b e h =
      below_root (λ z. is_unreplaced z ≡ false) (FunctionAnalysed b) (λ k. ⊥) (λ k f none at. absurd none)
      (λ id f g a own at same agrees faces places.
      let carries : InstructionsLackApply g = subst InstructionsLackApply (sym same)
      (of_below InstructionsLackApply lack id.0 f own at) in
      turns_replaced b id g a places carries)
      (Err e) (below_with b most_levels u.function (analysis u.env []) (Err e) h)

  -- the summaries of the functions below are in order
  module _ (ordered : EachBelow SummaryIsInOrder u.env u.function) where
    -- what has its cause in the unit is a cause
    module _ (E : InferError → Type 0) (weaker : (e : InferError) → Caused u e → E e) (one : One)
        (turns : (id : FunctionId) (g : HirFunction) (a : Analysis) → HasPlaces (length a.env.identifiers) g
        → ((e : InferError) → pass_end a.env g true ≡ Err e → E (named id e))
        → AllMeet E (Turned g a) (one id g a)) where
      below_caused : AllMeet E (AllStand Own) (Below one most_levels u.function (analysis u.env []))
      below_caused =
          below_root E one Own (own_faces ordered) (λ id f g a own at same agrees faces places.
          turns id g a places (λ e q. weaker (named id e) (nested_caused id f g a.env own at same agrees faces e q)))

    -- where the passes keep all
    nested_stated : Meets (Caused u) (AllStand Own) (analysed most_levels u.function (analysis u.env []))
    nested_stated =
        below_caused (Caused u) (λ e h. h) AsStated
        (λ id g a places caused. turns_stated (Caused u) id (ranges_caused id) g a places caused)
        (analysed most_levels u.function (analysis u.env []))
        (below_stated most_levels u.function (analysis u.env []) (analysed most_levels u.function (analysis u.env []))
        refl)

    -- each refusal of the analysis has its cause, but for an Apply that is left or an operand without effect
    pub nested_caused_alone : (e : InferError) → analysed most_levels u.function (analysis u.env []) ≡ Err e
        → ((i : InstructionId) (report : Report) → e ≢ error.UnreplacedApply i report)
        → ((x : IdentifierId) → e ≢ error.EffectsNotInferred x) → IsCaused u e
    nested_caused_alone e q apply operand =
        is_caused u e apply operand
        (meets_error (Caused u) (AllStand Own) (analysed most_levels u.function (analysis u.env [])) e nested_stated q)

    -- over passes of the caller, whatever their law lets them change
    pub passes_blame : (b : Bool) (e : InferError) → AnalysedWith b most_levels u.function (analysis u.env []) (Err e)
        → BlamesRightly u e
    passes_blame b e h =
        below_caused (BlamesRightly u) (λ e c. c.0) (FunctionAnalysed b)
        (λ id g a places caused. turns_by_passes (BlamesRightly u) id (λ f env e q. (ranges_caused id f env e q).0) g a
        places caused (λ pass. tt) b) (Err e)
        (below_with b most_levels u.function (analysis u.env []) (Err e) h)

-- ---- a unit that is well formed

module _ (u : HirUnit) (rules : rules_hold u ≡ Ok tt) where
  fitting : function_fits u.function u.env ≡ true
  fitting = rules_make_function_fit u rules

  pub ordered : EachBelow SummaryIsInOrder u.env u.function
  ordered k f among at = (unit_faces u rules k f at).summary

  pub unapplied : EachBelow InstructionsLackApply u.env u.function
  unapplied k f among at = got_all InstructionsLackApply u.env.functions k f at (uninferred_without u rules)

  -- ---- the whole inference

  unit_meets : Meets (Caused u) (λ (a : UnitAnalysis). Unit {0}) (unit_analysed u)
  unit_meets =
      meets_then (Caused u) (λ (r : RootAnalysis). Unit {0}) (λ (a : UnitAnalysis). Unit {0})
      (all_analysed u.function (analysis u.env [])) _
      (meets_then (Caused u) (AllStand u fitting (Own u fitting)) (λ (r : RootAnalysis). Unit {0})
      (analysed most_levels u.function (analysis u.env [])) (root_analysed u.function) (nested_stated u fitting ordered)
      (λ b s. root_meets u u.function b (root_caused u fitting b.env
      (root_agrees u fitting (Own u fitting) (NoneWaits u fitting) b.env s) s.faces))) (λ r t. tt)

  -- each refusal has its cause
  pub unit_caused : (e : InferError) → unit_analysed u ≡ Err e → IsCaused u e
  unit_caused e q = is_caused u e
      (λ i report same. unit_never_left u rules i report (q ∙ ap Err same))
      (λ x same. unit_always_known u x (q ∙ ap Err same))
      (meets_error (Caused u) (λ (a : UnitAnalysis). Unit {0}) (unit_analysed u) e unit_meets q)

  -- so has one of a call that infers the unit, but for what is free
  pub call_caused : (answer : Result Inferred InferError) → InfersUnit (unit_analysed u) answer → (e : InferError)
      → answer ≡ Err e → is_free e ≡ false → IsCaused u e
  call_caused answer h e q free = unit_caused e (subst (InfersUnit (unit_analysed u)) q h free)

-- ---- calls that analyse the functions below the root

memory_blames : (u : HirUnit) (e : InferError) → is_memory e ≡ true → BlamesRightly u e
memory_blames u (error.Memory x) h = tt
memory_blames u e h = cc

module _ (u : HirUnit) (fits : function_fits u.function u.env ≡ true)
    (ordered : EachBelow SummaryIsInOrder u.env u.function) (b : Bool) where
  answer_blames : (e : InferError)
      → (is_memory e ≡ false → AnalysedWith b most_levels u.function (analysis u.env []) (Err e)) → (free : Bool)
      → is_memory e ≡ free → BlamesRightly u e
  answer_blames e h true free = memory_blames u e free
  answer_blames e h false free = passes_blame u fits ordered b e (h free)

  pub analyses_blame : (answer : Result (List Solved) InferError) (env : Environment)
      → Analyses (AnalysedWith b most_levels u.function (analysis u.env [])) answer env → (e : InferError)
      → answer ≡ Err e → BlamesRightly u e
  analyses_blame answer env h e q =
      answer_blames e (subst (λ r. Analyses (AnalysedWith b most_levels u.function (analysis u.env [])) r env) q h)
      (is_memory e) refl

  pub into_blame : (answer : Result ⊤ InferError) (env : Environment)
      → AnalysesInto (AnalysedWith b most_levels u.function (analysis u.env [])) answer env → (e : InferError)
      → answer ≡ Err e → BlamesRightly u e
  into_blame answer env h e q =
      answer_blames e (subst (λ r. AnalysesInto (AnalysedWith b most_levels u.function (analysis u.env [])) r env) q h)
      (is_memory e) refl
