-- In the unit that is handed out no explanation is refused for want of numbers.
use Rattle.std.specs.Prelude.{◌≡◌, ℕ, ◌<◌, ◌≤◌, ◌==◌, ◌||◌, ◌&&◌, nat_eq, not, Bool, true, false, List, [], ◌∷◌, ◌++◌}
use Rattle.std.specs.Prelude.{Option, Some, None, Result, Ok, Err, length, map, slice_get, if◌then◌else◌, refl}
use Rattle.std.proofs.Common.{zero, suc, inl, inr, ⊎_elim, ap, sym, ◌∙◌, subst, arith}
use Rattle.std.proofs.lemmas.Bool.{eqb-true}
use Rattle.alias_base.specs.Answer.{◌>>=◌}
use Rattle.alias_base.specs.declared.ids.FunctionId.{FunctionId}
use Rattle.alias_base.specs.declared.ids.IdentifierId.{IdentifierId}
use Rattle.alias_base.specs.declared.ids.InstructionId.{InstructionId}
use Rattle.alias_hir.specs.declared.env.Environment.{Environment}
use Rattle.alias_hir.specs.declared.env.Identifier.{Identifier}
use Rattle.alias_hir.specs.declared.env.MutableRange.{MutableRange}
use Rattle.alias_hir.specs.declared.env.Unit.{Unit as HirUnit}
use Rattle.alias_hir.specs.declared.error.Counter.{Counter}
use Rattle.alias_hir.specs.declared.error.HirError.{HirError}
use Rattle.alias_hir.specs.declared.hir.HirFunction.{HirFunction}
use Rattle.alias_graph.specs.declared.recorded.listing.Listing.{Listing}
use Rattle.alias_graph.specs.recorded.Recording.{graph_listed}
use Rattle.alias_rules.specs.function_rules.Rules.{is_among}
use Rattle.alias_rules.specs.Functions.{rules_hold}
use Rattle.alias_rules.specs.RuleLaws.{lt_or_le}
use Rattle.alias_effects.specs.Inference.{pass_end, env_after}
use Rattle.alias_effects.specs.Recording.{with_effects_of}
use Rattle.alias_effects.specs.declared.output.PassEnd.{PassEnd}
use Rattle.alias_explain.specs.Causes.{first_cause, mutated_or_not, defined_by, defined_or, cause_of}
use Rattle.alias_explain.specs.Explanations.{function_of, is_reset, with_range, explained_in}
use Rattle.alias_explain.specs.Standing.{stands_in}
use Rattle.alias_explain.specs.declared.cause.Cause.{Cause}
use Rattle.alias_explain.specs.declared.cause.Cause.TheVariants.{Unset, Defined}
use Rattle.alias_explain.specs.declared.explain.Explanation.{Explanation}
use Rattle.alias_explain.specs.declared.explain.ExplainFault.{ExplainFault}
use Rattle.alias_explain.specs.declared.explain.ExplainFault.TheVariants.{NotHere, TooMany}
use Rattle.alias_range_pass.specs.Passes.{Ranged, range_pass}
use Rattle.alias_range_pass.specs.places.Keeping.{but_context}
use Rattle.alias_graph.specs.Walks.{IsOneOf}
use Rattle.alias_nested.specs.Analysis.{Analysed, Analysis, analysis, most_levels, analysed}
use Rattle.alias_nested.specs.Created.{created_functions}
use Rattle.alias_nested.specs.Order.{innermost_first, numbers}
use Rattle.alias_nested.specs.Units.{UnitAnalysis, handed_out, unit_analysed}
use Rattle.alias_nested.proofs.Changing.{slots_stay}
use Rattle.alias_nested.proofs.Counting.{there_among}
use Rattle.alias_nested.proofs.Evolving.{passed_contexts}
use Rattle.alias_answer_laws.specs.order.Order.{nested_innermost_first}
use Rattle.alias_answer_laws.proofs.order.Ordering.{done, Done, goes_over}
use Rattle.alias_answer_laws.proofs.order.Solving.{root_apart}
use Rattle.alias_answer_laws.proofs.order.Staying.{count_alike}
use Rattle.alias_answer_laws.proofs.order.Unit.{order_once}
use Rattle.alias_inferred_laws.specs.inferred.Explanations.{NeverTooMany}
use Rattle.alias_inferred_laws.proofs.inferred.Lasting.{last_of, last_there, SlotHolds, slot_holds, analysed_holds}
use Rattle.alias_inferred_laws.proofs.inferred.Lasting.{none_hold}
use Rattle.alias_inferred_laws.proofs.inferred.Listing.{IsListed, IsRecorded, still_recorded, function_recorded}
use Rattle.alias_inferred_laws.proofs.inferred.Ranging.{PassLeaves, pass_leaves, lists_still}
use Rattle.alias_inferred_laws.proofs.inferred.Rooting.{root_entry, root_begun, root_validated, root_ended}

-- ---- the root

-- what was there as the root's range pass ended
pub record RootRanged (u : HirUnit) (a : UnitAnalysis) : Type 0 where
  pub nested : Analysis
  pub analyses : analysed most_levels u.function (analysis u.env []) ≡ Ok nested
  pub end : PassEnd
  pub ended : pass_end nested.env u.function false ≡ Ok end
  pub ranged : Ranged
  pub ran : range_pass false (with_effects_of end.solved u.function) (env_after nested.env end) ≡ Ok ranged
  pub root : a.inferred.unit.function ≡ ranged.after.0
  pub slots : a.inferred.unit.env.functions ≡ ranged.after.1.functions
  pub identifiers : a.inferred.unit.env.identifiers ≡ ranged.after.1.identifiers
  pub all : a.functions ≡ nested.functions ++ root_entry u nested end ∷ []

pub root_ranged : (u : HirUnit) (a : UnitAnalysis) → unit_analysed u ≡ Ok a → RootRanged u a
root_ranged u a h =
    let b = root_begun u a h in
    let fs : List Analysed = b.nested.functions ++ root_entry u b.nested b.end ∷ [] in
    let e = root_ended (with_effects_of b.end.solved u.function) (env_after b.nested.env b.end) fs b.root b.finishes in
    let whole : handed_out (root_validated e.ranged e.reassigned fs) ≡ a = ap handed_out e.is ∙ b.out in
    record {
      nested = b.nested;
      analyses = b.analyses;
      end = b.end;
      ended = b.ended;
      ranged = e.ranged;
      ran = e.ran;
      root = ap (λ (q : UnitAnalysis). q.inferred.unit.function) (sym whole);
      slots = ap (λ (q : UnitAnalysis). q.inferred.unit.env.functions) (sym whole);
      identifiers = ap (λ (q : UnitAnalysis). q.inferred.unit.env.identifiers) (sym whole);
      all = ap (λ (q : UnitAnalysis). q.functions) (sym whole);
    }

-- ---- each function

or_right : (a b : Bool) → a ≡ false → (a || b) ≡ true → b ≡ true
or_right true b e h = cc
or_right false b e h = h

named_there : (ids : List FunctionId) (id : FunctionId) → is_among (numbers ids) id.0 ≡ true
    → IsOneOf (Some id) (map Some ids)
named_there [] id h = cc
named_there (x ∷ ids) id h =
    elim (nat_eq id.0 x.0) as (λ b. nat_eq id.0 x.0 ≡ b → IsOneOf (Some id) (map Some (x ∷ ids))) [
      | true ↦ λ e. let same : id ≡ x = ap (λ k. let z : FunctionId = record { 0 = k } in z) (eqb-true id.0 x.0 e) in
          inl (ap Some same)
      | false ↦ λ e. inr (named_there ids id (or_right (nat_eq id.0 x.0) (is_among (numbers ids) id.0) e h))
    ] refl

none_past : (xs : List HirFunction) (k : ℕ) (g : HirFunction) → length xs ≤ k → slice_get xs k ≡ Some g → ⊥
none_past [] k g h e = cc
none_past (x ∷ xs) zero g h e = absurd (omega arith)
none_past (x ∷ xs) (suc k) g h e = none_past xs k g (omega arith) e

module _ (u : HirUnit) (a : UnitAnalysis) (rules : rules_hold u ≡ Ok tt) (analysed_is : unit_analysed u ≡ Ok a) where
  pub root : RootRanged u a
  root = root_ranged u a analysed_is

  abbrev pub begun : HirFunction
  begun = with_effects_of root.end.solved u.function

  pub over : Done u.env.functions [] (analysis u.env []) root.nested
      (innermost_first most_levels u.env.functions (created_functions u.function))
  over = goes_over u.env.functions most_levels u.function [] (analysis u.env []) root.nested
      (record { count = refl; slots = λ k h. refl }) (root_apart u rules) root.analyses

  pub leaves : PassLeaves false begun (env_after root.nested.env root.end) root.ranged
  leaves = pass_leaves false begun (env_after root.nested.env root.end) root.ranged root.ran

  -- from when the root's effects pass began
  contexts : map but_context a.inferred.unit.env.functions ≡ map but_context root.nested.env.functions
  contexts = ap (map but_context) root.slots ∙ ap (λ (e : Environment). e.functions) leaves.kept.rest
      ∙ passed_contexts root.nested.env root.end

  -- what was recorded of the last function of a number is in its slot
  pub slot_recorded : (id : FunctionId) → SlotHolds IsRecorded still_recorded function_recorded
      (last_of id root.nested.functions) (slice_get a.inferred.unit.env.functions id.0)
  slot_recorded id =
      slot_holds IsRecorded still_recorded function_recorded (last_of id root.nested.functions)
      (slice_get root.nested.env.functions id.0) (slice_get a.inferred.unit.env.functions id.0)
      (slots_stay root.nested.env a.inferred.unit.env contexts id.0)
      (analysed_holds IsRecorded still_recorded function_recorded most_levels u.function [] (analysis u.env [])
      root.nested (none_hold IsRecorded still_recorded function_recorded u.env) root.analyses id refl)

  recorded_is_listed : (l : Option Analysed) (x : Analysed) (g : HirFunction) → l ≡ Some x
      → SlotHolds IsRecorded still_recorded function_recorded l (Some g) → IsListed g
  recorded_is_listed None x g e h = cc
  recorded_is_listed (Some y) x g e h = h.listed

  slot_listed : (id : FunctionId) (g : HirFunction) → slice_get a.inferred.unit.env.functions id.0 ≡ Some g → IsListed g
  slot_listed id g e =
      ⊎_elim
      (λ (there : id.0 < length u.env.functions).
      let once = order_once u rules id.0 there in
      let among : is_among (numbers (nested_innermost_first u)) id.0 ≡ true =
      there_among (numbers (nested_innermost_first u)) id.0 (omega arith) in
      let is_done : IsOneOf (Some id) (done root.nested) =
      subst (IsOneOf (Some id)) (sym over.functions) (named_there (nested_innermost_first u) id among) in
      let last = last_there id root.nested.functions is_done in
      recorded_is_listed (last_of id root.nested.functions) last.0 g last.1
      (subst (SlotHolds IsRecorded still_recorded function_recorded (last_of id root.nested.functions)) e
      (slot_recorded id)))
      (λ (past : length u.env.functions ≤ id.0).
      let count : length a.inferred.unit.env.functions ≡ length u.env.functions =
      count_alike root.nested.env.functions a.inferred.unit.env.functions contexts ∙ over.stands.count in
      absurd (none_past a.inferred.unit.env.functions id.0 g (omega arith) e))
      (lt_or_le id.0 (length u.env.functions))

  -- each function of the unit that is handed out has a listing
  pub each_is_listed : (which : Option FunctionId) (g : HirFunction) → function_of a.inferred.unit which ≡ Some g
      → IsListed g
  each_is_listed None g e =
      let same : a.inferred.unit.function ≡ g = cc in
      subst IsListed (sym root.root ∙ same) (
        leaves.listing,
        lists_still false begun (env_after root.nested.env root.end) root.ranged leaves,
      )
  each_is_listed (Some id) g e = slot_listed id g e

-- ---- explanations

defined_there : (o : Option InstructionId) (r : Result Cause HirError) (c : Cause) → r ≡ Ok c → (d : Cause)
    × (defined_or o r ≡ Ok d)
defined_there None r c h = (c, h)
defined_there (Some i) r c h = (Defined i, refl)

-- where the function has a listing there is a cause, which may be none
cause_there : (f : HirFunction) (id : IdentifierId) (end : ℕ) → IsListed f → (d : Cause) × (cause_of f id end ≡ Ok d)
cause_there f id end l =
    let c : Cause = first_cause (graph_listed l.0) id end l.0.mutations in
    let m : mutated_or_not f id end ≡ Ok c =
    ap (λ (r : Result Listing HirError). r
    >>= (λ (k : Listing). Ok (first_cause (graph_listed k) id end k.mutations))) l.1 in
    let d = defined_there (defined_by f id end) (mutated_or_not f id end) c m in
    elim (end == 0) as (λ b. (c : Cause) × ((if b then Ok Unset
    else defined_or (defined_by f id end) (mutated_or_not f id end)) ≡ Ok c)) [ true ↦ (Unset, refl) | false ↦ d ]

abbrev NeverRefused : Result Explanation ExplainFault → Type 0
NeverRefused r = (which : Counter) → r ≡ Err (TooMany which) → ⊥

ranged_never : (range : MutableRange) (r : Result Cause HirError) (c : Cause) → r ≡ Ok c
    → NeverRefused (with_range range r)
ranged_never range r c h = λ which e. let is : with_range range r ≡ Ok (record { range = range; cause = c }) =
    ap (with_range range) h in cc

explained_never : (env : Environment) (function : Option FunctionId) (id : IdentifierId) (o : Option HirFunction)
    (x : Option Identifier) → ((g : HirFunction) → o ≡ Some g → IsListed g)
    → NeverRefused (explained_in env function id o x)
explained_never env function id None x h = λ which e. cc
explained_never env function id (Some f) None h = λ which e. cc
explained_never env function id (Some f) (Some x) h =
    let c = cause_there f id x.mutable_range.end.0 (h f refl) in
    elim (stands_in env f id && not (is_reset function f id)) as
    (λ b. NeverRefused (if b then with_range x.mutable_range (cause_of f id x.mutable_range.end.0)
    else Err NotHere)) [
      | true ↦ ranged_never x.mutable_range (cause_of f id x.mutable_range.end.0) c.0 c.1
      | false ↦ λ which e. cc
    ]

pub never_too_many : (u : HirUnit) (a : UnitAnalysis) → rules_hold u ≡ Ok tt → unit_analysed u ≡ Ok a
    → NeverTooMany a.inferred
never_too_many u a rules h = λ function id.
    explained_never a.inferred.unit.env function id (function_of a.inferred.unit function)
    (slice_get a.inferred.unit.env.identifiers id.0) (each_is_listed u a rules h function)
