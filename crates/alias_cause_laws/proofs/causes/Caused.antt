-- No range of a unit that was inferred ends without a cause.
use Rattle.std.specs.Prelude.{◌≡◌, ℕ, ◌<◌, ◌≤◌, ◌&&◌, Bool, true, false, not, if◌then◌else◌, List, Option, Some, None}
use Rattle.std.specs.Prelude.{Result, Ok, Err, length, map, slice_get, refl}
use Rattle.std.proofs.Common.{inl, inr, ⊎_elim, ap, sym, ◌∙◌, subst, arith}
use Rattle.alias_base.specs.AnswerLaws.{both_true}
use Rattle.alias_base.specs.declared.ids.FunctionId.{FunctionId}
use Rattle.alias_base.specs.declared.ids.IdentifierId.{IdentifierId}
use Rattle.alias_fitting_laws.specs.bare.Bare.{bare}
use Rattle.alias_fitting_laws.specs.bare.BareIdentifiers.{identifiers_across}
use Rattle.alias_fitting_laws.specs.bare.BareLaws.{bare_of_places, identifiers_of_bare, context_of_bare, rule_of_bare}
use Rattle.alias_effects.specs.Recording.{with_effects_of}
use Rattle.alias_graph.specs.recorded.BlockListings.{listed}
use Rattle.alias_graph.specs.recorded.Recording.{graph_listed}
use Rattle.alias_graph.specs.declared.recorded.listing.Listing.{Listing}
use Rattle.alias_explain.specs.Causes.{cause_of}
use Rattle.alias_explain.specs.Explanations.{function_of, is_reset, with_range, explained_in}
use Rattle.alias_explain.specs.Standing.{has_place, stands_in}
use Rattle.alias_explain.specs.declared.cause.Cause.{Cause}
use Rattle.alias_explain.specs.declared.cause.Cause.TheVariants.{NoCause}
use Rattle.alias_explain.specs.declared.explain.Explanation.{Explanation}
use Rattle.alias_explain.specs.declared.explain.ExplainFault.TheVariants.{NotHere}
use Rattle.alias_explain.proofs.laws.Found.{never_none}
use Rattle.alias_rules.specs.function_rules.Rules.{is_among, missing, first_missing, listed_instructions}
use Rattle.alias_rules.specs.function_rules.Rules.{instructions_listed, function_is_uninferred}
use Rattle.alias_hir.specs.declared.env.Environment.{Environment}
use Rattle.alias_hir.specs.declared.env.Identifier.{Identifier}
use Rattle.alias_hir.specs.declared.env.MutableRange.{MutableRange}
use Rattle.alias_hir.specs.declared.env.Unit.{Unit as HirUnit}
use Rattle.alias_hir.specs.declared.error.HirError.{HirError}
use Rattle.alias_hir.specs.declared.hir.HirFunction.{HirFunction}
use Rattle.alias_nested.proofs.Changing.{slots_stay}
use Rattle.alias_nested.proofs.Counting.{there_among}
use Rattle.alias_nested.proofs.Evolving.{passed_contexts}
use Rattle.alias_nested.specs.Analysis.{Analysed}
use Rattle.alias_nested.specs.Order.{numbers}
use Rattle.alias_nested.specs.Units.{UnitAnalysis, unit_analysed}
use Rattle.alias_nesting_laws.specs.PartLaws.{absent, not_both}
use Rattle.alias_answer_laws.proofs.order.Staying.{count_alike}
use Rattle.alias_answer_laws.proofs.order.Unit.{order_once}
use Rattle.alias_fitting_laws.specs.pruning.PruningLaws.{contexts_kept, prunes_evolved}
use Rattle.alias_ranges.specs.KeptLaws.{ranged_evolves}
use Rattle.alias_range_pass.specs.Laws.{Causes}
use Rattle.alias_range_pass.specs.places.Causes.{numbers_of}
use Rattle.alias_range_pass.specs.places.Keeping.{but_context}
use Rattle.alias_graph.specs.Reach.{end_of, end_at}
use Rattle.alias_rules.specs.Functions.{rules_hold}
use Rattle.alias_rules.specs.RuleLaws.{past_end, lt_or_le, root_of_rules, nested_of_rules}
use Rattle.alias_rules.specs.Sharing.{identifiers_of, identifiers_at, context_of, context_at}
use Rattle.alias_rules.specs.declared.rules.Rule.TheVariants.{Listed}
use Rattle.alias_rules.specs.Functions.{of_function}
use Rattle.alias_visit.specs.Places.{places_in, identifiers_in}
use Rattle.alias_inferred_laws.proofs.inferred.Listing.{without_summary}
use Rattle.alias_cause_laws.specs.causes.Causes.{EachHasCause}
use Rattle.alias_cause_laws.proofs.causes.Alike.{AreAlike, effects_name, alike_cause, alike_names, has_among, among_has}
use Rattle.alias_cause_laws.proofs.causes.Chain.{Around, around, Analyses, chain_has, link_uninferred}
use Rattle.alias_cause_laws.proofs.causes.Passes.{PassesRan, begun, after, leaves, bare_same, effects_kept}
use Rattle.alias_cause_laws.proofs.causes.Passes.{effects_named, ranged_alike}
use Rattle.alias_cause_laws.proofs.causes.Ranges.{order, parts, root, walked, root_ran, IsOwn, own_unset, own_stays}
use Rattle.alias_cause_laws.proofs.causes.Ranges.{IsRoots, root_unset}
use Rattle.alias_cause_laws.proofs.causes.Recorded.{either_true}
use Rattle.alias_cause_laws.proofs.causes.Walking.{Stored, stored_still}

-- ---- one function

-- where all instructions are listed some are
listed_none : (o : Option FunctionId) (k : Option ℕ) → missing o k ≡ Ok tt → missing None k ≡ Ok tt
listed_none o None h = refl
listed_none o (Some k) h = cc

-- an end that was unset before the range pass, and is the one that the pass left, has a cause in each function that is
-- alike
reason : (f g : HirFunction) → AreAlike f g → instructions_listed None f ≡ Ok tt
    → (l : Listing) (old new : List Identifier) → listed f ≡ Ok l
    → Causes (graph_listed l) l.mutations f.instructions old new
    → (id : IdentifierId) (end : ℕ) → end ≡ end_at new id.0 → end_at old id.0 ≡ 0 → cause_of g id end ≡ Ok NoCause → ⊥
reason f g alike all l old new lists causes id end same unset h =
    never_none f id all l old new lists causes unset
    (ap (cause_of f id) (sym same) ∙ sym (alike_cause f g alike id end) ∙ h)

pub bare_alike : (f g : HirFunction) → AreAlike f g → bare g ≡ bare f
bare_alike f g alike = bare_of_places (without_summary g) (without_summary f) alike

-- ---- an explanation

caused_as : (range : MutableRange) (r : Result Cause HirError) (e : Explanation) → with_range range r ≡ Ok e → r
    ≡ Ok e.cause
caused_as range (Ok c) e h = let made : Explanation = record { range = range; cause = c } in let same : made ≡ e = cc in
    ap (λ (z : Explanation). let q : Result Cause HirError = Ok z.cause in q) same
caused_as range (Err x) e h = cc

not_true : (b : Bool) → not b ≡ true → b ≡ false
not_true true h = cc
not_true false h = refl

-- the identifier stands in the function, wasn't reset, and its end has this cause
record Explains (env : Environment) (function : Option FunctionId) (id : IdentifierId) (f : HirFunction)
    (x : Identifier) (c : Cause) : Type 0 where
  stands : stands_in env f id ≡ true
  kept : is_reset function f id ≡ false
  cause : cause_of f id x.mutable_range.end.0 ≡ Ok c

explains : (env : Environment) (function : Option FunctionId) (id : IdentifierId) (f : HirFunction) (x : Identifier)
    (e : Explanation) → explained_in env function id (Some f) (Some x) ≡ Ok e → Explains env function id f x e.cause
explains env function id f x e h =
    elim (stands_in env f id && not (is_reset function f id)) as
    (λ b. (stands_in env f id && not (is_reset function f id)) ≡ b
    → (if b then with_range x.mutable_range (cause_of f id x.mutable_range.end.0) else Err NotHere) ≡ Ok e
    → Explains env function id f x e.cause) [
      | true ↦ λ t g.
          let b = both_true (stands_in env f id) (not (is_reset function f id)) t in
          record {
            stands = b.0;
            kept = not_true (is_reset function f id) b.1;
            cause = caused_as x.mutable_range (cause_of f id x.mutable_range.end.0) e g;
          }
      | false ↦ λ t g. cc
    ] refl h

module _ (u : HirUnit) (a : UnitAnalysis) (rules : rules_hold u ≡ Ok tt) (is : unit_analysed u ≡ Ok a) where
  abbrev env : Environment
  env = a.inferred.unit.env

  abbrev nested_env : Environment
  nested_env = (root u a rules is).nested.env

  root_uninferred : function_is_uninferred u.function ≡ true
  root_uninferred = (parts u a rules is).function

  abbrev ran : PassesRan u.env u.function false nested_env u.function
  ran = root_ran u a rules is

  abbrev root_after : Environment
  root_after = after u.env u.function root_uninferred false nested_env u.function ran

  -- ---- the tables of what is handed out

  contexts_same : (k : ℕ) → context_at env k ≡ context_at u.env k
  contexts_same k =
      let effects = effects_kept u.env u.function root_uninferred false nested_env u.function ran in
      let l = leaves u.env u.function root_uninferred false nested_env u.function ran in
      ap (λ fs. context_of (slice_get fs k)) (root u a rules is).slots
      ∙ contexts_kept root_after ran.ranged.after.1
      (prunes_evolved root_after ran.ranged.after.1 (ranged_evolves root_after ran.ranged.after.1 l.kept)).slots k
      ∙ contexts_kept nested_env root_after (prunes_evolved nested_env root_after effects.evolves).slots k
      ∙ contexts_kept u.env nested_env (walked u a rules is).pruned.prunes.slots k

  pub slots_same : map but_context env.functions ≡ map but_context nested_env.functions
  slots_same =
      let l = leaves u.env u.function root_uninferred false nested_env u.function ran in
      ap (map but_context) (root u a rules is).slots ∙ ap (λ (e : Environment). e.functions) l.kept.rest
      ∙ passed_contexts nested_env ran.end

  -- a function names what that of the unit does
  pub places_same : (f g : HirFunction) → bare g ≡ bare f → identifiers_in env g ≡ identifiers_in u.env f
  places_same f g e = identifiers_across u.env env contexts_same g ∙ identifiers_of_bare u.env f g (sym e)

  -- ---- the root

  root_listed : instructions_listed None (begun u.env u.function root_uninferred false nested_env u.function ran)
      ≡ Ok tt
  root_listed =
      let effects = effects_kept u.env u.function root_uninferred false nested_env u.function ran in
      rule_of_bare Listed u.env None u.function (begun u.env u.function root_uninferred false nested_env u.function ran)
      (sym effects.still) ∙ root_of_rules Listed u (parts u a rules is).listed

  root_caused : (id : IdentifierId) (f : HirFunction) (x : Identifier) → a.inferred.unit.function ≡ f
      → slice_get env.identifiers id.0 ≡ Some x → Explains env None id f x NoCause → ⊥
  root_caused id f x same there e =
      let first : HirFunction = begun u.env u.function root_uninferred false nested_env u.function ran in
      let l = leaves u.env u.function root_uninferred false nested_env u.function ran in
      let effects = effects_kept u.env u.function root_uninferred false nested_env u.function ran in
      let alike : AreAlike first f = subst (AreAlike first) (sym (root u a rules is).root ∙ same)
      (ranged_alike u.env u.function root_uninferred false nested_env u.function ran) in
      let own : IsRoots u a rules is id.0
      = ⊎_elim
      (λ place. inl (subst (λ xs. is_among xs id.0 ≡ true)
      (places_same u.function f (bare_alike first f alike ∙ effects.still)) (has_among id (places_in env f) place)))
      (λ effect. effects_named u.env u.function root_uninferred false nested_env u.function ran id
      (sym (alike_names first f alike id) ∙ effect))
      (either_true (has_place id (places_in env f)) (effects_name id f) e.stands) in
      let end : x.mutable_range.end.0 ≡ end_at ran.ranged.after.1.identifiers id.0 = ap end_of (sym there)
      ∙ ap (λ ids. end_at ids id.0) (root u a rules is).identifiers in
      reason first f alike root_listed l.listing root_after.identifiers ran.ranged.after.1.identifiers l.lists l.causes
      id x.mutable_range.end.0 end (root_unset u a rules is id.0 own) e.cause

  -- ---- a nested function

  module _ (x : Analysed) (r : Around u.env u.env.identifiers (order u a rules is) nested_env.identifiers x) where
    fresh : function_is_uninferred r.link.func ≡ true
    fresh = link_uninferred u.env (parts u a rules is).environment r.id x r.left r.link

    abbrev first : HirFunction
    first = begun u.env r.link.func fresh true x.env x.func r.link.ran

    first_bare : bare first ≡ bare r.link.func
    first_bare = (effects_kept u.env r.link.func fresh true x.env x.func r.link.ran).still
        ∙ bare_same u.env r.link.func fresh true x.env x.func r.link.ran

    first_listed : instructions_listed None first ≡ Ok tt
    first_listed =
        let o : Option FunctionId = Some (record { 0 = r.id.0 }) in
        let rule : instructions_listed o r.link.func ≡ Ok tt = ap (of_function Listed u.env r.id.0) (sym r.link.slot)
        ∙ nested_of_rules Listed u r.id.0 (parts u a rules is).listed in
        listed_none o (first_missing (length first.instructions) (listed_instructions first))
        (rule_of_bare Listed u.env o r.link.func first (sym first_bare) ∙ rule)

    nested_caused : (id : IdentifierId) (g : HirFunction) (y : Identifier) → AreAlike first g
        → slice_get env.identifiers id.0 ≡ Some y → stands_in env g id ≡ true → has_place id g.context ≡ false
        → cause_of g id y.mutable_range.end.0 ≡ Ok NoCause → ⊥
    nested_caused id g y alike there stands free cause =
        let l = leaves u.env r.link.func fresh true x.env x.func r.link.ran in
        let same : bare g ≡ bare r.link.func = bare_alike first g alike ∙ first_bare in
        let context : numbers_of g.context ≡ context_at u.env r.id.0 = context_of_bare r.link.func g (sym same)
        ∙ sym (ap context_of r.link.slot) in
        let off : is_among (context_at u.env r.id.0) id.0 ≡ false
        = absent (is_among (context_at u.env r.id.0) id.0)
        (λ c. not_both (has_place id g.context)
        (among_has id g.context (subst (λ xs. is_among xs id.0 ≡ true) (sym context) c)) free) in
        let at : identifiers_in u.env r.link.func ≡ identifiers_at u.env r.id.0 =
        sym (ap (identifiers_of u.env) r.link.slot) in
        let own : IsOwn u a rules is x r id.0
        = ⊎_elim
        (λ place. inl (
          subst (λ xs. is_among xs id.0 ≡ true) (places_same r.link.func g same ∙ at)
              (has_among id (places_in env g) place),
          off,
        ))
        (λ effect. ⊎_elim (λ named. inl (subst (λ xs. is_among xs id.0 ≡ true) at named, off)) (λ new. inr new)
        (effects_named u.env r.link.func fresh true x.env x.func r.link.ran id
        (sym (alike_names first g alike id) ∙ effect)))
        (either_true (has_place id (places_in env g)) (effects_name id g) stands) in
        let end : y.mutable_range.end.0 ≡ end_at r.link.ran.ranged.after.1.identifiers id.0 = ap end_of (sym there)
        ∙ own_stays u a rules is x r id.0 own in
        reason first g alike first_listed l.listing
        (after u.env r.link.func fresh true x.env x.func r.link.ran).identifiers
        r.link.ran.ranged.after.1.identifiers l.lists l.causes id y.mutable_range.end.0 end
        (own_unset u a rules is x r id.0 own) cause

  some_is : (f g : HirFunction) → Some f ≡ Some g → f ≡ g
  some_is f g e = cc

  slot_caused : (k : FunctionId) (id : IdentifierId) (g : HirFunction) (y : Identifier) → slice_get env.functions k.0
      ≡ Some g → slice_get env.identifiers id.0 ≡ Some y → Explains env (Some k) id g y NoCause → ⊥
  slot_caused k id g y at there e =
      ⊎_elim
      (λ (low : k.0 < length u.env.functions).
      let w = walked u a rules is in
      let once = order_once u rules k.0 low in
      let among : is_among (numbers (order u a rules is)) k.0 ≡ true =
      there_among (numbers (order u a rules is)) k.0 (omega arith) in
      let one : Analyses u.env k.0 w.taken =
      chain_has u.env u.env.identifiers nested_env.identifiers (order u a rules is) w.taken k.0 w.chain among in
      let x : Analysed = one.one in
      let r : Around u.env u.env.identifiers (order u a rules is) nested_env.identifiers x =
      around u.env u.env.identifiers nested_env.identifiers (order u a rules is) w.taken x w.chain one.there in
      let s : Stored x (slice_get env.functions one.id.0)
      = stored_still x (slice_get nested_env.functions one.id.0) (slice_get env.functions one.id.0)
      (slots_stay nested_env env slots_same one.id.0) (w.stored x one.there one.id one.solved).1 in
      let func : s.func ≡ g = some_is s.func g (sym s.in_slot ∙ ap (slice_get env.functions) one.number ∙ at) in
      let alike : AreAlike (first x r) g = subst (AreAlike (first x r)) func
      (subst (λ (z : HirFunction). AreAlike z s.func) (ap (λ z. with_effects_of z x.func) r.link.solved) s.alike) in
      nested_caused x r id g y alike there e.stands e.kept e.cause)
      (λ (past : length u.env.functions ≤ k.0).
      let count : length env.functions ≡ length nested_env.functions =
      count_alike nested_env.functions env.functions slots_same in
      let same : length nested_env.functions ≡ length u.env.functions = (walked u a rules is).pruned.prunes.count in
      let none : slice_get env.functions k.0 ≡ None = past_end env.functions k.0 (omega arith) in
      let no : None ≡ Some g = sym none ∙ at in
      cc)
      (lt_or_le k.0 (length u.env.functions))

  -- ---- each explanation

  caused_in : (function : Option FunctionId) (id : IdentifierId) (f : HirFunction) (x : Identifier)
      → function_of a.inferred.unit function ≡ Some f → slice_get env.identifiers id.0 ≡ Some x
      → Explains env function id f x NoCause → ⊥
  caused_in None id f x e there h = root_caused id f x (some_is a.inferred.unit.function f e) there h
  caused_in (Some k) id f x e there h = slot_caused k id f x e there h

  caused_where : (function : Option FunctionId) (id : IdentifierId) (o : Option HirFunction) (p : Option Identifier)
      (e : Explanation) → function_of a.inferred.unit function ≡ o → slice_get env.identifiers id.0 ≡ p
      → explained_in env function id o p ≡ Ok e → e.cause ≡ NoCause → ⊥
  caused_where function id None p e f there h none = cc
  caused_where function id (Some g) None e f there h none = cc
  caused_where function id (Some g) (Some x) e f there h none =
      caused_in function id g x f there (subst (Explains env function id g x) none (explains env function id g x e h))

  -- none says that there is no cause
  pub each_has_cause : EachHasCause a.inferred
  each_has_cause = λ function id e h none.
      caused_where function id (function_of a.inferred.unit function) (slice_get env.identifiers id.0) e refl refl h
      none
