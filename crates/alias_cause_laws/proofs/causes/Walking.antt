-- The analysis of the functions below a function, as the passes on one after the other.
use Rattle.std.specs.Prelude.{◌≡◌, ℕ, ◌<◌, ◌≤◌, nat_eq, Bool, true, false, List, [], ◌∷◌, ◌++◌, Option, Some, None}
use Rattle.std.specs.Prelude.{Result, Ok, IsOkAnd, length, map, option_map, slice_get, slice_set, refl}
use Rattle.std.specs.List.{flat_map}
use Rattle.std.proofs.Common.{zero, suc, ⊎_elim, ap, sym, ◌∙◌, subst, arith}
use Rattle.std.proofs.lemmas.Bool.{eqb-true}
use Rattle.std.proofs.lemmas.List.{append-nil, append_assoc}
use Rattle.alias_base.specs.declared.ids.FunctionId.{FunctionId}
use Rattle.alias_fitting_laws.specs.bare.EvolvedLaws.{evolves_through}
use Rattle.alias_effects.specs.Inference.{pass_end, env_after}
use Rattle.alias_effects.specs.Recording.{with_effects_of}
use Rattle.alias_effects.specs.declared.output.PassEnd.{PassEnd}
use Rattle.alias_effects.specs.declared.solved.Solved.{Solved}
use Rattle.alias_graph.specs.recorded.Recording.{graph_listed}
use Rattle.alias_graph.specs.declared.recorded.listing.Listing.{Listing}
use Rattle.alias_rules.specs.function_rules.Rules.{is_among}
use Rattle.alias_hir.specs.declared.effect.AliasingEffect.{AliasingEffect}
use Rattle.alias_hir.specs.declared.env.Environment.{Environment}
use Rattle.alias_hir.specs.declared.env.Identifier.{Identifier}
use Rattle.alias_hir.specs.declared.error.InferError.{InferError}
use Rattle.alias_hir.specs.declared.hir.HirFunction.{HirFunction}
use Rattle.alias_nested.proofs.Changing.{slots_stay}
use Rattle.alias_nested.proofs.Counting.{there_among}
use Rattle.alias_nested.proofs.Creating.{created_at_most}
use Rattle.alias_nested.proofs.Evolving.{passed_contexts}
use Rattle.alias_nested.proofs.InOrder.{times_append, in_front, in_rest, in_neither, not_one, same_creates}
use Rattle.alias_nested.proofs.Keeping.{effects_keep, ranged_keeps, annotated_keeps, summary_kept, kept_pruned}
use Rattle.alias_nested.proofs.Keeping.{pruned_self, pruned_through, pruned_fits, pruned_beside, not_itself}
use Rattle.alias_nested.proofs.Keeping.{environment_back}
use Rattle.alias_nested.specs.Analysis.{naming, numbered, Analysed, Analysis, analysis, each, effects_analysed}
use Rattle.alias_nested.specs.Analysis.{completed, completed_with, function_analysed, taken_analysed, put_back}
use Rattle.alias_nested.specs.Analysis.{found_analysed, slot_analysed, analysed}
use Rattle.alias_nested.specs.Created.{created_functions}
use Rattle.alias_nested.specs.Fitting.{FunctionKept, EnvironmentPruned, SummaryFits}
use Rattle.alias_nested.specs.Order.{created_by_slot, innermost_first, numbers, SameInSlot, ChangesOnly}
use Rattle.alias_nested.specs.Roots.{with_effects}
use Rattle.alias_nested.specs.Annotating.{summarized, reset, annotated}
use Rattle.alias_nested.specs.Slots.{emptied}
use Rattle.alias_nesting_laws.specs.FittingLaws.{fitted, first_among, later_among}
use Rattle.alias_nesting_laws.specs.NestingLaws.{taken_out_fits}
use Rattle.alias_nesting_laws.specs.PartLaws.{absent}
use Rattle.alias_nesting_laws.specs.SlotLaws.{length_set, set_other, created_exists, slot_facts}
use Rattle.alias_nesting_laws.specs.Slots.{with_function}
use Rattle.alias_answer_laws.proofs.order.Ordering.{went, naming_ok, differs, effects_made}
use Rattle.alias_fitting_laws.specs.pruning.PruningLaws.{contexts_kept, function_through}
use Rattle.alias_ranges.specs.KeptLaws.{silent_fits}
use Rattle.alias_ranges.specs.Ranges.{ListsFlows}
use Rattle.alias_ranges.specs.laws.ReportLaws.{expression_reports}
use Rattle.alias_ranges.specs.laws.SummaryLaws.{summary_fits}
use Rattle.alias_range_pass.specs.Passes.{Ranged, range_pass}
use Rattle.alias_range_pass.specs.places.Keeping.{but_context}
use Rattle.alias_range_pass.specs.summary.Laws.{EndsWithFlows}
use Rattle.alias_range_pass.specs.summary.Summaries.{tracked}
use Rattle.alias_graph.proofs.Legality.{in_either}
use Rattle.alias_graph.specs.Walks.{IsOneOf}
use Rattle.alias_rules.specs.Fitting.{function_fits}
use Rattle.alias_rules.specs.Nesting.{created_in, times}
use Rattle.alias_rules.specs.Sharing.{context_of, context_at}
use Rattle.alias_rules.specs.TreeLaws.{counted}
use Rattle.alias_rules.specs.declared.rules.Rule.TheVariants.{ListedOnce}
use Rattle.alias_inferred_laws.specs.inferred.Solutions.{but_ranged}
use Rattle.alias_inferred_laws.proofs.inferred.Listing.{places_annotated, without_summary}
use Rattle.alias_inferred_laws.proofs.inferred.Ranging.{PassLeaves, pass_leaves, ranged_flows}
use Rattle.alias_cause_laws.proofs.causes.Alike.{AreAlike}
use Rattle.alias_cause_laws.proofs.causes.Passes.{NamesLess, PassesRan}

-- ---- a chain of functions

-- a function of the unit was analysed as this one, over these identifiers, and left those
pub record Link (u : Environment) (id : FunctionId) (x : Analysed) (new : List Identifier) : Type 0 where
  pub func : HirFunction
  pub slot : slice_get u.functions id.0 ≡ Some func
  pub expression : x.is_function_expression ≡ true
  pub ran : PassesRan u func true x.env x.func
  pub solved : x.solved ≡ numbered id ran.end.solved
  pub left : reset (summarized ran.ranged.summary ran.ranged.after.0).context ran.ranged.after.1.identifiers ≡ new

-- functions were analysed one after the other: each over the identifiers that the one before left
abbrev pub Chained : Environment → List Identifier → List FunctionId → List Analysed → List Identifier → Type 0
Chained u old [] [] new = old ≡ new
Chained u old [] (x ∷ xs) new = ⊥
Chained u old (id ∷ ids) [] new = ⊥
Chained u old (id ∷ ids) (x ∷ xs) new = (x.env.identifiers ≡ old) × (mid : List Identifier) × Link u id x mid
    × Chained u mid ids xs new

pub chained_then : (u : Environment) (old mid new : List Identifier) (ids js : List FunctionId) (xs ys : List Analysed)
    → Chained u old ids xs mid → Chained u mid js ys new → Chained u old (ids ++ js) (xs ++ ys) new
chained_then u old mid new [] js [] ys c d = subst (λ z. Chained u z js ys new) (sym c) d
chained_then u old mid new [] js (x ∷ xs) ys c d = absurd c
chained_then u old mid new (id ∷ ids) js [] ys c d = absurd c
chained_then u old mid new (id ∷ ids) js (x ∷ xs) ys c d =
    (c.0, c.1, c.2, chained_then u c.1 mid new ids js xs ys c.3 d)

-- ---- what is stored

-- in the slot stands the function, with its effects, and the same but for effects of places and the summary; and that
-- ends with its flows
pub record Stored (x : Analysed) (o : Option HirFunction) : Type 0 where
  pub func : HirFunction
  pub in_slot : o ≡ Some func
  pub alike : AreAlike (with_effects x) func
  pub summary : List AliasingEffect
  pub stores : func.aliasing_effects ≡ Some summary
  pub flows : ListsFlows (with_effects x) summary

context_alike : (f g : HirFunction) → but_context g ≡ but_context f → AreAlike f g
context_alike f g e = ap (λ (z : HirFunction). record (but_ranged z) { context = z.context }) e

pub slot_is : (o p : Option HirFunction) (f : HirFunction) → option_map but_context p ≡ option_map but_context o → o
    ≡ Some f → (g : HirFunction) × (p ≡ Some g) × (but_context g ≡ but_context f)
slot_is None p f e h = cc
slot_is (Some x) None f e h = cc
slot_is (Some x) (Some g) f e h =
    let same : x ≡ f = cc in
    let one : but_context g ≡ but_context x = cc in
    (g, refl, one ∙ ap but_context same)

-- effects of context places change nothing of it
pub stored_still : (x : Analysed) (o p : Option HirFunction) → option_map but_context p ≡ option_map but_context o
    → Stored x o → Stored x p
stored_still x o p e s =
    let r = slot_is o p s.func e s.in_slot in
    record {
      func = r.0;
      in_slot = r.1;
      alike = context_alike s.func r.0 r.2 ∙ s.alike;
      summary = s.summary;
      stores = ap (λ (z : HirFunction). z.aliasing_effects) r.2 ∙ s.stores;
      flows = s.flows;
    }

-- ---- the passes over a nested function

-- a nested function was analysed, and is out of its slot
record Passed (u : Environment) (id : FunctionId) (f : HirFunction) (a : Analysis) (h : HirFunction) (b : Analysis) :
    Type 0 where
  one : Analysed
  functions : b.functions ≡ a.functions ++ one ∷ []
  begins : one.env.identifiers ≡ a.env.identifiers
  link : Link u id one b.env.identifiers
  contexts : map but_context b.env.functions ≡ map but_context a.env.functions
  stands : Stored one (Some h)
  kept : FunctionKept f a.env h b.env

annotated_alike : (summary : List AliasingEffect) (f : HirFunction) → AreAlike f (summarized summary f)
annotated_alike summary f = ap (λ ps. record (but_ranged f) { context = ps }) (places_annotated summary f.context)

kept_through : (f g h : HirFunction) (a b c : Environment) → FunctionKept f a g b → FunctionKept g b h c
    → FunctionKept f a h c
kept_through f g h a b c p q = record {
  evolves = evolves_through a b c p.evolves q.evolves;
  still = q.still ∙ p.still;
  fits = q.fits;
}

-- what the range pass and the summary keep
pub range_kept : (f : HirFunction) (env : Environment) (r : Ranged) → function_fits f env ≡ true → range_pass true f env
    ≡ Ok r → FunctionKept f env (annotated r.summary r.after).0 (annotated r.summary r.after).1
range_kept f env r fits h =
    let l : PassLeaves true f env r = pass_leaves true f env r h in
    let ranged : function_fits r.after.0 r.after.1 ≡ true =
    silent_fits f r.after.0 env r.after.1 fits l.still l.kept (expression_reports f env r h) in
    let first : FunctionKept f env r.after.0 r.after.1 = ranged_keeps f r.after.0 env r.after.1 ranged l.still l.kept in
    let s = summary_fits true f env r h fits in
    let summary : SummaryFits r.after.1 r.summary =
    summary_kept env r.after.1 f first.evolves.effects fits r.summary (record { within = s.0; no_call = s.1 }) in
    kept_through f r.after.0 (annotated r.summary r.after).0 env r.after.1 (annotated r.summary r.after).1 first
    (annotated_keeps r.summary r.after.0 r.after.1 ranged summary)

-- the summary ends with the flows
pub flows_listed : (b : Bool) (f : HirFunction) (env : Environment) (r : Ranged) → function_fits f env ≡ true
    → range_pass b f env ≡ Ok r → ListsFlows f r.summary
flows_listed b f env r fits h =
    let l = ranged_flows b f env r fits h in
    subst (λ (q : Result Listing InferError).
    IsOkAnd q (λ l. EndsWithFlows (graph_listed l) l.next f.returns (tracked f) r.summary)) (sym l.1) l.2

abbrev Taken : Type 0
Taken = HirFunction × Analysis

pub ok_same : {A E : Type 0} (x y : A) → ◌≡◌ {A = Result A E} (Ok x) (Ok y) → x ≡ y
ok_same x y h = cc

-- the steps of an analysis of a function that is in its slot
pub record FoundParts (analyse_below : HirFunction → Analysis → Result Analysis InferError) (id : FunctionId) (a : Analysis)
    (x : HirFunction) (b : Analysis) : Type 0 where
  pub below : Analysis
  pub went_below : analyse_below x (record a { env = with_function id (emptied x.returns) a.env }) ≡ Ok below
  pub taken : Taken
  pub went_own : function_analysed id x below ≡ Ok taken
  pub back : put_back id taken ≡ b

pub found_parts : (analyse_below : HirFunction → Analysis → Result Analysis InferError) (id : FunctionId) (a : Analysis)
    (x : HirFunction) (b : Analysis) → found_analysed analyse_below id a (Some x) ≡ Ok b
    → FoundParts analyse_below id a x b
found_parts analyse_below id a x b h =
    let out : Analysis = record a { env = with_function id (emptied x.returns) a.env } in
    let w = went (taken_analysed analyse_below id x out) (λ (s : Taken). Ok (put_back id s)) b h in
    let v = went (analyse_below x out) (function_analysed id x) w.0 w.1 in
    record { below = v.0; went_below = v.1; taken = w.0; went_own = v.2; back = ok_same (put_back id w.0) b w.2 }

some_same : {A : Type 0} (x y : A) → Some x ≡ Some y → x ≡ y
some_same x y h = cc

module _ (u : Environment) where
  function_passed : (id : FunctionId) (g f : HirFunction) (a : Analysis) (s : Taken) → slice_get u.functions id.0
      ≡ Some g → but_context f ≡ but_context g → NamesLess u a.env → function_fits f a.env ≡ true
      → function_analysed id f a ≡ Ok s → Passed u id f a s.0 s.1
  function_passed id g f a s slot same less fits h =
      let w = went (effects_analysed id f a) (completed_with id) s h in
      let p : Taken = w.0 in
      let x = went (naming id (pass_end a.env f true)) (λ e. Ok (effects_made id f a e)) p w.1 in
      let e : PassEnd = x.0 in
      let ended : pass_end a.env f true ≡ Ok e = naming_ok id (pass_end a.env f true) e x.1 in
      let is : effects_made id f a e ≡ p = ok_same (effects_made id f a e) p x.2 in
      let then_ : completed_with id (effects_made id f a e) ≡ Ok s = ap (completed_with id) is ∙ w.2 in
      let f1 : HirFunction = with_effects_of e.solved f in
      let env1 : Environment = env_after a.env e in
      let v = went (completed id f1 env1) (λ (c : HirFunction × Environment).
      Ok (c.0, analysis c.1 (effects_made id f a e).1.functions)) s then_ in
      let c : HirFunction × Environment = v.0 in
      let y = went (naming id (range_pass true f1 env1)) (λ (r : Ranged). Ok (annotated r.summary r.after)) c v.1 in
      let r : Ranged = y.0 in
      let ran : range_pass true f1 env1 ≡ Ok r = naming_ok id (range_pass true f1 env1) r y.1 in
      let set : annotated r.summary r.after ≡ c = ok_same (annotated r.summary r.after) c y.2 in
      let last : ◌≡◌ {A = Taken} (c.0, analysis c.1 (effects_made id f a e).1.functions) s =
      ok_same (c.0, analysis c.1 (effects_made id f a e).1.functions) s v.2 in
      let effects : FunctionKept f a.env f1 env1 = effects_keep f a.env true e fits ended in
      let leaves : PassLeaves true f1 env1 r = pass_leaves true f1 env1 r ran in
      let one : Analysed = record {
        env = a.env;
        func = f;
        is_function_expression = true;
        solved = numbered id e.solved;
      } in
      let done : HirFunction × Environment → Taken = λ z. (z.0, analysis z.1 (a.functions ++ one ∷ [])) in
      let whole : Passed u id f a (annotated r.summary r.after).0 (done (annotated r.summary r.after)).1 = record {
        one = one;
        functions = refl;
        begins = refl;
        link = record {
          func = g;
          slot = slot;
          expression = refl;
          ran = record { fits = fits; same = same; less = less; end = e; ended = ended; ranged = r; ran = ran };
          solved = refl;
          left = refl;
        };
        contexts = ap (λ (z : Environment). z.functions) leaves.kept.rest ∙ passed_contexts a.env e;
        stands = record {
          func = (annotated r.summary r.after).0;
          in_slot = refl;
          alike = annotated_alike r.summary r.after.0 ∙ ap without_summary leaves.still;
          summary = r.summary;
          stores = refl;
          flows = flows_listed true f1 env1 r effects.fits ran;
        };
        kept = kept_through f f1 (annotated r.summary r.after).0 a.env env1 (annotated r.summary r.after).1 effects
            (range_kept f1 env1 r effects.fits ran);
      } in
      subst (λ (z : Taken). Passed u id f a z.0 z.1) last
      (subst (λ (z : HirFunction × Environment). Passed u id f a z.0 (done z).1) set whole)

  -- ---- lists of functions

  -- the functions of a list stand in their slots as in the unit, and each is there once
  pub record Ready (order : List FunctionId) (env : Environment) : Type 0 where
    pub slots : (k : ℕ) → is_among (numbers order) k ≡ true → SameInSlot u env k
    pub once : (k : ℕ) → times (numbers order) k ≤ 1

  -- they were analysed one after the other
  pub record Walked (order : List FunctionId) (a b : Analysis) : Type 0 where
    pub taken : List Analysed
    pub functions : b.functions ≡ a.functions ++ taken
    pub chain : Chained u a.env.identifiers order taken b.env.identifiers
    pub changes : ChangesOnly order a.env b.env
    pub pruned : EnvironmentPruned a.env b.env
    pub stored : (x : Analysed) → IsOneOf x taken → (id : FunctionId) → x.solved.function ≡ Some id
        → (is_among (numbers order) id.0 ≡ true) × Stored x (slice_get b.env.functions id.0)

  pub not_behind : (xs ys : List FunctionId) → ((k : ℕ) → times (numbers (xs ++ ys)) k ≤ 1) → (k : ℕ)
      → is_among (numbers xs) k ≡ true → is_among (numbers ys) k ≡ false
  not_behind xs ys once k h =
      absent (is_among (numbers ys) k) (λ i.
      let a = once k in
      let t = times_append xs ys k in
      let x = counted (numbers xs) k h in
      let y = counted (numbers ys) k i in
      absurd (omega arith))

  pub not_before : (xs ys : List FunctionId) → ((k : ℕ) → times (numbers (xs ++ ys)) k ≤ 1) → (k : ℕ)
      → is_among (numbers ys) k ≡ true → is_among (numbers xs) k ≡ false
  not_before xs ys once k h =
      absent (is_among (numbers xs) k) (λ i.
      let a = once k in
      let t = times_append xs ys k in
      let x = counted (numbers xs) k i in
      let y = counted (numbers ys) k h in
      absurd (omega arith))

  pub ready_front : (xs ys : List FunctionId) (env : Environment) → Ready (xs ++ ys) env → Ready xs env
  ready_front xs ys env r = record {
    slots = λ k h. r.slots k (in_front xs ys k h);
    once = λ k. let a = r.once k in let t = times_append xs ys k in omega arith;
  }

  -- the others, once the first are analysed
  ready_rest : (xs ys : List FunctionId) (env more : Environment) → ChangesOnly xs env more → Ready (xs ++ ys) env
      → Ready ys more
  ready_rest xs ys env more changes r = record {
    slots = λ k h. changes k (not_before xs ys r.once k h) ∙ r.slots k (in_rest xs ys k h);
    once = λ k. let a = r.once k in let t = times_append xs ys k in omega arith;
  }

  walked_both : (xs ys : List FunctionId) (a b c : Analysis) → ((k : ℕ) → times (numbers (xs ++ ys)) k ≤ 1)
      → Walked xs a b → Walked ys b c → Walked (xs ++ ys) a c
  walked_both xs ys a b c once p q = record {
    taken = p.taken ++ q.taken;
    functions = q.functions ∙ ap (λ zs. zs ++ q.taken) p.functions ∙ append_assoc a.functions p.taken q.taken;
    chain = chained_then u a.env.identifiers b.env.identifiers c.env.identifiers xs ys p.taken q.taken p.chain q.chain;
    changes = λ k h. let n = in_neither xs ys k h in q.changes k n.1 ∙ p.changes k n.0;
    pruned = pruned_through a.env b.env c.env p.pruned q.pruned;
    stored = λ x i id e.
        ⊎_elim
        (λ first.
        let s = p.stored x first id e in (
          in_front xs ys id.0 s.0,
          stored_still x (slice_get b.env.functions id.0) (slice_get c.env.functions id.0)
              (q.changes id.0 (not_behind xs ys once id.0 s.0)) s.1,
        ))
        (λ later. let s = q.stored x later id e in (in_rest xs ys id.0 s.0, s.1))
        (in_either p.taken q.taken x i);
  }

  -- ---- contexts

  pub less_still : (env more : Environment) → EnvironmentPruned env more → NamesLess u env → NamesLess u more
  less_still env more p less = λ k x h. less k x
      (subst (λ xs. is_among xs x ≡ true) (contexts_kept env more p.prunes.slots k) h)

  nothing_put : (xs : List HirFunction) (k x : ℕ) (f : HirFunction)
      → is_among (context_of (slice_get (slice_set xs k (emptied f.returns)) k)) x ≡ true → ⊥
  nothing_put [] k x f h = cc
  nothing_put (y ∷ ys) zero x f h = cc
  nothing_put (y ∷ ys) (suc k) x f h = nothing_put ys k x f h

  -- a function that is out of its slot has no context there
  pub less_out : (env : Environment) (id : FunctionId) (f : HirFunction) → NamesLess u env
      → NamesLess u (with_function id (emptied f.returns) env)
  less_out env id f less = λ k x h.
      elim (nat_eq k id.0) as (λ b. nat_eq k id.0 ≡ b → is_among (context_at u k) x ≡ true) [
        | true ↦ λ e. absurd (nothing_put env.functions id.0 x f
            (subst (λ z. is_among (context_of (slice_get (slice_set env.functions id.0 (emptied f.returns)) z)) x
            ≡ true) (eqb-true k id.0 e) h))
        | false ↦ λ e. less k x (subst (λ o. is_among (context_of o) x ≡ true)
            (set_other env.functions id.0 k (emptied f.returns) (λ same. differs k id.0 e same)) h)
      ] refl

  pub put_there : (xs : List HirFunction) (k : ℕ) (g : HirFunction) → k < length xs → slice_get (slice_set xs k g) k
      ≡ Some g
  put_there [] k g h = absurd (omega arith)
  put_there (x ∷ xs) zero g h = refl
  put_there (x ∷ xs) (suc k) g h = put_there xs k g (omega arith)

  pub holder_among : (f : HirFunction) (env : Environment) → function_fits f env ≡ true → (k : ℕ)
      → is_among (numbers (created_functions f)) k ≡ true → is_among (created_in f) k ≡ true
  holder_among f env fits k h =
      let most = created_at_most None f ((fitted f env fits).rule ListedOnce refl) k in
      let there = counted (numbers (created_functions f)) k h in
      there_among (created_in f) k (omega arith)

  -- ---- one function

  module _ (xs : List FunctionId) (id : FunctionId) (x : HirFunction) (a a1 : Analysis) (s : Taken)
      (first : Walked xs (record a { env = with_function id (emptied x.returns) a.env }) a1)
      (one : Passed u id x a1 s.0 s.1)
      (once : (k : ℕ) → times (numbers (xs ++ id ∷ [])) k ≤ 1) where
    back_changes : ChangesOnly (xs ++ id ∷ []) a.env (with_function id s.0 s.1.env)
    back_changes k i =
        let m = in_neither xs (id ∷ []) k i in
        let other : k ≡ id.0 → ⊥ = not_one id k m.1 in
        ap (option_map but_context) (set_other s.1.env.functions id.0 k s.0 other)
        ∙ slots_stay a1.env s.1.env one.contexts k ∙ first.changes k m.0
        ∙ ap (option_map but_context) (set_other a.env.functions id.0 k (emptied x.returns) other)

    abbrev back : List HirFunction
    back = slice_set s.1.env.functions id.0 s.0

    abbrev StoredAt : Analysed → FunctionId → Type 0
    StoredAt y j = (is_among (numbers (xs ++ id ∷ [])) j.0 ≡ true) × Stored y (slice_get back j.0)

    earlier_stored : (y : Analysed) → IsOneOf y first.taken → (j : FunctionId) → y.solved.function ≡ Some j
        → StoredAt y j
    earlier_stored y i j e =
        let z = first.stored y i j e in
        let other : j.0 ≡ id.0 → ⊥ = not_one id j.0 (not_behind xs (id ∷ []) once j.0 z.0) in (
          in_front xs (id ∷ []) j.0 z.0,
          stored_still y (slice_get a1.env.functions j.0) (slice_get back j.0)
              (ap (option_map but_context) (set_other s.1.env.functions id.0 j.0 s.0 other)
              ∙ slots_stay a1.env s.1.env one.contexts j.0) z.1,
        )

    own_number : one.one.solved.function ≡ Some id
    own_number = ap (λ (z : Solved). z.function) one.link.solved

    own_stored : id.0 < length s.1.env.functions → StoredAt one.one id
    own_stored there = (
      in_rest xs (id ∷ []) id.0 (first_among id.0 []),
      subst (Stored one.one) (sym (put_there s.1.env.functions id.0 s.0 there)) one.stands,
    )

    back_stored : id.0 < length s.1.env.functions → (y : Analysed) → IsOneOf y (first.taken ++ one.one ∷ [])
        → (j : FunctionId) → y.solved.function ≡ Some j → StoredAt y j
    back_stored there y i j e =
        ⊎_elim (λ before. earlier_stored y before j e)
        (λ own. ⊎_elim
        (λ (same : y ≡ one.one).
        let number : id ≡ j = some_same id j (sym own_number ∙ ap (λ (z : Analysed). z.solved.function) (sym same)
        ∙ e) in
        subst (StoredAt y) number (subst (λ z. StoredAt z id) (sym same) (own_stored there)))
        (λ none. absurd none) own)
        (in_either first.taken (one.one ∷ []) y i)

    back_walked : id.0 < length s.1.env.functions → EnvironmentPruned a.env (with_function id s.0 s.1.env)
        → Walked (xs ++ id ∷ []) a (put_back id s)
    back_walked there pruned = record {
      taken = first.taken ++ one.one ∷ [];
      functions = one.functions ∙ ap (λ zs. zs ++ one.one ∷ []) first.functions
          ∙ append_assoc a.functions first.taken (one.one ∷ []);
      chain = chained_then u a.env.identifiers a1.env.identifiers s.1.env.identifiers xs (id ∷ []) first.taken
          (one.one ∷ []) first.chain (one.begins, s.1.env.identifiers, one.link, refl);
      changes = back_changes;
      pruned = pruned;
      stored = back_stored there;
    }

  -- what is below a function is walked over
  abbrev pub WalksOver : (HirFunction → Analysis → Result Analysis InferError) → (List FunctionId → List FunctionId)
      → Type 0
  WalksOver below ordered =
      (f : HirFunction) (a b : Analysis) → function_fits f a.env ≡ true → NamesLess u a.env
      → Ready (ordered (created_functions f)) a.env → below f a ≡ Ok b → Walked (ordered (created_functions f)) a b

  -- without the last one, which is out of its slot
  ready_out : (xs : List FunctionId) (id : FunctionId) (x : HirFunction) (env : Environment) → Ready (xs ++ id ∷ []) env
      → Ready xs (with_function id (emptied x.returns) env)
  ready_out xs id x env r = record {
    slots = λ k i.
        let other : k ≡ id.0 → ⊥ = not_one id k (not_behind xs (id ∷ []) r.once k i) in
        ap (option_map but_context) (set_other env.functions id.0 k (emptied x.returns) other)
        ∙ r.slots k (in_front xs (id ∷ []) k i);
    once = λ k. let c = r.once k in let t = times_append xs (id ∷ []) k in omega arith;
  }

  -- a function that another one creates, once those below it are analysed
  taken_walked : (f : HirFunction) (xs : List FunctionId) (id : FunctionId) (x : HirFunction) (a a1 : Analysis)
      (s : Taken) → slice_get a.env.functions id.0 ≡ Some x → function_fits f a.env ≡ true
      → is_among (created_in f) id.0 ≡ true → NamesLess u a.env
      → Ready (xs ++ id ∷ []) a.env → function_fits x (with_function id (emptied x.returns) a.env) ≡ true
      → Walked xs (record a { env = with_function id (emptied x.returns) a.env }) a1 → function_analysed id x a1
      ≡ Ok s → Walked (xs ++ id ∷ []) a (put_back id s)
  taken_walked f xs id x a a1 s at fits among less ready fits0 first h =
      let out : Environment = with_function id (emptied x.returns) a.env in
      let fits1 : function_fits x a1.env ≡ true = pruned_fits out a1.env first.pruned x fits0 in
      let own : is_among (numbers (xs ++ id ∷ [])) id.0 ≡ true = in_rest xs (id ∷ []) id.0 (first_among id.0 []) in
      let g = slot_is (slice_get a.env.functions id.0) (slice_get u.functions id.0) x (sym (ready.slots id.0 own)) at in
      let one : Passed u id x a1 s.0 s.1 = function_passed id g.0 x a1 s g.1 (sym g.2)
      (less_still out a1.env first.pruned (less_out a.env id x less)) fits1 h in
      let there : id.0 < length s.1.env.functions
      = (let c = created_exists a.env f id fits among in let l = length_set a.env.functions id.0 (emptied x.returns) in
      let m = first.pruned.prunes.count in let z = one.kept.evolves.count in omega arith) in
      back_walked xs id x a a1 s first one ready.once there
      (environment_back a.env id x s.0 out s.1.env (with_function id s.0 s.1.env) at
      (not_itself a.env f x id fits among at) refl refl
      (function_through x x s.0 out a1.env s.1.env (pruned_beside out a1.env first.pruned x fits0)
      (kept_pruned x a1.env s.0 s.1.env one.kept)))

  nothing_walked : (f : HirFunction) (a b : Analysis) → function_fits f a.env ≡ true → a ≡ b → Walked [] a b
  nothing_walked f a b fits is =
      let nothing : Walked [] a a = record {
        taken = [];
        functions = sym (append-nil a.functions);
        chain = refl;
        changes = λ k i. refl;
        pruned = pruned_self f a.env fits;
        stored = λ x i id e. absurd i;
      } in
      subst (λ (z : Analysis). Walked [] a z) is nothing

  pub none_found : (env : Environment) (f : HirFunction) (id : FunctionId) → function_fits f env ≡ true
      → is_among (created_in f) id.0 ≡ true → slice_get env.functions id.0 ≡ None → ⊥
  none_found env f id fits among at = let s = slot_facts env f id fits among in let no : None ≡ Some s.0 = sym at
      ∙ s.1 in cc

  module _ (n : ℕ) (below_walks : WalksOver (analysed n) (innermost_first n u.functions)) where
    abbrev ids_below : FunctionId → List FunctionId
    ids_below id = innermost_first n u.functions (created_by_slot (slice_get u.functions id.0))

    abbrev ids_of : FunctionId → List FunctionId
    ids_of id = ids_below id ++ id ∷ []

    pub below_walked : (id : FunctionId) (x : HirFunction) (a a1 : Analysis) → slice_get a.env.functions id.0 ≡ Some x
        → function_fits x (with_function id (emptied x.returns) a.env) ≡ true → NamesLess u a.env
        → Ready (ids_of id) a.env
        → analysed n x (record a { env = with_function id (emptied x.returns) a.env }) ≡ Ok a1
        → Walked (ids_below id) (record a { env = with_function id (emptied x.returns) a.env }) a1
    below_walked id x a a1 at fits0 less ready h =
        let out : Environment = with_function id (emptied x.returns) a.env in
        let own : is_among (numbers (ids_of id)) id.0 ≡ true =
        in_rest (ids_below id) (id ∷ []) id.0 (first_among id.0 []) in
        let same : created_functions x ≡ created_by_slot (slice_get u.functions id.0)
        = sym (ap created_by_slot at) ∙ same_creates (slice_get u.functions id.0) (slice_get a.env.functions id.0)
        (ready.slots id.0 own) in
        subst (λ ids. Walked (innermost_first n u.functions ids) (record a { env = out }) a1) same
        (below_walks x (record a { env = out }) a1 fits0 (less_out a.env id x less)
        (subst (λ ids. Ready (innermost_first n u.functions ids) out) (sym same)
        (ready_out (ids_below id) id x a.env ready)) h)

    pub found_some : (f : HirFunction) (id : FunctionId) (a b : Analysis) (x : HirFunction)
        (p : FoundParts (analysed n) id a x b) → slice_get a.env.functions id.0 ≡ Some x → function_fits f a.env ≡ true
        → is_among (created_in f) id.0 ≡ true → NamesLess u a.env → Ready (ids_of id) a.env
        → Walked (ids_of id) a b
    found_some f id a b x p at fits among less ready =
        let fits0 : function_fits x (with_function id (emptied x.returns) a.env) ≡ true =
        taken_out_fits a.env f x (emptied x.returns) id fits among at refl in
        subst (λ (z : Analysis). Walked (ids_of id) a z) p.back
        (taken_walked f (ids_below id) id x a p.below p.taken at fits among less ready fits0
        (below_walked id x a p.below at fits0 less ready p.went_below) p.went_own)

    pub found_walked : (f : HirFunction) (id : FunctionId) (a b : Analysis) (o : Option HirFunction)
        → slice_get a.env.functions id.0 ≡ o → function_fits f a.env ≡ true → is_among (created_in f) id.0 ≡ true
        → NamesLess u a.env → Ready (ids_of id) a.env
        → found_analysed (analysed n) id a o ≡ Ok b → Walked (ids_of id) a b
    found_walked f id a b None at fits among less ready h = absurd (none_found a.env f id fits among at)
    found_walked f id a b (Some x) at fits among less ready h =
        found_some f id a b x (found_parts (analysed n) id a x b h) at fits among less ready

    -- one function and then others
    each_more : (f : HirFunction) (id : FunctionId) (ids : List FunctionId) (a a1 b : Analysis) → function_fits f a.env
        ≡ true → is_among (created_in f) id.0 ≡ true → NamesLess u a.env → Ready (flat_map ids_of (id ∷ ids)) a.env
        → slot_analysed (analysed n) id a ≡ Ok a1
        → (function_fits f a1.env ≡ true → NamesLess u a1.env → Ready (flat_map ids_of ids) a1.env
        → Walked (flat_map ids_of ids) a1 b) → Walked (flat_map ids_of (id ∷ ids)) a b
    each_more f id ids a a1 b fits among less ready h rest =
        let ys : List FunctionId = flat_map ids_of ids in
        let first : Walked (ids_of id) a a1 =
        found_walked f id a a1 (slice_get a.env.functions id.0) refl fits among less
        (ready_front (ids_of id) ys a.env ready) h in
        walked_both (ids_of id) ys a a1 b ready.once first
        (rest (pruned_fits a.env a1.env first.pruned f fits) (less_still a.env a1.env first.pruned less)
        (ready_rest (ids_of id) ys a.env a1.env first.changes ready))

    each_walked : (f : HirFunction) (ids : List FunctionId) (a b : Analysis) → function_fits f a.env ≡ true
        → ((k : ℕ) → is_among (numbers ids) k ≡ true → is_among (created_in f) k ≡ true) → NamesLess u a.env
        → Ready (flat_map ids_of ids) a.env
        → each (slot_analysed (analysed n)) ids a ≡ Ok b → Walked (flat_map ids_of ids) a b
    each_walked f [] a b fits among less ready h = nothing_walked f a b fits (ok_same a b h)
    each_walked f (id ∷ ids) a b fits among less ready h =
        let w = went (slot_analysed (analysed n) id a) (each (slot_analysed (analysed n)) ids) b h in
        let a1 : Analysis = w.0 in
        each_more f id ids a a1 b fits (among id.0 (first_among id.0 (numbers ids))) less ready w.1
        (λ fits1 less1 ready1. each_walked f ids a1 b fits1 (λ k i. among k (later_among id.0 (numbers ids) k i))
        less1 ready1 w.2)

  -- the analysis of the functions on n levels walks over them in their order
  pub analysed_walked : (n : ℕ) → WalksOver (analysed n) (innermost_first n u.functions)
  unfolding analysed innermost_first
  analysed_walked zero f a b fits less ready h = nothing_walked f a b fits (ok_same a b h)
  analysed_walked (suc n) f a b fits less ready h =
      each_walked n (analysed_walked n) f (created_functions f) a b fits (holder_among f a.env fits) less ready h
