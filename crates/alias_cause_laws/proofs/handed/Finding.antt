-- What the effects pass on a function finds of the functions that it creates: each has the effects of context places that
-- its summary gives.
use Rattle.std.specs.Prelude.{◌≡◌, ℕ, zero, suc, ◌<◌, ◌≤◌, Bool, true, false, List, [], ◌∷◌, ◌++◌, Option, Some, None}
use Rattle.std.specs.Prelude.{Ok, is_none, length, map, option_map, slice_get, slice_set, refl}
use Rattle.std.specs.List.{flat_map, list_all}
use Rattle.std.proofs.Common.{inl, inr, ⊎_elim, ap, sym, ◌∙◌, subst, arith}
use Rattle.std.proofs.lemmas.List.{append-nil, append_assoc}
use Rattle.alias_base.specs.AnswerLaws.{both_true}
use Rattle.alias_base.specs.declared.ids.BlockId.{BlockId}
use Rattle.alias_base.specs.declared.ids.FunctionId.{FunctionId}
use Rattle.alias_hir.specs.Values.{created}
use Rattle.alias_hir.specs.declared.effect.AliasingEffect.{AliasingEffect}
use Rattle.alias_hir.specs.declared.env.Environment.{Environment}
use Rattle.alias_hir.specs.declared.hir.BasicBlock.{BasicBlock}
use Rattle.alias_hir.specs.declared.hir.HirFunction.{HirFunction}
use Rattle.alias_hir.specs.declared.hir.Instruction.{Instruction}
use Rattle.alias_graph.specs.Walks.{IsOneOf}
use Rattle.alias_rules.specs.Fitting.{function_fits}
use Rattle.alias_rules.specs.Nesting.{number_of, created_in, created_of, created_at, times}
use Rattle.alias_rules.specs.TreeLaws.{counted}
use Rattle.alias_rules.specs.function_rules.Rules.{is_among, place_is_uninferred, instruction_is_uninferred}
use Rattle.alias_rules.specs.function_rules.Rules.{block_is_uninferred, own_places_are_uninferred}
use Rattle.alias_rules.specs.function_rules.Rules.{function_is_uninferred}
use Rattle.alias_nesting_laws.specs.FittingLaws.{first_among, later_among}
use Rattle.alias_nesting_laws.specs.NestingLaws.{taken_out_fits}
use Rattle.alias_nesting_laws.specs.PartLaws.{absent, among_cases, not_both}
use Rattle.alias_nesting_laws.specs.SlotLaws.{length_set, set_other, created_exists}
use Rattle.alias_nesting_laws.specs.Slots.{with_function}
use Rattle.alias_effects.specs.Inference.{env_after}
use Rattle.alias_effects.specs.Recording.{with_effects_of}
use Rattle.alias_validate.specs.Levels.{function_within, created_within, is_within}
use Rattle.alias_nested.proofs.Counting.{there_among}
use Rattle.alias_nested.proofs.InOrder.{created_numbers, times_append, in_front, in_rest, in_neither, not_one}
use Rattle.alias_nested.proofs.Keeping.{pruned_fits}
use Rattle.alias_nested.specs.Analysis.{numbered, Analysed, Analysis, each, function_analysed, put_back}
use Rattle.alias_nested.specs.Analysis.{found_analysed, slot_analysed, analysed}
use Rattle.alias_nested.specs.Created.{created_functions}
use Rattle.alias_nested.specs.Order.{created_by_slot, innermost_first, numbers}
use Rattle.alias_nested.specs.Slots.{emptied}
use Rattle.alias_range_pass.specs.Passes.{Ranged}
use Rattle.alias_range_pass.specs.places.Keeping.{but_context}
use Rattle.alias_answer_laws.proofs.order.Ordering.{went}
use Rattle.alias_inferred_laws.proofs.handed.Preceding.{WasThere, IsNew, new_or_there, named_more}
use Rattle.alias_inferred_laws.proofs.inferred.Listing.{Passed, function_passed}
use Rattle.alias_inferred_laws.specs.handed.Handed.{IsNamed}
use Rattle.alias_cause_laws.proofs.causes.Passes.{NamesLess}
use Rattle.alias_cause_laws.proofs.causes.Walking.{FoundParts, found_parts, Ready, Walked, not_behind, not_before}
use Rattle.alias_cause_laws.proofs.causes.Walking.{less_still, less_out, put_there, holder_among}
use Rattle.alias_cause_laws.proofs.causes.Walking.{none_found, below_walked, found_some, found_walked}
use Rattle.alias_cause_laws.proofs.causes.Walking.{analysed_walked, ok_same}
use Rattle.alias_cause_laws.proofs.handed.Summarizing.{ranged_context}
use Rattle.alias_cause_laws.proofs.handed.Untouched.{none_create, recorded_create, pass_untouched, ranged_untouched}
use Rattle.alias_cause_laws.specs.handed.Captures.{context_summarized}

abbrev Taken : Type 0
Taken = HirFunction × Analysis

-- ---- one function

-- its context places had no effect, and have those that its summary gives
record Summarizes (f g : HirFunction) : Type 0 where
  summary : List AliasingEffect
  stores : g.aliasing_effects ≡ Some summary
  context : g.context ≡ map (context_summarized summary) f.context

-- a nested function was analysed, and changed of others those alone that it creates
record Analyses (id : FunctionId) (f : HirFunction) (a : Analysis) (s : Taken) : Type 0 where
  one : Analysed
  functions : s.1.functions ≡ a.functions ++ one ∷ []
  env : one.env ≡ a.env
  func : one.func ≡ f
  number : one.solved.function ≡ Some id
  untouched : (m : ℕ) → is_among (created_in f) m ≡ false
      → slice_get s.1.env.functions m ≡ slice_get a.env.functions m
  summarizes : Summarizes f s.0

function_analyses : (id : FunctionId) (f : HirFunction) (a : Analysis) (s : Taken) → function_fits f a.env ≡ true
    → list_all place_is_uninferred f.context ≡ true → function_analysed id f a ≡ Ok s → Analyses id f a s
function_analyses id f a s fits unknown h =
    let p : Passed id f a s = function_passed id f a s h in
    let r : Ranged = p.ranged in
    let begun : HirFunction = with_effects_of p.end.solved f in
    let mid : Environment = env_after a.env p.end in
    let one : Analysed = record {
      env = a.env;
      func = f;
      is_function_expression = true;
      solved = numbered id p.end.solved;
    } in
    subst (λ (z : Taken). Analyses id f a z) p.is (record {
      one = one;
      functions = refl;
      env = refl;
      func = refl;
      number = refl;
      untouched = λ m off.
          ranged_untouched true begun mid r p.ran m
          (recorded_create p.end.solved.effects f.instructions m (none_create f m off))
          ∙ pass_untouched f a.env true p.end fits p.ended m off;
      summarizes = record {
        summary = r.summary;
        stores = refl;
        context = ranged_context true begun mid r p.ran unknown;
      };
    })

-- ---- what is there

-- the function of the number was analysed, and has the effects of context places that its summary gives
pub record IsSummarized (u env : Environment) (id : FunctionId) : Type 0 where
  pub given : HirFunction
  pub slot : slice_get u.functions id.0 ≡ Some given
  pub func : HirFunction
  pub found : slice_get env.functions id.0 ≡ Some func
  pub summary : List AliasingEffect
  pub stores : func.aliasing_effects ≡ Some summary
  pub context : func.context ≡ map (context_summarized summary) given.context

named_last : (id : FunctionId) (xs : List Analysed) (y : Analysed) → y.solved.function ≡ Some id
    → IsNamed id (xs ++ y ∷ [])
named_last id [] y e = inl (sym e)
named_last id (x ∷ xs) y e = inr (named_last id xs y e)

context_uninferred : (f : HirFunction) → function_is_uninferred f ≡ true → list_all place_is_uninferred f.context ≡ true
context_uninferred f h =
    let a = (both_true _ (list_all (λ (e : BlockId × BasicBlock). block_is_uninferred e.1) f.body.blocks) h).0 in
    let b = (both_true _ (list_all instruction_is_uninferred f.instructions) a).0 in
    let c = (both_true (is_none f.aliasing_effects) (own_places_are_uninferred f) b).1 in
    let d = (both_true _ (place_is_uninferred f.returns) c).0 in
    (both_true _ (list_all place_is_uninferred f.context) d).1

uninferred_at : (fs : List HirFunction) (k : ℕ) (g : HirFunction) → list_all function_is_uninferred fs ≡ true
    → slice_get fs k ≡ Some g → list_all place_is_uninferred g.context ≡ true
uninferred_at [] k g h e = cc
uninferred_at (f ∷ fs) zero g h e =
    let same : f ≡ g = cc in
    subst (λ (z : HirFunction). list_all place_is_uninferred z.context ≡ true) same
    (context_uninferred f (both_true (function_is_uninferred f) (list_all function_is_uninferred fs) h).0)
uninferred_at (f ∷ fs) (suc k) g h e =
    uninferred_at fs k g (both_true (function_is_uninferred f) (list_all function_is_uninferred fs) h).1 e

module _ (u : Environment) where
  -- the function of the number was analysed, as these environment and functions say
  abbrev pub IsKnown : List Analysed → Environment → FunctionId → Type 0
  IsKnown fs env id = IsNamed id fs × IsSummarized u env id

  -- as the effects pass on one of them began, those that it creates were
  abbrev pub EachKnows : List Analysed → Type 0
  EachKnows fs = (xs ys : List Analysed) (x : Analysed) → fs ≡ xs ++ x ∷ ys → (id : FunctionId)
      → IsOneOf id (created_functions x.func) → IsKnown xs x.env id

  pub one_more_knows : (fs : List Analysed) (y : Analysed) → EachKnows fs
      → ((id : FunctionId) → IsOneOf id (created_functions y.func) → IsKnown fs y.env id) → EachKnows (fs ++ y ∷ [])
  one_more_knows fs y old own xs ys x split id i =
      ⊎_elim
      (λ (n : IsNew fs y xs ys x).
      subst (λ zs. IsKnown zs x.env id) n.before
      (subst (λ (z : Analysed). IsKnown fs z.env id) n.same
      (own id (subst (λ (z : Analysed). IsOneOf id (created_functions z.func)) (sym n.same) i))))
      (λ (t : WasThere fs y xs ys x). old xs t.rest x t.all id i)
      (new_or_there fs xs ys x y split)

  still_summarized : (env more : Environment) (id : FunctionId)
      → slice_get more.functions id.0 ≡ slice_get env.functions id.0 → IsSummarized u env id → IsSummarized u more id
  still_summarized env more id same k = record {
    given = k.given;
    slot = k.slot;
    func = k.func;
    found = same ∙ k.found;
    summary = k.summary;
    stores = k.stores;
    context = k.context;
  }

  -- ---- lists of functions

  -- the functions of a list stand in their slots exactly as in the unit, and each is there once
  pub record Begins (order : List FunctionId) (env : Environment) : Type 0 where
    pub slots : (k : ℕ) → is_among (numbers order) k ≡ true → slice_get env.functions k ≡ slice_get u.functions k
    pub once : (k : ℕ) → times (numbers order) k ≤ 1
    pub count : length env.functions ≡ length u.functions

  ready : (order : List FunctionId) (env : Environment) → Begins order env → Ready u order env
  ready order env b = record { slots = λ k h. ap (option_map but_context) (b.slots k h); once = b.once }

  -- those of the order were analysed, and changed no others; and these are known
  pub record Keeps (order ids : List FunctionId) (a b : Analysis) : Type 0 where
    pub more : List Analysed
    pub functions : b.functions ≡ a.functions ++ more
    pub untouched : (k : ℕ) → is_among (numbers order) k ≡ false
        → slice_get b.env.functions k ≡ slice_get a.env.functions k
    pub knows : EachKnows b.functions
    pub known : (id : FunctionId) → IsOneOf id ids → IsKnown b.functions b.env id
    pub covers : (k : ℕ) → is_among (numbers ids) k ≡ true → is_among (numbers order) k ≡ true

  keeps_nothing : (a b : Analysis) → a ≡ b → EachKnows a.functions → Keeps [] [] a b
  keeps_nothing a b is knows =
      let nothing : Keeps [] [] a a = record {
        more = [];
        functions = sym (append-nil a.functions);
        untouched = λ k h. refl;
        knows = knows;
        known = λ id i. absurd i;
        covers = λ k h. h;
      } in
      subst (λ (z : Analysis). Keeps [] [] a z) is nothing

  keeps_both : (xs ys : List FunctionId) (id : FunctionId) (ids : List FunctionId) (a b c : Analysis)
      → ((k : ℕ) → times (numbers (xs ++ ys)) k ≤ 1) → Keeps xs (id ∷ []) a b → Keeps ys ids b c
      → Keeps (xs ++ ys) (id ∷ ids) a c
  keeps_both xs ys id ids a b c once p q =
      let among : is_among (numbers xs) id.0 ≡ true = p.covers id.0 (first_among id.0 []) in
      let own = p.known id (inl refl) in
      let here : IsKnown c.functions c.env id = (
        subst (IsNamed id) (sym q.functions) (named_more id b.functions q.more own.0),
        still_summarized b.env c.env id (q.untouched id.0 (not_behind u xs ys once id.0 among)) own.1,
      ) in
      record {
        more = p.more ++ q.more;
        functions = q.functions ∙ ap (λ zs. zs ++ q.more) p.functions ∙ append_assoc a.functions p.more q.more;
        untouched = λ k h. let n = in_neither xs ys k h in q.untouched k n.1 ∙ p.untouched k n.0;
        knows = q.knows;
        known = λ j i. ⊎_elim (λ (same : j ≡ id). subst (IsKnown c.functions c.env) (sym same) here)
            (λ later. q.known j later) i;
        covers = λ k h. among_cases id.0 (numbers ids) k (is_among (numbers (xs ++ ys)) k ≡ true) h
            (λ same. subst (λ z. is_among (numbers (xs ++ ys)) z ≡ true) (sym same) (in_front xs ys id.0 among))
            (λ later. in_rest xs ys k (q.covers k later));
      }

  -- ---- levels

  -- each function that the instructions create is within a level less
  instructions_within : (within : HirFunction → Bool) (is : List Instruction) (k : ℕ)
      → list_all (λ (i : Instruction). created_within within u (created i.value)) is ≡ true
      → is_among (flat_map (λ (i : Instruction). number_of (created i.value)) is) k ≡ true
      → function_within within (slice_get u.functions k) ≡ true
  instructions_within within [] k all h = cc
  instructions_within within (i ∷ is) k all h =
      let others : List ℕ = flat_map (λ (i : Instruction). number_of (created i.value)) is in
      let b = both_true (created_within within u (created i.value))
      (list_all (λ (i : Instruction). created_within within u (created i.value)) is) all in
      first_within (created i.value) others b.0 h (λ rest. instructions_within within is k b.1 rest)
    where
      first_within : (o : Option FunctionId) (others : List ℕ) → created_within within u o ≡ true
          → is_among (number_of o ++ others) k ≡ true
          → (is_among others k ≡ true → function_within within (slice_get u.functions k) ≡ true)
          → function_within within (slice_get u.functions k) ≡ true
      first_within None others own h rest = rest h
      first_within (Some g) others own h rest =
          among_cases g.0 others k (function_within within (slice_get u.functions k) ≡ true) h
          (λ same. subst (λ z. function_within within (slice_get u.functions z) ≡ true) (sym same) own) rest

  created_is_within : (n : ℕ) (f : HirFunction) (k : ℕ) → is_within (suc n) u f ≡ true
      → is_among (created_in f) k ≡ true → function_within (is_within n u) (slice_get u.functions k) ≡ true
  unfolding is_within
  created_is_within n f k within h = instructions_within (is_within n u) f.instructions k within h

  within_slot : (n k : ℕ) (x : HirFunction) → slice_get u.functions k ≡ Some x
      → function_within (is_within n u) (slice_get u.functions k) ≡ true → is_within n u x ≡ true
  within_slot n k x at h = subst (λ o. function_within (is_within n u) o ≡ true) at h

  within_none : (o : Option HirFunction) → function_within (is_within 0 u) o ≡ true → o ≡ None
  unfolding is_within
  within_none None h = refl
  within_none (Some x) h = cc

  not_there : {X : Type 0} (xs : List X) (k : ℕ) → k < length xs → slice_get xs k ≡ None → ⊥
  not_there [] k h e = absurd (omega arith)
  not_there (x ∷ xs) zero h e = cc
  not_there (x ∷ xs) (suc k) h e = not_there xs k (omega arith) e

  -- on the last level nothing is created
  last_creates : (f : HirFunction) (env : Environment) (order : List FunctionId) → function_fits f env ≡ true
      → Begins order env → is_within 1 u f ≡ true → (k : ℕ) → is_among (numbers (created_functions f)) k ≡ true → ⊥
  last_creates f env order fits begins within k h =
      let id : FunctionId = record { 0 = k } in
      let among : is_among (created_in f) k ≡ true = holder_among u f env fits k h in
      let there : k < length env.functions = created_exists env f id fits among in
      let count = begins.count in
      not_there u.functions k (omega arith)
      (within_none (slice_get u.functions k) (created_is_within 0 f k within among))

  module _ (uninferred : list_all function_is_uninferred u.functions ≡ true)
      (lists : (k j : ℕ) → times (created_numbers u.functions k) j ≡ times (created_at u k) j) where
    -- what an instruction of the table creates, an instruction of a block does
    created_listed : (id : FunctionId) (x : HirFunction) → slice_get u.functions id.0 ≡ Some x → (k : ℕ)
        → is_among (created_in x) k ≡ true → is_among (numbers (created_functions x)) k ≡ true
    created_listed id x slot k h =
        let e : times (numbers (created_functions x)) k ≡ times (created_in x) k =
        subst (λ o. times (numbers (created_by_slot o)) k ≡ times (created_of o) k) slot (lists id.0 k) in
        let c = counted (created_in x) k h in
        there_among (numbers (created_functions x)) k (omega arith)

    -- what is below a function is analysed, and known then
    abbrev pub KeepsBelow : ℕ → Type 0
    KeepsBelow n =
        (f : HirFunction) (a b : Analysis) → function_fits f a.env ≡ true → NamesLess u a.env
        → is_within (suc n) u f ≡ true → Begins (innermost_first n u.functions (created_functions f)) a.env
        → EachKnows a.functions → analysed n f a ≡ Ok b
        → Keeps (innermost_first n u.functions (created_functions f)) (created_functions f) a b

    module _ (n : ℕ) (below_keeps : KeepsBelow n) where
      abbrev ids_below : FunctionId → List FunctionId
      ids_below id = innermost_first n u.functions (created_by_slot (slice_get u.functions id.0))

      abbrev ids_of : FunctionId → List FunctionId
      ids_of id = ids_below id ++ id ∷ []

      -- a function that is in its slot
      module _ (f : HirFunction) (id : FunctionId) (a b : Analysis) (x : HirFunction)
          (p : FoundParts (analysed n) id a x b) (at : slice_get a.env.functions id.0 ≡ Some x)
          (fits : function_fits f a.env ≡ true) (among : is_among (created_in f) id.0 ≡ true)
          (less : NamesLess u a.env)
          (within : function_within (is_within (suc n) u) (slice_get u.functions id.0) ≡ true)
          (begins : Begins (ids_of id) a.env) (knows : EachKnows a.functions) where
        abbrev out : Environment
        out = with_function id (emptied x.returns) a.env

        abbrev with_out : Analysis
        with_out = record a { env = out }

        own : is_among (numbers (ids_of id)) id.0 ≡ true
        own = in_rest (ids_below id) (id ∷ []) id.0 (first_among id.0 [])

        slot : slice_get u.functions id.0 ≡ Some x
        slot = sym (begins.slots id.0 own) ∙ at

        same : created_functions x ≡ created_by_slot (slice_get u.functions id.0)
        same = sym (ap created_by_slot slot)

        fits_out : function_fits x out ≡ true
        fits_out = taken_out_fits a.env f x (emptied x.returns) id fits among at refl

        begins_below : Begins (ids_below id) out
        begins_below = record {
          slots = λ k h.
              let other : k ≡ id.0 → ⊥ = not_one id k (not_behind u (ids_below id) (id ∷ []) begins.once k h) in
              set_other a.env.functions id.0 k (emptied x.returns) other
              ∙ begins.slots k (in_front (ids_below id) (id ∷ []) k h);
          once = λ k. let c = begins.once k in let t = times_append (ids_below id) (id ∷ []) k in omega arith;
          count = length_set a.env.functions id.0 (emptied x.returns) ∙ begins.count;
        }

        first : Keeps (ids_below id) (created_functions x) with_out p.below
        first =
            subst (λ ids. Keeps (innermost_first n u.functions ids) (created_functions x) with_out p.below) same
            (below_keeps x with_out p.below fits_out (less_out u a.env id x less)
            (within_slot (suc n) id.0 x slot within)
            (subst (λ ids. Begins (innermost_first n u.functions ids) out) (sym same) begins_below) knows
            p.went_below)

        walked : Walked u (ids_below id) with_out p.below
        walked = below_walked u n (analysed_walked u n) id x a p.below at fits_out less (ready (ids_of id) a.env begins)
            p.went_below

        step : Analyses id x p.below p.taken
        step = function_analyses id x p.below p.taken (pruned_fits out p.below.env walked.pruned x fits_out)
            (uninferred_at u.functions id.0 x uninferred slot) p.went_own

        off : (k : ℕ) → is_among (numbers (ids_below id)) k ≡ false → is_among (created_in x) k ≡ false
        off k h = absent (is_among (created_in x) k) (λ c.
            not_both (is_among (numbers (ids_below id)) k) (first.covers k (created_listed id x slot k c)) h)

        abbrev left : Environment
        left = p.taken.1.env

        there : id.0 < length left.functions
        there =
            let whole : Walked u (ids_of id) a b = found_some u n (analysed_walked u n) f id a b x p at fits among less
            (ready (ids_of id) a.env begins) in
            let c = created_exists a.env f id fits among in
            let m = whole.pruned.prunes.count in
            let l : length b.env.functions ≡ length (slice_set left.functions id.0 p.taken.0) =
            ap (λ (z : Analysis). length z.env.functions) (sym p.back) in
            let s = length_set left.functions id.0 p.taken.0 in
            omega arith

        back_known : IsKnown p.taken.1.functions (with_function id p.taken.0 left) id
        back_known = (
          subst (IsNamed id) (sym step.functions) (named_last id p.below.functions step.one step.number),
          record {
            given = x;
            slot = slot;
            func = p.taken.0;
            found = put_there u left.functions id.0 p.taken.0 there;
            summary = step.summarizes.summary;
            stores = step.summarizes.stores;
            context = step.summarizes.context;
          },
        )

        back_keeps : Keeps (ids_of id) (id ∷ []) a (put_back id p.taken)
        back_keeps = record {
          more = first.more ++ step.one ∷ [];
          functions = step.functions ∙ ap (λ zs. zs ++ step.one ∷ []) first.functions
              ∙ append_assoc a.functions first.more (step.one ∷ []);
          untouched = λ k h.
              let m = in_neither (ids_below id) (id ∷ []) k h in
              let other : k ≡ id.0 → ⊥ = not_one id k m.1 in
              set_other left.functions id.0 k p.taken.0 other ∙ step.untouched k (off k m.0)
              ∙ first.untouched k m.0 ∙ set_other a.env.functions id.0 k (emptied x.returns) other;
          knows =
              subst EachKnows (sym step.functions)
              (one_more_knows p.below.functions step.one first.knows
              (λ j i. subst (λ z. IsKnown p.below.functions z j) (sym step.env)
              (first.known j (subst (λ z. IsOneOf j (created_functions z)) step.func i))));
          known = λ j i. ⊎_elim
              (λ (same : j ≡ id).
              subst (IsKnown p.taken.1.functions (with_function id p.taken.0 left)) (sym same) back_known)
              (λ none. absurd none) i;
          covers = λ k h. in_rest (ids_below id) (id ∷ []) k h;
        }

        pub some_keeps : Keeps (ids_of id) (id ∷ []) a b
        some_keeps = subst (λ (z : Analysis). Keeps (ids_of id) (id ∷ []) a z) p.back back_keeps

      found_keeps : (f : HirFunction) (id : FunctionId) (a b : Analysis) (o : Option HirFunction)
          → slice_get a.env.functions id.0 ≡ o → function_fits f a.env ≡ true → is_among (created_in f) id.0 ≡ true
          → NamesLess u a.env → function_within (is_within (suc n) u) (slice_get u.functions id.0) ≡ true
          → Begins (ids_of id) a.env → EachKnows a.functions → found_analysed (analysed n) id a o ≡ Ok b
          → Keeps (ids_of id) (id ∷ []) a b
      found_keeps f id a b None at fits among less within begins knows h =
          absurd (none_found u a.env f id fits among at)
      found_keeps f id a b (Some x) at fits among less within begins knows h =
          some_keeps f id a b x (found_parts (analysed n) id a x b h) at fits among less within begins knows

      each_keeps : (f : HirFunction) (ids : List FunctionId) (a b : Analysis) → function_fits f a.env ≡ true
          → ((k : ℕ) → is_among (numbers ids) k ≡ true → is_among (created_in f) k ≡ true) → NamesLess u a.env
          → is_within (suc (suc n)) u f ≡ true → Begins (flat_map ids_of ids) a.env → EachKnows a.functions
          → each (slot_analysed (analysed n)) ids a ≡ Ok b → Keeps (flat_map ids_of ids) ids a b
      each_keeps f [] a b fits among less within begins knows h = keeps_nothing a b (ok_same a b h) knows
      each_keeps f (id ∷ ids) a b fits among less within begins knows h =
          let w = went (slot_analysed (analysed n) id a) (each (slot_analysed (analysed n)) ids) b h in
          let mid : Analysis = w.0 in
          let own : List FunctionId = ids_of id in
          let rest : List FunctionId = flat_map ids_of ids in
          let here : is_among (created_in f) id.0 ≡ true = among id.0 (first_among id.0 (numbers ids)) in
          let front : Begins own a.env = begins_front own rest a.env begins in
          let one : Keeps own (id ∷ []) a mid = found_keeps f id a mid (slice_get a.env.functions id.0) refl fits here
          less (created_is_within (suc n) f id.0 within here) front knows w.1 in
          let walked : Walked u own a mid = found_walked u n (analysed_walked u n) f id a mid
          (slice_get a.env.functions id.0) refl fits here less (ready own a.env front) w.1 in
          let count = walked.pruned.prunes.count in
          let begun = begins.count in
          keeps_both own rest id ids a mid b begins.once one
          (each_keeps f ids mid b (pruned_fits a.env mid.env walked.pruned f fits)
          (λ k i. among k (later_among id.0 (numbers ids) k i)) (less_still u a.env mid.env walked.pruned less) within
          (record {
            slots = λ k i. one.untouched k (not_before u own rest begins.once k i)
                ∙ begins.slots k (in_rest own rest k i);
            once = λ k. let c = begins.once k in let t = times_append own rest k in omega arith;
            count = omega arith;
          }) one.knows w.2)
        where
          begins_front : (xs ys : List FunctionId) (env : Environment) → Begins (xs ++ ys) env → Begins xs env
          begins_front xs ys env b = record {
            slots = λ k h. b.slots k (in_front xs ys k h);
            once = λ k. let c = b.once k in let t = times_append xs ys k in omega arith;
            count = b.count;
          }

    last_keeps : (f : HirFunction) (a b : Analysis) → function_fits f a.env ≡ true → is_within 1 u f ≡ true
        → Begins [] a.env → EachKnows a.functions → a ≡ b → Keeps [] (created_functions f) a b
    last_keeps f a b fits within begins knows is =
        let none = last_creates f a.env [] fits begins within in
        let nothing : Keeps [] (created_functions f) a a = record {
          more = [];
          functions = sym (append-nil a.functions);
          untouched = λ k h. refl;
          knows = knows;
          known = λ id i. absurd (none id.0 (one_among (created_functions f) id i));
          covers = λ k h. absurd (none k h);
        } in
        subst (λ (z : Analysis). Keeps [] (created_functions f) a z) is nothing
      where
        one_among : (ids : List FunctionId) (id : FunctionId) → IsOneOf id ids → is_among (numbers ids) id.0 ≡ true
        one_among [] id i = absurd i
        one_among (x ∷ ids) id i =
            ⊎_elim (λ (same : id ≡ x). subst (λ z. is_among (numbers (z ∷ ids)) id.0 ≡ true) same
            (first_among id.0 (numbers ids))) (λ later. later_among x.0 (numbers ids) id.0 (one_among ids id later)) i

    -- the analysis of the functions on n levels, below which there are none
    pub analysed_keeps : (n : ℕ) → KeepsBelow n
    unfolding analysed innermost_first
    analysed_keeps zero f a b fits less within begins knows h =
        last_keeps f a b fits within begins knows (ok_same a b h)
    analysed_keeps (suc n) f a b fits less within begins knows h =
        each_keeps n (analysed_keeps n) f (created_functions f) a b fits (holder_among u f a.env fits) less within
        begins knows h
