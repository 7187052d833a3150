-- Which range ends the analysis of functions one after the other changes.
use Rattle.std.specs.Prelude.{◌≡◌, ℕ, ◌<◌, ◌≤◌, true, false, List, [], ◌∷◌, ◌++◌, Some, length, slice_get, refl}
use Rattle.std.specs.List.{list_all}
use Rattle.std.proofs.Common.{zero, suc, inl, inr, ⊎_elim, ap, sym, ◌∙◌, subst, arith}
use Rattle.alias_base.specs.AnswerLaws.{both_true}
use Rattle.alias_base.specs.declared.ids.FunctionId.{FunctionId}
use Rattle.alias_fitting_laws.specs.bare.BareLaws.{context_of_bare}
use Rattle.alias_effects.specs.Inference.{env_after}
use Rattle.alias_effects.specs.declared.solved.Solved.{Solved}
use Rattle.alias_rules.specs.function_rules.Rules.{is_among, function_is_uninferred, environment_is_uninferred}
use Rattle.alias_hir.specs.declared.env.Environment.{Environment}
use Rattle.alias_hir.specs.declared.env.Identifier.{Identifier}
use Rattle.alias_hir.specs.declared.hir.HirFunction.{HirFunction}
use Rattle.alias_nested.specs.Analysis.{Analysed}
use Rattle.alias_nested.specs.Order.{numbers}
use Rattle.alias_nested.specs.Annotating.{summarized, reset}
use Rattle.alias_nesting_laws.specs.PartLaws.{absent, among_cases, not_both}
use Rattle.alias_range_pass.specs.Passes.{Ranged}
use Rattle.alias_range_pass.specs.places.Causes.{numbers_of}
use Rattle.alias_graph.specs.Reach.{end_at}
use Rattle.alias_graph.specs.Walks.{IsOneOf}
use Rattle.alias_rules.specs.Sharing.{identifiers_of, identifiers_at, context_of, context_at}
use Rattle.alias_cause_laws.proofs.causes.Below.{context_named}
use Rattle.alias_cause_laws.proofs.causes.Ends.{reset_stays, reset_unset, reset_length}
use Rattle.alias_cause_laws.proofs.causes.Passes.{begun, after, bare_same, effects_kept, ends_stay, ranged_length}
use Rattle.alias_cause_laws.proofs.causes.Passes.{more_length}
use Rattle.alias_cause_laws.proofs.causes.Walking.{Link, Chained, range_kept}

pub all_at : (fs : List HirFunction) (k : ℕ) (g : HirFunction) → list_all function_is_uninferred fs ≡ true → slice_get fs k
    ≡ Some g → function_is_uninferred g ≡ true
all_at [] k g h e = cc
all_at (f ∷ fs) zero g h e = let same : f ≡ g = cc in
    subst (λ z. function_is_uninferred z ≡ true) same
    (both_true (function_is_uninferred f) (list_all function_is_uninferred fs) h).0
all_at (f ∷ fs) (suc k) g h e = all_at fs k g
    (both_true (function_is_uninferred f) (list_all function_is_uninferred fs) h).1 e

module _ (u : Environment) (uninferred : environment_is_uninferred u ≡ true) where
  -- ---- one function

  module _ (id : FunctionId) (x : Analysed) (new : List Identifier) (l : Link u id x new) where
    pub link_uninferred : function_is_uninferred l.func ≡ true
    link_uninferred = all_at u.functions id.0 l.func
        (both_true _ (list_all function_is_uninferred u.functions) uninferred).1 l.slot

    -- the function once its summary is known
    abbrev last : HirFunction
    last = summarized l.ran.ranged.summary l.ran.ranged.after.0

    pub link_context : numbers_of last.context ≡ context_at u id.0
    link_context =
        let r : Ranged = l.ran.ranged in
        let kept = range_kept (begun u l.func link_uninferred true x.env x.func l.ran)
        (after u l.func link_uninferred true x.env x.func l.ran) r
        (effects_kept u l.func link_uninferred true x.env x.func l.ran).fits l.ran.ran in
        let bare_last = kept.still ∙ (effects_kept u l.func link_uninferred true x.env x.func l.ran).still
        ∙ bare_same u l.func link_uninferred true x.env x.func l.ran in
        context_of_bare l.func last (sym bare_last) ∙ sym (ap context_of l.slot)

    pub link_named : (n : ℕ) → is_among (context_at u id.0) n ≡ true → is_among (identifiers_at u id.0) n ≡ true
    link_named n h =
        subst (λ xs. is_among xs n ≡ true) (sym (ap (identifiers_of u) l.slot))
        (context_named u l.func n (subst (λ xs. is_among xs n ≡ true) (ap context_of l.slot) h))

    -- no identifier goes
    pub link_length : length x.env.identifiers ≤ length new
    link_length =
        let a = more_length u l.func link_uninferred true x.env x.func l.ran in
        let b = reset_length last.context l.ran.ranged.after.1.identifiers in
        let c : length (reset last.context l.ran.ranged.after.1.identifiers) ≡ length new = ap length l.left in
        omega arith

    -- it is those of when the range pass began
    pub link_after : length new ≡ length (env_after x.env l.ran.end).identifiers
    link_after =
        sym (ap length l.left) ∙ reset_length last.context l.ran.ranged.after.1.identifiers
        ∙ ranged_length u l.func link_uninferred true x.env x.func l.ran

    -- but for context places ends are those that the range pass left
    pub link_left : (n : ℕ) → is_among (context_at u id.0) n ≡ false → end_at new n
        ≡ end_at l.ran.ranged.after.1.identifiers n
    link_left n h =
        ap (λ is. end_at is n) (sym l.left) ∙ reset_stays last.context l.ran.ranged.after.1.identifiers n
        (subst (λ xs. is_among xs n ≡ false) (sym link_context) h)

    -- what doesn't stand in the function keeps its end
    pub link_stays : (n : ℕ) → (is_among (identifiers_at u id.0) n ≡ true → ⊥) → n < length x.env.identifiers
        → end_at new n ≡ end_at x.env.identifiers n
    link_stays n off below =
        let free : is_among (context_at u id.0) n ≡ false =
        absent (is_among (context_at u id.0) n) (λ c. off (link_named n c)) in
        link_left n free
        ∙ ends_stay u l.func link_uninferred true x.env x.func l.ran n
        (λ named. ⊎_elim (λ there. off (subst (λ xs. is_among xs n ≡ true) (sym (ap (identifiers_of u) l.slot)) there))
        (λ new. absurd (omega arith)) named)

    -- what stands in its context alone is unset, where it was
    pub link_unset : (n : ℕ) → (is_among (identifiers_at u id.0) n ≡ true → is_among (context_at u id.0) n ≡ true) → n
        < length x.env.identifiers → end_at x.env.identifiers n ≡ 0 → end_at new n ≡ 0
    link_unset n only below unset =
        elim (is_among (context_at u id.0) n) as (λ b. is_among (context_at u id.0) n ≡ b → end_at new n ≡ 0) [
          | true ↦ λ e. ap (λ is. end_at is n) (sym l.left)
              ∙ reset_unset last.context l.ran.ranged.after.1.identifiers n
              (subst (λ xs. is_among xs n ≡ true) (sym link_context) e)
          | false ↦ λ e. link_stays n (λ there. not_both (is_among (context_at u id.0) n) (only there) e) below ∙ unset
        ] refl

  -- ---- all of them

  pub chain_length : (old new : List Identifier) (ids : List FunctionId) (xs : List Analysed) → Chained u old ids xs new
      → length old ≤ length new
  chain_length old new [] [] c = let e : length old ≡ length new = ap length c in omega arith
  chain_length old new [] (x ∷ xs) c = absurd c
  chain_length old new (id ∷ ids) [] c = absurd c
  chain_length old new (id ∷ ids) (x ∷ xs) c =
      let a = link_length id x c.1 c.2 in
      let b = chain_length c.1 new ids xs c.3 in
      let e : length x.env.identifiers ≡ length old = ap length c.0 in
      omega arith

  -- what stands in none of them keeps its end
  pub chain_stays : (old new : List Identifier) (ids : List FunctionId) (xs : List Analysed) → Chained u old ids xs new
      → (n : ℕ) → ((id : FunctionId) → IsOneOf id ids → is_among (identifiers_at u id.0) n ≡ true → ⊥) → n < length old
      → end_at new n ≡ end_at old n
  chain_stays old new [] [] c n off below = ap (λ is. end_at is n) (sym c)
  chain_stays old new [] (x ∷ xs) c n off below = absurd c
  chain_stays old new (id ∷ ids) [] c n off below = absurd c
  chain_stays old new (id ∷ ids) (x ∷ xs) c n off below =
      let e : length x.env.identifiers ≡ length old = ap length c.0 in
      let there : n < length x.env.identifiers = omega arith in
      let a = link_length id x c.1 c.2 in
      chain_stays c.1 new ids xs c.3 n (λ j i. off j (inr i)) (omega arith)
      ∙ link_stays id x c.1 c.2 n (off id (inl refl)) there ∙ ap (λ is. end_at is n) c.0

  -- what stands in contexts alone is unset, where it was
  pub chain_unset : (old new : List Identifier) (ids : List FunctionId) (xs : List Analysed) → Chained u old ids xs new
      → (n : ℕ) → ((id : FunctionId) → IsOneOf id ids → is_among (identifiers_at u id.0) n ≡ true
      → is_among (context_at u id.0) n ≡ true)
      → n < length old → end_at old n ≡ 0 → end_at new n ≡ 0
  chain_unset old new [] [] c n only below unset = ap (λ is. end_at is n) (sym c) ∙ unset
  chain_unset old new [] (x ∷ xs) c n only below unset = absurd c
  chain_unset old new (id ∷ ids) [] c n only below unset = absurd c
  chain_unset old new (id ∷ ids) (x ∷ xs) c n only below unset =
      let e : length x.env.identifiers ≡ length old = ap length c.0 in
      let there : n < length x.env.identifiers = omega arith in
      let a = link_length id x c.1 c.2 in
      chain_unset c.1 new ids xs c.3 n (λ j i. only j (inr i)) (omega arith)
      (link_unset id x c.1 c.2 n (only id (inl refl)) there (ap (λ is. end_at is n) c.0 ∙ unset))

-- ---- one among them

-- what was analysed before one of them and after it
pub record Around (u : Environment) (old : List Identifier) (ids : List FunctionId) (new : List Identifier)
    (x : Analysed) : Type 0 where
  pub before : List FunctionId
  pub id : FunctionId
  pub behind : List FunctionId
  pub split : ids ≡ before ++ id ∷ behind
  pub earlier : List Analysed
  pub later : List Analysed
  pub left : List Identifier
  pub first : Chained u old before earlier x.env.identifiers
  pub link : Link u id x left
  pub rest : Chained u left behind later new

pub around : (u : Environment) (old new : List Identifier) (ids : List FunctionId) (xs : List Analysed) (x : Analysed)
    → Chained u old ids xs new → IsOneOf x xs → Around u old ids new x
around u old new [] [] x c i = absurd i
around u old new [] (y ∷ xs) x c i = absurd c
around u old new (id ∷ ids) [] x c i = absurd c
around u old new (id ∷ ids) (y ∷ xs) x c i =
    ⊎_elim
    (λ (same : x ≡ y). record {
      before = [];
      id = id;
      behind = ids;
      split = refl;
      earlier = [];
      later = xs;
      left = c.1;
      first = sym c.0 ∙ ap (λ (z : Analysed). z.env.identifiers) (sym same);
      link = subst (λ z. Link u id z c.1) (sym same) c.2;
      rest = c.3;
    })
    (λ later.
    let r : Around u c.1 ids new x = around u c.1 new ids xs x c.3 later in
    record {
      before = id ∷ r.before;
      id = r.id;
      behind = r.behind;
      split = ap (λ zs. id ∷ zs) r.split;
      earlier = y ∷ r.earlier;
      later = r.later;
      left = r.left;
      first = (c.0, c.1, c.2, r.first);
      link = r.link;
      rest = r.rest;
    })
    i

-- each function of the order was analysed
pub record Analyses (u : Environment) (k : ℕ) (xs : List Analysed) : Type 0 where
  pub one : Analysed
  pub there : IsOneOf one xs
  pub id : FunctionId
  pub number : id.0 ≡ k
  pub solved : one.solved.function ≡ Some id

pub chain_has : (u : Environment) (old new : List Identifier) (ids : List FunctionId) (xs : List Analysed) (k : ℕ)
    → Chained u old ids xs new → is_among (numbers ids) k ≡ true → Analyses u k xs
chain_has u old new [] xs k c h = cc
chain_has u old new (id ∷ ids) [] k c h = absurd c
chain_has u old new (id ∷ ids) (x ∷ xs) k c h =
    among_cases id.0 (numbers ids) k (Analyses u k (x ∷ xs)) h
    (λ same. record {
      one = x;
      there = inl refl;
      id = id;
      number = sym same;
      solved = ap (λ (z : Solved). z.function) c.2.solved;
    })
    (λ later. let r : Analyses u k xs = chain_has u c.1 new ids xs k c.3 later in
    record { one = r.one; there = inr r.there; id = r.id; number = r.number; solved = r.solved })
