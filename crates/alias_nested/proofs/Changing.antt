-- Which functions the steps of an analysis change.
use Rattle.std.specs.Prelude.{◌≡◌, ℕ, ◌+◌, nat_eq, Bool, true, false, List, [], ◌∷◌, ◌++◌, Option, Some, Result, Ok}
use Rattle.std.specs.Prelude.{Err, IfOk, ⊤, length, map, option_map, slice_get, slice_set, refl}
use Rattle.std.specs.List.{flat_map}
use Rattle.std.proofs.Common.{inl, inr, ⊎_elim, zero, suc, ap, sym, ◌∙◌, subst, arith, drop, ◌<◌, ◌≤◌}
use Rattle.std.proofs.lemmas.Bool.{eqb-true}
use Rattle.std.proofs.lemmas.Bool.Decides.{nat_tests}
use Rattle.std.proofs.lemmas.List.{append-nil, append_assoc, map-append}
use Rattle.std.proofs.lemmas.Option.{slice_get_within}
use Rattle.alias_base.specs.declared.ids.FunctionId.{FunctionId}
use Rattle.alias_effects.specs.declared.solved.Solved.{Solved}
use Rattle.alias_rules.specs.function_rules.Rules.{is_among}
use Rattle.alias_hir.specs.declared.effect.AliasingEffect.{AliasingEffect}
use Rattle.alias_hir.specs.declared.env.Environment.{Environment}
use Rattle.alias_hir.specs.declared.error.InferError.{InferError}
use Rattle.alias_hir.specs.declared.error.InferError.TheVariants as error
use Rattle.alias_hir.specs.declared.hir.HirFunction.{HirFunction}
use Rattle.alias_range_pass.specs.Laws.{PassKeeps}
use Rattle.alias_range_pass.specs.places.Keeping.{but_context}
use Rattle.alias_rules.specs.Fitting.{function_fits}
use Rattle.alias_rules.specs.Nesting.{times}
use Rattle.alias_rules.specs.TreeLaws.{counted}
use Rattle.alias_nesting_laws.specs.FittingLaws.{first_among}
use Rattle.alias_nesting_laws.specs.PartLaws.{absent, not_both}
use Rattle.alias_nesting_laws.specs.SlotLaws.{length_set, set_other}
use Rattle.alias_nesting_laws.specs.Slots.{with_function}
use Rattle.alias_nested.specs.Analysis.{named, IsFault}
use Rattle.alias_nested.specs.Answers.{IsPassed}
use Rattle.alias_nested.specs.Created.{created_functions}
use Rattle.alias_nested.specs.Order.{created_by_slot, innermost_first, below_innermost_first, slot_innermost_first}
use Rattle.alias_nested.specs.Order.{numbers, functions_of, Notes, SameInSlot, SameInSlots, ChangesOnly, EndsAt}
use Rattle.alias_nested.specs.Order.{refused_function, is_nameless, Names, KeepsToOrder, KeepsToOrderWith}
use Rattle.alias_nested.specs.Annotating.{annotated}
use Rattle.alias_nested.proofs.InOrder.{times_append, in_neither, not_one, once_below, same_creates, order_stays}
use Rattle.alias_nested.proofs.InOrder.{slot_stays}
use Rattle.alias_nested.proofs.Leading.{from_here, nothing_from}

-- ---- slots

mapped_at : {A B : Type 0} (g : A → B) (xs : List A) (k : ℕ) → option_map g (slice_get xs k) ≡ slice_get (map g xs) k
mapped_at g [] k = refl
mapped_at g (x ∷ xs) zero = refl
mapped_at g (x ∷ xs) (suc k) = mapped_at g xs k

pub slots_stay : (old new : Environment) → SameInSlots old new → (k : ℕ) → SameInSlot old new k
slots_stay old new h k = mapped_at but_context new.functions k ∙ ap (λ fs. slice_get fs k) h
    ∙ sym (mapped_at but_context old.functions k)

-- ---- refusals

-- a refusal of a function that is no fault of a pass names that function
names_itself : (id : FunctionId) (e : InferError) → (IsFault (named id e) → ⊥) → is_nameless (named id e) ≡ false
    → refused_function (named id e) ≡ Some id
names_itself id (error.NotSettled f visits report) faultless h = refl
names_itself id (error.Uninitialized f block identifier span report) faultless h = refl
names_itself id (error.Reinitialized f instruction identifier) faultless h = refl
names_itself id (error.AliasBeforeCreate f instruction identifier) faultless h = refl
names_itself id (error.IncompatibleLibrary f instruction report) faultless h = refl
names_itself id (error.SpreadArgument f instruction span report) faultless h = refl
names_itself id (error.UnreplacedApply instruction report) faultless h = cc
names_itself id (error.EffectsNotInferred identifier) faultless h = cc
names_itself id (error.PassFault f pass) faultless h = absurd (faultless tt)
names_itself id (error.TooMany which) faultless h = cc
names_itself id (error.Memory e) faultless h = cc

pub names_named : (id : FunctionId) (e n : InferError) → n ≡ named id e → (IsFault n → ⊥) → is_nameless n ≡ false
    → refused_function n ≡ Some id
names_named id e n same faultless h = ap refused_function same
    ∙ names_itself id e (λ f. faultless (subst IsFault (sym same) f)) (ap is_nameless (sym same) ∙ h)

-- a refusal that is passed on
pub names_on : {A : Type 0} (id : FunctionId) (q : Result A InferError) (e : InferError) → q ≡ Err e
    → (is_nameless e ≡ false → refused_function e ≡ Some id) → Names id q
names_on id q e same n = subst (Names id) (sym same) n

-- ---- slots over the passes

-- the range pass
pub ranged_slots : (env more : Environment) → PassKeeps env more → SameInSlots env more
ranged_slots env more k = ap (λ (e : Environment). e.functions) k.rest

-- a pass of the caller
pub passed_slots : (keeps_all : Bool) (f : HirFunction) (env : Environment) (g : HirFunction) (more : Environment)
    → IsPassed keeps_all (f, env) (g, more) → SameInSlots env more
passed_slots keeps_all f env g more p = ap (map but_context) p.keeps.tables.functions

-- what is set at the end
pub annotated_slots : (summary : List AliasingEffect) (f : HirFunction) (env : Environment) (g : HirFunction)
    (more : Environment) → (g, more) ≡ annotated summary (f, env) → SameInSlots env more
annotated_slots summary f env g more h = ap (λ (s : HirFunction × Environment). map but_context s.1.functions) h

-- ---- one step after the other

-- the functions of a level, each after those on the n levels below it
abbrev pub each_innermost_first : ℕ → Environment → List FunctionId → List FunctionId
each_innermost_first n env ids = flat_map (λ (id : FunctionId). slot_innermost_first n id env) ids

order_below : (n : ℕ) (env : Environment) (ids : List FunctionId) → innermost_first (suc n) env.functions ids
    ≡ each_innermost_first n env ids
unfolding innermost_first
order_below n env ids = refl

no_order : (env : Environment) (ids : List FunctionId) → innermost_first 0 env.functions ids ≡ []
unfolding innermost_first
no_order env ids = refl

-- the order of the levels below a function is that of what it creates, which was gone over
pub order_is : (m n : ℕ) (f : HirFunction) (env : Environment) (ids : List FunctionId) → m ≡ suc n → ids
    ≡ created_functions f → each_innermost_first n env ids ≡ below_innermost_first m f env
order_is m n f env ids h same = sym (order_below n env ids) ∙ ap (λ k. innermost_first k env.functions ids) (sym h)
    ∙ ap (innermost_first m env.functions) same

-- so far the analysis went over a part of the order, changed only functions of that part, and noted their solutions
pub record WentOver (order left : List FunctionId) (old env : Environment) (before solved : List Solved) : Type 0 where
  pub done : List FunctionId
  pub split : order ≡ done ++ left
  pub changes : ChangesOnly done old env
  pub notes : Notes done before solved

pub over_nothing : (order : List FunctionId) (env : Environment) (solved : List Solved)
    → WentOver order order env env solved solved
over_nothing order env solved = record {
  done = [];
  split = refl;
  changes = λ k h. refl;
  notes = sym (append-nil (functions_of solved));
}

over_part : (order left : List FunctionId) (old env : Environment) (before solved : List Solved)
    → WentOver order left old env before solved → ChangesOnly order old env
over_part order left old env before solved w k h =
    w.changes k (in_neither w.done left k (subst (λ ids. is_among (numbers ids) k ≡ false) w.split h)).0

-- one part and then the next
pub notes_both : (xs ys : List FunctionId) (a b c : List Solved) → Notes xs a b → Notes ys b c → Notes (xs ++ ys) a c
notes_both xs ys a b c h i =
    i ∙ ap (λ zs. zs ++ map Some ys) h ∙ append_assoc (functions_of a) (map Some xs) (map Some ys)
    ∙ ap (λ zs. functions_of a ++ zs) (sym (map-append (λ (id : FunctionId). Some id) xs ys))

regrouped : (done before after rest : List FunctionId) (x : FunctionId) → (done ++ (before ++ x ∷ after)) ++ rest
    ≡ (done ++ before) ++ x ∷ (after ++ rest)
regrouped done before after rest x = ap (λ ids. ids ++ rest) (sym (append_assoc done before (x ∷ after)))
    ∙ append_assoc (done ++ before) (x ∷ after) rest

-- one more function of a level, with those below it
module _ (n : ℕ) (ids : List FunctionId) (i : ℕ) (id : FunctionId) (at : slice_get ids i ≡ Some id)
    (old env : Environment)
    (once : (k : ℕ) → times (numbers (each_innermost_first n old ids)) k ≤ 1) (before solved : List Solved)
    (w : WentOver (each_innermost_first n old ids) (each_innermost_first n old (drop i ids)) old env before
    solved) where
  abbrev own : List FunctionId
  own = slot_innermost_first n id old

  abbrev rest : List FunctionId
  rest = each_innermost_first n old (drop (i + 1) ids)

  split_more : each_innermost_first n old ids ≡ (w.done ++ own) ++ rest
  split_more = w.split ∙ ap (λ zs. w.done ++ each_innermost_first n old zs) (from_here ids i id at)
      ∙ sym (append_assoc w.done own rest)

  own_once : (k : ℕ) → times (numbers w.done) k + times (numbers own) k ≤ 1
  own_once k =
      let a : times (numbers (each_innermost_first n old ids)) k ≡ times (numbers ((w.done ++ own) ++ rest)) k =
      ap (λ zs. times (numbers zs) k) split_more in
      let b : times (numbers ((w.done ++ own) ++ rest)) k ≡ times (numbers (w.done ++ own)) k + times (numbers rest) k =
      times_append (w.done ++ own) rest k in
      let c : times (numbers (w.done ++ own)) k ≡ times (numbers w.done) k + times (numbers own) k =
      times_append w.done own k in
      let o = once k in
      omega arith

  not_done : (k : ℕ) → is_among (numbers own) k ≡ true → is_among (numbers w.done) k ≡ false
  not_done k h =
      absent (is_among (numbers w.done) k)
      (λ d. let a : 1 ≤ times (numbers w.done) k = counted (numbers w.done) k d in let b : 1 ≤ times (numbers own) k =
      counted (numbers own) k h in let o = own_once k in absurd (omega arith))

  -- what is done changed nothing of the order of what is next
  pub next_is : slot_innermost_first n id env ≡ own
  next_is = slot_stays old.functions env.functions n id
      (λ k h. same_creates (slice_get old.functions k) (slice_get env.functions k) (w.changes k (not_done k h)))

  -- none of the functions below the next one is that one
  pub next_apart : (f : HirFunction) → slice_get env.functions id.0 ≡ Some f
      → is_among (numbers (below_innermost_first n f env)) id.0 ≡ false
  next_apart f there =
      let below : List FunctionId = below_innermost_first n f env in
      let is : below ++ id ∷ [] ≡ own = ap (λ o. innermost_first n env.functions (created_by_slot o) ++ id ∷ [])
      (sym there) ∙ next_is in
      absent (is_among (numbers below) id.0)
      (λ h.
      let a : 1 ≤ times (numbers below) id.0 = counted (numbers below) id.0 h in
      let b : 1 ≤ times (numbers (id ∷ [])) id.0 = counted (numbers (id ∷ [])) id.0 (first_among id.0 []) in
      let c : times (numbers (below ++ id ∷ [])) id.0 ≡ times (numbers below) id.0 + times (numbers (id ∷ [])) id.0 =
      times_append below (id ∷ []) id.0 in
      let d : times (numbers (below ++ id ∷ [])) id.0 ≡ times (numbers own) id.0 =
      ap (λ zs. times (numbers zs) id.0) is in
      let o = own_once id.0 in
      absurd (omega arith))

  module _ (after : Environment) where
    own_changes : ChangesOnly (slot_innermost_first n id env) env after → ChangesOnly own env after
    own_changes c = subst (λ zs. ChangesOnly zs env after) next_is c

    more_changes : ChangesOnly (slot_innermost_first n id env) env after → ChangesOnly (w.done ++ own) old after
    more_changes c k h = let p = in_neither w.done own k h in own_changes c k p.1 ∙ w.changes k p.0

    pub over_more : ChangesOnly (slot_innermost_first n id env) env after → (more : List Solved)
        → Notes (slot_innermost_first n id env) solved more
        → WentOver (each_innermost_first n old ids) rest old after before more
    over_more c more notes = record {
      done = w.done ++ own;
      split = split_more;
      changes = more_changes c;
      notes = notes_both w.done own before solved more w.notes (subst (λ zs. Notes zs solved more) next_is notes);
    }

    ended_in : (o : Option FunctionId) → EndsAt (slot_innermost_first n id env) o env after
        → EndsAt (each_innermost_first n old ids) o old after
    ended_in o e = record {
      id = e.id;
      named = e.named;
      before = w.done ++ e.before;
      after = e.after ++ rest;
      split = split_more ∙ ap (λ zs. (w.done ++ zs) ++ rest) (sym next_is ∙ e.split)
          ∙ regrouped w.done e.before e.after rest e.id;
      changes = λ k h.
          let p = in_neither w.done (e.before ++ e.id ∷ []) k
          (subst (λ zs. is_among (numbers zs) k ≡ false) (append_assoc w.done e.before (e.id ∷ [])) h) in
          e.changes k p.1 ∙ w.changes k p.0;
    }

    -- a refusal there is one of the whole
    pub refused_in : (q : Result ⊤ InferError) (e : InferError) → q ≡ Err e
        → KeepsToOrder {A = ⊤} (slot_innermost_first n id env) (Err e) env after
        → KeepsToOrder (each_innermost_first n old ids) q old after
    refused_in q e h k = record {
      changes = λ j m. more_changes k.changes j
          (in_neither (w.done ++ own) rest j (subst (λ zs. is_among (numbers zs) j ≡ false) split_more m)).0;
      ends = λ z j m. ended_in (refused_function z) (k.ends z (ap Err (let same : e ≡ z = cc in same)) m);
    }

-- the whole level
pub over_all : (order left : List FunctionId) (old env : Environment) (before solved : List Solved)
    → WentOver order left old env before solved → KeepsToOrder {A = ⊤} order (Ok tt) old env
over_all order left old env before solved w =
    record { changes = over_part order left old env before solved w; ends = λ e h m. cc }

pub notes_all : (m n : ℕ) (f : HirFunction) (old env : Environment) (ids : List FunctionId) (i : ℕ)
    (before solved : List Solved) → m ≡ suc n → ids ≡ created_functions f → length ids ≤ i
    → WentOver (each_innermost_first n old ids) (each_innermost_first n old (drop i ids)) old env before solved
    → Notes (below_innermost_first m f old) before solved
notes_all m n f old env ids i before solved h same past w =
    let none : each_innermost_first n old (drop i ids) ≡ [] =
    ap (each_innermost_first n old) (nothing_from ids i past) in
    let all : each_innermost_first n old ids ≡ w.done = w.split ∙ ap (λ zs. w.done ++ zs) none ∙ append-nil w.done in
    subst (λ zs. Notes zs before solved) (sym all ∙ order_is m n f old ids h same) w.notes

-- nothing changed yet
pub nothing_below : (order : List FunctionId) (env : Environment) → KeepsToOrder {A = ⊤} order (Ok tt) env env
nothing_below order env = record { changes = λ k h. refl; ends = λ e h m. cc }

-- nothing changed, and what is answered has no function to name
pub nameless_below : (order : List FunctionId) (env : Environment) (q : Result ⊤ InferError) (e : InferError) → q
    ≡ Err e → is_nameless e ≡ true → KeepsToOrder order q env env
nameless_below order env q e is nameless = record {
  changes = λ k h. refl;
  ends = λ z h m.
      let same : z ≡ e = cc in
      let so : is_nameless z ≡ true = ap is_nameless same ∙ nameless in
      cc;
}

-- what is handed on
pub handed_on : {A B : Type 0} (order : List FunctionId) (q : Result B InferError) (e : InferError)
    (old new : Environment) → q ≡ Err e → KeepsToOrder {A = A} order (Err e) old new → KeepsToOrder order q old new
handed_on order q e old new is k = record
    { changes = k.changes; ends = λ z h m. k.ends z (ap Err (let same : e ≡ z = cc in same)) m }

pub handed_out : {A B : Type 0} (order : List FunctionId) (a : A) (b : B) (old new : Environment)
    → KeepsToOrder {A = A} order (Ok a) old new → KeepsToOrder {A = B} order (Ok b) old new
handed_out order a b old new k = record { changes = k.changes; ends = λ z h m. cc }

pub notes_none : (m : ℕ) (f : HirFunction) (env : Environment) (solved : List Solved) → m ≡ 0
    → Notes (below_innermost_first m f env) solved solved
notes_none m f env solved h = subst (λ k. Notes (below_innermost_first k f env) solved solved) (sym h)
    (sym (append-nil (functions_of solved))
    ∙ ap (λ zs. functions_of solved ++ map Some zs) (sym (no_order env (created_functions f))))

-- of an answer that is done
pub where_ok : (P Q : Type 0) (r : Result ⊤ InferError) → (P → Q) → IfOk r (λ _. P) → IfOk r (λ _. Q)
where_ok P Q (Ok x) f h = f h
where_ok P Q (Err e) f h = tt

pub always_ok : (P : Type 0) (r : Result ⊤ InferError) → P → IfOk r (λ _. P)
always_ok P (Ok x) h = h
always_ok P (Err e) h = tt

-- in the order of what a function creates each function is once
pub once_each : (n : ℕ) (f : HirFunction) (env : Environment) (ids : List FunctionId) → ids ≡ created_functions f
    → function_fits f env ≡ true → (k : ℕ) → times (numbers (each_innermost_first n env ids)) k ≤ 1
once_each n f env ids same fits k = subst (λ zs. times (numbers zs) k ≤ 1)
    (sym (order_is (suc n) n f env ids refl same)) (once_below f env fits (suc n) k)

-- the whole, by the number of levels
pub in_order : {A : Type 0} (m n : ℕ) (f : HirFunction) (old new : Environment) (ids : List FunctionId)
    (r : Result A InferError) → m ≡ suc n → ids ≡ created_functions f
    → KeepsToOrder (each_innermost_first n old ids) r old new → KeepsToOrder (below_innermost_first m f old) r old new
in_order m n f old new ids r h same k = subst (λ zs. KeepsToOrder zs r old new) (order_is m n f old ids h same) k

-- ---- a function that is out of its slot

-- one below it is refused
pub refused_below : (below : List FunctionId) (id : FunctionId) (q : Result ⊤ InferError) (e : InferError)
    (f : HirFunction) (old new : Environment) → q ≡ Err e → KeepsToOrder {A = ⊤} below (Err e) old new
    → KeepsToOrderWith below id q f f old new
refused_below below id q e f old new h k = record {
  changes = k.changes;
  ends = λ z i m. inl (k.ends z (ap Err (let same : e ≡ z = cc in same)) m, refl);
}

names_it : (id : FunctionId) (q : Result ⊤ InferError) (e : InferError) → Names id q → q ≡ Err e → is_nameless e ≡ false
    → refused_function e ≡ Some id
names_it id q e n h m = subst (Names id) h n m

-- those below it are analysed, and its own turn has come
pub keeps_itself : (below : List FunctionId) (id : FunctionId) (q : Result ⊤ InferError) (f g : HirFunction)
    (old mid new : Environment) → ChangesOnly below old mid → SameInSlots mid new → Names id q
    → KeepsToOrderWith below id q f g old new
keeps_itself below id q f g old mid new c s n = record {
  changes = λ k h. slots_stay mid new s k ∙ c k h;
  ends = λ e h m. inr (names_it id q e n h m);
}

pub set_within : (xs : List HirFunction) (k : ℕ) (x : HirFunction) → k < length xs → slice_get (slice_set xs k x) k
    ≡ Some x
set_within [] k x h = absurd (omega arith)
set_within (y ∷ ys) zero x h = refl
set_within (y ∷ ys) (suc k) x h = set_within ys k x (omega arith)

differs : (j k : ℕ) → nat_eq j k ≡ false → j ≡ k → ⊥
differs j k h e = grind (arith, nat_tests)

by_number : (k j : ℕ) (C : Type 0) → (k ≡ j → C) → ((k ≡ j → ⊥) → C) → C
by_number k j C same other =
    elim (nat_eq k j) as (λ b. nat_eq k j ≡ b → C) [
      | true ↦ λ e. same (eqb-true k j e)
      | false ↦ λ e. other (differs k j e)
    ] refl

-- a function is taken out of its slot, analysed, and put back
module _ (n : ℕ) (id : FunctionId) (f g stand_in : HirFunction) (old out after back : Environment)
    (there : slice_get old.functions id.0 ≡ Some f)
    (apart : is_among (numbers (below_innermost_first n f old)) id.0 ≡ false)
    (is : out ≡ with_function id stand_in old) (count : length after.functions ≡ length out.functions)
    (put : back ≡ with_function id g after) where
  taken_at : (k : ℕ) → (k ≡ id.0 → ⊥) → slice_get out.functions k ≡ slice_get old.functions k
  taken_at k other = ap (λ (e : Environment). slice_get e.functions k) is
      ∙ set_other old.functions id.0 k stand_in other

  back_at : (k : ℕ) → (k ≡ id.0 → ⊥) → slice_get back.functions k ≡ slice_get after.functions k
  back_at k other = ap (λ (e : Environment). slice_get e.functions k) put ∙ set_other after.functions id.0 k g other

  other_stays : (k : ℕ) → (k ≡ id.0 → ⊥) → SameInSlot out after k → SameInSlot old back k
  other_stays k other h = ap (option_map but_context) (back_at k other) ∙ h
      ∙ ap (option_map but_context) (taken_at k other)

  itself_stays : g ≡ f → SameInSlot old back id.0
  itself_stays same =
      let in_old : id.0 < length old.functions = slice_get_within old.functions id.0 f there in
      let as_many : length out.functions ≡ length old.functions = ap (λ (e : Environment). length e.functions) is
      ∙ length_set old.functions id.0 stand_in in
      let here : slice_get (slice_set after.functions id.0 g) id.0 ≡ Some g =
      set_within after.functions id.0 g (omega arith) in
      ap (λ (e : Environment). option_map but_context (slice_get e.functions id.0)) put
      ∙ ap (option_map but_context) here
      ∙ ap (λ (z : HirFunction). Some (but_context z)) same ∙ ap (option_map but_context) (sym there)

  abbrev below : List FunctionId
  below = below_innermost_first n f old

  pub below_is : below_innermost_first n f out ≡ below_innermost_first n f old
  below_is = order_stays old.functions out.functions n (created_functions f)
      (λ k h. ap created_by_slot (taken_at k
      (λ e. not_both (is_among (numbers below) id.0) (subst (λ z. is_among (numbers below) z ≡ true) e h) apart)))

  slot_is : slot_innermost_first n id old ≡ below ++ id ∷ []
  slot_is = ap (λ o. innermost_first n old.functions (created_by_slot o) ++ id ∷ []) there

  pub slot_notes : (before solved : List Solved) → Notes (below_innermost_first n f out ++ id ∷ []) before solved
      → Notes (slot_innermost_first n id old) before solved
  slot_notes before solved h = subst (λ zs. Notes zs before solved) (ap (λ zs. zs ++ id ∷ []) below_is ∙ sym slot_is) h

  module _ (r : Result ⊤ InferError) (t : KeepsToOrderWith (below_innermost_first n f out) id r f g out after) where
    changed : ChangesOnly (below ++ id ∷ []) old back
    changed k h = let p = in_neither below (id ∷ []) k h in
        other_stays k (not_one id k p.1) (t.changes k
        (subst (λ zs. is_among (numbers zs) k ≡ false) (sym below_is) p.0))

    ended_below : (o : Option FunctionId) → EndsAt (below_innermost_first n f out) o out after → g ≡ f
        → EndsAt (slot_innermost_first n id old) o old back
    ended_below o e same = record {
      id = e.id;
      named = e.named;
      before = e.before;
      after = e.after ++ id ∷ [];
      split = slot_is ∙ ap (λ zs. zs ++ id ∷ []) (sym below_is ∙ e.split)
          ∙ append_assoc e.before (e.id ∷ e.after) (id ∷ []);
      changes = λ k h. by_number k id.0 (SameInSlot old back k)
          (λ at. subst (SameInSlot old back) (sym at) (itself_stays same))
          (λ other. other_stays k other (e.changes k h));
    }

    ended_here : (o : Option FunctionId) → o ≡ Some id → EndsAt (slot_innermost_first n id old) o old back
    ended_here o same = record { id = id; named = same; before = below; after = []; split = slot_is; changes = changed }

    pub slot_keeps : KeepsToOrder (slot_innermost_first n id old) r old back
    slot_keeps = record {
      changes = subst (λ zs. ChangesOnly zs old back) (sym slot_is) changed;
      ends = λ e h m.
          ⊎_elim (λ (p : EndsAt (below_innermost_first n f out) (refused_function e) out after × (g ≡ f)).
          ended_below (refused_function e) p.0 p.1)
          (λ (same : refused_function e ≡ Some id). ended_here (refused_function e) same) (t.ends e h m);
    }
