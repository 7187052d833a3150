-- What is handed out of a unit whose certificate is accepted: one solution a function, in order, and what the check of
-- each function found of those before it stands in the unit.
use Rattle.std.specs.Prelude.{◌≡◌, ℕ, nat_eq, nat_lt, Bool, true, false, cond, if◌then◌else◌, List, [], ◌∷◌, ◌++◌}
use Rattle.std.specs.Prelude.{Option, Some, None}
use Rattle.std.specs.Prelude.{Result, Ok, Err, length, map, option_map, slice_get, refl, ◌⊎◌}
use Rattle.std.specs.List.{list_all}
use Rattle.std.proofs.Common.{eq-eqb, inl, inr, ⊎_elim, ap, sym, ◌∙◌, subst, arith, ◌+◌, ◌≤◌}
use Rattle.std.proofs.lemmas.List.{append_assoc, map-append}
use Rattle.alias_base.specs.Answer.{◌>>=◌}
use Rattle.alias_base.specs.AnswerLaws.{both_true}
use Rattle.alias_base.specs.declared.ids.FunctionId.{FunctionId}
use Rattle.alias_cause_laws.proofs.causes.Chain.{all_at}
use Rattle.alias_cause_laws.proofs.handed.Carrying.{Plain, plain_of, plain_alike, no_more}
use Rattle.alias_explain.specs.Explanations.{function_of}
use Rattle.alias_explain.proofs.Lists.{in_longer}
use Rattle.alias_graph.specs.Walks.{IsOneOf}
use Rattle.alias_inferred_laws.proofs.inferred.Listing.{without_summary}
use Rattle.alias_inferred_laws.proofs.inferred.Ranging.{pass_leaves}
use Rattle.alias_graph.proofs.FitLaws.{went_on}
use Rattle.alias_graph.specs.Nodes.{Nodes}
use Rattle.alias_graph.specs.declared.recorded.listing.Listing.{Listing}
use Rattle.alias_graph.specs.declared.recorded.listing.RecordedMutation.{RecordedMutation}
use Rattle.alias_graph.specs.declared.recorded.listing.RecordedRender.{RecordedRender}
use Rattle.alias_graph.specs.recorded.Recording.{graph_listed}
use Rattle.alias_hir.specs.declared.env.Environment.{Environment}
use Rattle.alias_hir.specs.declared.env.Unit.{Unit as HirUnit}
use Rattle.alias_hir.specs.declared.hir.HirFunction.{HirFunction}
use Rattle.alias_rules.specs.Functions.{rules_hold}
use Rattle.alias_rules.specs.RuleLaws.{parts_of_rules}
use Rattle.alias_rules.specs.function_rules.Rules.{function_is_uninferred}
use Rattle.alias_rules.specs.Nesting.{times}
use Rattle.alias_rules.specs.TreeLaws.{times_cons}
use Rattle.alias_effects.specs.Inference.{env_after}
use Rattle.alias_effects.specs.Recording.{with_effects_of}
use Rattle.alias_effects.specs.declared.output.PassEnd.{PassEnd}
use Rattle.alias_effects.specs.declared.solved.Solved.{Solved}
use Rattle.alias_range_pass.specs.places.Keeping.{but_context}
use Rattle.alias_range_pass.specs.summary.MarkedPlaces.{function_captured}
use Rattle.alias_range_pass.specs.summary.Walking.{Walked, after_mutation, after_mutations, after_render, after_renders}
use Rattle.alias_range_pass.specs.summary.Walking.{env_reported, mutations_done, renders_done}
use Rattle.alias_range_pass.specs.Passes.{records, Ranged, ranged, range_pass}
use Rattle.alias_ranges.specs.laws.AnswerLaws.{pass_is}
use Rattle.alias_ranges.specs.laws.PlacedLaws.{function_keeps}
use Rattle.alias_nested.specs.Analysis.{most_levels}
use Rattle.alias_nested.specs.Created.{created_functions}
use Rattle.alias_nested.specs.Order.{functions_of, innermost_first, numbers}
use Rattle.alias_nested.proofs.Changing.{slots_stay}
use Rattle.alias_nested.proofs.Evolving.{passed_contexts}
use Rattle.alias_answer_laws.specs.order.Order.{nested_innermost_first}
use Rattle.alias_answer_laws.proofs.order.Solving.{root_apart}
use Rattle.alias_certificate.specs.declared.certificate.CertFunction.{CertFunction}
use Rattle.alias_certificate.specs.declared.fault.CheckFault.{CheckFault}
use Rattle.alias_certificate.specs.declared.fault.CheckFault.TheVariants as fault
use Rattle.alias_cert.specs.declared.check.Accepted.{Accepted}
use Rattle.alias_cert.specs.function.Functions.{function_solved}
use Rattle.alias_certified_laws.specs.checked.Carried.{BeginAsGiven, CarriesItsSolution, SolutionsAreCarried}
use Rattle.alias_certified_laws.specs.checked.Carried.{NoMoreIsCarried}
use Rattle.alias_certified_laws.specs.checked.Handed.{names_of, IsNamed, EarlierStay, IsAcceptedInOrder, AcceptsInOrder}
use Rattle.alias_cert.specs.Functions.{CheckedFunction, Checking, checking, said, checked_function, effects_checked}
use Rattle.alias_cert.specs.Functions.{ranging, root_finished, root_as_said, root_checked, Accounts}
use Rattle.alias_cert.specs.Units.{below_checked, none_left, unit_checked, Accepts}
use Rattle.alias_certified_laws.proofs.checked.Ordering.{ok_is, done, Done, ranging_ok, summed_ok, goes_over}
use Rattle.alias_certified_laws.proofs.checked.Preceding.{WasThere, IsNew, new_or_there, named_last, Stay, checked_stay}
use Rattle.alias_certified_laws.proofs.checked.Preceding.{none_stay}
use Rattle.alias_certified_laws.proofs.checked.Recording.{AllRecorded, Left, checked_left, none_recorded, there_before}
use Rattle.alias_certified_laws.proofs.checked.Recording.{carries_still}

-- ---- each number once

number_itself : (k : ℕ) → nat_eq k k ≡ true
number_itself k = eq-eqb k k refl

named_behind : (id : FunctionId) (xs zs : List CheckedFunction) → IsNamed id zs → IsNamed id (xs ++ zs)
named_behind id [] zs i = i
named_behind id (x ∷ xs) zs i = inr (named_behind id xs zs i)

-- the first number counts
first_counts : (id k : FunctionId) (ks : List FunctionId) → id ≡ k → times (numbers (k ∷ ks)) id.0 ≡ 1
    + times (numbers ks) id.0
first_counts id k ks is =
    times_cons k.0 (numbers ks) id.0
    ∙ ap (λ (z : FunctionId). cond (nat_eq z.0 id.0) 1 0 + times (numbers ks) id.0) (sym is)
    ∙ ap (λ b. cond b 1 0 + times (numbers ks) id.0) (number_itself id.0)

named_counts : (id : FunctionId) (zs : List CheckedFunction) (ids : List FunctionId) → names_of zs ≡ map Some ids
    → IsNamed id zs → 1 ≤ times (numbers ids) id.0
named_counts id [] ids e i = absurd i
named_counts id (z ∷ zs) [] e i = cc
named_counts id (z ∷ zs) (k ∷ ks) e i =
    let first : z.solved.function ≡ Some k = cc in
    let rest : names_of zs ≡ map Some ks = cc in
    let c : times (numbers (k ∷ ks)) id.0 ≡ cond (nat_eq k.0 id.0) 1 0 + times (numbers ks) id.0 =
    times_cons k.0 (numbers ks) id.0 in
    ⊎_elim
    (λ (here : Some id ≡ z.solved.function). let is : id ≡ k = cc in let f : times (numbers (k ∷ ks)) id.0 ≡ 1
    + times (numbers ks) id.0 = first_counts id k ks is in omega arith)
    (λ there. let more : 1 ≤ times (numbers ks) id.0 = named_counts id zs ks rest there in omega arith)
    i

named_twice : (id : FunctionId) (xs zs : List CheckedFunction) (ids : List FunctionId) → names_of (xs ++ zs)
    ≡ map Some ids
    → IsNamed id xs → IsNamed id zs → 2 ≤ times (numbers ids) id.0
named_twice id [] zs ids e i j = absurd i
named_twice id (x ∷ xs) zs [] e i j = cc
named_twice id (x ∷ xs) zs (k ∷ ks) e i j =
    let first : x.solved.function ≡ Some k = cc in
    let rest : names_of (xs ++ zs) ≡ map Some ks = cc in
    let c : times (numbers (k ∷ ks)) id.0 ≡ cond (nat_eq k.0 id.0) 1 0 + times (numbers ks) id.0 =
    times_cons k.0 (numbers ks) id.0 in
    ⊎_elim
    (λ (here : Some id ≡ x.solved.function).
    let is : id ≡ k = cc in
    let f : times (numbers (k ∷ ks)) id.0 ≡ 1 + times (numbers ks) id.0 = first_counts id k ks is in
    let more : 1 ≤ times (numbers ks) id.0 = named_counts id (xs ++ zs) ks rest (named_behind id xs zs j) in
    omega arith)
    (λ there. let more : 2 ≤ times (numbers ks) id.0 = named_twice id xs zs ks rest there j in omega arith)
    i

-- ---- the root

walks_functions : (b : Bool) (ms : List RecordedMutation) (w : Walked)
    → (after_mutations b ms w).1.functions ≡ w.1.functions
walks_functions b [] w = refl
walks_functions b (m ∷ ms) w = walks_functions b ms (after_mutation b w m)

renders_functions : (g : Nodes) (rs : List RecordedRender) (env : Environment)
    → (after_renders g rs env).functions ≡ env.functions
renders_functions g [] env = refl
renders_functions g (r ∷ rs) env = renders_functions g rs (after_render g env r)

rendered_functions : (b : Bool) (l : Listing) (w : Walked) → (renders_done b l w).functions ≡ w.1.functions
rendered_functions true l w = renders_functions w.0 l.renders w.1
rendered_functions false l w = refl

-- of the functions in their slots the range pass changes context places alone
ranged_contexts : (b : Bool) (f : HirFunction) (env : Environment) (r : Ranged) → range_pass b f env ≡ Ok r
    → map but_context r.after.1.functions ≡ map but_context env.functions
ranged_contexts b f env r h =
    let p = pass_is b f env r h in
    let c : Bool = records b env in
    let walked : Environment = renders_done c p.0 (mutations_done c p.0 env) in
    let k = function_keeps b (function_captured (mutations_done c p.0 env).0 f, walked) in
    ap (λ (z : Ranged). map but_context z.after.1.functions) (sym p.2) ∙ ap (λ (e : Environment). e.functions) k.rest
    ∙ ap (map but_context) (rendered_functions c p.0 (mutations_done c p.0 env)
    ∙ walks_functions c p.0.mutations (graph_listed p.0, env_reported c p.0 env))

abbrev Both : Type 0
Both = HirFunction × Checking

-- the root is checked last, and carries its solution
record RootFinished (f : HirFunction) (a : Checking) (s : Both) : Type 0 where
  entry : CheckedFunction
  functions : s.1.functions ≡ a.functions ++ entry ∷ []
  number : entry.solved.function ≡ None
  at : entry.env ≡ a.env
  begun : entry.func ≡ f
  carries : CarriesItsSolution entry s.0
  contexts : map but_context s.1.env.functions ≡ map but_context a.env.functions

effects_root : (f : HirFunction) (a : Checking) (c : CertFunction) (s : Both) → effects_checked None false f a c ≡ Ok s
    → RootFinished f a s
effects_root f a c s h =
    let w = went_on (function_solved c a.env f false) _ s h in
    let e : PassEnd = w.0 in
    let x : CheckedFunction = checked_function None false f a.env c e in
    let t : Both = (with_effects_of e.solved f, checking (env_after a.env e) (a.functions ++ x ∷ [])) in
    subst (RootFinished f a) (ok_is t s w.2) (record {
      entry = x;
      functions = refl;
      number = refl;
      at = refl;
      begun = refl;
      carries = refl;
      contexts = passed_contexts a.env e;
    })

root_finishes : (functions : List CertFunction) (f : HirFunction) (a : Checking) (s : Both)
    → root_checked functions f a ≡ Ok s → RootFinished f a s
root_finishes functions f a s h =
    let c = went_on (said functions (length a.functions) None) (root_as_said f a) s h in
    let e = went_on (effects_checked None false f a c.0) (root_finished c.0) s c.2 in
    let p : Both = e.0 in
    let first : RootFinished f a p = effects_root f a c.0 p e.1 in
    let r = went_on (ranging None (range_pass false p.0 p.1.env)) _ s e.2 in
    let q : Ranged = r.0 in
    let ran : range_pass false p.0 p.1.env ≡ Ok q = ranging_ok None (range_pass false p.0 p.1.env) q r.1 in
    let is = summed_ok c.0 q.summary q.after.0 (checking q.after.1 p.1.functions) s r.2 in
    subst (RootFinished f a) is (record {
      entry = first.entry;
      functions = first.functions;
      number = first.number;
      at = first.at;
      begun = first.begun;
      carries = ap without_summary (pass_leaves false p.0 p.1.env q ran).still ∙ first.carries;
      contexts = ranged_contexts false p.0 p.1.env q ran ∙ first.contexts;
    })

-- a nested function that was checked, between those before and behind it
record Placed (fs : List CheckedFunction) (x : CheckedFunction) : Type 0 where
  before : List CheckedFunction
  behind : List CheckedFunction
  id : FunctionId
  split : fs ≡ before ++ x ∷ behind
  number : x.solved.function ≡ Some id

placed_at : (fs : List CheckedFunction) (ids : List FunctionId) (x : CheckedFunction) → names_of fs ≡ map Some ids
    → IsOneOf x fs → Placed fs x
placed_at [] ids x e i = absurd i
placed_at (y ∷ ys) [] x e i = cc
placed_at (y ∷ ys) (k ∷ ks) x e i =
    let first : y.solved.function ≡ Some k = cc in
    let rest : names_of ys ≡ map Some ks = cc in
    ⊎_elim
    (λ (same : x ≡ y). record {
      before = [];
      behind = ys;
      id = k;
      split = ap (λ z. z ∷ ys) (sym same);
      number = ap (λ (z : CheckedFunction). z.solved.function) same ∙ first;
    })
    (λ there. let p = placed_at ys ks x rest there in record {
      before = y ∷ p.before;
      behind = p.behind;
      id = p.id;
      split = ap (λ zs. y ∷ zs) p.split;
      number = p.number;
    })
    i

-- ---- nothing was inferred of a function as its check began

slot_plain : (fs : List HirFunction) (k : ℕ) (f : HirFunction) (o : Option HirFunction)
    → list_all function_is_uninferred fs ≡ true → slice_get fs k ≡ o → option_map but_context o ≡ Some (but_context f)
    → Plain f
slot_plain fs k f None h at e = cc
slot_plain fs k f (Some g) h at e =
    let same : but_context g ≡ but_context f = cc in
    plain_alike f g (sym same) (plain_of g (all_at fs k g h at))

given_plain : (u : HirUnit) → rules_hold u ≡ Ok tt → (n : Option FunctionId) (f : HirFunction)
    → option_map but_context (function_of u n) ≡ Some (but_context f) → Plain f
given_plain u rules None f e =
    let same : but_context u.function ≡ but_context f = cc in
    plain_alike f u.function (sym same) (plain_of u.function (parts_of_rules u rules).function)
given_plain u rules (Some k) f e =
    slot_plain u.env.functions k.0 f (slice_get u.env.functions k.0)
    (both_true _ (list_all function_is_uninferred u.env.functions) (parts_of_rules u rules).environment).1 refl e

-- ---- the unit

left_if : (b : Bool) (s t : Both) → (let r : Result Both CheckFault = if b
    then Err (fault.Functions (length s.1.functions)) else Ok s in
    r ≡ Ok t) → s ≡ t
left_if true s t h = cc
left_if false s t h = ok_is s t h

solved_functions : (fs : List CheckedFunction) → functions_of (map (λ (x : CheckedFunction). x.solved) fs)
    ≡ map (λ (x : CheckedFunction). x.solved.function) fs
solved_functions [] = refl
solved_functions (x ∷ xs) = ap (λ zs. x.solved.function ∷ zs) (solved_functions xs)

module _ (certificate : List CertFunction) (u : HirUnit) (rules : rules_hold u ≡ Ok tt) where
  -- those below the root, and then the root
  record Ran (s : Both) : Type 0 where
    nested : Checking
    below : below_checked certificate most_levels u.function (checking u.env []) ≡ Ok nested
    root : RootFinished u.function nested s

  unit_ran : (f : HirFunction) (last : Checking) → unit_checked certificate u ≡ Ok (f, last) → Ran (f, last)
  unit_ran f last h =
      let t : Both = (f, last) in
      let w = went_on (below_checked certificate most_levels u.function (checking u.env [])
      >>= root_checked certificate u.function) (none_left certificate) t h in
      let v = went_on (below_checked certificate most_levels u.function (checking u.env []))
      (root_checked certificate u.function) w.0 w.1 in
      let l = left_if (nat_lt (length w.0.1.functions) (length certificate)) w.0 t w.2 in
      subst Ran l
      (record { nested = v.0; below = v.1; root = root_finishes certificate u.function v.0 w.0 v.2 })

  module _ (func : HirFunction) (last : Checking) (ran : Ran (func, last)) where
    abbrev ids : List FunctionId
    ids = nested_innermost_first u

    nested_done : Done u.env.functions [] (checking u.env []) ran.nested ids
    nested_done = goes_over certificate u.env.functions most_levels u.function [] (checking u.env []) ran.nested
        (record { count = refl; slots = λ k h. refl }) (root_apart u rules) ran.below

    in_order : names_of last.functions ≡ map Some ids ++ None ∷ []
    in_order =
        ap names_of ran.root.functions
        ∙ map-append (λ (x : CheckedFunction). x.solved.function) ran.nested.functions (ran.root.entry ∷ [])
        ∙ ap (λ o. done ran.nested ++ o ∷ []) ran.root.number ∙ ap (λ xs. xs ++ None ∷ []) nested_done.functions

    nested_stay : Stay [] ran.nested
    nested_stay = checked_stay certificate most_levels u.function [] (checking u.env []) ran.nested (none_stay u.env)
        ran.below

    -- no function is checked again
    not_again : (xs zs : List CheckedFunction) (id : FunctionId) → ran.nested.functions ≡ xs ++ zs → IsNamed id xs
        → IsNamed id zs → ⊥
    not_again xs zs id split before again =
        let names : names_of ran.nested.functions ≡ map Some ids = nested_done.functions in
        let two : 2 ≤ times (numbers ids) id.0 =
        named_twice id xs zs ids (ap names_of (sym split) ∙ names) before again in
        let once = (root_apart u rules).once id.0 in
        absurd (omega arith)

    earlier_stay : EarlierStay last.functions last.env
    earlier_stay = λ xs ys x id whole named.
        let y : CheckedFunction = ran.root.entry in
        let split : ran.nested.functions ++ y ∷ [] ≡ xs ++ x ∷ ys = sym ran.root.functions ∙ whole in
        slots_stay ran.nested.env last.env ran.root.contexts id.0
        ∙ ⊎_elim
        (λ (n : IsNew ran.nested.functions y xs ys x).
        ap (λ (e : Environment). option_map but_context (slice_get e.functions id.0))
        (sym ran.root.at ∙ ap (λ (z : CheckedFunction). z.env) n.same))
        (λ (t : WasThere ran.nested.functions y xs ys x).
        nested_stay xs t.rest x id t.all named (not_again xs (x ∷ t.rest) id t.all named) refl)
        (new_or_there ran.nested.functions xs ys x y split)

    -- ---- what the functions carry

    nested_left : Left u.env.functions [] (checking u.env []) ran.nested
    nested_left = checked_left u.env.functions certificate most_levels u.function [] (checking u.env []) ran.nested
        (none_recorded u.env) ran.below

    abbrev all : AllRecorded u.env.functions [] ran.nested
    all = nested_left.all

    abbrev handed : HirUnit
    handed = record { function = func; env = last.env }

    nested_at : (x : CheckedFunction) → IsOneOf x ran.nested.functions → Placed ran.nested.functions x
    nested_at x i = placed_at ran.nested.functions ids x nested_done.functions i

    none_before : (x : CheckedFunction) (p : Placed ran.nested.functions x) → IsNamed p.id p.before → ⊥
    none_before x p i = not_again p.before (x ∷ p.behind) p.id p.split i (inl (sym p.number))

    none_behind : (x : CheckedFunction) (p : Placed ran.nested.functions x) → IsNamed p.id p.behind → ⊥
    none_behind x p i =
        not_again (p.before ++ x ∷ []) p.behind p.id (p.split ∙ sym (append_assoc p.before (x ∷ []) p.behind))
        (named_last p.id p.before x p.number) i

    nested_given : (x : CheckedFunction) → IsOneOf x ran.nested.functions
        → option_map but_context (function_of u x.solved.function) ≡ Some (but_context x.func)
    nested_given x i =
        let p = nested_at x i in
        ap (λ o. option_map but_context (function_of u o)) p.number
        ∙ all.given p.before p.behind x p.id p.split p.number (none_before x p) (none_behind x p) refl

    nested_carries : (x : CheckedFunction) (f : HirFunction) → IsOneOf x ran.nested.functions
        → function_of handed x.solved.function ≡ Some f → CarriesItsSolution x f
    nested_carries x f i e =
        let p = nested_at x i in
        let there : slice_get last.env.functions p.id.0 ≡ Some f =
        subst (λ o. function_of handed o ≡ Some f) p.number e in
        let b = there_before (slice_get ran.nested.env.functions p.id.0) (slice_get last.env.functions p.id.0) f
        (slots_stay ran.nested.env last.env ran.root.contexts p.id.0) there in
        carries_still x b.0 f b.2
        (all.carried p.before p.behind x p.id p.split p.number (none_behind x p) refl b.0 b.1)

    one_of : (x : CheckedFunction) → IsOneOf x last.functions → IsOneOf x ran.nested.functions ⊎ (x ≡ ran.root.entry)
    one_of x i = in_longer ran.nested.functions ran.root.entry x (subst (IsOneOf x) ran.root.functions i)

    begin_as_given : BeginAsGiven u last.functions
    begin_as_given x i =
        ⊎_elim (λ there. nested_given x there)
        (λ (same : x ≡ ran.root.entry).
        subst (λ (z : CheckedFunction). option_map but_context (function_of u z.solved.function)
        ≡ Some (but_context z.func)) (sym same)
        (ap (λ o. option_map but_context (function_of u o)) ran.root.number
        ∙ ap (λ (z : HirFunction). Some (but_context z)) (sym ran.root.begun)))
        (one_of x i)

    carry_solutions : SolutionsAreCarried last.functions handed
    carry_solutions x f i e =
        ⊎_elim (λ there. nested_carries x f there e)
        (λ (same : x ≡ ran.root.entry).
        let nameless : x.solved.function ≡ None = ap (λ (z : CheckedFunction). z.solved.function) same
        ∙ ran.root.number in
        let here : function_of handed None ≡ Some f = subst (λ o. function_of handed o ≡ Some f) nameless e in
        let is : func ≡ f = cc in
        subst (λ z. CarriesItsSolution z f) (sym same) (subst (CarriesItsSolution ran.root.entry) is ran.root.carries))
        (one_of x i)

    carry_no_more : NoMoreIsCarried last.functions handed
    carry_no_more x f i e = no_more x.solved x.func f
        (given_plain u rules x.solved.function x.func (begin_as_given x i)) (carry_solutions x f i e)

-- what is accepted has a solution of each function, in order, and what the check of each found of those before stands
pub answer_in_order : (certificate : List CertFunction) (u : HirUnit) (r : Result Accepted CheckFault)
    → rules_hold u ≡ Ok tt → Accepts certificate u r → AcceptsInOrder certificate u r
answer_in_order certificate u (Err e) rules h = tt
answer_in_order certificate u (Ok a) rules h =
    let last : Checking = checking a.unit.env h.0 in
    let ran : Ran certificate u rules (a.unit.function, last) = unit_ran certificate u rules a.unit.function last h.1 in
    record {
      functions = h.0;
      solutions = h.2.same;
      order = ap functions_of (sym h.2.same) ∙ solved_functions h.0 ∙ in_order certificate u rules a.unit.function last ran;
      solve = h.2.solve;
      said = h.3;
      earlier = earlier_stay certificate u rules a.unit.function last ran;
      given = begin_as_given certificate u rules a.unit.function last ran;
      carry = carry_solutions certificate u rules a.unit.function last ran;
      alone = carry_no_more certificate u rules a.unit.function last ran;
    }
