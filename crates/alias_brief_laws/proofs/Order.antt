-- The functions of a unit are followed in the order that is stated.
use Rattle.std.specs.Prelude.{◌≡◌, ℕ, ◌==◌, nat_eq, Bool, true, false, cond, List, [], ◌∷◌, ◌++◌, Option, Some}
use Rattle.std.specs.Prelude.{None, Result, Ok, length, map, slice_get, slice_set}
use Rattle.std.specs.List.{flat_map}
use Rattle.std.proofs.Common.{zero, suc, refl, ap, sym, ◌∙◌, subst, arith, ◌+◌, ◌<◌, ◌≤◌}
use Rattle.std.proofs.lemmas.Bool.{eqb-true}
use Rattle.std.proofs.lemmas.Bool.Decides.{nat_tests}
use Rattle.std.proofs.lemmas.List.{append-nil, append_assoc, map-append}
use Rattle.alias_base.specs.declared.ids.FunctionId.{FunctionId}
use Rattle.alias_hir.specs.declared.env.Environment.{Environment}
use Rattle.alias_hir.specs.declared.hir.HirFunction.{HirFunction}
use Rattle.alias_rules.specs.function_rules.Rules.{is_among}
use Rattle.alias_rules.specs.Nesting.{times}
use Rattle.alias_rules.specs.TreeLaws.{times_cons, counted}
use Rattle.alias_nesting_laws.specs.PartLaws.{absent}
use Rattle.alias_nesting_laws.specs.SlotLaws.{length_set, set_other}
use Rattle.alias_nesting_laws.specs.Slots.{with_function}
use Rattle.alias_effects.specs.Inference.{env_after}
use Rattle.alias_effects.specs.Recording.{with_effects_of}
use Rattle.alias_range_pass.specs.places.Keeping.{but_context}
use Rattle.alias_nested.specs.Created.{created_functions}
use Rattle.alias_nested.specs.Order.{created_by_slot, innermost_first, numbers}
use Rattle.alias_nested.specs.Slots.{emptied}
use Rattle.alias_nested.proofs.Changing.{slots_stay}
use Rattle.alias_nested.proofs.Evolving.{passed_contexts}
use Rattle.alias_nested.proofs.InOrder.{times_append, same_creates}
use Rattle.alias_answer_laws.proofs.order.Ordering.{went, neither, both_false, differs, Stands, Apart}
use Rattle.alias_answer_laws.proofs.order.Staying.{created_recorded, created_ranged, ranged_contexts, count_alike}
use Rattle.alias_certificate.specs.declared.certificate.CertFunction.{CertFunction}
use Rattle.alias_certificate.specs.declared.fault.CheckFault.{CheckFault}
use Rattle.alias_follow.specs.Functions.{FollowedFunction, Following, followed_function}
use Rattle.alias_follow.specs.Functions.{nested_followed}
use Rattle.alias_follow.specs.Units.{each, put_back, taken_followed, found_followed, slot_followed, below_followed}
use Rattle.alias_brief_laws.proofs.One.{FollowedOne, followed_one}

none_there : {X : Type 0} (xs : List X) (k : ℕ) → k < length xs → slice_get xs k ≡ None → ⊥
none_there [] k h e = absurd (omega arith)
none_there (x ∷ xs) zero h e = cc
none_there (x ∷ xs) (suc k) h e = none_there xs k (omega arith) e

-- the function of each that was followed so far
abbrev pub done : Following → List (Option FunctionId)
done a = map (λ (x : FollowedFunction). x.solved.function) a.functions

-- these functions were followed in between
pub record Done (fs : List HirFunction) (out : List ℕ) (a b : Following) (ids : List FunctionId) : Type 0 where
  pub functions : done b ≡ done a ++ map Some ids
  pub stands : Stands fs out b.env

apart_first : (fs : List HirFunction) (out : List ℕ) (xs ys : List FunctionId) → Apart fs out (xs ++ ys)
    → Apart fs out xs
apart_first fs out xs ys p = record {
  once = λ j. let o = p.once j in let t = times_append xs ys j in omega arith;
  there = λ j h. p.there j (let t = times_append xs ys j in omega arith);
}

apart_rest : (fs : List HirFunction) (out : List ℕ) (xs ys : List FunctionId) → Apart fs out (xs ++ ys)
    → Apart fs out ys
apart_rest fs out xs ys p = record {
  once = λ j. let o = p.once j in let t = times_append xs ys j in omega arith;
  there = λ j h. p.there j (let t = times_append xs ys j in omega arith);
}

-- changes of context places alone
stands_alike : (fs : List HirFunction) (out : List ℕ) (env more : Environment) → map but_context more.functions
    ≡ map but_context env.functions → Stands fs out env → Stands fs out more
stands_alike fs out env more same s = record {
  count = count_alike env.functions more.functions same ∙ s.count;
  slots = λ k h. same_creates (slice_get env.functions k) (slice_get more.functions k) (slots_stay env more same k)
      ∙ s.slots k h;
}

-- ---- a nested function

-- a nested function is followed, and creates what it created
record Finished (id : FunctionId) (f : HirFunction) (a : Following) (g : HirFunction) (b : Following) : Type 0 where
  functions : done b ≡ done a ++ Some id ∷ []
  creates : created_functions g ≡ created_functions f
  contexts : map but_context b.env.functions ≡ map but_context a.env.functions

function_finished : (given : List CertFunction) (id : FunctionId) (f : HirFunction) (a : Following)
    (s : HirFunction × Following) → nested_followed given id f a ≡ Ok s → Finished id f a s.0 s.1
function_finished given id f a s h =
    let o : FollowedOne given id f a s = followed_one given id f a s h in
    let x : FollowedFunction = followed_function (Some id) true f a.env o.end in
    subst (λ (q : HirFunction × Following). Finished id f a q.0 q.1) o.is (record {
      functions = map-append (λ (y : FollowedFunction). y.solved.function) a.functions (x ∷ []);
      creates = created_ranged (with_effects_of o.end.end.solved f) (env_after a.env o.end.end) o.ranged o.ran
          ∙ created_recorded o.end.end.solved f;
      contexts = ranged_contexts (with_effects_of o.end.end.solved f) (env_after a.env o.end.end) o.ranged o.ran
          ∙ passed_contexts a.env o.end.end;
    })

-- ---- a function is taken out of its slot, and put back

module _ (fs : List HirFunction) (n : ℕ) where
  abbrev ids_below : FunctionId → List FunctionId
  ids_below id = innermost_first n fs (created_by_slot (slice_get fs id.0))

  abbrev ids_of : FunctionId → List FunctionId
  ids_of id = ids_below id ++ id ∷ []

  module _ (id : FunctionId) (out : List ℕ) (apart : Apart fs out (ids_of id)) where
    own_times : (j : ℕ) → times (numbers (ids_of id)) j ≡ times (numbers (ids_below id)) j + cond (id.0 == j) 1 0
    own_times j =
        let t = times_append (ids_below id) (id ∷ []) j in
        let c : times (id.0 ∷ []) j ≡ cond (id.0 == j) 1 0 + 0 = times_cons id.0 [] j in
        omega arith

    itself_once : times (numbers (ids_of id)) id.0 ≡ times (numbers (ids_below id)) id.0 + 1
    itself_once = let same : (id.0 == id.0) ≡ true = grind (arith, nat_tests) in own_times id.0
        ∙ ap (λ (b : Bool). times (numbers (ids_below id)) id.0 + cond b 1 0) same

    not_out : is_among out id.0 ≡ false
    not_out = absent (is_among out id.0) (λ i. let a : 1 ≤ times out id.0 = counted out id.0 i in let b = itself_once in
        let c = apart.once id.0 in absurd (omega arith))

    in_slot : id.0 < length fs
    in_slot = apart.there id.0 (let b = itself_once in omega arith)

    apart_below : Apart fs (id.0 ∷ out) (ids_below id)
    apart_below = record {
      once = λ j.
          let o = apart.once j in
          let t = own_times j in
          let c : times (id.0 ∷ out) j ≡ cond (id.0 == j) 1 0 + times out j = times_cons id.0 out j in
          omega arith;
      there = λ j h. apart.there j (let t = own_times j in omega arith);
    }

  taken_stands : (id : FunctionId) (out : List ℕ) (env : Environment) (g : HirFunction) → Stands fs out env
      → Stands fs (id.0 ∷ out) (with_function id g env)
  taken_stands id out env g s = record {
    count = length_set env.functions id.0 g ∙ s.count;
    slots = λ k h.
        let n = neither (nat_eq k id.0) (is_among out k) h in
        let other : k ≡ id.0 → ⊥ = λ e. differs k id.0 n.0 e in
        ap created_by_slot (set_other env.functions id.0 k g other) ∙ s.slots k n.1;
  }

  back_stands : (id : FunctionId) (out : List ℕ) (env : Environment) (g : HirFunction) → id.0 < length fs
      → created_functions g ≡ created_by_slot (slice_get fs id.0) → Stands fs (id.0 ∷ out) env
      → Stands fs out (with_function id g env)
  back_stands id out env g there creates s = record {
    count = length_set env.functions id.0 g ∙ s.count;
    slots = λ k h.
        elim (nat_eq k id.0) as (λ b. nat_eq k id.0 ≡ b → created_by_slot (slice_get (slice_set env.functions id.0 g) k)
        ≡ created_by_slot (slice_get fs k)) [
          | true ↦ λ e. let same : k ≡ id.0 = eqb-true k id.0 e in
              subst (λ z. created_by_slot (slice_get (slice_set env.functions id.0 g) z)
              ≡ created_by_slot (slice_get fs z)) (sym same)
              (ap created_by_slot (put env.functions id.0 (let c = s.count in omega arith)) ∙ creates)
          | false ↦ λ e. ap created_by_slot (set_other env.functions id.0 k g (λ same. differs k id.0 e same))
              ∙ s.slots k (both_false (nat_eq k id.0) (is_among out k) e h)
        ] refl;
  }
    where
      put : (xs : List HirFunction) (k : ℕ) → k < length xs → slice_get (slice_set xs k g) k ≡ Some g
      put [] k h = absurd (omega arith)
      put (x ∷ xs) zero h = refl
      put (x ∷ xs) (suc k) h = put xs k (omega arith)

-- ---- the order

-- following what is below goes over the functions in an order
abbrev pub GoesOver : List HirFunction → (HirFunction → Following → Result Following CheckFault)
    → (List FunctionId → List FunctionId) → Type 0
GoesOver fs below ordered = (f : HirFunction) (out : List ℕ) (a b : Following) → Stands fs out a.env
    → Apart fs out (ordered (created_functions f)) → below f a ≡ Ok b → Done fs out a b (ordered (created_functions f))

module _ (given : List CertFunction) (fs : List HirFunction) (n : ℕ)
    (below_goes : GoesOver fs (below_followed given n) (innermost_first n fs)) where
  found_done : (id : FunctionId) (out : List ℕ) (a b : Following) (o : Option HirFunction) → Stands fs out a.env
      → Apart fs out (ids_of fs n id) → slice_get a.env.functions id.0 ≡ o
      → found_followed given (below_followed given n) id a o ≡ Ok b
      → Done fs out a b (ids_of fs n id)
  found_done id out a b None st apart h g =
      let c = st.count in
      let below : id.0 < length fs = in_slot fs n id out apart in
      absurd (none_there a.env.functions id.0 (omega arith) h)
  found_done id out a b (Some f) st apart h g =
      let a0 : Following = record a { env = with_function id (emptied f.returns) a.env } in
      let w = went (taken_followed given (below_followed given n) id f a0)
      (λ (s : HirFunction × Following). Ok (put_back id s)) b g in
      let s : HirFunction × Following = w.0 in
      let is : put_back id s ≡ b = cc in
      let v = went (below_followed given n f a0) (nested_followed given id f) s w.1 in
      let a1 : Following = v.0 in
      let same : created_functions f ≡ created_by_slot (slice_get fs id.0) = sym (ap created_by_slot h)
      ∙ st.slots id.0 (not_out fs n id out apart) in
      let first : Done fs (id.0 ∷ out) a0 a1 (innermost_first n fs (created_functions f))
      = below_goes f (id.0 ∷ out) a0 a1 (taken_stands fs n id out a.env (emptied f.returns) st)
      (subst (λ ids. Apart fs (id.0 ∷ out) (innermost_first n fs ids)) (sym same) (apart_below fs n id out apart))
      v.1 in
      let after : Finished id f a1 s.0 s.1 = function_finished given id f a1 s v.2 in
      let names : done s.1 ≡ done a ++ map Some (ids_of fs n id)
      = after.functions ∙ ap (λ xs. xs ++ Some id ∷ [])
      (first.functions ∙ ap (λ ids. done a ++ map Some (innermost_first n fs ids)) same)
      ∙ append_assoc (done a) (map Some (ids_below fs n id)) (Some id ∷ [])
      ∙ ap (λ xs. done a ++ xs) (sym (map-append (λ (id : FunctionId). Some id) (ids_below fs n id) (id ∷ []))) in
      let stands : Stands fs out (with_function id s.0 s.1.env)
      = back_stands fs n id out s.1.env s.0 (in_slot fs n id out apart) (after.creates ∙ same)
      (stands_alike fs (id.0 ∷ out) a1.env s.1.env after.contexts first.stands) in
      subst (λ (z : Following). Done fs out a z (ids_of fs n id)) is (record { functions = names; stands = stands })

  each_done : (ids : List FunctionId) (out : List ℕ) (a b : Following) → Stands fs out a.env
      → Apart fs out (flat_map (ids_of fs n) ids) → each (slot_followed given (below_followed given n)) ids a ≡ Ok b
      → Done fs out a b (flat_map (ids_of fs n) ids)
  each_done [] out a b st apart h =
      let is : a ≡ b = cc in
      subst (λ (z : Following). Done fs out a z []) is (record { functions = sym (append-nil (done a)); stands = st })
  each_done (id ∷ ids) out a b st apart h =
      let w = went (slot_followed given (below_followed given n) id a)
      (each (slot_followed given (below_followed given n)) ids) b h in
      let a1 : Following = w.0 in
      let first : Done fs out a a1 (ids_of fs n id) =
      found_done id out a a1 (slice_get a.env.functions id.0) st
      (apart_first fs out (ids_of fs n id) (flat_map (ids_of fs n) ids) apart) refl w.1 in
      let rest : Done fs out a1 b (flat_map (ids_of fs n) ids) =
      each_done ids out a1 b first.stands (apart_rest fs out (ids_of fs n id) (flat_map (ids_of fs n) ids) apart)
      w.2 in
      record {
        functions =
            rest.functions ∙ ap (λ xs. xs ++ map Some (flat_map (ids_of fs n) ids)) first.functions
            ∙ append_assoc (done a) (map Some (ids_of fs n id)) (map Some (flat_map (ids_of fs n) ids))
            ∙ ap (λ xs. done a ++ xs) (sym (map-append (λ (id : FunctionId). Some id) (ids_of fs n id)
            (flat_map (ids_of fs n) ids)));
        stands = rest.stands;
      }

-- following the functions on n levels goes over them in the order that is stated
pub goes_over : (given : List CertFunction) (fs : List HirFunction) (n : ℕ)
    → GoesOver fs (below_followed given n) (innermost_first n fs)
unfolding below_followed innermost_first
goes_over given fs zero f out a b st apart h =
    let is : a ≡ b = cc in
    subst (λ (z : Following). Done fs out a z []) is (record { functions = sym (append-nil (done a)); stands = st })
goes_over given fs (suc n) f out a b st apart h =
    each_done given fs n (goes_over given fs n) (created_functions f) out a b st apart h
