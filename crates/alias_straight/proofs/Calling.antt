-- Calls, and the instructions that create a function, as they are taken off the tokens.
use Rattle.std.specs.Prelude.{Ok, codes, unwrap_or}
use Rattle.std.proofs.Common.{◌≡◌, ℕ, ◌-◌, List, [], ◌∷◌, Option, Some, refl}
use Rattle.json.specs.Token.{Token}
use Rattle.serde_json.specs.Data.{Data, object}
use Rattle.alias_hir.specs.declared.place.Place.{Place}
use Rattle.alias_hir.specs.declared.place.PlaceOrSpread.{PlaceOrSpread}
use Rattle.alias_hir.specs.declared.value.InstructionValue.{InstructionValue}
use Rattle.alias_hir.specs.declared.value.InstructionValue.TheVariants as value
use Rattle.alias_json.specs.Reading.{number_at, known_keys}
use Rattle.alias_read.specs.Json.{required, list_at, list_of}
use Rattle.alias_read.specs.Places.{place_at, argument_at}
use Rattle.alias_read.specs.declared.value_kinds.InstructionValueKind.TheVariants as of
use Rattle.alias_straight.specs.Kinds.{TakesKind}
use Rattle.alias_straight.specs.Members.{TakesMember, TakesList, Fields, members_of, IsRead}
use Rattle.alias_straight.proofs.Fielding.{goes, may_go}
use Rattle.alias_straight.proofs.Finding.{required_is, known_is}
use Rattle.alias_straight.proofs.Kinding.{kind_taken, list_of_is}
use Rattle.alias_read.specs.declared.value_kinds.FunctionKind.{FunctionKind}
use Rattle.alias_read.specs.declared.value_kinds.CallKind.{CallKind}
use Rattle.alias_read.specs.Calls.{call_with, call_at, method_call_at, function_with, function_value_at}

abbrev pub function_of : FunctionKind → ℕ → InstructionValue
function_of k func = function_with k (record { func = record { 0 = func } })

-- ---- call

call_is : (k : CallKind) (a d0 d1 : Option Data) (g_args : Option (List PlaceOrSpread)) (callee : Place)
    (args : List PlaceOrSpread) → IsRead place_at (Some callee) d0 → IsRead (list_at argument_at) g_args d1 → args
    ≡ unwrap_or g_args [] → (p : List ℕ) → call_at k p
    (object (members_of ((codes "args", d1) ∷ (codes "callee", d0) ∷ (codes "kind", a) ∷ [])))
    ≡ Ok (call_with k callee args)
call_is k a d0 d1 g_args callee args x_callee x_args s_args p =
    let fs : Fields = (codes "args", d1) ∷ (codes "callee", d0) ∷ (codes "kind", a) ∷ [] in
    let e0 : required place_at p (codes "callee") (object (members_of fs)) ≡ Ok callee =
    required_is place_at (codes "callee") fs callee d0 refl x_callee p in
    let e1 : list_of argument_at p (codes "args") (object (members_of fs)) ≡ Ok args =
    list_of_is argument_at (codes "args") fs g_args args d1 refl x_args s_args p in
    let e2 : known_keys (codes "kind" ∷ codes "callee" ∷ codes "args" ∷ []) p (object (members_of fs)) ≡ Ok tt =
    known_is (codes "kind" ∷ codes "callee" ∷ codes "args" ∷ []) fs refl p in
    rw (e0, e1, e2) refl

pub call_taken : (k : CallKind) (depth : ℕ) (ts t1 t2 rest : List Token) (callee : Place) (args : List PlaceOrSpread)
    → TakesMember place_at (depth - 1) ts (codes "callee") callee t1
    → TakesList argument_at (depth - 1) t1 (codes "args") args t2 → t2 ≡ Token.end_object ∷ rest
    → TakesKind (of.Call k) depth ts (call_with k callee args) rest
call_taken k depth ts t1 t2 rest callee args m0 m1 ends = record {
  takes = λ start tree is so_far.
      let f0 = goes place_at depth start ts t1 _ (codes "callee") callee so_far m0 in
      let f1 = may_go (list_at argument_at) depth start t1 t2 _ (codes "args") m1.list f0.opens m1.may in
      kind_taken (of.Call k) depth start t2 rest
      ((codes "args", f1.tree) ∷ (codes "callee", f0.tree) ∷ (codes "kind", tree) ∷ []) tree
      (call_with k callee args) refl is f1.opens ends
      (call_is k tree f0.tree f1.tree m1.list callee args f0.is f1.is m1.is);
}

-- ---- method_call

method_call_is : (a d0 d1 d2 : Option Data) (g_args : Option (List PlaceOrSpread)) (receiver : Place) (property : Place)
    (args : List PlaceOrSpread) → IsRead place_at (Some receiver) d0 → IsRead place_at (Some property) d1
    → IsRead (list_at argument_at) g_args d2 → args ≡ unwrap_or g_args [] → (p : List ℕ)
    → method_call_at p (object (members_of
    ((codes "args", d2) ∷ (codes "property", d1) ∷ (codes "receiver", d0) ∷ (codes "kind", a) ∷ [])))
    ≡ Ok (value.MethodCall receiver property args)
method_call_is a d0 d1 d2 g_args receiver property args x_receiver x_property x_args s_args p =
    let fs : Fields = (codes "args", d2) ∷ (codes "property", d1) ∷ (codes "receiver", d0) ∷ (codes "kind", a) ∷ [] in
    let e0 : required place_at p (codes "receiver") (object (members_of fs)) ≡ Ok receiver =
    required_is place_at (codes "receiver") fs receiver d0 refl x_receiver p in
    let e1 : required place_at p (codes "property") (object (members_of fs)) ≡ Ok property =
    required_is place_at (codes "property") fs property d1 refl x_property p in
    let e2 : list_of argument_at p (codes "args") (object (members_of fs)) ≡ Ok args =
    list_of_is argument_at (codes "args") fs g_args args d2 refl x_args s_args p in
    let e3 : known_keys (codes "kind" ∷ codes "receiver" ∷ codes "property" ∷ codes "args" ∷ []) p
    (object (members_of fs)) ≡ Ok tt = known_is
    (codes "kind" ∷ codes "receiver" ∷ codes "property" ∷ codes "args" ∷ []) fs refl p in
    rw (e0, e1, e2, e3) refl

pub method_call_taken : (depth : ℕ) (ts t1 t2 t3 rest : List Token) (receiver : Place) (property : Place)
    (args : List PlaceOrSpread) → TakesMember place_at (depth - 1) ts (codes "receiver") receiver t1
    → TakesMember place_at (depth - 1) t1 (codes "property") property t2
    → TakesList argument_at (depth - 1) t2 (codes "args") args t3 → t3 ≡ Token.end_object ∷ rest
    → TakesKind of.MethodCall depth ts (value.MethodCall receiver property args) rest
method_call_taken depth ts t1 t2 t3 rest receiver property args m0 m1 m2 ends = record {
  takes = λ start tree is so_far.
      let f0 = goes place_at depth start ts t1 _ (codes "receiver") receiver so_far m0 in
      let f1 = goes place_at depth start t1 t2 _ (codes "property") property f0.opens m1 in
      let f2 = may_go (list_at argument_at) depth start t2 t3 _ (codes "args") m2.list f1.opens m2.may in
      kind_taken of.MethodCall depth start t3 rest
      ((codes "args", f2.tree) ∷ (codes "property", f1.tree) ∷ (codes "receiver", f0.tree) ∷ (codes "kind", tree)
      ∷ []) tree (value.MethodCall receiver property args) refl is f2.opens ends
      (method_call_is tree f0.tree f1.tree f2.tree m2.list receiver property args f0.is f1.is f2.is m2.is);
}

-- ---- function

function_is : (k : FunctionKind) (a d0 : Option Data) (func : ℕ) → IsRead number_at (Some func) d0 → (p : List ℕ)
    → function_value_at k p (object (members_of ((codes "function", d0) ∷ (codes "kind", a) ∷ [])))
    ≡ Ok (function_of k func)
function_is k a d0 func x_func p =
    let fs : Fields = (codes "function", d0) ∷ (codes "kind", a) ∷ [] in
    let e0 : required number_at p (codes "function") (object (members_of fs)) ≡ Ok func =
    required_is number_at (codes "function") fs func d0 refl x_func p in
    let e1 : known_keys (codes "kind" ∷ codes "function" ∷ []) p (object (members_of fs)) ≡ Ok tt =
    known_is (codes "kind" ∷ codes "function" ∷ []) fs refl p in
    rw (e0, e1) refl

pub function_taken : (k : FunctionKind) (depth : ℕ) (ts t1 rest : List Token) (func : ℕ)
    → TakesMember number_at (depth - 1) ts (codes "function") func t1 → t1 ≡ Token.end_object ∷ rest
    → TakesKind (of.Function k) depth ts (function_of k func) rest
function_taken k depth ts t1 rest func m0 ends = record {
  takes = λ start tree is so_far.
      let f0 = goes number_at depth start ts t1 _ (codes "function") func so_far m0 in
      kind_taken (of.Function k) depth start t1 rest ((codes "function", f0.tree) ∷ (codes "kind", tree) ∷ []) tree
      (function_of k func) refl is f0.opens ends (function_is k tree f0.tree func f0.is);
}
