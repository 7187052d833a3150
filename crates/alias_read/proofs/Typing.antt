-- How the type at the key `return_type` is read, and that it nests less deep.
use Rattle.std.proofs.Common.{refl, ap, sym, subst, ◌∙◌, ◌≡◌, ◌<◌, ◌≤◌, ℕ, max, List, arith}
use Rattle.std.specs.Prelude.{Result, Ok, Err, IsErrAnd, Option, Some, None, ⊤, codes}
use Rattle.std.specs.Ordering.{nat_cmp, match_ordering}
use Rattle.std.specs.declared.cmp.Ordering.{Ordering}
use Rattle.std.specs.declared.cmp.Ordering.TheVariants.{Less, Equal, Greater}
use Rattle.std.specs.Cmp.Lexicographic.{slice_cmp}
use Rattle.alias_base.specs.Answer.{◌>>=◌, Gives}
use Rattle.serde_json.specs.Data.{Data, null, boolean, number, string, array, object, Members, no_members, member}
use Rattle.serde_json.specs.Data.{depth, members_depth}
use Rattle.serde_json.specs.Find.{get, get_member}
use Rattle.alias_hir.specs.declared.types.Ty.{Ty}
use Rattle.alias_json.specs.Pointer.{at_key}
use Rattle.alias_json.specs.Fault.{is_memory, refusal}
use Rattle.alias_json.specs.Reading.{object_at, text_at}
use Rattle.alias_json.specs.Names.{named_at}
use Rattle.alias_json.specs.declared.fault.ValueFault.{ValueFault}
use Rattle.alias_json.specs.declared.fault.TextRule.TheVariants.{Missing}
use Rattle.alias_read.specs.Json.{if_there, required, optional}
use Rattle.alias_read.specs.Types.{type_names, function_type_of, type_at, type_of_kind, type_with, return_type_in}
use Rattle.alias_read.specs.declared.type_kinds.TypeKind.{TypeKind}
use Rattle.alias_read.specs.declared.type_kinds.TypeKind.TheVariants.{Function}
use Rattle.alias_read.proofs.EntrySteps.{gives_same}

by_order : (o : Ordering) (q : List ℕ) (d : Data) (r : Result Ty ValueFault) (f : Option Data) → r
    ≡ if_there type_at q f
    → match_ordering o r (type_at q d) r ≡ if_there type_at q (match_ordering o f (Some d) f)
by_order Less q d r f e = e
by_order Equal q d r f e = refl
by_order Greater q d r f e = e

return_type_in-get_member : (q : List ℕ) (ms : Members) → return_type_in q ms
    ≡ if_there type_at q (get_member (codes "return_type") ms)
return_type_in-get_member q no_members = refl
return_type_in-get_member q (member k d ms) =
    by_order (slice_cmp nat_cmp (codes "return_type") k) q d (return_type_in q ms) (get_member (codes "return_type") ms)
    (return_type_in-get_member q ms)

-- a type, by what is required at the key `return_type`
pub type_at_required : (p : List ℕ) (d : Data) → type_at p d
    ≡ (object_at p d >>= (λ _. type_with (required type_at p (codes "return_type") d) p d))
type_at_required p null = refl
type_at_required p (boolean b) = refl
type_at_required p (number n) = refl
type_at_required p (string s) = refl
type_at_required p (array ds) = refl
type_at_required p (object ms) = ap (λ (r : Result Ty ValueFault). type_with r p (object ms))
    (return_type_in-get_member (at_key p (codes "return_type")) ms)

deep : (o : Ordering) (rest : Option Data) (d e : Data) (m : ℕ) → (rest ≡ Some e → depth e ≤ m)
    → match_ordering o rest (Some d) rest ≡ Some e → depth e ≤ max (depth d) m
deep Less rest d e m h is = let le : depth e ≤ m = h is in omega arith
deep Equal rest d e m h is = let same : d ≡ e = cc in subst (λ (x : Data). depth x ≤ max (depth d) m) same (omega arith)
deep Greater rest d e m h is = let le : depth e ≤ m = h is in omega arith

members_depth-get_member : (k : List ℕ) (ms : Members) (e : Data) → get_member k ms ≡ Some e → depth e
    ≤ members_depth ms
members_depth-get_member k no_members e is = cc
members_depth-get_member k (member l d ms) e is =
    deep (slice_cmp nat_cmp k l) (get_member k ms) d e (members_depth ms) (members_depth-get_member k ms e) is

-- what stands at a key nests less deep
pub depth_get : (k : List ℕ) (d e : Data) → get k d ≡ Some e → depth e < depth d
depth_get k null e is = cc
depth_get k (boolean b) e is = cc
depth_get k (number n) e is = cc
depth_get k (string s) e is = cc
depth_get k (array ds) e is = cc
depth_get k (object ms) e is = let le : depth e ≤ members_depth ms = members_depth-get_member k ms e is in omega arith

module _ (p q : List ℕ) (here : q ≡ at_key p (codes "return_type")) (d : Data) (kind : TypeKind)
    (shape_id : Option (List ℕ)) (o : object_at p d ≡ Ok tt)
    (k : required (named_at type_names) p (codes "kind") d ≡ Ok kind) (is : kind ≡ Function)
    (s : optional text_at p (codes "shape_id") d ≡ Ok shape_id) where
  type_read : (found : Option Data) → found ≡ get (codes "return_type") d → type_at p d
      ≡ (if_there type_at q found >>= (λ (t : Ty). function_type_of shape_id t p d))
  type_read found g =
      type_at_required p d
      ∙ ap (λ (r : Result ⊤ ValueFault). r >>= (λ _. type_with (required type_at p (codes "return_type") d) p d)) o
      ∙ ap (λ (r : Result TypeKind ValueFault). r
      >>= (λ (x : TypeKind). type_of_kind x (required type_at p (codes "return_type") d) p d)) k
      ∙ ap (λ (x : TypeKind). type_of_kind x (required type_at p (codes "return_type") d) p d) is
      ∙ ap (λ (r : Result (Option (List ℕ)) ValueFault). r
      >>= (λ (i : Option (List ℕ)). required type_at p (codes "return_type") d
      >>= (λ (t : Ty). function_type_of i t p d))) s
      ∙ ap (λ (x : List ℕ). if_there type_at x (get (codes "return_type") d)
      >>= (λ (t : Ty). function_type_of shape_id t p d)) (sym here)
      ∙ ap (λ (f : Option Data). if_there type_at q f >>= (λ (t : Ty). function_type_of shape_id t p d)) (sym g)

  pub type_missing : None ≡ get (codes "return_type") d → (r : Result Ty ValueFault)
      → Gives {A = Ty} is_memory (refusal q Missing) r → Gives is_memory (type_at p d) r
  type_missing g r a = subst (λ (x : Result Ty ValueFault). Gives is_memory x r) (sym (type_read None g)) a

  pub type_fault : (e : Data) → Some e ≡ get (codes "return_type") d → (f : ValueFault) (r : Result Ty ValueFault)
      → IsErrAnd r (λ z. z ≡ f) → Gives {A = Ty} is_memory (type_at q e) (Err f) → Gives is_memory (type_at p d) r
  type_fault e g f r is_fault a =
      gives_same (type_at p d) r f is_fault (λ m. type_read (Some e) g
      ∙ ap (λ (x : Result Ty ValueFault). x >>= (λ (t : Ty). function_type_of shape_id t p d)) (a m))

  pub type_found : (e : Data) → Some e ≡ get (codes "return_type") d → (t : Ty) → type_at q e ≡ Ok t
      → (r : Result Ty ValueFault) → Gives is_memory (function_type_of shape_id t p d) r
      → Gives is_memory (type_at p d) r
  type_found e g t is_t r a =
      subst (λ (x : Result Ty ValueFault). Gives is_memory x r)
      (sym (type_read (Some e) g ∙ ap (λ (x : Result Ty ValueFault). x
      >>= (λ (y : Ty). function_type_of shape_id y p d)) is_t)) a
