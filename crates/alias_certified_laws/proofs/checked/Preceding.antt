-- While functions are checked, one that was checked before another stands as the check of the other one found it.
use Rattle.std.specs.Prelude.{◌≡◌, ◌⊎◌, ℕ, nat_eq, true, false, List, [], ◌∷◌, ◌++◌, Option, Some, None, Result, Ok}
use Rattle.std.specs.Prelude.{map, option_map, slice_get, refl}
use Rattle.std.proofs.Common.{zero, suc, inl, inr, ⊎_elim, ap, sym, ◌∙◌, subst}
use Rattle.std.proofs.lemmas.Bool.{eqb-true}
use Rattle.alias_base.specs.Answer.{◌>>=◌}
use Rattle.alias_base.specs.declared.ids.FunctionId.{FunctionId}
use Rattle.alias_graph.proofs.FitLaws.{went_on}
use Rattle.alias_hir.specs.declared.env.Environment.{Environment}
use Rattle.alias_hir.specs.declared.hir.HirFunction.{HirFunction}
use Rattle.alias_rules.specs.function_rules.Rules.{is_among}
use Rattle.alias_nesting_laws.specs.SlotLaws.{set_other}
use Rattle.alias_nesting_laws.specs.Slots.{with_function}
use Rattle.alias_range_pass.specs.places.Keeping.{but_context}
use Rattle.alias_nested.specs.Created.{created_functions}
use Rattle.alias_nested.specs.Order.{SameInSlot}
use Rattle.alias_nested.specs.Slots.{emptied}
use Rattle.alias_nested.proofs.Changing.{slots_stay}
use Rattle.alias_answer_laws.proofs.order.Ordering.{neither, differs, both_false}
use Rattle.alias_certificate.specs.declared.certificate.CertFunction.{CertFunction}
use Rattle.alias_certificate.specs.declared.fault.CheckFault.{CheckFault}
use Rattle.alias_certified_laws.specs.checked.Handed.{names_of, IsNamed}
use Rattle.alias_cert.specs.Functions.{CheckedFunction, Checking, checking, nested_checked}
use Rattle.alias_cert.specs.Units.{each, put_back, taken_checked, found_checked, slot_checked, below_checked}
use Rattle.alias_certified_laws.proofs.checked.Ordering.{ok_is, Finished, function_finished}

-- ---- lists

-- a function of a list that gained one more was in the list before
pub record WasThere (fs : List CheckedFunction) (y : CheckedFunction) (xs ys : List CheckedFunction)
    (x : CheckedFunction) : Type 0 where
  pub rest : List CheckedFunction
  pub all : fs ≡ xs ++ x ∷ rest
  pub behind : ys ≡ rest ++ y ∷ []

-- it is the one that the list gained
pub record IsNew (fs : List CheckedFunction) (y : CheckedFunction) (xs ys : List CheckedFunction)
    (x : CheckedFunction) : Type 0 where
  pub before : fs ≡ xs
  pub same : y ≡ x

pub new_or_there : (fs xs ys : List CheckedFunction) (x y : CheckedFunction) → fs ++ y ∷ [] ≡ xs ++ x ∷ ys
    → IsNew fs y xs ys x
    ⊎ WasThere fs y xs ys x
new_or_there [] [] ys x y h = let same : y ≡ x = cc in inl (record { before = refl; same = same })
new_or_there [] (z ∷ []) ys x y h = cc
new_or_there [] (z ∷ w ∷ xs) ys x y h = cc
new_or_there (f ∷ fs) [] ys x y h =
    let same : f ≡ x = cc in
    let rest : fs ++ y ∷ [] ≡ ys = cc in
    inr (record { rest = fs; all = ap (λ z. z ∷ fs) same; behind = sym rest })
new_or_there (f ∷ fs) (z ∷ xs) ys x y h =
    let same : f ≡ z = cc in
    let rest : fs ++ y ∷ [] ≡ xs ++ x ∷ ys = cc in
    ⊎_elim
    (λ (n : IsNew fs y xs ys x). inl (record
    { before = ap (λ zs. f ∷ zs) n.before ∙ ap (λ w. w ∷ xs) same; same = n.same }))
    (λ (t : WasThere fs y xs ys x). inr (record
    { rest = t.rest; all = ap (λ zs. f ∷ zs) t.all ∙ ap (λ w. w ∷ xs ++ x ∷ t.rest) same; behind = t.behind }))
    (new_or_there fs xs ys x y rest)

pub named_last : (id : FunctionId) (xs : List CheckedFunction) (y : CheckedFunction) → y.solved.function ≡ Some id
    → IsNamed id (xs ++ y ∷ [])
named_last id [] y e = inl (sym e)
named_last id (x ∷ xs) y e = inr (named_last id xs y e)

pub named_more : (id : FunctionId) (xs zs : List CheckedFunction) → IsNamed id xs → IsNamed id (xs ++ zs)
named_more id [] zs i = absurd i
named_more id (x ∷ xs) zs i = ⊎_elim (λ here. inl here) (λ there. inr (named_more id xs zs there)) i

-- ---- what stays

-- one that was checked before another, and isn't out or checked again, stands as the check of the other one found it
abbrev pub Stay : List ℕ → Checking → Type 0
Stay out a =
    (xs ys : List CheckedFunction) (x : CheckedFunction) (id : FunctionId) → a.functions ≡ xs ++ x ∷ ys → IsNamed id xs
    → (IsNamed id (x ∷ ys) → ⊥) → is_among out id.0 ≡ false → SameInSlot x.env a.env id.0

taken_out : (id : FunctionId) (out : List ℕ) (a : Checking) (g : HirFunction) → Stay out a
    → Stay (id.0 ∷ out) (record a { env = with_function id g a.env })
taken_out id out a g stay = λ xs ys x j split named once free.
    let n = neither (nat_eq j.0 id.0) (is_among out j.0) free in
    ap (option_map but_context) (set_other a.env.functions id.0 j.0 g (λ e. differs j.0 id.0 n.0 e))
    ∙ stay xs ys x j split named once n.1

module _ (id : FunctionId) (out : List ℕ) (a : Checking) (f : HirFunction) (s : HirFunction × Checking)
    (fin : Finished id f a s.0 s.1) where
  abbrev y : CheckedFunction
  y = fin.entry

  -- the function that was checked last is among those from any one on
  named_on : (xs ys : List CheckedFunction) (x : CheckedFunction) → a.functions ++ y ∷ [] ≡ xs ++ x ∷ ys
      → IsNamed id (x ∷ ys)
  named_on xs ys x split =
      ⊎_elim
      (λ (n : IsNew a.functions y xs ys x). inl
      (sym fin.number ∙ ap (λ (z : CheckedFunction). z.solved.function) n.same))
      (λ (t : WasThere a.functions y xs ys x).
      inr (subst (IsNamed id) (sym t.behind) (named_last id t.rest y fin.number)))
      (new_or_there a.functions xs ys x y split)

  -- the others stand as before
  others_stay : Stay (id.0 ∷ out) a → (xs ys : List CheckedFunction) (x : CheckedFunction) (j : FunctionId)
      → a.functions ++ y ∷ [] ≡ xs ++ x ∷ ys → IsNamed j xs → (IsNamed j (x ∷ ys) → ⊥)
      → is_among (id.0 ∷ out) j.0 ≡ false → SameInSlot x.env a.env j.0
  others_stay stay xs ys x j split named once free =
      ⊎_elim
      (λ (n : IsNew a.functions y xs ys x). ap (λ (e : Environment). option_map but_context (slice_get e.functions j.0))
      (sym fin.at ∙ ap (λ (z : CheckedFunction). z.env) n.same))
      (λ (t : WasThere a.functions y xs ys x).
      stay xs t.rest x j t.all named (λ again.
      once (subst (λ zs. IsNamed j (x ∷ zs)) (sym t.behind) (named_more j (x ∷ t.rest) (y ∷ []) again))) free)
      (new_or_there a.functions xs ys x y split)

  back : Stay (id.0 ∷ out) a → Stay out (put_back id s)
  back stay = λ xs ys x j whole named once free.
      let split : a.functions ++ y ∷ [] ≡ xs ++ x ∷ ys = sym fin.functions ∙ whole in
      elim (nat_eq j.0 id.0) as (λ b. nat_eq j.0 id.0 ≡ b → SameInSlot x.env (put_back id s).env j.0) [
        | true ↦ λ e. let same : j ≡ id = ap (λ k. let z : FunctionId = record { 0 = k } in z) (eqb-true j.0 id.0 e) in
            absurd (once (subst (λ z. IsNamed z (x ∷ ys)) (sym same) (named_on xs ys x split)))
        | false ↦ λ e.
            ap (option_map but_context) (set_other s.1.env.functions id.0 j.0 s.0 (λ same. differs j.0 id.0 e same))
            ∙ slots_stay a.env s.1.env fin.contexts j.0
            ∙ others_stay stay xs ys x j split named once (both_false (nat_eq j.0 id.0) (is_among out j.0) e free)
      ] refl

abbrev Keeps : (HirFunction → Checking → Result Checking CheckFault) → Type 0
Keeps below = (f : HirFunction) (out : List ℕ) (a b : Checking) → Stay out a → below f a ≡ Ok b → Stay out b

module _ (functions : List CertFunction) where
  module _ (below : HirFunction → Checking → Result Checking CheckFault) (keeps : Keeps below) where
    found_stay : (id : FunctionId) (out : List ℕ) (a b : Checking) (o : Option HirFunction) → Stay out a
        → found_checked functions below id a o ≡ Ok b → Stay out b
    found_stay id out a b None stay h = subst (Stay out) (ok_is a b h) stay
    found_stay id out a b (Some f) stay h =
        let taken : Checking = record a { env = with_function id (emptied f.returns) a.env } in
        let w = went_on (taken_checked functions below id f taken) _ b h in
        let s : HirFunction × Checking = w.0 in
        let v = went_on (below f taken) (nested_checked functions id f) s w.1 in
        let mid : Checking = v.0 in
        let first : Stay (id.0 ∷ out) mid =
        keeps f (id.0 ∷ out) taken mid (taken_out id out a (emptied f.returns) stay) v.1 in
        let fin : Finished id f mid s.0 s.1 = function_finished functions id f mid s v.2 in
        subst (Stay out) (ok_is (put_back id s) b w.2) (back id out mid f s fin first)

    each_stay : (ids : List FunctionId) (out : List ℕ) (a b : Checking) → Stay out a
        → each (slot_checked functions below) ids a ≡ Ok b → Stay out b
    each_stay [] out a b stay h = subst (Stay out) (ok_is a b h) stay
    each_stay (id ∷ ids) out a b stay h =
        let w = went_on (slot_checked functions below id a) (each (slot_checked functions below) ids) b h in
        each_stay ids out w.0 b (found_stay id out a w.0 (slice_get a.env.functions id.0) stay w.1) w.2

  -- the check of the functions on n levels
  pub checked_stay : (n : ℕ) → Keeps (below_checked functions n)
  unfolding below_checked
  checked_stay zero f out a b stay h = subst (Stay out) (ok_is a b h) stay
  checked_stay (suc n) f out a b stay h =
      each_stay (below_checked functions n) (checked_stay n) (created_functions f) out a b stay h

-- nothing is checked as it begins
pub none_stay : (env : Environment) → Stay [] (checking env [])
none_stay env = λ xs ys x id split named once free. absurd (nothing xs ys x split)
  where
    nothing : (xs ys : List CheckedFunction) (x : CheckedFunction) → [] ≡ xs ++ x ∷ ys → ⊥
    nothing [] ys x e = cc
    nothing (z ∷ xs) ys x e = cc
