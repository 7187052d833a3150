-- Functions below a function are followed in step with their analysis, unless one of them isn't forward.
use Rattle.std.proofs.Common.{◌≡◌, ℕ, Bool, true, false, List, [], ◌∷◌, Option, Some, None, Result, Ok, Err, is_some}
use Rattle.std.proofs.Common.{zero, suc, refl, ap, sym, ◌∙◌, subst}
use Rattle.std.specs.Prelude.{slice_get}
use Rattle.alias_base.specs.Answer.{◌>>=◌}
use Rattle.alias_base.specs.Find.{value_at}
use Rattle.alias_base.specs.declared.ids.FunctionId.{FunctionId}
use Rattle.alias_hir.specs.Reports.{not_settled_report}
use Rattle.alias_hir.specs.declared.env.Environment.{Environment}
use Rattle.alias_hir.specs.declared.error.InferError.{InferError}
use Rattle.alias_hir.specs.declared.error.InferError.TheVariants.{NotSettled}
use Rattle.alias_hir.specs.declared.hir.HirFunction.{HirFunction}
use Rattle.alias_flow.specs.Solutions.{goes_forward}
use Rattle.alias_step.specs.block.Contexts.{context_of}
use Rattle.alias_effects.specs.Numbered.{numbered as as_flow}
use Rattle.alias_nested.specs.Analysis.{Analysis, each as each_analysed, function_analysed, taken_analysed, put_back}
use Rattle.alias_nested.specs.Analysis.{found_analysed, slot_analysed, analysed}
use Rattle.alias_nested.specs.Answers.{Answers, Only, Then, done, refused, Each}
use Rattle.alias_nested.specs.Created.{created_functions}
use Rattle.alias_nested.specs.Slots.{emptied}
use Rattle.alias_nesting_laws.specs.Slots.{with_function}
use Rattle.alias_certificate.specs.declared.certificate.CertFunction.{CertFunction}
use Rattle.alias_certificate.specs.declared.fault.CheckFault.{CheckFault}
use Rattle.alias_follow.specs.Functions.{Following, nested_followed}
use Rattle.alias_follow.specs.Units.{each as each_followed, put_back as put_back_followed, taken_followed}
use Rattle.alias_follow.specs.Units.{found_followed}
use Rattle.alias_follow.specs.Units.{slot_followed, below_followed}
use Rattle.alias_unit_completeness.specs.Answering.{Taken, Found, InSlot, Below}
use Rattle.alias_unit_completeness.specs.Passing.{IsUnsettled}
use Rattle.alias_forward_laws.proofs.Together.{Together, go, stop, InStep, WithFunction, nested_together}

-- ---- an analysis that is marked where a function isn't forward

-- the entry is a block, and all edges go forward
pub record IsApt (env : Environment) (g : HirFunction) : Type 0 where
  pub entry : is_some (value_at g.body.blocks g.body.entry) ≡ true
  pub forward : goes_forward (as_flow (context_of env g true)) ≡ true

-- a function is analysed, or it isn't apt and there is a mark
pub data Marked (id : FunctionId) (g : HirFunction) (a : Analysis) (r : Result (HirFunction × Analysis) InferError)
    : Type 0 where
  apt : IsApt a.env g → function_analysed id g a ≡ r → Marked id g a r
  unapt : (IsApt a.env g → ⊥) → Marked id g a r

-- a mark is an answer, or this is one, and what follows is in step with it
pub data Walked {A B : Type 0} (R : A → B → Type 0) (answers : Answers A) (r : Result A InferError)
    (s t : Result B CheckFault) : Type 0 where
  marked : (e : InferError) → IsUnsettled e → answers (Err e) → Walked R answers r s t
  walked : answers r → Together R r s t → Walked R answers r s t

module _ {A B X Y : Type 0} (R : A → B → Type 0) (Q : X → Y → Type 0) (first : Answers A) (more : A → Answers X)
    (r : Result A InferError) (s t : Result B CheckFault) (g : A → Result X InferError)
    (h k : B → Result Y CheckFault) where
  on_walked : (x : A) (y : B) → first (Ok x) → r ≡ Ok x → s ≡ Ok y → t ≡ Ok y → Walked Q (more x) (g x) (h y) (k y)
      → Walked Q (Then first more) (r >>= g) (s >>= h) (t >>= k)
  on_walked x y m is so to (marked e u n) = marked e u (done x m n)
  on_walked x y m is so to (walked n l) =
      subst (λ z. Walked Q (Then first more) (z >>= g) (s >>= h) (t >>= k)) (sym is)
      (subst (λ z. Walked Q (Then first more) (g x) (z >>= h) (t >>= k)) (sym so)
      (subst (λ z. Walked Q (Then first more) (g x) (h y) (z >>= k)) (sym to) (walked (done x m n) l)))

  walked_then : Walked R first r s t → ((x : A) (y : B) → R x y → Walked Q (more x) (g x) (h y) (k y))
      → Walked Q (Then first more) (r >>= g) (s >>= h) (t >>= k)
  walked_then (marked e u m) next = marked e u (refused e m refl)
  walked_then (walked m (go x y is so to a)) next = on_walked x y (subst first is m) is so to (next x y a)
  walked_then (walked m (stop e d is so to)) next =
      walked (refused e (subst first is m) (ap (λ z. z >>= g) is))
      (stop e d (ap (λ z. z >>= g) is) (ap (λ z. z >>= h) so) (ap (λ z. z >>= k) to))

-- ---- the walk

module _ (given other : List CertFunction) where
  one_if : (id : FunctionId) (g : HirFunction) (a : Analysis) (c : Following) → InStep a c → (t u : Bool)
      → is_some (value_at g.body.blocks g.body.entry) ≡ t → goes_forward (as_flow (context_of a.env g true)) ≡ u
      → Walked WithFunction (Marked id g a) (function_analysed id g a) (nested_followed given id g c)
      (nested_followed other id g c)
  one_if id g a c h true true entry forward =
      walked (apt (record { entry = entry; forward = forward }) refl)
      (nested_together given other id g a c h entry forward)
  one_if id g a c h false u entry forward =
      marked (NotSettled None 0 not_settled_report) tt (unapt (λ p. let no : false ≡ true = sym entry ∙ p.entry in cc))
  one_if id g a c h true false entry forward =
      marked (NotSettled None 0 not_settled_report) tt
      (unapt (λ p. let no : false ≡ true = sym forward ∙ p.forward in cc))

  one_walked : (id : FunctionId) (g : HirFunction) (a : Analysis) (c : Following) → InStep a c
      → Walked WithFunction (Marked id g a) (function_analysed id g a) (nested_followed given id g c)
      (nested_followed other id g c)
  one_walked id g a c h = one_if id g a c h (is_some (value_at g.body.blocks g.body.entry))
      (goes_forward (as_flow (context_of a.env g true))) refl refl

  abbrev Walks : ℕ → Type 0
  Walks n = (f : HirFunction) (a : Analysis) (c : Following) → InStep a c
      → Walked InStep (Below Marked n f a) (analysed n f a) (below_followed given n f c) (below_followed other n f c)

  module _ (n : ℕ) (walks : Walks n) where
    taken_walks : (id : FunctionId) (f : HirFunction) (a : Analysis) (c : Following) → InStep a c
        → Walked WithFunction (Taken Marked (Below Marked n) id f a) (taken_analysed (analysed n) id f a)
        (taken_followed given (below_followed given n) id f c) (taken_followed other (below_followed other n) id f c)
    taken_walks id f a c h =
        walked_then InStep WithFunction (Below Marked n f a) (Marked id f) (analysed n f a) (below_followed given n f c)
        (below_followed other n f c) (function_analysed id f) (nested_followed given id f) (nested_followed other id f)
        (walks f a c h) (λ x y t. one_walked id f x y t)

    -- with another function in a slot
    set_in_step : (id : FunctionId) (f g : HirFunction) (a : Analysis) (c : Following) → f ≡ g → InStep a c
        → InStep (record a { env = with_function id f a.env }) (record c { env = with_function id g c.env })
    set_in_step id f g a c same h = record {
      env = ap (λ (z : HirFunction). with_function id z a.env) same
          ∙ ap (λ (v : Environment). with_function id g v) h.env;
      solved = h.solved;
      bare = h.bare;
    }

    found_walks : (id : FunctionId) (a : Analysis) (c : Following) (o : Option HirFunction) → InStep a c
        → Walked InStep (Found Marked (Below Marked n) id a o) (found_analysed (analysed n) id a o)
        (found_followed given (below_followed given n) id c o) (found_followed other (below_followed other n) id c o)
    found_walks id a c None h = walked refl (go a c refl refl refl h)
    found_walks id a c (Some f) h =
        let out : Analysis = record a { env = with_function id (emptied f.returns) a.env } in
        let away : Following = record c { env = with_function id (emptied f.returns) c.env } in
        walked_then WithFunction InStep (Taken Marked (Below Marked n) id f out)
        (λ (s : HirFunction × Analysis). Only (Ok (put_back id s)))
        (taken_analysed (analysed n) id f out) (taken_followed given (below_followed given n) id f away)
        (taken_followed other (below_followed other n) id f away)
        (λ (s : HirFunction × Analysis). Ok (put_back id s))
        (λ (s : HirFunction × Following). Ok (put_back_followed id s))
        (λ (s : HirFunction × Following). Ok (put_back_followed id s))
        (taken_walks id f out away (set_in_step id (emptied f.returns) (emptied f.returns) a c refl h))
        (λ x y t. walked refl
        (go (put_back id x) (put_back_followed id y) refl refl refl (set_in_step id x.0 y.0 x.1 y.1 t.0 t.1)))

    slot_walks : (id : FunctionId) (a : Analysis) (c : Following) → InStep a c
        → Walked InStep (InSlot Marked (Below Marked n) id a) (slot_analysed (analysed n) id a)
        (slot_followed given (below_followed given n) id c) (slot_followed other (below_followed other n) id c)
    slot_walks id a c h =
        subst (λ (v : Environment). Walked InStep (InSlot Marked (Below Marked n) id a)
        (slot_analysed (analysed n) id a)
        (found_followed given (below_followed given n) id c (slice_get v.functions id.0))
        (found_followed other (below_followed other n) id c (slice_get v.functions id.0))) h.env
        (found_walks id a c (slice_get a.env.functions id.0) h)

    each_walks : (ids : List FunctionId) (a : Analysis) (c : Following) → InStep a c
        → Walked InStep (Each (InSlot Marked (Below Marked n)) ids a)
        (each_analysed (slot_analysed (analysed n)) ids a)
        (each_followed (slot_followed given (below_followed given n)) ids c)
        (each_followed (slot_followed other (below_followed other n)) ids c)
    each_walks [] a c h = walked refl (go a c refl refl refl h)
    each_walks (id ∷ ids) a c h =
        walked_then InStep InStep (InSlot Marked (Below Marked n) id a) (Each (InSlot Marked (Below Marked n)) ids)
        (slot_analysed (analysed n) id a) (slot_followed given (below_followed given n) id c)
        (slot_followed other (below_followed other n) id c) (each_analysed (slot_analysed (analysed n)) ids)
        (each_followed (slot_followed given (below_followed given n)) ids)
        (each_followed (slot_followed other (below_followed other n)) ids) (slot_walks id a c h)
        (λ x y t. each_walks ids x y t)

  -- the functions on n levels below a function
  pub below_walks : (n : ℕ) → Walks n
  unfolding analysed below_followed Below
  below_walks zero f a c h = walked refl (go a c refl refl refl h)
  below_walks (suc n) f a c h = each_walks n (below_walks n) (created_functions f) a c h
