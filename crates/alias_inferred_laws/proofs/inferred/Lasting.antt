-- What holds of a function once it is analysed, whatever the effects of its context places are, holds of it ever after.
use Rattle.std.specs.Prelude.{◌≡◌, ℕ, nat_eq, Bool, true, false, cond, List, [], ◌∷◌, ◌++◌, Option, Some, None, Result}
use Rattle.std.specs.Prelude.{Ok, map, option_map, slice_get, slice_set, refl}
use Rattle.std.proofs.Common.{zero, suc, ⊎_elim, ap, sym, ◌∙◌, subst, arith}
use Rattle.std.proofs.lemmas.Bool.{eqb-true}
use Rattle.std.proofs.lemmas.Bool.Decides.{nat_tests}
use Rattle.alias_base.specs.declared.ids.FunctionId.{FunctionId}
use Rattle.alias_hir.specs.declared.env.Environment.{Environment}
use Rattle.alias_hir.specs.declared.error.InferError.{InferError}
use Rattle.alias_hir.specs.declared.hir.HirFunction.{HirFunction}
use Rattle.alias_rules.specs.function_rules.Rules.{is_among}
use Rattle.alias_nesting_laws.specs.SlotLaws.{set_other}
use Rattle.alias_nesting_laws.specs.Slots.{with_function}
use Rattle.alias_range_pass.specs.places.Keeping.{but_context}
use Rattle.alias_graph.specs.Walks.{IsOneOf}
use Rattle.alias_nested.specs.Analysis.{Analysed, Analysis, each, function_analysed, taken_analysed, put_back}
use Rattle.alias_nested.specs.Analysis.{found_analysed, slot_analysed, analysed}
use Rattle.alias_nested.specs.Created.{created_functions}
use Rattle.alias_nested.specs.Slots.{emptied}
use Rattle.alias_nested.proofs.Changing.{slots_stay}
use Rattle.alias_answer_laws.proofs.order.Ordering.{went, neither, differs, both_false, Finished, function_finished}

-- ---- the last one of a number

abbrev pub is_numbered : FunctionId → Option FunctionId → Bool
is_numbered id None = false
is_numbered id (Some k) = nat_eq id.0 k.0

abbrev pub later : Option Analysed → Option Analysed → Option Analysed
later None o = o
later (Some x) o = Some x

abbrev pub own : FunctionId → Analysed → Option Analysed
own id x = cond (is_numbered id x.solved.function) (Some x) None

-- of the functions that were analysed the last one of that number
abbrev pub last_of : FunctionId → List Analysed → Option Analysed
last_of id [] = None
last_of id (x ∷ xs) = later (last_of id xs) (own id x)

later_none : (o : Option Analysed) → later o None ≡ o
later_none None = refl
later_none (Some x) = refl

later_assoc : (a b c : Option Analysed) → later (later a b) c ≡ later a (later b c)
later_assoc None b c = refl
later_assoc (Some x) b c = refl

last_longer : (id : FunctionId) (xs : List Analysed) (y : Analysed) → last_of id (xs ++ y ∷ [])
    ≡ later (own id y) (last_of id xs)
last_longer id [] y = sym (later_none (own id y))
last_longer id (x ∷ xs) y = ap (λ o. later o (own id x)) (last_longer id xs y)
    ∙ later_assoc (own id y) (last_of id xs) (own id x)

own_is : (id j : FunctionId) (y : Analysed) → y.solved.function ≡ Some id → own j y
    ≡ cond (nat_eq j.0 id.0) (Some y) None
own_is id j y e = ap (λ o. cond (is_numbered j o) (Some y) None) e

last_put : (id j : FunctionId) (xs : List Analysed) (y : Analysed) → y.solved.function ≡ Some id
    → last_of j (xs ++ y ∷ []) ≡ later (cond (nat_eq j.0 id.0) (Some y) None) (last_of j xs)
last_put id j xs y e = last_longer j xs y ∙ ap (λ o. later o (last_of j xs)) (own_is id j y e)

pub number_itself : (n : ℕ) → nat_eq n n ≡ true
number_itself n = grind (arith, nat_tests)

pub some_number : (id : FunctionId) (o : Option FunctionId) → Some id ≡ o → is_numbered id o ≡ true
some_number id None e = cc
some_number id (Some k) e = let same : id ≡ k = cc in
    subst (λ (z : FunctionId). nat_eq id.0 z.0 ≡ true) same (number_itself id.0)

-- where one of that number was analysed there is a last one
pub last_there : (id : FunctionId) (xs : List Analysed)
    → IsOneOf (Some id) (map (λ (x : Analysed). x.solved.function) xs) → (x : Analysed) × (last_of id xs ≡ Some x)
last_there id [] i = absurd i
last_there id (x ∷ xs) i =
    ⊎_elim
    (λ here. is_later (last_of id xs) (own id x) x
    (ap (λ b. cond b (Some x) None) (some_number id x.solved.function here)))
    (λ there. let r = last_there id xs there in (r.0, ap (λ o. later o (own id x)) r.1))
    i
  where
    is_later : (o p : Option Analysed) (x : Analysed) → p ≡ Some x → (y : Analysed) × (later o p ≡ Some y)
    is_later None p x e = (x, e)
    is_later (Some z) p x e = (z, refl)

abbrev Taken : Type 0
Taken = HirFunction × Analysis

-- a nested function is analysed, and this is the entry of its analysis
pub record Entered (id : FunctionId) (a : Analysis) (s : HirFunction × Analysis) (x : Analysed) : Type 0 where
  pub functions : s.1.functions ≡ a.functions ++ x ∷ []
  pub number : x.solved.function ≡ Some id

-- ---- what holds

module _ (Holds : Analysed → HirFunction → Type 0)
    (stays : (x : Analysed) (f g : HirFunction) → but_context g ≡ but_context f → Holds x f → Holds x g)
    (begins : (id : FunctionId) (f : HirFunction) (a : Analysis) (s : HirFunction × Analysis) → function_analysed id f a
    ≡ Ok s → (x : Analysed) × Entered id a s x × Holds x s.0) where
  abbrev pub SlotHolds : Option Analysed → Option HirFunction → Type 0
  SlotHolds None o = Unit {0}
  SlotHolds (Some x) None = Unit {0}
  SlotHolds (Some x) (Some f) = Holds x f

  -- it holds in each slot whose function isn't out
  abbrev pub AllHold : List ℕ → Analysis → Type 0
  AllHold out a = (id : FunctionId) → is_among out id.0 ≡ false
      → SlotHolds (last_of id a.functions) (slice_get a.env.functions id.0)

  -- effects of context places change nothing of it
  pub slot_holds : (l : Option Analysed) (o p : Option HirFunction) → option_map but_context p
      ≡ option_map but_context o → SlotHolds l o → SlotHolds l p
  slot_holds None o p e h = tt
  slot_holds (Some x) o None e h = tt
  slot_holds (Some x) None (Some g) e h = cc
  slot_holds (Some x) (Some f) (Some g) e h = let same : but_context g ≡ but_context f = cc in stays x f g same h

  slot_put : (x : Analysed) (xs : List HirFunction) (k : ℕ) (g : HirFunction) → Holds x g
      → SlotHolds (Some x) (slice_get (slice_set xs k g) k)
  slot_put x [] k g h = tt
  slot_put x (f ∷ fs) zero g h = h
  slot_put x (f ∷ fs) (suc k) g h = slot_put x fs k g h

  abbrev Keeps : (HirFunction → Analysis → Result Analysis InferError) → Type 0
  Keeps below = (f : HirFunction) (out : List ℕ) (a b : Analysis) → AllHold out a → below f a ≡ Ok b → AllHold out b

  module _ (below : HirFunction → Analysis → Result Analysis InferError) (keeps : Keeps below) where
    taken_out : (id : FunctionId) (out : List ℕ) (a : Analysis) (g : HirFunction) → AllHold out a
        → AllHold (id.0 ∷ out) (record a { env = with_function id g a.env })
    taken_out id out a g d = λ j h.
        let n = neither (nat_eq j.0 id.0) (is_among out j.0) h in
        subst (SlotHolds (last_of j a.functions))
        (sym (set_other a.env.functions id.0 j.0 g (λ e. differs j.0 id.0 n.0 e))) (d j n.1)

    back : (id : FunctionId) (out : List ℕ) (a : Analysis) (s : Taken) (x : Analysed) → AllHold (id.0 ∷ out) a
        → Entered id a s x → map but_context s.1.env.functions ≡ map but_context a.env.functions → Holds x s.0
        → AllHold out (put_back id s)
    back id out a s x d entered contexts own_holds = λ j h.
        subst (λ fs. SlotHolds (last_of j fs) (slice_get (slice_set s.1.env.functions id.0 s.0) j.0))
        (sym entered.functions)
        (subst (λ l. SlotHolds l (slice_get (slice_set s.1.env.functions id.0 s.0) j.0))
        (sym (last_put id j a.functions x entered.number))
        (elim (nat_eq j.0 id.0) as (λ b. nat_eq j.0 id.0 ≡ b
        → SlotHolds (later (cond b (Some x) None) (last_of j a.functions))
        (slice_get (slice_set s.1.env.functions id.0 s.0) j.0)) [
          | true ↦ λ e. subst (λ k. SlotHolds (Some x) (slice_get (slice_set s.1.env.functions id.0 s.0) k))
              (sym (eqb-true j.0 id.0 e)) (slot_put x s.1.env.functions id.0 s.0 own_holds)
          | false ↦ λ e.
              subst (SlotHolds (last_of j a.functions))
              (sym (set_other s.1.env.functions id.0 j.0 s.0 (λ same. differs j.0 id.0 e same)))
              (slot_holds (last_of j a.functions) (slice_get a.env.functions j.0) (slice_get s.1.env.functions j.0)
              (slots_stay a.env s.1.env contexts j.0) (d j (both_false (nat_eq j.0 id.0) (is_among out j.0) e h)))
        ] refl))

    found_holds : (id : FunctionId) (out : List ℕ) (a b : Analysis) (o : Option HirFunction) → AllHold out a
        → found_analysed below id a o ≡ Ok b → AllHold out b
    found_holds id out a b None d h = let is : a ≡ b = cc in subst (AllHold out) is d
    found_holds id out a b (Some f) d h =
        let taken : Analysis = record a { env = with_function id (emptied f.returns) a.env } in
        let w = went (taken_analysed below id f taken) (λ (s : Taken). Ok (put_back id s)) b h in
        let s : Taken = w.0 in
        let v = went (below f taken) (function_analysed id f) s w.1 in
        let mid : Analysis = v.0 in
        let is : put_back id s ≡ b = cc in
        let first : AllHold (id.0 ∷ out) mid =
        keeps f (id.0 ∷ out) taken mid (taken_out id out a (emptied f.returns) d) v.1 in
        let fin : Finished id f mid s.0 s.1 = function_finished id f mid s v.2 in
        let new = begins id f mid s v.2 in
        subst (AllHold out) is (back id out mid s new.0 first new.1 fin.contexts new.2)

    each_holds : (ids : List FunctionId) (out : List ℕ) (a b : Analysis) → AllHold out a
        → each (slot_analysed below) ids a ≡ Ok b → AllHold out b
    each_holds [] out a b d h = let is : a ≡ b = cc in subst (AllHold out) is d
    each_holds (id ∷ ids) out a b d h =
        let w = went (slot_analysed below id a) (each (slot_analysed below) ids) b h in
        each_holds ids out w.0 b (found_holds id out a w.0 (slice_get a.env.functions id.0) d w.1) w.2

  -- the analysis of the functions on n levels
  pub analysed_holds : (n : ℕ) → Keeps (analysed n)
  unfolding analysed
  analysed_holds zero f out a b d h = let is : a ≡ b = cc in subst (AllHold out) is d
  analysed_holds (suc n) f out a b d h = each_holds (analysed n) (analysed_holds n) (created_functions f) out a b d h

  -- nothing is analysed as it begins
  pub none_hold : (env : Environment) → AllHold [] (record { env = env; functions = [] })
  none_hold env id h = tt
