-- What holds of each answer that may come of a step, and the walk over the functions below a function.
use Rattle.std.specs.Prelude.{◌≡◌, ℕ, Bool, List, [], ◌∷◌, Option, Some, None, Result, Ok, Err, slice_get, refl}
use Rattle.std.proofs.Common.{zero, suc, sym, subst}
use Rattle.alias_base.specs.Answer.{◌>>=◌}
use Rattle.alias_base.specs.declared.ids.FunctionId.{FunctionId}
use Rattle.alias_hir.specs.declared.error.InferError.{InferError}
use Rattle.alias_hir.specs.declared.hir.HirFunction.{HirFunction}
use Rattle.alias_nesting_laws.specs.Slots.{with_function}
use Rattle.alias_nested.specs.Analysis.{named, naming, Analysis, each, function_analysed, taken_analysed, put_back}
use Rattle.alias_nested.specs.Analysis.{found_analysed, slot_analysed, analysed}
use Rattle.alias_nested.specs.Answers.{Answers, Only, Then, done, refused, Each, FunctionAnalysed, TakenAnalysed}
use Rattle.alias_nested.specs.Answers.{FoundAnalysed, SlotAnalysed, AnalysedWith}
use Rattle.alias_nested.specs.Created.{created_functions}
use Rattle.alias_nested.specs.Slots.{emptied}

module _ (E : InferError → Type 0) where
  -- what is answered has the property, and a refusal has its cause
  abbrev pub Meets : {A : Type 0} → (A → Type 0) → Result A InferError → Type 0
  Meets P (Ok x) = P x
  Meets P (Err e) = E e

  -- so has each answer that may come
  abbrev pub AllMeet : {A : Type 0} → (A → Type 0) → Answers A → Type 0
  AllMeet {A} P answers = (r : Result A InferError) → answers r → Meets P r

  pub meets_then : {A B : Type 0} (P : A → Type 0) (Q : B → Type 0) (r : Result A InferError)
      (g : A → Result B InferError) → Meets P r → ((x : A) → P x → Meets Q (g x)) → Meets Q (r >>= g)
  meets_then P Q (Ok x) g h k = k x h
  meets_then P Q (Err e) g h k = h

  pub meets_on : {A : Type 0} (P Q : A → Type 0) (r : Result A InferError) → ((x : A) → P x → Q x) → Meets P r
      → Meets Q r
  meets_on P Q (Ok x) f h = f x h
  meets_on P Q (Err e) f h = h

  pub meets_naming : {A : Type 0} (P : A → Type 0) (id : FunctionId) (r : Result A InferError)
      → ((x : A) → r ≡ Ok x → P x) → ((e : InferError) → r ≡ Err e → E (named id e)) → Meets P (naming id r)
  meets_naming P id (Ok x) f g = f x refl
  meets_naming P id (Err e) f g = g e refl

  pub caused_meets : {A : Type 0} (r : Result A InferError) → ((e : InferError) → r ≡ Err e → E e)
      → Meets (λ x. Unit {0}) r
  caused_meets (Ok x) h = tt
  caused_meets (Err e) h = h e refl

  pub meets_error : {A : Type 0} (P : A → Type 0) (r : Result A InferError) (e : InferError) → Meets P r → r ≡ Err e
      → E e
  meets_error P r e h q = subst (Meets P) q h

  pub only_meets : {A : Type 0} (P : A → Type 0) (stated : Result A InferError) → Meets P stated
      → AllMeet P (Only stated)
  only_meets P stated h = λ r q. subst (Meets P) q h

  then_case : {A B : Type 0} (P : A → Type 0) (Q : B → Type 0) (first : Answers A) (next : A → Answers B)
      → AllMeet P first → ((x : A) → P x → AllMeet Q (next x)) → (r : Result B InferError) → Then first next r
      → Meets Q r
  then_case P Q first next h k r (done x f n) = k x (h (Ok x) f) r n
  then_case P Q first next h k r (refused e f q) = subst (Meets Q) (sym q) (h (Err e) f)

  pub then_meets : {A B : Type 0} (P : A → Type 0) (Q : B → Type 0) (first : Answers A) (next : A → Answers B)
      → AllMeet P first → ((x : A) → P x → AllMeet Q (next x)) → AllMeet Q (Then first next)
  then_meets P Q first next h k = λ r t. then_case P Q first next h k r t

-- ---- the functions below a function, each of which is analysed so

abbrev pub One : Type 1
One = FunctionId → HirFunction → Analysis → Answers (HirFunction × Analysis)

abbrev pub Taken : One → (HirFunction → Analysis → Answers Analysis) → FunctionId → HirFunction → Analysis
    → Answers (HirFunction × Analysis)
Taken one below id f a = Then (below f a) (one id f)

abbrev pub Found : One → (HirFunction → Analysis → Answers Analysis) → FunctionId → Analysis → Option HirFunction
    → Answers Analysis
Found one below id a None = Only (Ok a)
Found one below id a (Some f) = Then (Taken one below id f
    (record a { env = with_function id (emptied f.returns) a.env })) (λ s. Only (Ok (put_back id s)))

abbrev pub InSlot : One → (HirFunction → Analysis → Answers Analysis) → FunctionId → Analysis → Answers Analysis
InSlot one below id a = Found one below id a (slice_get a.env.functions id.0)

-- those on the n levels below it, in stored order, those below each before it
unfoldable pub Below : One → ℕ → HirFunction → Analysis → Answers Analysis
Below one zero f a = Only (Ok a)
Below one (suc n) f a = Each (InSlot one (Below one n)) (created_functions f) a

-- ---- by passes of the caller

then_on : {A B : Type 0} (first other : Answers A) (next rest : A → Answers B)
    → ((r : Result A InferError) → first r → other r) → ((x : A) (r : Result B InferError) → next x r → rest x r)
    → (r : Result B InferError) → Then first next r → Then other rest r
then_on first other next rest h k r (done x f n) = done x (h (Ok x) f) (k x r n)
then_on first other next rest h k r (refused e f q) = refused e (h (Err e) f) q

each_on : {X A : Type 0} (S T : X → A → Answers A) → ((x : X) (a : A) (r : Result A InferError) → S x a r → T x a r)
    → (xs : List X) (a : A) (r : Result A InferError) → Each S xs a r → Each T xs a r
each_on S T h [] a r k = k
each_on S T h (x ∷ xs) a r k = then_on (S x a) (T x a) (Each S xs) (Each T xs) (h x a) (λ b s. each_on S T h xs b s) r k

module _ (b : Bool) (below other : HirFunction → Analysis → Answers Analysis)
    (h : (f : HirFunction) (a : Analysis) (r : Result Analysis InferError) → below f a r → other f a r) where
  found_on : (id : FunctionId) (a : Analysis) (o : Option HirFunction) (r : Result Analysis InferError)
      → FoundAnalysed b below id a o r → Found (FunctionAnalysed b) other id a o r
  found_on id a None r k = k
  found_on id a (Some f) r k =
      let out : Analysis = record a { env = with_function id (emptied f.returns) a.env } in
      then_on (TakenAnalysed b below id f out) (Taken (FunctionAnalysed b) other id f out)
      (λ s. Only (Ok (put_back id s))) (λ s. Only (Ok (put_back id s)))
      (λ q t. then_on (below f out) (other f out) (FunctionAnalysed b id f) (FunctionAnalysed b id f) (h f out)
      (λ x p l. l) q t) (λ x p l. l) r k

-- over passes that change functions within their law
pub below_with : (b : Bool) (n : ℕ) (f : HirFunction) (a : Analysis) (r : Result Analysis InferError)
    → AnalysedWith b n f a r → Below (FunctionAnalysed b) n f a r
unfolding AnalysedWith Below
below_with b zero f a r h = h
below_with b (suc n) f a r h =
    each_on (SlotAnalysed b (AnalysedWith b n)) (InSlot (FunctionAnalysed b) (Below (FunctionAnalysed b) n))
    (λ id c q k. found_on b (AnalysedWith b n) (Below (FunctionAnalysed b) n) (below_with b n) id c
    (slice_get c.env.functions id.0) q k) (created_functions f) a r h

-- ---- where they keep all

bound : {A B : Type 0} (s : Result A InferError) (g : A → Result B InferError) (first : Answers A)
    (next : A → Answers B) → ((r : Result A InferError) → s ≡ r → first r)
    → ((x : A) (r : Result B InferError) → g x ≡ r → next x r)
    → (r : Result B InferError) → (s >>= g) ≡ r → Then first next r
bound (Ok x) g first next h k r q = done x (h (Ok x) refl) (k x r q)
bound (Err e) g first next h k r q = refused e (h (Err e) refl) (sym q)

each_bound : {X A : Type 0} (step : X → A → Result A InferError) (S : X → A → Answers A)
    → ((x : X) (a : A) (r : Result A InferError) → step x a ≡ r → S x a r)
    → (xs : List X) (a : A) (r : Result A InferError) → each step xs a ≡ r → Each S xs a r
each_bound step S h [] a r q = q
each_bound step S h (x ∷ xs) a r q = bound (step x a) (each step xs) (S x a) (Each S xs) (h x a)
    (λ b s. each_bound step S h xs b s) r q

-- the answer stated
abbrev pub AsStated : One
AsStated id f a = Only (function_analysed id f a)

module _ (below : HirFunction → Analysis → Result Analysis InferError)
    (other : HirFunction → Analysis → Answers Analysis)
    (h : (f : HirFunction) (a : Analysis) (r : Result Analysis InferError) → below f a ≡ r → other f a r) where
  found_bound : (id : FunctionId) (a : Analysis) (o : Option HirFunction) (r : Result Analysis InferError)
      → found_analysed below id a o ≡ r → Found AsStated other id a o r
  found_bound id a None r q = q
  found_bound id a (Some f) r q =
      let out : Analysis = record a { env = with_function id (emptied f.returns) a.env } in
      bound (taken_analysed below id f out) (λ s. Ok (put_back id s)) (Taken AsStated other id f out)
      (λ s. Only (Ok (put_back id s)))
      (λ p t. bound (below f out) (function_analysed id f) (other f out) (AsStated id f) (h f out) (λ x l k. k) p t)
      (λ x l k. k) r q

pub below_stated : (n : ℕ) (f : HirFunction) (a : Analysis) (r : Result Analysis InferError) → analysed n f a ≡ r
    → Below AsStated n f a r
unfolding analysed Below
below_stated zero f a r q = q
below_stated (suc n) f a r q =
    each_bound (slot_analysed (analysed n)) (InSlot AsStated (Below AsStated n))
    (λ id c p k. found_bound (analysed n) (Below AsStated n) (below_stated n) id c (slice_get c.env.functions id.0)
    p k) (created_functions f) a r q
